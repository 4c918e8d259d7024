use Rattle.std.proofs.Common.{refl}
use Rattle.clap.specs.Words.{found_of, rows_of}
use Rattle.gf_front.specs.Table.{buchberger, bases, leading_terms, groebner_cone, weight_vector, to_polyhedral_fan, tropical_intersection}
use Rattle.gf_front.specs.Table.{fan_common_refinement, generated, saturation, interactive}
use Rattle.gf_front.proofs.JobLaws.{choices_hold}
use Rattle.gf_front.proofs.command_line.job_of.Goals as goal

pub buchberger-requires : goal.buchberger-requires
buchberger-requires c = choices_hold buchberger (c.args.name.now, rows_of (found_of c.args.found.now)) refl c.requires c.in-text.is

pub bases-requires : goal.bases-requires
bases-requires c = choices_hold bases (c.args.name.now, rows_of (found_of c.args.found.now)) refl c.requires c.in-text-2.is

pub leading_terms-requires : goal.leading_terms-requires
leading_terms-requires c = choices_hold leading_terms (c.args.name.now, rows_of (found_of c.args.found.now)) refl c.requires c.in-text-3.is

pub groebner_cone-requires : goal.groebner_cone-requires
groebner_cone-requires c = choices_hold groebner_cone (c.args.name.now, rows_of (found_of c.args.found.now)) refl c.requires c.in-text-4.is

pub weight_vector-requires : goal.weight_vector-requires
weight_vector-requires c = choices_hold weight_vector (c.args.name.now, rows_of (found_of c.args.found.now)) refl c.requires c.in-text-5.is

pub to_polyhedral_fan-requires : goal.to_polyhedral_fan-requires
to_polyhedral_fan-requires c = choices_hold to_polyhedral_fan (c.args.name.now, rows_of (found_of c.args.found.now)) refl c.requires c.in-text-6.is

pub tropical_intersection-requires : goal.tropical_intersection-requires
tropical_intersection-requires c = choices_hold tropical_intersection (c.args.name.now, rows_of (found_of c.args.found.now)) refl c.requires c.in-text-7.is

pub fan_common_refinement-requires : goal.fan_common_refinement-requires
fan_common_refinement-requires c = choices_hold fan_common_refinement (c.args.name.now, rows_of (found_of c.args.found.now)) refl c.requires c.in-text-8.is

pub generated-requires : goal.generated-requires
generated-requires c = choices_hold generated (c.args.name.now, rows_of (found_of c.args.found.now)) refl c.requires c.in-text-9.is

pub saturation-requires : goal.saturation-requires
saturation-requires c = choices_hold saturation (c.args.name.now, rows_of (found_of c.args.found.now)) refl c.requires c.in-text-10.is

pub interactive-requires : goal.interactive-requires
interactive-requires c = choices_hold interactive (c.args.name.now, rows_of (found_of c.args.found.now)) refl c.requires c.in-text-11.is
