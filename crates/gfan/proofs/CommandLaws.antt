-- The command of each job is lawful.
-- To cite: lawful, plain_source, plain_once.
use Rattle.std.specs.Prelude.{◌≡◌, [], ◌∷◌, length}
use Rattle.std.proofs.Common.{refl, subst}
use Rattle.gf_front.specs.declared.command_line.Job.{Job}
use Rattle.gf_front.specs.declared.command_line.Job.TheVariants as jobs
use Rattle.gf_front.specs.declared.plain.PlainCommand.{PlainCommand}
use Rattle.gf_front.specs.declared.plain.PlainCommand.TheVariants as plains
use Rattle.gf_items.specs.Refusals.{IsOfTest}
use Rattle.gf_frame.specs.Loading.{Origin}
use Rattle.gf_frame.specs.Commands.{WritesOnce}
use Rattle.gf_frame.proofs.CommandLaws.{IsLawful}
use Rattle.gf_frame.proofs.SoundLaws.{untested, sound_lawful}
use Rattle.gfan_common.specs.Forms.{generators_of}
use Rattle.gfan_plain_theory.specs.Buchberger.{buchberger_command}
use Rattle.gfan_plain_theory.specs.Marked.{marked_command}
use Rattle.gfan_plain_theory.specs.Containment.{containment_command}
use Rattle.gfan_plain_theory.specs.MarkPolynomialSet.{mark_polynomial_set_command}
use Rattle.gfan_plain_theory.specs.InitialForms.{initial_forms_command}
use Rattle.gfan_plain_theory.specs.Homogenize.{homogenize_command}
use Rattle.gfan_plain_theory.specs.PolynomialSetUnion.{polynomial_set_union_command}
use Rattle.gfan_plain_theory.specs.Stats.{stats_command}
use Rattle.gfan_plain_theory.specs.ToPolyhedralFan.{to_polyhedral_fan_command}
use Rattle.gfan_plain_theory.specs.HomogeneitySpace.{nonzero_of, homogeneity_space_command}
use Rattle.gfan_plain_theory.specs.TropicalFan.{TropicalFan}
use Rattle.gfan_plain_theory.specs.TropicalFan.TheVariants as fans
use Rattle.gfan_plain_theory.specs.Tropical.{tropical_command}
use Rattle.gfan_plain_theory.specs.MigrateFan.{migrate_fan_command}
use Rattle.gfan.specs.Commands.{plain_command, command_of, ReadsInputAlone}
use Rattle.gfan_common.proofs.CheckedSetLaws.{check_not_listed, test_cause_untested}
use Rattle.gfan_plain_theory.proofs.WeightVectorLaws.{weight_lawful, weight_source}
use Rattle.gfan_plain_theory.proofs.GroebnerConeLaws.{cone_lawful, cone_source}
use Rattle.gfan_plain_theory.proofs.ToPolyhedralFanLaws.{to_polyhedral_fan_exact, to_polyhedral_fan_tested, no_fan_not_listed}
use Rattle.gfan_plain_theory.proofs.HomogeneitySpaceLaws.{homogeneity_space_exact, homogeneity_space_tested, no_space_not_listed}
use Rattle.gfan_plain_theory.proofs.TropicalLaws.{tropical_exact, tropical_tested, tropical_not_listed}
use Rattle.gfan_plain_theory.proofs.BasisTestLaws.{intersection_lawful, intersection_source}
use Rattle.gfan_plain_theory.proofs.ToolLaws.{mark_polynomial_set_exact, initial_forms_exact, homogenize_exact, polynomial_set_union_exact, stats_exact}
use Rattle.gfan_plain_theory.proofs.ToolLaws.{homogenize_not_listed, homogenize_untested}
use Rattle.gfan_common.proofs.CauseLaws.{gordan_not_listed, gordan_untested, basis_not_listed, basis_untested, memory_untested}
use Rattle.gfan_plain_theory.proofs.ExactLaws.{buchberger_exact, marked_exact, containment_exact, leading_lawful, leading_source, containment_tested}
use Rattle.gfan_plain_theory.proofs.ListCommandLaws.{bases_lawful}
use Rattle.gfan_plain_theory.proofs.CommonRefinementLaws.{refinement_lawful}
use Rattle.gfan_plain_theory.proofs.MigrateFanLaws.{migrate_fan_exact, migrate_fan_tested, migration_not_listed}
use Rattle.gfan_plain_theory.proofs.SummaryLaws.{generated_lawful}
use Rattle.gfan_plain_theory.proofs.SaturationLaws.{saturation_lawful}
use Rattle.gfan_interactive.proofs.InteractiveLaws.{interactive_lawful}

tropical_lawful : (which : TropicalFan) → IsLawful (tropical_command which)
tropical_lawful which = sound_lawful (tropical_command which) (tropical_exact which) (tropical_tested which) (λ h. h) (λ t. t)
    (λ a m w. tropical_not_listed which (length a.0) (generators_of a.1.0) m w)

plain_lawful : (k : PlainCommand) → IsLawful (plain_command k)
plain_lawful plains.IsMarkedGroebnerBasis = sound_lawful marked_command marked_exact (untested marked_command (λ v r t h. test_cause_untested v.1 r t h))
    (λ h. h) (λ t. t) (λ a m w. check_not_listed w.0 m w.1)
plain_lawful plains.DoesIdealContain = sound_lawful containment_command containment_exact containment_tested (λ h. h) (λ t. t)
    (λ a m w. check_not_listed w.0 m w.1)
plain_lawful plains.MarkPolynomialSet =
    sound_lawful mark_polynomial_set_command mark_polynomial_set_exact (untested mark_polynomial_set_command (λ v r t h. memory_untested r t h)) (λ h. h)
    (λ t. t) (λ a m w. cc)
plain_lawful plains.InitialForms = sound_lawful initial_forms_command initial_forms_exact (untested initial_forms_command (λ v r t h. memory_untested r t h))
    (λ h. h) (λ t. t) (λ a m w. cc)
plain_lawful plains.Homogenize =
    sound_lawful homogenize_command homogenize_exact (untested homogenize_command (λ v r t h. homogenize_untested v.1.0 r t h)) (λ h. h) (λ t. t)
    (λ a m w. homogenize_not_listed a.1.0 m w)
plain_lawful plains.PolynomialSetUnion =
    sound_lawful polynomial_set_union_command polynomial_set_union_exact (untested polynomial_set_union_command (λ v r t h. memory_untested r t h)) (λ h. h)
    (λ t. t) (λ a m w. cc)
plain_lawful plains.Stats = sound_lawful stats_command stats_exact (untested stats_command (λ v r t h. gordan_untested h.0 (subst IsOfTest h.1 t))) (λ h. h)
    (λ t. t) (λ a m w. gordan_not_listed w.0 m w.1)
plain_lawful plains.HomogeneitySpace =
    sound_lawful homogeneity_space_command homogeneity_space_exact homogeneity_space_tested (λ h. h) (λ t. t)
    (λ a m w. no_space_not_listed (length a.0) (nonzero_of a.1.0) m w)
plain_lawful plains.TropicalHypersurface = tropical_lawful fans.Hypersurface
plain_lawful plains.MinkowskiSum = tropical_lawful fans.MinkowskiSum
plain_lawful plains.MigrateFan = sound_lawful migrate_fan_command migrate_fan_exact migrate_fan_tested (λ h. h) (λ t. t)
    (λ source m w. migration_not_listed source m w)

pub lawful : (job : Job) → IsLawful (command_of job)
lawful (jobs.Plain k) = plain_lawful k
lawful (jobs.Buchberger o) =
    let c = buchberger_command o in
    sound_lawful c (buchberger_exact o) (untested c (λ v r t h. basis_untested h.0 (subst IsOfTest h.1 t))) (λ h. h) (λ t. t)
    (λ a m w. basis_not_listed w.0 m w.1)
lawful (jobs.Bases o) = bases_lawful o
lawful (jobs.LeadingTerms o) = leading_lawful o
lawful (jobs.WeightVector o) = weight_lawful o
lawful (jobs.GroebnerCone o) = cone_lawful o
lawful (jobs.ToPolyhedralFan o) =
    sound_lawful (to_polyhedral_fan_command o) (to_polyhedral_fan_exact o) (to_polyhedral_fan_tested o) (λ h. h) (λ t. t)
    (λ a m w. no_fan_not_listed o.restrict (length a.0) a.1 m w)
lawful (jobs.TropicalIntersection o) = intersection_lawful o
lawful (jobs.FanCommonRefinement o) = refinement_lawful o.first o.second
lawful (jobs.Generated o) = generated_lawful o
lawful (jobs.Saturation o) = saturation_lawful o
lawful (jobs.Interactive o) = interactive_lawful o.file o.pairs

-- ---- a command without options

pub plain_source : (k : PlainCommand) → (plain_command k).reads ≡ Origin.the_input ∷ []
plain_source plains.Stats = refl
plain_source _ = refl

pub plain_once : (k : PlainCommand) → WritesOnce (plain_command k).writing
plain_once plains.Stats = tt
plain_once _ = tt
