use Rattle.std.proofs.Common.{◌∙◌}
use Rattle.clap.specs.Words.{found_of}
use Rattle.clap.proofs.WalkLemmas.{one_text-rows}
use Rattle.gf_front.proofs.OptionLaws.{number_there}
use Rattle.gf_front.proofs.command_line.number_where.Goals as goal

pub returns : goal.returns
returns c =
    let same = one_text-rows (found_of c.args.found.now) c.args.id.now in
    number_there _ c.get_one.result (λ e. c.get_one.ensures.none (same ∙ e)) (λ text e. c.get_one.ensures.value text (same ∙ e)) c.requires
