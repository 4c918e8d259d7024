use Rattle.std.proofs.Common.{◌∙◌}
use Rattle.clap.specs.Words.{found_of}
use Rattle.clap.proofs.WalkLemmas.{first_value-rows}
use Rattle.gf_front.proofs.OptionLaws.{no_text, some_text}
use Rattle.gf_front.proofs.command_line.name_where.Goals as goal

pub returns-in-None : goal.returns-in-None
returns-in-None c = no_text _ c.get_str.result (c.get_str.ensures ∙ first_value-rows (found_of c.args.found.now) c.args.id.now) c.in-None.is

pub returns-in_ok-name-in-Some : goal.returns-in_ok-name-in-Some
returns-in_ok-name-in-Some c = some_text _ c.get_str.result c.in-Some.text c.in_ok-name-in-Some.name
    (c.get_str.ensures ∙ first_value-rows (found_of c.args.found.now) c.args.id.now) c.in-Some.is c.in_ok-name-in-Some.ensures
