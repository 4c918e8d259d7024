use Rattle.std.proofs.Common.{◌∙◌}
use Rattle.clap.specs.Words.{found_of}
use Rattle.clap.proofs.WalkLemmas.{first_value-rows}
use Rattle.gf_front.proofs.OptionLaws.{text_some, text_read}
use Rattle.gf_front.proofs.command_line.text.Goals as goal

pub unwrap-requires : goal.unwrap-requires
unwrap-requires c = text_some _ c.get_str.result (c.get_str.ensures ∙ first_value-rows (found_of c.args.found.now) c.args.id.now) c.requires

pub returns : goal.returns
returns c =
    text_read _ c.get_str.result c.unwrap.result (c.get_str.ensures ∙ first_value-rows (found_of c.args.found.now) c.args.id.now) c.unwrap.ensures
