use Rattle.std.proofs.Common.{◌≡◌, take, false}
use Rattle.clap.specs.Words.{shape_of}
use Rattle.clap.specs.declared.builder.command.Command.TheViews.{out-Command as fields_of}
use Rattle.gf_front.specs.Table.{shape_with}
use Rattle.gf_front.specs.Choices.{choices_of}
use Rattle.gf_front.proofs.table.command.Given as goal

-- the command has the options so far
abbrev pub invariant-loop-id : goal.invariant-loop-id
invariant-loop-id l = (shape_of l.command ≡ shape_with l.name (choices_of (take l.id-index l.options))) × ((fields_of l.command).has_globals ≡ false)
