use Rattle.std.proofs.Common.{◌≡◌, take, false, map}
use Rattle.std.specs.List.{fold}
use Rattle.clap.specs.Words.{app_of, with_subcommand}
use Rattle.clap.specs.declared.builder.command.Command.TheViews.{out-Command as fields_of}
use Rattle.gf_front.specs.Choices.{plain_shape}
use Rattle.gf_front.proofs.table.with_plain.Given as goal

-- the program has the commands so far
abbrev pub invariant-loop-name : goal.invariant-loop-name
invariant-loop-name l =
    (app_of l.program ≡ fold with_subcommand (app_of l.initial.program) (map plain_shape (take l.name-index l.commands))) ×
    ((fields_of l.program).has_globals ≡ false)
