-- Commands and their options as the code lists them.
use Rattle.std.specs.Prelude.{List, [], map}
use Rattle.std.specs.Borrow.{Bor}
use Rattle.clap.specs.Words.{Shape, Text}
use Rattle.gf_front.specs.declared.choice.Choice.{Choice}
use Rattle.gf_front.specs.declared.plain.PlainCommand.{PlainCommand}
use Rattle.gf_front.specs.Table.{shape_with}

-- options with their names
abbrev pub named_choice : Bor Text × Choice → Text × Choice
named_choice o = (o.0.now, o.1)

-- so with each of them
abbrev pub choices_of : List (Bor Text × Choice) → List (Text × Choice)
choices_of = map named_choice

-- a command with its options
abbrev pub listed_shape : Bor Text × Bor (List (Bor Text × Choice)) → Shape
listed_shape c = shape_with c.0.now (choices_of c.1.now)

-- one without options
abbrev pub as_named : Bor Text × PlainCommand → Text × PlainCommand
as_named c = (c.0.now, c.1)

-- a command without options, as clap has it
abbrev pub plain_shape : Bor Text × PlainCommand → Shape
plain_shape c = shape_with c.0.now []
