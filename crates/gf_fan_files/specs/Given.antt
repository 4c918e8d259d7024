-- What a reader did, against what its machine does.
use Rattle.std.specs.Prelude.{ℕ, ℤ, List}
use Rattle.gf_text.specs.Machine.{Move, go, done, halt}
use Rattle.gf_fan_files.specs.declared.rows.RowStep.{RowStep}
use Rattle.gf_fan_files.specs.declared.rows.RowStep.TheVariants as row_steps
use Rattle.gf_fan_files.specs.declared.cones.ListPlace.{ListPlace}
use Rattle.gf_fan_files.specs.declared.cones.ListPlace.TheVariants as list_places
use Rattle.gf_fan_files.specs.declared.cones.ConeStep.{ConeStep}
use Rattle.gf_fan_files.specs.declared.cones.ConeStep.TheVariants as cone_steps
use Rattle.gf_fan_files.specs.declared.numbers.NumberStep.{NumberStep}
use Rattle.gf_fan_files.specs.declared.numbers.NumberStep.TheVariants as number_steps
use Rattle.gf_fan_files.specs.declared.numbers.NumberState.{NumberState}
use Rattle.gf_fan_files.specs.Refused.{cause_of}
use Rattle.gf_fan_files.specs.RowText.{RowMove, row_state}
use Rattle.gf_fan_files.specs.ConeText.{ConeState, ConeMove, before, inside, closed}

-- a step of the code, with these rows and entries behind it, as a move
abbrev pub row_move : RowStep → List (List ℤ) → List ℤ → RowMove
row_move (row_steps.Go minus) rs zs = go (row_state rs zs minus)
row_move row_steps.Done rs zs = done rs
row_move (row_steps.Halt reason) rs zs = halt (cause_of reason)

-- lists and the numbers of the next one, at a place of the code, as a state
abbrev pub cone_state : ListPlace → List (List ℕ) → List ℕ → ConeState
cone_state list_places.Before cs ns = (cs, before)
cone_state list_places.Inside cs ns = (cs, inside ns)
cone_state list_places.Closed cs ns = (cs, closed ns)

-- a step of the code, with these behind it, as a move
abbrev pub cone_move : ConeStep → List (List ℕ) → List ℕ → ConeMove
cone_move (cone_steps.Go place) cs ns = go (cone_state place cs ns)
cone_move cone_steps.Done cs ns = done cs
cone_move (cone_steps.Halt reason) cs ns = halt (cause_of reason)

-- a step of the code as a move
abbrev pub number_move : NumberStep → Move NumberState ℕ
number_move (number_steps.Go state) = go state
number_move (number_steps.Done n) = done n
number_move (number_steps.Halt reason) = halt (cause_of reason)
