-- What the reader of sets did, against the machine of sets.
use Rattle.gf_text.specs.Machine.{go, done, halt}
use Rattle.gf_text.specs.SetText.{SetMove}
use Rattle.gf_text.specs.declared.set_reader.Part.{Part}
use Rattle.gf_text.specs.declared.set_reader.SetStep.{SetStep}
use Rattle.gf_text.specs.declared.set_reader.SetStep.TheVariants as steps

-- a step of the code, with what was read behind it, as a move
abbrev pub set_move : SetStep → Part → SetMove
set_move (steps.Go place) p = go (place, p)
set_move steps.Done p = done p.polynomials
set_move (steps.Halt cause) p = halt cause
