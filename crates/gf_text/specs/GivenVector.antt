-- What the reader of vectors did, against the machine of vectors.
use Rattle.std.specs.Prelude.{List, ℤ}
use Rattle.gf_text.specs.Machine.{go, done, halt}
use Rattle.gf_text.specs.VectorText.{VectorMove}
use Rattle.gf_text.specs.declared.vector_reader.VectorStep.{VectorStep}
use Rattle.gf_text.specs.declared.vector_reader.VectorStep.TheVariants as steps

-- a step of the code, with the entries behind it, as a move
abbrev pub vector_move : VectorStep → List ℤ → VectorMove
vector_move (steps.Go place) zs = go (place, zs)
vector_move steps.Done zs = done zs
vector_move (steps.Halt cause) zs = halt cause
