use Rattle.std.proofs.Common.{◌≡◌, ◌≤◌, ◌-◌, [], length}
use Rattle.gf_text.specs.ListText.{inside}
use Rattle.gf_text.specs.VectorLists.{vectors_from, vectors_inside}
use Rattle.gf_text.specs.declared.vector_reader.VectorPlace.TheVariants.{Parenthesis}
use Rattle.gf_text.proofs.vector_reader.items_from.Given as goal

abbrev pub invariant-loop-vectors : goal.invariant-loop-vectors
invariant-loop-vectors l = record {
  within : l.at ≤ length l.source;
  same : vectors_from (inside (Parenthesis, []), l.vectors.items) l.source l.at ≡ vectors_from vectors_inside l.source l.from;
}

abbrev pub decreases-loop-vectors : goal.decreases-loop-vectors
decreases-loop-vectors l = length l.source - l.at
