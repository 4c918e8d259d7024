use Rattle.std.proofs.Common.{◌≡◌, ◌≤◌, ◌-◌, length}
use Rattle.gf_text.specs.Machine.{run}
use Rattle.gf_text.specs.Tokens.{lexemes, word_more}
use Rattle.gf_text.specs.VectorText.{vector_step, vector_at}
use Rattle.gf_text.proofs.vector_reader.entries_from.Given as goal

abbrev pub invariant-loop-start : goal.invariant-loop-start
invariant-loop-start l = record {
  within : l.at ≤ length l.source;
  forward : l.from ≤ l.at;
  same : run vector_step (l.place, l.entries.items) (length l.source) (lexemes word_more l.source l.at) ≡ vector_at l.source l.from;
}

abbrev pub decreases-loop-start : goal.decreases-loop-start
decreases-loop-start l = length l.source - l.at
