use Rattle.std.proofs.Common.{List, [], get_or}
use Rattle.gf_fan.specs.declared.bits.RowBits.{RowBits}
use Rattle.gf_fan.specs.Signs.{AreEach}
use Rattle.gf_fan.specs.Words.{AreWordsOfRow}
use Rattle.gf_fan.proofs.words.words_of_rows.Given as goal

abbrev pub invariant-loop-h : goal.invariant-loop-h
invariant-loop-h l = AreEach (λ k (s : List RowBits). AreWordsOfRow l.rays (get_or l.rows k []) s) l.h-index l.out.items
