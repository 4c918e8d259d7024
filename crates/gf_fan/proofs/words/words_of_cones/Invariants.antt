use Rattle.std.proofs.Common.{get_or}
use Rattle.gf_rays.specs.Cones.{RowsAndRays}
use Rattle.gf_fan.specs.declared.words.ConeWords.{ConeWords}
use Rattle.gf_fan.specs.Signs.{AreEach}
use Rattle.gf_fan.specs.Words.{AreWordsOfCone}
use Rattle.gf_fan.proofs.words.words_of_cones.Given as goal

abbrev pub invariant-loop-c : goal.invariant-loop-c
invariant-loop-c l = AreEach (λ k (z : ConeWords). (d : RowsAndRays) → AreWordsOfCone l.numbering l.known.items (get_or l.cones k d) z) l.c-index l.out.items
