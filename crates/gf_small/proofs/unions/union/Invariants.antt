use Rattle.gf_text.specs.SetLists.{sets_in}
use Rattle.gf_small.specs.Keys.{AreKeyed}
use Rattle.gf_small.proofs.UnionsLaws.{UnitedSoFar}
use Rattle.gf_small.proofs.unions.union.Given as goal

abbrev pub invariant-sets : goal.invariant-sets
invariant-sets l = UnitedSoFar (sets_in l.sets) l.kept.items l.i × AreKeyed l.kept.items l.keys.keys
