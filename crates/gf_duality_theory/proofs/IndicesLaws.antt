-- What holds of all members of a list, without one of them.
use Rattle.std.proofs.Common.{ℕ, ◌+◌, ◌<◌, List, length, arith, sym, subst, remove, All}
use Rattle.std.proofs.lemmas.List.Edits.{get_or-remove_below, get_or-remove_above, length-remove}
use Rattle.gf_duality_theory.proofs.ListLaws.{index, less, at, more}

pub All-rest : {X : Type 0} (P : X → Type 0) (xs : List X) (i : ℕ) → i < length xs → All P xs → All P (remove xs i)
All-rest P xs i hi a = λ k d l. let m = length-remove xs i hi in elim (index i k) [
  | less h ↦ subst P (sym (get_or-remove_below xs i d k h hi)) (a k d (omega arith))
  | at e ↦ subst P (sym (get_or-remove_above xs i d k (omega arith) hi)) (a (k + 1) d (omega (arith, m)))
  | more h ↦ subst P (sym (get_or-remove_above xs i d k (omega arith) hi)) (a (k + 1) d (omega (arith, m)))
]
