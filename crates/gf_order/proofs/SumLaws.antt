-- The difference of two weights, one entry further.
use Rattle.std.proofs.Common.{◌≡◌, ℕ, ◌+◌, ◌*◌, ◌^◌, ◌<◌, ◌≤◌, List, length, get_or, drop, ℤ, pos, ◌+ℤ◌, ◌-ℤ◌, ◌*ℤ◌, unsigned_abs, arith}
use Rattle.std.proofs.lemmas.Int.{ints}
use Rattle.gf_int_theory.proofs.RingLaws.{*ℤ--ℤ}
use Rattle.gf_vec.proofs.WeightLaws.{weight-drop}
use Rattle.gf_exponents_theory.specs.Exponents.{Exponents, whole_weight}

-- what is added so far, and what is left to add
pub record Added (w : List ℤ) (x y : Exponents) (i : ℕ) (sum : ℤ) : Type 0 where
  pub value : sum +ℤ (whole_weight (drop i w) (drop i x) -ℤ whole_weight (drop i w) (drop i y)) ≡ whole_weight w x -ℤ whole_weight w y
  pub bound : unsigned_abs sum ≤ i * 2 ^ 95

pub Added-more : (w : List ℤ) (x y : Exponents) (i : ℕ) (sum part next : ℤ) → i < length w → length x ≡ length w → length y ≡ length w →
    part ≡ get_or w i (pos 0) *ℤ (pos (get_or x i 0) -ℤ pos (get_or y i 0)) → unsigned_abs part ≤ 2 ^ 95 → next ≡ sum +ℤ part →
    Added w x y i sum → Added w x y (i + 1) next
Added-more w x y i sum part next h ex ey p b n s = record {
  value = omega (
    arith,
    ints,
    s.value,
    p,
    n,
    *ℤ--ℤ (get_or w i (pos 0)) (pos (get_or x i 0)) (pos (get_or y i 0)),
    weight-drop w x i h ex,
    weight-drop w y i h ey,
  );
  bound = omega (arith, ints, s.bound, b, n);
}
