-- The weight of an exponent list, one entry further, and how wide a share of it is.
use Rattle.std.proofs.Common.{◌≡◌, ℕ, ◌+◌, ◌*◌, ◌^◌, ◌<◌, ◌≤◌, List, length, get_or, drop, ℤ, pos, ◌+ℤ◌, ◌-ℤ◌, ◌*ℤ◌, unsigned_abs, arith, refl, ap, ◌∙◌}
use Rattle.std.proofs.lemmas.Int.{ints, unsigned_abs-mul}
use Rattle.std.proofs.lemmas.List.{drop_more}
use Rattle.std.proofs.lemmas.Nat.{mul-le}
use Rattle.gf_exponents_theory.specs.Exponents.{Exponents, whole_weight}

pub weight-drop : (w : List ℤ) (x : Exponents) (i : ℕ) → i < length w → length x ≡ length w →
    whole_weight (drop i w) (drop i x) ≡ get_or w i (pos 0) *ℤ pos (get_or x i 0) +ℤ whole_weight (drop (i + 1) w) (drop (i + 1) x)
weight-drop w x i h e = let k : i < length x = omega arith in rw (drop_more w i (pos 0), drop_more x i 0) refl

-- what is added so far, and what is left to add
pub record Weighed (w : List ℤ) (x : Exponents) (i : ℕ) (sum : ℤ) : Type 0 where
  pub value : sum +ℤ whole_weight (drop i w) (drop i x) ≡ whole_weight w x
  pub bound : unsigned_abs sum ≤ i * 2 ^ 95

less_nothing : (n : ℕ) → pos n -ℤ pos 0 ≡ pos n
less_nothing n = omega (arith, ints)

pub Weighed-more : (w : List ℤ) (x : Exponents) (i : ℕ) (sum part next : ℤ) → i < length w → length x ≡ length w →
    part ≡ get_or w i (pos 0) *ℤ (pos (get_or x i 0) -ℤ pos 0) → unsigned_abs part ≤ 2 ^ 95 → next ≡ sum +ℤ part → Weighed w x i sum → Weighed w x (i + 1) next
Weighed-more w x i sum part next h e p b n s = record {
  value = omega (arith, ints, s.value, p ∙ ap (λ z. get_or w i (pos 0) *ℤ z) (less_nothing (get_or x i 0)), n, weight-drop w x i h e);
  bound = omega (arith, ints, s.bound, b, n);
}

-- an entry within 2^63 times a difference of exponents of 32 bits
pub share_bound : (e : ℤ) (x y : ℕ) → unsigned_abs e ≤ 2 ^ 63 → x < 2 ^ 32 → y < 2 ^ 32 → unsigned_abs (e *ℤ (pos x -ℤ pos y)) ≤ 2 ^ 95
share_bound e x y h a b =
    let d : unsigned_abs (pos x -ℤ pos y) ≤ 2 ^ 32 = omega (arith, ints) in
    rw unsigned_abs-mul (mul-le (unsigned_abs e) (unsigned_abs (pos x -ℤ pos y)) (2 ^ 63) (2 ^ 32) h d)
