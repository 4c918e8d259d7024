-- The combination of two vectors that is zero at a row, as a linear map of either.
use Rattle.std.proofs.Common.{◌≡◌, ℕ, List, length, ℤ, arith}
use Rattle.gf_int_theory.proofs.RingLaws.{dv, dneg}
use Rattle.gf_vec.proofs.VectorIdentities.{Vec, vv, vz, ◌⊞◌, ◌⊡◌, by, vsame, IsLinear}
use Rattle.gf_duality_theory.specs.Combining.{pair}

abbrev pub vpair : {n : ℕ} {p q : List ℤ} → (h : List ℤ) → Vec n p → Vec n q → Vec n (pair h p q)
vpair h x y = by h x ⊡ y ⊞ dneg (by h y) ⊡ x

pub pair_left_linear : (n : ℕ) (h q : List ℤ) → length q ≡ n → IsLinear n (λ p. pair h p q)
pair_left_linear n h q l = record {
  of_zeros = vsame (vpair h (vz n) (vv q l)) (vz n) (λ w. omega arith);
  of_plus = λ u v a b. vsame (vpair h (vv u a ⊞ vv v b) (vv q l)) (vpair h (vv u a) (vv q l) ⊞ vpair h (vv v b) (vv q l)) (λ w. omega arith);
  of_times = λ k u a. vsame (vpair h (dv k ⊡ vv u a) (vv q l)) (dv k ⊡ vpair h (vv u a) (vv q l)) (λ w. omega arith);
}

pub pair_right_linear : (n : ℕ) (h p : List ℤ) → length p ≡ n → IsLinear n (λ q. pair h p q)
pair_right_linear n h p l = record {
  of_zeros = vsame (vpair h (vv p l) (vz n)) (vz n) (λ w. omega arith);
  of_plus = λ u v a b. vsame (vpair h (vv p l) (vv u a ⊞ vv v b)) (vpair h (vv p l) (vv u a) ⊞ vpair h (vv p l) (vv v b)) (λ w. omega arith);
  of_times = λ k u a. vsame (vpair h (vv p l) (dv k ⊡ vv u a)) (dv k ⊡ vpair h (vv p l) (vv u a)) (λ w. omega arith);
}
