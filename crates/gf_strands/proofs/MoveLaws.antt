-- Monomials on the strand through x: x and multiples of a vector.
-- To cite: moved-length, moved_is, on_is, moved-zero, on-zero, moved_moved, on_sum, on_rest, moved_plus, on_plus, moved_apart, moved_one, moved_below.
use Rattle.std.proofs.Common.{◌≡◌, zero, suc, true, List, [], ◌∷◌, length, get_or, ℤ, pos, negsuc, ◌+ℤ◌, ◌-ℤ◌, ◌*ℤ◌, ◌<ℤ◌, unsigned_abs, arith, refl, sym, ap}
use Rattle.std.proofs.Common.{ap₂, ◌∙◌, subst, inl, inr}
use Rattle.std.proofs.Math.IntN.{*ℤ-zero}
use Rattle.std.proofs.lemmas.Int.{ints}
use Rattle.gf_int_theory.proofs.RingLaws.{dv, dn, ◌⊕◌, ◌⊖◌, ◌⊗◌, same as same_number}
use Rattle.gf_int_theory.proofs.SignLaws.{zero_of_*ℤ}
use Rattle.gf_exponents_theory.specs.Exponents.{Exponents, entry, same, plus}
use Rattle.gf_exponents_theory.specs.SixOrders.{below_of}
use Rattle.gf_exponents_theory.proofs.ExponentsLaws.{entry-plus, entries_same}
use Rattle.gf_poly.proofs.MonomialLaws.{length-plus}
use Rattle.gf_ideal_theory.specs.OrderTable.{AreMultipleApart}
use Rattle.gf_initial_theory.proofs.ClassLaws.{further-below}
use Rattle.gf_strands.specs.Along.{HasNonzero}
use Rattle.gf_strands.specs.Strands.{moved, IsDistance, IsSpot, facet_order}

-- ---- numbers

still : (y z : ℤ) → y ≡ y +ℤ pos 0 *ℤ z
still y z = same_number (dv y) (dv y ⊕ dn 0 ⊗ dv z) (omega arith)

joined : (y j k z : ℤ) → (y +ℤ j *ℤ z) +ℤ k *ℤ z ≡ y +ℤ (j +ℤ k) *ℤ z
joined y j k z = same_number ((dv y ⊕ dv j ⊗ dv z) ⊕ dv k ⊗ dv z) (dv y ⊕ (dv j ⊕ dv k) ⊗ dv z) (omega arith)

parted : (y j k z : ℤ) → y +ℤ k *ℤ z ≡ (y +ℤ j *ℤ z) +ℤ (k -ℤ j) *ℤ z
parted y j k z = same_number (dv y ⊕ dv k ⊗ dv z) ((dv y ⊕ dv j ⊗ dv z) ⊕ (dv k ⊖ dv j) ⊗ dv z) (omega arith)

difference : (j k z : ℤ) → (j -ℤ k) *ℤ z ≡ j *ℤ z -ℤ k *ℤ z
difference j k z = same_number ((dv j ⊖ dv k) ⊗ dv z) (dv j ⊗ dv z ⊖ dv k ⊗ dv z) (omega arith)

-- ---- lengths

pub moved-length : (a : List ℤ) (x : Exponents) (k : ℤ) → length (moved a x k) ≡ length x
moved-length a [] k = refl
moved-length [] (e ∷ x) k = ap suc (moved-length [] x k)
moved-length (z ∷ a) (e ∷ x) k = ap suc (moved-length a x k)

-- ---- what is k multiples of a from x

pub moved_is : (a : List ℤ) (x y : Exponents) (k : ℤ) → length y ≡ length x → IsDistance a y x k → y ≡ moved a x k
moved_is a [] [] k e h = refl
moved_is a [] (f ∷ y) k e h = absurd (omega arith)
moved_is [] (e ∷ x) [] k q h = absurd (omega arith)
moved_is (z ∷ a) (e ∷ x) [] k q h = absurd (omega arith)
moved_is [] (e ∷ x) (f ∷ y) k q h = ap₂ ◌∷◌ (omega (arith, ints, h 0, *ℤ-zero k)) (moved_is [] x y k (omega arith) (λ i. h (suc i)))
moved_is (z ∷ a) (e ∷ x) (f ∷ y) k q h = ap₂ ◌∷◌ (ap unsigned_abs (h 0)) (moved_is a x y k (omega arith) (λ i. h (suc i)))

pub on_is : (a : List ℤ) (x y : Exponents) (k : ℤ) → length y ≡ length x → IsDistance a y x k → IsSpot a x k
on_is a x y k e h = subst (λ (z : Exponents). IsDistance a z x k) (moved_is a x y k e h) h

no_distance : (a : List ℤ) (x : Exponents) → IsDistance a x x (pos 0)
no_distance a x i = still (pos (entry x i)) (get_or a i (pos 0))

pub moved-zero : (a : List ℤ) (x : Exponents) → moved a x (pos 0) ≡ x
moved-zero a x = sym (moved_is a x x (pos 0) refl (no_distance a x))

pub on-zero : (a : List ℤ) (x : Exponents) → IsSpot a x (pos 0)
on-zero a x = on_is a x x (pos 0) refl (no_distance a x)

-- ---- one after the other

pub moved_moved : (a : List ℤ) (x : Exponents) (j k : ℤ) → IsSpot a x j → moved a (moved a x j) k ≡ moved a x (j +ℤ k)
moved_moved a [] j k h = refl
moved_moved [] (e ∷ x) j k h = ap (λ (y : Exponents). e ∷ y) (moved_moved [] x j k (λ i. h (suc i)))
moved_moved (z ∷ a) (e ∷ x) j k h = ap₂ ◌∷◌ (ap unsigned_abs (ap (λ t. t +ℤ k *ℤ z) (h 0) ∙ joined (pos e) j k z)) (moved_moved a x j k (λ i. h (suc i)))

pub on_sum : (a : List ℤ) (x : Exponents) (j k : ℤ) → IsSpot a x j → IsSpot a (moved a x j) k → IsSpot a x (j +ℤ k)
on_sum a x j k h o = on_is a x (moved a (moved a x j) k) (j +ℤ k) (moved-length a (moved a x j) k ∙ moved-length a x j)
    (λ i. o i ∙ ap (λ t. t +ℤ k *ℤ get_or a i (pos 0)) (h i) ∙ joined (pos (entry x i)) j k (get_or a i (pos 0)))

pub on_rest : (a : List ℤ) (x : Exponents) (j k : ℤ) → IsSpot a x j → IsSpot a x k → IsSpot a (moved a x j) (k -ℤ j)
on_rest a x j k h o = on_is a (moved a x j) (moved a x k) (k -ℤ j) (moved-length a x k ∙ sym (moved-length a x j))
    (λ i. o i ∙ parted (pos (entry x i)) j k (get_or a i (pos 0)) ∙ ap (λ t. t +ℤ (k -ℤ j) *ℤ get_or a i (pos 0)) (sym (h i)))

-- ---- multiplied by u

plus_distance : (a : List ℤ) (u x : Exponents) (k : ℤ) → IsSpot a x k → IsDistance a (plus u (moved a x k)) (plus u x) k
plus_distance a u x k h i = omega (arith, ints, h i, entry-plus u x i, entry-plus u (moved a x k) i)

plus_length : (a : List ℤ) (u x : Exponents) (k : ℤ) → length u ≡ length x → length (plus u (moved a x k)) ≡ length (plus u x)
plus_length a u x k e = length-plus u (moved a x k) (e ∙ sym (moved-length a x k)) ∙ sym (length-plus u x e)

pub moved_plus : (a : List ℤ) (u x : Exponents) (k : ℤ) → length u ≡ length x → IsSpot a x k → moved a (plus u x) k ≡ plus u (moved a x k)
moved_plus a u x k e h = sym (moved_is a (plus u x) (plus u (moved a x k)) k (plus_length a u x k e) (plus_distance a u x k h))

pub on_plus : (a : List ℤ) (u x : Exponents) (k : ℤ) → length u ≡ length x → IsSpot a x k → IsSpot a (plus u x) k
on_plus a u x k e h = on_is a (plus u x) (plus u (moved a x k)) k (plus_length a u x k e) (plus_distance a u x k h)

-- ---- compared

-- multiples of a apart
pub moved_apart : (a : List ℤ) (x : Exponents) (k : ℤ) → IsSpot a x k → AreMultipleApart a (moved a x k) x
moved_apart a x k h = (k, h)

-- distances of the same monomial are the same multiples
one_distance : (a : List ℤ) (x y z : Exponents) (j k : ℤ) → HasNonzero a → IsDistance a y x j → IsDistance a z x k → same y z ≡ true → j ≡ k
one_distance a x y z j k n h o e =
    let d : (j -ℤ k) *ℤ get_or a n.0 (pos 0) ≡ pos 0 = omega (arith, ints, difference j k (get_or a n.0 (pos 0)), h n.0, o n.0, entries_same y z e n.0) in
    elim (zero_of_*ℤ (j -ℤ k) (get_or a n.0 (pos 0)) d) [ inl q ↦ omega (arith, ints, q) | inr q ↦ absurd (n.1 q) ]

-- other multiples are other monomials
pub moved_one : (a : List ℤ) (x : Exponents) (j k : ℤ) → HasNonzero a → IsSpot a x j → IsSpot a x k → same (moved a x j) (moved a x k) ≡ true → j ≡ k
moved_one a x j k n h o e = one_distance a x (moved a x j) (moved a x k) j k n h o e

-- and smaller ones for the order along the facet
pub moved_below : (a : List ℤ) (x : Exponents) (k : ℤ) → HasNonzero a → IsSpot a x k → pos 0 <ℤ k → below_of (facet_order a) (moved a x k) x
moved_below a x (pos zero) n h l = absurd (omega (arith, ints, l))
moved_below a x (pos (suc k)) n h l = further-below a (moved a x (pos (suc k))) x n (suc k, omega arith, h)
moved_below a x (negsuc k) n h l = absurd (omega (arith, ints, l))
