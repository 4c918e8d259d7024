-- Pivots: one for each vector, and made positive.
use Rattle.std.proofs.Common.{◌≡◌, ℕ, List, ℤ, pos, negsuc, ◌*ℤ◌, neg_ℤ, ◌<ℤ◌, arith, refl, ◌∙◌, subst}
use Rattle.std.proofs.lemmas.Int.{ints}
use Rattle.gf_int_theory.proofs.RingLaws.{dv, dn, dneg}
use Rattle.gf_vec.specs.Vector.{entry_at, opposite}
use Rattle.gf_vec.specs.Primitive.{IsPrimitivePart}
use Rattle.gf_vec.proofs.VectorLaws.{length-times}
use Rattle.gf_vec.proofs.EntryLaws.{entry_times}
use Rattle.gf_vec.proofs.PrimitiveLaws.{primitive_of, primitive_opposite}
use Rattle.gf_vec.proofs.VectorIdentities.{vv, ◌⊡◌, vsame}
use Rattle.gf_gordan.specs.Elimination.{IsPivot}
use Rattle.gf_duality_theory.specs.Elimination.{IsNormalised}
use Rattle.gf_duality_theory.proofs.ListLaws.{index, less, at, more}

-- a vector has one pivot at most
pub pivot_unique : (x : List ℤ) (p q : ℕ) → IsPivot x p → IsPivot x q → p ≡ q
pivot_unique x p q a b = elim (index p q) [ less h ↦ absurd (b.not_zero (a.first q h)) | at e ↦ e | more h ↦ absurd (a.not_zero (b.first p h)) ]

-- ---- positive pivots

pub normal_up : (v w : List ℤ) (p : ℕ) → IsPrimitivePart v w → IsPivot w p → pos 0 <ℤ entry_at w p → IsNormalised v w
normal_up v w p d k g = record {
  factor = d.0;
  not_zero = λ e. let h = d.1.positive in omega (arith, ints, h);
  multiple = d.1.multiple;
  primitive = primitive_of v w d;
  leading = λ q j. subst (λ t. pos 0 <ℤ entry_at w t) (pivot_unique w p q k j) g;
}

pub opposite_zero_back : (x y : ℤ) → x ≡ negsuc 0 *ℤ y → x ≡ pos 0 → y ≡ pos 0
opposite_zero_back x y e z = omega (arith, ints, e, z)

opposite_up : (x y : ℤ) → x ≡ negsuc 0 *ℤ y → y <ℤ pos 0 → pos 0 <ℤ x
opposite_up x y e z = omega (arith, ints, e, z)

pub zero_opposite : (x y : ℤ) → x ≡ negsuc 0 *ℤ y → y ≡ pos 0 → x ≡ pos 0
zero_opposite x y e z = omega (arith, ints, e, z)

pivot_opposite : (w : List ℤ) (q : ℕ) → IsPivot (opposite w) q → IsPivot w q
pivot_opposite w q k = record {
  inside = let h = k.inside in omega (arith, h, length-times (negsuc 0) w);
  not_zero = λ z. k.not_zero (zero_opposite _ _ (entry_times (negsuc 0) w q) z);
  first = λ i h. opposite_zero_back _ _ (entry_times (negsuc 0) w i) (k.first i h);
}

pub normal_down : (v w : List ℤ) (p : ℕ) → IsPrimitivePart v w → IsPivot w p → entry_at w p <ℤ pos 0 → IsNormalised v (opposite w)
normal_down v w p d k g =
    let c = d.0 in record {
      factor = neg_ℤ c;
      not_zero = λ e. let h = d.1.positive in omega (arith, ints, h);
      multiple = vsame (dneg (dv c) ⊡ (dneg (dn 1) ⊡ vv w refl)) (dv c ⊡ vv w refl) (λ u. omega arith) ∙ d.1.multiple;
      primitive = primitive_opposite w (primitive_of v w d);
      leading = λ q j. opposite_up _ _ (entry_times (negsuc 0) w q) (subst (λ t. entry_at w t <ℤ pos 0) (pivot_unique w p q k (pivot_opposite w q j)) g);
    }
