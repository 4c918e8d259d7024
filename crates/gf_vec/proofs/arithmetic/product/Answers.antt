use Rattle.std.proofs.Common.{FitsSigned, of_z, to_z, ℤ, negsuc, ◌-◌, ◌≡◌, ◌≤◌, ◌^◌, arith, rules, refl, ap, sym, subst, ◌∙◌, inl, inr}
use Rattle.std.specs.Int.RustNames.{unsigned_abs}
use Rattle.std.specs.Int.{w64, w128}
use Rattle.std.proofs.lemmas.Int.{ints, to_z-of_z, fits_signed_from_abs}
use Rattle.std.proofs.lemmas.Bool.{cases_lt}
use Rattle.gf_int_theory.specs.Range.{InRange}
use Rattle.gf_vec.proofs.arithmetic.product.Goals as goal

-- what doesn't fit 128 bits is past the range
past : (z : ℤ) → (FitsSigned w128 z → ⊥) → 2 ^ 127 ≤ unsigned_abs z
past z n = elim (cases_lt (unsigned_abs z) (2 ^ 127)) [ inl l ↦ absurd (n (fits_signed_from_abs w128 z l)) | inr g ↦ g ]

-- the product that fits is the least number, or is in range
least : (p z : ℤ) → FitsSigned w128 p → z ≡ p → of_z w128 z ≡ 2 ^ 127 → 2 ^ 127 ≤ unsigned_abs p
least p z h e is =
    let fz : FitsSigned w128 z = subst (FitsSigned w128) (sym e) h in
    let least : z ≡ negsuc (2 ^ 127 - 1) = sym (to_z-of_z w128 z fz) ∙ ap (to_z w128) is in
    omega (arith, ap unsigned_abs (sym e ∙ least))

kept : (p z : ℤ) → FitsSigned w128 p → z ≡ p → (of_z w128 z ≡ 2 ^ 127 → ⊥) → (to_z w128 (of_z w128 z) ≡ p) × InRange (to_z w128 (of_z w128 z))
kept p z h e n =
    let fz : FitsSigned w128 z = subst (FitsSigned w128) (sym e) h in
    rw (to_z-of_z w128 z fz) (
      e,
      record {
        within = elim (cases_lt (unsigned_abs z) (2 ^ 127)) [ inl l ↦ l | inr g ↦ absurd (n (ap (of_z w128) (lowest z fz g))) ];
      },
    )
  where
    lowest : (z : ℤ) → FitsSigned w128 z → 2 ^ 127 ≤ unsigned_abs z → z ≡ negsuc (2 ^ 127 - 1)
    lowest z f g = omega (arith, ints)

pub returns-in_default-2 : goal.returns-in_default-2
returns-in_default-2 c =
    let fx : FitsSigned w128 c.args.x = c.ranges.x in
    let fy : FitsSigned w128 c.args.y = c.ranges.y in
    rw (to_z-of_z w128 _ fx, to_z-of_z w128 _ fy) (refl, past _ (simp to_z-of_z at c.in_default.ensures))

pub returns-then-is_small-2 : goal.returns-then-is_small-2
returns-then-is_small-2 c =
    let fx : FitsSigned w128 c.args.x = c.ranges.x in
    let fy : FitsSigned w128 c.args.y = c.ranges.y in
    let sx : FitsSigned w64 c.args.x = (simp to_z-of_z at c.is_small.ensures).0 c.if-is_small.true in
    let sy : FitsSigned w64 c.args.y = (simp to_z-of_z at c.is_small-then-is_small.ensures).0 c.if-is_small-2.true in
    let fz : FitsSigned w128 c.small_product.result = search rules in
    rw (to_z-of_z w128 _ fz) (simp to_z-of_z at c.small_product.ensures.value, c.small_product.ensures.range)

pub returns-in_default : goal.returns-in_default
returns-in_default c =
    let fx : FitsSigned w128 c.args.x = c.ranges.x in
    let fy : FitsSigned w128 c.args.y = c.ranges.y in
    let h = simp to_z-of_z at c.in-Some.ensures in
    rw (to_z-of_z w128 _ fx, to_z-of_z w128 _ fy) (refl, least _ _ h.0 h.1 c.if-z.false)

pub returns-in-Some : goal.returns-in-Some
returns-in-Some c =
    let fx : FitsSigned w128 c.args.x = c.ranges.x in
    let fy : FitsSigned w128 c.args.y = c.ranges.y in
    let h = simp to_z-of_z at c.in-Some.ensures in
    kept _ _ h.0 h.1 c.if-z.true
