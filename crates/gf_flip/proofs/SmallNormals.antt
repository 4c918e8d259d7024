-- Exponents below 2^31 give rows and normals with entries below 2^31 in absolute value.
-- To cite: normal_small, small_bounded.
use Rattle.std.proofs.Common.{ℕ, zero, suc, ◌<◌, ◌^◌, List, [], ◌∷◌, All, ℤ, pos, ◌-ℤ◌, unsigned_abs, arith, sym, subst}
use Rattle.std.proofs.lemmas.Int.{ints}
use Rattle.gf_exponents_theory.specs.Exponents.{Exponents}
use Rattle.gf_order.specs.Weights.{AreBounded}
use Rattle.gf_poly.specs.declared.Term.{Term}
use Rattle.gf_poly.specs.Monomial.{IsMonomial}
use Rattle.gf_poly.specs.Marking.{MarkedPolynomial}
use Rattle.gf_ideal_theory.proofs.ListLaws.{contained_each}
use Rattle.gf_facets_theory.specs.Rows.{differences, IsNormal}
use Rattle.gf_facets_theory.proofs.RowLaws.{row-from}
use Rattle.gf_cone.proofs.SmallLaws.{primitive_small}
use Rattle.gf_strands.specs.Along.{AreSmall}
use Rattle.gf_flip.specs.Limits.{HasMonomialsAlone, HaveMonomialsAlone}

-- ---- small numbers

apart : (x y : ℕ) → x < 2 ^ 31 → y < 2 ^ 31 → unsigned_abs (pos x -ℤ pos y) < 2 ^ 31
apart x y p q = omega (arith, ints)

small_differences : (x y : Exponents) → All (λ k. k < 2 ^ 31) x → All (λ k. k < 2 ^ 31) y → All (λ z. unsigned_abs z < 2 ^ 31) (differences x y)
small_differences [] y p q i d l = absurd (omega arith)
small_differences (a ∷ x) [] p q i d l = absurd (omega arith)
small_differences (a ∷ x) (b ∷ y) p q zero d l = apart a b (p 0 0 (omega arith)) (q 0 0 (omega arith))
small_differences (a ∷ x) (b ∷ y) p q (suc i) d l = small_differences x y (λ j e m. p (suc j) e (omega arith)) (λ j e m. q (suc j) e (omega arith)) i d
    (omega arith)

-- ---- normals

-- a normal of a set whose exponents are within the limit
pub normal_small : (bs : List MarkedPolynomial) (a : List ℤ) → HaveMonomialsAlone bs → IsNormal bs a → AreSmall a
normal_small bs a h p =
    let b = row-from bs p.0 p.1 in
    let t = b.2 in
    let m = contained_each HasMonomialsAlone bs h b.0 b.1 in
    let q = contained_each (λ (t : Term). IsMonomial t.mono) b.0.poly m.terms t.term t.inside in
    let s = primitive_small p.0 a p.2 (record {
      entries = subst (All (λ z. unsigned_abs z < 2 ^ 31)) (sym t.row) (small_differences b.0.head t.term.mono m.head.limit q.limit);
    }) in
    λ i d l. omega (arith, s.entries i d l)

-- so they are within the bound of an order's weights
pub small_bounded : (a : List ℤ) → AreSmall a → AreBounded a
small_bounded a h i d l = omega (arith, h i d l)
