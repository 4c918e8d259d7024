-- The closed and the open cone of a marked list: by its rows, and by its normals.
-- To cite: row_value, rows_closed, closed_by_rows, rows_open, open_by_rows, normals_closed, closed_by_normals, normals_open,
-- open_by_normals, normal_from.
use Rattle.std.proofs.Common.{◌≡◌, ◌⊎◌, ℕ, ◌<◌, true, false, List, Contains, ℤ, pos, ◌*ℤ◌, ◌-ℤ◌, ◌<ℤ◌, ◌≤ℤ◌, arith, sym, ap, ◌∙◌, inl, inr}
use Rattle.std.proofs.lemmas.Int.{ints}
use Rattle.gf_int_theory.proofs.SignLaws.{0≤-*ℤ, 0≤-cancel, 0<-*ℤ, 0<-cancel}
use Rattle.gf_vec.specs.Vector.{dot}
use Rattle.gf_vec.specs.Primitive.{IsPrimitivePart}
use Rattle.gf_vec.proofs.VectorLaws.{dot-times}
use Rattle.gf_exponents_theory.specs.Exponents.{same, whole_weight}
use Rattle.gf_exponents_theory.proofs.ExponentsLaws.{same_flip, same_trans}
use Rattle.gf_exponents_theory.proofs.WholeWeightLaws.{whole_weight-same}
use Rattle.gf_poly.specs.declared.Term.{Term}
use Rattle.gf_poly.specs.Marking.{MarkedPolynomial}
use Rattle.gf_ideal_theory.specs.Bases.{IsCanonical}
use Rattle.gf_facets_theory.specs.Rows.{differences, rows_of_polynomials, IsNormal}
use Rattle.gf_facets_theory.specs.Facets.{IsInClosedCone, IsInOpenCone}
use Rattle.gf_facets_theory.specs.MarkedBases.{AreCanonical}
use Rattle.gf_facets_theory.proofs.PrimitiveLaws.{divided-entry}
use Rattle.gf_poly.proofs.CoefficientLaws.{term_length}
use Rattle.gf_facets_theory.proofs.RowLaws.{row-in, IsTermRow, row-from, term_of, monomial_of, dot-differences}
use Rattle.gf_gordan.proofs.ExistenceLaws.{divided_exists}
use Rattle.gf_poly.proofs.InitialFormLaws.{same_or_not}

-- ---- what a row gives

-- on a vector: a positive multiple of what its normal gives
pub row_value : (t a w : List ℤ) → IsPrimitivePart t a → (k : ℕ) × (0 < k) × (dot t w ≡ pos k *ℤ dot a w)
row_value t a w p = let d = divided-entry t a p in (d.0, d.1, ap (λ (z : List ℤ). dot z w) (sym d.2) ∙ dot-times (pos d.0) a w)

-- the weight of the mark less that of the term
row_weights : (n : ℕ) (b : MarkedPolynomial) (t w : List ℤ) → IsCanonical n b → (r : IsTermRow b.head b.poly t) →
    dot t w ≡ whole_weight w b.head -ℤ whole_weight w r.term.mono
row_weights n b t w k r = ap (λ (z : List ℤ). dot z w) r.row ∙ dot-differences w b.head r.term.mono
    (k.head ∙ sym (term_length n b.poly r.term k.variables r.inside))

term_weights : (n : ℕ) (b : MarkedPolynomial) (t : Term) (w : List ℤ) → IsCanonical n b → Contains b.poly t →
    dot (differences b.head t.mono) w ≡ whole_weight w b.head -ℤ whole_weight w t.mono
term_weights n b t w k c = dot-differences w b.head t.mono (k.head ∙ sym (term_length n b.poly t k.variables c))

-- ---- by rows

pub rows_closed : (n : ℕ) (bs : List MarkedPolynomial) (w : List ℤ) → AreCanonical n bs → IsInClosedCone w bs →
    (t : List ℤ) → Contains (rows_of_polynomials bs) t → pos 0 ≤ℤ dot t w
rows_closed n bs w k h t c = at (row-from bs t c)
  where
    at : ((b : MarkedPolynomial) × Contains bs b × IsTermRow b.head b.poly t) → pos 0 ≤ℤ dot t w
    at b = omega (arith, ints, row_weights n b.0 t w (k b.0 b.1) b.2, h b.0 b.1 b.2.term.mono (monomial_of n b.0 b.2.term (k b.0 b.1) b.2.inside))

pub closed_by_rows : (n : ℕ) (bs : List MarkedPolynomial) (w : List ℤ) → AreCanonical n bs →
    ((t : List ℤ) → Contains (rows_of_polynomials bs) t → pos 0 ≤ℤ dot t w) → IsInClosedCone w bs
closed_by_rows n bs w k h b c x m = at (term_of b.poly x m)
  where
    at : ((t : Term) × Contains b.poly t × (same x t.mono ≡ true)) → whole_weight w x ≤ℤ whole_weight w b.head
    at t = elim (same_or_not b.head t.0.mono) [
      | inl s ↦ omega (arith, ints, whole_weight-same w x t.0.mono t.2, whole_weight-same w b.head t.0.mono s)
      | inr o ↦ omega (
        arith,
        ints,
        h (differences b.head t.0.mono) (row-in bs b t.0 c t.1 o),
        term_weights n b t.0 w (k b c) t.1,
        whole_weight-same w x t.0.mono t.2,
      )
    ]

pub rows_open : (n : ℕ) (bs : List MarkedPolynomial) (w : List ℤ) → AreCanonical n bs → IsInOpenCone w bs →
    (t : List ℤ) → Contains (rows_of_polynomials bs) t → pos 0 <ℤ dot t w
rows_open n bs w k h t c = at (row-from bs t c)
  where
    at : ((b : MarkedPolynomial) × Contains bs b × IsTermRow b.head b.poly t) → pos 0 <ℤ dot t w
    at b = elim (h b.0 b.1 b.2.term.mono (monomial_of n b.0 b.2.term (k b.0 b.1) b.2.inside)) [
      | inl s ↦ absurd (let u : same b.0.head b.2.term.mono ≡ false = b.2.other in let v : same b.0.head b.2.term.mono ≡ true =
          same_flip b.2.term.mono b.0.head s in cc)
      | inr l ↦ omega (arith, ints, row_weights n b.0 t w (k b.0 b.1) b.2, l)
    ]

pub open_by_rows : (n : ℕ) (bs : List MarkedPolynomial) (w : List ℤ) → AreCanonical n bs →
    ((t : List ℤ) → Contains (rows_of_polynomials bs) t → pos 0 <ℤ dot t w) → IsInOpenCone w bs
open_by_rows n bs w k h b c x m = at (term_of b.poly x m)
  where
    at : ((t : Term) × Contains b.poly t × (same x t.mono ≡ true)) → (same x b.head ≡ true) ⊎ (whole_weight w x <ℤ whole_weight w b.head)
    at t = elim (same_or_not b.head t.0.mono) [
      | inl s ↦ inl (same_trans x t.0.mono b.head t.2 (same_flip b.head t.0.mono s))
      | inr o ↦ inr (omega (
        arith,
        ints,
        h (differences b.head t.0.mono) (row-in bs b t.0 c t.1 o),
        term_weights n b t.0 w (k b c) t.1,
        whole_weight-same w x t.0.mono t.2,
      ))
    ]

-- ---- by normals

-- each row has its normal
pub normal_from : (bs : List MarkedPolynomial) (t : List ℤ) → Contains (rows_of_polynomials bs) t → (a : List ℤ) × IsNormal bs a × IsPrimitivePart t a
normal_from bs t c = let p = divided_exists t in (p.0, (t, c, p.1), p.1)

pub normals_closed : (n : ℕ) (bs : List MarkedPolynomial) (w : List ℤ) → AreCanonical n bs → IsInClosedCone w bs →
    (a : List ℤ) → IsNormal bs a → pos 0 ≤ℤ dot a w
normals_closed n bs w k h a p =
    let v = row_value p.0 a w p.2 in
    0≤-cancel (pos v.0) (dot a w) (omega (arith, ints, v.1)) (omega (arith, ints, v.2, rows_closed n bs w k h p.0 p.1))

pub closed_by_normals : (n : ℕ) (bs : List MarkedPolynomial) (w : List ℤ) → AreCanonical n bs →
    ((a : List ℤ) → IsNormal bs a → pos 0 ≤ℤ dot a w) → IsInClosedCone w bs
closed_by_normals n bs w k h = closed_by_rows n bs w k (λ t c. at t (normal_from bs t c))
  where
    at : (t : List ℤ) → ((a : List ℤ) × IsNormal bs a × IsPrimitivePart t a) → pos 0 ≤ℤ dot t w
    at t p =
        let v = row_value t p.0 w p.2 in
        omega (arith, ints, v.2, 0≤-*ℤ (pos v.0) (dot p.0 w) (omega (arith, ints)) (h p.0 p.1))

pub normals_open : (n : ℕ) (bs : List MarkedPolynomial) (w : List ℤ) → AreCanonical n bs → IsInOpenCone w bs →
    (a : List ℤ) → IsNormal bs a → pos 0 <ℤ dot a w
normals_open n bs w k h a p =
    let v = row_value p.0 a w p.2 in
    0<-cancel (pos v.0) (dot a w) (omega (arith, ints, v.1)) (omega (arith, ints, v.2, rows_open n bs w k h p.0 p.1))

pub open_by_normals : (n : ℕ) (bs : List MarkedPolynomial) (w : List ℤ) → AreCanonical n bs →
    ((a : List ℤ) → IsNormal bs a → pos 0 <ℤ dot a w) → IsInOpenCone w bs
open_by_normals n bs w k h = open_by_rows n bs w k (λ t c. at t (normal_from bs t c))
  where
    at : (t : List ℤ) → ((a : List ℤ) × IsNormal bs a × IsPrimitivePart t a) → pos 0 <ℤ dot t w
    at t p =
        let v = row_value t p.0 w p.2 in
        omega (arith, ints, v.2, 0<-*ℤ (pos v.0) (dot p.0 w) (omega (arith, ints, v.1)) (h p.0 p.1))
