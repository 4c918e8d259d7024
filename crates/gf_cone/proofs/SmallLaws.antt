-- Small vectors: primitive parts of small rows, unit vectors, and that small entries fit what the code asks for.
-- To cite: primitive_small, normal_small, small_for_sign.
use Rattle.std.proofs.Common.{◌≡◌, ℕ, zero, suc, ◌*◌, ◌<◌, ◌≤◌, ◌^◌, List, length, get_or, All, ℤ, pos, ◌*ℤ◌, unsigned_abs, arith, sym, ap, ◌∙◌, subst}
use Rattle.std.proofs.lemmas.Int.{unsigned_abs-mul}
use Rattle.std.proofs.lemmas.List.{get_or_default}
use Rattle.std.proofs.lemmas.List.Elements.{All-contains}
use Rattle.gf_vec.specs.Primitive.{IsPrimitivePart}
use Rattle.gf_vec.proofs.VectorLaws.{length-times}
use Rattle.gf_poly.specs.Marking.{MarkedPolynomial}
use Rattle.gf_facets_theory.specs.Rows.{rows_of_polynomials, IsNormal}
use Rattle.gf_facets_theory.proofs.PrimitiveLaws.{divided-entry}
use Rattle.gf_cone.specs.Small.{IsSmall}
use Rattle.gf_cone.specs.Weights.{IsForSign}

factor_size : (k : ℕ) (x : ℤ) → 0 < k → unsigned_abs x ≤ unsigned_abs (pos k *ℤ x)
factor_size k x l = subst (λ (m : ℕ). unsigned_abs x ≤ m) (sym (unsigned_abs-mul (pos k) x)) (grown k (unsigned_abs x) l)
  where
    grown : (k m : ℕ) → 0 < k → m ≤ k * m
    grown zero m l = absurd (omega arith)
    grown (suc k) m l = omega arith

-- a small row divided by its content is small
pub primitive_small : (t a : List ℤ) → IsPrimitivePart t a → IsSmall t → IsSmall a
primitive_small t a p s = record { entries = entries }
  where
    entries : All (λ x. unsigned_abs x < 2 ^ 31) a
    entries i d l =
        let e = divided-entry t a p in
        let long : length a ≡ length t = sym (length-times (pos e.0) a) ∙ ap (λ (z : List ℤ). length z) e.2 in
        let here : get_or t i (pos 0) ≡ pos e.0 *ℤ get_or a i (pos 0) = e.3 i in
        let small : unsigned_abs (get_or t i (pos 0)) < 2 ^ 31 = s.entries i (pos 0) (omega (arith, long, l)) in
        let grown : unsigned_abs (get_or a i (pos 0)) ≤ unsigned_abs (pos e.0 *ℤ get_or a i (pos 0)) = factor_size e.0 (get_or a i (pos 0)) e.1 in
        let same : get_or a i d ≡ get_or a i (pos 0) = get_or_default a i d (pos 0) l in
        subst (λ (x : ℤ). unsigned_abs x < 2 ^ 31) (sym same) (omega (arith, small, grown, ap unsigned_abs here))

-- so is each normal of a marked list with small rows
pub normal_small : (bs : List MarkedPolynomial) (a : List ℤ) → All IsSmall (rows_of_polynomials bs) → IsNormal bs a → IsSmall a
normal_small bs a s p = primitive_small p.0 a p.2 (All-contains IsSmall (rows_of_polynomials bs) p.0 s p.1)

-- the sign of a small vector at a root may be asked for
pub small_for_sign : (a : List ℤ) → IsSmall a → IsForSign a
small_for_sign a s i d l = omega (arith, s.entries i d l)
