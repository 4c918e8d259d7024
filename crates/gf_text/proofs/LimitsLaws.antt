-- What a text of a set says is within its limits.
-- To cite: set_within; factor_at, term_at for a loop. The rest are steps.
use Rattle.std.proofs.Common.{◌≡◌, ◌<◌, ◌^◌, ◌+◌, ℕ, zero, suc, Bool, true, false, List, [], ◌∷◌, length, get_or, Some, inl, inr, arith, bytes_eq}
use Rattle.std.proofs.Common.{if◌then◌else◌}
use Rattle.std.specs.List.{position_from}
use Rattle.gf_text.specs.declared.tree.Factor.{Factor}
use Rattle.gf_text.specs.declared.tree.WrittenTerm.{WrittenTerm}
use Rattle.gf_text.specs.SetText.{variable, IsFactorText, AreMoreFactors, IsMonomialText, IsRationalText, IsTermText, AreMoreTerms, IsPolynomialText}
use Rattle.gf_text.specs.SetText.{AreMorePolynomials, IsSetText}
use Rattle.gf_text.specs.Limits.{IsFactorWithin, AreFactorsWithin, IsTermWithin, AreTermsWithin, ArePolynomialsWithin}

-- ---- from the grammar

-- the place of a name is below the number of names
position_within : (t : List ℕ) (ns : List (List ℕ)) (i v : ℕ) → position_from (λ n. bytes_eq n t) i ns ≡ Some v → v < i + length ns
position_within t [] i v e = cc
position_within t (n ∷ ns) i v e = by (bytes_eq n t) (position_within t ns (i + 1) v) e
  where
    by : (b : Bool) → (position_from (λ n. bytes_eq n t) (i + 1) ns ≡ Some v → v < (i + 1) + length ns) →
        (if b then Some i else position_from (λ n. bytes_eq n t) (i + 1) ns) ≡ Some v → v < i + suc (length ns)
    by true later h = let same : i ≡ v = cc in omega arith
    by false later h = let k = later h in omega arith

pub variable_within : (ring : List (List ℕ)) (t : List ℕ) (v : ℕ) → variable ring t ≡ Some v → v < length ring
variable_within ring t v e = let h = position_within t ring 0 v e in omega arith

module _ (ring : List (List ℕ)) where
  factor_within : (ts : List (List ℕ)) (f : Factor) → IsFactorText ring ts f → IsFactorWithin (length ring) f
  factor_within ts f (name, is, inl h) = record { variable = variable_within ring name f.variable is; exponent = let e = h.1 in omega arith }
  factor_within ts f (name, is, inr h) = record { variable = variable_within ring name f.variable is; exponent = let e = h.2.2 in omega arith }

  factors_within : (ts : List (List ℕ)) (fs : List Factor) → AreMoreFactors ring ts fs → AreFactorsWithin (length ring) fs
  factors_within ts [] h = tt
  factors_within ts (f ∷ fs) (between, one, rest, whole, star, first, others) = (factor_within one f first, factors_within rest fs others)

  monomial_within : (ts : List (List ℕ)) (fs : List Factor) → IsMonomialText ring ts fs → AreFactorsWithin (length ring) fs
  monomial_within ts [] h = absurd h
  monomial_within ts (f ∷ fs) (one, rest, whole, first, others) = (factor_within one f first, factors_within rest fs others)

  rational_within : (ts : List (List ℕ)) (p q : ℕ) → IsRationalText ts p q → (p < 2 ^ 127) × (q < 2 ^ 127) × (0 < q)
  rational_within ts p q (inl (t, is, number, one)) = let h = number.2 in (omega arith, omega arith, omega arith)
  rational_within ts p q (inr (t, u, is, number, denominator, some)) = let h = number.2 in let k = denominator.2 in (omega arith, omega arith, some)

  term_within : (ts : List (List ℕ)) (u : WrittenTerm) → IsTermText ring ts u → IsTermWithin (length ring) u
  term_within ts u (inl (one, rest, whole, rational, others)) =
      let h = rational_within one u.numer u.denom rational in
      record { numer = h.0; denom = h.1; nonzero = h.2; factors = factors_within rest u.factors others }
  term_within ts u (inr (p, q, monomial)) = record {
    numer = omega arith;
    denom = omega arith;
    nonzero = omega arith;
    factors = monomial_within ts u.factors monomial;
  }

  terms_within : (ts : List (List ℕ)) (us : List WrittenTerm) → AreMoreTerms ring ts us → AreTermsWithin (length ring) us
  terms_within ts [] h = tt
  terms_within ts (u ∷ us) (one, rest, whole, term, others) = (term_within one u term, terms_within rest us others)

  polynomial_within : (ts : List (List ℕ)) (us : List WrittenTerm) → IsPolynomialText ring ts us → AreTermsWithin (length ring) us
  polynomial_within ts [] h = absurd h
  polynomial_within ts (u ∷ us) (front, one, rest, whole, front_sign, term, others) = (term_within one u term, terms_within rest us others)

  polynomials_within : (ts : List (List ℕ)) (qs : List (List WrittenTerm)) → AreMorePolynomials ring ts qs → ArePolynomialsWithin (length ring) qs
  polynomials_within ts [] h = tt
  polynomials_within ts (q ∷ qs) (one, rest, whole, polynomial, others) = (polynomial_within one q polynomial, polynomials_within rest qs others)

  -- what the text of a set says is within
  pub set_within : (ts : List (List ℕ)) (qs : List (List WrittenTerm)) → IsSetText ring ts qs → ArePolynomialsWithin (length ring) qs
  set_within ts [] h = tt
  set_within ts (q ∷ qs) (one, rest, whole, polynomial, others) = (polynomial_within one q polynomial, polynomials_within rest qs others)

-- ---- the one at a place

pub factor_at : (n : ℕ) (fs : List Factor) (i : ℕ) (d : Factor) → AreFactorsWithin n fs → i < length fs → IsFactorWithin n (get_or fs i d)
factor_at n [] i d h k = absurd (omega arith)
factor_at n (f ∷ fs) zero d h k = h.0
factor_at n (f ∷ fs) (suc i) d h k = factor_at n fs i d h.1 (omega arith)

pub term_at : (n : ℕ) (us : List WrittenTerm) (i : ℕ) (d : WrittenTerm) → AreTermsWithin n us → i < length us → IsTermWithin n (get_or us i d)
term_at n [] i d h k = absurd (omega arith)
term_at n (u ∷ us) zero d h k = h.0
term_at n (u ∷ us) (suc i) d h k = term_at n us i d h.1 (omega arith)
