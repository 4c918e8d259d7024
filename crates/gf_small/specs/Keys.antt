-- The key of a polynomial: the numbers of its terms in a list.
-- Laws: proofs/KeyLaws.antt.
use Rattle.std.specs.Prelude.{◌≡◌, All, ℤ, pos, List, [], ◌∷◌, ◌++◌, map}
use Rattle.gf_poly.specs.declared.Term.{Term}
use Rattle.gf_poly.specs.Polynomial.{Terms, IsDescending}
use Rattle.gf_text.specs.declared.written.Written.{Written}
use Rattle.gf_small.specs.Unions.{terms_of}

-- the numbers of a term: the numerator and the denominator of its coefficient, and its exponents
abbrev pub term_key : Term → List ℤ
term_key t = t.coef.num ∷ pos t.coef.den ∷ map pos t.mono

-- the numbers of the terms, one term after another
abbrev pub terms_key : Terms → List ℤ
terms_key [] = []
terms_key (t ∷ f) = term_key t ++ terms_key f

-- the keys of polynomials, each of which may be zero
abbrev pub keys_of : List Written → List (List ℤ)
keys_of [] = []
keys_of (w ∷ ws) = terms_key (terms_of w) ∷ keys_of ws

-- keys has the keys of the polynomials that are kept, and the terms of each of these descend
pub record AreKeyed (kept : List Written) (keys : List (List ℤ)) : Type 0 where
  pub each : keys ≡ keys_of kept
  pub descending : All (λ v. IsDescending (terms_of v)) kept
