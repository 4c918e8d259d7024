-- What a text of a set may say: powers of the ring's variables, numbers within their limits.
-- Laws: proofs/LimitsLaws.antt.
use Rattle.std.specs.Prelude.{ℕ, ◌<◌, ◌^◌, List, [], ◌∷◌}
use Rattle.gf_text.specs.declared.tree.Factor.{Factor}
use Rattle.gf_text.specs.declared.tree.WrittenTerm.{WrittenTerm}

-- a power of one of n variables, its exponent at most 2^31 - 1
pub record IsFactorWithin (n : ℕ) (f : Factor) : Type 0 where
  pub variable : f.variable < n
  pub exponent : f.exponent < 2 ^ 31

-- each power is
abbrev pub AreFactorsWithin : ℕ → List Factor → Type 0
AreFactorsWithin n [] = Unit {0}
AreFactorsWithin n (f ∷ fs) = IsFactorWithin n f × AreFactorsWithin n fs

-- a term in n variables; numerator and denominator are at most 2^127 - 1, and the second isn't zero
pub record IsTermWithin (n : ℕ) (u : WrittenTerm) : Type 0 where
  pub numer : u.numer < 2 ^ 127
  pub denom : u.denom < 2 ^ 127
  pub nonzero : 0 < u.denom
  pub factors : AreFactorsWithin n u.factors

-- each term of a polynomial is
abbrev pub AreTermsWithin : ℕ → List WrittenTerm → Type 0
AreTermsWithin n [] = Unit {0}
AreTermsWithin n (u ∷ us) = IsTermWithin n u × AreTermsWithin n us

-- each polynomial of a set is
abbrev pub ArePolynomialsWithin : ℕ → List (List WrittenTerm) → Type 0
ArePolynomialsWithin n [] = Unit {0}
ArePolynomialsWithin n (q ∷ qs) = AreTermsWithin n q × ArePolynomialsWithin n qs
