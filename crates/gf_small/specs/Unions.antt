-- The union of sets of polynomials: each polynomial once, at its first occurrence.
-- Laws: proofs/UnionsLaws.antt.
use Rattle.std.specs.Prelude.{◌≡◌, ℕ, All, Any, List, [], ◌∷◌, ◌++◌, flat_map}
use Rattle.gf_poly.specs.Polynomial.{Terms, SamePolynomial}
use Rattle.gf_text.specs.declared.written.Written.{Written}
use Rattle.gf_text.specs.declared.written.Written.TheVariants as written
use Rattle.gf_text.specs.SetLists.{AreAllIn}

-- the terms of a polynomial that may be zero
abbrev pub terms_of : Written → Terms
terms_of written.Zero = []
terms_of (written.Nonzero b) = b.poly

-- v and w are equal as polynomials; their marks may differ
abbrev pub AreEqual : Written → Written → Type 0
AreEqual v w = SamePolynomial (terms_of v) (terms_of w)

-- some polynomial of the list is equal to w
abbrev pub IsAmong : Written → List Written → Type 0
IsAmong w vs = Any (λ v. AreEqual v w) vs

-- no polynomial of the list is equal to w
abbrev pub IsNew : Written → List Written → Type 0
IsNew w vs = All (λ v. AreEqual v w → ⊥) vs

-- the second list has the polynomials of the first one in the same order, but of equal polynomials only the first
pub data AreFirstSeen : List Written → List Written → Type 0 where
  nothing : AreFirstSeen [] []
  added : (fs kept whole more : List Written) (w : Written) → whole ≡ fs ++ w ∷ [] → more ≡ kept ++ w ∷ [] → IsNew w kept → AreFirstSeen fs kept →
      AreFirstSeen whole more
  dropped : (fs kept whole : List Written) (w : Written) → whole ≡ fs ++ w ∷ [] → IsAmong w kept → AreFirstSeen fs kept → AreFirstSeen whole kept

-- union has the polynomials of the sets, one set after another, but of equal polynomials only the first
abbrev pub IsUnion : List (List Written) → List Written → Type 0
IsUnion sets union = AreFirstSeen (flat_map (λ s. s) sets) union

-- all polynomials of these sets have the same number of variables
pub record HaveOneLength (sets : List (List Written)) : Type 0 where
  pub n : ℕ
  pub each : AreAllIn n sets
