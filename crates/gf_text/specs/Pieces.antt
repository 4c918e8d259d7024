-- Polynomials that are summed piece by piece while they are read.
-- Of the first terms only their sum and the monomial of the first one are kept; this is enough where that one remains.
-- Laws: proofs/PiecesLaws.antt, proofs/SetPiecesLaws.antt.
use Rattle.std.specs.Prelude.{◌≡◌, ℕ, List, [], ◌∷◌, ◌++◌, Option, Some, None, Ok}
use Rattle.gf_poly.specs.declared.Term.{Term}
use Rattle.gf_poly.specs.Polynomial.{Terms, SamePolynomial, IsDescending, HasVariables, KeepsVariables}
use Rattle.gf_poly.specs.Collecting.{LikeSumsFit}
use Rattle.gf_text.specs.declared.pieces.Front.{Front}
use Rattle.gf_text.specs.declared.tree.WrittenTerm.{WrittenTerm}
use Rattle.gf_text.specs.declared.combine.Sums.{Sums}
use Rattle.gf_text.specs.declared.set_reader.Part.{Part}
use Rattle.gf_text.specs.declared.set_reader.SetPlace.{SetPlace}
use Rattle.gf_text.specs.declared.set_reader.SetPlace.TheVariants as at
use Rattle.gf_text.specs.Combining.{terms_written}
use Rattle.gf_text.specs.Sets.{HasSums}

-- ---- the first terms of a polynomial

-- g has the sum of the terms of f, which have n variables and whose sums of like terms stay in range, and the monomial of the first of them
pub record IsSumFrom (n : ℕ) (f : Terms) (g : Front) : Type 0 where
  pub head : Term
  pub others : Terms
  pub whole : f ≡ head ∷ others
  pub monomial : head.mono ≡ g.first
  pub fits : LikeSumsFit f
  pub same : SamePolynomial g.poly f
  pub descending : IsDescending g.poly
  pub keeps : KeepsVariables f g.poly
  pub variables : HasVariables n f

-- the same of terms as they are written
pub record IsFrontSum (n : ℕ) (us : List WrittenTerm) (g : Front) : Type 0 where
  pub terms : Terms
  pub exponents : terms_written n us ≡ Ok terms
  pub sum : IsSumFrom n terms g

-- these first terms are summed
abbrev pub IsFront : ℕ → List WrittenTerm → Option Front → Type 0
IsFront n us None = us ≡ []
IsFront n us (Some g) = IsFrontSum n us g

-- some first terms are
abbrev pub HasFront : ℕ → Option Front → Type 0
HasFront n g = (us : List WrittenTerm) × IsFront n us g

-- whatever first terms are summed and these follow, the same terms are those that are summed then and those that follow then
abbrev pub Takes : ℕ → Option Front → List WrittenTerm → Option Front → List WrittenTerm → Type 0
Takes n f us g vs = (ws : List WrittenTerm) → IsFront n ws f → (xs : List WrittenTerm) × IsFront n xs g × (xs ++ vs ≡ ws ++ us)

-- behind the first name or number of a term, so that those before it are read
abbrev pub IsBegun : SetPlace → Type 0
IsBegun at.Name = Unit {0}
IsBegun at.Number = Unit {0}
IsBegun at.Brace = ⊥
IsBegun at.First = ⊥
IsBegun at.Polynomial = ⊥
IsBegun at.Term = ⊥
IsBegun at.Denominator = ⊥
IsBegun at.Star = ⊥
IsBegun at.Exponent = ⊥
IsBegun at.Behind = ⊥

-- ---- polynomials whose first terms are summed

-- these first terms stand at the front of the first polynomial, where there is one
abbrev pub fronted : List WrittenTerm → List (List WrittenTerm) → List (List WrittenTerm)
fronted us [] = []
fronted us (q ∷ qs) = (us ++ q) ∷ qs

-- the first terms that belong to none of these polynomials
abbrev pub waiting : List WrittenTerm → List (List WrittenTerm) → List WrittenTerm
waiting us [] = us
waiting us (q ∷ qs) = []

-- what is read, where these first terms of the polynomial were read before
abbrev pub joined : List WrittenTerm → Part → Part
joined us p = record p { polynomials = fronted us p.polynomials; terms = waiting us p.polynomials ++ p.terms }

-- whatever polynomials stand before it, and whatever first terms are summed, what came of them comes to this with these
abbrev pub AddsBehind : ℕ → List (List WrittenTerm) → Option Front → Sums → Option Front → Sums → Type 0
AddsBehind n ps f old g new = (qs : List (List WrittenTerm)) (us : List WrittenTerm) → HasSums n qs old → IsFront n us f →
    HasSums n (qs ++ fronted us ps) new × IsFront n (waiting us ps) g

-- the polynomials that are read are added, and some more of the terms may be summed
pub record IsSettled (n : ℕ) (qs : List (List WrittenTerm)) (us : List WrittenTerm) (old new : Part) (g : Option Front) (sums : Sums) : Type 0 where
  pub front : List WrittenTerm
  pub come : HasSums n (qs ++ fronted us old.polynomials) sums
  pub summed : IsFront n front g
  pub none : new.polynomials ≡ []
  pub same : joined front new ≡ record (joined us old) { polynomials = [] }

-- the same, whatever polynomials stand before them, and whatever first terms are summed
abbrev pub Settles : ℕ → Part → Option Front → Sums → Part → Option Front → Sums → Type 0
Settles n old f before new g sums = (qs : List (List WrittenTerm)) (us : List WrittenTerm) → HasSums n qs before → IsFront n us f →
    IsSettled n qs us old new g sums
