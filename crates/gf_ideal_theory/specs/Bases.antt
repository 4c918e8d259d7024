-- Gröbner bases of the ideal of polynomials in n variables, marked and monic: for a weight, for an order, reduced.
-- "For a weight" looks at the terms of greatest weight of each member, "for an order" at the greatest term.
-- Laws: proofs/BasisLaws.antt, proofs/UniquenessLaws.antt. Source: Cox, Little, O'Shea, Ideals, Varieties, and
-- Algorithms, 2.5 to 2.7; Fukuda, Jensen, Thomas, Computing Gröbner fans, 2.
use Rattle.std.specs.Prelude.{◌≡◌, ◌⊎◌, ℕ, ◌≤◌, true, List, [], ◌∷◌, Contains, length}
use Rattle.gf_exponents_theory.specs.Exponents.{Exponents, same, weight, NoMultiple}
use Rattle.gf_exponents_theory.specs.Orders.{lighter, IsLexBelow}
use Rattle.gf_poly.specs.Polynomial.{Terms, SamePolynomial, HasVariables, IsDescending}
use Rattle.gf_poly.specs.Marking.{MarkedPolynomial, Each}
use Rattle.gf_ideal_theory.specs.Membership.{HasMonomial, IsMember}
use Rattle.gf_ideal_theory.specs.Marks.{AreMarked, IsPositive, HasPositiveWeight}
use Rattle.gf_ideal_theory.specs.Reduction.{IsDivisible, IsIrreducible}

-- each of the marked polynomials is in the ideal of fs
abbrev pub AreMembers : ℕ → List Terms → List MarkedPolynomial → Type 0
AreMembers n fs bs = (b : MarkedPolynomial) → Contains bs b → IsMember n fs b.poly

-- ---- bases without a choice of weight or order

-- bs is a basis of the ideal of fs for its own marking: members, marked by some positive weight, and no member of the
-- ideal but 0 is irreducible by them
pub record IsBasis (n : ℕ) (fs : List Terms) (bs : List MarkedPolynomial) : Type 0 where
  pub members : AreMembers n fs bs
  pub marked : HasPositiveWeight n bs
  pub decides : (f : Terms) → IsMember n fs f → IsIrreducible (Contains bs) f → SamePolynomial f []

-- ---- leading monomials

-- x is a monomial of f of greatest weight
pub record IsHeaviest (w : List ℕ) (f : Terms) (x : Exponents) : Type 0 where
  pub there : HasMonomial f x
  pub heaviest : (y : Exponents) → HasMonomial f y → weight w y ≤ weight w x

-- x is the greatest monomial of f
pub record IsGreatest (below : Exponents → Exponents → Type 0) (f : Terms) (x : Exponents) : Type 0 where
  pub there : HasMonomial f x
  pub greatest : (y : Exponents) → HasMonomial f y → (same y x ≡ true) ⊎ below y x

-- ---- Gröbner bases, where `IsLeading f x` says that x is a leading monomial of f

-- a Gröbner basis: monic members of the ideal whose marks lead, such that a mark divides each leading monomial of each member of the ideal
pub record IsGroebnerBasisBy (n : ℕ) (fs : List Terms) (below : Exponents → Exponents → Type 0) (IsLeading : Terms → Exponents → Type 0)
    (bs : List MarkedPolynomial) : Type 0 where
  pub members : AreMembers n fs bs
  pub marked : AreMarked below bs
  pub initial : (f : Terms) → IsMember n fs f → (x : Exponents) → IsLeading f x → IsDivisible (Contains bs) x

-- no mark divides the mark at another index
abbrev pub AreApart : List MarkedPolynomial → Type 0
AreApart [] = Unit {0}
AreApart (b ∷ bs) = Each (λ (c : MarkedPolynomial). NoMultiple b.head c.head × NoMultiple c.head b.head) bs × AreApart bs

-- no mark divides an unmarked monomial
abbrev pub HasReducedTails : List MarkedPolynomial → Type 0
HasReducedTails bs = (b : MarkedPolynomial) → Contains bs b → (x : Exponents) → HasMonomial b.poly x →
    IsDivisible (Contains bs) x → same x b.head ≡ true

-- the reduced Gröbner basis: no mark divides another mark, nor an unmarked monomial
pub record IsReducedBy (n : ℕ) (fs : List Terms) (below : Exponents → Exponents → Type 0) (IsLeading : Terms → Exponents → Type 0)
    (bs : List MarkedPolynomial) : Type 0 where
  pub basis : IsGroebnerBasisBy n fs below IsLeading bs
  pub tails : HasReducedTails bs
  pub heads : AreApart bs

-- ---- for a weight

-- a Gröbner basis for the positive weight w, which sets each mark above the rest
pub record IsGroebnerBasis (n : ℕ) (fs : List Terms) (w : List ℕ) (bs : List MarkedPolynomial) : Type 0 where
  pub positive : IsPositive n w
  pub basis : IsGroebnerBasisBy n fs (lighter w) (IsHeaviest w) bs

-- the reduced Gröbner basis for the positive weight w
pub record IsReducedBasis (n : ℕ) (fs : List Terms) (w : List ℕ) (bs : List MarkedPolynomial) : Type 0 where
  pub positive : IsPositive n w
  pub reduced : IsReducedBy n fs (lighter w) (IsHeaviest w) bs

-- ---- for an order

-- a Gröbner basis for the order, marked at the greatest monomials
abbrev pub IsGroebnerBasisFor : ℕ → List Terms → (Exponents → Exponents → Type 0) → List MarkedPolynomial → Type 0
IsGroebnerBasisFor n fs below bs = IsGroebnerBasisBy n fs below (IsGreatest below) bs

-- the reduced Gröbner basis for the order, marked at the greatest monomials
abbrev pub IsReducedBasisFor : ℕ → List Terms → (Exponents → Exponents → Type 0) → List MarkedPolynomial → Type 0
IsReducedBasisFor n fs below bs = IsReducedBy n fs below (IsGreatest below) bs

-- ---- equal bases

-- the same mark and the same polynomial
pub record IsTwin (b c : MarkedPolynomial) : Type 0 where
  pub head : same b.head c.head ≡ true
  pub poly : SamePolynomial b.poly c.poly

-- each of the one list has a twin in the other, and back
pub record AreSameBasis (bs cs : List MarkedPolynomial) : Type 0 where
  pub there : (b : MarkedPolynomial) → Contains bs b → (c : MarkedPolynomial) × Contains cs c × IsTwin b c
  pub back : (c : MarkedPolynomial) → Contains cs c → (b : MarkedPolynomial) × Contains bs b × IsTwin b c

-- ---- bases as a program keeps them

-- a marked polynomial in n variables, whose terms descend in deglex and have nonzero coefficients
pub record IsCanonical (n : ℕ) (b : MarkedPolynomial) : Type 0 where
  pub variables : HasVariables n b.poly
  pub descending : IsDescending b.poly
  pub head : length b.head ≡ n

-- the marks ascend by lex, no two the same
abbrev pub HaveAscendingMarks : List MarkedPolynomial → Type 0
HaveAscendingMarks [] = Unit {0}
HaveAscendingMarks (b ∷ bs) = Each (λ (c : MarkedPolynomial). IsLexBelow b.head c.head) bs × HaveAscendingMarks bs

-- a basis as a program keeps it: each polynomial in the form of `IsCanonical`, and the marks ascend by lex
pub record AreArranged (n : ℕ) (bs : List MarkedPolynomial) : Type 0 where
  pub canonical : (b : MarkedPolynomial) → Contains bs b → IsCanonical n b
  pub ascending : HaveAscendingMarks bs
