-- The theorems on Gröbner bases that functions of this crate name.
use Rattle.std.specs.Prelude.{◌≡◌, ℕ, ◌<◌, true, List, [], ◌∷◌, ◌++◌, Contains, IsPermutation}
use Rattle.gf_exponents_theory.specs.Exponents.{Exponents, same, plus, join, AreCoprime}
use Rattle.gf_exponents_theory.specs.Orders.{lighter}
use Rattle.gf_poly.specs.Polynomial.{Terms, SamePolynomial}
use Rattle.gf_poly.specs.Marking.{MarkedPolynomial, polys}
use Rattle.gf_ideal_theory.specs.Membership.{IsInVariables, AreInVariables, IsMember}
use Rattle.gf_ideal_theory.specs.Marks.{IsMarked, AreMarked, IsPositive}
use Rattle.gf_ideal_theory.specs.Reduction.{IsDivisible, IsIrreducible, Reached, IsSPolynomial, IsKept, HasOneMonomial}
use Rattle.gf_ideal_theory.specs.MonomialOrders.{MonomialOrder, below_of, IsHomogeneous, IsAdmissible, Comparison, compared_by}
use Rattle.gf_ideal_theory.specs.Bases.{AreMembers, IsBasis, AreApart, HasReducedTails, IsGroebnerBasis, IsGroebnerBasisFor, IsReducedBasis}
use Rattle.gf_ideal_theory.specs.Bases.{IsReducedBasisFor, AreSameBasis, AreArranged}
use Rattle.gf_ideal_theory.specs.Settled.{IsAt, IsSettledPair, ArePairsSettled}
use Rattle.gf_ideal_theory.specs.NormalForms.{IsNormalForm}
use Rattle.gf_ideal_theory.specs.WorkLists.{IsWorkList, IsTail, AreReducedTails}

-- each generator is homogeneous
abbrev pub AreHomogeneous : ℕ → List ℕ → List Terms → Type 0
AreHomogeneous n grade fs = (f : Terms) → Contains fs f → IsHomogeneous n grade f

-- the S-polynomial of any two indices reduces to zero
abbrev pub DoPairsReduceToZero : List MarkedPolynomial → Type 0
DoPairsReduceToZero bs = (i j : ℕ) (b c : MarkedPolynomial) → i < j → IsAt bs i b → IsAt bs j c →
    (s : Terms) × IsSPolynomial b c s × Reached (Contains bs) s []

-- ---- Buchberger's criterion

-- a marked list is a Gröbner basis of the ideal that it generates exactly where all pairs are settled; and it is one
-- where all S-polynomials reduce to zero
pub record BuchbergersCriterion : Type 0 where
  pub for_weight : (n : ℕ) (w : List ℕ) (bs : List MarkedPolynomial) → AreInVariables n (polys bs) → IsPositive n w →
      AreMarked (lighter w) bs → ArePairsSettled n bs (lighter w) → IsGroebnerBasis n (polys bs) w bs
  pub weight_only_if : (n : ℕ) (w : List ℕ) (bs : List MarkedPolynomial) → AreInVariables n (polys bs) →
      IsGroebnerBasis n (polys bs) w bs → ArePairsSettled n bs (lighter w)
  pub weight_by_reduction : (n : ℕ) (w : List ℕ) (bs : List MarkedPolynomial) → AreInVariables n (polys bs) →
      IsPositive n w → AreMarked (lighter w) bs → DoPairsReduceToZero bs → IsGroebnerBasis n (polys bs) w bs
  pub for_order : (o : MonomialOrder) (n : ℕ) (grade : List ℕ) (bs : List MarkedPolynomial) → IsAdmissible o n grade →
      AreInVariables n (polys bs) → AreHomogeneous n grade (polys bs) → AreMarked (below_of o) bs →
      ArePairsSettled n bs (below_of o) → IsGroebnerBasisFor n (polys bs) (below_of o) bs
  pub order_only_if : (o : MonomialOrder) (n : ℕ) (grade : List ℕ) (bs : List MarkedPolynomial) →
      IsAdmissible o n grade → AreInVariables n (polys bs) → AreHomogeneous n grade (polys bs) →
      IsGroebnerBasisFor n (polys bs) (below_of o) bs → ArePairsSettled n bs (below_of o)
  pub order_by_reduction : (o : MonomialOrder) (n : ℕ) (grade : List ℕ) (bs : List MarkedPolynomial) →
      IsAdmissible o n grade → AreInVariables n (polys bs) → AreHomogeneous n grade (polys bs) →
      AreMarked (below_of o) bs → DoPairsReduceToZero bs → IsGroebnerBasisFor n (polys bs) (below_of o) bs

-- ---- pairs that need no reduction

-- two members of a marked list whose S-polynomial reduces to zero or to a multiple of a member, whose marks are coprime,
-- that are both monomials, or that are both settled with a third whose mark divides the least common multiple of theirs
pub record PairsAreSettled : Type 0 where
  pub by_reduction : (k : Comparison) (n : ℕ) (bs : List MarkedPolynomial) (b c : MarkedPolynomial) (s r : Terms) →
      AreInVariables n (polys bs) → AreMarked (compared_by k) bs → Contains bs b → Contains bs c →
      IsSPolynomial b c s → Reached (Contains bs) s r → IsKept (Contains bs) r →
      IsSettledPair n bs (compared_by k) b c
  pub by_product : (k : Comparison) (n : ℕ) (bs : List MarkedPolynomial) (b c : MarkedPolynomial) →
      AreInVariables n (polys bs) → AreMarked (compared_by k) bs → Contains bs b → Contains bs c →
      AreCoprime b.head c.head → IsSettledPair n bs (compared_by k) b c
  pub by_monomials : (k : Comparison) (n : ℕ) (bs : List MarkedPolynomial) (b c : MarkedPolynomial) →
      AreInVariables n (polys bs) → AreMarked (compared_by k) bs → Contains bs b → Contains bs c → HasOneMonomial b →
      HasOneMonomial c → IsSettledPair n bs (compared_by k) b c
  pub by_chain : (k : Comparison) (n : ℕ) (bs : List MarkedPolynomial) (b c d : MarkedPolynomial) (rest : Exponents) →
      AreInVariables n (polys bs) → AreMarked (compared_by k) bs → Contains bs b → Contains bs c →
      same (join b.head c.head) (plus rest d.head) ≡ true → IsSettledPair n bs (compared_by k) b d →
      IsSettledPair n bs (compared_by k) d c → IsSettledPair n bs (compared_by k) b c
  pub turned : (k : Comparison) (n : ℕ) (bs : List MarkedPolynomial) (b c : MarkedPolynomial) →
      AreInVariables n (polys bs) → AreMarked (compared_by k) bs → Contains bs b → Contains bs c →
      IsSettledPair n bs (compared_by k) b c → IsSettledPair n bs (compared_by k) c b
  pub longer : (k : Comparison) (n : ℕ) (bs cs : List MarkedPolynomial) (b c : MarkedPolynomial) →
      IsSettledPair n bs (compared_by k) b c → IsSettledPair n (bs ++ cs) (compared_by k) b c

-- ---- one basis for many weights

-- a Gröbner basis is one for each positive weight and each order that gives the same marks, and the reduced one stays so
pub record BasesGoByTheirMarks : Type 0 where
  pub weights : (n : ℕ) (fs : List Terms) (v w : List ℕ) (bs : List MarkedPolynomial) → AreInVariables n fs →
      IsGroebnerBasis n fs v bs → IsPositive n w → AreMarked (lighter w) bs → IsGroebnerBasis n fs w bs
  pub orders : (o : MonomialOrder) (n : ℕ) (fs : List Terms) (v : List ℕ) (bs : List MarkedPolynomial) →
      AreInVariables n fs → IsGroebnerBasis n fs v bs → AreMarked (below_of o) bs →
      IsGroebnerBasisFor n fs (below_of o) bs
  pub reduced_weights : (n : ℕ) (fs : List Terms) (v w : List ℕ) (bs : List MarkedPolynomial) → AreInVariables n fs →
      IsReducedBasis n fs v bs → IsPositive n w → AreMarked (lighter w) bs → IsReducedBasis n fs w bs
  pub reduced_orders : (o : MonomialOrder) (n : ℕ) (fs : List Terms) (v : List ℕ) (bs : List MarkedPolynomial) →
      AreInVariables n fs → IsReducedBasis n fs v bs → AreMarked (below_of o) bs →
      IsReducedBasisFor n fs (below_of o) bs
  pub order_to_weight : (o : MonomialOrder) (n : ℕ) (grade : List ℕ) (fs : List Terms) (bs : List MarkedPolynomial) →
      IsAdmissible o n grade → AreInVariables n fs → AreHomogeneous n grade (polys bs) →
      IsReducedBasisFor n fs (below_of o) bs → (w : List ℕ) × IsReducedBasis n fs w bs

-- ---- membership

-- with a basis, a polynomial is a member exactly where an irreducible polynomial that it reaches is zero
pub record MembershipIsDecided : Type 0 where
  pub zero : (n : ℕ) (fs : List Terms) (bs : List MarkedPolynomial) (f r : Terms) → AreInVariables n fs →
      IsBasis n fs bs → IsMember n fs f → Reached (Contains bs) f r → IsIrreducible (Contains bs) r →
      SamePolynomial r []
  pub member : (n : ℕ) (fs : List Terms) (bs : List MarkedPolynomial) (f r : Terms) → AreInVariables n fs →
      IsInVariables n f → IsBasis n fs bs → Reached (Contains bs) f r → SamePolynomial r [] → IsMember n fs f
  pub of_weight : (n : ℕ) (fs : List Terms) (w : List ℕ) (bs : List MarkedPolynomial) → IsGroebnerBasis n fs w bs →
      IsBasis n fs bs

-- normal forms by the rule are remainders, and equal polynomials have equal ones
pub record NormalFormsAreUnique : Type 0 where
  pub remainder : (bs : List MarkedPolynomial) (f r : Terms) → IsNormalForm bs f r →
      Reached (Contains bs) f r × IsIrreducible (Contains bs) r
  pub unique : (bs : List MarkedPolynomial) (f g r t : Terms) → SamePolynomial f g → IsNormalForm bs f r →
      IsNormalForm bs g t → SamePolynomial r t

-- ---- interreduction

-- members whose marks are multiples of others' may go, the rest may be exchanged for their tails, and where no mark
-- divides another mark or an unmarked monomial the basis is the reduced one
pub record BasesMayBeInterreduced : Type 0 where
  pub kept : (n : ℕ) (fs : List Terms) (bs ks : List MarkedPolynomial) → IsBasis n fs bs →
      ((b : MarkedPolynomial) → Contains ks b → Contains bs b) →
      ((b : MarkedPolynomial) → Contains bs b → IsDivisible (Contains ks) b.head) → IsBasis n fs ks
  pub tails : (n : ℕ) (fs : List Terms) (bs cs : List MarkedPolynomial) → AreInVariables n fs → IsBasis n fs bs →
      ((c : MarkedPolynomial) → Contains cs c → IsTail bs c) →
      ((b : MarkedPolynomial) → Contains bs b → (c : MarkedPolynomial) × Contains cs c × (same b.head c.head ≡ true)) →
      IsBasis n fs cs
  pub interreduced : (n : ℕ) (fs : List Terms) (bs ks cs : List MarkedPolynomial) → AreInVariables n fs →
      IsBasis n fs bs → ((k : MarkedPolynomial) → Contains ks k → Contains bs k) →
      ((b : MarkedPolynomial) → Contains bs b → IsDivisible (Contains ks) b.head) → AreApart ks →
      AreReducedTails ks ks cs → IsBasis n fs cs × HasReducedTails cs × AreApart cs
  pub tails_marked : (k : Comparison) (bs : List MarkedPolynomial) (c : MarkedPolynomial) →
      AreMarked (compared_by k) bs → IsTail bs c → IsMarked (compared_by k) c
  pub reduced : (n : ℕ) (fs : List Terms) (w : List ℕ) (bs : List MarkedPolynomial) → AreInVariables n fs →
      IsBasis n fs bs → IsPositive n w → AreMarked (lighter w) bs → HasReducedTails bs → AreApart bs →
      IsReducedBasis n fs w bs
  pub reduced_for : (o : MonomialOrder) (n : ℕ) (fs : List Terms) (bs : List MarkedPolynomial) → AreInVariables n fs →
      IsBasis n fs bs → AreMarked (below_of o) bs → HasReducedTails bs → AreApart bs →
      IsReducedBasisFor n fs (below_of o) bs

-- ---- arrangement

-- a basis stays one, and a reduced one stays reduced, in whatever order its members are listed
pub record BasesMayBeArranged : Type 0 where
  pub basis : (n : ℕ) (fs : List Terms) (bs cs : List MarkedPolynomial) → IsPermutation bs cs → IsBasis n fs bs →
      IsBasis n fs cs
  pub reduced : (n : ℕ) (fs : List Terms) (w : List ℕ) (bs cs : List MarkedPolynomial) → IsPermutation bs cs →
      IsReducedBasis n fs w bs → IsReducedBasis n fs w cs
  pub reduced_for : (o : MonomialOrder) (n : ℕ) (fs : List Terms) (bs cs : List MarkedPolynomial) →
      IsPermutation bs cs → IsReducedBasisFor n fs (below_of o) bs → IsReducedBasisFor n fs (below_of o) cs

-- ---- uniqueness

-- an ideal has one reduced Gröbner basis at most for each weight, and for each order; arranged it is one list
pub record ReducedBasesAreUnique : Type 0 where
  pub for_weight : (n : ℕ) (fs : List Terms) (w : List ℕ) (bs cs : List MarkedPolynomial) → IsReducedBasis n fs w bs →
      IsReducedBasis n fs w cs → AreSameBasis bs cs
  pub for_order : (o : MonomialOrder) (n : ℕ) (fs : List Terms) (bs cs : List MarkedPolynomial) →
      IsReducedBasisFor n fs (below_of o) bs → IsReducedBasisFor n fs (below_of o) cs → AreSameBasis bs cs
  pub arranged : (n : ℕ) (bs cs : List MarkedPolynomial) → AreArranged n bs → AreArranged n cs → AreSameBasis bs cs →
      bs ≡ cs

-- ---- Buchberger's algorithm

-- its lists hold members of the ideal, marked by the order; and a list in whose ideal the generators are, and whose
-- pairs are settled, is a Gröbner basis of the ideal of the generators
pub record RunsEndWithABasis : Type 0 where
  pub members : (n : ℕ) (fs : List Terms) (o : MonomialOrder) (bs : List MarkedPolynomial) → AreInVariables n fs →
      IsWorkList fs (below_of o) bs → AreMembers n fs bs
  pub marked : (fs : List Terms) (o : MonomialOrder) (bs : List MarkedPolynomial) → IsWorkList fs (below_of o) bs →
      AreMarked (below_of o) bs
  pub homogeneous : (n : ℕ) (grade : List ℕ) (fs : List Terms) (o : MonomialOrder) (bs : List MarkedPolynomial) →
      AreHomogeneous n grade fs → IsWorkList fs (below_of o) bs → AreHomogeneous n grade (polys bs)
  pub basis : (o : MonomialOrder) (n : ℕ) (grade : List ℕ) (fs : List Terms) (bs : List MarkedPolynomial) →
      IsAdmissible o n grade → AreInVariables n fs → AreHomogeneous n grade fs → IsWorkList fs (below_of o) bs →
      ((f : Terms) → Contains fs f → IsMember n (polys bs) f) → ArePairsSettled n bs (below_of o) → IsBasis n fs bs
  pub for_order : (o : MonomialOrder) (n : ℕ) (grade : List ℕ) (fs : List Terms) (bs : List MarkedPolynomial) →
      IsAdmissible o n grade → AreInVariables n fs → AreHomogeneous n grade fs → IsWorkList fs (below_of o) bs →
      ((f : Terms) → Contains fs f → IsMember n (polys bs) f) → ArePairsSettled n bs (below_of o) →
      IsGroebnerBasisFor n fs (below_of o) bs

-- ---- the smallest bases

-- the zero ideal has the empty basis; a monic polynomial that a positive weight marks is the reduced basis of its ideal
pub record SmallIdealsHaveBases : Type 0 where
  pub zero_ideal : (n : ℕ) (w : List ℕ) → IsPositive n w → IsReducedBasis n [] w []
  pub principal_ideal : (n : ℕ) (w : List ℕ) (b : MarkedPolynomial) → IsPositive n w → IsInVariables n b.poly →
      IsMarked (lighter w) b → IsReducedBasis n (b.poly ∷ []) w (b ∷ [])
