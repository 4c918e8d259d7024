-- A run of Buchberger's algorithm that takes the pairs in turn: by the second member, then by the first. Where it stands is
-- told by two indices, with no mark of a pair. Laws: proofs/TurnLaws.antt.
-- Source: Cox, Little, O'Shea, Ideals, Varieties, and Algorithms, 2.7.
use Rattle.std.specs.Prelude.{◌≡◌, ◌⊎◌, ℕ, ◌<◌, true, List, length, take, Contains}
use Rattle.gf_exponents_theory.specs.Exponents.{Exponents, AreCoprime, Divides, join, minus, plus, same}
use Rattle.gf_exponents_theory.specs.SixOrders.{MonomialOrder, below_of}
use Rattle.gf_poly.specs.Polynomial.{Terms, HasVariables}
use Rattle.gf_poly.specs.Marking.{MarkedPolynomial, polys}
use Rattle.gf_ideal_theory.specs.Membership.{HasMonomial, IsMember}
use Rattle.gf_ideal_theory.specs.Reduction.{IsIrreducible, IsSPolynomial, HasOneMonomial}
use Rattle.gf_ideal_theory.specs.Settled.{IsAt, IsSettledPair}
use Rattle.gf_ideal_theory.specs.WorkLists.{IsWorkList}
use Rattle.gf_buchberger.specs.Tasks.{IsBasisTask}
use Rattle.gf_buchberger.specs.Runs.{MembersHaveVariables}
use Rattle.gf_strands.specs.Monomials.{AreLaterUndivided}
use Rattle.gf_strands.specs.Forms.{HasCover, IsTakenIn}

-- ---- one step

-- the pair needs no reduction: both have one monomial, or the marks are coprime
abbrev pub ArePairExcused : MarkedPolynomial → MarkedPolynomial → Type 0
ArePairExcused b c = (HasOneMonomial b × HasOneMonomial c) ⊎ AreCoprime b.head c.head

-- the mark of one of ds divides x
pub record IsChained (ds : List MarkedPolynomial) (x : Exponents) : Type 0 where
  pub index : ℕ
  pub member : MarkedPolynomial
  pub at : IsAt ds index member
  pub divides : Divides member.head x

-- the mark of a member with one monomial divides each monomial of b but the marked one, multiplied by u
pub record HasCoveredTail (bs : List MarkedPolynomial) (u : Exponents) (b : MarkedPolynomial) : Type 0 where
  pub at : (y : Exponents) → HasMonomial b.poly y → (same y b.head ≡ true) ⊎ HasCover bs (plus u y)

-- so it is of both, raised to the least common multiple of the marks
pub record IsPairCovered (bs : List MarkedPolynomial) (b c : MarkedPolynomial) : Type 0 where
  pub first : HasCoveredTail bs (minus (join b.head c.head) b.head) b
  pub second : HasCoveredTail bs (minus (join b.head c.head) c.head) c

-- the pair of the members at i and j is excused, or there is a chain by a member before both, or members with one monomial cover it, or
-- its S-polynomial was taken in
pub data IsPairTaken (order : MonomialOrder) (i j : ℕ) (old new : List MarkedPolynomial) : Type 0 where
  excused : (b c : MarkedPolynomial) → IsAt old i b → IsAt old j c → ArePairExcused b c → new ≡ old → IsPairTaken order i j old new
  chained : (b c : MarkedPolynomial) → IsAt old i b → IsAt old j c → IsChained (take i old) (join b.head c.head) → new ≡ old → IsPairTaken order i j old new
  covered : (b c : MarkedPolynomial) → IsAt old i b → IsAt old j c → IsPairCovered old b c → new ≡ old → IsPairTaken order i j old new
  reduced : (b c : MarkedPolynomial) (s : Terms) → IsAt old i b → IsAt old j c → IsSPolynomial b c s →
      ((n : ℕ) → MembersHaveVariables n old → HasVariables n s) → IsTakenIn order s old new → IsPairTaken order i j old new

-- each of the first k members has one monomial
abbrev pub AreSingleTo : List MarkedPolynomial → ℕ → Type 0
AreSingleTo bs k = (j : ℕ) (b : MarkedPolynomial) → j < k → IsAt bs j b → HasOneMonomial b

-- ---- where a run stands

-- bs is a list of a run on fs in n variables by the order, where no mark divides a monomial of a later member
pub record IsUnderway (order : MonomialOrder) (n : ℕ) (fs : List Terms) (bs : List MarkedPolynomial) : Type 0 where
  pub task : IsBasisTask order n fs
  pub work : IsWorkList fs (below_of order) bs
  pub variables : MembersHaveVariables n bs
  pub later : AreLaterUndivided bs

-- no mark of bs divides a monomial of one of fs
pub record AreUndividedBy (bs : List MarkedPolynomial) (fs : List Terms) : Type 0 where
  pub at : (f : Terms) → Contains fs f → IsIrreducible (Contains bs) f

-- each polynomial of fs is in the ideal of bs
pub record AreTakenIn (n : ℕ) (fs : List Terms) (bs : List MarkedPolynomial) : Type 0 where
  pub inside : (f : Terms) → Contains fs f → IsMember n (polys bs) f

-- bs is a list of such a run; those polynomials wait that aren't in its ideal yet
pub record IsEntering (order : MonomialOrder) (n : ℕ) (fs : List Terms) (waiting : List Terms) (bs : List MarkedPolynomial) : Type 0 where
  pub underway : IsUnderway order n fs bs
  pub inside : (f : Terms) → Contains fs f → IsMember n (polys bs) f ⊎ Contains waiting f
  pub within : (f : Terms) → Contains waiting f → Contains fs f

-- so it is for some list fs
pub record HasEntering (order : MonomialOrder) (n : ℕ) (waiting : List Terms) (bs : List MarkedPolynomial) : Type 0 where
  pub polynomials : List Terms
  pub entering : IsEntering order n polynomials waiting bs

-- where the old members are such a list, so are the new ones, of which others wait, whatever list the run is on
pub record KeepsEntering (order : MonomialOrder) (n : ℕ) (before : List Terms) (old : List MarkedPolynomial) (after : List Terms)
    (new : List MarkedPolynomial) : Type 0 where
  pub at : (fs : List Terms) → IsEntering order n fs before old → IsEntering order n fs after new

-- the pair of p and q is taken before that of i and j
abbrev pub IsEarlier : ℕ → ℕ → ℕ → ℕ → Type 0
IsEarlier p q i j = (q < j) ⊎ ((q ≡ j) × (p < i))

-- all pairs before that of i and j are settled
pub record IsTurning (order : MonomialOrder) (n : ℕ) (fs : List Terms) (bs : List MarkedPolynomial) (i j : ℕ) : Type 0 where
  pub underway : IsUnderway order n fs bs
  pub settled : (p q : ℕ) (b c : MarkedPolynomial) → p < q → IsEarlier p q i j → IsAt bs p b → IsAt bs q c → IsSettledPair n bs (below_of order) b c

-- so it is for some list fs
pub record HasTurning (order : MonomialOrder) (n : ℕ) (bs : List MarkedPolynomial) (i j : ℕ) : Type 0 where
  pub polynomials : List Terms
  pub turning : IsTurning order n polynomials bs i j

-- where the pairs before that of i and j are settled among the old members, those before that of p and q are among the new ones, whatever
-- list the run is on
pub record KeepsTurning (order : MonomialOrder) (n : ℕ) (old : List MarkedPolynomial) (i j : ℕ) (new : List MarkedPolynomial) (p q : ℕ) : Type 0 where
  pub at : (fs : List Terms) → IsTurning order n fs old i j → IsTurning order n fs new p q

-- each member of the one list is one of the other
pub record AreKeptIn (old new : List MarkedPolynomial) : Type 0 where
  pub at : (b : MarkedPolynomial) → Contains old b → Contains new b

-- where the members at the start are such a list, all polynomials are in the ideal at the end, and all pairs are settled, whatever list the run
-- is on
pub record LeadsToEnd (order : MonomialOrder) (n : ℕ) (waiting : List Terms) (start end : List MarkedPolynomial) : Type 0 where
  pub turning : (fs : List Terms) → IsEntering order n fs waiting start → IsTurning order n fs end 0 (length end)
  pub entered : (fs : List Terms) → IsEntering order n fs waiting start → AreTakenIn n fs end
