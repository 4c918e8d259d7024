-- Pairs that need no reduction: those with coprime marks, and those that an earlier third member settles.
-- Laws: proofs/CriteriaLaws.antt.
-- Source: Cox, Little, O'Shea, Ideals, Varieties, and Algorithms, 2.9; Becker, Weispfenning, Gröbner Bases, 5.5 (Buchberger's criteria).
use Rattle.std.specs.Prelude.{◌≢◌, ◌⊎◌, ℕ, ◌<◌, List, [], length}
use Rattle.gf_exponents_theory.specs.Exponents.{Exponents, Divides, AreCoprime, join}
use Rattle.gf_poly.specs.Polynomial.{Terms}
use Rattle.gf_poly.specs.Marking.{MarkedPolynomial}
use Rattle.gf_ideal_theory.specs.Settled.{IsAt}
use Rattle.gf_reduced.specs.Pairs.{IsRemainderAt, Vanishes}

-- the mark of a member with an index below i divides x
pub record IsDividedBefore (bs : List MarkedPolynomial) (i : ℕ) (x : Exponents) : Type 0 where
  pub index : ℕ
  pub before : index < i
  pub member : MarkedPolynomial
  pub at : IsAt bs index member
  pub divides : Divides member.head x

-- the marks of the members at i and j are coprime, or the mark of a member before i divides the least common multiple of theirs
pub record IsPairExcused (bs : List MarkedPolynomial) (i j : ℕ) : Type 0 where
  pub first : MarkedPolynomial
  pub second : MarkedPolynomial
  pub at_first : IsAt bs i first
  pub at_second : IsAt bs j second
  pub criterion : AreCoprime first.head second.head ⊎ IsDividedBefore bs i (join first.head second.head)

-- the pair of the members at i and j needs no reduction, or its S-polynomial has the normal form zero
abbrev pub IsPassed : List MarkedPolynomial → ℕ → ℕ → Type 0
IsPassed bs i j = IsPairExcused bs i j ⊎ Vanishes bs i j

-- each pair of the member at i and a later one needs no reduction, or its S-polynomial has the normal form zero
abbrev pub ArePassedFrom : List MarkedPolynomial → ℕ → Type 0
ArePassedFrom bs i = (j : ℕ) → i < j → j < length bs → IsPassed bs i j

-- each pair of members needs no reduction, or its S-polynomial has the normal form zero
abbrev pub AreAllPassed : List MarkedPolynomial → Type 0
AreAllPassed bs = (i : ℕ) → i < length bs → ArePassedFrom bs i

-- the S-polynomial of some two members has a nonzero normal form
pub record HasFailing (bs : List MarkedPolynomial) : Type 0 where
  pub first : ℕ
  pub second : ℕ
  pub rest : Terms
  pub remainder : IsRemainderAt bs first second rest
  pub nonzero : rest ≢ []
