-- Tails of lifts, as the code reduces them in place, one lift after another: which stay as they are, and what the others
-- become. Laws: proofs/LiftTailLaws.antt, proofs/TailsInTurn.antt, proofs/LiftedTails.antt.
use Rattle.std.specs.Prelude.{◌≡◌, ◌⊎◌, ℕ, ◌+◌, ◌<◌, ◌≤◌, Bool, true, false, Some, List, length, set, Contains, slice_index_or}
use Rattle.gf_exponents_theory.specs.Exponents.{Exponents, same, Divides}
use Rattle.gf_poly.specs.declared.Term.{Term}
use Rattle.gf_poly.specs.Marking.{MarkedPolynomial, Each}
use Rattle.gf_ideal_theory.specs.Settled.{IsAt}
use Rattle.gf_division.specs.Autoreduction.{IsKeptForm}
use Rattle.gf_division.specs.Remainders.{ReachedBeside}
use Rattle.gf_initial_theory.specs.Parts.{Matching}
use Rattle.gf_strands.specs.Members.{HasReducedTail}

-- a lift with a flag is one of bs
abbrev pub IsCopy : List MarkedPolynomial → MarkedPolynomial → Bool → Type 0
IsCopy bs l true = Contains bs l
IsCopy bs l false = Unit {0}

-- so it is with each
abbrev pub AreCopies : List MarkedPolynomial → List MarkedPolynomial → List Bool → Type 0
AreCopies bs ls flags = Matching (IsCopy bs) ls flags

-- the first k flags are set
abbrev pub AreCopiedTo : List Bool → ℕ → Type 0
AreCopiedTo flags k = (j : ℕ) → j < k → slice_index_or flags j false ≡ true

-- so are those from the index k on that are before the index i
abbrev pub AreCopiedFrom : List Bool → ℕ → ℕ → Type 0
AreCopiedFrom flags k i = (j : ℕ) → k ≤ j → j < i → slice_index_or flags j false ≡ true

-- so are all before the first index and from the end on
pub record AreCopiedBeside (flags : List Bool) (first end : ℕ) : Type 0 where
  pub front : AreCopiedTo flags first
  pub back : AreCopiedFrom flags end (length flags)
  pub within : end ≤ length flags

-- so it is where a lift is copied too; for another one there are none beside
pub record AreSparedBeside (flags : List Bool) (copied : Bool) (first end : ℕ) : Type 0 where
  pub front : (j : ℕ) → j < first → (copied ≡ true) × (slice_index_or flags j false ≡ true)
  pub back : (j : ℕ) → end ≤ j → j < length flags → (copied ≡ true) × (slice_index_or flags j false ≡ true)
  pub within : end ≤ length flags

-- no mark of the lifts before the index i divides x, but that of a copied one where x is of a copied one
pub record AreUndivided (ls : List MarkedPolynomial) (flags : List Bool) (copied : Bool) (x : Exponents) (i : ℕ) : Type 0 where
  pub none : (j : ℕ) (b : MarkedPolynomial) → j < i → IsAt ls j b → (copied ≡ true → slice_index_or flags j false ≡ true → ⊥) → Divides b.head x → ⊥

-- so it is with each unmarked term of b
abbrev pub HasUndividedTail : List MarkedPolynomial → List Bool → Bool → MarkedPolynomial → Type 0
HasUndividedTail ls flags copied b = Each (λ (t : Term). (same t.mono b.head ≡ true) ⊎ AreUndivided ls flags copied t.mono (length ls)) b.poly

-- so it is with the lift at the index i, which is kept in as many variables
pub record HasUndividedTailAt (ls : List MarkedPolynomial) (flags : List Bool) (i : ℕ) : Type 0 where
  pub tail : (b : MarkedPolynomial) → IsAt ls i b → HasUndividedTail ls flags (slice_index_or flags i false) b
  pub kept : (b : MarkedPolynomial) → IsAt ls i b → IsKeptForm b b

-- ---- one tail

-- c is b with its tail reduced by bs, and kept in as many variables
pub record IsReducedLift (bs : List MarkedPolynomial) (b c : MarkedPolynomial) : Type 0 where
  pub head : c.head ≡ b.head
  pub reached : ReachedBeside bs (Some b.head) b.poly c.poly
  pub irreducible : HasReducedTail bs c
  pub kept : IsKeptForm b c

-- so it is with the lift at the index i
pub record IsReducedLiftAt (ls : List MarkedPolynomial) (i : ℕ) (c : MarkedPolynomial) : Type 0 where
  pub at : (b : MarkedPolynomial) → IsAt ls i b → IsReducedLift ls b c

-- ---- one lift after another

-- the lift at the index i stays, or is put in with its tail reduced by the list
abbrev pub IsNextInTurn : List MarkedPolynomial → List Bool → ℕ → List MarkedPolynomial → Type 0
IsNextInTurn ms flags i ns = ((ns ≡ ms) × HasUndividedTailAt ms flags i) ⊎ ((c : MarkedPolynomial) × IsReducedLiftAt ms i c × (ns ≡ set ms i c))

-- so it was with each of the first i lifts of ls, one after another
pub data AreTailsInTurn (ls : List MarkedPolynomial) (flags : List Bool) : ℕ → List MarkedPolynomial → Type 0 where
  none : AreTailsInTurn ls flags 0 ls
  more : (i : ℕ) (ms ns : List MarkedPolynomial) → AreTailsInTurn ls flags i ms → i < length ms → IsNextInTurn ms flags i ns →
      AreTailsInTurn ls flags (i + 1) ns
