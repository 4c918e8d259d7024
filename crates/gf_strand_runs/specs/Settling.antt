-- The reduced basis of the strands of a run: those that are needed, their tails reduced in place. Laws: proofs/SettlingLaws.antt.
-- Source: Cox, Little, O'Shea, Ideals, Varieties, and Algorithms, 2.7.
use Rattle.std.specs.Prelude.{◌≡◌, ◌⊎◌, ℕ, ℤ, ◌<◌, Bool, true, false, List, length, set, get_or, Contains}
use Rattle.gf_exponents_theory.specs.Exponents.{Exponents}
use Rattle.gf_exponents_theory.specs.SixOrders.{MonomialOrder, below_of}
use Rattle.gf_poly.specs.Polynomial.{Terms}
use Rattle.gf_poly.specs.Marking.{MarkedPolynomial, Each}
use Rattle.gf_ideal_theory.specs.Reduction.{IsIrreducible, Reached}
use Rattle.gf_ideal_theory.specs.Bases.{IsReducedBasisFor}
use Rattle.gf_division.specs.Autoreduction.{IsNeededAt}
use Rattle.gf_strands.specs.declared.strands.Strand.{Strand}
use Rattle.gf_strands.specs.declared.strands.Point.{Point}
use Rattle.gf_strands.specs.Strands.{moved, strand_terms, strand_members}
use Rattle.gf_strands.specs.Monomials.{with_monomials}
use Rattle.gf_strands.specs.Forms.{NoStrandFrom}
use Rattle.gf_strand_runs.specs.Turns.{IsTurning, AreTakenIn}

-- the member at the index i is needed, or it isn't
abbrev pub IsNeededWhere : List MarkedPolynomial → ℕ → Bool → Type 0
IsNeededWhere bs i true = IsNeededAt bs i
IsNeededWhere bs i false = IsNeededAt bs i → ⊥

-- the flags tell it of each
pub record AreNeededFlags (bs : List MarkedPolynomial) (flags : List Bool) : Type 0 where
  pub size : length flags ≡ length bs
  pub at : (i : ℕ) → i < length bs → IsNeededWhere bs i (get_or flags i false)

-- a tail stays, and no mark of a strand from its index on divides a term of it; or no mark divides a monomial of the new one
abbrev pub IsTailOf : List ℤ → List Exponents → ℕ → List Strand → Strand → Strand → Type 0
IsTailOf a xs j ls l m =
    ((m ≡ l) × Each (λ (p : Point). NoStrandFrom ls j (moved a l.mark p.k)) l.rest.items) ⊎
    IsIrreducible (Contains (with_monomials xs (strand_members a ls))) (strand_terms a l.mark m.rest.items)

-- steps by the monomials and the strands lead from the tail of the strand at the index j to that of the strand that is there now, with the same mark
pub record IsTailSettled (a : List ℤ) (xs : List Exponents) (j : ℕ) (old new : List Strand) : Type 0 where
  pub before : Strand
  pub at : get_or old j before ≡ before
  pub after : Strand
  pub strands : new ≡ set old j after
  pub mark : after.mark ≡ before.mark
  pub reached : Reached (Contains (with_monomials xs (strand_members a old))) (strand_terms a before.mark before.rest.items)
      (strand_terms a before.mark after.rest.items)
  pub tail : IsTailOf a xs j old before after

-- where bs is the list of a run on fs, all of whose pairs are settled, cs is the reduced basis
pub record SettlesTo (order : MonomialOrder) (n : ℕ) (bs cs : List MarkedPolynomial) : Type 0 where
  pub at : (fs : List Terms) → IsTurning order n fs bs 0 (length bs) → AreTakenIn n fs bs → IsReducedBasisFor n fs (below_of order) cs
