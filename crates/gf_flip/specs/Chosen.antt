-- Lifts of the chosen members of a basis of the parts: copies where a part is one term alone, and what steps lead to elsewhere.
-- Laws: proofs/ChosenLaws.antt.
use Rattle.std.specs.Prelude.{◌≡◌, ℕ, Bool, true, false, List, [], ◌∷◌, ◌++◌, ℤ, length, get_or}
use Rattle.gf_poly.specs.Polynomial.{HasVariables}
use Rattle.gf_poly.specs.Marking.{MarkedPolynomial, HaveVariables}
use Rattle.gf_ideal_theory.specs.Settled.{IsAt}
use Rattle.gf_initial_theory.specs.Lifts.{IsTopLift, AreTopLifts}
use Rattle.gf_strands.specs.Along.{IsBasisOfParts}
use Rattle.gf_strands.specs.Splits.{IsAlone}
use Rattle.gf_lifts.specs.LiftTails.{IsCopy, AreCopies}

-- no monomial of a member whose flag is set is a multiple of a apart from the mark, but that
pub record AreAloneWhere (a : List ℤ) (bs : List MarkedPolynomial) (flags : List Bool) : Type 0 where
  pub size : length flags ≡ length bs
  pub at : (j : ℕ) (b : MarkedPolynomial) → IsAt bs j b → get_or flags j false ≡ true → IsAlone a b

-- a lift of h is the last one now, with its flag
pub record IsLiftAdded (n : ℕ) (bs : List MarkedPolynomial) (a : List ℤ) (h : MarkedPolynomial) (old new : List MarkedPolynomial) (flags more : List Bool) :
    Type 0 where
  pub lift : MarkedPolynomial
  pub flag : Bool
  pub top : IsTopLift bs a h lift
  pub variables : HasVariables n lift.poly
  pub copy : IsCopy bs lift flag
  pub members : new ≡ old ++ lift ∷ []
  pub copied : more ≡ flags ++ flag ∷ []

-- so it is, or the lists stay
abbrev pub IsLiftedWhere : Bool → ℕ → List MarkedPolynomial → List ℤ → MarkedPolynomial → List MarkedPolynomial → List MarkedPolynomial → List Bool →
    List Bool → Type 0
IsLiftedWhere true n bs a h old new flags more = IsLiftAdded n bs a h old new flags more
IsLiftedWhere false n bs a h old new flags more = (new ≡ old) × (more ≡ flags)

-- ls are lifts, that end early, of a basis of the parts; the flags say which are members of bs
pub record AreLiftsOfParts (n : ℕ) (bs : List MarkedPolynomial) (a : List ℤ) (ls : List MarkedPolynomial) (flags : List Bool) : Type 0 where
  pub basis : List MarkedPolynomial
  pub parts : IsBasisOfParts n bs a basis
  pub tops : AreTopLifts bs a basis ls
  pub variables : HaveVariables n ls
  pub copies : AreCopies bs ls flags
