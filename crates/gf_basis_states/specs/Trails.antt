-- Trails over bases: the bases to which lines lead, and what is printed on the way.
use Rattle.std.specs.Prelude.{◌≡◌, ℕ, List}
use Rattle.gf_poly.specs.Marking.{MarkedPolynomials}
use Rattle.gf_session.specs.declared.choice.Choice.{Choice}
use Rattle.gf_session.specs.declared.choice.Choice.TheVariants as choices
use Rattle.gf_session.specs.Sessions.{Trail, AreTurns, IsLineTurn, IsCrossedTo}
use Rattle.gf_session.specs.Transcripts.{AreFunctions}
use Rattle.gf_basis_states.specs.BasisRules.{basis_rules}

-- for the bases in a ring with these names: each number leads to at most one basis, and each basis has one text. So lines lead from a trail
-- to at most one trail, with one transcript. A choice followed by u gives the trail before the choice
pub record TrailsAreDetermined (names : List (List ℕ)) : Type 0 where
  pub functions : AreFunctions (basis_rules names)
  pub one : (s t u : Trail MarkedPolynomials) (cs : List Choice) (x y : List ℕ) → AreTurns (basis_rules names) s cs t x →
      AreTurns (basis_rules names) s cs u y → (t ≡ u) × (x ≡ y)
  pub undone : (s t u : Trail MarkedPolynomials) (n : ℕ) (x y : List ℕ) → IsCrossedTo (basis_rules names) s n t x →
      IsLineTurn (basis_rules names) t choices.Undo u y → u ≡ s
