-- The bases of an ideal as the states of sessions.
use Rattle.std.specs.Prelude.{◌≡◌, ℕ, ◌<◌, ◌≤◌, List, [], ℤ, length, slice_index_or, Some}
use Rattle.gf_poly.specs.Marking.{MarkedPolynomials}
use Rattle.gf_facets_theory.specs.Regions.{all_positive}
use Rattle.gf_reverse_theory.specs.Upward.{IsNode}
use Rattle.gf_reverse_theory.specs.Answers.{IsAcross}
use Rattle.gf_tree.specs.Refusals.{IsCallRefusal}
use Rattle.gf_flip.specs.declared.error.TreeError.{TreeError}
use Rattle.gf_session.specs.Sessions.{Rules}
use Rattle.gf_basis_states.specs.Crossable.{AreCrossable}
use Rattle.gf_basis_states.specs.Prompts.{prompt_text}

-- p is a basis, for some positive weight, of the ideal that it generates, and the ring has as many variables
pub record IsBasisState (variables : ℕ) (p : MarkedPolynomials) : Type 0 where
  pub node : IsNode (all_positive p.variables) p
  pub ring : p.variables ≡ variables

-- p is a basis of its ideal, and q is the basis of this ideal across the facet of p with normal a
pub record IsCrossingStep (p : MarkedPolynomials) (a : List ℤ) (q : MarkedPolynomials) : Type 0 where
  pub node : IsNode (all_positive p.variables) p
  pub across : IsAcross (all_positive p.variables) p a (Some q)

-- q is the basis across the facet whose normal has this number among those that a flip may cross
pub record IsNumbered (p : MarkedPolynomials) (number : ℕ) (q : MarkedPolynomials) : Type 0 where
  pub normals : List (List ℤ)
  pub crossable : AreCrossable p.variables (all_positive p.variables) p.items normals
  pub inside : number < length normals
  pub step : IsCrossingStep p (slice_index_or normals number []) q

-- a flip may cross only facets with smaller numbers
pub record IsPastAll (p : MarkedPolynomials) (number : ℕ) : Type 0 where
  pub normals : List (List ℤ)
  pub crossable : AreCrossable p.variables (all_positive p.variables) p.items normals
  pub past : length normals ≤ number

-- text is what is printed for p: the basis, and exactly the normals that a flip may cross
pub record IsPrompt (names : List (List ℕ)) (p : MarkedPolynomials) (history : ℕ) (text : List ℕ) : Type 0 where
  pub normals : List (List ℤ)
  pub crossable : AreCrossable p.variables (all_positive p.variables) p.items normals
  pub is_text : text ≡ prompt_text names p.items normals history

-- the rules of sessions over bases, in a ring with these names
abbrev pub basis_rules : List (List ℕ) → Rules MarkedPolynomials
basis_rules names = record { IsAcross = IsNumbered; IsLacking = IsPastAll; IsTold = IsPrompt names }

-- why a call at p is refused: as a call of the search at p, or at a basis across a facet of p
abbrev pub IsStateRefusal : ℕ → MarkedPolynomials → TreeError → Type 0
IsStateRefusal pairs p = IsCallRefusal (all_positive p.variables) pairs p
