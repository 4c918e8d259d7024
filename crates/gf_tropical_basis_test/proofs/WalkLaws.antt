-- The bases one after another. To cite: PassedSoFar, passed_none, passed_more, step_variables, all_passed, one_failed, reached_refused, way_refused_by,
-- search_refused.
use Rattle.std.specs.Prelude.{None, Some}
use Rattle.std.proofs.Common.{◌≡◌, ◌⊎◌, ℕ, ◌<◌, List, [], ◌∷◌, ◌++◌, ℤ, Contains, length, take, get_or, arith, refl, sym, ap, ◌∙◌, subst, inl, inr}
use Rattle.gf_int_theory.proofs.ListLaws.{Contains-last}
use Rattle.gf_poly.specs.Polynomial.{Terms}
use Rattle.gf_poly.specs.Marking.{MarkedPolynomials}
use Rattle.gf_duality_theory.specs.Faces.{Rows}
use Rattle.gf_facets_theory.specs.Regions.{Region, all_positive}
use Rattle.gf_reverse_theory.specs.Upward.{Fan, IsNodeIn, fan_of}
use Rattle.gf_reverse_theory.specs.Lists.{IsListFor}
use Rattle.gf_reverse_theory.proofs.TreeLaws.{own_fan, back_fan}
use Rattle.gf_tree.specs.Ideals.{ideal_by}
use Rattle.gf_tree.specs.Parents.{IsRootFor}
use Rattle.gf_tree.specs.Walks.{Walk, ideal_at, walk_at}
use Rattle.gf_tree.specs.Steps.{IsStepTo, IsEnd, HasGiven}
use Rattle.gf_tree.specs.Refusals.{IsTreeRefusal}
use Rattle.gf_tree.specs.TreeError.{TreeError}
use Rattle.gf_tree.proofs.RefusalLaws.{refusal_moved, refusal_beside}
use Rattle.gf_tree.proofs.ListingLaws.{given_none, given_more, refusal_given, all_listed, part_listed}
use Rattle.gf_initial_monomials.specs.Outcomes.{IsReached}
use Rattle.gf_tropical_basis_test.specs.Verdicts.{HasBasisOutcome, HaveBasesOutcome}

-- the bases that a walker has given from the root on, all of which pass
pub record PassedSoFar (n : ℕ) (cones : List Rows) (start now : Walk) : Type 0 where
  pub done : List MarkedPolynomials
  pub given : HasGiven start done now
  pub passed : (b : MarkedPolynomials) → Contains done b → HasBasisOutcome n cones b.items None

pub passed_none : (n : ℕ) (cones : List Rows) (start : Walk) → IsNodeIn (ideal_at start) start.here → PassedSoFar n cones start start
passed_none n cones start h = record { done = []; given = given_none start h; passed = λ b c. absurd (omega (arith, c.1)) }

pub passed_more : (n : ℕ) (cones : List Rows) (start old new : Walk) (v : MarkedPolynomials) → IsNodeIn (ideal_at start) start.here → IsStepTo old new v →
    HasBasisOutcome n cones v.items None → PassedSoFar n cones start old → PassedSoFar n cones start new
passed_more n cones start old new v h s o p = record {
  done = p.done ++ v ∷ [];
  given = given_more start old new p.done v h p.given s;
  passed = λ b c. at b (Contains-last p.done v b c);
}
  where
    at : (b : MarkedPolynomials) → Contains p.done b ⊎ (b ≡ v) → HasBasisOutcome n cones b.items None
    at b (inl k) = p.passed b k
    at b (inr e) = subst (λ (x : MarkedPolynomials). HasBasisOutcome n cones x.items None) (sym e) o

-- the basis that is given has as many variables
as_many : (start old new : Walk) (v : MarkedPolynomials) (done : List MarkedPolynomials) → HasGiven start done old → IsStepTo old new v →
    v.variables ≡ start.here.variables
as_many start old new v done g s = s.basis.variables ∙ g.basis.variables

pub step_variables : (k : Region) (root : MarkedPolynomials) (pairs n : ℕ) (cones : List Rows) (old new : Walk) (b : MarkedPolynomials) →
    PassedSoFar n cones (walk_at root k pairs) old → IsStepTo old new b → b.variables ≡ root.variables
step_variables k root pairs n cones old new b p s = as_many (walk_at root k pairs) old new b p.done p.given s

-- ---- at the end

pub all_passed : (fs : List Terms) (start root : MarkedPolynomials) (pairs : ℕ) (cones : List Rows) (old new : Walk) →
    IsNodeIn (ideal_by start.variables fs) start → IsRootFor (all_positive start.variables) start root →
    PassedSoFar start.variables cones (walk_at root (all_positive start.variables) pairs) old → IsEnd old new → HaveBasesOutcome start.variables fs cones None
all_passed fs start root pairs cones old new node top p e = record {
  bases = p.done;
  are_bases = all_listed (ideal_by start.variables fs) start root pairs p.done old new node top p.given e;
  outcome = p.passed;
}

taken : (done rest : List MarkedPolynomials) (b : MarkedPolynomials) → take (length done) ((done ++ b ∷ []) ++ rest) ≡ done
taken [] rest b = refl
taken (c ∷ done) rest b = ap (λ (z : List MarkedPolynomials). c ∷ z) (taken done rest b)

stands : (done rest : List MarkedPolynomials) (b : MarkedPolynomials) → get_or ((done ++ b ∷ []) ++ rest) (length done) b ≡ b
stands [] rest b = refl
stands (c ∷ done) rest b = stands done rest b

longer : (done rest : List MarkedPolynomials) (b : MarkedPolynomials) → length done < length ((done ++ b ∷ []) ++ rest)
longer [] rest b = omega arith
longer (c ∷ done) rest b = omega (arith, longer done rest b)

reached_after : (P : MarkedPolynomials → Type 0) (done rest : List MarkedPolynomials) (b : MarkedPolynomials) →
    ((c : MarkedPolynomials) → Contains done c → P c) → IsReached P ((done ++ b ∷ []) ++ rest) b
reached_after P done rest b h = record {
  index = length done;
  inside = longer done rest b;
  here = stands done rest b;
  earlier = λ c k. h c (subst (λ (z : List MarkedPolynomials). Contains z c) (taken done rest b) k);
}

pub one_failed : (fs : List Terms) (start root : MarkedPolynomials) (pairs : ℕ) (cones : List Rows) (old new : Walk) (b : MarkedPolynomials) (v : List ℤ) →
    IsNodeIn (ideal_by start.variables fs) start → IsRootFor (all_positive start.variables) start root →
    PassedSoFar start.variables cones (walk_at root (all_positive start.variables) pairs) old → IsStepTo old new b →
    HasBasisOutcome start.variables cones b.items (Some v) → HaveBasesOutcome start.variables fs cones (Some v)
one_failed fs start root pairs cones old new b v node top p s o =
    let g = given_more (walk_at root (all_positive start.variables) pairs) old new p.done b top.own p.given s in
    let l = part_listed (ideal_by start.variables fs) start root pairs (p.done ++ b ∷ []) new node top g in
    record {
      bases = (p.done ++ b ∷ []) ++ l.0;
      are_bases = l.1;
      outcome = (b, reached_after (λ (c : MarkedPolynomials). HasBasisOutcome start.variables cones c.items None) p.done l.0 b p.passed, o);
    }

-- where the one that is reached is refused, those before it pass
pub reached_refused : (fs : List Terms) (start root : MarkedPolynomials) (pairs : ℕ) (cones : List Rows) (old new : Walk) (b : MarkedPolynomials) →
    IsNodeIn (ideal_by start.variables fs) start → IsRootFor (all_positive start.variables) start root →
    PassedSoFar start.variables cones (walk_at root (all_positive start.variables) pairs) old → IsStepTo old new b →
    (bases : List MarkedPolynomials) × IsListFor (ideal_by start.variables fs) bases ×
    IsReached (λ (c : MarkedPolynomials). HasBasisOutcome start.variables cones c.items None) bases b
reached_refused fs start root pairs cones old new b node top p s =
    let g = given_more (walk_at root (all_positive start.variables) pairs) old new p.done b top.own p.given s in
    let l = part_listed (ideal_by start.variables fs) start root pairs (p.done ++ b ∷ []) new node top g in
    ((p.done ++ b ∷ []) ++ l.0, l.1, reached_after (λ (c : MarkedPolynomials). HasBasisOutcome start.variables cones c.items None) p.done l.0 b p.passed)

-- from the ideal that the start generates
pub way_refused_by : (fs : List Terms) (start : MarkedPolynomials) (pairs : ℕ) (e : TreeError) → IsNodeIn (ideal_by start.variables fs) start →
    IsTreeRefusal (fan_of (all_positive start.variables) start) pairs e → IsTreeRefusal (ideal_by start.variables fs) pairs e
way_refused_by fs start pairs e node r =
    let F : Fan = ideal_by start.variables fs in
    refusal_moved (fan_of F.region start) F pairs e (back_fan F (fan_of F.region start) (own_fan F start node)) r

-- a refusal of the search, in the words of the ideal
pub search_refused : (fs : List Terms) (start root : MarkedPolynomials) (pairs : ℕ) (done : List MarkedPolynomials) (now : Walk) (e : TreeError) →
    IsNodeIn (ideal_by start.variables fs) start → IsRootFor (all_positive start.variables) start root →
    HasGiven (walk_at root (all_positive start.variables) pairs) done now → IsTreeRefusal (ideal_at now) now.pairs e →
    IsTreeRefusal (ideal_by start.variables fs) pairs e
search_refused fs start root pairs done now e node top g r =
    way_refused_by fs start pairs e node (refusal_beside (all_positive start.variables) pairs start root e top.basis
    (refusal_given (walk_at root (all_positive start.variables) pairs) now done e g r))
