-- What a session of `_interactive` may do stays within its limits if it starts at a basis of variables and differences of variables.
-- To cite: linear_sessions.
use Rattle.std.proofs.Common.{ℕ, arith, subst}
use Rattle.std.proofs.lemmas.List.Elements.{All-nil}
use Rattle.gf_poly.specs.Marking.{polys}
use Rattle.gf_tree.specs.Ideals.{ideal_by}
use Rattle.gfan_theory.specs.Linear.{AreLinearDifferences, LinearSessionsStayWithinLimits}
use Rattle.gfan_theory.proofs.LinearLimits.{search_in_four}
use Rattle.gfan_theory.proofs.LinearChecks.{linear_checks, set_differences}

pub linear_sessions : LinearSessionsStayWithinLimits
linear_sessions pairs n s l same small basis terms room = record {
  checked = record {
    variables = l.binomials.variables;
    basis = basis;
    terms = terms;
    checks = linear_checks s l (omega (arith, small, same));
  };
  same = same;
  tree = search_in_four (ideal_by n (polys s.items)) pairs (subst (λ (m : ℕ). AreLinearDifferences m (polys s.items)) same (set_differences s l)) small
      (All-nil _) room;
}
