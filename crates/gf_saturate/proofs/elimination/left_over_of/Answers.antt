use Rattle.std.proofs.Common.{rules, ◌≡◌, ◌+◌, ◌==◌, true, false, sym, subst, ap, map, ◌∙◌, List, Contains}
use Rattle.gf_exponents_theory.specs.Exponents.{entry}
use Rattle.gf_poly.specs.Polynomial.{Terms, HasVariables}
use Rattle.gf_poly.specs.Marking.{MarkedPolynomial}
use Rattle.gf_saturate.specs.Widening.{widened_term, narrowed_term}
use Rattle.gf_saturate.proofs.StepLaws.{contains_at, member-back, kept-more, kept-skip}
use Rattle.gf_saturate.proofs.elimination.left_over_of.Goals as goal
use Rattle.gf_saturate.proofs.elimination.left_over_of.Goals.{then-is_free+in_ok-f+in_ok-push, else-is_free}

pub narrowed_polynomial-requires-clause-variables : goal.narrowed_polynomial-requires-clause-variables
narrowed_polynomial-requires-clause-variables c =
    let b : MarkedPolynomial = c.index-items-i.result in
    let inside : Contains c.args.basis.now.items b = subst (λ (z : List MarkedPolynomial). Contains z b) c.items-items.ensures.value
    (contains_at c.items-items.result.now c.members.i b c.members-test.true c.index-items-i.is) in
    subst (HasVariables (c.args.n + 1)) (sym c.poly.ensures) (c.requires.variables b inside)

pub narrowed_polynomial-requires-clause-free : goal.narrowed_polynomial-requires-clause-free
narrowed_polynomial-requires-clause-free c =
    let b : MarkedPolynomial = c.index-items-i.result in
    let inside : Contains c.args.basis.now.items b = subst (λ (z : List MarkedPolynomial). Contains z b) c.items-items.ensures.value
    (contains_at c.items-items.result.now c.members.i b c.members-test.true c.index-items-i.is) in
    let e : (entry b.head c.args.n == 0) ≡ true = search rules in
    subst (λ (f : Terms). map widened_term (map (narrowed_term c.args.n) f) ≡ f) (sym c.poly.ensures)
    (member-back c.args.n c.args.basis.now.items b c.requires inside e)

pub members-preserved : goal.members-preserved
members-preserved c =
    let b : MarkedPolynomial = c.index-items-i.result in
    elim c.if-is_free.branch [
      | then-is_free+in_ok-f+in_ok-push w ↦ (let e : (entry b.head c.args.n == 0) ≡ true = search rules in
          kept-more c.args.n c.items-items.result.now c.members.all.items _ c.members.i b _ c.members-test.true c.index-items-i.is e
          (w.in_ok-f.ensures ∙ ap (map (narrowed_term c.args.n)) w.poly.ensures) (ap (λ v. v.items) w.all-is ∙ w.in_ok-push.ensures.items) c.members.invariant)
      | else-is_free w ↦ (let e : (entry b.head c.args.n == 0) ≡ false = search rules in
          kept-skip c.args.n c.items-items.result.now c.members.all.items _ c.members.i b c.members-test.true c.index-items-i.is e (ap (λ v. v.items) w.all-is)
          c.members.invariant)
    ]
