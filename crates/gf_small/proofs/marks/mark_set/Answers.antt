use Rattle.std.proofs.Common.{ℕ, length, sym, ap, subst}
use Rattle.gf_poly.specs.Polynomial.{HasVariables}
use Rattle.gf_small.proofs.MarksByWeightLaws.{some_at, variables_at, marked-more, marked-variables}
use Rattle.gf_small.proofs.marks.mark_set.Goals as goal

pub marked_by-requires-clause-some : goal.marked_by-requires-clause-some
marked_by-requires-clause-some c = some_at c.args.set.now c.polynomials.f-index c.f-item.result c.requires.some c.polynomials-test.true c.f-item.is

pub marked_by-requires-clause-same_variables : goal.marked_by-requires-clause-same_variables
marked_by-requires-clause-same_variables c =
    subst (λ (n : ℕ). HasVariables n c.f-item.result) (sym (ap length c.as_slice-weight.ensures.value))
    (variables_at (length c.args.vector.now) c.args.set.now c.polynomials.f-index c.f-item.result c.requires.variables c.polynomials-test.true c.f-item.is)

pub polynomials-preserved : goal.polynomials-preserved
polynomials-preserved c =
    marked-more c.as_slice-weight.result.now c.args.set.now c.polynomials.found.items c.push.new.self.items c.polynomials.f-index c.f-item.result c.in_ok-b.b
    c.polynomials-test.true c.f-item.is c.in_ok-b.ensures.polynomial c.in_ok-b.ensures.mark c.in_ok-push.ensures.items c.polynomials.invariant

pub new-requires : goal.new-requires
new-requires c = marked-variables (length c.args.vector.now) _ _ c.args.set.now c.polynomials.found.items c.polynomials.f-index
    (ap length c.as_slice-weight.ensures.value) c.requires.variables c.polynomials-test.false c.polynomials.invariant
