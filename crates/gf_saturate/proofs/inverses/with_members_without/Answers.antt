use Rattle.std.proofs.Common.{◌≡◌, ◌+◌, List, Contains, map, refl, sym, subst, ap, ◌∙◌}
use Rattle.gf_poly.specs.Polynomial.{Terms, HasVariables}
use Rattle.gf_poly.specs.Marking.{MarkedPolynomial}
use Rattle.gf_saturate.specs.Widening.{narrowed_term, widened_term}
use Rattle.gf_saturate.proofs.StepLaws.{contains_at}
use Rattle.gf_saturate.proofs.ProposalLaws.{start_itself}
use Rattle.gf_saturate.proofs.InverseLaws.{inverse_more}
use Rattle.gf_saturate.proofs.inverses.with_members_without.Goals as goal

pub members-init : goal.members-init
members-init c = start_itself c.args.n c.args.set.now c.in_ok-all.all.items c.requires.variables c.in_ok-all.ensures

pub is_without-requires : goal.is_without-requires
is_without-requires c =
    let b : MarkedPolynomial = c.index-items-i.result in
    let inside : Contains c.args.found.now.items b =
    subst (λ (z : List MarkedPolynomial). Contains z b) c.items-items.ensures.value
    (contains_at c.items-items.result.now c.members.i b c.members-test.true c.index-items-i.is) in
    subst (HasVariables (c.args.n + 1)) (sym c.poly-f.ensures) (c.requires.basis.basis.arranged.canonical b inside).variables

pub narrowed_polynomial-requires-clause-variables : goal.narrowed_polynomial-requires-clause-variables
narrowed_polynomial-requires-clause-variables c =
    let b : MarkedPolynomial = c.index-items-i.result in
    let inside : Contains c.args.found.now.items b =
    subst (λ (z : List MarkedPolynomial). Contains z b) c.items-items.ensures.value
    (contains_at c.items-items.result.now c.members.i b c.members-test.true c.index-items-i.is) in
    subst (HasVariables (c.args.n + 1)) (sym c.poly-f.ensures) (c.requires.basis.basis.arranged.canonical b inside).variables

pub narrowed_polynomial-requires-clause-free : goal.narrowed_polynomial-requires-clause-free
narrowed_polynomial-requires-clause-free c = c.if-not-is_without.ensures refl

pub members-preserved : goal.members-preserved
members-preserved c =
    let b : MarkedPolynomial = c.index-items-i.result in
    let inside : Contains c.args.found.now.items b =
    subst (λ (z : List MarkedPolynomial). Contains z b) c.items-items.ensures.value
    (contains_at c.items-items.result.now c.members.i b c.members-test.true c.index-items-i.is) in
    inverse_more c.args.n c.args.k c.args.set.now c.members.all.items c.push.new.self.items c.args.found.now b c.in_ok-g.g c.requires.inside
    c.requires.variables c.requires.basis inside c.in_ok-push.ensures.items (c.in_ok-g.ensures ∙ ap (map (narrowed_term c.args.n)) c.poly-f.ensures)
    (subst (λ (f : Terms). map widened_term (map (narrowed_term c.args.n) f) ≡ f) c.poly-f.ensures (c.if-not-is_without.ensures refl))
    c.members.invariant
