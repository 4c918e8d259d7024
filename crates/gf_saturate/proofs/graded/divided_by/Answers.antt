use Rattle.std.proofs.Common.{rules, ◌+◌, ◌<◌, ◌≤◌, ℕ, List, arith, sym, subst, ◌∙◌}
use Rattle.gf_exponents_theory.specs.Exponents.{entry}
use Rattle.gf_poly.specs.Polynomial.{Terms}
use Rattle.gf_buchberger.specs.Tasks.{HaveRingVariables}
use Rattle.std.proofs.lemmas.Option.{IfSome_then}
use Rattle.gf_saturation_theory.specs.Saturations.{HasOneTermMember}
use Rattle.gf_saturate.specs.Graded.{IsDividedStep}
use Rattle.gf_saturate.proofs.GradedLaws.{cut, at_start, skipped, stepped, finished}
use Rattle.gf_saturate.proofs.OneReached.{one_generates}
use Rattle.gf_saturate.proofs.graded.divided_by.Goals as goal

pub variables-init : goal.variables-init
variables-init c = at_start c.args.n c.args.set.now c.in-Ok.given.items c.args.left.now c.requires.variables c.requires.choice c.in-Ok.ensures

pub exponent-times-requires : goal.exponent-times-requires
exponent-times-requires c = subst (λ (m : ℕ). c.variables.k < m) (sym c.requires.choice.long) c.variables-test.true

pub variables-preserved-then-times-eq0 : goal.variables-preserved-then-times-eq0
variables-preserved-then-times-eq0 c =
    skipped c.args.n c.args.set.now c.variables.polys.items c.args.left.now c.variables.k c.requires.choice (sym c.exponent-times.ensures ∙ c.if-times-eq0.true)
    c.variables.invariant

pub divided_step-requires-clause-variables : goal.divided_step-requires-clause-variables
divided_step-requires-clause-variables c = subst (HaveRingVariables c.args.n) (sym c.deref.ensures.value) c.variables.invariant.ring

pub has_one_term-requires : goal.has_one_term-requires
has_one_term-requires c =
    let some : 1 ≤ entry c.args.left.now c.variables.k = omega (arith, c.exponent-times.ensures) in
    let p = stepped c.args.n c.variables.k c.args.set.now c.variables.polys.items c.in-Some.next.items c.args.left.now c.variables-test.true
    c.requires.variables c.requires.choice some c.variables.invariant
    (subst (λ (gs : List Terms). IsDividedStep c.args.n c.variables.k gs c.in-Some.next.items) c.deref.ensures.value c.in-Some.ensures) in
    subst (HaveRingVariables c.args.n) (sym c.deref-in-variables.ensures.value) p.ring

pub returns-then-has_one_term : goal.returns-then-has_one_term
returns-then-has_one_term c =
    let some : 1 ≤ entry c.args.left.now c.variables.k = omega (arith, c.exponent-times.ensures) in
    let p = stepped c.args.n c.variables.k c.args.set.now c.variables.polys.items c.in-Some.next.items c.args.left.now c.variables-test.true
    c.requires.variables c.requires.choice some c.variables.invariant
    (subst (λ (gs : List Terms). IsDividedStep c.args.n c.variables.k gs c.in-Some.next.items) c.deref.ensures.value c.in-Some.ensures) in
    IfSome_then c.one_alone.result c.one_alone.ensures
    (λ all e. one_generates c.args.n c.args.set.now c.in-Some.next.items all.items (cut (c.variables.k + 1) c.args.left.now) c.requires.variables p.ring p.way
    (subst (HasOneTermMember c.args.n) c.deref-in-variables.ensures.value (c.has_one_term.ensures.member (search rules))) e)

pub variables-preserved : goal.variables-preserved
variables-preserved c =
    let some : 1 ≤ entry c.args.left.now c.variables.k = omega (arith, c.exponent-times.ensures) in
    stepped c.args.n c.variables.k c.args.set.now c.variables.polys.items c.in-Some.next.items c.args.left.now c.variables-test.true c.requires.variables
    c.requires.choice some c.variables.invariant
    (subst (λ (gs : List Terms). IsDividedStep c.args.n c.variables.k gs c.in-Some.next.items) c.deref.ensures.value c.in-Some.ensures)

pub returns : goal.returns
returns c =
    finished c.args.n c.variables.k c.args.set.now c.variables.polys.items c.args.left.now c.variables-test.false c.requires.choice c.variables.invariant
