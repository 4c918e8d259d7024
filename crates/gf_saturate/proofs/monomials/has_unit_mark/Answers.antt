use Rattle.std.proofs.Common.{rules, ◌≡◌, arith, sym, subst, ap, true, []}
use Rattle.gf_exponents_theory.specs.Exponents.{degree, same}
use Rattle.gf_exponents_theory.proofs.WeightLaws.{degree-same}
use Rattle.gf_poly.specs.Marking.{MarkedPolynomial}
use Rattle.gf_ideal_theory.proofs.RingLaws.{degree-none}
use Rattle.gf_saturate.specs.OneTerm.{HasUnitMark}
use Rattle.gf_saturate.proofs.SearchLaws.{found_here, not_yet, nowhere}
use Rattle.gf_saturate.proofs.monomials.has_unit_mark.Goals as goal

pub returns-then-degree-eq0 : goal.returns-then-degree-eq0
returns-then-degree-eq0 c =
    let b : MarkedPolynomial = c.index-items-i.result in
    let z : degree b.head ≡ 0 = omega (arith, c.degree.ensures, ap degree c.head.ensures.value, c.if-degree-eq0.true) in (
      λ t. subst HasUnitMark c.items-items.ensures.value (found_here (λ (d : MarkedPolynomial). same d.head [] ≡ true) c.items-items.result.now c.members.i b
          c.members-test.true c.index-items-i.is (degree-none b.head z)),
      λ h. search rules,
    )

pub members-preserved : goal.members-preserved
members-preserved c =
    let b : MarkedPolynomial = c.index-items-i.result in
    not_yet (λ (d : MarkedPolynomial). same d.head [] ≡ true) c.items-items.result.now c.members.i b c.members-test.true c.index-items-i.is
    (λ s. absurd (omega (arith, c.degree.ensures, ap degree c.head.ensures.value, c.if-degree-eq0.false, degree-same b.head [] s))) c.members.invariant

pub returns : goal.returns
returns c = (
  λ t. absurd (search rules),
  λ h. absurd (nowhere (λ (d : MarkedPolynomial). same d.head [] ≡ true) c.items-items.result.now c.members.i
      c.members-test.false c.members.invariant (subst HasUnitMark (sym c.items-items.ensures.value) h)),
)
