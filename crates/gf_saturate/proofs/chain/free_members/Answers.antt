use Rattle.std.proofs.Common.{rules, ◌≡◌, ◌+◌, ◌==◌, true, false, List, Contains, map, refl, sym, subst, ap, ◌∙◌}
use Rattle.gf_exponents_theory.specs.Exponents.{entry}
use Rattle.gf_poly.specs.Polynomial.{Terms, HasVariables}
use Rattle.gf_poly.specs.Marking.{MarkedPolynomial}
use Rattle.gf_saturate.specs.Widening.{narrowed_term, widened_term}
use Rattle.gf_saturate.specs.Chains.{AreFreeMembers}
use Rattle.gf_saturate.proofs.StepLaws.{contains_at, kept-more, kept-skip}
use Rattle.gf_saturate.proofs.ChainLaws.{split_none, split_more, split_kept, split_all}
use Rattle.gf_saturate.proofs.chain.free_members.Goals as goal

pub members-init : goal.members-init
members-init c = (c.new-all.ensures.items, split_none c.args.n c.items-items.result.now)

pub is_free-requires : goal.is_free-requires
is_free-requires c =
    let b : MarkedPolynomial = c.index-items-i.result in
    let inside : Contains c.args.found.now.items b = subst (λ (z : List MarkedPolynomial). Contains z b) c.items-items.ensures.value
    (contains_at c.items-items.result.now c.members.i b c.members-test.true c.index-items-i.is) in
    (c.requires b inside).1

pub members-preserved-then-not-is_free : goal.members-preserved-then-not-is_free
members-preserved-then-not-is_free c =
    let b : MarkedPolynomial = c.index-items-i.result in
    let z : (entry b.head c.args.n == 0) ≡ false = search rules in (
      kept-skip c.args.n c.items-items.result.now c.members.all.items c.members.all.items c.members.i b c.members-test.true c.index-items-i.is z refl
          c.members.invariant.0,
      split_more c.args.n c.items-items.result.now c.members.i b c.members-test.true c.index-items-i.is z c.members.invariant.1,
    )

pub is_without-requires : goal.is_without-requires
is_without-requires c =
    let b : MarkedPolynomial = c.index-items-i.result in
    let inside : Contains c.args.found.now.items b = subst (λ (z : List MarkedPolynomial). Contains z b) c.items-items.ensures.value
    (contains_at c.items-items.result.now c.members.i b c.members-test.true c.index-items-i.is) in
    subst (HasVariables (c.args.n + 1)) (sym c.poly-f.ensures) (c.requires b inside).0

pub narrowed_polynomial-requires-clause-variables : goal.narrowed_polynomial-requires-clause-variables
narrowed_polynomial-requires-clause-variables c =
    let b : MarkedPolynomial = c.index-items-i.result in
    let inside : Contains c.args.found.now.items b = subst (λ (z : List MarkedPolynomial). Contains z b) c.items-items.ensures.value
    (contains_at c.items-items.result.now c.members.i b c.members-test.true c.index-items-i.is) in
    subst (HasVariables (c.args.n + 1)) (sym c.poly-f.ensures) (c.requires b inside).0

pub narrowed_polynomial-requires-clause-free : goal.narrowed_polynomial-requires-clause-free
narrowed_polynomial-requires-clause-free c = c.if-not-is_without.ensures refl

pub members-preserved : goal.members-preserved
members-preserved c =
    let b : MarkedPolynomial = c.index-items-i.result in
    let z : (entry b.head c.args.n == 0) ≡ true = search rules in (
      kept-more c.args.n c.items-items.result.now c.members.all.items c.push.new.self.items c.members.i b c.in_ok-g.g c.members-test.true c.index-items-i.is z
          (c.in_ok-g.ensures ∙ ap (map (narrowed_term c.args.n)) c.poly-f.ensures) c.in_ok-push.ensures.items c.members.invariant.0,
      split_kept c.args.n c.items-items.result.now c.members.i b c.members-test.true c.index-items-i.is
          (subst (λ (f : Terms). map widened_term (map (narrowed_term c.args.n) f) ≡ f) c.poly-f.ensures (c.if-not-is_without.ensures refl))
          c.members.invariant.1,
    )

pub returns : goal.returns
returns c =
    subst (λ (bs : List MarkedPolynomial). AreFreeMembers c.args.n bs c.members.all.items) c.items-items.ensures.value
    (split_all c.args.n c.items-items.result.now c.members.i c.members.all.items c.members-test.false c.members.invariant.0 c.members.invariant.1)
