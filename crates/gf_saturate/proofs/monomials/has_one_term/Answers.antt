use Rattle.std.proofs.Common.{rules, ◌≡◌, ◌∙◌, sym, length}
use Rattle.gf_poly.specs.Polynomial.{Terms}
use Rattle.gf_saturate.proofs.StepLaws.{contains_at}
use Rattle.gf_saturate.proofs.SearchLaws.{found_here, not_yet, nowhere}
use Rattle.gf_saturate.proofs.OneTermLaws.{one_term_member, is_one, is_not_one}
use Rattle.gf_saturate.proofs.monomials.has_one_term.Goals as goal

pub returns-then-is_of_one_term-clause-exact : goal.returns-then-is_of_one_term-clause-exact
returns-then-is_of_one_term-clause-exact c =
    let f : Terms = c.index-set-i.result in
    let one : length f ≡ 1 = is_one (length f) (sym c.is_of_one_term.ensures.told ∙ c.if-is_of_one_term.true) in
    (λ t. found_here (λ (g : Terms). length g ≡ 1) c.args.set.now c.polynomials.i f c.polynomials-test.true c.index-set-i.is one, λ h. search rules)

pub returns-then-is_of_one_term-clause-member : goal.returns-then-is_of_one_term-clause-member
returns-then-is_of_one_term-clause-member c =
    let f : Terms = c.index-set-i.result in
    let one : length f ≡ 1 = is_one (length f) (sym c.is_of_one_term.ensures.told ∙ c.if-is_of_one_term.true) in
    let listed = contains_at c.args.set.now c.polynomials.i f c.polynomials-test.true c.index-set-i.is in
    λ t. one_term_member c.args.n c.args.set.now f listed (c.requires.each f listed) c.is_of_one_term.ensures.descending one

pub polynomials-preserved : goal.polynomials-preserved
polynomials-preserved c =
    let f : Terms = c.index-set-i.result in
    not_yet (λ (g : Terms). length g ≡ 1) c.args.set.now c.polynomials.i f c.polynomials-test.true c.index-set-i.is
    (is_not_one (length f) (sym c.is_of_one_term.ensures.told ∙ c.if-is_of_one_term.false)) c.polynomials.invariant

pub returns-clause-exact : goal.returns-clause-exact
returns-clause-exact c = (
  λ t. absurd (search rules),
  λ h. absurd (nowhere (λ (g : Terms). length g ≡ 1) c.args.set.now c.polynomials.i c.polynomials-test.false
      c.polynomials.invariant h),
)

pub returns-clause-member : goal.returns-clause-member
returns-clause-member c = λ t. absurd (search rules)
