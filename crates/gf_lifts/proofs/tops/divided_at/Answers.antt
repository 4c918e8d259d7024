use Rattle.std.proofs.Common.{[], refl, sym, ap, subst, ◌∙◌, length, arith, ◌<◌, ◌≡◌, ◌≢◌}
use Rattle.gf_poly.specs.Polynomial.{Terms, IsDescending}
use Rattle.gf_frac.specs.Fraction.{reciprocal_ℚ, zero_ℚ}
use Rattle.gf_poly.specs.declared.Term.{Term}
use Rattle.gf_poly.specs.Products.{HasProducts}
use Rattle.gf_poly.proofs.MarkingLaws.{coefficient_nonzero, length-products}
use Rattle.gf_lifts.proofs.TopLaws.{divided_by}
use Rattle.gf_lifts.proofs.tops.divided_at.Goals as goal

pub divided-requires : goal.divided-requires
divided-requires c = coefficient_nonzero c.terms-terms.result.now c.terms-terms.result.now c.in_ok-at.at c.index-terms-at.result refl c.in_ok-at.ensures.within
    c.index-terms-at.is (subst IsDescending (sym c.terms-terms.ensures.value) c.terms-terms.ensures.descending)

pub mark-requires : goal.mark-requires
mark-requires c =
    let n = coefficient_nonzero c.terms-terms.result.now c.terms-terms.result.now c.in_ok-at.at c.index-terms-at.result refl c.in_ok-at.ensures.within
    c.index-terms-at.is (subst IsDescending (sym c.terms-terms.ensures.value) c.terms-terms.ensures.descending) in
    let l : c.in_ok-at.at < length c.terms-terms.result.now = c.in_ok-at.ensures.within in
    let e : length c.in-Ok.divided ≡ length c.poly-2.result.now = length-products _ c.poly-2.result.now c.in-Ok.divided n c.in-Ok.ensures.terms in
    let q : length c.terms-terms.result.now ≡ length c.poly-2.result.now = ap length (c.terms-terms.ensures.value ∙ c.poly.ensures ∙ sym c.poly-2.ensures) in
    omega (arith, l, e, q)

pub returns-in-Ok : goal.returns-in-Ok
returns-in-Ok c =
    let n = coefficient_nonzero c.terms-terms.result.now c.terms-terms.result.now c.in_ok-at.at c.index-terms-at.result refl c.in_ok-at.ensures.within
    c.index-terms-at.is (subst IsDescending (sym c.terms-terms.ensures.value) c.terms-terms.ensures.descending) in
    divided_by c.args.member.now c.mark.result c.terms-terms.result.now c.in-Ok.divided c.index-terms-at.result c.in_ok-at.at c.args.x.now
    (c.terms-terms.ensures.value ∙ c.poly.ensures) (subst IsDescending (sym c.terms-terms.ensures.value) c.terms-terms.ensures.descending)
    c.requires c.in_ok-at.ensures.within c.index-terms-at.is (subst (λ (t : Term). t.coef ≢ zero_ℚ) (sym c.index-terms-at.is) n)
    (subst (λ (z : Terms). HasProducts (reciprocal_ℚ c.index-terms-at.result.coef) [] z c.in-Ok.divided) c.poly-2.ensures
    (subst (λ (t : Term). HasProducts (reciprocal_ℚ t.coef) [] c.poly-2.result.now c.in-Ok.divided) (sym c.index-terms-at.is) c.in-Ok.ensures.terms))
    c.in_ok-at.ensures.head c.mark.ensures
