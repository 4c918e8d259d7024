use Rattle.std.proofs.Common.{FitsSigned, pos, ℤ, ◌≡◌, rules, ◌∙◌, ap, subst, sym}
use Rattle.std.specs.Int.RustNames.{unsigned_abs, int_div}
use Rattle.std.specs.Int.{w128}
use Rattle.std.proofs.lemmas.Int.{to_z-of_z}
use Rattle.gf_int_theory.specs.Gcd.{gcd}
use Rattle.gf_frac.specs.Fits.{IsReduced}
use Rattle.gf_frac.proofs.PartsLaws.{through, reduced_by, reduced_one}
use Rattle.gf_frac.proofs.working.lowest_by.Goals as goal

pub returns-then-g-eq1 : goal.returns-then-g-eq1
returns-then-g-eq1 c =
    let fp : FitsSigned w128 c.args.p = c.ranges.p in
    subst (λ (z : ℤ). IsReduced c.args.p c.args.q (z, c.args.q)) (sym (to_z-of_z w128 c.args.p fp))
    (reduced_one c.args.p c.args.q c.args.g c.requires.numerator c.requires.positive c.requires.fits c.requires.common c.if-g-eq1.true)

pub returns : goal.returns
returns c =
    let fp : FitsSigned w128 c.args.p = c.ranges.p in
    let fq : FitsSigned w128 c.quotient.result = search rules in
    let et : c.common-t.result ≡ gcd (unsigned_abs c.args.p) c.args.g =
    c.common-t.ensures.value ∙ ap (λ z. gcd z c.args.g) (c.unsigned_abs.ensures.value ∙ ap unsigned_abs (to_z-of_z w128 c.args.p fp)) in
    let e : c.quotient.result ≡ int_div c.args.p (pos c.common-t.result) =
    c.quotient.ensures ∙ ap (λ z. int_div z (pos c.common-t.result)) (to_z-of_z w128 c.args.p fp) in
    reduced_by c.args.p _ c.args.q c.args.g c.common-t.result _ c.requires.numerator c.requires.positive c.requires.fits c.requires.common et (through _ _ fq e)
    c.natural_quotient.ensures
