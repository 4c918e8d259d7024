use Rattle.std.proofs.Common.{FitsSigned, ◌≡◌, rules, ◌∙◌, ap}
use Rattle.std.specs.Int.RustNames.{unsigned_abs}
use Rattle.std.specs.Int.{w128}
use Rattle.std.proofs.lemmas.Int.{to_z-of_z}
use Rattle.gf_int_theory.specs.Gcd.{gcd}
use Rattle.gf_frac.proofs.WorkingLaws.{product_made}
use Rattle.gf_frac.proofs.working.product_of_quotients.Goals as goal

pub returns : goal.returns
returns c =
    let fa : FitsSigned w128 c.args.a = c.ranges.a in
    let fc : FitsSigned w128 c.args.c = c.ranges.c in
    let fx : FitsSigned w128 c.quotient.result = search rules in
    let fy : FitsSigned w128 c.quotient-2.result = search rules in
    let fn : FitsSigned w128 c.in-Some.numerator = search rules in
    let eg : c.common-g.result ≡ gcd (unsigned_abs c.args.a) c.args.d =
    c.common-g.ensures.value ∙ ap (λ z. gcd z c.args.d) (c.unsigned_abs.ensures.value ∙ ap unsigned_abs (to_z-of_z w128 _ fa)) in
    let eh : c.common-h.result ≡ gcd (unsigned_abs c.args.c) c.args.b =
    c.common-h.ensures.value ∙ ap (λ z. gcd z c.args.b) (c.unsigned_abs-2.ensures.value ∙ ap unsigned_abs (to_z-of_z w128 _ fc)) in
    rw (to_z-of_z w128 _ fn) (product_made c.args.a c.args.c _ _ _ _ _ _ _ _ _ _ c.requires.left c.requires.right eg eh (simp to_z-of_z at c.quotient.ensures)
    (simp to_z-of_z at c.quotient-2.ensures) (simp to_z-of_z at c.in-Some.ensures) c.natural_quotient.ensures c.natural_quotient-2.ensures
    c.in-Some-common_multiple.ensures)
