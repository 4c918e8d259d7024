use Rattle.std.proofs.Common.{FitsSigned, arith, refl, rules, subst, sym}
use Rattle.std.specs.Prelude.{◌<ℤ◌, pos}
use Rattle.std.specs.Int.{w128}
use Rattle.std.proofs.lemmas.Int.{ints}
use Rattle.gf_frac.proofs.PartsLaws.{through}
use Rattle.gf_whole_division.proofs.ValueLaws.{quotient_of}
use Rattle.gf_whole_division.proofs.remainders.quotient.Goals as goal

pub returns : goal.returns
returns c =
    let f : FitsSigned w128 c.in-Some-Some.numerator = search rules in
    let g : FitsSigned w128 c.in-Some-Some.denominator = search rules in
    let h : pos 0 <ℤ c.in-Some-Some.denominator = omega (arith, ints, c.if-denominator-le0.false) in
    quotient_of c.args.a.now c.args.b.now c.common-p.result.0 c.common-p.result.1 c.common-p.result.2 _ _ c.new.result c.common-p.ensures
    (through _ _ f c.in-Some-Some.ensures.0) (through _ _ g c.in-Some-Some.ensures'.0) (subst (λ z. pos 0 <ℤ z) (sym (through _ _ g refl)) h)
    c.new.ensures.value
