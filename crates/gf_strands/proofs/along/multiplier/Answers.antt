use Rattle.std.proofs.Common.{arith, FitsSigned, ◌∙◌, sym, subst, ℤ}
use Rattle.std.specs.Int.{w64}
use Rattle.std.proofs.lemmas.Int.{fits_signed_from_abs, quot_is}
use Rattle.gf_strands.proofs.MultipleLaws.{exact, small_factor}
use Rattle.gf_strands.proofs.along.multiplier.Goals as goal

pub returns-clause-value : goal.returns-clause-value
returns-clause-value c = λ k e.
    let q = exact c.args.d c.args.a k c.requires.nonzero e in
    let f : FitsSigned w64 k = fits_signed_from_abs w64 k (omega (arith, small_factor c.args.d c.args.a k c.requires.nonzero e, c.requires.difference)) in
    quot_is w64 c.args.d c.args.a c.ranges.d c.ranges.a (subst (λ (z : ℤ). FitsSigned w64 z) (sym q) f) ∙ q
