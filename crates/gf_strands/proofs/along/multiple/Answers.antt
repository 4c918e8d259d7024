use Rattle.std.proofs.Common.{arith, ◌*ℤ◌, FitsSigned, ◌^◌}
use Rattle.std.specs.Int.{w64}
use Rattle.std.proofs.lemmas.Int.{fits_signed_mul, to_z-of_z}
use Rattle.gf_strands.proofs.along.multiple.Goals as goal

pub returns : goal.returns
returns c =
    let f : FitsSigned w64 (c.args.k *ℤ c.args.a) = fits_signed_mul w64 c.args.k c.args.a (2 ^ 32) 2147483647 c.requires.factor
    (omega (arith, c.requires.small)) (omega arith) in
    grind (arith, to_z-of_z)
