use Rattle.std.proofs.Common.{◌≡◌, take}
use Rattle.gf_exponents_theory.specs.Exponents.{plus}
use Rattle.gf_whole_division.proofs.terms.is_product.Given as goal

abbrev pub invariant-variables : goal.invariant-variables
invariant-variables l = take l.i l.x ≡ plus (take l.i l.y) (take l.i l.z)
