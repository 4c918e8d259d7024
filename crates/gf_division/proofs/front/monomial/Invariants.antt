use Rattle.std.proofs.Common.{◌<◌, ◌^◌, take}
use Rattle.std.specs.Prelude.{All}
use Rattle.gf_division.proofs.front.monomial.Given as goal

abbrev pub invariant-entries : goal.invariant-entries
invariant-entries l = All (λ k. k < 2 ^ 31) (take l.i l.exponents)
