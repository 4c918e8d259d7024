use Rattle.std.proofs.Common.{◌≡◌, ◌≤◌, ◌*◌, ◌^◌, take}
use Rattle.gf_exponents_theory.specs.Exponents.{degree}
use Rattle.gf_poly.proofs.monomial.total_of.Given as goal

abbrev pub invariant-entries : goal.invariant-entries
invariant-entries l = record { total : l.total ≡ degree (take l.i l.exponents); bound : l.total ≤ l.i * 2 ^ 31 }
