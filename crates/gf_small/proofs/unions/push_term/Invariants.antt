use Rattle.std.proofs.Common.{◌≡◌, ◌++◌, take, map, pos, All}
use Rattle.gf_int_theory.specs.Range.{InRange}
use Rattle.gf_small.proofs.unions.push_term.Given as goal

abbrev pub invariant-exponents : goal.invariant-exponents
invariant-exponents l = (l.key.items ≡ l.initial.key.items ++ map pos (take l.i l.exponents)) × All InRange l.key.items
