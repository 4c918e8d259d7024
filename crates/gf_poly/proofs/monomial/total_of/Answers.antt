use Rattle.std.proofs.Common.{◌<◌, ◌^◌, arith}
use Rattle.std.proofs.lemmas.List.Elements.{All-get_or}
use Rattle.gf_poly.proofs.MonomialLaws.{degree-take}
use Rattle.gf_poly.proofs.monomial.total_of.Goals as goal

pub entries-preserved : goal.entries-preserved
entries-preserved c = record {
  total = omega (arith, degree-take c.args.exponents.now c.entries.i c.entries-test.true);
  bound = omega (arith, All-get_or (λ k. k < 2 ^ 31) c.args.exponents.now c.entries.i 0 c.entries-test.true c.requires.limit);
}
