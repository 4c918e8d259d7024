use Rattle.std.proofs.Common.{arith, ◌<◌, ◌^◌, subst}
use Rattle.std.specs.Prelude.{List, ℕ, All}
use Rattle.std.proofs.lemmas.List.{take_all}
use Rattle.std.proofs.lemmas.List.Elements.{All-more}
use Rattle.gf_division.proofs.front.monomial.Goals as goal

pub new-requires : goal.new-requires
new-requires c = record {
  room = omega (arith, c.if-exponents-gt-ROOM.false);
  limit = subst (λ (x : List ℕ). All (λ k. k < 2 ^ 31) x) (take_all c.entries.i c.args.exponents.now (omega (arith, c.entries-test.false))) c.entries.invariant;
}

pub entries-preserved : goal.entries-preserved
entries-preserved c = All-more (λ k. k < 2 ^ 31) c.args.exponents.now c.entries.i 0 c.entries-test.true c.entries.invariant
    (omega (arith, c.if-exponents-i.false))
