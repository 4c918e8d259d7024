use Rattle.std.proofs.Common.{[], length}
use Rattle.gf_strands.specs.Strands.{AreStrandsOf, facet_order, strand_members, terms_of_parts}
use Rattle.gf_strands.specs.Monomials.{with_monomials}
use Rattle.gf_strand_runs.proofs.JoinedTurns.{AreSettledTo}
use Rattle.gf_strand_runs.proofs.turns.strands_in_turn.Given as goal

abbrev pub invariant-turns : goal.invariant-turns
invariant-turns l = record {
  settled : AreSettledTo (facet_order l.ground.normal.now) (length l.ground.normal.now) (terms_of_parts l.ground.normal.now l.fn.list.items)
      (with_monomials l.ground.marks.now []) l.ground.marks.now (strand_members l.ground.normal.now l.strands.items) l.j;
  strands : AreStrandsOf l.ground.normal.now l.ground.by.now l.strands.items;
}
