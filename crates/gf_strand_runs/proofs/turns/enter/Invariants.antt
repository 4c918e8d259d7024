use Rattle.std.proofs.Common.{[], length}
use Rattle.gf_strands.specs.Strands.{AreStrandsOf, ArePartsOnStrands, facet_order, strand_members, terms_of_parts}
use Rattle.gf_strands.specs.Monomials.{with_monomials}
use Rattle.gf_strand_runs.specs.Turns.{AreUndividedBy, KeepsEntering}
use Rattle.gf_strand_runs.proofs.turns.enter.Given as goal

abbrev pub invariant-list : goal.invariant-list
invariant-list l = record {
  kept : KeepsEntering (facet_order l.ground.normal.now) (length l.ground.normal.now) (terms_of_parts l.ground.normal.now l.fn.list.items)
      (with_monomials l.ground.marks.now (strand_members l.ground.normal.now l.initial.strands.items))
      (terms_of_parts l.ground.normal.now l.part-iterator.rest.items) (with_monomials l.ground.marks.now (strand_members l.ground.normal.now l.strands.items));
  clear : AreUndividedBy (with_monomials l.ground.marks.now []) (terms_of_parts l.ground.normal.now l.part-iterator.rest.items);
  parts : ArePartsOnStrands l.ground.normal.now l.ground.by.now l.part-iterator.rest.items;
  strands : AreStrandsOf l.ground.normal.now l.ground.by.now l.strands.items;
}
