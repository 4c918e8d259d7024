use Rattle.std.proofs.Common.{get_or, length, arith, false, sym, subst}
use Rattle.gf_poly.specs.Marking.{MarkedPolynomial}
use Rattle.gf_strands.specs.Monomials.{IsAddedWhere}
use Rattle.gf_strands.specs.Strands.{strand_members}
use Rattle.gf_flip.proofs.ChosenLaws.{lifted_front, lifted_strand}
use Rattle.gf_flip.proofs.chosen.chosen_lifts.Goals as goal

pub marks-preserved : goal.marks-preserved
marks-preserved c = record {
  lifted = lifted_front (length c.args.ground.now.normal.now) c.args.ground.now.by.now c.args.ground.now.normal.now c.args.ground.now.marks.now
      (strand_members c.args.ground.now.normal.now c.args.strands.now) c.args.flags.now c.marks.i (get_or c.args.indices.now c.marks.i 0)
      c.index-ground-indices.result c.marks.lifts.members.items c.add_copy.new.lifts.members.items c.marks.lifts.copied.items c.add_copy.new.lifts.copied.items
      c.requires.marked c.requires.set c.requires.flags c.marks-test.true (c.requires.alone c.marks.i (omega (arith, c.marks-test.true, c.requires.size)))
      c.index-ground-indices.is (subst (λ (z : MarkedPolynomial). IsAddedWhere (get_or c.args.flags.now c.marks.i false)
      z c.marks.lifts.members.items c.add_copy.new.lifts.members.items) (sym c.index-ground-indices.is) c.in_ok-add_copy.ensures.members)
      c.in_ok-add_copy.ensures.copied c.marks.invariant.lifted;
  within = omega (arith, c.marks-test.true);
}

pub strands-preserved : goal.strands-preserved
strands-preserved c = record {
  lifted = lifted_strand (length c.args.ground.now.normal.now) c.args.ground.now.by.now c.args.ground.now.normal.now c.args.ground.now.marks.now
      c.args.strands.now
      c.args.flags.now c.strands.j c.index-strands-j.result c.strands.lifts.members.items c.add_lift.new.lifts.members.items c.strands.lifts.copied.items
      c.add_lift.new.lifts.copied.items
      c.requires.flags c.strands-test.true c.index-strands-j.is c.in_ok-add_lift.ensures c.strands.invariant.lifted;
  within = omega (arith, c.strands-test.true);
}
