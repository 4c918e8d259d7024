use Rattle.std.proofs.Common.{List, [], length, arith, sym, subst}
use Rattle.gf_strands.specs.declared.strands.Strand.{Strand}
use Rattle.gf_strands.specs.Strands.{AreStrandsOf, facet_order, strand_members, terms_of_parts}
use Rattle.gf_strands.specs.Monomials.{with_monomials}
use Rattle.gf_strand_runs.specs.Turns.{HasEntering, IsEntering}
use Rattle.gf_strand_runs.proofs.StrandTurns.{more_strands, strands_length}
use Rattle.gf_strand_runs.proofs.JoinedTurns.{settled_to-start, settled_to-more, settled_within, settled_turning, settled_entered}
use Rattle.gf_strand_runs.proofs.turns.strands_in_turn.Goals as goal

pub enter-requires-clause-strands : goal.enter-requires-clause-strands
enter-requires-clause-strands c = subst (AreStrandsOf c.args.ground.now.normal.now c.args.ground.now.by.now) (sym c.in_ok-strands.ensures) tt

pub enter-requires-clause-entering : goal.enter-requires-clause-entering
enter-requires-clause-entering c = subst (λ (z : List Strand). HasEntering (facet_order c.args.ground.now.normal.now) (length c.args.ground.now.normal.now)
    (terms_of_parts c.args.ground.now.normal.now c.args.list.items)
    (with_monomials c.args.ground.now.marks.now (strand_members c.args.ground.now.normal.now z)))
    (sym c.in_ok-strands.ensures) c.requires.entering

pub turns-init : goal.turns-init
turns-init c = record {
  settled = settled_to-start (facet_order c.args.ground.now.normal.now) (length c.args.ground.now.normal.now)
      (terms_of_parts c.args.ground.now.normal.now c.args.list.items) (with_monomials c.args.ground.now.marks.now []) c.args.ground.now.marks.now
      (strand_members c.args.ground.now.normal.now c.enter.new.strands.items)
      (λ fs e. c.in_ok-enter.ensures.entering.at fs (subst (λ (z : List Strand). IsEntering (facet_order c.args.ground.now.normal.now)
      (length c.args.ground.now.normal.now) fs (terms_of_parts c.args.ground.now.normal.now c.args.list.items)
      (with_monomials c.args.ground.now.marks.now (strand_members c.args.ground.now.normal.now z))) (sym c.in_ok-strands.ensures) e));
  strands = c.in_ok-enter.ensures.strands;
}

pub take_row-requires-clause-strands : goal.take_row-requires-clause-strands
take_row-requires-clause-strands c = c.turns.invariant.strands

pub take_row-requires-clause-turning : goal.take_row-requires-clause-turning
take_row-requires-clause-turning c = record {
  polynomials = c.requires.entering.polynomials;
  turning = (c.turns.invariant.settled.at c.requires.entering.polynomials c.requires.entering.entering).turning;
}

pub take_row-requires-clause-second : goal.take_row-requires-clause-second
take_row-requires-clause-second c = omega (
  arith,
  settled_within (facet_order c.args.ground.now.normal.now) (length c.args.ground.now.normal.now)
      c.requires.entering.polynomials (terms_of_parts c.args.ground.now.normal.now c.args.list.items)
      (with_monomials c.args.ground.now.marks.now []) c.args.ground.now.marks.now (strand_members c.args.ground.now.normal.now c.turns.strands.items)
      c.turns.j c.requires.entering.entering c.turns.invariant.settled,
  strands_length c.args.ground.now.normal.now c.turns.strands.items,
  c.if-j-len.false,
  c.len.ensures,
)

pub turns-preserved : goal.turns-preserved
turns-preserved c = record {
  settled = settled_to-more (facet_order c.args.ground.now.normal.now) (length c.args.ground.now.normal.now)
      (terms_of_parts c.args.ground.now.normal.now c.args.list.items) (with_monomials c.args.ground.now.marks.now []) c.args.ground.now.marks.now
      (strand_members c.args.ground.now.normal.now c.turns.strands.items) (strand_members c.args.ground.now.normal.now c.take_row.new.strands.items)
      c.turns.j c.in_ok-take_row.ensures.turning c.in_ok-take_row.ensures.kept
      (more_strands c.args.ground.now.normal.now c.turns.strands.items c.take_row.new.strands.items c.in_ok-take_row.ensures.size)
      (omega (
        arith,
        settled_within (facet_order c.args.ground.now.normal.now) (length c.args.ground.now.normal.now) c.requires.entering.polynomials
            (terms_of_parts c.args.ground.now.normal.now c.args.list.items) (with_monomials c.args.ground.now.marks.now []) c.args.ground.now.marks.now
            (strand_members c.args.ground.now.normal.now c.turns.strands.items) c.turns.j c.requires.entering.entering c.turns.invariant.settled,
        strands_length c.args.ground.now.normal.now c.turns.strands.items,
        c.if-j-len.false,
        c.len.ensures,
      )) c.turns.invariant.settled;
  strands = c.in_ok-take_row.ensures.strands;
}

pub returns-then-j-len-clause-end : goal.returns-then-j-len-clause-end
returns-then-j-len-clause-end c = record {
  turning = λ fs e. settled_turning (facet_order c.args.ground.now.normal.now) (length c.args.ground.now.normal.now) fs
      (terms_of_parts c.args.ground.now.normal.now c.args.list.items) (with_monomials c.args.ground.now.marks.now []) c.args.ground.now.marks.now
      (strand_members c.args.ground.now.normal.now c.turns.strands.items) c.turns.j (omega (
        arith,
        strands_length c.args.ground.now.normal.now c.turns.strands.items,
        c.if-j-len.true,
        c.len.ensures,
      )) e c.turns.invariant.settled;
  entered = λ fs e. settled_entered (facet_order c.args.ground.now.normal.now) (length c.args.ground.now.normal.now) fs
      (terms_of_parts c.args.ground.now.normal.now c.args.list.items) (with_monomials c.args.ground.now.marks.now []) c.args.ground.now.marks.now
      (strand_members c.args.ground.now.normal.now c.turns.strands.items) c.turns.j e c.turns.invariant.settled;
}

pub returns-then-j-len-clause-strands : goal.returns-then-j-len-clause-strands
returns-then-j-len-clause-strands c = c.turns.invariant.strands
