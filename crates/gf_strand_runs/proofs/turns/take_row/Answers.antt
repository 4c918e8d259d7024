use Rattle.std.proofs.Common.{◌+◌, length, arith}
use Rattle.gf_strands.specs.Strands.{facet_order, strand_members}
use Rattle.gf_strands.specs.Monomials.{with_monomials}
use Rattle.gf_strand_runs.proofs.StrandTurns.{strand_within, strand_inside, more_strands, strands_more}
use Rattle.gf_strands.proofs.MonomialLaws.{joined_length}
use Rattle.gf_strand_runs.proofs.TurnLaws.{row-none, row-more, row_turning, turning-row}
use Rattle.gf_strand_runs.proofs.JoinedTurns.{behind_size, row_start, row_next, row_second}
use Rattle.gf_strand_runs.proofs.turns.take_row.Goals as goal

pub marks-init : goal.marks-init
marks-init c = record {
  row = row-none (facet_order c.args.ground.now.normal.now) (length c.args.ground.now.normal.now)
      (with_monomials c.args.ground.now.marks.now (strand_members c.args.ground.now.normal.now c.args.strands.now.items))
      (length c.args.ground.now.marks.now + c.args.j);
  within = omega arith;
  strands = c.requires.strands;
}

pub take_monomial-requires-clause-strands : goal.take_monomial-requires-clause-strands
take_monomial-requires-clause-strands c = c.marks.invariant.strands

pub take_monomial-requires-clause-turning : goal.take_monomial-requires-clause-turning
take_monomial-requires-clause-turning c = row_turning (facet_order c.args.ground.now.normal.now) (length c.args.ground.now.normal.now)
    (with_monomials c.args.ground.now.marks.now (strand_members c.args.ground.now.normal.now c.args.strands.now.items))
    (with_monomials c.args.ground.now.marks.now (strand_members c.args.ground.now.normal.now c.marks.strands.items)) c.marks.i
    (length c.args.ground.now.marks.now + c.args.j) c.requires.turning c.marks.invariant.row

pub take_monomial-requires-clause-second : goal.take_monomial-requires-clause-second
take_monomial-requires-clause-second c = strand_inside c.args.ground.now.normal.now c.marks.strands.items c.args.j
    (row_second (facet_order c.args.ground.now.normal.now) (length c.args.ground.now.normal.now) c.args.ground.now.marks.now
    (strand_members c.args.ground.now.normal.now c.args.strands.now.items) (strand_members c.args.ground.now.normal.now c.marks.strands.items) c.marks.i
    (length c.args.ground.now.marks.now + c.args.j) c.args.j (strand_within c.args.ground.now.normal.now c.args.strands.now.items c.args.j c.requires.second)
    c.marks.invariant.row)

pub marks-preserved : goal.marks-preserved
marks-preserved c = record {
  row = row-more (facet_order c.args.ground.now.normal.now) (length c.args.ground.now.normal.now)
      (with_monomials c.args.ground.now.marks.now (strand_members c.args.ground.now.normal.now c.args.strands.now.items))
      (with_monomials c.args.ground.now.marks.now (strand_members c.args.ground.now.normal.now c.marks.strands.items))
      (with_monomials c.args.ground.now.marks.now (strand_members c.args.ground.now.normal.now c.take_monomial.new.strands.items)) c.marks.i _
      (length c.args.ground.now.marks.now + c.args.j) c.in_ok-take_monomial.ensures.turning c.in_ok-take_monomial.ensures.kept
      (omega (
        arith,
        more_strands c.args.ground.now.normal.now c.marks.strands.items c.take_monomial.new.strands.items c.in_ok-take_monomial.ensures.size,
        joined_length c.args.ground.now.marks.now (strand_members c.args.ground.now.normal.now c.marks.strands.items),
        joined_length c.args.ground.now.marks.now
            (strand_members c.args.ground.now.normal.now c.take_monomial.new.strands.items),
      )) c.marks.invariant.row;
  within = omega (arith, c.marks-test.true);
  strands = c.in_ok-take_monomial.ensures.strands;
}

pub strands-init : goal.strands-init
strands-init c = record {
  row = row_start (facet_order c.args.ground.now.normal.now) (length c.args.ground.now.normal.now) c.args.ground.now.marks.now
      (strand_members c.args.ground.now.normal.now c.args.strands.now.items) (strand_members c.args.ground.now.normal.now c.marks.strands.items) c.marks.i
      (length c.args.ground.now.marks.now + c.args.j) (omega (arith, c.marks-test.false, c.marks.invariant.within)) c.marks.invariant.row;
  strands = c.marks.invariant.strands;
}

pub take_turn-requires-clause-strands : goal.take_turn-requires-clause-strands
take_turn-requires-clause-strands c = c.strands.invariant.strands

pub take_turn-requires-clause-turning : goal.take_turn-requires-clause-turning
take_turn-requires-clause-turning c = row_turning (facet_order c.args.ground.now.normal.now) (length c.args.ground.now.normal.now)
    (with_monomials c.args.ground.now.marks.now (strand_members c.args.ground.now.normal.now c.args.strands.now.items))
    (with_monomials c.args.ground.now.marks.now (strand_members c.args.ground.now.normal.now c.strands.strands.items))
    (length c.args.ground.now.marks.now + c.strands.i) (length c.args.ground.now.marks.now + c.args.j) c.requires.turning c.strands.invariant.row

pub take_turn-requires-clause-second : goal.take_turn-requires-clause-second
take_turn-requires-clause-second c = strand_inside c.args.ground.now.normal.now c.strands.strands.items c.args.j
    (row_second (facet_order c.args.ground.now.normal.now) (length c.args.ground.now.normal.now) c.args.ground.now.marks.now
    (strand_members c.args.ground.now.normal.now c.args.strands.now.items) (strand_members c.args.ground.now.normal.now c.strands.strands.items)
    (length c.args.ground.now.marks.now + c.strands.i) (length c.args.ground.now.marks.now + c.args.j) c.args.j
    (strand_within c.args.ground.now.normal.now c.args.strands.now.items c.args.j c.requires.second) c.strands.invariant.row)

pub strands-preserved : goal.strands-preserved
strands-preserved c = record {
  row = row_next (facet_order c.args.ground.now.normal.now) (length c.args.ground.now.normal.now) c.args.ground.now.marks.now
      (with_monomials c.args.ground.now.marks.now (strand_members c.args.ground.now.normal.now c.args.strands.now.items))
      (strand_members c.args.ground.now.normal.now c.strands.strands.items) (strand_members c.args.ground.now.normal.now c.take_turn.new.strands.items)
      c.strands.i
      (length c.args.ground.now.marks.now + c.args.j) c.in_ok-take_turn.ensures.turning c.in_ok-take_turn.ensures.kept
      (more_strands c.args.ground.now.normal.now c.strands.strands.items c.take_turn.new.strands.items c.in_ok-take_turn.ensures.size) c.strands.invariant.row;
  strands = c.in_ok-take_turn.ensures.strands;
}

pub returns-clause-turning : goal.returns-clause-turning
returns-clause-turning c = record {
  at = λ fs t. turning-row (facet_order c.args.ground.now.normal.now) (length c.args.ground.now.normal.now) fs
      (with_monomials c.args.ground.now.marks.now (strand_members c.args.ground.now.normal.now c.strands.strands.items))
      (length c.args.ground.now.marks.now + c.strands.i) (length c.args.ground.now.marks.now + c.args.j) (omega (arith, c.strands-test.false))
      (c.strands.invariant.row.turning.at fs t);
}

pub returns-clause-kept : goal.returns-clause-kept
returns-clause-kept c = c.strands.invariant.row.kept

pub returns-clause-size : goal.returns-clause-size
returns-clause-size c = strands_more c.args.ground.now.normal.now c.args.strands.now.items c.strands.strands.items
    (behind_size c.args.ground.now.marks.now (strand_members c.args.ground.now.normal.now c.args.strands.now.items)
    (strand_members c.args.ground.now.normal.now c.strands.strands.items) c.strands.invariant.row.size)

pub returns-clause-strands : goal.returns-clause-strands
returns-clause-strands c = c.strands.invariant.strands
