use Rattle.gf_cone.proofs.RowsLaws.{Collecting-more, all_collected, collected_marked, some_variables}
use Rattle.gf_cone.proofs.marking.rows.Goals as goal

pub with_member-requires-clause-variables : goal.with_member-requires-clause-variables
with_member-requires-clause-variables c = some_variables c.args.set.now.variables c.args.set.now.items c.items-items.result.now c.members.i
    c.index-items-i.result c.items-items.ensures.value c.items-items.ensures.variables c.members-test.true c.index-items-i.is

pub members-preserved : goal.members-preserved
members-preserved c = record {
  rows = Collecting-more c.items-items.result.now c.members.i c.index-items-i.result c.members.rows.items _ c.members-test.true c.index-items-i.is
      c.in_ok-rows.ensures.marked c.in_ok-rows.ensures.rows c.members.invariant.rows;
  small = c.in_ok-rows.ensures.small;
}

pub returns-clause-rows : goal.returns-clause-rows
returns-clause-rows c = all_collected c.args.set.now.items c.items-items.result.now c.members.rows.items c.members.i c.items-items.ensures.value
    c.members-test.false c.members.invariant.rows

pub returns-clause-marked : goal.returns-clause-marked
returns-clause-marked c = collected_marked c.args.set.now.items c.items-items.result.now c.members.rows.items c.members.i c.items-items.ensures.value
    c.members-test.false c.members.invariant.rows
