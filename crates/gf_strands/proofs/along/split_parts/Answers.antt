use Rattle.gf_strands.proofs.SplitLaws.{split_none, split_more, split_end, parts_none, parts_more}
use Rattle.gf_strands.proofs.along.split_parts.Goals as goal

pub members-init : goal.members-init
members-init c = record {
  split = split_none c.args.normal.now c.indices.result.items c.marks.result.items c.new.result.items c.indices.ensures c.marks.ensures c.new.ensures.items;
  parts = parts_none c.args.normal.now c.args.items.now c.new.result.items c.new.ensures.items;
}

pub members-preserved : goal.members-preserved
members-preserved c = record {
  split = split_more c.args.normal.now c.args.items.now c.members.i c.index-items-i.result c.members.all c.add.new.all c.members-test.true c.index-items-i.is
      (c.in_ok-add.ensures) c.members.invariant.split;
  parts = parts_more c.args.normal.now c.args.items.now c.members.i c.index-items-i.result c.members.all c.add.new.all c.members-test.true c.index-items-i.is
      (c.in_ok-add.ensures) c.members.invariant.parts;
}

pub returns-clause-split : goal.returns-clause-split
returns-clause-split c = split_end c.args.normal.now c.args.items.now c.members.i c.members.all c.members-test.false c.members.invariant.split

pub returns-clause-parts : goal.returns-clause-parts
returns-clause-parts c = c.members.invariant.parts
