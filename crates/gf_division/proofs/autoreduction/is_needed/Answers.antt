use Rattle.std.proofs.Common.{ap, sym, ◌∙◌, length}
use Rattle.gf_division.proofs.ReducerLaws.{member_at, member_length}
use Rattle.gf_division.proofs.NeededLaws.{needed_by_test}
use Rattle.gf_division.proofs.autoreduction.is_needed.Goals as goal

pub makes_needless-requires : goal.makes_needless-requires
makes_needless-requires c =
    let v = c.requires.variables in
    let i = member_length v.n c.args.i c.args.items.now c.index-items-i.result v.each
    (member_at c.args.items.now c.args.i c.index-items-i.result c.requires.within c.index-items-i.is) c.head-in-members.ensures.marked in
    let j = member_length v.n c.members.j c.args.items.now c.index-items-j.result v.each
    (member_at c.args.items.now c.members.j c.index-items-j.result c.members-test.true c.index-items-j.is) c.head.ensures.marked in
    ap length c.head.ensures.value ∙ j ∙ sym i ∙ sym (ap length c.head-in-members.ensures.value)

pub members-preserved : goal.members-preserved
members-preserved c = needed_by_test c.args.items.now c.args.i c.members.j c.index-items-i.result c.index-items-j.result c.head.result.now
    c.head-in-members.result.now (member_at c.args.items.now c.members.j c.index-items-j.result c.members-test.true c.index-items-j.is)
    c.head.ensures.value c.head-in-members.ensures.value (c.makes_needless.ensures.no c.if-makes_needless.false) c.members.invariant
