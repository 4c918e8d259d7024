use Rattle.gf_cuts.proofs.AboveLaws.{one_width, only_row}
use Rattle.gf_cuts.proofs.ties.tie_row.Goals as goal

pub difference-requires : goal.difference-requires
difference-requires c = one_width c.requires.wide.0 c.args.points.now c.args.top c.args.x c.index-points-top.result c.index-points-x.result c.requires.wide.1
    c.requires.top c.requires.index c.index-points-top.is c.index-points-x.is

pub returns : goal.returns
returns c = only_row c.args.points.now c.args.top c.args.x c.index-points-top.result c.index-points-x.result c.in_ok-difference.field-0 c.in_ok-out.out.items _
    c.requires.top c.requires.index c.index-points-top.is c.index-points-x.is c.in_ok-difference.ensures c.in_ok-out.ensures.items c.in_ok-push.ensures.items
