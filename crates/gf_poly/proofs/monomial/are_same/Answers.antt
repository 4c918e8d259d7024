use Rattle.std.proofs.Common.{sym, arith, ◌∙◌}
use Rattle.gf_poly.proofs.LexLaws.{IsSameUpTo-more, IsSameUpTo-end}
use Rattle.gf_poly.proofs.monomial.are_same.Goals as goal

pub entries-preserved : goal.entries-preserved
entries-preserved c = IsSameUpTo-more c.args.x.now c.args.y.now c.entries.i c.entries.same c.still_same-same.result c.still_same-same.ensures
    c.entries.invariant

pub returns : goal.returns
returns c = IsSameUpTo-end c.args.x.now c.args.y.now c.entries.i c.entries.same (c.requires.left ∙ sym c.requires.right)
    (omega (arith, c.requires.left)) c.entries.invariant
