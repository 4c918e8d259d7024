use Rattle.std.proofs.Common.{◌∙◌, sym, arith}
use Rattle.gf_poly.proofs.MonomialLaws.{FitsBelow-more, FitsBelow-end, entry-get_or}
use Rattle.gf_poly.proofs.monomial.first_overflow.Goals as goal

pub returns-then-left-right : goal.returns-then-left-right
returns-then-left-right c = record {
  at = c.entries.i;
  left = omega (arith, entry-get_or c.args.x.now c.entries.i);
  right = omega (arith, entry-get_or c.args.y.now c.entries.i);
  leaves = omega (arith, entry-get_or c.args.x.now c.entries.i, entry-get_or c.args.y.now c.entries.i);
  before = c.entries.invariant.at;
}

pub entries-preserved : goal.entries-preserved
entries-preserved c = FitsBelow-more c.args.x.now c.args.y.now c.entries.i
    (omega (arith, entry-get_or c.args.x.now c.entries.i, entry-get_or c.args.y.now c.entries.i)) c.entries.invariant

pub unreachable-requires : goal.unreachable-requires
unreachable-requires c = c.requires.some (FitsBelow-end c.args.x.now c.args.y.now c.entries.i (c.requires.left ∙ sym c.requires.right)
    (omega (arith, c.requires.left)) c.entries.invariant)
