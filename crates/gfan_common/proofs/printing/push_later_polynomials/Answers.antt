use Rattle.std.proofs.Common.{length, sym, subst}
use Rattle.gf_text.specs.Sets.{IsIn}
use Rattle.gf_text.proofs.SetsLaws.{in_at}
use Rattle.gfan_common.proofs.printing.push_later_polynomials.Goals as goal

pub poly-requires : goal.poly-requires
poly-requires c = subst (IsIn (length c.args.ring.now)) (sym c.polynomial-item.is)
    (in_at (length c.args.ring.now) c.args.polynomials.now c.polynomials.polynomial-index c.polynomial-item.result c.requires c.polynomials-test.true)
