use Rattle.std.proofs.Common.{length, sym, subst}
use Rattle.gf_text.specs.Sets.{IsIn}
use Rattle.gf_text.proofs.SetsLaws.{in_at}
use Rattle.gf_text_tests.proofs.texts.push_all.Goals as goal

pub poly-requires : goal.poly-requires
poly-requires c = subst (IsIn (length c.args.ring.now)) (sym c.item-item.is)
    (in_at (length c.args.ring.now) c.args.items.now c.items.item-index c.item-item.result c.requires c.items-test.true)
