use Rattle.std.proofs.Common.{subst}
use Rattle.gf_text.specs.WrittenText.{IsTermInRange}
use Rattle.gf_text.proofs.KeptLaws.{in_range_next}
use Rattle.gf_text.proofs.printer.terms_are_in_range.Goals as goal

pub terms-preserved : goal.terms-preserved
terms-preserved c =
    let one = subst IsTermInRange c.term-item.is c.term_is_in_range.ensures in
    in_range_next c.args.terms.now c.terms.term-index c.term-item.result c.terms-test.true c.terms.invariant one
