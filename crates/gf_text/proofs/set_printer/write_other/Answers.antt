use Rattle.std.proofs.Common.{true, false, subst}
use Rattle.gf_text.specs.Told.{Wrote}
use Rattle.gf_text.proofs.PrintedSetsLaws.{other_test}
use Rattle.gf_text.proofs.ToldLaws.{told_as, wrote_nothing}
use Rattle.gf_text.proofs.set_printer.write_other.Goals as goal

pub returns-then-eq : goal.returns-then-eq
returns-then-eq g c =
    subst (Wrote _ _ _ _) (other_test c.args.ring.now c.args.head.now c.exponents.result.now c.args.term.now c.eq.result true c.exponents.ensures.value
    c.eq.ensures c.if-eq.true) (wrote_nothing _ _)

pub returns : goal.returns
returns g c =
    told_as c.write_term.result _ _ _ _ _ _ (other_test c.args.ring.now c.args.head.now c.exponents.result.now c.args.term.now c.eq.result false
    c.exponents.ensures.value c.eq.ensures c.if-eq.false) c.write_term.ensures
