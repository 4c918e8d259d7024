use Rattle.std.proofs.Common.{ap, length, ◌∙◌}
use Rattle.std.proofs.lemmas.Result.{IfOk-weaker}
use Rattle.gf_whole_division.specs.Values.{whole_terms}
use Rattle.gf_whole_division.proofs.ReductionLaws.{pair_started, keeps_pair}
use Rattle.gf_whole_division.proofs.remainders.whole_remainder_of_pair.Goals as goal

pub returns-clause-value : goal.returns-clause-value
returns-clause-value c =
    IfOk-weaker c.remainder_of.result _ _
    (λ p. pair_started c.args.by.now c.args.b.now c.args.c.now (whole_terms c.in_ok-start.start.items) p c.in_ok-start.ensures)
    c.remainder_of.ensures.remainder

pub returns-clause-variables : goal.returns-clause-variables
returns-clause-variables c =
    IfOk-weaker c.remainder_of.result _ _ (λ p. keeps_pair c.args.b.now c.args.c.now p (length c.exponents-n.result.now) c.head.ensures.marked
    (ap length c.exponents-n.ensures.value ∙ ap length c.head.ensures.value)) c.remainder_of.ensures.variables
