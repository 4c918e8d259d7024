use Rattle.std.proofs.Common.{length}
use Rattle.std.proofs.Common.{◌≡◌, sym, ◌∙◌, rules}
use Rattle.std.proofs.lemmas.Result.{IfOk-weaker}
use Rattle.gf_whole_division.proofs.ReductionLaws.{empty_remainder, no_items, start_multiple}
use Rattle.gf_whole_division.proofs.remainders.whole_remainder.Goals as goal

pub returns-in_default-clause-value : goal.returns-in_default-clause-value
returns-in_default-clause-value c =
    let e : length c.terms-terms.result.now ≡ 0 = search rules in
    empty_remainder c.args.by.now c.args.f.now c.zero.result (sym c.terms-terms.ensures.value ∙ no_items c.terms-terms.result.now e) c.zero.ensures

pub returns-clause-value : goal.returns-clause-value
returns-clause-value c =
    IfOk-weaker c.remainder_of.result _ _
    (λ p k. k c.args.f.now (start_multiple c.in_ok-start.field-0-0 c.in_ok-start.start.items c.args.f.now c.terms-terms.result.now c.terms-terms.ensures.value
    c.in_ok-start.ensures)) c.remainder_of.ensures.remainder
