use Rattle.std.proofs.Common.{◌≡◌, [], ◌++◌, ◌∙◌, length, get_or, refl, sym, ap, subst, arith, append-nil}
use Rattle.std.proofs.lemmas.Result.{err_from_is_err_and}
use Rattle.gf_text.specs.PrintedText.{next_text, powers, left_text}
use Rattle.gf_text.specs.Told.{Wrote}
use Rattle.gf_text.proofs.ToldLaws.{told_then, told_failed, wrote_nothing, wrote_both, wrote_then_part}
use Rattle.gf_text.proofs.PrintedTextLaws.{left_next, left_end}
use Rattle.gf_text.proofs.term_printer.write_powers.Goals as goal

pub powers-init : goal.powers-init
powers-init g c = ([], wrote_nothing _ _, refl)

pub returns-in_err-some : goal.returns-in_err-some
returns-in_err-some g c =
    let p = err_from_is_err_and c.from_residual.result c.from_residual.ensures.1 in
    let exponents = c.exponents-exponents.result.now in
    let same : length exponents ≡ length c.args.ring.now = ap length c.exponents-exponents.ensures.value ∙ c.requires in
    let next = left_next c.args.ring.now exponents c.powers.invariant.0 _ c.powers.some _ c.powers.i c.name.result.now c.powers-test.true same c.name.ensures
    refl c.powers.invariant.2 in
    told_failed c.from_residual.result p.0 _ _ _ _ _ _ _ p.1 (next ∙ ap (λ es. left_text c.args.before (powers c.args.ring.now es))
    c.exponents-exponents.ensures.value)
    (wrote_then_part _ _ _ _ _ _ _ _ c.powers.invariant.1 c.in_err-some.ensures.text)

pub powers-preserved : goal.powers-preserved
powers-preserved g c =
    let exponents = c.exponents-exponents.result.now in
    let same : length exponents ≡ length c.args.ring.now = ap length c.exponents-exponents.ensures.value ∙ c.requires in (
      c.powers.invariant.0 ++ next_text c.powers.some c.name.result.now (get_or exponents c.powers.i 0),
      wrote_both _ _ _ _ _ _ _ _ c.powers.invariant.1 c.in_ok-some.ensures.text,
      left_next c.args.ring.now exponents c.powers.invariant.0 _ c.powers.some c.in_ok-some.some c.powers.i c.name.result.now c.powers-test.true same
          c.name.ensures c.in_ok-some.ensures.some c.powers.invariant.2,
    )

pub returns-then-some : goal.returns-then-some
returns-then-some g c =
    let exponents = c.exponents-exponents.result.now in
    let same : length exponents ≡ length c.args.ring.now = ap length c.exponents-exponents.ensures.value ∙ c.requires in
    let end = left_end c.args.ring.now exponents c.powers.invariant.0 _ c.powers.some c.powers.i (omega arith) c.powers.invariant.2 in
    let done : c.powers.invariant.0 ≡ left_text c.args.before (powers c.args.ring.now c.args.monomial.now) =
    sym (append-nil c.powers.invariant.0) ∙ ap (λ b. c.powers.invariant.0 ++ left_text b []) (sym c.if-some.true) ∙ end
    ∙ ap (λ es. left_text c.args.before (powers c.args.ring.now es)) c.exponents-exponents.ensures.value in
    subst (Wrote (g.E.Sink.held c.args.sink.now) (g.E.Sink.held c.powers.sink) (g.E.Sink.faults c.args.sink.now) (g.E.Sink.faults c.powers.sink))
    done c.powers.invariant.1

pub returns-else-some : goal.returns-else-some
returns-else-some g c =
    let exponents = c.exponents-exponents.result.now in
    let same : length exponents ≡ length c.args.ring.now = ap length c.exponents-exponents.ensures.value ∙ c.requires in
    let end = left_end c.args.ring.now exponents c.powers.invariant.0 _ c.powers.some c.powers.i (omega arith) c.powers.invariant.2 in
    told_then c.write_text.result _ _ _ _ _ _ _ _ _
    (ap (λ b. c.powers.invariant.0 ++ left_text b []) (sym c.if-some.false) ∙ end ∙ ap (λ es. left_text c.args.before (powers c.args.ring.now es))
    c.exponents-exponents.ensures.value)
    c.powers.invariant.1 c.write_text.ensures
