use Rattle.std.proofs.Common.{◌∙◌, sym}
use Rattle.std.proofs.lemmas.Result.{err_from_is_err_and}
use Rattle.gf_text.proofs.PrintedTextLaws.{unit_term, sized_term}
use Rattle.gf_text.proofs.ToldLaws.{told_as, told_then, told_failed}
use Rattle.gf_text.proofs.term_printer.write_unsigned.Goals as goal

pub returns-then-is_unit : goal.returns-then-is_unit
returns-then-is_unit g c =
    told_as c.write_monomial.result _ _ _ _ _ _ (unit_term c.args.ring.now c.args.term.now.coef c.args.term.now.mono
    (sym c.is_unit.ensures ∙ c.if-is_unit.true)) c.write_monomial.ensures

pub returns-in_err-write_size : goal.returns-in_err-write_size
returns-in_err-write_size g c =
    let p = err_from_is_err_and c.from_residual.result c.from_residual.ensures.1 in
    told_failed c.from_residual.result p.0 _ _ _ _ _ _ _ p.1 (sized_term c.args.ring.now c.args.term.now.coef c.args.term.now.mono
    (sym c.is_unit.ensures ∙ c.if-is_unit.false)) c.in_err-write_size.ensures

pub returns : goal.returns
returns g c =
    told_then c.write_powers.result _ _ _ _ _ _ _ _ _ (sized_term c.args.ring.now c.args.term.now.coef c.args.term.now.mono
    (sym c.is_unit.ensures ∙ c.if-is_unit.false))
    c.in_ok-write_size.ensures c.write_powers.ensures
