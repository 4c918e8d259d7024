use Rattle.std.proofs.Common.{◌∙◌, ap, length, refl}
use Rattle.std.proofs.lemmas.Result.{err_from_is_err_and}
use Rattle.gf_poly.specs.declared.Term.{Term}
use Rattle.gf_text.proofs.CombiningLaws.{variables_at_place}
use Rattle.gf_text.proofs.PrintedSetsLaws.{marked_parts}
use Rattle.gf_text.proofs.ToldLaws.{told_then, told_failed}
use Rattle.gf_text.proofs.set_printer.write_marked.Goals as goal

pub write_term-requires : goal.write_term-requires
write_term-requires g c =
    let n = length c.args.ring.now in
    let same = c.terms-terms.ensures.value ∙ c.poly.ensures in
    let variables = rw (← same) at c.requires in
    let within = rw (← same) at c.index.ensures.inside in
    ap (λ (t : Term). length t.mono) c.index-terms-index.is ∙ variables_at_place n c.terms-terms.result.now c.index.result c.index-terms-index.result variables
    within

pub returns-in_err-write_term : goal.returns-in_err-write_term
returns-in_err-write_term g c =
    let p = err_from_is_err_and c.from_residual.result c.from_residual.ensures.1 in
    let same = c.terms-terms.ensures.value ∙ c.poly.ensures in
    let descending = rw c.poly.ensures at c.terms-terms.ensures.descending in
    told_failed c.from_residual.result p.0 _ _ _ _ _ _ _ p.1
    (marked_parts c.args.ring.now c.args.marked.now c.terms-terms.result.now (length c.args.ring.now) c.index.result c.index-terms-index.result _
    same c.index-terms-index.is c.index.ensures.inside c.requires descending c.index.ensures.head refl)
    c.in_err-write_term.ensures

pub returns : goal.returns
returns g c =
    let same = c.terms-terms.ensures.value ∙ c.poly.ensures in
    let descending = rw c.poly.ensures at c.terms-terms.ensures.descending in
    told_then c.write_others.result _ _ _ _ _ _ _ _ _
    (marked_parts c.args.ring.now c.args.marked.now c.terms-terms.result.now (length c.args.ring.now) c.index.result c.index-terms-index.result
    c.exponents.result.now
    same c.index-terms-index.is c.index.ensures.inside c.requires descending c.index.ensures.head c.exponents.ensures.value)
    c.in_ok-write_term.ensures c.write_others.ensures
