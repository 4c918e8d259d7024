use Rattle.std.proofs.Common.{◌≡◌, List, All, length, map, refl, sym, ap, ◌∙◌, subst}
use Rattle.std.proofs.lemmas.List.Elements.{All-map}
use Rattle.std.proofs.lemmas.Result.{err_from_is_err_and}
use Rattle.gf_poly.specs.Marking.{MarkedPolynomials}
use Rattle.gf_small.specs.LeadingTerms.{leading_set}
use Rattle.gf_frame.specs.Commands.{IsRefusedOn}
use Rattle.gfan_sets.proofs.leading_terms.of_list.Goals as goal

pub printed_list-requires : goal.printed_list-requires
printed_list-requires c =
    let P : MarkedPolynomials → Type 0 = λ s. s.variables ≡ length c.in_ok-read.read.ring in
    let found = c.deref-2.ensures.value ∙ c.in_ok-found.ensures ∙ ap (map leading_set) c.deref.ensures.value in
    subst (λ (ss : List MarkedPolynomials). All P ss) (sym found) (All-map P leading_set c.in_ok-read.read.sets.items c.in_ok-read.ensures.variables)

pub returns-in_err-read-clause-err : goal.returns-in_err-read-clause-err
returns-in_err-read-clause-err c =
    let p = err_from_is_err_and c.from_residual.result c.from_residual.ensures.1 in
    rw (p.1, p.2) (IsRefusedOn.in_text c.in_err-read.field-0.0 c.in_err-read.ensures.err refl)
