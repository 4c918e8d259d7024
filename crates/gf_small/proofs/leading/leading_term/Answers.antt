use Rattle.std.proofs.Common.{[], ◌∷◌, ◌++◌, ap, ◌∙◌}
use Rattle.gf_poly.specs.declared.Term.{Term}
use Rattle.gf_poly.specs.Polynomial.{Terms}
use Rattle.gf_poly.specs.Marking.{head_of}
use Rattle.gf_exponents_theory.specs.Exponents.{Exponents}
use Rattle.gf_small.proofs.LeadingTermsLaws.{leading_exact}
use Rattle.gf_small.proofs.leading.leading_term.Goals as goal

pub returns-clause-value : goal.returns-clause-value
returns-clause-value c =
    let k = c.coefficient-coef.result in
    let t : Term = record { coef = k; mono = c.copy-mono.result } in
    let poly = c.from_descending.ensures ∙ c.in_ok-push.ensures.items ∙ ap (λ (l : Terms). l ++ t ∷ []) c.in_ok-terms.ensures.items in
    let mono = c.copy-mono.ensures ∙ c.head-head.ensures.value in
    leading_exact c.args.b.now c.mark.result k c.requires c.head-head.ensures.marked c.coefficient-coef.ensures.term
    (c.mark.ensures ∙ ap (λ (f : Terms). record { poly = f; head = head_of f 0 }) poly ∙
    ap (λ (m : Exponents). record { poly = record { coef = k; mono = m } ∷ []; head = m }) mono)
