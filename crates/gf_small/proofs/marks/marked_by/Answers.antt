use Rattle.std.proofs.Common.{◌≡◌, ◌∙◌, sym, subst, ap}
use Rattle.gf_poly.specs.Polynomial.{Terms, IsDescending}
use Rattle.gf_poly.specs.Marking.{head_of}
use Rattle.gf_small.proofs.MarksByWeightLaws.{marked_at}
use Rattle.gf_small.proofs.marks.marked_by.Goals as goal

pub returns-clause-mark : goal.returns-clause-mark
returns-clause-mark c =
    let index = c.greatest_index-index.result in
    let f : Terms = c.terms.result.now in
    let same : c.in_ok-copy.copy ≡ f = c.in_ok-copy.ensures ∙ sym c.terms.ensures.value in
    marked_at c.args.weight.now c.mark.result f index
    (c.mark.ensures ∙ ap (λ (z : Terms). record { poly = z; head = head_of z index }) same)
    (subst IsDescending (sym c.terms.ensures.value) c.terms.ensures.descending) c.greatest_index-index.ensures.inside c.greatest_index-index.ensures.others
