use Rattle.std.proofs.Common.{◌∙◌, ◌+◌, ap, subst, sym, drop}
use Rattle.gf_text.specs.Limits.{IsTermWithin}
use Rattle.gf_text.specs.Combining.{term_written, terms_written}
use Rattle.gf_text.proofs.CombiningLaws.{terms_on, onto}
use Rattle.gf_text.proofs.LimitsLaws.{term_at}
use Rattle.gf_text.proofs.combine.terms_from.Goals as goal

pub term_of-requires-clause-within : goal.term_of-requires-clause-within
term_of-requires-clause-within c = subst (IsTermWithin c.args.n) (sym c.term-item.is)
    (term_at c.args.n c.args.terms.now c.terms.term-index c.term-item.result c.requires.within c.terms-test.true)

pub terms-preserved : goal.terms-preserved
terms-preserved c =
    let n = c.args.n in
    let said = ap (term_written n) (sym c.term-item.is) ∙ c.in_ok-next.ensures.ok in
    let next = terms_on n c.terms.out.items c.in_ok-next.next c.args.terms.now c.terms.term-index c.term-item.result c.terms-test.true said in
    ap (λ out. onto out (terms_written n (drop (c.terms.term-index + 1) c.args.terms.now))) c.in_ok-push.ensures.items ∙ sym next ∙ c.terms.invariant
