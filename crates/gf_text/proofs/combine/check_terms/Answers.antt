use Rattle.std.proofs.Common.{◌∙◌, ap, subst, sym}
use Rattle.gf_text.specs.Limits.{IsTermWithin}
use Rattle.gf_text.specs.Combining.{exponents_of}
use Rattle.gf_text.proofs.CombiningLaws.{taken_none, taken_on}
use Rattle.gf_text.proofs.LimitsLaws.{term_at}
use Rattle.gf_text.proofs.combine.check_terms.Goals as goal

pub terms-init : goal.terms-init
terms-init c = taken_none _ _

pub mono_of-requires-clause-within : goal.mono_of-requires-clause-within
mono_of-requires-clause-within c = subst (IsTermWithin c.args.n) (sym c.term-item.is)
    (term_at c.args.n c.args.terms.now c.terms.term-index c.term-item.result c.requires.within c.terms-test.true)

pub terms-preserved : goal.terms-preserved
terms-preserved c =
    let n = c.args.n in
    let said = ap (exponents_of n) (sym c.term-item.is) ∙ c.in_ok-mono_of.ensures.ok in
    taken_on n c.args.terms.now c.terms.term-index c.term-item.result c.in_ok-mono_of.field-0 c.terms-test.true said c.terms.invariant
