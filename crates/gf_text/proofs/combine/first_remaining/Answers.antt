use Rattle.std.proofs.Common.{◌≡◌, ◌∙◌, ap, subst, sym}
use Rattle.gf_frac.specs.Fraction.{zero_ℚ}
use Rattle.gf_poly.specs.Polynomial.{coefficient}
use Rattle.gf_text.specs.Limits.{IsTermWithin}
use Rattle.gf_text.specs.Combining.{exponents_of, IsPlaceOf}
use Rattle.gf_text.proofs.CombiningLaws.{passed_none, passed_on, passed_found, passed_end, exponents_length}
use Rattle.gf_text.proofs.LimitsLaws.{term_at}
use Rattle.gf_text.proofs.combine.first_remaining.Goals as goal

pub terms-init : goal.terms-init
terms-init c = passed_none _ _ _

pub mono_of-requires-clause-within : goal.mono_of-requires-clause-within
mono_of-requires-clause-within c = subst (IsTermWithin c.args.n) (sym c.term-item.is)
    (term_at c.args.n c.args.terms.now c.terms.term-index c.term-item.result c.requires.within c.terms-test.true)

pub place_of-requires-clause-same_variables : goal.place_of-requires-clause-same_variables
place_of-requires-clause-same_variables c =
    let n = exponents_length c.args.n c.term-item.result c.in_ok-mono.mono c.in_ok-mono.ensures.ok in
    rw (n, c.terms-in-terms.ensures.value) c.requires.variables

pub returns-in-Some-clause-ok : goal.returns-in-Some-clause-ok
returns-in-Some-clause-ok c =
    let said = ap (exponents_of c.args.n) (sym c.term-item.is) ∙ c.in_ok-mono.ensures.ok in
    let found = subst (λ g. IsPlaceOf g c.in_ok-mono.mono c.in-Some.place) c.terms-in-terms.ensures.value c.in-Some.ensures in
    passed_found c.args.n c.args.terms.now c.args.sum.now c.terms.term-index c.term-item.result c.in_ok-mono.mono c.in-Some.place c.terms-test.true said
    c.requires.sum found c.terms.invariant

pub terms-preserved : goal.terms-preserved
terms-preserved c =
    let said = ap (exponents_of c.args.n) (sym c.term-item.is) ∙ c.in_ok-mono.ensures.ok in
    let none = subst (λ g. coefficient g c.in_ok-mono.mono ≡ zero_ℚ) c.terms-in-terms.ensures.value c.in_default.ensures in
    passed_on c.args.n c.args.terms.now c.args.sum.now c.terms.term-index c.term-item.result c.in_ok-mono.mono c.terms-test.true said none c.terms.invariant

pub returns-clause-ok : goal.returns-clause-ok
returns-clause-ok c = passed_end c.args.n c.args.terms.now c.args.sum.now c.terms.term-index c.terms-test.false c.requires.sum c.terms.invariant
