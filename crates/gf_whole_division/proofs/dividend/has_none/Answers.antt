use Rattle.std.proofs.Common.{refl, sym, ap, ◌∙◌}
use Rattle.gf_exponents_theory.specs.Exponents.{Exponents, same}
use Rattle.gf_whole_division.proofs.ValueLaws.{none_more, none_all}
use Rattle.gf_whole_division.proofs.dividend.has_none.Goals as goal

pub terms-preserved : goal.terms-preserved
terms-preserved c =
    none_more c.args.x.now c.args.terms.now c.terms.i c.index-terms-i.result c.terms-test.true c.index-terms-i.is
    (ap (λ (y : Exponents). same c.args.x.now y) (sym c.mono.ensures) ∙ c.if-not-differ.ensures refl) c.terms.invariant

pub returns : goal.returns
returns c = λ _. none_all c.args.x.now c.args.terms.now c.terms.i c.terms-test.false c.terms.invariant
