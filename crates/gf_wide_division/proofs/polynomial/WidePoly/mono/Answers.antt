use Rattle.std.proofs.Common.{sym, ap, ◌∙◌}
use Rattle.gf_poly.specs.Polynomial.{Terms}
use Rattle.gf_poly.specs.Marking.{head_of}
use Rattle.gf_wide_division.specs.declared.terms.WideTerm.{WideTerm}
use Rattle.gf_wide_division.proofs.ValueLaws.{inside_there, head_value}
use Rattle.gf_wide_division.proofs.polynomial.WidePoly.mono.Goals as goal

pub bounds-terms-index : goal.bounds-terms-index
bounds-terms-index c = inside_there c.terms-terms.result.now c.args.self.now c.args.index c.terms-terms.ensures.value c.requires

pub returns : goal.returns
returns c = ap (λ (t : WideTerm). t.mono) (sym c.index-terms-index.is) ∙ head_value c.terms-terms.result.now c.args.index c.index-terms-index.result
    (inside_there c.terms-terms.result.now c.args.self.now c.args.index c.terms-terms.ensures.value c.requires) c.index-terms-index.is ∙
    ap (λ (f : Terms). head_of f c.args.index) c.terms-terms.ensures.value
