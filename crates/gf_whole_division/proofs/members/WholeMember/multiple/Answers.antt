use Rattle.std.proofs.Common.{List, subst, sym}
use Rattle.gf_poly.specs.Marking.{MarkedPolynomial}
use Rattle.gf_whole_division.specs.declared.terms.WholeTerm.{WholeTerm}
use Rattle.gf_whole_division.specs.Values.{IsWholeMultiple}
use Rattle.gf_whole_division.proofs.members.WholeMember.multiple.Goals as goal

pub returns : goal.returns
returns c =
    subst (λ (f : List WholeTerm). IsWholeMultiple c.self.inside.lead f c.args.self.now.poly) (sym c.as_slice.ensures.value)
    (subst (λ (b : MarkedPolynomial). IsWholeMultiple c.self.inside.lead c.self.inside.terms.items b.poly) c.self.view_is c.self.invariant)
