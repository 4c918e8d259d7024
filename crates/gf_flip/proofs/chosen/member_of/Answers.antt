use Rattle.std.proofs.Common.{length, arith, sym, ap, subst, refl, ◌≡◌}
use Rattle.gf_poly.specs.Polynomial.{Terms, HasVariables}
use Rattle.gf_strands.specs.Strands.{strand_member}
use Rattle.gf_strands.proofs.StrandLaws.{member_variables}
use Rattle.gf_flip.proofs.ChosenLaws.{terms_end}
use Rattle.gf_flip.proofs.chosen.member_of.Goals as goal

pub index_at-requires : goal.index_at-requires
index_at-requires c =
    let e : c.points.terms.items ≡ (strand_member c.args.normal.now c.args.strand.now).poly =
    terms_end c.args.normal.now c.args.strand.now c.points.i c.points.terms.items (omega (arith, c.points-test.false)) c.points.invariant.terms in
    subst (HasVariables (length c.args.strand.now.mark)) (sym c.terms.ensures.value) (c.in-Ok-from_terms.ensures.variables.at (length c.args.strand.now.mark)
    (subst (HasVariables (length c.args.strand.now.mark)) (sym e) (member_variables c.args.normal.now c.args.strand.now (length c.args.strand.now.mark) refl)))

pub returns-clause-variables : goal.returns-clause-variables
returns-clause-variables c =
    let e : c.points.terms.items ≡ (strand_member c.args.normal.now c.args.strand.now).poly =
    terms_end c.args.normal.now c.args.strand.now c.points.i c.points.terms.items (omega (arith, c.points-test.false)) c.points.invariant.terms in
    subst (λ (z : Terms). HasVariables (length c.args.normal.now) z) (sym (ap (λ z. z.poly) c.mark.ensures))
    (c.in-Ok-from_terms.ensures.variables.at (length c.args.normal.now) (subst (HasVariables (length c.args.normal.now)) (sym e)
    (member_variables c.args.normal.now c.args.strand.now (length c.args.normal.now) c.requires.strand.width)))
