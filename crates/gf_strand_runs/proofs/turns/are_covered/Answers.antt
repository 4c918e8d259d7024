use Rattle.std.proofs.Common.{[], ℕ, to_z, of_z, FitsSigned, rules, length, ap, sym, subst, ◌∙◌}
use Rattle.std.specs.Int.{w32}
use Rattle.std.proofs.lemmas.Int.{to_z-of_z}
use Rattle.gf_exponents_theory.specs.Exponents.{Exponents}
use Rattle.gf_poly.specs.Marking.{HaveVariables}
use Rattle.gf_strands.specs.declared.strands.Point.{Point}
use Rattle.gf_strands.specs.Strands.{moved}
use Rattle.gf_strands.specs.Monomials.{with_monomials}
use Rattle.gf_strands.specs.Forms.{HasCover}
use Rattle.gf_strand_runs.proofs.StrandTurns.{cover_taken}
use Rattle.gf_strands.proofs.MoveLaws.{moved-length}
use Rattle.gf_strand_runs.proofs.turns.are_covered.Goals as goal

pub is_covered-requires : goal.is_covered-requires
is_covered-requires c = subst (λ (k : ℕ). HaveVariables k (with_monomials c.args.ground.now.marks.now []))
    (sym (ap (λ (z : Exponents). length z) c.in-Some.ensures.value ∙ moved-length c.args.ground.now.normal.now c.args.base.now _ ∙ c.requires.base))
    c.requires.ground.marks

pub points-preserved : goal.points-preserved
points-preserved c =
    let q : Point = c.index-points-k.result in
    let f : FitsSigned w32 q.k = search rules in
    cover_taken (λ (p : Point). HasCover (with_monomials c.args.ground.now.marks.now []) (moved c.args.ground.now.normal.now c.args.base.now p.k))
    c.points.k c.args.points.now q c.points-test.true c.index-points-k.is
    (subst (HasCover (with_monomials c.args.ground.now.marks.now [])) (c.in-Some.ensures.value ∙
    ap (λ (p : Point). moved c.args.ground.now.normal.now c.args.base.now (to_z w32 (of_z w32 p.k))) (sym c.index-points-k.is) ∙
    ap (moved c.args.ground.now.normal.now c.args.base.now) (to_z-of_z w32 q.k f)) (c.is_covered.ensures.yes c.if-not-is_covered.false)) c.points.invariant
