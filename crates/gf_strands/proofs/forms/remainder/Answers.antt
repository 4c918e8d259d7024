use Rattle.std.proofs.Common.{List, arith, sym, subst}
use Rattle.std.proofs.lemmas.List.{nil_from_length}
use Rattle.gf_strands.specs.declared.strands.Point.{Point}
use Rattle.gf_strands.specs.Strands.{IsWorkOn, strand_terms, strand_members}
use Rattle.gf_strands.specs.Monomials.{with_monomials}
use Rattle.gf_strands.proofs.FormLaws.{work_start, work_done}
use Rattle.gf_strands.proofs.FurtherLaws.{further_none, further_more, further_done}
use Rattle.gf_strands.proofs.forms.remainder.Goals as goal

pub steps-init : goal.steps-init
steps-init c = record {
  worked = subst (IsWorkOn c.args.ground.now.normal.now c.args.base.now
      (with_monomials c.args.ground.now.marks.now (strand_members c.args.ground.now.normal.now c.args.strands.now))
      (strand_terms c.args.ground.now.normal.now c.args.base.now c.args.points.items) c.args.points.items) (sym c.new-kept.ensures.items)
      (work_start c.args.ground.now.normal.now c.args.base.now
      (with_monomials c.args.ground.now.marks.now (strand_members c.args.ground.now.normal.now c.args.strands.now)) c.args.points.items c.requires.on
      c.requires.falling);
  further = further_none c.args.points.items c.new-kept.result.items c.new-kept.ensures.items;
}

pub steps-preserved : goal.steps-preserved
steps-preserved c = record {
  worked = c.in_ok-work_off.ensures.worked.at (strand_terms c.args.ground.now.normal.now c.args.base.now c.args.points.items)
      (subst (λ (z : List Point). IsWorkOn c.args.ground.now.normal.now c.args.base.now
      (with_monomials c.args.ground.now.marks.now (strand_members c.args.ground.now.normal.now c.args.strands.now))
      (strand_terms c.args.ground.now.normal.now c.args.base.now c.args.points.items) z c.steps.kept.items) c.in-Some.ensures.items c.steps.invariant.worked);
  further = further_more c.args.points.items c.steps.work.items _ c.steps.kept.items _ _ c.in-Some.ensures.items c.in_ok-work_off.ensures.further
      c.steps.invariant.further;
}

pub returns-in-None-clause-value : goal.returns-in-None-clause-value
returns-in-None-clause-value c = work_done c.args.ground.now.normal.now c.args.base.now
    (with_monomials c.args.ground.now.marks.now (strand_members c.args.ground.now.normal.now c.args.strands.now))
    (strand_terms c.args.ground.now.normal.now c.args.base.now c.args.points.items) c.steps.kept.items
    (subst (λ (z : List Point). IsWorkOn c.args.ground.now.normal.now c.args.base.now
    (with_monomials c.args.ground.now.marks.now (strand_members c.args.ground.now.normal.now c.args.strands.now))
    (strand_terms c.args.ground.now.normal.now c.args.base.now c.args.points.items) z c.steps.kept.items)
    (nil_from_length c.steps.work.items (omega (arith, c.steps.work.ok.0, c.in-None.ensures.cases.0))) c.steps.invariant.worked)

pub returns-in-None-clause-further : goal.returns-in-None-clause-further
returns-in-None-clause-further c = further_done c.args.points.items c.steps.work.items c.steps.kept.items
    (nil_from_length c.steps.work.items (omega (arith, c.steps.work.ok.0, c.in-None.ensures.cases.0))) c.steps.invariant.further
