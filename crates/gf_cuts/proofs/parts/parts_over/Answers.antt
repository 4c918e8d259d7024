use Rattle.std.proofs.Common.{◌≡◌, ◌∙◌, map, All, sym, subst}
use Rattle.std.proofs.lemmas.Result.{IfOk-weaker}
use Rattle.gf_gordan.specs.Alternative.{AreRows}
use Rattle.gf_rays.specs.Cones.{RowsAndRays, rows_of}
use Rattle.gf_levels_theory.specs.Parts.{IsTopOn, AreTopParts}
use Rattle.gf_levels_theory.proofs.PartLaws.{top_on}
use Rattle.gf_cuts.proofs.DrawnLaws.{drawn_below}
use Rattle.gf_cuts.proofs.parts.parts_over.Goals as goal

pub table-requires : goal.table-requires
table-requires c = subst (λ n. AreRows n c.args.points.now) (sym c.in_ok-part.ensures.ambient) c.requires.wide

pub top_parts-requires-clause-wide : goal.top_parts-requires-clause-wide
top_parts-requires-clause-wide c = subst (λ n. AreRows n c.args.points.now) (sym c.in_ok-part.ensures.ambient) c.requires.wide

pub top_parts-requires-clause-rows : goal.top_parts-requires-clause-rows
top_parts-requires-clause-rows c = c.deref.ensures.value ∙ c.in_ok-rows.ensures.value

pub top_parts-requires-clause-highest : goal.top_parts-requires-clause-highest
top_parts-requires-clause-highest c =
    let A = c.args.points.now in
    subst (λ n. IsTopOn n A c.args.top (rows_of c.in_ok-part.part)) (sym c.in_ok-part.ensures.ambient)
    (top_on c.args.cone.now.ambient A c.args.top c.args.tops.now (rows_of c.args.cone.now) (rows_of c.in_ok-part.part) c.requires.tops
    c.in_ok-part.ensures.part)

pub returns-clause-ambient : goal.returns-clause-ambient
returns-clause-ambient c = IfOk-weaker c.top_parts.result _ _
    (λ out s. subst (λ n. All (λ (p : RowsAndRays). p.ambient ≡ n) out.items) c.in_ok-part.ensures.ambient s) c.top_parts.ensures.ambient

pub returns-clause-parts : goal.returns-clause-parts
returns-clause-parts c = IfOk-weaker c.top_parts.result _ _
    (λ out s. record {
      part = rows_of c.in_ok-part.part;
      over = c.in_ok-part.ensures.part;
      parts = subst (λ n. AreTopParts c.args.members n c.args.points.now c.args.top (rows_of c.in_ok-part.part) (map rows_of out.items))
          c.in_ok-part.ensures.ambient s;
    }) c.top_parts.ensures.parts

pub returns-clause-rows : goal.returns-clause-rows
returns-clause-rows c = IfOk-weaker c.top_parts.result _ _
    (λ out s. drawn_below c.args.points.now (rows_of c.args.cone.now) (rows_of c.in_ok-part.part) (map rows_of out.items) c.in_ok-part.ensures.rows s)
    c.top_parts.ensures.rows
