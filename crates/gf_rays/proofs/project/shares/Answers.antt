use Rattle.std.proofs.Common.{◌≡◌, ◌∙◌, ◌++◌, ◌∷◌, [], List, ℤ, All, FitsSigned, arith, rules, sym, ap, subst, take}
use Rattle.std.specs.Int.{w128}
use Rattle.std.proofs.lemmas.Int.{to_z-of_z}
use Rattle.std.proofs.lemmas.List.{take_all}
use Rattle.std.proofs.lemmas.List.Elements.{All-push}
use Rattle.gf_int_theory.specs.Range.{InRange}
use Rattle.gf_vec.specs.Vector.{values}
use Rattle.gf_vec.specs.Primitive.{IsPrimitivePart}
use Rattle.gf_rays.proofs.EliminateLaws.{values_more}
use Rattle.gf_rays.proofs.project.shares.Goals as goal

pub loop-h-preserved : goal.loop-h-preserved
loop-h-preserved c =
    let fv : FitsSigned w128 c.in_ok-v.v = search rules in
    let en = simp to_z-of_z at c.in_ok-push.ensures.items in (
      en ∙ ap (λ (l : List ℤ). l ++ c.in_ok-v.v ∷ []) c.loop-h.invariant.0 ∙
          ap (λ (z : ℤ). values (take c.loop-h.h-index c.args.rows.now) c.args.x.now ++ z ∷ []) c.in_ok-v.ensures.ok.0 ∙
          sym (values_more c.args.rows.now c.loop-h.h-index c.h-item.result c.args.x.now c.loop-h-test.true c.h-item.is),
      subst (All InRange) (sym en) (All-push InRange c.loop-h.given.items c.in_ok-v.v c.loop-h.invariant.1 c.in_ok-v.ensures.ok.1),
    )

pub from_vec-out-requires : goal.from_vec-out-requires
from_vec-out-requires c = c.loop-h.invariant.1

pub returns : goal.returns
returns c = subst (λ (l : List ℤ). IsPrimitivePart l c.primitive.new.self)
    (c.from_vec-out.ensures ∙ c.loop-h.invariant.0 ∙ ap (λ (l : List (List ℤ)). values l c.args.x.now)
    (take_all c.loop-h.h-index c.args.rows.now (omega (arith, c.loop-h-test.false)))) c.primitive.ensures
