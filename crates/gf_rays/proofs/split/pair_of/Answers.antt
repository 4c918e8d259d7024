use Rattle.std.proofs.Common.{◌≡◌, subst, ℤ, pos, neg_ℤ, rules, FitsSigned, IsTrue, ◌++◌, ◌∷◌, [], true}
use Rattle.std.specs.Int.{w128}
use Rattle.std.proofs.lemmas.Int.{to_z-of_z}
use Rattle.gf_int_theory.specs.Content.{scaled}
use Rattle.gf_vec.specs.Vector.{vector_sum}
use Rattle.gf_vec.specs.declared.error.VecOp.TheVariants.{Add}
use Rattle.gf_vec.specs.Primitive.{IsPrimitivePart}
use Rattle.gf_duality_theory.specs.Combining.{IsCombining}
use Rattle.gf_rays.specs.Flags.{common}
use Rattle.gf_rays.specs.MarkedRays.{IsCovered}
use Rattle.gf_gordan.proofs.SystemLaws.{Failed-weaker}
use Rattle.gf_rays.proofs.split.pair_of.Goals as goal

pub minus-requires : goal.minus-requires
minus-requires c = let f : FitsSigned w128 c.args.v = search rules in simp to_z-of_z c.requires.value

pub returns-in_ok-shared-in-Ok-clause-ok : goal.returns-in_ok-shared-in-Ok-clause-ok
returns-in_ok-shared-in-Ok-clause-ok c =
    let fa : FitsSigned w128 c.args.at = search rules in
    let fv : FitsSigned w128 c.args.v = search rules in
    let fm : FitsSigned w128 c.minus.result = search rules in
    let d : IsPrimitivePart (vector_sum (scaled c.args.at c.args.q.now.vector) (scaled c.minus.result c.args.p.now.vector)) c.in-Ok.vector =
    simp to_z-of_z at c.in-Ok.ensures.ok in
    let e : c.minus.result ≡ neg_ℤ c.args.v = simp to_z-of_z at c.minus.ensures in (
      subst (λ (z : ℤ). IsPrimitivePart (vector_sum (scaled c.args.at c.args.q.now.vector) (scaled z c.args.p.now.vector)) c.in-Ok.vector) e d,
      c.in_ok-shared-in-Ok.ensures,
    )

pub returns-else-is_covered-clause-err : goal.returns-else-is_covered-clause-err
returns-else-is_covered-clause-err c =
    let fa : FitsSigned w128 c.args.at = search rules in
    let fv : FitsSigned w128 c.args.v = search rules in
    let fm : FitsSigned w128 c.minus.result = search rules in
    let e : c.minus.result ≡ neg_ℤ c.args.v = simp to_z-of_z at c.minus.ensures in
    let n : IsCovered (common c.args.p.now.zero c.args.q.now.zero ++ true ∷ []) c.args.out.now → ⊥ =
    λ k. let t : IsTrue c.is_covered.result = c.is_covered.ensures.no k in absurd (search rules) in
    Failed-weaker (IsCombining c.args.row Add c.args.at c.args.q.now.vector c.minus.result c.args.p.now.vector) _
    (λ s k. (n, subst (λ (z : ℤ). IsCombining c.args.row Add c.args.at c.args.q.now.vector z c.args.p.now.vector s) e k)) _
    (simp to_z-of_z at c.in-Err.ensures.err)
