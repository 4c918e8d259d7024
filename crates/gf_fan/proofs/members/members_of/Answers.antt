use Rattle.std.proofs.Common.{◌≡◌, ◌<◌, ◌≤◌, ◌^◌, ◌∙◌, ℤ, sym, subst, List, length, All, AllPairs}
use Rattle.std.specs.Ordering.{nat_cmp}
use Rattle.std.specs.Cmp.Lexicographic.{slice_cmp}
use Rattle.std.specs.declared.cmp.Ordering.TheVariants.{Less}
use Rattle.std.proofs.lemmas.Result.{err_from_is_err_and}
use Rattle.gf_gordan.specs.declared.error.ConeOverflow.{ConeOverflow}
use Rattle.gf_gordan.proofs.SystemLaws.{Failed-weaker}
use Rattle.gf_rays.specs.Cones.{RowsAndRays}
use Rattle.gf_fan.specs.declared.cones.FanCone.{FanCone}
use Rattle.gf_fan.specs.FanLists.{rank_of, numbers_of}
use Rattle.gf_fan.specs.FansOfCones.{AreCommonRays, AreMaximal, AreDimensions}
use Rattle.gf_fan.specs.Found.{IsFound}
use Rattle.gf_fan.specs.Refusals.{IsFaceStep}
use Rattle.gf_fan.specs.Tops.{AreTopsBefore, AreTopsOf}
use Rattle.gf_fan.specs.WholeCones.{AreWholeCones, IsStepOfSome}
use Rattle.gf_fan.proofs.SizeLaws.{dims_within}
use Rattle.gf_fan.proofs.MakingLaws.{all_are_found}
use Rattle.gf_fan.proofs.TopLaws.{tops_of}
use Rattle.gf_fan.proofs.WholeLaws.{members_listed, maximal_indices, step_of_cone}
use Rattle.gf_fan.proofs.members.members_of.Goals as goal

pub all_found-requires : goal.all_found-requires
all_found-requires c = subst (λ (z : List RowsAndRays). AreCommonRays z c.args.numbering.now) (sym c.as_slice-given.ensures.value) c.requires.rays

pub tops-requires : goal.tops-requires
tops-requires c = subst (λ (z : List RowsAndRays). AreCommonRays z c.args.numbering.now) (sym c.as_slice-given.ensures.value) c.requires.rays

pub listed-requires-clause-found : goal.listed-requires-clause-found
listed-requires-clause-found c =
    let given : List RowsAndRays = c.as_slice-given.result.now in
    let rays : List (List ℤ) = c.args.numbering.now in (
      rays,
      subst (All (IsFound c.args.cones.items rays)) (sym c.as_slice.ensures.value)
          (subst (λ (z : List RowsAndRays). All (IsFound z rays) c.in_ok-found.found.items) c.as_slice-given.ensures.value
          (all_are_found given rays (length given) c.in_ok-found.found.items c.in_ok-found.ensures.found)),
    )

pub maximal-requires : goal.maximal-requires
maximal-requires c =
    let cones : List RowsAndRays = c.args.cones.items in
    let given : List RowsAndRays = c.as_slice-given.result.now in
    let rays : List (List ℤ) = c.args.numbering.now in
    let lin : List (List ℤ) = c.args.lineality.now in
    let members : List FanCone = c.in_ok-members.members.items in
    let s = members_listed c.args.n cones given lin rays c.in_ok-found.found.items c.as_slice.result.now members c.requires.cones
    c.as_slice-given.ensures.value c.requires.lineality c.requires.rays c.in_ok-found.ensures.found c.as_slice.ensures.value c.in_ok-members.ensures in
    let t = tops_of c.args.n cones lin rays members c.requires.own c.requires.lineality c.requires.rays s c.in_ok-tops.tops.keys
    (subst (λ (z : List RowsAndRays). AreTopsBefore z rays (length z) c.in_ok-tops.tops.keys) c.as_slice-given.ensures.value c.in_ok-tops.ensures) in
    subst (λ (z : List FanCone). AreTopsOf (numbers_of z) c.in_ok-tops.tops.keys) (sym c.as_slice-2.ensures.value) t

pub whole_cones-requires : goal.whole_cones-requires
whole_cones-requires c = maximal_indices c.as_slice-3.result.now c.as_slice-4.result.now
    (subst (AreMaximal (numbers_of c.as_slice-3.result.now)) (sym c.as_slice-4.ensures.value)
    (subst (λ (z : List FanCone). AreMaximal (numbers_of z) c.in_ok-maximal.maximal.items) (c.as_slice-2.ensures.value ∙ sym c.as_slice-3.ensures.value)
    c.in_ok-maximal.ensures))

pub returns-in_err-whole-clause-err : goal.returns-in_err-whole-clause-err
returns-in_err-whole-clause-err c =
    let cones : List RowsAndRays = c.args.cones.items in
    let given : List RowsAndRays = c.as_slice-given.result.now in
    let rays : List (List ℤ) = c.args.numbering.now in
    let lin : List (List ℤ) = c.args.lineality.now in
    let members : List FanCone = c.in_ok-members.members.items in
    let s = members_listed c.args.n cones given lin rays c.in_ok-found.found.items c.as_slice.result.now members c.requires.cones
    c.as_slice-given.ensures.value c.requires.lineality c.requires.rays c.in_ok-found.ensures.found c.as_slice.ensures.value c.in_ok-members.ensures in
    let p = err_from_is_err_and c.from_residual-in_err-whole.result c.from_residual-in_err-whole.ensures.1 in
    let told : (o : ConeOverflow) → IsStepOfSome c.as_slice-3.result.now o → IsFaceStep c.args.n cones o = λ o step.
    let at : IsStepOfSome members o = subst (λ (z : List FanCone). IsStepOfSome z o) c.as_slice-3.ensures.value step in
    step_of_cone c.args.n cones lin rays at.0 o (s.each at.0 at.1.0) at.1.1 in
    rw (p.1, p.2) (Failed-weaker _ _ told _ c.in_err-whole.ensures.err)

pub counted-requires-clause-ordered : goal.counted-requires-clause-ordered
counted-requires-clause-ordered c =
    let cones : List RowsAndRays = c.args.cones.items in
    let given : List RowsAndRays = c.as_slice-given.result.now in
    let rays : List (List ℤ) = c.args.numbering.now in
    let lin : List (List ℤ) = c.args.lineality.now in
    let members : List FanCone = c.in_ok-members.members.items in
    let s = members_listed c.args.n cones given lin rays c.in_ok-found.found.items c.as_slice.result.now members c.requires.cones
    c.as_slice-given.ensures.value c.requires.lineality c.requires.rays c.in_ok-found.ensures.found c.as_slice.ensures.value c.in_ok-members.ensures in
    subst (AllPairs (λ (k l : FanCone). slice_cmp nat_cmp (rank_of k) (rank_of l) ≡ Less)) (sym c.as_slice-5.ensures.value) s.ordered

pub counted-requires-clause-range : goal.counted-requires-clause-range
counted-requires-clause-range c =
    let cones : List RowsAndRays = c.args.cones.items in
    let given : List RowsAndRays = c.as_slice-given.result.now in
    let rays : List (List ℤ) = c.args.numbering.now in
    let lin : List (List ℤ) = c.args.lineality.now in
    let members : List FanCone = c.in_ok-members.members.items in
    let s = members_listed c.args.n cones given lin rays c.in_ok-found.found.items c.as_slice.result.now members c.requires.cones
    c.as_slice-given.ensures.value c.requires.lineality c.requires.rays c.in_ok-found.ensures.found c.as_slice.ensures.value c.in_ok-members.ensures in
    subst (All (λ (k : FanCone). (length lin ≤ k.dim) × (k.dim < 2 ^ 31))) (sym c.as_slice-5.ensures.value)
    (dims_within c.args.n cones lin rays members c.requires.ambient s)

pub returns-clause-faces : goal.returns-clause-faces
returns-clause-faces c =
    let cones : List RowsAndRays = c.args.cones.items in
    let given : List RowsAndRays = c.as_slice-given.result.now in
    let rays : List (List ℤ) = c.args.numbering.now in
    let lin : List (List ℤ) = c.args.lineality.now in
    let members : List FanCone = c.in_ok-members.members.items in
    let s = members_listed c.args.n cones given lin rays c.in_ok-found.found.items c.as_slice.result.now members c.requires.cones
    c.as_slice-given.ensures.value c.requires.lineality c.requires.rays c.in_ok-found.ensures.found c.as_slice.ensures.value c.in_ok-members.ensures in
    s

pub returns-clause-maximal : goal.returns-clause-maximal
returns-clause-maximal c = subst (λ (z : List FanCone). AreMaximal (numbers_of z) c.in_ok-maximal.maximal.items) c.as_slice-2.ensures.value
    c.in_ok-maximal.ensures

pub returns-clause-whole : goal.returns-clause-whole
returns-clause-whole c = subst (λ (z : List FanCone). AreWholeCones z c.in_ok-maximal.maximal.items c.in_ok-whole.whole.items) c.as_slice-3.ensures.value
    (subst (λ z. AreWholeCones c.as_slice-3.result.now z c.in_ok-whole.whole.items) c.as_slice-4.ensures.value c.in_ok-whole.ensures.ok)

pub returns-clause-sizes : goal.returns-clause-sizes
returns-clause-sizes c = subst (λ (z : List FanCone). AreDimensions (length c.args.lineality.now) z c.in_ok-sizes.sizes.dim c.in_ok-sizes.sizes.counts.items)
    c.as_slice-5.ensures.value c.in_ok-sizes.ensures
