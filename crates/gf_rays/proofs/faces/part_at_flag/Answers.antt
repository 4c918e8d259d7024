use Rattle.std.proofs.Common.{◌≡◌, ◌∙◌, sym, ap, subst, List, [], ℕ, length}
use Rattle.gf_rays.specs.FlagFaces.{AreInside, IsNarrowed}
use Rattle.gf_rays.proofs.FlagFaceLaws.{part_read, faces_inside}
use Rattle.gf_rays.proofs.HeightLaws.{flat_at, at_flag}
use Rattle.gf_rays.proofs.faces.part_at_flag.Goals as goal

pub narrowed-requires-clause-numbers : goal.narrowed-requires-clause-numbers
narrowed-requires-clause-numbers c =
    let parts : List (List ℕ) = c.args.parts.now.keys in
    let e = part_read parts c.as_slice.result.now c.args.i c.index-as_slice-i.result c.as_slice-part.result.now c.as_slice.ensures.keys c.index-as_slice-i.is
    c.as_slice-part.ensures c.requires.index in
    subst (AreInside (length c.args.rays.now)) (sym e) (faces_inside c.requires.parts.0 c.args.rays.now parts c.requires.parts.1 c.args.i [] c.requires.index)

pub returns-then-as_slice-part : goal.returns-then-as_slice-part
returns-then-as_slice-part c =
    let parts : List (List ℕ) = c.args.parts.now.keys in
    let e = part_read parts c.as_slice.result.now c.args.i c.index-as_slice-i.result c.as_slice-part.result.now c.as_slice.ensures.keys c.index-as_slice-i.is
    c.as_slice-part.ensures c.requires.index in
    let t : length c.as_slice-2.result.now ≡ length c.as_slice-part.result.now = c.if-as_slice-part.true in
    flat_at c.requires.parts.0 c.args.k c.args.rays.now parts c.args.i c.in_ok-less.less c.requires.parts.1 c.requires.index
    (subst (λ (z : List ℕ). IsNarrowed c.args.k c.args.rays.now z c.in_ok-less.less) e c.in_ok-less.ensures)
    (ap (λ (z : List ℕ). length z) (sym c.as_slice-2.ensures) ∙ t ∙ ap (λ (z : List ℕ). length z) e)

pub returns-in-Some : goal.returns-in-Some
returns-in-Some c =
    let parts : List (List ℕ) = c.args.parts.now.keys in
    let e = part_read parts c.as_slice.result.now c.args.i c.index-as_slice-i.result c.as_slice-part.result.now c.as_slice.ensures.keys c.index-as_slice-i.is
    c.as_slice-part.ensures c.requires.index in
    at_flag c.requires.parts.0 c.args.k c.args.rays.now parts c.args.i c.in-Some.j c.in_ok-less.less c.requires.parts.1 c.requires.index
    (subst (λ (z : List ℕ). IsNarrowed c.args.k c.args.rays.now z c.in_ok-less.less) e c.in_ok-less.ensures)
    (λ q. c.if-as_slice-part.false (ap (λ (z : List ℕ). length z) c.as_slice-2.ensures ∙ q ∙ ap (λ (z : List ℕ). length z) (sym e)))
    (sym c.in-Some.ensures.index)
