use Rattle.std.proofs.Common.{◌≡◌, ◌∙◌, List, [], ◌∷◌, ◌++◌, Contains, ℤ, rules, sym, ap, subst, FitsSigned}
use Rattle.std.specs.Int.{w32}
use Rattle.std.proofs.lemmas.Int.{to_z-of_z}
use Rattle.std.proofs.lemmas.Option.{IfSome_then}
use Rattle.gf_exponents_theory.specs.Exponents.{Exponents}
use Rattle.gf_ideal_theory.specs.Reduction.{IsDivisible}
use Rattle.gf_strands.specs.declared.strands.Strand.{Strand}
use Rattle.gf_strands.specs.declared.strands.Point.{Point}
use Rattle.gf_strands.specs.Strands.{KeepsWork, NoStrandBelow, HasStrandBelow, IsSubtracted, strand_members, moved}
use Rattle.gf_strands.specs.Monomials.{with_monomials}
use Rattle.gf_strands.specs.Forms.{HasCover}
use Rattle.gf_strands.proofs.FormLaws.{marks_wide, strands_wide, dropped_zero, dropped_covered, strand_subtracted, point_kept}
use Rattle.gf_strands.proofs.FurtherLaws.{further_dropped, further_subtracted, further_kept}
use Rattle.gf_strands.proofs.forms.work_off.Goals as goal

pub is_covered-requires : goal.is_covered-requires
is_covered-requires c = marks_wide c.args.ground.now.normal.now c.args.ground.now.marks.now c.args.base.now c.in_ok-x.x _ c.requires.ground c.requires.base
    c.in_ok-x.ensures.value

pub strand_below-requires : goal.strand_below-requires
strand_below-requires c = strands_wide c.args.ground.now.normal.now c.args.strands.now c.args.base.now c.in_ok-x.x _ c.requires.strands c.requires.base
    c.in_ok-x.ensures.value

pub returns-then-is_zero-clause-worked : goal.returns-then-is_zero-clause-worked
returns-then-is_zero-clause-worked c = dropped_zero c.args.ground.now.normal.now c.args.base.now
    (with_monomials c.args.ground.now.marks.now (strand_members c.args.ground.now.normal.now c.args.strands.now)) c.args.work.now.items c.args.kept.now.items
    c.args.p (c.is_zero.ensures.0 c.if-is_zero.true)

pub returns-then-is_covered-clause-worked : goal.returns-then-is_covered-clause-worked
returns-then-is_covered-clause-worked c =
    let f : FitsSigned w32 c.args.p.k = search rules in
    let e : c.in_ok-x.x ≡ moved c.args.ground.now.normal.now c.args.base.now c.args.p.k =
    c.in_ok-x.ensures.value ∙ ap (λ (z : ℤ). moved c.args.ground.now.normal.now c.args.base.now z) (to_z-of_z w32 c.args.p.k f) in
    dropped_covered c.args.ground.now.normal.now c.args.base.now c.args.ground.now.marks.now (strand_members c.args.ground.now.normal.now c.args.strands.now)
    c.args.work.now.items c.args.kept.now.items c.args.p c.requires.ground.nonzero
    (λ z. (let q = c.is_zero.ensures.1 z in cc))
    (subst (HasCover (with_monomials c.args.ground.now.marks.now [])) e (c.is_covered.ensures.yes c.if-is_covered.true))

pub returns-in-Some-clause-worked : goal.returns-in-Some-clause-worked
returns-in-Some-clause-worked c =
    let f : FitsSigned w32 c.args.p.k = search rules in
    let e : c.in_ok-x.x ≡ moved c.args.ground.now.normal.now c.args.base.now c.args.p.k =
    c.in_ok-x.ensures.value ∙ ap (λ (z : ℤ). moved c.args.ground.now.normal.now c.args.base.now z) (to_z-of_z w32 c.args.p.k f) in
    IfSome_then c.subtract.result c.subtract.ensures
    (λ u s. strand_subtracted c.args.ground.now.normal.now c.args.base.now c.args.ground.now.marks.now c.args.strands.now c.args.work.now.items
    c.args.kept.now.items c.subtract.new.work.items c.args.p c.in-Some.j c.index-strands-j.result c.requires.ground.nonzero c.requires.base c.requires.strands
    (λ z. (let q = c.is_zero.ensures.1 z in cc))
    (subst (λ (y : Exponents). HasStrandBelow c.args.strands.now y c.in-Some.j) e c.in-Some.ensures.found) c.index-strands-j.is
    (subst (λ (l : Strand). IsSubtracted c.args.p l.rest.items c.args.work.now.items c.subtract.new.work.items) (sym c.index-strands-j.is)
    (subst (λ (qs : List Point). IsSubtracted c.args.p qs c.args.work.now.items c.subtract.new.work.items) c.deref.ensures.value s)))

pub returns-in-Ok-clause-worked : goal.returns-in-Ok-clause-worked
returns-in-Ok-clause-worked c =
    let f : FitsSigned w32 c.args.p.k = search rules in
    let e : c.in_ok-x.x ≡ moved c.args.ground.now.normal.now c.args.base.now c.args.p.k =
    c.in_ok-x.ensures.value ∙ ap (λ (z : ℤ). moved c.args.ground.now.normal.now c.args.base.now z) (to_z-of_z w32 c.args.p.k f) in
    subst (λ (z : List Point). KeepsWork c.args.ground.now.normal.now c.args.base.now
    (with_monomials c.args.ground.now.marks.now (strand_members c.args.ground.now.normal.now c.args.strands.now))
    (c.args.work.now.items ++ c.args.p ∷ []) c.args.kept.now.items c.args.work.now.items z) (sym c.in-Ok.ensures.items)
    (point_kept c.args.ground.now.normal.now c.args.base.now c.args.ground.now.marks.now c.args.strands.now c.args.work.now.items c.args.kept.now.items c.args.p
    (subst (λ (y : Exponents). IsDivisible (Contains (with_monomials c.args.ground.now.marks.now [])) y → ⊥) e (c.is_covered.ensures.no c.if-is_covered.false))
    (subst (λ (y : Exponents). NoStrandBelow c.args.strands.now y) e c.in_default.ensures.none))

pub returns-then-is_zero-clause-further : goal.returns-then-is_zero-clause-further
returns-then-is_zero-clause-further c = further_dropped c.args.work.now.items c.args.kept.now.items c.args.p

pub returns-then-is_covered-clause-further : goal.returns-then-is_covered-clause-further
returns-then-is_covered-clause-further c = further_dropped c.args.work.now.items c.args.kept.now.items c.args.p

pub returns-in-Some-clause-further : goal.returns-in-Some-clause-further
returns-in-Some-clause-further c = IfSome_then c.subtract.result c.subtract.ensures
    (λ u s. further_subtracted c.args.ground.now.normal.now c.args.strands.now c.args.work.now.items c.args.kept.now.items c.subtract.new.work.items c.args.p
    c.in-Some.j c.index-strands-j.result c.requires.strands c.in-Some.ensures.found.within c.index-strands-j.is
    (subst (λ (l : Strand). IsSubtracted c.args.p l.rest.items c.args.work.now.items c.subtract.new.work.items) (sym c.index-strands-j.is)
    (subst (λ (qs : List Point). IsSubtracted c.args.p qs c.args.work.now.items c.subtract.new.work.items) c.deref.ensures.value s)))

pub returns-in-Ok-clause-further : goal.returns-in-Ok-clause-further
returns-in-Ok-clause-further c = further_kept c.args.work.now.items c.args.kept.now.items _ c.args.p c.in-Ok.ensures.items
