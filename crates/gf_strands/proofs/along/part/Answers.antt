use Rattle.std.proofs.Common.{sym, subst, ap, ◌∙◌, length, [], ◌∷◌, ◌++◌}
use Rattle.gf_poly.specs.Polynomial.{Terms, IsDescending}
use Rattle.gf_division.proofs.StepLaws.{head_length}
use Rattle.gf_strands.specs.Along.{IsSelected, IsAlong}
use Rattle.gf_strands.proofs.AlongLaws.{IsTermAlong, width_at, marked_here, more_kept, more_dropped, all_selected, descending_selected, along_selected}
use Rattle.gf_strands.proofs.along.part.Goals as goal
use Rattle.gf_strands.proofs.along.part.Goals.{then-is_along+in_ok-push, else-is_along}

pub terms-init : goal.terms-init
terms-init c = subst (λ (z : Terms). IsSelected (IsTermAlong c.args.normal.now c.head-head.result.now) [] z) (sym c.in_ok-kept.ensures.items) IsSelected.none

pub is_along-requires-clause-same_length : goal.is_along-requires-clause-same_length
is_along-requires-clause-same_length c = width_at (length c.args.normal.now) c.terms-terms.result.now c.args.member.now.poly c.index-terms-i.result c.terms.i
    c.requires.variables (c.terms-terms.ensures.value ∙ c.poly.ensures) c.terms-test.true c.index-terms-i.is

pub is_along-requires-clause-same_variables : goal.is_along-requires-clause-same_variables
is_along-requires-clause-same_variables c = ap length c.head-head.ensures.value ∙ head_length (length c.args.normal.now) c.args.member.now c.requires.variables
    c.head-head.ensures.marked

pub is_along-requires-clause-marked : goal.is_along-requires-clause-marked
is_along-requires-clause-marked c = λ e. marked_here c.args.member.now c.terms.i c.index.result c.terms-terms.result.now c.index-terms-i.result
    (c.terms-terms.ensures.value ∙ c.poly.ensures) c.terms-test.true c.index-terms-i.is c.index.ensures.head e ∙ sym c.head-head.ensures.value

pub terms-preserved : goal.terms-preserved
terms-preserved c = elim c.if-is_along.branch [
  | then-is_along+in_ok-push w ↦ more_kept c.args.normal.now c.head-head.result.now c.terms-terms.result.now c.terms.kept.items c.if-is_along.kept.items
      c.index-terms-i.result c.terms.i c.terms-test.true c.index-terms-i.is (c.is_along.ensures.yes w.if-is_along.true)
      (ap (λ v. v.items) w.kept-is ∙ w.in_ok-push.ensures.items ∙ ap (λ t. c.terms.kept.items ++ t ∷ []) w.copy.ensures) c.terms.invariant
  | else-is_along w ↦ subst (IsSelected (IsTermAlong c.args.normal.now c.head-head.result.now) _) (sym (ap (λ v. v.items) w.kept-is))
      (more_dropped c.args.normal.now c.head-head.result.now c.terms-terms.result.now c.terms.kept.items c.index-terms-i.result c.terms.i c.terms-test.true
      c.index-terms-i.is (c.is_along.ensures.no w.if-is_along.false) c.terms.invariant)
]

pub from_descending-requires : goal.from_descending-requires
from_descending-requires c = descending_selected (IsTermAlong c.args.normal.now c.head-head.result.now) c.terms-terms.result.now c.terms.kept.items
    (all_selected c.args.normal.now c.head-head.result.now c.terms-terms.result.now c.terms.kept.items c.terms.i c.terms-test.false c.terms.invariant)
    (subst IsDescending (sym c.terms-terms.ensures.value) c.terms-terms.ensures.descending)

pub returns : goal.returns
returns c =
    let s = all_selected c.args.normal.now c.head-head.result.now c.terms-terms.result.now c.terms.kept.items c.terms.i c.terms-test.false c.terms.invariant in
    subst (IsAlong c.args.normal.now c.args.member.now) (sym c.from_descending.ensures)
    (along_selected c.args.normal.now c.args.member.now c.terms-terms.result.now c.terms.kept.items (
      c.args.pivot,
      c.requires.nonzero,
    ) (c.terms-terms.ensures.value ∙ c.poly.ensures) (subst IsDescending (sym c.terms-terms.ensures.value)
    c.terms-terms.ensures.descending) (subst (λ h. IsSelected (IsTermAlong c.args.normal.now h) c.terms-terms.result.now c.terms.kept.items)
    c.head-head.ensures.value s))
