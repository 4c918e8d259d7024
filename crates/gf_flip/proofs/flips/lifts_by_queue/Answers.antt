use Rattle.std.proofs.Common.{◌≡◌, List, IfSome, length, map, ◌==◌, refl, sym, ap, ◌∙◌, subst}
use Rattle.gf_poly.specs.Polynomial.{Terms}
use Rattle.gf_poly.specs.Marking.{MarkedPolynomial}
use Rattle.gf_initial_theory.specs.Lifts.{AreTopLifts}
use Rattle.gf_strands.specs.Along.{HasNonzero, AreAlong, AreSmall}
use Rattle.gf_strands.specs.Members.{AreMonic}
use Rattle.gf_flip.specs.Chosen.{AreAloneWhere}
use Rattle.gf_flip.proofs.AloneLaws.{alone_where, alone_at}
use Rattle.gf_lifts.proofs.CrossingMath.{crossing_width, crossing_nonzero, monic_parts, have_at}
use Rattle.gf_flip.proofs.FlipSteps.{along_at, weight_at}
use Rattle.gf_flip.proofs.RunSteps.{if_lifts_of}
use Rattle.gf_flip.proofs.flips.lifts_by_queue.Goals as goal

pub parts-requires-clause-variables : goal.parts-requires-clause-variables
parts-requires-clause-variables c = have_at c.args.set.now.variables (length c.as_slice.result.now) c.args.set.now.items c.items-items.result.now
    c.items-items.ensures.variables c.items-items.ensures.value
    (ap length c.as_slice.ensures.value ∙ crossing_width c.args.set.now.variables c.args.set.now.items c.args.normal.now c.requires.crossing)

pub parts-requires-clause-bounded : goal.parts-requires-clause-bounded
parts-requires-clause-bounded c = subst AreSmall (sym c.as_slice.ensures.value) c.requires.bounded

pub parts-requires-clause-nonzero : goal.parts-requires-clause-nonzero
parts-requires-clause-nonzero c =
    subst HasNonzero (sym c.as_slice.ensures.value) (crossing_nonzero c.args.set.now.variables c.args.set.now.items c.args.normal.now c.requires.crossing)

pub basis_of_parts-requires-clause-along : goal.basis_of_parts-requires-clause-along
basis_of_parts-requires-clause-along c = along_at c.args.normal.now c.as_slice.result.now c.args.set.now.items c.items-items.result.now c.deref-2.result.now
    c.as_slice.ensures.value c.items-items.ensures.value (subst (AreAlong c.as_slice.result.now c.items-items.result.now) (sym c.deref-2.ensures.value)
    c.in-Ok.ensures)

pub top_lifts-requires-clause-marked : goal.top_lifts-requires-clause-marked
top_lifts-requires-clause-marked c = weight_at c.args.set.now.variables c.args.set.now.items c.items-items.result.now c.args.normal.now c.requires.crossing
    c.items-items.ensures.value

pub top_lifts-requires-clause-alone : goal.top_lifts-requires-clause-alone
top_lifts-requires-clause-alone c = alone_at c.args.normal.now c.as_slice-2.result.now c.args.set.now.items c.items-items.result.now c.deref-3.result.now
    c.as_slice-2.ensures.value c.items-items.ensures.value (subst (AreAloneWhere c.args.normal.now c.args.set.now.items) (sym c.deref-3.ensures.value) (
    alone_where c.args.normal.now (crossing_nonzero c.args.set.now.variables c.args.set.now.items c.args.normal.now c.requires.crossing)
    c.args.set.now.items c.in-Ok.list.items c.in-Ok-are_single.alone.items
    (weight_at c.args.set.now.variables c.args.set.now.items c.args.set.now.items c.args.normal.now c.requires.crossing refl)
    (along_at c.args.normal.now c.as_slice.result.now c.args.set.now.items c.items-items.result.now c.in-Ok.list.items c.as_slice.ensures.value
    c.items-items.ensures.value c.in-Ok.ensures)
    (subst (λ (z : List Terms). c.in-Ok-are_single.alone.items ≡ map (λ (f : Terms). length f == 1) z) c.deref.ensures.value c.in-Ok-are_single.ensures)))

pub top_lifts-requires-clause-variables : goal.top_lifts-requires-clause-variables
top_lifts-requires-clause-variables c = have_at c.args.set.now.variables (length c.as_slice-2.result.now) c.in_ok-below.below.items c.into_items.result.items
    c.in_ok-below.ensures.variables c.into_items.ensures.value
    (ap length c.as_slice-2.ensures.value ∙ crossing_width c.args.set.now.variables c.args.set.now.items c.args.normal.now c.requires.crossing)

pub top_lifts-requires-clause-monic : goal.top_lifts-requires-clause-monic
top_lifts-requires-clause-monic c = subst AreMonic (sym c.into_items.ensures.value)
    (monic_parts c.args.set.now.variables c.args.set.now.items c.args.normal.now c.in_ok-below.below.items c.requires.crossing c.in_ok-below.ensures.value)

pub top_lifts-requires-clause-members : goal.top_lifts-requires-clause-members
top_lifts-requires-clause-members c = have_at c.args.set.now.variables (length c.as_slice-2.result.now) c.args.set.now.items c.items-items.result.now
    c.items-items.ensures.variables c.items-items.ensures.value
    (ap length c.as_slice-2.ensures.value ∙ crossing_width c.args.set.now.variables c.args.set.now.items c.args.normal.now c.requires.crossing)

pub top_lifts-requires-clause-bounded : goal.top_lifts-requires-clause-bounded
top_lifts-requires-clause-bounded c = subst AreSmall (sym c.as_slice-2.ensures.value) c.requires.bounded

pub top_lifts-requires-clause-nonzero : goal.top_lifts-requires-clause-nonzero
top_lifts-requires-clause-nonzero c =
    subst HasNonzero (sym c.as_slice-2.ensures.value) (crossing_nonzero c.args.set.now.variables c.args.set.now.items c.args.normal.now c.requires.crossing)

pub returns-clause-value : goal.returns-clause-value
returns-clause-value c = if_lifts_of c.args.set.now.variables c.args.set.now.items c.items-items.result.now c.args.normal.now c.as_slice-2.result.now
    c.in_ok-below.below.items c.top_lifts.result c.items-items.ensures.value c.as_slice-2.ensures.value
    (ap length c.as_slice-2.ensures.value ∙ crossing_width c.args.set.now.variables c.args.set.now.items c.args.normal.now c.requires.crossing)
    c.in_ok-below.ensures.value (subst (λ (z : List MarkedPolynomial). IfSome c.top_lifts.result
    (λ ls. AreTopLifts c.items-items.result.now c.as_slice-2.result.now z ls.members.items)) c.into_items.ensures.value c.top_lifts.ensures.value)
    c.top_lifts.ensures.variables c.top_lifts.ensures.copied
