use Rattle.std.proofs.Common.{length, sym, ap, ◌∙◌, subst}
use Rattle.gf_strands.specs.Along.{HasNonzero, AreAlong, AreSmall}
use Rattle.gf_flip.specs.Operations.{IsFlipRefusal}
use Rattle.gf_lifts.proofs.CrossingMath.{crossing_width, crossing_nonzero, have_at}
use Rattle.gf_flip.proofs.FlipSteps.{along_at}
use Rattle.gf_flip.proofs.flips.literal.Goals as goal

pub parts-requires-clause-variables : goal.parts-requires-clause-variables
parts-requires-clause-variables c = have_at c.args.set.now.variables (length c.as_slice.result.now) c.args.set.now.items c.items.result.now
    c.items.ensures.variables c.items.ensures.value (ap length c.as_slice.ensures.value ∙ crossing_width c.args.set.now.variables c.args.set.now.items
    c.args.normal.now c.requires.crossing)

pub parts-requires-clause-bounded : goal.parts-requires-clause-bounded
parts-requires-clause-bounded c = subst AreSmall (sym c.as_slice.ensures.value) c.requires.bounded

pub parts-requires-clause-nonzero : goal.parts-requires-clause-nonzero
parts-requires-clause-nonzero c =
    subst HasNonzero (sym c.as_slice.ensures.value) (crossing_nonzero c.args.set.now.variables c.args.set.now.items c.args.normal.now c.requires.crossing)

pub basis_of_parts-requires-clause-along : goal.basis_of_parts-requires-clause-along
basis_of_parts-requires-clause-along c = along_at c.args.normal.now c.as_slice.result.now c.args.set.now.items c.items.result.now c.deref.result.now
    c.as_slice.ensures.value c.items.ensures.value (subst (AreAlong c.as_slice.result.now c.items.result.now) (sym c.deref.ensures.value) c.in-Ok.ensures)

pub returns-clause-cause : goal.returns-clause-cause
returns-clause-cause c = subst (IsFlipRefusal c.args.set.now.variables c.args.set.now.items c.args.normal.now c.args.pairs) (sym c.refused.ensures)
    (c.in-Err-lifted_across.ensures.cause c.args.pairs)
