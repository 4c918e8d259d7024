use Rattle.std.proofs.Common.{List, Bool, arith, sym, ap, ◌∙◌, subst, length, ℕ}
use Rattle.gf_lifts.specs.LiftTails.{AreCopiedBeside, IsNextInTurn, AreTailsInTurn}
use Rattle.gf_lifts.proofs.TailsInTurn.{turned-length, turned_weight, turned_variables}
use Rattle.gf_lifts.proofs.tails.reduced_tails.Goals as goal

pub lifts-init : goal.lifts-init
lifts-init c = AreTailsInTurn.none

pub settle-requires-clause-inside : goal.settle-requires-clause-inside
settle-requires-clause-inside c = omega (
  arith,
  c.lifts-test.true,
  c.len-at-end.ensures,
  c.args.lifts.members.ok.0,
  turned-length c.args.lifts.members.items c.args.lifts.copied.items c.lifts.at c.lifts.all.items c.lifts.invariant,
)

pub settle-requires-clause-marked : goal.settle-requires-clause-marked
settle-requires-clause-marked c = turned_weight c.args.lifts.members.items c.args.lifts.copied.items c.lifts.at c.lifts.all.items c.lifts.invariant
    c.requires.marked

pub settle-requires-clause-flags : goal.settle-requires-clause-flags
settle-requires-clause-flags c = ap (λ (z : List Bool). length z) c.deref-in-lifts.ensures.value ∙ c.requires.flags ∙
    sym (turned-length c.args.lifts.members.items c.args.lifts.copied.items c.lifts.at c.lifts.all.items c.lifts.invariant)

pub settle-requires-clause-variables : goal.settle-requires-clause-variables
settle-requires-clause-variables c = turned_variables c.args.n c.args.lifts.members.items c.args.lifts.copied.items c.lifts.at c.lifts.all.items
    c.lifts.invariant c.requires.variables

pub settle-requires-clause-fresh : goal.settle-requires-clause-fresh
settle-requires-clause-fresh c = subst (λ (z : List Bool). AreCopiedBeside z c.fresh_of-fresh.result.first c.fresh_of-fresh.result.end)
    (c.deref.ensures.value ∙ sym c.deref-in-lifts.ensures.value) c.fresh_of-fresh.ensures

pub lifts-preserved : goal.lifts-preserved
lifts-preserved c = AreTailsInTurn.more c.lifts.at c.lifts.all.items c.settle.new.all.items c.lifts.invariant
    (omega (
      arith,
      c.lifts-test.true,
      c.len-at-end.ensures,
      c.args.lifts.members.ok.0,
      turned-length c.args.lifts.members.items c.args.lifts.copied.items c.lifts.at c.lifts.all.items c.lifts.invariant,
    ))
    (subst (λ (z : List Bool). IsNextInTurn c.lifts.all.items z c.lifts.at c.settle.new.all.items) c.deref-in-lifts.ensures.value c.in_ok-settle.ensures)

pub returns : goal.returns
returns c = subst (λ (k : ℕ). AreTailsInTurn c.args.lifts.members.items c.args.lifts.copied.items k c.lifts.all.items)
    (omega (arith, c.lifts-test.false, c.lifts.auto.at-end, c.len-at-end.ensures, c.args.lifts.members.ok.0)) c.lifts.invariant
