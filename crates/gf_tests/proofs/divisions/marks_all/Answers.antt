use Rattle.std.proofs.Common.{sym, subst, ℕ}
use Rattle.gf_exponents_theory.specs.Orders.{lighter}
use Rattle.gf_poly.specs.Marking.{Each}
use Rattle.gf_ideal_theory.specs.Marks.{IsPositive, IsMarked}
use Rattle.gf_division.proofs.WeighedMarks.{each-all, weight_by_members}
use Rattle.gf_tests.proofs.divisions.marks_all.Goals as goal

pub returns : goal.returns
returns c = λ _. weight_by_members c.args.set.now.variables c.args.weight.now c.args.set.now.items
    (subst (λ (n : ℕ). IsPositive n c.args.weight.now) (sym c.requires.variables) c.requires.positive)
    (subst (Each (IsMarked (lighter c.args.weight.now))) c.items-items.ensures.value
    (each-all (IsMarked (lighter c.args.weight.now)) c.items-items.result.now c.members.i c.members-test.false c.members.invariant))
