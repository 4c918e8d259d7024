use Rattle.std.proofs.Common.{ℕ, ◌-◌, arith, ◌∙◌, sym}
use Rattle.gf_exponents_theory.specs.Exponents.{minus}
use Rattle.gf_exponents_theory.proofs.ExponentsLaws.{entry-minus}
use Rattle.gf_poly.proofs.MonomialLaws.{AreEntries-more, AreEntries-all, entry-get_or, entries_by_divides, length-minus}
use Rattle.gf_poly.proofs.monomial.differences.Goals as goal

pub overflow_sub-all : goal.overflow_sub-all
overflow_sub-all c = omega (
  arith,
  entries_by_divides c.args.y.now c.args.x.now c.requires.divides c.entries.i,
  entry-get_or c.args.x.now c.entries.i,
  entry-get_or c.args.y.now c.entries.i,
)

pub entries-preserved : goal.entries-preserved
entries-preserved c = AreEntries-more (λ (a b : ℕ). a - b) c.args.x.now c.args.y.now c.entries.all c.entries.i _ (omega arith)
    (omega (arith, entry-get_or c.args.x.now c.entries.i, entry-get_or c.args.y.now c.entries.i)) c.entries.invariant

pub returns : goal.returns
returns c = AreEntries-all (λ (a b : ℕ). a - b) c.args.x.now c.args.y.now (minus c.args.x.now c.args.y.now) c.entries.all c.entries.i c.requires.left
    (omega arith) (length-minus c.args.x.now c.args.y.now (c.requires.left ∙ sym c.requires.right) ∙ c.requires.left) (entry-minus c.args.x.now c.args.y.now)
    c.entries.invariant
