use Rattle.std.proofs.Common.{ℕ, arith, ◌∙◌, sym}
use Rattle.std.specs.Prelude.{max}
use Rattle.gf_exponents_theory.specs.Exponents.{join}
use Rattle.gf_exponents_theory.proofs.ExponentsLaws.{entry-join}
use Rattle.gf_poly.proofs.MonomialLaws.{AreEntries-more, AreEntries-all, entry-get_or, length-join}
use Rattle.gf_poly.proofs.monomial.maxima.Goals as goal
use Rattle.gf_poly.proofs.monomial.maxima.Goals.{then-x-i, else-x-i}

pub entries-preserved : goal.entries-preserved
entries-preserved c = AreEntries-more (λ (a b : ℕ). max a b) c.args.x.now c.args.y.now c.entries.all c.entries.i c.if-x-i.all (omega arith)
    (elim c.if-x-i.branch [
      | then-x-i w ↦ omega (arith, entry-get_or c.args.x.now c.entries.i, entry-get_or c.args.y.now c.entries.i, w.all-is, w.if-x-i.true)
      | else-x-i w ↦ omega (arith, entry-get_or c.args.x.now c.entries.i, entry-get_or c.args.y.now c.entries.i, w.all-is, w.if-x-i.false)
    ]) c.entries.invariant

pub returns : goal.returns
returns c = AreEntries-all (λ (a b : ℕ). max a b) c.args.x.now c.args.y.now (join c.args.x.now c.args.y.now) c.entries.all c.entries.i c.requires.left
    (omega arith) (length-join c.args.x.now c.args.y.now (c.requires.left ∙ sym c.requires.right) ∙ c.requires.left) (entry-join c.args.x.now c.args.y.now)
    c.entries.invariant
