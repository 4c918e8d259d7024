use Rattle.std.proofs.Common.{◌≡◌, length, rules, FitsSigned, arith, ap, sym, ◌∙◌, ◌++◌, [], ◌∷◌}
use Rattle.std.specs.Int.{w128}
use Rattle.std.proofs.lemmas.Int.{to_z-of_z}
use Rattle.gf_saturate.proofs.GradedLaws.{bounded_more, longer, bounded_range, difference_bounded}
use Rattle.gf_saturate.proofs.grades.difference.Goals as goal

pub entries-preserved : goal.entries-preserved
entries-preserved c =
    let fz : FitsSigned w128 c.entry_of.result = search rules in
    let same : length c.exponents-left.result.now ≡ length c.exponents-right.result.now =
    ap length c.exponents-left.ensures.value ∙ c.requires.left ∙ sym (ap length c.exponents-right.ensures.value ∙ c.requires.right) in
    let e : c.push.new.self.items ≡ c.entries.entries.items ++ c.entry_of.result ∷ [] = simp to_z-of_z at c.in_ok-push.ensures.items in (
      longer c.entries.entries.items c.push.new.self.items c.entry_of.result c.entries.i e c.entries.invariant.0,
      bounded_more c.entries.entries.items c.push.new.self.items c.entry_of.result e
          (difference_bounded c.args.x.now c.args.y.now c.exponents-left.result.now c.exponents-right.result.now c.entries.i c.entry_of.result
          c.exponents-left.ensures.value c.exponents-right.ensures.value c.exponents-left.ensures.valid c.exponents-right.ensures.valid c.entries-test.true
          (omega (arith, same)) c.entry_of.ensures)
          c.entries.invariant.1,
    )

pub from_vec-requires : goal.from_vec-requires
from_vec-requires c = bounded_range c.entries.entries.items c.entries.invariant.1
