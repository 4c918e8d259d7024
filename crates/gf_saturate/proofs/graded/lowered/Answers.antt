use Rattle.std.proofs.Common.{◌≡◌, rules, FitsSigned, ◌++◌, [], ◌∷◌, sym, subst}
use Rattle.std.specs.Int.{w128}
use Rattle.std.proofs.lemmas.Int.{to_z-of_z}
use Rattle.gf_order.specs.Weights.{AreBounded}
use Rattle.gf_saturate.proofs.GradedLaws.{bounded_more, bounded_range}
use Rattle.gf_saturate.proofs.graded.lowered.Goals as goal

pub entries-preserved : goal.entries-preserved
entries-preserved c =
    let fz : FitsSigned w128 c.lowered_entry.result = search rules in
    let e : c.push.new.self.items ≡ c.entries.all.items ++ c.lowered_entry.result ∷ [] = simp to_z-of_z at c.in_ok-push.ensures.items in
    bounded_more c.entries.all.items c.push.new.self.items c.lowered_entry.result e c.lowered_entry.ensures c.entries.invariant

pub from_vec-requires : goal.from_vec-requires
from_vec-requires c = bounded_range c.entries.all.items c.entries.invariant

pub returns : goal.returns
returns c = subst AreBounded (sym c.from_vec.ensures) c.entries.invariant
