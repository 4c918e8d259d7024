use Rattle.std.proofs.Common.{◌<◌, ◌^◌, rules, FitsSigned, All, sym, subst}
use Rattle.std.specs.Int.{w128}
use Rattle.std.proofs.lemmas.Int.{to_z-of_z}
use Rattle.gf_tropical.proofs.CornerLaws.{entries_more}
use Rattle.gf_tropical.proofs.corners.point.Goals as goal

pub entries-preserved : goal.entries-preserved
entries-preserved c =
    let fz : FitsSigned w128 c.entry.result = search rules in
    entries_more c.exponents-powers.result.now c.entries.entries.items c.push.new.self.items c.entries.i _ c.entries-test.true c.entry.ensures
    (subst (All (λ k. k < 2 ^ 31)) (sym c.exponents-powers.ensures.value) c.exponents-powers.ensures.valid.limit c.entries.i 0 c.entries-test.true)
    (simp to_z-of_z at c.in_ok-push.ensures.items) c.entries.invariant
