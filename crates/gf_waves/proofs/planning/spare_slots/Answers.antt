use Rattle.std.proofs.Common.{◌≡◌, ◌++◌, ◌∷◌, [], sym, subst, rules}
use Rattle.gf_waves.specs.Plans.{AreSpare}
use Rattle.gf_waves.proofs.PlanLaws.{spare_more}
use Rattle.gf_waves.proofs.planning.spare_slots.Goals as goal

-- one more, without pieces
pub loop-alloc-preserved : goal.loop-alloc-preserved
loop-alloc-preserved g c =
    let l = c.loop-alloc in
    let is : c.push.new.self.items ≡ l.slots.items ++ record { row = c.in_ok-row.row } ∷ [] = search rules in
    record {
      spare = subst AreSpare (sym is) (spare_more l.slots.items (record { row = c.in_ok-row.row }) l.invariant.spare (
        search rules,
        search rules,
      ));
      few = search rules;
      room = search rules;
    }
