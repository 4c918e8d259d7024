use Rattle.std.proofs.Common.{◌≡◌, ◌++◌, ◌∷◌, [], sym, subst, rules}
use Rattle.gf_waves.specs.declared.batch.Batch.{Batch}
use Rattle.gf_waves.specs.Plans.{AreFreeBatches, AreNumbered}
use Rattle.gf_waves.proofs.PlanLaws.{free_more, numbered_more}
use Rattle.gf_waves.proofs.planning.spare_batches.Goals as goal

-- one more, without cells
pub loop-alloc-preserved : goal.loop-alloc-preserved
loop-alloc-preserved g c =
    let l = c.loop-alloc in
    let number = c.saturating_add-number.result in
    let batch : Batch _ _ _ _ = record { slots = c.in_ok-slots.slots; worked = c.in_ok-worked.worked; number = number; spare = c.in_ok-spare.spare } in
    let is : c.push.new.self.items ≡ l.batches.items ++ batch ∷ [] = search rules in
    record {
      free = subst (AreFreeBatches c.args.cells) (sym is)
          (free_more c.args.cells l.batches.items batch l.invariant.free
          (search rules, search rules, search rules, search rules, (search rules, search rules), tt));
      numbered = subst (AreNumbered c.args.first) (sym is)
          (numbered_more c.args.first l.batches.items batch
          l.invariant.numbered (search rules));
      few = search rules;
      room = search rules;
    }
