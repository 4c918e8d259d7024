use Rattle.std.proofs.Common.{◌≡◌, ◌<◌, ◌-◌, ◌++◌, ◌∷◌, suc, [], length, length-append, rules, arith}
use Rattle.gf_waves.specs.Plans.{gathered}
use Rattle.gf_waves.proofs.PlanLaws.{first_out, gathered_fits, gathered_more}
use Rattle.gf_waves.proofs.planning.merge.Goals as goal

pub put_next-requires : goal.put_next-requires
put_next-requires g c =
    let l = c.loop-left in
    let batch = c.remove-batch.result in
    let rest = c.remove-batch.new.self.items in
    let some : 0 < length l.batches.items = search rules in
    let batches : l.batches.items ≡ batch ∷ rest = first_out l.batches.items rest batch some c.remove-batch.ensures.value c.remove-batch.ensures.items in
    let open_left : l.left ≡ suc (l.left - 1) = omega arith in
    let fits = gathered_fits l.left (l.left - 1) l.batches.items rest batch l.row.items (gathered c.args.cells c.args.batches.now.items)
    open_left batches l.invariant.all in
    let room = l.invariant.room in
    let long = length-append (gathered c.args.cells c.args.batches.now.items) c.args.tail.now.items in
    omega (arith, fits, room, long)

-- what the first batch made of a cell is put behind the row, and the batch behind the others
pub loop-left-preserved : goal.loop-left-preserved
loop-left-preserved g c =
    let l = c.loop-left in
    let batch = c.remove-batch.result in
    let rest = c.remove-batch.new.self.items in
    let some : 0 < length l.batches.items = search rules in
    let batches : l.batches.items ≡ batch ∷ rest = first_out l.batches.items rest batch some c.remove-batch.ensures.value c.remove-batch.ensures.items in
    let open_left : l.left ≡ suc (l.left - 1) = omega arith in
    let behind : c.push.new.self.items ≡ rest ++ c.put_next.new.batch ∷ [] = search rules in
    record {
      all = gathered_more l.left (l.left - 1) l.batches.items rest c.push.new.self.items batch c.put_next.new.batch l.row.items c.put_next.new.row.items
          (gathered c.args.cells c.args.batches.now.items) open_left batches behind c.put_next.ensures.rest c.put_next.ensures.items l.invariant.all;
      room = search rules;
      few = search rules;
    }
