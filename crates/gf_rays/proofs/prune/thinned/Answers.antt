use Rattle.std.proofs.Common.{subst, sym}
use Rattle.gf_rays.specs.MarkedRays.{done, AreFlagged}
use Rattle.gf_rays.proofs.ColumnLaws.{thinned_more, there_len}
use Rattle.gf_rays.proofs.prune.thinned.Goals as goal
use Rattle.gf_rays.proofs.prune.thinned.Goals.{then-is_inside_at, else-is_inside_at}

pub loop-i-init : goal.loop-i-init
loop-i-init c = record { pruned = done c.args.rays.items; flags = c.requires }

pub is_inside_at-requires : goal.is_inside_at-requires
is_inside_at-requires c =
    (c.loop-i.invariant.flags.0, subst (AreFlagged c.loop-i.invariant.flags.0) (sym c.as_slice-in-loop-i-2.ensures.value) c.loop-i.invariant.flags.1)

pub remove-requires : goal.remove-requires
remove-requires c = there_len _ _ _ _ c.as_slice-in-loop-i-2.ensures.value c.loop-i.left.ok.0 (c.is_inside_at.ensures c.if-is_inside_at.true)

pub loop-i-preserved : goal.loop-i-preserved
loop-i-preserved c = elim c.if-is_inside_at.branch [
  | then-is_inside_at w ↦
      let t = thinned_more c.args.rays.items c.loop-i.left.items w.remove.new.self.items c.as_slice-in-loop-i-2.result.now _ c.loop-i.invariant.pruned
      c.loop-i.invariant.flags c.as_slice-in-loop-i-2.ensures.value (c.is_inside_at.ensures w.if-is_inside_at.true) w.remove.ensures.items in
      rw w.left-is (record { pruned = t.0; flags = t.1 })
  | else-is_inside_at w ↦ rw w.left-is c.loop-i.invariant
]
