use Rattle.std.proofs.Common.{◌∙◌, inl, arith}
use Rattle.std.proofs.Math.Seq.{take-add}
use Rattle.std.proofs.KnownBytes.{Appends-trans}
use Rattle.std.proofs.lemmas.List.{take_rest}
use Rattle.std.proofs.lemmas.Grind.{common_steps}
use Rattle.gf_outside.proofs.sink.write_all.Goals as goal

pub loop-done-preserved : goal.loop-done-preserved
loop-done-preserved g c = record {
  within = grind (arith, common_steps, c.in-Ok.ensures.bound);
  held = rw take-add (Appends-trans _ _ _ _ _ c.loop-done.invariant.held (rw take_rest at c.in-Ok.ensures.bytes));
  calm = c.in-Ok.ensures.calm (inl (omega arith)) ∙ c.loop-done.invariant.calm;
}
