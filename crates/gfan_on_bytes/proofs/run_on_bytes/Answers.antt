use Rattle.std.specs.Prelude.{Some}
use Rattle.std.proofs.Common.{refl, ap}
use Rattle.gfan_on_bytes.proofs.OnBytesLaws.{calm, done_on_bytes, begun_on_bytes, exact_on_bytes, complete_on_bytes}
use Rattle.gfan_on_bytes.proofs.run_on_bytes.Goals as goal

pub returns-clause-done : goal.returns-clause-done
returns-clause-done g c = λ job asked one is.
    done_on_bytes _ _ _ _ _ _ _ _ (record {
      bytes = c.new-source.ensures.left;
      named = c.new-files.ensures.bytes;
      read = calm 0 0 refl refl;
      opened = calm 0 0 refl refl;
      files_read = calm 0 0 refl refl;
      empty = ap (λ m. Some m.held) c.new-output.ensures;
      held = refl;
      unwritten = ap (λ m. m.faults) c.new-output.ensures;
    }) job asked one (c.run-status.ensures.done is)

pub returns-clause-begun : goal.returns-clause-begun
returns-clause-begun g c = λ job refusal asked one is other.
    begun_on_bytes _ _ _ _ _ _ _ _ (record {
      bytes = c.new-source.ensures.left;
      named = c.new-files.ensures.bytes;
      read = calm 0 0 refl refl;
      opened = calm 0 0 refl refl;
      files_read = calm 0 0 refl refl;
      empty = ap (λ m. Some m.held) c.new-output.ensures;
      held = refl;
      unwritten = ap (λ m. m.faults) c.new-output.ensures;
    }) job asked _ refusal one c.run-status.ensures.follows is other

pub returns-clause-complete : goal.returns-clause-complete
returns-clause-complete g c = λ job asked one short reach.
    complete_on_bytes _ _ _ _ _ _ _ _ (record {
      bytes = c.new-source.ensures.left;
      named = c.new-files.ensures.bytes;
      read = calm 0 0 refl refl;
      opened = calm 0 0 refl refl;
      files_read = calm 0 0 refl refl;
      empty = ap (λ m. Some m.held) c.new-output.ensures;
      held = refl;
      unwritten = ap (λ m. m.faults) c.new-output.ensures;
    }) job asked _ one short c.run-status.ensures.follows reach

pub returns-clause-exact : goal.returns-clause-exact
returns-clause-exact g c = λ job refusal asked short at.
    exact_on_bytes _ _ _ _ _ _ _ _ (record {
      bytes = c.new-source.ensures.left;
      named = c.new-files.ensures.bytes;
      read = calm 0 0 refl refl;
      opened = calm 0 0 refl refl;
      files_read = calm 0 0 refl refl;
      empty = ap (λ m. Some m.held) c.new-output.ensures;
      held = refl;
      unwritten = ap (λ m. m.faults) c.new-output.ensures;
    }) job asked _ refusal short c.run-status.ensures.follows at
