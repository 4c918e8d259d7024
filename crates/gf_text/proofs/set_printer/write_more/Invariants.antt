use Rattle.std.proofs.Common.{◌∷◌, flat_map, take}
use Rattle.gf_text.specs.PrintedSets.{marked_text}
use Rattle.gf_text.specs.Told.{Wrote}
use Rattle.gf_text.proofs.set_printer.write_more.Given as goal

abbrev pub invariant-loop-marked : goal.invariant-loop-marked
invariant-loop-marked g l =
    Wrote (g.E.Sink.held l.initial.sink) (g.E.Sink.held l.sink) (g.E.Sink.faults l.initial.sink) (g.E.Sink.faults l.sink)
    (flat_map (λ k. 44 ∷ 10 ∷ marked_text l.ring k) (take l.marked-index l.items))
