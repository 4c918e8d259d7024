use Rattle.std.proofs.Common.{◌∷◌, flat_map, take}
use Rattle.gf_text.specs.Told.{Wrote}
use Rattle.gf_text.specs.VectorText.{entry_text}
use Rattle.gf_text.proofs.vector_printer.write_later_entries.Given as goal

abbrev pub invariant-loop-entry : goal.invariant-loop-entry
invariant-loop-entry g l =
    Wrote (g.E.Sink.held l.initial.sink) (g.E.Sink.held l.sink) (g.E.Sink.faults l.initial.sink) (g.E.Sink.faults l.sink)
    (flat_map (λ x. 44 ∷ entry_text x) (take l.entry-index l.entries))
