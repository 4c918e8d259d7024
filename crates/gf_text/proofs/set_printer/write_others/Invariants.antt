use Rattle.std.proofs.Common.{flat_map, take}
use Rattle.gf_text.specs.PrintedSets.{other_text}
use Rattle.gf_text.specs.Told.{Wrote}
use Rattle.gf_text.proofs.set_printer.write_others.Given as goal

abbrev pub invariant-loop-term : goal.invariant-loop-term
invariant-loop-term g l =
    Wrote (g.E.Sink.held l.initial.sink) (g.E.Sink.held l.sink) (g.E.Sink.faults l.initial.sink) (g.E.Sink.faults l.sink)
    (flat_map (other_text l.ring l.head) (take l.term-index l.terms))
