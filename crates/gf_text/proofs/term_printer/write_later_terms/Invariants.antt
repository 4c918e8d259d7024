use Rattle.std.proofs.Common.{flat_map, take}
use Rattle.gf_poly.specs.declared.Term.{Term}
use Rattle.gf_text.specs.PrintedText.{later_text}
use Rattle.gf_text.specs.Told.{Wrote}
use Rattle.gf_text.proofs.term_printer.write_later_terms.Given as goal

abbrev pub invariant-loop-term : goal.invariant-loop-term
invariant-loop-term g l =
    Wrote (g.E.Sink.held l.initial.sink) (g.E.Sink.held l.sink) (g.E.Sink.faults l.initial.sink) (g.E.Sink.faults l.sink)
    (flat_map (λ (t : Term). later_text l.ring t.coef t.mono) (take l.term-index l.terms))
