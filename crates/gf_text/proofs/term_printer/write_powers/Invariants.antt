use Rattle.std.proofs.Common.{◌≡◌, ℕ, List, ◌++◌, drop}
use Rattle.gf_text.specs.PrintedText.{powers, left_text}
use Rattle.gf_text.specs.Told.{Wrote}
use Rattle.gf_text.proofs.term_printer.write_powers.Given as goal

-- what was written and what is left are all of it
abbrev pub invariant-powers : goal.invariant-powers
invariant-powers g l = (done : List ℕ) × Wrote (g.E.Sink.held l.initial.sink) (g.E.Sink.held l.sink) (g.E.Sink.faults l.initial.sink) (g.E.Sink.faults l.sink)
    done
    × (done ++ left_text l.some (powers (drop l.i l.ring) (drop l.i l.exponents)) ≡ left_text l.fn.before (powers l.ring l.exponents))
