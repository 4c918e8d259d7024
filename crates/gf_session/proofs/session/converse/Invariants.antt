use Rattle.std.proofs.Common.{◌≡◌, ◌≤◌, ◌-◌, []}
use Rattle.gf_session.specs.Endings.{IsTalking}
use Rattle.gf_session.proofs.session.converse.Given as goal

-- what was written is the answer to the lines that were taken, in turn, and no count of faults rose
abbrev pub invariant-loop-heard : goal.invariant-loop-heard
invariant-loop-heard g l = record {
  talking : IsTalking (g.M.Moves.rules l.moves) (g.M.Moves.joins l.moves) (record { here = l.fn.start; before = [] }) l.here l.crossed.items
      (g.S.Source.left l.initial.source) (g.S.Source.left l.source)
      (g.S.Source.given l.initial.source) (g.S.Source.given l.source) (g.K.Sink.held l.initial.output) (g.K.Sink.held l.output) l.taken;
  state : g.M.Moves.is_state l.moves l.here;
  short : l.taken ≤ 67108864;
  source_calm : g.S.Source.faults l.source ≡ g.S.Source.faults l.initial.source;
  output_calm : g.K.Sink.faults l.output ≡ g.K.Sink.faults l.initial.output;
}

abbrev pub decreases-loop-heard : goal.decreases-loop-heard
decreases-loop-heard g l = 67108864 - l.taken
