use Rattle.std.proofs.Common.{refl, subst}
use Rattle.gf_session.specs.Endings.{IsCause}
use Rattle.gf_session.specs.Moves.{IsWriteCalm}
use Rattle.gf_basis_states.specs.BasisRules.{IsStateRefusal, basis_rules}
use Rattle.gfan_interactive.specs.Interactive.{IsSessionCutOff, trail_from}
use Rattle.gfan_interactive.proofs.interactive.talk.Goals as goal

pub returns-in-Err-clause-cut : goal.returns-in-Err-clause-cut
returns-in-Err-clause-cut g c = IsSessionCutOff.in_opening c.args.text.now c.requires.opening refl c.in-Err.ensures.fault c.in-Err.ensures.part refl

pub returns-in-Ok-converse-clause-held : goal.returns-in-Ok-converse-clause-held
returns-in-Ok-converse-clause-held g c = record {
  text = c.args.text.now;
  opening = c.requires.opening;
  then = g.K.Sink.held c.write_all.new.sink;
  opened = c.in-Ok.ensures.all;
  ended = c.in-Ok-converse.ensures.ended;
  short = c.in-Ok-converse.ensures.short;
  calm = c.in-Ok-converse.ensures.source_calm;
}

pub returns-in-Err-converse-clause-cut : goal.returns-in-Err-converse-clause-cut
returns-in-Err-converse-clause-cut g c =
    let e = c.in-Err-converse.error in
    let i = c.args.input.now in
    let j = c.converse.new.source in
    let o = c.args.output.now in
    let k = c.converse.new.output in
    let same = c.in-Ok.ensures.calm in
    IsSessionCutOff.in_session c.args.text.now (g.K.Sink.held c.write_all.new.sink) e c.requires.opening c.in-Ok.ensures.all
    (subst (λ n. IsCause (basis_rules c.args.ring.now) (IsStateRefusal c.args.pairs) (trail_from c.args.start) (g.S.Source.left i) (g.S.Source.left j)
    (g.S.Source.given i) (g.S.Source.given j)
    (g.K.Sink.held c.write_all.new.sink) (g.K.Sink.held k) (g.S.Source.faults i) (g.S.Source.faults j) n (g.K.Sink.faults k) e)
    same c.in-Err-converse.ensures.cause)
    c.in-Err-converse.ensures.err_short c.in-Err-converse.ensures.err_source_calm
    (subst (λ n. IsWriteCalm n (g.K.Sink.faults k) e) same c.in-Err-converse.ensures.err_output_calm) c.of_session.ensures
