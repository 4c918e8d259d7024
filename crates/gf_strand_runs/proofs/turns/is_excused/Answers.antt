use Rattle.std.proofs.Common.{inl}
use Rattle.gf_strand_runs.proofs.StrandTurns.{alone_strand}
use Rattle.gf_strand_runs.proofs.turns.is_excused.Goals as goal

pub returns-then-is_empty-2 : goal.returns-then-is_empty-2
returns-then-is_empty-2 c = λ a _. inl (
  alone_strand a c.args.b.now _ c.args.b.now.rest.ok.0 c.if-is_empty.ensures,
  alone_strand a c.args.c.now _ c.args.c.now.rest.ok.0 c.if-is_empty-2.ensures,
)
