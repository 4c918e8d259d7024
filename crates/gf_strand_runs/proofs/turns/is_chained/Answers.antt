use Rattle.std.proofs.Common.{sym, ◌∙◌}
use Rattle.gf_strands.specs.Strands.{strand_members}
use Rattle.gf_strand_runs.proofs.JoinedTurns.{cover_chain, chained_behind}
use Rattle.gf_strand_runs.proofs.StrandTurns.{chained_strand}
use Rattle.gf_strand_runs.proofs.turns.is_chained.Goals as goal

pub returns-then-is_covered : goal.returns-then-is_covered
returns-then-is_covered c = λ a _. cover_chain c.args.marks.now (strand_members a c.args.before.now) c.args.multiple.now
    (c.is_covered.ensures.yes c.if-is_covered.true)

pub returns : goal.returns
returns c = λ a t. chained_behind c.args.marks.now (strand_members a c.args.before.now) c.args.multiple.now
    (chained_strand a c.args.before.now c.args.multiple.now c.strand_below.result c.strand_below.ensures.found (sym c.is_some.ensures ∙ t))
