use Rattle.std.proofs.Common.{subst}
use Rattle.gfan_lists.specs.BasesWriting.{IsUnwritten, IsBasisUnwritten}
use Rattle.gfan_common.proofs.PerformedLaws.{on_err}
use Rattle.gfan_lists.proofs.bases.write_taken.Goals as goal

pub returns-clause-err : goal.returns-clause-err
returns-clause-err g c =
    on_err c.offer.result _ _ (λ e u. IsBasisUnwritten.cut c.in_ok-text.text.items c.in_ok-text.ensures.ok
    (subst (λ p. IsUnwritten (g.K.Sink.held c.args.output.now) (g.K.Sink.held c.offer.new.output) (g.K.Sink.faults c.args.output.now)
    (g.K.Sink.faults c.offer.new.output) p e) c.deref.ensures.value u)) c.offer.ensures.err
