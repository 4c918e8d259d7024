use Rattle.std.proofs.Common.{sym, subst}
use denote.Exit.{unseen}
use denote.Param.Send.{Quiet-if}
use mir.Syntax.{of_param}
use Rattle.gf_waves.specs.Plans.{IsBatchFit}
use Rattle.gf_waves.proofs.wave.work_all.Goals as goal

-- each slot may be worked on, on another thread
pub for_each_mut-requires-clause-accepts : goal.for_each_mut-requires-clause-accepts
for_each_mut-requires-clause-accepts g c κs within =
    let b = c.type_bounds in
    λ i p inside at. (
      (c.requires.room, subst IsBatchFit (sym at) (c.requires.fit i p.now inside)),
      (
        record { owned = b.send-T.owned; leaving = λ k. Quiet-if (k (of_param 0)) unseen unseen (λ x w. tt) (λ x w. tt) },
        record { owned = b.send-T-Store.owned; leaving = λ k. Quiet-if (k (of_param 2)) unseen unseen (λ x w. tt) (λ x w. tt) },
        record { owned = b.send-T-Node.owned; leaving = λ k. Quiet-if (k (of_param 3)) unseen unseen (λ x w. tt) (λ x w. tt) },
        record { owned = b.send-T-Label.owned; leaving = λ k. Quiet-if (k (of_param 4)) unseen unseen (λ x w. tt) (λ x w. tt) },
        record { owned = b.send-T-Error.owned; leaving = λ k. Quiet-if (k (of_param 5)) unseen unseen (λ x w. tt) (λ x w. tt) },
        record { shared = b.sync-G.shared },
      ),
    )
