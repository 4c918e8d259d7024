use Rattle.std.proofs.Common.{ap, ◌∙◌}
use Rattle.gf_subtree.specs.Rows.{Row}
use Rattle.gfan_callers.proofs.ListedLaws.{same_workers}
use Rattle.gfan_callers.proofs.lists.workers_of_list.Goals as goal

pub returns : goal.returns
returns g c = c.workers.ensures ∙ same_workers _ _ _ c.in_ok-next_written.ensures.ok ∙ ap (λ (w : Row). w.frontier.workers) c.in_ok-waves.ensures.start
