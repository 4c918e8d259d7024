use Rattle.gf_reduced.proofs.RefusalLaws.{beside_only_memory}
use Rattle.gf_reduced.proofs.bases.require_reduced.Goals as goal

pub returns-clause-complete : goal.returns-clause-complete
returns-clause-complete c = λ w r g a. beside_only_memory c.args.rows.now c.args.set c.args.marked.now c.reduced.result c.items.ensures.variables
    c.reduced.ensures.err w r g a
