use Rattle.std.proofs.lemmas.Result.{err_from_is_err_and}
use Rattle.gf_tree.proofs.RefusalLaws.{index_at}
use Rattle.gf_basis_states.proofs.crossable.with_state.Goals as goal

pub returns-in_err-_witness-clause-err : goal.returns-in_err-_witness-clause-err
returns-in_err-_witness-clause-err c =
    let p = err_from_is_err_and c.from_residual.result c.from_residual.ensures.1 in
    rw p.1 (λ k pairs v is. index_at k pairs v c.args.cone.now c.args.state c.in_err-_witness.field-0.0 p.0 is c.requires c.in_err-_witness.ensures.err p.2)
