use Rattle.std.proofs.Common.{[], length, refl, inl, inr, sym, subst}
use Rattle.std.proofs.lemmas.Result.{err_from_is_err_and}
use Rattle.gf_reverse_theory.proofs.ListLaws.{own}
use Rattle.gf_tree.specs.Ideals.{ideal_within}
use Rattle.gfan_lists.specs.BasesWriting.{GoesOnBehind}
use Rattle.gfan_lists.specs.Asked.{names_asked, generators_asked}
use Rattle.gfan_lists.proofs.BasesLaws.{first_goes_on}
use Rattle.gfan_lists.proofs.list.start_first.Goals as goal

pub new-requires-clause-basis : goal.new-requires-clause-basis
new-requires-clause-basis g c κs within =
    own c.args.region.now (ideal_within (length (names_asked c.args.asked.now)) (generators_asked c.args.asked.now) c.args.region.now) c.in_ok-root.root refl
    c.in_ok-root.ensures.ok.node

pub returns-in_err-root-clause-err : goal.returns-in_err-root-clause-err
returns-in_err-root-clause-err g c =
    let p = err_from_is_err_and c.from_residual.result c.from_residual.ensures.1 in
    rw (p.1, p.2) (inl c.in_err-root.ensures.err)

pub returns-in_err-waves-clause-err : goal.returns-in_err-waves-clause-err
returns-in_err-waves-clause-err g c =
    let p = err_from_is_err_and c.from_residual-in_err-waves.result c.from_residual-in_err-waves.ensures.1 in
    rw p.1 (inr p.2)

pub returns-clause-ok : goal.returns-clause-ok
returns-clause-ok g c =
    let n = length (names_asked c.args.asked.now) in
    let fs = generators_asked c.args.asked.now in
    subst (λ w. GoesOnBehind [] n c.args.region.now fs c.args.options.pairs w) (sym c.in_ok-waves.ensures.start)
    (first_goes_on n c.args.region.now fs c.args.options.pairs c.args.alloc c.args.workers c.in_ok-root.root c.in_ok-root.ensures.ok)
