use Rattle.std.proofs.Common.{List, All, length, sym, ◌∙◌, subst, inl, inr}
use Rattle.std.proofs.lemmas.Result.{err_from_is_err_and, IfOk-weaker}
use Rattle.gf_poly.specs.Polynomial.{Terms, HasVariables}
use Rattle.gf_ideal_theory.specs.Marks.{HasPositiveWeight}
use Rattle.gfan_lists.specs.After.{IsListedBy, IsUnlisted, IsStartRefused}
use Rattle.gfan_lists.specs.Asked.{names_asked, generators_asked}
use Rattle.gfan_lists.proofs.AfterLaws.{cut_region, taken_node, listed_node, listed_tree}
use Rattle.gfan_common.proofs.PerformedLaws.{on_err}
use Rattle.gfan_lists.proofs.list.start_after.Goals as goal

pub taken_in-requires : goal.taken_in-requires
taken_in-requires g c =
    (cut_region c.args.in_region (length (names_asked c.args.asked.now)) c.requires.region.0 c.args.region.now c.requires.region.1).root.width ∙
    sym c.requires.same

pub returns-in_err-basis-clause-err : goal.returns-in_err-basis-clause-err
returns-in_err-basis-clause-err g c =
    let p = err_from_is_err_and c.from_residual.result c.from_residual.ensures.1 in
    let h = c.in_err-basis.ensures.err in
    rw (p.1, p.2) (inl (IsStartRefused.at_basis h.0 h.1 h.2))

pub returns-in_err-root-clause-err : goal.returns-in_err-root-clause-err
returns-in_err-root-clause-err g c =
    let p = err_from_is_err_and c.from_residual-in_err-root.result c.from_residual-in_err-root.ensures.1 in
    rw (p.1, p.2) (inl (IsStartRefused.at_root c.in_ok-basis.basis c.in_ok-basis.ensures.ok c.in_err-root.ensures.err))

pub returns-in_err-generators-clause-err : goal.returns-in_err-generators-clause-err
returns-in_err-generators-clause-err g c =
    let p = err_from_is_err_and c.from_residual-in_err-generators.result c.from_residual-in_err-generators.ensures.1 in
    rw p.1 (inr p.2)

pub check_listed-requires-clause-root : goal.check_listed-requires-clause-root
check_listed-requires-clause-root g c =
    let first = c.in_ok-root.ensures.ok in
    subst (λ m. HasPositiveWeight m c.in_ok-root.root.items) (sym first.node.variables) first.node.basis.reduced.basis.marked

pub check_listed-requires-clause-basis : goal.check_listed-requires-clause-basis
check_listed-requires-clause-basis g c = c.in_ok-basis.ensures.ok.basis.basis.basis.marked

pub check_listed-requires-clause-same : goal.check_listed-requires-clause-same
check_listed-requires-clause-same g c = c.requires.same ∙ sym c.in_ok-root.ensures.ok.node.variables

pub check_listed-requires-clause-variables : goal.check_listed-requires-clause-variables
check_listed-requires-clause-variables g c =
    let counted = c.in_ok-basis.ensures.ok.arranged.variables ∙ c.requires.same in
    subst (λ (fs : List Terms). All (HasVariables c.in_ok-basis.basis.variables) fs) (sym c.deref.ensures.value)
    (subst (λ n. All (HasVariables n) c.in_ok-generators.generators.items) (sym counted) c.in_ok-generators.ensures.variables)

pub returns-in_err-check_listed-clause-err : goal.returns-in_err-check_listed-clause-err
returns-in_err-check_listed-clause-err g c =
    let p = err_from_is_err_and c.from_residual-in_err-check_listed.result c.from_residual-in_err-check_listed.ensures.1 in
    let u = subst (λ (fs : List Terms). IsUnlisted fs c.args.marked.now c.in_ok-root.root c.in_ok-basis.basis c.in_err-check_listed.field-0.0)
    (c.deref.ensures.value ∙ c.in_ok-generators.ensures.value) c.in_err-check_listed.ensures.err in
    rw (p.1, p.2) (inl (IsStartRefused.unlisted c.in_ok-basis.basis c.in_ok-root.root c.in_ok-basis.ensures.ok c.in_ok-root.ensures.basis
    c.in_ok-root.ensures.ok u))

pub waves_after-requires-clause-basis : goal.waves_after-requires-clause-basis
waves_after-requires-clause-basis g c κs within =
    taken_node (length (names_asked c.args.asked.now)) c.args.region.now (generators_asked c.args.asked.now) c.args.marked.now c.in_ok-root.root
    c.in_ok-basis.basis c.requires.same c.in_ok-root.ensures.ok c.in_ok-basis.ensures.ok

pub returns-clause-ok : goal.returns-clause-ok
returns-clause-ok g c =
    let n = length (names_asked c.args.asked.now) in
    let k = c.args.region.now in
    let fs = generators_asked c.args.asked.now in
    let s = c.args.marked.now in
    let root = c.in_ok-root.root in
    let b = c.in_ok-basis.basis in
    let first = c.in_ok-root.ensures.ok in
    let t = c.in_ok-basis.ensures.ok in
    let l = subst (λ (gs : List Terms). IsListedBy gs s root b) (c.deref.ensures.value ∙ c.in_ok-generators.ensures.value) c.in_ok-check_listed.ensures.ok in
    IfOk-weaker c.waves_after.result _ _ (λ waves h. let f = h n fs root first (listed_node n k fs s root b c.requires.same first t l) in
    (b, f.0, t, f.1)) c.waves_after.ensures.ok

pub returns-clause-err : goal.returns-clause-err
returns-clause-err g c =
    let n = length (names_asked c.args.asked.now) in
    let k = c.args.region.now in
    let fs = generators_asked c.args.asked.now in
    let s = c.args.marked.now in
    let root = c.in_ok-root.root in
    let b = c.in_ok-basis.basis in
    let first = c.in_ok-root.ensures.ok in
    let t = c.in_ok-basis.ensures.ok in
    let l = subst (λ (gs : List Terms). IsListedBy gs s root b) (c.deref.ensures.value ∙ c.in_ok-generators.ensures.value) c.in_ok-check_listed.ensures.ok in
    on_err c.waves_after.result _ _ (λ r h. inl (IsStartRefused.on_the_way b root h.0 t c.in_ok-root.ensures.basis first l
    (listed_tree n k fs s root b c.requires.same first t l c.args.options.pairs h.0 h.1) h.2)) c.waves_after.ensures.err
