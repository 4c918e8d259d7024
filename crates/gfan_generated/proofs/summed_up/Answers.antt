use Rattle.std.proofs.Common.{ℕ, arith, refl, sym, ap, ◌∙◌, subst, inl, inr, false}
use Rattle.std.proofs.lemmas.Result.{err_from_is_err_and}
use Rattle.gf_poly.specs.Marking.{polys}
use Rattle.gf_facets_theory.specs.Regions.{all_positive}
use Rattle.gf_reverse_theory.specs.Upward.{IsNode}
use Rattle.gf_subtree.specs.Rows.{first_row}
use Rattle.gf_subtree.specs.Answers.{IsNextRow, IsRowEnd, IsRowAnswer}
use Rattle.gf_lists_theory.proofs.BasesListLaws.{first_node, first_own}
use Rattle.gfan_common.proofs.CauseLaws.{unnamed_tree}
use Rattle.gfan_generated.proofs.SummaryLaws.{IsSummingUp, starts, step_variables, below_limit, goes_on, past_limit, ends, refused_in_tree, refused_at_basis}
use Rattle.gfan_generated.proofs.SummaryLaws.{unnamed_unsummed}
use Rattle.gfan_generated.proofs.summed_up.Goals as goal

pub waves_of-requires-clause-basis : goal.waves_of-requires-clause-basis
waves_of-requires-clause-basis g c κs =
    let s = c.requires.first in
    subst (λ k. IsNode (all_positive k) c.args.root) (sym s.first.variables)
    (first_own 4 (polys c.args.root.items) c.args.root (first_node 4 (polys c.args.root.items) c.args.root s.inside s.first.variables s.first.reduced
    s.first.arranged))

pub list-init : goal.list-init
list-init g c = λ fs s.
    subst (λ w. IsSummingUp c.args.limit c.args.pairs fs w c.in_ok-summary.summary)
    (sym (c.in_ok-waves.ensures ∙ ap (λ (n : ℕ). first_row c.args.alloc c.args.root (all_positive n) c.args.workers c.args.pairs) s.first.variables))
    (starts c.args.limit c.args.pairs fs c.args.alloc c.args.workers c.args.root c.in_ok-summary.summary s c.in_ok-summary.ensures)

pub returns-in_err-waves-clause-err : goal.returns-in_err-waves-clause-err
returns-in_err-waves-clause-err g c =
    let p = err_from_is_err_and c.from_residual.result c.from_residual.ensures.1 in
    rw p.1 (λ fs s. inr (ap (λ r. r.refusal) p.2))

pub returns-in_err-summary-clause-err : goal.returns-in_err-summary-clause-err
returns-in_err-summary-clause-err g c =
    let p = err_from_is_err_and c.from_residual-in_err-summary.result c.from_residual-in_err-summary.ensures.1 in
    rw p.1 (λ fs s. inr (ap (λ r. r.refusal) p.2))

pub returns-in_err-basis-clause-err : goal.returns-in_err-basis-clause-err
returns-in_err-basis-clause-err g c =
    let p = err_from_is_err_and c.from_residual-in_err-basis.result c.from_residual-in_err-basis.ensures.1 in
    rw (p.1, p.2) (λ fs s. inl (refused_in_tree c.args.limit c.args.pairs fs c.list.waves c.list.summary (c.list.invariant fs s)
    c.in_err-basis.field-0.0 c.in_err-basis.ensures.early))

pub returns-in_err-basis-clause-told : goal.returns-in_err-basis-clause-told
returns-in_err-basis-clause-told g c =
    let p = err_from_is_err_and c.from_residual-in_err-basis.result c.from_residual-in_err-basis.ensures.1 in
    rw (p.1, p.2) (unnamed_tree c.in_err-basis.field-0.0)

pub with_basis-requires-clause-variables : goal.with_basis-requires-clause-variables
with_basis-requires-clause-variables g c =
    let step : IsNextRow c.list.waves c.next_written.new.self c.in-Some.basis =
    subst (λ o. IsRowAnswer c.list.waves c.next_written.new.self o) c.in-Some.is c.in_ok-basis.ensures.ok in
    step_variables c.args.limit c.args.pairs (polys c.args.root.items) c.list.waves c.list.summary (c.list.invariant (polys c.args.root.items) c.requires.first)
    c.next_written.new.self c.in-Some.basis step

pub with_basis-requires-clause-weights : goal.with_basis-requires-clause-weights
with_basis-requires-clause-weights g c = (c.list.invariant (polys c.args.root.items) c.requires.first).told.sum.long

pub with_basis-requires-clause-room : goal.with_basis-requires-clause-room
with_basis-requires-clause-room g c =
    let step : IsNextRow c.list.waves c.next_written.new.self c.in-Some.basis =
    subst (λ o. IsRowAnswer c.list.waves c.next_written.new.self o) c.in-Some.is c.in_ok-basis.ensures.ok in
    let below = below_limit c.args.limit c.args.pairs (polys c.args.root.items) c.list.waves c.list.summary
    (c.list.invariant (polys c.args.root.items) c.requires.first) c.next_written.new.self c.in-Some.basis step c.if-summary-limit.false in
    omega (arith, below, c.ranges.limit.fits)

pub returns-then-summary-limit-clause-ok : goal.returns-then-summary-limit-clause-ok
returns-then-summary-limit-clause-ok g c =
    let step : IsNextRow c.list.waves c.next_written.new.self c.in-Some.basis =
    subst (λ o. IsRowAnswer c.list.waves c.next_written.new.self o) c.in-Some.is c.in_ok-basis.ensures.ok in
    λ fs s. past_limit c.args.limit c.args.pairs fs c.list.waves c.list.summary (c.list.invariant fs s) c.next_written.new.self c.in-Some.basis step
    (record { bases = c.list.summary.bases; degree = c.list.summary.degree; weights = c.list.summary.weights; complete = false })
    c.if-summary-limit.true refl refl refl refl

pub list-preserved : goal.list-preserved
list-preserved g c =
    let step : IsNextRow c.list.waves c.next_written.new.self c.in-Some.basis =
    subst (λ o. IsRowAnswer c.list.waves c.next_written.new.self o) c.in-Some.is c.in_ok-basis.ensures.ok in
    λ fs s. goes_on c.args.limit c.args.pairs fs c.list.waves c.list.summary (c.list.invariant fs s) c.next_written.new.self c.in-Some.basis step
    c.in_ok-summary-2.summary c.if-summary-limit.false c.in_ok-summary-2.ensures.ok

pub returns-in_err-summary-2-clause-err : goal.returns-in_err-summary-2-clause-err
returns-in_err-summary-2-clause-err g c =
    let step : IsNextRow c.list.waves c.next_written.new.self c.in-Some.basis =
    subst (λ o. IsRowAnswer c.list.waves c.next_written.new.self o) c.in-Some.is c.in_ok-basis.ensures.ok in
    let p = err_from_is_err_and c.from_residual-in_err-summary-2.result c.from_residual-in_err-summary-2.ensures.1 in
    rw (p.1, p.2) (λ fs s. refused_at_basis c.args.limit c.args.pairs fs c.list.waves c.list.summary (c.list.invariant fs s)
    c.next_written.new.self c.in-Some.basis step c.in_err-summary-2.field-0.0 c.if-summary-limit.false c.in_err-summary-2.ensures.err)

pub returns-in_err-summary-2-clause-told : goal.returns-in_err-summary-2-clause-told
returns-in_err-summary-2-clause-told g c =
    let p = err_from_is_err_and c.from_residual-in_err-summary-2.result c.from_residual-in_err-summary-2.ensures.1 in
    rw (p.1, p.2) (unnamed_unsummed c.list.summary c.in-Some.basis c.in_err-summary-2.field-0.0 c.in_err-summary-2.ensures.err)

pub returns-clause-ok : goal.returns-clause-ok
returns-clause-ok g c =
    let end : IsRowEnd c.list.waves c.next_written.new.self =
    subst (λ o. IsRowAnswer c.list.waves c.next_written.new.self o) c.in_default.is c.in_ok-basis.ensures.ok in
    λ fs s. ends c.args.limit c.args.pairs fs c.list.waves c.list.summary (c.list.invariant fs s) c.next_written.new.self end
