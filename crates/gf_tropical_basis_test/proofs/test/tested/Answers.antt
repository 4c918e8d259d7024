use Rattle.std.specs.Prelude.{Err}
use Rattle.std.proofs.Common.{◌≡◌, ◌∙◌, ◌<◌, ap, refl, sym, subst}
use Rattle.std.proofs.lemmas.Result.{err_from_is_err_and, IfOk-weaker, IfErr-weaker}
use Rattle.gf_exponents_theory.specs.SixOrders.{MonomialOrder}
use Rattle.gf_order.specs.Comparisons.{HasEntries}
use Rattle.gf_poly.specs.declared.TheConstants.{ROOM}
use Rattle.gf_buchberger.specs.Tasks.{IsSuited}
use Rattle.gf_buchberger.specs.declared.queue.Strategy.TheVariants.{Degree}
use Rattle.gf_buchberger.specs.Ruled.{AreRuledRunsWithinLimits}
use Rattle.gf_buchberger.specs.Bases.{IsArrangedBasis, IsBasisRefusal, IsWantOfMemory}
use Rattle.gf_buchberger.proofs.TaskLaws.{orders_that_suit}
use Rattle.gf_tropical.specs.declared.error.TropicalError.TheVariants.{ZeroPolynomial}
use Rattle.gf_reverse_theory.specs.Upward.{IsNodeIn, IsNode}
use Rattle.gf_facets_theory.specs.Regions.{Region, all_positive}
use Rattle.gf_tree.specs.Ideals.{ideal_by}
use Rattle.gf_tree.proofs.IdealLaws.{start_of_ideal}
use Rattle.gf_tropical_basis_test.specs.declared.error.BasisTestError.TheVariants.{Prevariety}
use Rattle.gf_tropical_basis_test.specs.Refusals.{IsVerdictRefusal}
use Rattle.gf_tropical_basis_test.proofs.EndLaws.{first_of, refused_at_bases}
use Rattle.gf_tropical_basis_test.proofs.test.tested.Goals as goal

pub basis_by_several_ways-requires-clause-entries : goal.basis_by_several_ways-requires-clause-entries
basis_by_several_ways-requires-clause-entries g c = subst (HasEntries c.args.n) (sym c.deglex.ensures) tt

pub basis_by_several_ways-requires-clause-suited : goal.basis_by_several_ways-requires-clause-suited
basis_by_several_ways-requires-clause-suited g c = subst (λ (o : MonomialOrder). IsSuited o c.args.n c.args.set.now) (sym c.deglex.ensures)
    (orders_that_suit.deglex c.args.n c.args.set.now c.requires.variables)

pub returns-in_err-fan-clause-err : goal.returns-in_err-fan-clause-err
returns-in_err-fan-clause-err g c =
    let p = err_from_is_err_and c.from_residual.result c.from_residual.ensures.1 in
    rw (p.1, p.2) (IsVerdictRefusal.at_prevariety _ c.in_err-fan.ensures.err refl)

pub returns-in_err-fan-clause-zero : goal.returns-in_err-fan-clause-zero
returns-in_err-fan-clause-zero g c = λ i z.
    let p = err_from_is_err_and c.from_residual.result c.from_residual.ensures.1 in
    let e = c.in_err-fan.ensures.zero_always i z in
    let q : c.in_err-fan.field-0.0 ≡ ZeroPolynomial 0 i = cc in
    rw (p.1, p.2) (ap (λ r. Err (Prevariety r)) q)

pub returns-in_err-region-clause-zero : goal.returns-in_err-region-clause-zero
returns-in_err-region-clause-zero g c = λ i z. let e = c.in_ok-fan.ensures.zero_always i z in cc

pub returns-in_err-start-clause-zero : goal.returns-in_err-start-clause-zero
returns-in_err-start-clause-zero g c = λ i z. let e = c.in_ok-fan.ensures.zero_always i z in cc

pub returns-in_err-start-clause-err : goal.returns-in_err-start-clause-err
returns-in_err-start-clause-err g c =
    let p = err_from_is_err_and c.from_residual-in_err-start.result c.from_residual-in_err-start.ensures.1 in
    let e = c.in_err-start.field-0.0 in
    let cause = subst (λ (o : MonomialOrder). IsBasisRefusal o c.args.n c.args.set.now c.args.pairs e) c.deglex.ensures c.in_err-start.ensures.err in
    let by_rule = subst (λ (o : MonomialOrder). AreRuledRunsWithinLimits Degree o c.args.set.now c.args.pairs → IsWantOfMemory e) c.deglex.ensures
    c.in_err-start.ensures.complete_by_rule in
    rw (p.1, p.2) (IsVerdictRefusal.at_root e (cause, by_rule) refl)

pub at_bases-requires-clause-room : goal.at_bases-requires-clause-room
at_bases-requires-clause-room g c = subst (λ m. m < ROOM) (sym c.in_ok-start.ensures.ok.variables) c.requires.room

pub at_bases-requires-clause-ambient : goal.at_bases-requires-clause-ambient
at_bases-requires-clause-ambient g c = c.in_ok-fan.ensures.ok.ambient ∙ sym c.in_ok-start.ensures.ok.variables

pub at_bases-requires-clause-region : goal.at_bases-requires-clause-region
at_bases-requires-clause-region g c = c.in_ok-region.ensures ∙ ap all_positive (sym c.in_ok-start.ensures.ok.variables)

pub at_bases-requires-clause-own : goal.at_bases-requires-clause-own
at_bases-requires-clause-own g c =
    let b = subst (λ (o : MonomialOrder). IsArrangedBasis o c.args.n c.args.set.now c.in_ok-start.start) c.deglex.ensures c.in_ok-start.ensures.ok in
    subst (λ (k : Region). IsNode k c.in_ok-start.start) (sym c.in_ok-region.ensures)
    (start_of_ideal c.args.n c.args.set.now c.in_ok-start.start c.requires.variables b).1

pub returns-clause-first : goal.returns-clause-first
returns-clause-first g c =
    let b = subst (λ (o : MonomialOrder). IsArrangedBasis o c.args.n c.args.set.now c.in_ok-start.start) c.deglex.ensures c.in_ok-start.ensures.ok in
    let node = subst (λ m. IsNodeIn (ideal_by m c.args.set.now) c.in_ok-start.start) (sym b.variables)
    (start_of_ideal c.args.n c.args.set.now c.in_ok-start.start c.requires.variables b).0 in
    IfOk-weaker c.at_bases.result _ _ (λ v f. first_of c.args.n c.in_ok-start.start.variables c.args.set.now c.in_ok-fan.fan v b.variables
    c.in_ok-fan.ensures.ok (f c.args.set.now node)) c.at_bases.ensures.ok

pub returns-clause-err : goal.returns-clause-err
returns-clause-err g c =
    let b = subst (λ (o : MonomialOrder). IsArrangedBasis o c.args.n c.args.set.now c.in_ok-start.start) c.deglex.ensures c.in_ok-start.ensures.ok in
    let node = subst (λ m. IsNodeIn (ideal_by m c.args.set.now) c.in_ok-start.start) (sym b.variables)
    (start_of_ideal c.args.n c.args.set.now c.in_ok-start.start c.requires.variables b).0 in
    IfErr-weaker c.at_bases.result _ _ (λ e f. refused_at_bases c.args.n c.in_ok-start.start.variables c.args.set.now c.in_ok-fan.fan c.args.pairs e b.variables
    (record { prevariety = c.in_ok-fan.ensures.ok; rows = c.in_ok-fan.ensures.rows }) (f c.args.set.now node)) c.at_bases.ensures.err

pub returns-clause-zero : goal.returns-clause-zero
returns-clause-zero g c = λ i z. let e = c.in_ok-fan.ensures.zero_always i z in cc
