use Rattle.std.proofs.Common.{◌≡◌, List, Option, Ok, arith, sym, subst}
use Rattle.gf_poly.specs.Marking.{MarkedPolynomials}
use Rattle.gf_reverse_search.specs.Listing.{IsLeftAt, IsFirstOf}
use Rattle.gf_reverse_search.specs.Pieces.{PiecesLeave}
use Rattle.gf_waves.specs.Wave.{IsCall}
use Rattle.gf_facets_theory.specs.LexPositive.{IsBefore}
use Rattle.gf_tree.specs.TreeError.TheVariants.{Memory}
use Rattle.gf_reverse_theory.specs.Upward.{fan_of}
use Rattle.gf_tree.specs.Refusals.{IsTreeRefusal}
use Rattle.gf_subtree.specs.Rows.{Row, up_in, RefusesWalker, ideal_in, AreLeftIn}
use Rattle.gf_subtree.specs.Answers.{IsNextRow, IsRowEnd, IsRowKept, IsRefusedEarly}
use Rattle.gf_subtree.proofs.BasisRowLaws.{row_of, left_after, row_step, left_at_end, row_end, left_kept, row_kept, front_refused, row_early}
use Rattle.gf_subtree.proofs.waves.Waves.next.Goals as goal

pub invariant_of-self-in-Ok-Some : goal.invariant_of-self-in-Ok-Some
invariant_of-self-in-Ok-Some g c =
    let f = c.self.inside.inner in
    let q = c.next_written.new.self in
    let e = c.in-Ok-Some.ensures in
    left_after f q c.self.inside.pairs c.self.inside.region.value c.self.inside.start.value c.self.inside.given c.raise.new.self e.workers e.bound e.refusals
    c.self.invariant c.in-Ok-Some.node
    (subst (λ (o : Option MarkedPolynomials). IsCall IsBefore up_in RefusesWalker (λ r. r ≡ Memory) f (Ok o) q) c.in-Ok-Some.field-0-is e.call)
    (λ nodes l. subst (IsFirstOf (PiecesLeave (IsLeftAt IsBefore up_in) q.pieces) nodes) c.in-Ok-Some.field-0-is (e.list nodes l)) c.in_ok-raise.ensures.ok

pub returns-in-Ok-Some-clause-ok : goal.returns-in-Ok-Some-clause-ok
returns-in-Ok-Some-clause-ok g c =
    let f = c.self.inside.inner in
    let q = c.next_written.new.self in
    let e = c.in-Ok-Some.ensures in
    let new = row_of q c.self.inside.pairs c.self.inside.region.value c.self.inside.start.value c.raise.new.self in
    subst (λ (r : Row). IsNextRow r new c.into_basis.result) c.self.view_is
    (subst (λ (b : MarkedPolynomials). IsNextRow (row_of f c.self.inside.pairs c.self.inside.region.value c.self.inside.start.value c.self.inside.given) new b)
    (sym c.into_basis.ensures)
    (row_step f q c.self.inside.pairs c.self.inside.region.value c.self.inside.start.value c.self.inside.given c.raise.new.self e.workers e.bound e.refusals
    c.self.invariant c.in-Ok-Some.node
    (subst (λ (o : Option MarkedPolynomials). IsCall IsBefore up_in RefusesWalker (λ r. r ≡ Memory) f (Ok o) q) c.in-Ok-Some.field-0-is e.call)
    (λ nodes l. subst (IsFirstOf (PiecesLeave (IsLeftAt IsBefore up_in) q.pieces) nodes) c.in-Ok-Some.field-0-is (e.list nodes l)) c.in_ok-raise.ensures.ok))

pub invariant_of-self-in-Ok-None : goal.invariant_of-self-in-Ok-None
invariant_of-self-in-Ok-None g c =
    let f = c.self.inside.inner in
    let q = c.next_written.new.self in
    let e = c.in-Ok-None.ensures in
    left_at_end f q c.self.inside.pairs c.self.inside.region.value c.self.inside.start.value c.self.inside.given c.lower.new.self e.workers e.bound e.refusals
    c.self.invariant
    (subst (λ (o : Option MarkedPolynomials). IsCall IsBefore up_in RefusesWalker (λ r. r ≡ Memory) f (Ok o) q) c.in-Ok-None.field-0-is e.call)
    (λ nodes l. subst (IsFirstOf (PiecesLeave (IsLeftAt IsBefore up_in) q.pieces) nodes) c.in-Ok-None.field-0-is (e.list nodes l))
    (omega (arith, c.lower.ensures, c.in_ok-raise.ensures.ok))

pub invariant_of-self-in-Err : goal.invariant_of-self-in-Err
invariant_of-self-in-Err g c =
    let f = c.self.inside.inner in
    let q = c.next_written.new.self in
    let e = c.in-Err.ensures in
    left_kept f q c.self.inside.pairs c.self.inside.region.value c.self.inside.start.value c.self.inside.given c.lower-in-Err.new.self e.workers e.bound
    e.refusals c.self.invariant c.in-Err.refusal e.call (λ nodes l. e.list nodes l) (omega (arith, c.lower-in-Err.ensures, c.in_ok-raise.ensures.ok))

pub returns-in-Err-clause-cause : goal.returns-in-Err-clause-cause
returns-in-Err-clause-cause g c =
    let f = c.self.inside.inner in
    let q = c.next_written.new.self in
    let e = c.in-Err.ensures in
    let kept = left_kept f q c.self.inside.pairs c.self.inside.region.value c.self.inside.start.value c.self.inside.given c.lower-in-Err.new.self e.workers
    e.bound e.refusals c.self.invariant c.in-Err.refusal e.call (λ nodes l. e.list nodes l)
    (omega (arith, c.lower-in-Err.ensures, c.in_ok-raise.ensures.ok)) in
    subst (λ (r : Row). IsTreeRefusal (ideal_in r) r.pairs c.in-Err.refusal) c.self.view_is
    (front_refused (fan_of c.self.inside.region.value c.self.inside.start.value) c.self.inside.pairs q.pieces c.in-Err.refusal e.refused kept.among)

pub returns-in-Err-clause-early : goal.returns-in-Err-clause-early
returns-in-Err-clause-early g c =
    let f = c.self.inside.inner in
    let q = c.next_written.new.self in
    let e = c.in-Err.ensures in
    let kept = left_kept f q c.self.inside.pairs c.self.inside.region.value c.self.inside.start.value c.self.inside.given c.lower-in-Err.new.self e.workers
    e.bound e.refusals c.self.invariant c.in-Err.refusal e.call (λ nodes l. e.list nodes l)
    (omega (arith, c.lower-in-Err.ensures, c.in_ok-raise.ensures.ok)) in
    let same = row_kept f q c.self.inside.pairs c.self.inside.region.value c.self.inside.start.value c.self.inside.given c.lower-in-Err.new.self e.workers
    e.bound e.refusals c.self.invariant c.in-Err.refusal e.call (λ nodes l. e.list nodes l)
    (omega (arith, c.lower-in-Err.ensures, c.in_ok-raise.ensures.ok)) in
    subst (λ (r : Row). (nodes : List MarkedPolynomials) → AreLeftIn r nodes → IsRefusedEarly (ideal_in r) r.pairs nodes c.in-Err.refusal) c.self.view_is
    (row_early f q c.self.inside.pairs c.self.inside.region.value c.self.inside.start.value c.self.inside.given c.lower-in-Err.new.self same c.in-Err.refusal
    kept.among e.refused)

pub returns-in-Ok-None-clause-ok : goal.returns-in-Ok-None-clause-ok
returns-in-Ok-None-clause-ok g c =
    let f = c.self.inside.inner in
    let q = c.next_written.new.self in
    let e = c.in-Ok-None.ensures in
    subst (λ (r : Row). IsRowEnd r (row_of q c.self.inside.pairs c.self.inside.region.value c.self.inside.start.value c.lower.new.self)) c.self.view_is
    (row_end f q c.self.inside.pairs c.self.inside.region.value c.self.inside.start.value c.self.inside.given c.lower.new.self e.workers e.bound e.refusals
    c.self.invariant
    (subst (λ (o : Option MarkedPolynomials). IsCall IsBefore up_in RefusesWalker (λ r. r ≡ Memory) f (Ok o) q) c.in-Ok-None.field-0-is e.call)
    (λ nodes l. subst (IsFirstOf (PiecesLeave (IsLeftAt IsBefore up_in) q.pieces) nodes) c.in-Ok-None.field-0-is (e.list nodes l))
    (omega (arith, c.lower.ensures, c.in_ok-raise.ensures.ok)))

pub returns-in-Err-clause-unchanged : goal.returns-in-Err-clause-unchanged
returns-in-Err-clause-unchanged g c =
    let f = c.self.inside.inner in
    let q = c.next_written.new.self in
    let e = c.in-Err.ensures in
    subst (λ (r : Row). IsRowKept r (row_of q c.self.inside.pairs c.self.inside.region.value c.self.inside.start.value c.lower-in-Err.new.self)) c.self.view_is
    (row_kept f q c.self.inside.pairs c.self.inside.region.value c.self.inside.start.value c.self.inside.given c.lower-in-Err.new.self e.workers e.bound
    e.refusals c.self.invariant c.in-Err.refusal e.call (λ nodes l. e.list nodes l) (omega (arith, c.lower-in-Err.ensures, c.in_ok-raise.ensures.ok)))
