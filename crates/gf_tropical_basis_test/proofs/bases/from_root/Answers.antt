use Rattle.std.specs.Prelude.{None, Some}
use Rattle.std.proofs.Common.{◌≡◌, ◌∙◌, ◌<◌, refl, sym, subst}
use Rattle.std.proofs.lemmas.Result.{err_from_is_err_and}
use Rattle.gf_poly.specs.declared.TheConstants.{ROOM}
use Rattle.gf_poly.specs.Marking.{polys}
use Rattle.gf_facets_theory.specs.Regions.{Region, all_positive}
use Rattle.gf_facets_theory.specs.MarkedBases.{IsMarkedReducedBasis}
use Rattle.gf_tree.specs.Parents.{IsRootFor}
use Rattle.gf_tree.specs.Walks.{walk_at}
use Rattle.gf_tree.specs.Steps.{IsAdvance, IsStepTo, IsEnd}
use Rattle.gf_tropical_basis_test.specs.Passing.{AreKnownAt, ArePassedAt}
use Rattle.gf_tropical_basis_test.specs.Verdicts.{HasBasisOutcome, maximal_rows}
use Rattle.gf_tropical_basis_test.specs.Refusals.{AreBasesRefused, IsRefusedWithBasis}
use Rattle.gf_tropical_basis_test.proofs.WalkLaws.{PassedSoFar, passed_none, passed_more, step_variables, all_passed, one_failed, reached_refused}
use Rattle.gf_tropical_basis_test.proofs.WalkLaws.{search_refused}
use Rattle.gf_tropical_basis_test.proofs.PassingLaws.{free_none, known_everywhere, free_more, step_basis}
use Rattle.gf_tropical_basis_test.proofs.bases.from_root.Goals as goal

pub loop-walker-init : goal.loop-walker-init
loop-walker-init c = (
  rw c.in_ok-walker.ensures (passed_none c.args.root.variables (maximal_rows c.args.fan.now)
      (walk_at c.args.root c.args.region.now c.args.pairs) c.requires.own),
  rw c.new-passed.ensures (free_none c.args.root.variables (polys c.args.root.items)),
)

pub at_basis-requires-clause-room : goal.at_basis-requires-clause-room
at_basis-requires-clause-room c =
    let s : IsStepTo c.loop-walker.walker c.advance.new.self c.in-Some.basis =
    subst (IsAdvance c.loop-walker.walker c.advance.new.self) c.in-Some.is c.in_ok-basis.ensures.ok in
    let n : c.in-Some.basis.variables ≡ c.args.root.variables = step_variables c.args.region.now c.args.root c.args.pairs c.args.root.variables
    (maximal_rows c.args.fan.now) c.loop-walker.walker c.advance.new.self c.in-Some.basis c.loop-walker.invariant.0 s in
    subst (λ m. m < ROOM) (sym n) c.requires.room

pub at_basis-requires-clause-ambient : goal.at_basis-requires-clause-ambient
at_basis-requires-clause-ambient c =
    let s : IsStepTo c.loop-walker.walker c.advance.new.self c.in-Some.basis =
    subst (IsAdvance c.loop-walker.walker c.advance.new.self) c.in-Some.is c.in_ok-basis.ensures.ok in
    let n : c.in-Some.basis.variables ≡ c.args.root.variables = step_variables c.args.region.now c.args.root c.args.pairs c.args.root.variables
    (maximal_rows c.args.fan.now) c.loop-walker.walker c.advance.new.self c.in-Some.basis c.loop-walker.invariant.0 s in
    c.requires.ambient ∙ sym n

pub at_basis-requires-clause-known : goal.at_basis-requires-clause-known
at_basis-requires-clause-known c =
    let s : IsStepTo c.loop-walker.walker c.advance.new.self c.in-Some.basis =
    subst (IsAdvance c.loop-walker.walker c.advance.new.self) c.in-Some.is c.in_ok-basis.ensures.ok in
    let n : c.in-Some.basis.variables ≡ c.args.root.variables = step_variables c.args.region.now c.args.root c.args.pairs c.args.root.variables
    (maximal_rows c.args.fan.now) c.loop-walker.walker c.advance.new.self c.in-Some.basis c.loop-walker.invariant.0 s in
    let b : IsMarkedReducedBasis c.args.root.variables (polys c.args.root.items) c.in-Some.basis.items = step_basis c.args.region.now c.args.root c.args.pairs
    c.args.root.variables (maximal_rows c.args.fan.now) c.loop-walker.walker c.advance.new.self c.in-Some.basis c.requires.own c.loop-walker.invariant.0 s in
    subst (λ m. AreKnownAt m c.in-Some.basis.items c.loop-walker.passed) (sym n) (known_everywhere c.args.root.variables (polys c.args.root.items)
    c.in-Some.basis.items c.loop-walker.passed c.requires.own.fan.ideal b c.loop-walker.invariant.1)

pub returns-in_err-basis-clause-err : goal.returns-in_err-basis-clause-err
returns-in_err-basis-clause-err c =
    let p = err_from_is_err_and c.from_residual-in_err-basis.result c.from_residual-in_err-basis.ensures.1 in
    rw (p.1, p.2) (λ fs start h.
    let top : IsRootFor (all_positive start.variables) start c.args.root = subst (λ (k : Region). IsRootFor k start c.args.root) h.region_is h.top in
    let so_far : PassedSoFar start.variables (maximal_rows c.args.fan.now) (walk_at c.args.root (all_positive start.variables) c.args.pairs)
    c.loop-walker.walker =
    subst (λ m. PassedSoFar m (maximal_rows c.args.fan.now) (walk_at c.args.root (all_positive start.variables) c.args.pairs) c.loop-walker.walker)
    top.basis.variables (subst (λ (k : Region). PassedSoFar c.args.root.variables (maximal_rows c.args.fan.now) (walk_at c.args.root k c.args.pairs)
    c.loop-walker.walker) h.region_is c.loop-walker.invariant.0) in
    AreBasesRefused.at_search _ (search_refused fs start c.args.root c.args.pairs so_far.done c.loop-walker.walker _ h.node top so_far.given
    c.in_err-basis.ensures.cause) refl)

pub returns-in_err-found-clause-err : goal.returns-in_err-found-clause-err
returns-in_err-found-clause-err c =
    let s : IsStepTo c.loop-walker.walker c.advance.new.self c.in-Some.basis =
    subst (IsAdvance c.loop-walker.walker c.advance.new.self) c.in-Some.is c.in_ok-basis.ensures.ok in
    let n : c.in-Some.basis.variables ≡ c.args.root.variables = step_variables c.args.region.now c.args.root c.args.pairs c.args.root.variables
    (maximal_rows c.args.fan.now) c.loop-walker.walker c.advance.new.self c.in-Some.basis c.loop-walker.invariant.0 s in
    let p = err_from_is_err_and c.from_residual-in_err-found.result c.from_residual-in_err-found.ensures.1 in
    rw (p.1, p.2) (λ fs start h.
    let top : IsRootFor (all_positive start.variables) start c.args.root = subst (λ (k : Region). IsRootFor k start c.args.root) h.region_is h.top in
    let so_far : PassedSoFar start.variables (maximal_rows c.args.fan.now) (walk_at c.args.root (all_positive start.variables) c.args.pairs)
    c.loop-walker.walker =
    subst (λ m. PassedSoFar m (maximal_rows c.args.fan.now) (walk_at c.args.root (all_positive start.variables) c.args.pairs) c.loop-walker.walker)
    top.basis.variables (subst (λ (k : Region). PassedSoFar c.args.root.variables (maximal_rows c.args.fan.now) (walk_at c.args.root k c.args.pairs)
    c.loop-walker.walker) h.region_is c.loop-walker.invariant.0) in
    let r = reached_refused fs start c.args.root c.args.pairs (maximal_rows c.args.fan.now) c.loop-walker.walker c.advance.new.self c.in-Some.basis h.node top
    so_far s in
    AreBasesRefused.at_basis r.0 c.in-Some.basis _ r.1 r.2 (subst (λ m. IsRefusedWithBasis m (maximal_rows c.args.fan.now) c.in-Some.basis.items c.args.pairs
    c.in_err-found.field-0.0) (n ∙ top.basis.variables) c.in_err-found.ensures.err) refl)

pub returns-in-Some-found-clause-ok : goal.returns-in-Some-found-clause-ok
returns-in-Some-found-clause-ok c = λ fs start h.
    let s : IsStepTo c.loop-walker.walker c.advance.new.self c.in-Some.basis =
    subst (IsAdvance c.loop-walker.walker c.advance.new.self) c.in-Some.is c.in_ok-basis.ensures.ok in
    let n : c.in-Some.basis.variables ≡ c.args.root.variables = step_variables c.args.region.now c.args.root c.args.pairs c.args.root.variables
    (maximal_rows c.args.fan.now) c.loop-walker.walker c.advance.new.self c.in-Some.basis c.loop-walker.invariant.0 s in
    let top : IsRootFor (all_positive start.variables) start c.args.root = subst (λ (k : Region). IsRootFor k start c.args.root) h.region_is h.top in
    let so_far : PassedSoFar start.variables (maximal_rows c.args.fan.now) (walk_at c.args.root (all_positive start.variables) c.args.pairs)
    c.loop-walker.walker =
    subst (λ m. PassedSoFar m (maximal_rows c.args.fan.now) (walk_at c.args.root (all_positive start.variables) c.args.pairs) c.loop-walker.walker)
    top.basis.variables (subst (λ (k : Region). PassedSoFar c.args.root.variables (maximal_rows c.args.fan.now) (walk_at c.args.root k c.args.pairs)
    c.loop-walker.walker) h.region_is c.loop-walker.invariant.0) in
    let o : HasBasisOutcome start.variables (maximal_rows c.args.fan.now) c.in-Some.basis.items (Some c.in-Some-found.v) =
    subst (λ m. HasBasisOutcome m (maximal_rows c.args.fan.now) c.in-Some.basis.items (Some c.in-Some-found.v))
    (n ∙ top.basis.variables) (subst (HasBasisOutcome c.in-Some.basis.variables (maximal_rows c.args.fan.now) c.in-Some.basis.items)
    c.in-Some-found.is c.in_ok-found.ensures.ok) in
    one_failed fs start c.args.root c.args.pairs (maximal_rows c.args.fan.now) c.loop-walker.walker c.advance.new.self c.in-Some.basis c.in-Some-found.v h.node
    top so_far s o

pub loop-walker-preserved : goal.loop-walker-preserved
loop-walker-preserved c =
    let s : IsStepTo c.loop-walker.walker c.advance.new.self c.in-Some.basis =
    subst (IsAdvance c.loop-walker.walker c.advance.new.self) c.in-Some.is c.in_ok-basis.ensures.ok in
    let n : c.in-Some.basis.variables ≡ c.args.root.variables = step_variables c.args.region.now c.args.root c.args.pairs c.args.root.variables
    (maximal_rows c.args.fan.now) c.loop-walker.walker c.advance.new.self c.in-Some.basis c.loop-walker.invariant.0 s in
    let o : HasBasisOutcome c.args.root.variables (maximal_rows c.args.fan.now) c.in-Some.basis.items None =
    subst (λ m. HasBasisOutcome m (maximal_rows c.args.fan.now) c.in-Some.basis.items None) n
    (subst (HasBasisOutcome c.in-Some.basis.variables (maximal_rows c.args.fan.now) c.in-Some.basis.items)
    c.in_default-found.is c.in_ok-found.ensures.ok) in
    let b : IsMarkedReducedBasis c.args.root.variables (polys c.args.root.items) c.in-Some.basis.items = step_basis c.args.region.now c.args.root c.args.pairs
    c.args.root.variables (maximal_rows c.args.fan.now) c.loop-walker.walker c.advance.new.self c.in-Some.basis c.requires.own c.loop-walker.invariant.0 s in
    let p : ArePassedAt c.args.root.variables c.in-Some.basis.items c.loop-walker.passed c.at_basis.new.passed =
    subst (λ m. ArePassedAt m c.in-Some.basis.items c.loop-walker.passed c.at_basis.new.passed) n c.in_ok-found.ensures.passed in (
      passed_more c.args.root.variables (maximal_rows c.args.fan.now) (walk_at c.args.root c.args.region.now c.args.pairs) c.loop-walker.walker
          c.advance.new.self c.in-Some.basis c.requires.own s o c.loop-walker.invariant.0,
      free_more c.args.root.variables (polys c.args.root.items) c.in-Some.basis.items c.loop-walker.passed c.at_basis.new.passed c.requires.own.fan.ideal b p
          c.loop-walker.invariant.1,
    )

pub returns-clause-ok : goal.returns-clause-ok
returns-clause-ok c = λ fs start h.
    let e : IsEnd c.loop-walker.walker c.advance.new.self =
    subst (IsAdvance c.loop-walker.walker c.advance.new.self) c.in_default.is c.in_ok-basis.ensures.ok in
    let top : IsRootFor (all_positive start.variables) start c.args.root = subst (λ (k : Region). IsRootFor k start c.args.root) h.region_is h.top in
    let so_far : PassedSoFar start.variables (maximal_rows c.args.fan.now) (walk_at c.args.root (all_positive start.variables) c.args.pairs)
    c.loop-walker.walker =
    subst (λ m. PassedSoFar m (maximal_rows c.args.fan.now) (walk_at c.args.root (all_positive start.variables) c.args.pairs) c.loop-walker.walker)
    top.basis.variables (subst (λ (k : Region). PassedSoFar c.args.root.variables (maximal_rows c.args.fan.now) (walk_at c.args.root k c.args.pairs)
    c.loop-walker.walker) h.region_is c.loop-walker.invariant.0) in
    all_passed fs start c.args.root c.args.pairs (maximal_rows c.args.fan.now) c.loop-walker.walker c.advance.new.self h.node top so_far e
