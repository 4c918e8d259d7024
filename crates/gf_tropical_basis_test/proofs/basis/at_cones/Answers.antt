use Rattle.std.specs.Prelude.{Option, None, Some}
use Rattle.std.proofs.Common.{◌∙◌, ◌<◌, ◌≤◌, ℕ, List, ℤ, length, arith, sym, subst}
use Rattle.std.proofs.lemmas.Result.{err_from_is_err_and}
use Rattle.gf_gordan.specs.Alternative.{AreRows}
use Rattle.gf_duality_theory.specs.Faces.{Rows, cone_of}
use Rattle.gf_rays.specs.Cones.{rows_of}
use Rattle.gf_initial_monomials.specs.Outcomes.{HasOutcome}
use Rattle.gf_initial_monomials.specs.Refusals.{IsConeRefusal}
use Rattle.gf_initial_monomials.specs.Passing.{AreKnownIn, ArePassedIn}
use Rattle.gf_initial_monomials.proofs.OutcomeLaws.{pass_none, pass_more, pass_all, reached}
use Rattle.gf_initial_monomials.proofs.PassingLaws.{passed_none, passed_on, still_known}
use Rattle.gf_tropical_basis_test.specs.Verdicts.{maximal_rows}
use Rattle.gf_tropical_basis_test.specs.Refusals.{IsRefusedWithBasis}
use Rattle.gf_tropical_basis_test.proofs.IndexLaws.{rows_long}
use Rattle.gf_tropical_basis_test.proofs.basis.at_cones.Goals as goal

pub indices-init : goal.indices-init
indices-init c = (
  pass_none (λ (d : Rows). HasOutcome c.args.basis.now.variables c.args.basis.now.items c.args.cone.now.normals d None) (maximal_rows c.args.fan.now),
  c.new-seen.ensures ∙ c.variables.ensures,
  passed_none c.args.basis.now.variables c.args.basis.now.items (cone_of c.args.cone.now.normals) c.args.passed.now,
)

pub maximal_cone-maximal-requires : goal.maximal_cone-maximal-requires
maximal_cone-maximal-requires c = subst (λ (z : List ℕ). c.indices.i < length z) c.maximal-indices.ensures c.indices-test.true

pub at_cone-requires-clause-ambient : goal.at_cone-requires-clause-ambient
at_cone-requires-clause-ambient c = c.maximal_cone-maximal.ensures.ambient ∙ c.requires.ambient

pub at_cone-requires-clause-normals : goal.at_cone-requires-clause-normals
at_cone-requires-clause-normals c = subst (λ m. AreRows m c.normals.result.now) c.requires.cone.variables c.normals.ensures.widths

pub at_cone-requires-clause-known : goal.at_cone-requires-clause-known
at_cone-requires-clause-known c =
    subst (λ (z : List (List ℤ)). AreKnownIn c.args.basis.now.variables c.args.basis.now.items (cone_of z) c.indices.passed) (sym c.normals.ensures.value)
    (still_known c.args.basis.now.variables c.args.basis.now.items (cone_of c.args.cone.now.normals) c.args.passed.now c.indices.passed
    (c.requires.known c.args.cone.now.normals c.requires.cone.normals) c.indices.invariant.2)

pub returns-in_err-found-clause-err : goal.returns-in_err-found-clause-err
returns-in_err-found-clause-err c =
    let long = rows_long c.args.fan.now in
    let l : c.indices.i < length c.args.fan.now.maximal = subst (λ (z : List ℕ). c.indices.i < length z) c.maximal-indices.ensures c.indices-test.true in
    let p = err_from_is_err_and c.from_residual.result c.from_residual.ensures.1 in
    let r = reached (λ (d : Rows). HasOutcome c.args.basis.now.variables c.args.basis.now.items c.args.cone.now.normals d None) (maximal_rows c.args.fan.now)
    c.indices.i (rows_of c.maximal_cone-maximal.result.now) (omega (arith, l, long)) c.maximal_cone-maximal.ensures.value c.indices.invariant.0 in
    let h = subst (λ (z : List (List ℤ)). IsConeRefusal c.args.basis.now.variables c.args.basis.now.items z (rows_of c.maximal_cone-maximal.result.now)
    c.args.pairs c.in_err-found.field-0.0) c.normals.ensures.value c.in_err-found.ensures.err in
    rw p.1 (subst (IsRefusedWithBasis c.args.basis.now.variables (maximal_rows c.args.fan.now) c.args.basis.now.items c.args.pairs) (sym p.2)
    (IsRefusedWithBasis.at_cone c.args.cone.now.normals (rows_of c.maximal_cone-maximal.result.now) c.requires.cone.normals r h))

pub returns-in-Some-clause-ok : goal.returns-in-Some-clause-ok
returns-in-Some-clause-ok c =
    let long = rows_long c.args.fan.now in
    let l : c.indices.i < length c.args.fan.now.maximal = subst (λ (z : List ℕ). c.indices.i < length z) c.maximal-indices.ensures c.indices-test.true in
    let o : HasOutcome c.args.basis.now.variables c.args.basis.now.items c.args.cone.now.normals (rows_of c.maximal_cone-maximal.result.now)
    (Some c.in-Some.v) =
    subst (λ (z : List (List ℤ)). HasOutcome c.args.basis.now.variables c.args.basis.now.items z (rows_of c.maximal_cone-maximal.result.now) (Some c.in-Some.v))
    c.normals.ensures.value
    (subst (λ (z : Option (List ℤ)). HasOutcome c.args.basis.now.variables c.args.basis.now.items c.normals.result.now
    (rows_of c.maximal_cone-maximal.result.now) z) c.in-Some.is c.in_ok-found.ensures.ok) in
    record {
      normals = c.args.cone.now.normals;
      are_normals = c.requires.cone.normals;
      outcome = (
        rows_of c.maximal_cone-maximal.result.now,
        reached (λ (d : Rows). HasOutcome c.args.basis.now.variables c.args.basis.now.items
            c.args.cone.now.normals d None) (maximal_rows c.args.fan.now) c.indices.i (rows_of c.maximal_cone-maximal.result.now)
            (omega (arith, l, long)) c.maximal_cone-maximal.ensures.value c.indices.invariant.0,
        o,
      );
    }

pub indices-preserved : goal.indices-preserved
indices-preserved c =
    let long = rows_long c.args.fan.now in
    let l : c.indices.i < length c.args.fan.now.maximal = subst (λ (z : List ℕ). c.indices.i < length z) c.maximal-indices.ensures c.indices-test.true in
    let o : HasOutcome c.args.basis.now.variables c.args.basis.now.items c.args.cone.now.normals (rows_of c.maximal_cone-maximal.result.now) None =
    subst (λ (z : List (List ℤ)). HasOutcome c.args.basis.now.variables c.args.basis.now.items z (rows_of c.maximal_cone-maximal.result.now) None)
    c.normals.ensures.value
    (subst (λ (z : Option (List ℤ)). HasOutcome c.args.basis.now.variables c.args.basis.now.items c.normals.result.now
    (rows_of c.maximal_cone-maximal.result.now) z) c.in_default.is c.in_ok-found.ensures.ok) in (
      pass_more (λ (d : Rows). HasOutcome c.args.basis.now.variables c.args.basis.now.items c.args.cone.now.normals d None) (maximal_rows c.args.fan.now)
          c.indices.i (rows_of c.maximal_cone-maximal.result.now) (omega (arith, l, long)) c.maximal_cone-maximal.ensures.value o c.indices.invariant.0,
      c.in_ok-found.ensures.seen ∙ c.indices.invariant.1,
      passed_on c.args.basis.now.variables c.args.basis.now.items (cone_of c.args.cone.now.normals) c.args.passed.now c.indices.passed c.at_cone.new.passed
          c.indices.invariant.2 (subst (λ (z : List (List ℤ)). ArePassedIn c.args.basis.now.variables c.args.basis.now.items (cone_of z) c.indices.passed
          c.at_cone.new.passed) c.normals.ensures.value c.in_ok-found.ensures.passed),
    )

pub returns-clause-ok : goal.returns-clause-ok
returns-clause-ok c =
    let long = rows_long c.args.fan.now in
    let l : length c.args.fan.now.maximal ≤ c.indices.i = subst (λ (z : List ℕ). length z ≤ c.indices.i) c.maximal-indices.ensures c.indices-test.false in
    record {
      normals = c.args.cone.now.normals;
      are_normals = c.requires.cone.normals;
      outcome = pass_all (λ (d : Rows). HasOutcome c.args.basis.now.variables c.args.basis.now.items c.args.cone.now.normals d None)
          (maximal_rows c.args.fan.now) c.indices.i (omega (arith, l, long)) c.indices.invariant.0;
    }

pub returns-in-Some-clause-passed : goal.returns-in-Some-clause-passed
returns-in-Some-clause-passed c = (
  c.args.cone.now.normals,
  c.requires.cone.normals,
  passed_on c.args.basis.now.variables c.args.basis.now.items (cone_of c.args.cone.now.normals) c.args.passed.now c.indices.passed c.at_cone.new.passed
      c.indices.invariant.2 (subst (λ (z : List (List ℤ)). ArePassedIn c.args.basis.now.variables c.args.basis.now.items (cone_of z) c.indices.passed
      c.at_cone.new.passed) c.normals.ensures.value c.in_ok-found.ensures.passed),
)

pub returns-clause-passed : goal.returns-clause-passed
returns-clause-passed c = (c.args.cone.now.normals, c.requires.cone.normals, c.indices.invariant.2)
