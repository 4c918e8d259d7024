use Rattle.std.proofs.Common.{◌+◌, ◌<◌, ◌≤◌, List, ℤ, length, arith, sym, ap, subst}
use Rattle.std.proofs.lemmas.Result.{err_from_is_err_and}
use Rattle.gf_cone.specs.Cones.{ConeRows, IsConeOf}
use Rattle.gf_tree.specs.Refusals.{IsRefusedAtBasis}
use Rattle.gf_basis_states.proofs.CrossableLaws.{AreCrossableBefore, one_more, all_before}
use Rattle.gf_basis_states.proofs.crossable.crossable_normals.Goals as goal

pub returns-in_err-list-clause-err : goal.returns-in_err-list-clause-err
returns-in_err-list-clause-err c = λ pairs.
    let v = c.args.basis.now in
    let k = c.args.region.now in
    let is = subst (IsConeOf v.variables k v.items) (sym c.in_ok-known.ensures) c.in_ok-cone.ensures in
    let p = err_from_is_err_and c.from_residual-in_err-list.result c.from_residual-in_err-list.ensures.1 in
    rw p.1 (subst (IsRefusedAtBasis k pairs v) (sym p.2) (c.in_err-list.ensures.err k pairs v is))

pub states-preserved : goal.states-preserved
states-preserved c =
    let v = c.args.basis.now in
    let k = c.args.region.now in
    let cone = c.in_ok-known.known in
    let i = c.states.state in
    let is = subst (IsConeOf v.variables k v.items) (sym c.in_ok-known.ensures) c.in_ok-cone.ensures in
    let long = ap (λ (z : List (List ℤ)). length z) c.normals-state-end.ensures.value in
    let l : i < length cone.normals = omega (arith, c.states-test.true, long) in
    let before = subst (λ (z : ConeRows). AreCrossableBefore v.variables k v.items z i c.states.list.items) c.known.view_is c.states.invariant in
    subst (λ (z : ConeRows). AreCrossableBefore v.variables k v.items z (i + 1) c.in_ok-list.list.items) (sym c.known.view_is)
    (one_more v.variables k v.items cone i c.states.list.items c.in_ok-list.list.items is l c.in_ok-list.ensures.ok before)

pub returns-clause-ok : goal.returns-clause-ok
returns-clause-ok c =
    let v = c.args.basis.now in
    let k = c.args.region.now in
    let cone = c.in_ok-known.known in
    let i = c.states.state in
    let is = subst (IsConeOf v.variables k v.items) (sym c.in_ok-known.ensures) c.in_ok-cone.ensures in
    let long = ap (λ (z : List (List ℤ)). length z) c.normals-state-end.ensures.value in
    let l : length cone.normals ≤ i = omega (arith, c.states-test.false, long) in
    all_before v.variables k v.items cone i c.states.list.items is l
    (subst (λ (z : ConeRows). AreCrossableBefore v.variables k v.items z i c.states.list.items) c.known.view_is c.states.invariant)
