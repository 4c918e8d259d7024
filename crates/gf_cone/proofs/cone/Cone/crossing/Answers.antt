use Rattle.std.proofs.Common.{◌≡◌, ◌≤◌, sym, ap, subst, refl, arith, ℕ, All, unsigned_abs, length}
use Rattle.gf_facets_theory.specs.Systems.{units}
use Rattle.std.specs.Prelude.{[], ◌∷◌, IfOk, IfErr, IfSome, IsNone}
use Rattle.gf_gordan.specs.Steps.{Failed}
use Rattle.gf_gordan.specs.Alternative.{AreRows, IsSolution, IsSolvable}
use Rattle.gf_cone.specs.Answers.{IsNormalStep}
use Rattle.gf_cone.specs.Cones.{ConeRows, all_rows}
use Rattle.gf_cone.proofs.AnswerLaws.{given_rows_are, given_rows_all, kept_in_all, kept_wide, row_read, system_for, small_at}
use Rattle.gf_cone.proofs.CrossingLaws.{in_all}
use Rattle.gf_cone.proofs.cone.Cone.crossing.Goals as goal

pub solution_at-requires-clause-widths : goal.solution_at-requires-clause-widths
solution_at-requires-clause-widths c =
    subst (λ (m : ℕ). AreRows m c.as_slice.result.now) (sym (ap (λ (z : ConeRows). z.variables) c.self.view_is))
    (given_rows_all (λ t. length t ≡ c.args.self.now.variables) c.args.self.now c.args.index c.as_slice.result.now c.requires
    (given_rows_are c.args.self.now c.args.index c.self.inside.variables c.kept-kept.result.now c.as_slice.result.now c.in_ok-rows.rows.items
    c.in_ok-list.list.items c.as_slice.ensures.value c.in_ok-rows.ensures c.in_ok-list.ensures c.kept-kept.ensures.value
    (ap (λ (z : ConeRows). z.variables) c.self.view_is) c.requires
    (omega (arith, c.requires, c.kept-kept.ensures.front)))
    (kept_wide c.args.self.now c.self.inside.variables c.self.inside.count c.self.inside.vectors.items (sym c.self.view_is) c.self.invariant))

pub returns-clause-three_columns : goal.returns-clause-three_columns
returns-clause-three_columns c = λ v h. c.solution_at.ensures.three_columns
    (subst (λ (m : ℕ). m ≤ 3) (sym (ap (λ (z : ConeRows). z.variables) c.self.view_is)) v)
    (given_rows_all (All (λ x. unsigned_abs x ≤ 500)) c.args.self.now c.args.index c.as_slice.result.now c.requires
    (given_rows_are c.args.self.now c.args.index c.self.inside.variables c.kept-kept.result.now c.as_slice.result.now c.in_ok-rows.rows.items
    c.in_ok-list.list.items c.as_slice.ensures.value c.in_ok-rows.ensures c.in_ok-list.ensures c.kept-kept.ensures.value
    (ap (λ (z : ConeRows). z.variables) c.self.view_is) c.requires
    (omega (arith, c.requires, c.kept-kept.ensures.front)))
    h)
    (small_at 500 (all_rows c.args.self.now) (all_rows c.args.self.now) c.args.index c.index-kept-index.result refl
    (in_all c.args.self.now c.args.index c.requires)
    (kept_in_all c.args.self.now c.kept-kept.result.now (units c.args.self.now.variables c.args.self.now.variables) c.args.index c.index-kept-index.result
    c.kept-kept.ensures.value (omega (arith, c.requires, c.kept-kept.ensures.front)) c.index-kept-index.is) h)

pub returns-clause-yes : goal.returns-clause-yes
returns-clause-yes c = system_for (λ n rows a. IfOk c.solution_at.result (λ o. IfSome o (IsSolution n rows (a ∷ [])))) _ _ _ _ _ _
    (ap (λ (z : ConeRows). z.variables) c.self.view_is)
    (given_rows_are c.args.self.now c.args.index c.self.inside.variables c.kept-kept.result.now c.as_slice.result.now c.in_ok-rows.rows.items
    c.in_ok-list.list.items c.as_slice.ensures.value c.in_ok-rows.ensures c.in_ok-list.ensures c.kept-kept.ensures.value
    (ap (λ (z : ConeRows). z.variables) c.self.view_is) c.requires
    (omega (arith, c.requires, c.kept-kept.ensures.front)))
    (row_read c.args.self.now c.kept-kept.result.now (units c.args.self.now.variables c.args.self.now.variables) c.args.index c.index-kept-index.result
    c.requires c.kept-kept.ensures.value (omega (arith, c.requires, c.kept-kept.ensures.front)) c.index-kept-index.is)
    c.solution_at.ensures.yes

pub returns-clause-no : goal.returns-clause-no
returns-clause-no c = system_for (λ n rows a. IfOk c.solution_at.result (λ o. IsNone o → IsSolvable n rows (a ∷ []) → ⊥)) _ _ _ _ _ _
    (ap (λ (z : ConeRows). z.variables) c.self.view_is)
    (given_rows_are c.args.self.now c.args.index c.self.inside.variables c.kept-kept.result.now c.as_slice.result.now c.in_ok-rows.rows.items
    c.in_ok-list.list.items c.as_slice.ensures.value c.in_ok-rows.ensures c.in_ok-list.ensures c.kept-kept.ensures.value
    (ap (λ (z : ConeRows). z.variables) c.self.view_is) c.requires
    (omega (arith, c.requires, c.kept-kept.ensures.front)))
    (row_read c.args.self.now c.kept-kept.result.now (units c.args.self.now.variables c.args.self.now.variables) c.args.index c.index-kept-index.result
    c.requires c.kept-kept.ensures.value (omega (arith, c.requires, c.kept-kept.ensures.front)) c.index-kept-index.is)
    c.solution_at.ensures.no

pub returns-clause-err : goal.returns-clause-err
returns-clause-err c = system_for (λ n rows a. IfErr c.solution_at.result (Failed (IsNormalStep n rows a))) _ _ _ _ _ _
    (ap (λ (z : ConeRows). z.variables) c.self.view_is)
    (given_rows_are c.args.self.now c.args.index c.self.inside.variables c.kept-kept.result.now c.as_slice.result.now c.in_ok-rows.rows.items
    c.in_ok-list.list.items c.as_slice.ensures.value c.in_ok-rows.ensures c.in_ok-list.ensures c.kept-kept.ensures.value
    (ap (λ (z : ConeRows). z.variables) c.self.view_is) c.requires
    (omega (arith, c.requires, c.kept-kept.ensures.front)))
    (row_read c.args.self.now c.kept-kept.result.now (units c.args.self.now.variables c.args.self.now.variables) c.args.index c.index-kept-index.result
    c.requires c.kept-kept.ensures.value (omega (arith, c.requires, c.kept-kept.ensures.front)) c.index-kept-index.is)
    c.solution_at.ensures.err
