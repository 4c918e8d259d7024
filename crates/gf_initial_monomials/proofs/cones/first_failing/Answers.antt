use Rattle.std.proofs.Common.{◌≡◌, ◌∙◌, Vec, Global, length, sym, subst, refl, arith, vec_len}
use Rattle.std.proofs.lemmas.Grind.{common_steps}
use Rattle.std.proofs.lemmas.Bool.{eqb-true}
use Rattle.std.proofs.lemmas.Result.{err_from_is_err_and, IfOk-weaker, IfErr-weaker}
use Rattle.gf_gordan.specs.Alternative.{AreRows}
use Rattle.gf_rays.specs.Cones.{rows_of}
use Rattle.gf_initial_monomials.specs.Cuts.{IsPartAs}
use Rattle.gf_initial_monomials.proofs.FaceLaws.{rays_refused}
use Rattle.gf_initial_monomials.proofs.CutLaws.{whole_cut}
use Rattle.gf_initial_monomials.proofs.PassingLaws.{known_in_part, passed_by_part}
use Rattle.gf_initial_monomials.proofs.cones.first_failing.Goals as goal

vec_len_is : {X : Type 0} (v : Vec X Global) → vec_len v ≡ length v.items
vec_len_is v = grind (arith, common_steps)

pub cutting-requires : goal.cutting-requires
cutting-requires c = subst (λ m. AreRows m c.args.normals.now) (sym c.requires.ambient) c.requires.normals

-- ---- the cone itself, where no row may cut anything off

pub at_part-requires-clause-known : goal.at_part-requires-clause-known
at_part-requires-clause-known c =
    let n = c.args.basis.now.variables in
    let d = c.args.cone.now in
    let z : length c.in_ok-more.more.items ≡ 0 =
    sym (vec_len_is c.in_ok-more.more) ∙ eqb-true (vec_len c.in_ok-more.more) 0 (sym c.is_empty.ensures ∙ c.if-is_empty.true) in
    known_in_part n c.args.basis.now.items (rows_of d) c.args.normals.now d c.args.passed.now
    (whole_cut n c.args.normals.now c.in_ok-more.more.items d c.requires.ambient z c.in_ok-more.ensures) c.requires.known

pub returns-then-is_empty-clause-ok : goal.returns-then-is_empty-clause-ok
returns-then-is_empty-clause-ok c =
    let n = c.args.basis.now.variables in
    let d = c.args.cone.now in
    let z : length c.in_ok-more.more.items ≡ 0 =
    sym (vec_len_is c.in_ok-more.more) ∙ eqb-true (vec_len c.in_ok-more.more) 0 (sym c.is_empty.ensures ∙ c.if-is_empty.true) in
    IfOk-weaker c.at_part.result _ _ (λ v f. f (rows_of d) c.args.normals.now
    (whole_cut n c.args.normals.now c.in_ok-more.more.items d c.requires.ambient z c.in_ok-more.ensures)) c.at_part.ensures.ok

pub returns-then-is_empty-clause-err : goal.returns-then-is_empty-clause-err
returns-then-is_empty-clause-err c =
    let n = c.args.basis.now.variables in
    let d = c.args.cone.now in
    let z : length c.in_ok-more.more.items ≡ 0 =
    sym (vec_len_is c.in_ok-more.more) ∙ eqb-true (vec_len c.in_ok-more.more) 0 (sym c.is_empty.ensures ∙ c.if-is_empty.true) in
    IfErr-weaker c.at_part.result _ _ (λ e f. f (rows_of d) c.args.normals.now
    (whole_cut n c.args.normals.now c.in_ok-more.more.items d c.requires.ambient z c.in_ok-more.ensures)) c.at_part.ensures.err

pub returns-then-is_empty-clause-passed : goal.returns-then-is_empty-clause-passed
returns-then-is_empty-clause-passed c =
    let n = c.args.basis.now.variables in
    let d = c.args.cone.now in
    let z : length c.in_ok-more.more.items ≡ 0 =
    sym (vec_len_is c.in_ok-more.more) ∙ eqb-true (vec_len c.in_ok-more.more) 0 (sym c.is_empty.ensures ∙ c.if-is_empty.true) in
    IfOk-weaker c.at_part.result _ _ (λ v p. passed_by_part n c.args.basis.now.items (rows_of d) c.args.normals.now d c.args.passed.now c.at_part.new.passed
    (whole_cut n c.args.normals.now c.in_ok-more.more.items d c.requires.ambient z c.in_ok-more.ensures) p) c.at_part.ensures.passed

-- ---- else what the rows leave of it

pub cut_by-requires-clause-rows : goal.cut_by-requires-clause-rows
cut_by-requires-clause-rows c = subst (λ m. AreRows m c.args.normals.now) (sym c.requires.ambient) c.requires.normals

pub returns-in_err-cut-clause-err : goal.returns-in_err-cut-clause-err
returns-in_err-cut-clause-err c =
    let p = err_from_is_err_and c.from_residual-in_err-cut.result c.from_residual-in_err-cut.ensures.1 in
    rw (p.1, p.2) (rays_refused c.args.basis.now.variables c.args.cone.now.ambient c.args.basis.now.items c.args.normals.now (rows_of c.args.cone.now)
    c.args.pairs _ _ c.requires.ambient c.in_err-cut.ensures.err refl)

pub at_part-requires-2-clause-known : goal.at_part-requires-2-clause-known
at_part-requires-2-clause-known c =
    let n = c.args.basis.now.variables in
    let a = rows_of c.args.cone.now in
    let d = c.in_ok-cut.cut in
    let k : IsPartAs a n c.args.normals.now d = subst (λ m. IsPartAs a m c.args.normals.now d) c.requires.ambient c.in_ok-cut.ensures.ok in
    known_in_part n c.args.basis.now.items a c.args.normals.now d c.args.passed.now k c.requires.known

pub returns-clause-ok : goal.returns-clause-ok
returns-clause-ok c =
    let n = c.args.basis.now.variables in
    let a = rows_of c.args.cone.now in
    let d = c.in_ok-cut.cut in
    let k : IsPartAs a n c.args.normals.now d = subst (λ m. IsPartAs a m c.args.normals.now d) c.requires.ambient c.in_ok-cut.ensures.ok in
    IfOk-weaker c.at_part-2.result _ _ (λ v f. f a c.args.normals.now k) c.at_part-2.ensures.ok

pub returns-clause-err : goal.returns-clause-err
returns-clause-err c =
    let n = c.args.basis.now.variables in
    let a = rows_of c.args.cone.now in
    let d = c.in_ok-cut.cut in
    let k : IsPartAs a n c.args.normals.now d = subst (λ m. IsPartAs a m c.args.normals.now d) c.requires.ambient c.in_ok-cut.ensures.ok in
    IfErr-weaker c.at_part-2.result _ _ (λ e f. f a c.args.normals.now k) c.at_part-2.ensures.err

pub returns-clause-passed : goal.returns-clause-passed
returns-clause-passed c =
    let n = c.args.basis.now.variables in
    let a = rows_of c.args.cone.now in
    let d = c.in_ok-cut.cut in
    let k : IsPartAs a n c.args.normals.now d = subst (λ m. IsPartAs a m c.args.normals.now d) c.requires.ambient c.in_ok-cut.ensures.ok in
    IfOk-weaker c.at_part-2.result _ _ (λ v p. passed_by_part n c.args.basis.now.items a c.args.normals.now d c.args.passed.now c.at_part-2.new.passed k p)
    c.at_part-2.ensures.passed
