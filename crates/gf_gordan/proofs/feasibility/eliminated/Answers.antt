use Rattle.std.proofs.Common.{◌≡◌, length, take, drop, arith, subst, ap, ◌∙◌}
use Rattle.gf_gordan.specs.Equations.{IsPointOn, IsMultipliersOn}
use Rattle.gf_gordan.specs.Findings.{IsFoundOn}
use Rattle.gf_gordan.proofs.AlternativeLaws.{solution-from_point, farkas-from_multipliers, multipliers-length}
use Rattle.gf_gordan.proofs.feasibility.eliminated.Goals as goal

pub returns-in-Point-clause-ok : goal.returns-in-Point-clause-ok
returns-in-Point-clause-ok c =
    let p : IsPointOn c.args.n c.args.rows.now c.args.equations.now c.in-Point.v =
    subst (IsFoundOn c.args.n c.args.rows.now c.args.equations.now) c.in-Point.is c.in_ok-found.ensures.ok in
    solution-from_point _ _ _ _ c.requires.rows c.requires.equations p

pub split_at-requires : goal.split_at-requires
split_at-requires c =
    let m : IsMultipliersOn c.args.n c.args.rows.now c.args.equations.now c.in-Farkas.ms =
    subst (IsFoundOn c.args.n c.args.rows.now c.args.equations.now) c.in-Farkas.is c.in_ok-found.ensures.ok in
    omega (arith, ap length c.as_slice.ensures.value, multipliers-length _ _ _ _ c.requires.rows c.requires.equations m)

pub returns-in_ok-equations-in-Farkas-clause-ok : goal.returns-in_ok-equations-in-Farkas-clause-ok
returns-in_ok-equations-in-Farkas-clause-ok c =
    let m : IsMultipliersOn c.args.n c.args.rows.now c.args.equations.now c.in-Farkas.ms =
    subst (IsFoundOn c.args.n c.args.rows.now c.args.equations.now) c.in-Farkas.is c.in_ok-found.ensures.ok in
    let first : c.in_ok-rows-in-Farkas.rows ≡ take (length c.args.rows.now) c.in-Farkas.ms =
    c.in_ok-rows-in-Farkas.ensures ∙ c.split_at.ensures.front ∙ ap (take (length c.args.rows.now)) c.as_slice.ensures.value in
    let second : c.in_ok-equations-in-Farkas.equations ≡ drop (length c.args.rows.now) c.in-Farkas.ms =
    c.in_ok-equations-in-Farkas.ensures ∙ c.split_at.ensures.back ∙ ap (drop (length c.args.rows.now)) c.as_slice.ensures.value in
    rw (first, second) (farkas-from_multipliers _ _ _ _ c.requires.rows c.requires.equations m)
