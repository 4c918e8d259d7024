use Rattle.std.proofs.Common.{◌≡◌, ◌<◌, List, [], ℤ, length, get_or, arith, sym, ap, ◌∙◌, subst}
use Rattle.std.proofs.lemmas.List.{get_or_default}
use Rattle.std.proofs.lemmas.Result.{err_from_is_err_and}
use Rattle.gf_poly.specs.Marking.{MarkedPolynomials}
use Rattle.gf_lifts.specs.Crossings.{IsNeighbour}
use Rattle.gf_flip.specs.Operations.{IsFlipRefusal}
use Rattle.gf_basis_states.specs.BasisRules.{IsCrossingStep, IsStateRefusal}
use Rattle.gf_basis_states.proofs.StepLaws.{step_across, step_state, flip_here, beside}
use Rattle.gf_basis_states.proofs.moves.BasisStatesMoves.cross.Goals as goal

pub returns-in_err-across-clause-err : goal.returns-in_err-across-clause-err
returns-in_err-across-clause-err c =
    let v = c.args.here.now in
    let pairs = c.args.self.now.pairs in
    let a = c.index-normals-number.result in
    let r = c.in_err-across.field-0.0 in
    let l : c.args.number < length c.crossable-normals.result.now = omega (arith, c.if-number-count_of.false, c.count_of.ensures) in
    let flip = c.crossable-normals.ensures.only a (c.args.number, l, sym c.index-normals-number.is) in
    let p = err_from_is_err_and c.from_residual.result c.from_residual.ensures.1 in
    rw p.1 (flip_here pairs v a r p.0 flip (subst (λ (z : MarkedPolynomials). IsFlipRefusal z.variables z.items a pairs r)
    c.basis.ensures c.in_err-across.ensures.cause) p.2)

pub returns-in_err-there-clause-err : goal.returns-in_err-there-clause-err
returns-in_err-there-clause-err c =
    let v = c.args.here.now in
    let pairs = c.args.self.now.pairs in
    let a = c.index-normals-number.result in
    let w = c.in_ok-across.across in
    let l : c.args.number < length c.crossable-normals.result.now = omega (arith, c.if-number-count_of.false, c.count_of.ensures) in
    let flip = c.crossable-normals.ensures.only a (c.args.number, l, sym c.index-normals-number.is) in
    let step : IsCrossingStep v a w = step_across v w a c.requires.node flip (subst (λ (z : MarkedPolynomials). IsNeighbour z.variables z.items a w.items)
    c.basis.ensures c.in_ok-across.ensures.value)
    (c.in_ok-across.ensures.variables ∙ ap (λ (z : MarkedPolynomials). z.variables) c.basis.ensures) in
    let p = err_from_is_err_and c.from_residual-in_err-there.result c.from_residual-in_err-there.ensures.1 in
    rw p.1 (subst (IsStateRefusal pairs v) (sym p.2) (beside pairs v w a c.in_err-there.field-0.0 step (c.in_err-there.ensures.err pairs)))

pub returns-clause-ok : goal.returns-clause-ok
returns-clause-ok c =
    let v = c.args.here.now in
    let n = c.args.number in
    let ns = c.crossable-normals.result.now in
    let a = c.index-normals-number.result in
    let w = c.in_ok-across.across in
    let l : n < length ns = omega (arith, c.if-number-count_of.false, c.count_of.ensures) in
    let least : n < 18446744073709551615 = omega (arith, l, c.count_of.ensures, c.count_of.type_inv) in
    let flip = c.crossable-normals.ensures.only a (n, l, sym c.index-normals-number.is) in
    let step : IsCrossingStep v a w = step_across v w a c.requires.node flip (subst (λ (z : MarkedPolynomials). IsNeighbour z.variables z.items a w.items)
    c.basis.ensures c.in_ok-across.ensures.value)
    (c.in_ok-across.ensures.variables ∙ ap (λ (z : MarkedPolynomials). z.variables) c.basis.ensures) in
    let same = c.in_ok-there.ensures.ok in
    let there : IsCrossingStep v a c.in_ok-there.there = subst (IsCrossingStep v a) (sym same) step in
    let at : a ≡ get_or ns n [] = c.index-normals-number.is ∙ get_or_default ns n a [] l in (
      least,
      record {
        normals = ns;
        crossable = c.crossable-normals.ensures;
        inside = l;
        step = subst (λ (z : List ℤ). IsCrossingStep v z c.in_ok-there.there) at there;
      },
      subst (λ (z : List ℤ). IsCrossingStep v z c.in_ok-there.there) (sym c.in_ok-step.ensures) there,
      step_state _ v c.in_ok-there.there a c.requires there,
    )
