-- The theorems of specs/Laws.antt.
use Rattle.std.specs.Prelude.{◌↔◌, ℕ, suc, List}
use Rattle.gf_exponents_theory.specs.Exponents.{Exponents, IsInRing}
use Rattle.gf_exponents_theory.specs.Orders.{IsWeightedBelow}
use Rattle.gf_poly.specs.Polynomial.{Terms}
use Rattle.gf_poly.specs.Marking.{MarkedPolynomial}
use Rattle.gf_ideal_theory.specs.Membership.{AreInVariables, IsMember}
use Rattle.gf_ideal_theory.specs.Bases.{IsBasis, IsReducedBasisFor}
use Rattle.gf_saturation_theory.specs.Saturations.{IsSaturatedBy, AreExtended, last_weight, AreLeftOver}
use Rattle.gf_saturation_theory.specs.Laws.{SaturationsAreEliminations, SaturationsCompose, VariablesOneByOne, BasesEliminate, SaturationsAreWorkedOut}
use Rattle.gf_saturation_theory.specs.Laws.{MonomialsAreTold}
use Rattle.gf_saturation_theory.proofs.SaturationLaws.{extended_variables, variables_of_saturated, extended_of_saturated, saturated_of_extended}
use Rattle.gf_saturation_theory.proofs.SaturationLaws.{saturated_twice, saturated_same, saturated_product}
use Rattle.gf_saturation_theory.proofs.OneByOneLaws.{saturated_none, saturated_next, saturated_all}
use Rattle.gf_saturation_theory.proofs.EliminationLaws.{free_by_head, bound_by_head, left_over_variables, member_of_left_over, left_over_of_member}
use Rattle.gf_saturation_theory.proofs.EliminationLaws.{deglex_basis, member_of_basis, basis_of_member}
use Rattle.gf_saturation_theory.proofs.OneTermLaws.{saturated_one, one_term_of_saturated, one_by_mark, mark_of_one}

pub saturations_are_eliminations : SaturationsAreEliminations
saturations_are_eliminations = record {
  variables = variables_of_saturated;
  extended = extended_variables;
  to = extended_of_saturated;
  from = saturated_of_extended;
}

pub bases_eliminate : BasesEliminate
bases_eliminate = record {
  free = free_by_head;
  bound = bound_by_head;
  generated = λ n gs hs bs f v r l. (λ m. member_of_left_over n gs hs bs f v r l m, λ p. left_over_of_member n gs hs bs f v r l p.0 p.1);
}

pub saturations_compose : SaturationsCompose
saturations_compose = record { twice = saturated_twice; same = saturated_same; product = saturated_product }

pub variables_one_by_one : VariablesOneByOne
variables_one_by_one = record {
  none = saturated_none;
  next = saturated_next;
  all = λ n fs f. let p = saturated_product n fs f in (p.1, p.0);
  one = saturated_all;
}

generated : (n : ℕ) (u : Exponents) (fs gs hs : List Terms) (bs : List MarkedPolynomial) (f : Terms) → IsInRing n u → AreInVariables n fs →
    AreExtended n u fs gs → IsReducedBasisFor (suc n) gs (IsWeightedBelow (last_weight n)) bs → AreLeftOver n bs hs →
    IsMember n hs f ↔ IsSaturatedBy n fs u f
generated n u fs gs hs bs f i v x r l =
    let w = extended_variables n u fs gs i v x in (
      λ m. let p = member_of_left_over n gs hs bs f w r l m in saturated_of_extended n u fs gs f i v x p.0 p.1,
      λ s. left_over_of_member n gs hs bs f w r l (variables_of_saturated n fs u f v s) (extended_of_saturated n u fs gs f i v x s),
    )

pub saturations_are_worked_out : SaturationsAreWorkedOut
saturations_are_worked_out = record {
  left_over = generated;
  basis = λ n u fs gs hs bs cs f i v x r l d.
      let h = left_over_variables n bs hs l in
      let c : IsBasis n hs cs = deglex_basis n hs cs d in
      let g = generated n u fs gs hs bs f i v x r l in
      (λ m. g.0 (member_of_basis n hs cs f h c m), λ s. basis_of_member n hs cs f h c (g.1 s));
}

pub monomials_are_told : MonomialsAreTold
monomials_are_told = record {
  one = λ n fs v. (saturated_one n fs v, one_term_of_saturated n fs);
  told = λ n hs cs v r. (mark_of_one n hs cs r, one_by_mark n hs cs r);
}
