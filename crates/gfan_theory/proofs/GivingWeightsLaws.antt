-- The weights that `_weightvector` writes give the bases that it read.
-- To cite: written_weights_give_bases. The rest are steps.
use Rattle.std.specs.Prelude.{◌≡◌, ℕ, true, false, List, [], ◌∷◌, length, ℤ}
use Rattle.std.specs.List.{AllZip}
use Rattle.std.proofs.Common.{refl, subst}
use Rattle.gf_poly.specs.Marking.{MarkedPolynomials, Each, HaveVariables, polys}
use Rattle.gf_ideal_theory.specs.Membership.{AreSameIdeal}
use Rattle.gf_facets_theory.specs.MarkedBases.{IsMarkedReducedBasis}
use Rattle.gf_bases_theory.proofs.LawsHold.{only_ideals_count}
use Rattle.gf_reduced.proofs.GroebnerLaws.{polys_variables}
use Rattle.gf_weights.specs.Weights.{IsPrintedWeight}
use Rattle.gf_weights.proofs.WeightLaws.{weight_basis}
use Rattle.gfan_sets.specs.WeightVector.{IsWeightOfSet, GivesBasis}
use Rattle.gfan_theory.specs.GivingWeights.{WrittenWeightsGiveBases}
use Rattle.gfan_common.proofs.ReadSetLaws.{IsSetKept, set_variables}
use Rattle.gfan_sets.proofs.WeightVectorLaws.{one_read}
use Rattle.gfan_common.proofs.ReducedListLaws.{list_read}

gives_basis : (s : MarkedPolynomials) (v : List ℤ) → HaveVariables s.variables s.items → IsWeightOfSet s v → GivesBasis s v
gives_basis s v h w =
    let t = w.basis in
    let same : t.variables ≡ s.variables = w.read.arranged.variables in
    let ideal = w.read.basis.basis.ideal in
    let back : AreSameIdeal s.variables (polys t.items) (polys s.items) = record { inside = ideal.back; back = ideal.inside } in
    let reduced : IsMarkedReducedBasis s.variables (polys t.items) t.items =
    subst (λ (n : ℕ). IsMarkedReducedBasis n (polys t.items) t.items) same w.read.basis.reduced in
    let given = weight_basis s.variables (polys s.items) t.items v (polys_variables s.variables s.items h)
    (only_ideals_count.same s.variables (polys t.items) (polys s.items) t.items back reduced)
    (subst (λ (n : ℕ). IsPrintedWeight n t.items v) same w.weight) in
    record { basis = t; arranged = w.read.arranged; width = given.0; positive = given.1; reduced = given.2 }

give_bases : (n : ℕ) (sets : List MarkedPolynomials) (weights : List (List ℤ)) → Each (IsSetKept n) sets → AllZip IsWeightOfSet sets weights →
    AllZip GivesBasis sets weights
give_bases n [] [] k a = tt
give_bases n [] (v ∷ weights) k a = absurd a
give_bases n (s ∷ sets) [] k a = absurd a
give_bases n (s ∷ sets) (v ∷ weights) k a = (gives_basis s v (set_variables n s k.0) a.0, give_bases n sets weights k.1 a.1)

pub written_weights_give_bases : WrittenWeightsGiveBases
written_weights_give_bases false echoed source text a =
    let h = a.answer.is_answer in
    let v = a.value in
    record {
      ring = v.0;
      sets = v.1 ∷ [];
      weights = h.weights;
      read = (v.1, refl, a.read);
      is_text = h.is_text;
      give = give_bases (length v.0) (v.1 ∷ []) h.weights (one_read source v a.read) h.are_weights;
    }
written_weights_give_bases true echoed source text a =
    let h = a.answer.is_answer in
    let v = a.value in
    record {
      ring = v.0;
      sets = v.1;
      weights = h.weights;
      read = a.read;
      is_text = h.is_text;
      give = give_bases (length v.0) v.1 h.weights (list_read source v a.read) h.are_weights;
    }
