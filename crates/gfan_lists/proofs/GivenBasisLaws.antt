-- `_bases -g`: a marked Gröbner basis is reduced, and taken up to the root.
-- To cite: reducible, reduced_from, reduced_own, root_starts_at, way_of_set, way_in_tree. The rest are steps.
use Rattle.std.specs.Prelude.{ℕ, List, [], ◌∷◌, map, Contains}
use Rattle.std.proofs.Common.{refl, sym, ap, ◌∙◌, subst}
use Rattle.std.proofs.lemmas.List.Sorted.{Contains-permutation, IsPermutation-sym}
use Rattle.gf_frac.specs.Fraction.{◌*ℚ◌}
use Rattle.gf_frac.proofs.FractionLaws.{one-*ℚ}
use Rattle.gf_exponents_theory.specs.Orders.{lighter}
use Rattle.gf_exponents_theory.proofs.ExponentsLaws.{same-refl}
use Rattle.gf_int_theory.proofs.ListLaws.{Contains-here}
use Rattle.gf_poly.specs.Polynomial.{coefficient}
use Rattle.gf_poly.specs.Marking.{MarkedPolynomial, MarkedPolynomials, HaveVariables, polys, IsArranged}
use Rattle.gf_ideal_theory.specs.Membership.{AreInVariables}
use Rattle.gf_ideal_theory.specs.Marks.{AreMarked, IsRealisedBy, IsRealisable}
use Rattle.gf_ideal_theory.specs.Reduction.{AreMonicForms}
use Rattle.gf_ideal_theory.specs.Bases.{IsBasis, IsReducedBasis, AreArranged}
use Rattle.gf_ideal_theory.proofs.ListLaws.{Contains-there}
use Rattle.gf_ideal_theory.proofs.MarkWeights.{mark-there}
use Rattle.gf_ideal_theory.proofs.BasisLaws.{basis_along}
use Rattle.gf_division.specs.Autoreduction.{IsAutoreduced, IsReducedOf}
use Rattle.gf_reduced.specs.Forms.{monic_of, monic_set}
use Rattle.gf_reduced.specs.Markings.{IsBasisOf}
use Rattle.gf_reduced.proofs.FormLaws.{forms_marked_by}
use Rattle.gf_reduced.proofs.GroebnerLaws.{polys_variables}
use Rattle.gf_facets_theory.specs.Regions.{all_positive}
use Rattle.gf_facets_theory.proofs.SystemLaws.{all_positive-region}
use Rattle.gf_bases_theory.proofs.FiniteLaws.{basis_everywhere}
use Rattle.gf_bases_theory.proofs.LawsHold.{of_reduced}
use Rattle.gf_reverse_theory.specs.Upward.{IsNode, IsNodeIn, fan_of}
use Rattle.gf_reverse_theory.proofs.TreeLaws.{own_fan, back_fan}
use Rattle.gf_reverse_theory.proofs.ListLaws.{own}
use Rattle.gf_tree.specs.TreeError.{TreeError}
use Rattle.gf_tree.specs.Ideals.{ideal_by}
use Rattle.gf_tree.specs.Parents.{ideal_of, IsRootFor}
use Rattle.gf_tree.specs.Refusals.{IsTreeRefusal, IsWayRefused}
use Rattle.gf_tree.proofs.RefusalLaws.{refusal_moved, way_refused}
use Rattle.gf_lists_theory.specs.Starts.{StartsAt}
use Rattle.gfan_lists.specs.GivenBasis.{IsReducedFrom}
use Rattle.gf_lists_theory.proofs.BasesListLaws.{given_node, node_given, start_of_root}

-- ---- the basis reduced

-- monic members are their own monic forms
monic_themselves : (w : List ℕ) (bs : List MarkedPolynomial) → AreMarked (lighter w) bs → AreMonicForms bs bs
monic_themselves w [] m = tt
monic_themselves w (b ∷ bs) m = (
  record {
    there = mark-there (lighter w) b (m b (Contains-here b bs));
    equation = λ x. ap (λ z. z *ℚ coefficient b.poly x) (m b (Contains-here b bs)).monic ∙ one-*ℚ (coefficient b.poly x);
  },
  same-refl b.head,
  monic_themselves w bs (λ c k. m c (Contains-there b c bs k)),
)

-- a marked basis s, and t, its members made monic and arranged
module _ (s t : MarkedPolynomials) (v : HaveVariables s.variables s.items) (a : IsArranged (monic_set s) t) (h : IsBasisOf s t) where
  marked : AreMarked (lighter h.marked.weight) t.items
  marked c k = forms_marked_by h.marked.weight s.items h.marked.marks c (Contains-permutation t.items (map monic_of s.items) c
      (IsPermutation-sym (map monic_of s.items) t.items a.members) k)

  realised : (b : MarkedPolynomial) → Contains t.items b → IsRealisedBy h.marked.weight b
  realised b k = record { there = mark-there (lighter h.marked.weight) b (marked b k); tail = (marked b k).tail }

  pub reducible : IsRealisable t.variables t.items
  reducible = subst (λ n. IsRealisable n t.items) (sym a.variables) (h.marked.weight, h.marked.positive, realised)

  inside : AreInVariables s.variables (polys s.items)
  inside = polys_variables s.variables s.items v

  moved : IsBasis s.variables (polys s.items) t.items
  moved = basis_along s.variables (polys t.items) (polys s.items) t.items (record { inside = h.ideal.back; back = h.ideal.inside })
      (subst (λ n. IsBasis n (polys t.items) t.items) a.variables h.basis)

  module _ (u : MarkedPolynomials) (r : IsAutoreduced t u) (arranged : AreArranged t.variables u.items)
      (reduced : IsReducedOf t.variables t.items u.items) where
    by_weight : IsReducedBasis s.variables (polys s.items) h.marked.weight u.items
    by_weight = (subst (λ n. IsReducedOf n t.items u.items) a.variables reduced).at (polys s.items) h.marked.weight inside
        (record { forms = t.items; monic = monic_themselves h.marked.weight t.items marked; basis = moved }) h.marked.positive realised

    reduced_is_node : IsNodeIn (ideal_by s.variables (polys s.items)) u
    reduced_is_node = record {
      fan = record { ideal = inside; region = all_positive-region s.variables };
      variables = r.arranged.variables ∙ a.variables;
      basis = basis_everywhere s.variables (polys s.items) u.items (of_reduced s.variables (polys s.items) h.marked.weight u.items by_weight
          (subst (λ n. AreArranged n u.items) a.variables arranged));
    }

    pub reduced_from : IsReducedFrom s u
    reduced_from = record {
      given = node_given s.variables (polys s.items) u reduced_is_node;
      weight = h.marked.weight;
      reduced = by_weight;
      marks = h.marked.marks;
    }

    -- it is a basis of the ideal that it generates
    pub reduced_own : IsNodeIn (ideal_of u) u
    reduced_own = subst (λ n. IsNode (all_positive n) u) (sym reduced_is_node.variables) (own (all_positive s.variables) (ideal_by s.variables (polys s.items))
        u refl reduced_is_node)

-- ---- the root

-- the root above the reduced basis is the first basis of the list, and why the way up is refused, in the variables of the set
module _ (s u : MarkedPolynomials) (v : HaveVariables s.variables s.items) (f : IsReducedFrom s u) where
  from_node : IsNodeIn (ideal_by s.variables (polys s.items)) u
  from_node = given_node s.variables (polys s.items) u (polys_variables s.variables s.items v) f.given

  pub root_starts_at : (root : MarkedPolynomials) → IsRootFor (all_positive u.variables) u root → StartsAt s.variables (polys s.items) root
  root_starts_at root q = start_of_root s.variables (polys s.items) u root from_node q

  pub way_of_set : (pairs : ℕ) (e : TreeError) → IsWayRefused (all_positive u.variables) pairs u e → IsWayRefused (all_positive s.variables) pairs u e
  way_of_set pairs e q = subst (λ n. IsWayRefused (all_positive n) pairs u e) from_node.variables q

-- a refusal on the way up is one of a search over the bases of the ideal
pub way_in_tree : (s u : MarkedPolynomials) (pairs : ℕ) (e : TreeError) → HaveVariables s.variables s.items → IsReducedFrom s u →
    IsWayRefused (all_positive s.variables) pairs u e → IsTreeRefusal (ideal_by s.variables (polys s.items)) pairs e
way_in_tree s u pairs e v f q =
    let k = all_positive s.variables in
    let F = ideal_by s.variables (polys s.items) in
    let node : IsNodeIn F u = given_node s.variables (polys s.items) u (polys_variables s.variables s.items v) f.given in
    refusal_moved (fan_of k u) F pairs e (back_fan F (fan_of k u) (own_fan F u node)) (way_refused k pairs u e (own k F u refl node) q)
