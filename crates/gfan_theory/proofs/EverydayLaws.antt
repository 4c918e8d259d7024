-- Everyday inputs meet the premises of completeness of `_bases --within` and `_bases --certificates`.
-- To cite: regions_of_binomials, certificates_of_variables. The rest are steps.
use Rattle.std.proofs.Common.{◌≡◌, ℕ, ◌≤◌, true, false, List, [], ◌∷◌, length, None, ℤ, Contains, arith, refl, sym, ap, ◌∙◌, subst}
use Rattle.std.proofs.lemmas.List.Elements.{All-nil}
use Rattle.gf_exponents_theory.specs.Orders.{gains}
use Rattle.gf_exponents_theory.specs.SixOrders.{MonomialOrder}
use Rattle.gf_poly.specs.Polynomial.{Terms}
use Rattle.gf_poly.specs.Marking.{MarkedPolynomial, MarkedPolynomials}
use Rattle.gf_ideal_theory.specs.Membership.{AreInVariables}
use Rattle.gf_buchberger.specs.declared.queue.Strategy.TheVariants as strategies
use Rattle.gf_buchberger.specs.Tasks.{HaveRingVariables}
use Rattle.gf_ideal_theory.specs.Reduction.{IsMonicForm}
use Rattle.gf_gordan.specs.Sizes.{HaveEntriesUpTo}
use Rattle.gf_duality_theory.proofs.ListLaws.{none_in}
use Rattle.gf_facets_theory.specs.Regions.{Region, IsRegion, IsInRegion, all_positive}
use Rattle.gf_facets_theory.proofs.SystemLaws.{all_positive-region}
use Rattle.gf_reverse_theory.specs.Upward.{IsNodeIn}
use Rattle.gf_tree.specs.Ideals.{ideal_by, ideal_within}
use Rattle.gf_weights.specs.Roots.{IsRegionOf}
use Rattle.gf_weights.specs.Refusals.{AreCertificatesFittingIn}
use Rattle.gf_binomials_theory.proofs.PrincipalBases.{alone_in, basis_forms, basis_short}
use Rattle.gf_binomial_calls_theory.proofs.LimitLaws.{ruled_within}
use Rattle.gf_binomial_calls_theory.proofs.SystemLimits.{small_search}
use Rattle.gfan_lists.specs.declared.bases.ListOptions.{ListOptions}
use Rattle.gf_lists_theory.specs.BasesList.{IsGivenIn}
use Rattle.gfan_lists.specs.Bases.{IsWithinLimit}
use Rattle.gfan_theory.specs.Inputs.{AreListsWithin, AreRegionListsWithin}
use Rattle.gfan_theory.proofs.InputLaws.{GoingLimits, lists_within, regions_within}
use Rattle.gf_lists_theory.proofs.BasesListLaws.{given_in_node}
use Rattle.gfan_theory.specs.Differences.{AreDifferenceRows}
use Rattle.gfan_theory.specs.Everyday.{RegionsOfBinomialsStayWithinLimits, IsDifferenceOfVariables, CertificatesOfVariablesStayWithinLimits}
use Rattle.gfan_theory.proofs.DifferenceLimits.{rows_small, regions_of_differences_fit, certificates_of_differences_fit}
use Rattle.gfan_theory.proofs.VariableLaws.{plain_of_variables, short_of_variables, in_variables, normals_differ}

pub regions_of_binomials : RegionsOfBinomialsStayWithinLimits
regions_of_binomials o n rows v f unlimited plain some small few differ inside ring g short = regions_within o n rows (f ∷ []) (record {
  region = regions_of_differences_fit n rows v some (omega (arith, small)) (omega (arith, few)) differ inside;
  root = λ k i. ruled_within strategies.Degree (MonomialOrder.weighted (gains k.root)) n f o.pairs ring g;
  going = going;
})
  where
    going : (k : Region) → IsRegionOf n rows k → GoingLimits o n k (f ∷ [])
    going k i = record {
      tree = small_search (ideal_within n (f ∷ []) k) f o.pairs refl g small
          (subst (HaveEntriesUpTo 500) (sym i.same) (rows_small n rows 500 (omega arith) differ)) short;
      few = λ list all. subst (λ l. IsWithinLimit l list) (sym unlimited) tt;
      certificates = λ c. absurd (let no : false ≡ true = sym plain ∙ c in cc);
    }

-- ---- with certificates

-- those of a basis of the ideal, in a region of few rows
certified : (n : ℕ) (k : Region) (f : Terms) (b : MarkedPolynomials) → n ≤ 3 → IsRegion n k → length k.rows ≤ 1 → AreDifferenceRows n k.rows →
    (d : IsDifferenceOfVariables n f) → IsGivenIn n k (f ∷ []) b →
    AreCertificatesFittingIn b.variables k b.items
certified n k f b small r few differ d g =
    subst (λ (m : ℕ). AreCertificatesFittingIn m k b.items) (sym g.variables)
    (certificates_of_differences_fit n k b.items (let l = d.first_inside in omega (arith, l)) (omega (arith, small)) differ (λ normals m.
    let p = normals_differ n f d b.items node.basis.arranged.canonical forms short normals m in
    (let l = p.0 in omega (arith, l, few), p.1)))
  where
    inside : AreInVariables n (f ∷ [])
    inside = alone_in n f (in_variables n f d)

    node : IsNodeIn (ideal_within n (f ∷ []) k) b
    node = given_in_node n k (f ∷ []) b inside r g

    forms : (h : MarkedPolynomial) → Contains b.items h → IsMonicForm f h
    forms = basis_forms n f b.items (in_variables n f d) node.basis.reduced.basis node.basis.reduced.tails node.basis.reduced.heads

    short : length b.items ≤ 1
    short = basis_short n f b.items (in_variables n f d) node.basis.reduced.basis node.basis.reduced.tails node.basis.reduced.heads

pub certificates_of_variables : CertificatesOfVariablesStayWithinLimits
certificates_of_variables = record { everywhere = everywhere; regions = regions }
  where
    everywhere : (o : ListOptions) (n : ℕ) (f : Terms) → o.limit ≡ None → n ≤ 3 → HaveRingVariables n (f ∷ []) → IsDifferenceOfVariables n f →
        AreListsWithin o n (f ∷ [])
    everywhere o n f unlimited small ring d = lists_within o n (f ∷ []) (record {
      root = ruled_within strategies.Degree MonomialOrder.deglex n f o.pairs ring (plain_of_variables n f d);
      going = record {
        tree = small_search (ideal_by n (f ∷ [])) f o.pairs refl (plain_of_variables n f d) small (All-nil _) (short_of_variables n f d);
        few = λ list all. subst (λ l. IsWithinLimit l list) (sym unlimited) tt;
        certificates = λ c b g. certified n (all_positive n) f b small (all_positive-region n) (omega arith) (λ row k. absurd (none_in row k)) d g;
      };
    })

    regions : (o : ListOptions) (n : ℕ) (rows : List (List ℤ)) (v : List ℤ) (f : Terms) → o.limit ≡ None → n ≤ 3 → length rows ≤ 1 → AreDifferenceRows n rows →
        IsInRegion n (record { rows = rows; root = v }) v → HaveRingVariables n (f ∷ []) → IsDifferenceOfVariables n f →
        AreRegionListsWithin o n rows (f ∷ [])
    regions o n rows v f unlimited small few differ inside ring d = regions_within o n rows (f ∷ []) (record {
      region = regions_of_differences_fit n rows v (let l = d.first_inside in omega (arith, l)) (omega (arith, small)) (omega (arith, few)) differ inside;
      root = λ k i. ruled_within strategies.Degree (MonomialOrder.weighted (gains k.root)) n f o.pairs ring (plain_of_variables n f d);
      going = λ k i. record {
        tree = small_search (ideal_within n (f ∷ []) k) f o.pairs refl (plain_of_variables n f d) small
            (subst (HaveEntriesUpTo 500) (sym i.same) (rows_small n rows 500 (omega arith) differ)) (short_of_variables n f d);
        few = λ list all. subst (λ l. IsWithinLimit l list) (sym unlimited) tt;
        certificates = λ c b g. certified n k f b small i.region (let e : length k.rows ≡ length rows = ap length i.same in omega (arith, e, few))
            (subst (AreDifferenceRows n) (sym i.same) differ) d g;
      };
    })
