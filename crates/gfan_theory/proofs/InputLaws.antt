-- What meets the premises of completeness of `_bases` and `_bases --within`.
-- To cite: GoingLimits, ListLimits, RegionLimits, GivenListLimits, GivenRegionLimits, lists_within, regions_within, given_lists_within,
-- given_regions_within. The rest are steps.
use Rattle.std.specs.Prelude.{◌≡◌, ℕ, true, false, List, [], ◌++◌, length, None, ℤ}
use Rattle.std.proofs.Common.{sym, subst}
use Rattle.gf_exponents_theory.specs.Orders.{gains}
use Rattle.gf_exponents_theory.specs.SixOrders.{MonomialOrder}
use Rattle.gf_poly.specs.Polynomial.{Terms}
use Rattle.gf_poly.specs.Marking.{MarkedPolynomials, HaveVariables, polys}
use Rattle.gf_buchberger.specs.declared.queue.Strategy.TheVariants as strategies
use Rattle.gf_buchberger.specs.Ruled.{AreRuledRunsWithinLimits}
use Rattle.gf_facets_theory.specs.Regions.{Region, all_positive}
use Rattle.gf_tree.specs.Ideals.{ideal_by, ideal_within}
use Rattle.gf_tree.specs.Refusals.{IsTreeRefusal, IsTreeWithinLimits}
use Rattle.gf_tree.proofs.RefusalLaws.{within_memory}
use Rattle.gf_weights.specs.Roots.{IsRegionOf, IsRegionWithinLimits}
use Rattle.gfan_common.specs.Forms.{generators_of}
use Rattle.gfan_lists.specs.declared.bases.ListOptions.{ListOptions}
use Rattle.gfan_lists.specs.Ways.{ways_by}
use Rattle.gf_lists_theory.specs.BasesList.{AreAllBasesIn}
use Rattle.gfan_lists.specs.Bases.{IsWithinLimit, AreCertifiedWithinIn}
use Rattle.gfan_lists.specs.GivenBasis.{IsReducedFrom}
use Rattle.gfan_lists.specs.ListCommand.{IsReducedWithin, IsWithinIn, IsListWithin}
use Rattle.gfan_lists.proofs.GivenBasisLaws.{way_in_tree}
use Rattle.gfan_theory.specs.Inputs.{AreListsWithin, AreRegionListsWithin, AreGivenListsWithin, AreGivenRegionListsWithin}

-- of the list in a region, from its first basis on
pub record GoingLimits (o : ListOptions) (n : ℕ) (k : Region) (fs : List Terms) : Type 0 where
  pub tree : IsTreeWithinLimits (ideal_within n fs k) o.pairs
  pub few : (list : List MarkedPolynomials) → AreAllBasesIn n k fs list → IsWithinLimit o.limit list
  pub certificates : AreCertifiedWithinIn o n k fs

-- with the run to the first basis, for all positive weights
pub record ListLimits (o : ListOptions) (n : ℕ) (fs : List Terms) : Type 0 where
  pub root : AreRuledRunsWithinLimits strategies.Degree MonomialOrder.deglex fs o.pairs
  pub going : GoingLimits o n (all_positive n) fs

-- and in the region of these vectors, with the region itself
pub record RegionLimits (o : ListOptions) (n : ℕ) (rows : List (List ℤ)) (fs : List Terms) : Type 0 where
  pub region : IsRegionWithinLimits n rows
  pub root : (k : Region) → IsRegionOf n rows k → AreRuledRunsWithinLimits strategies.Degree (MonomialOrder.weighted (gains k.root)) fs o.pairs
  pub going : (k : Region) → IsRegionOf n rows k → GoingLimits o n k fs

none_first : (o : ListOptions) (n : ℕ) (k : Region) (fs : List Terms) → GoingLimits o n k fs → (front list : List MarkedPolynomials) → front ≡ [] →
    AreAllBasesIn n k fs (front ++ list) → IsWithinLimit o.limit list
none_first o n k fs g front list f all = g.few list (subst (λ (x : List MarkedPolynomials). AreAllBasesIn n k fs (x ++ list)) f all)

pub lists_within : (o : ListOptions) (n : ℕ) (fs : List Terms) → ListLimits o n fs → AreListsWithin o n fs
lists_within o n fs l ring ws q e =
    at (subst (λ (m : ℕ). ListLimits o m (generators_of ws)) (sym q) (subst (λ (gs : List Terms). ListLimits o n gs) (sym e) l))
  where
    at : ListLimits o (length ring) (generators_of ws) → IsListWithin (ways_by false false false) o ([], (tt, (ring, (ws, None))))
    at m = record {
      region = λ c. absurd (let no : false ≡ true = c in cc);
      names = tt;
      list = λ k i. subst (λ (z : Region). IsWithinIn (ways_by false false false) o z ([], (tt, (ring, (ws, None))))) (sym i) (record {
        start = m.root;
        tree = m.going.tree;
        few = none_first o (length ring) (all_positive (length ring)) (generators_of ws) m.going;
        certificates = m.going.certificates;
      });
    }

pub regions_within : (o : ListOptions) (n : ℕ) (rows : List (List ℤ)) (fs : List Terms) → RegionLimits o n rows fs → AreRegionListsWithin o n rows fs
regions_within o n rows fs l ring ws q e =
    at (subst (λ (m : ℕ). RegionLimits o m rows (generators_of ws)) (sym q) (subst (λ (gs : List Terms). RegionLimits o n rows gs) (sym e) l))
  where
    at : RegionLimits o (length ring) rows (generators_of ws) → IsListWithin (ways_by false true false) o (rows, (tt, (ring, (ws, None))))
    at m = record {
      region = λ c. m.region;
      names = tt;
      list = λ k i. record {
        start = m.root k i;
        tree = (m.going k i).tree;
        few = none_first o (length ring) k (generators_of ws) (m.going k i);
        certificates = (m.going k i).certificates;
      };
    }

-- ---- from a marked Gröbner basis

-- with the checks of the set, for all positive weights
pub record GivenListLimits (o : ListOptions) (n : ℕ) (s : MarkedPolynomials) : Type 0 where
  pub variables : HaveVariables s.variables s.items
  pub same : s.variables ≡ n
  pub reduced : IsReducedWithin s
  pub going : GoingLimits o n (all_positive n) (polys s.items)

-- and in the region of these vectors
pub record GivenRegionLimits (o : ListOptions) (n : ℕ) (rows : List (List ℤ)) (s : MarkedPolynomials) : Type 0 where
  pub region : IsRegionWithinLimits n rows
  pub reduced : IsReducedWithin s
  pub root : (k : Region) (u : MarkedPolynomials) → IsRegionOf n rows k → IsReducedFrom s u →
      AreRuledRunsWithinLimits strategies.Degree (MonomialOrder.weighted (gains k.root)) (polys u.items) o.pairs
  pub going : (k : Region) → IsRegionOf n rows k → GoingLimits o n k (polys s.items)

pub given_lists_within : (o : ListOptions) (n : ℕ) (s : MarkedPolynomials) → GivenListLimits o n s → AreGivenListsWithin o n s
given_lists_within o n s l ring q = at (subst (λ (m : ℕ). GivenListLimits o m s) (sym q) l)
  where
    at : GivenListLimits o (length ring) s → IsListWithin (ways_by true false false) o ([], (tt, (ring, s)))
    at m = record {
      region = λ c. absurd (let no : false ≡ true = c in cc);
      names = tt;
      list = λ k i. subst (λ (z : Region). IsWithinIn (ways_by true false false) o z ([], (tt, (ring, s)))) (sym i) (record {
        start = (
          m.reduced,
          λ u e f w. within_memory (ideal_by (length ring) (polys s.items)) o.pairs e m.going.tree
              (subst (λ (x : ℕ). IsTreeRefusal (ideal_by x (polys s.items)) o.pairs e) m.same (way_in_tree s u o.pairs e m.variables f w)),
        );
        tree = m.going.tree;
        few = none_first o (length ring) (all_positive (length ring)) (polys s.items) m.going;
        certificates = m.going.certificates;
      });
    }

pub given_regions_within : (o : ListOptions) (n : ℕ) (rows : List (List ℤ)) (s : MarkedPolynomials) → GivenRegionLimits o n rows s →
    AreGivenRegionListsWithin o n rows s
given_regions_within o n rows s l ring q = at (subst (λ (m : ℕ). GivenRegionLimits o m rows s) (sym q) l)
  where
    at : GivenRegionLimits o (length ring) rows s → IsListWithin (ways_by true true false) o (rows, (tt, (ring, s)))
    at m = record {
      region = λ c. m.region;
      names = tt;
      list = λ k i. record {
        start = (m.reduced, λ u f. m.root k u i f);
        tree = (m.going k i).tree;
        few = none_first o (length ring) k (polys s.items) (m.going k i);
        certificates = (m.going k i).certificates;
      };
    }
