-- The list of all marked reduced bases holds exactly them.
-- To cite: listed_in, listed_from, bases_are_listed, weights_are_listed.
use Rattle.std.proofs.Common.{◌≡◌, ◌⊎◌, ◌↔◌, ℕ, List, length, Contains, inl, inr}
use Rattle.std.proofs.lemmas.List.Elements.{All-nil}
use Rattle.gf_gordan.specs.Alternative.{AreRows}
use Rattle.gf_poly.specs.Polynomial.{Terms}
use Rattle.gf_poly.specs.Marking.{MarkedPolynomial, polys}
use Rattle.gf_ideal_theory.specs.Membership.{AreInVariables}
use Rattle.gf_facets_theory.specs.Regions.{Region, all_positive}
use Rattle.gf_facets_theory.specs.MarkedBases.{IsMarkedReducedBasis, IsBasisInRegion}
use Rattle.gf_bases_theory.proofs.FiniteLaws.{AreOfVariables, suits_or_not, listed_in_region}
use Rattle.gf_bases_theory.proofs.LawsHold.{marked_bases_are_reduced, weights_have_bases, only_ideals_count}
use Rattle.gf_initial_theory.proofs.LawsHold.{monomial_ideals_are_of_bases}
use Rattle.gf_reverse_theory.specs.AllBases.{all_bases, bases_where}
use Rattle.gf_reverse_theory.specs.Laws.{BasesAreListed, WeightsAreListed}

pub listed_in : (n : ℕ) (k : Region) (fs : List Terms) (bs : List MarkedPolynomial) → AreInVariables n fs → AreRows n k.rows →
    Contains (all_bases n k fs) bs ↔ IsBasisInRegion n fs k bs
unfolding all_bases
listed_in n k fs bs v w = at (suits_or_not n k fs)
  where
    at : (d : AreOfVariables n k fs ⊎ (AreOfVariables n k fs → ⊥)) → Contains (bases_where n k fs d) bs ↔ IsBasisInRegion n fs k bs
    at (inl h) = let r = listed_in_region n fs k h.generators h.widths in (r.sound bs, r.complete bs)
    at (inr m) = absurd (m (record { generators = v; widths = w }))

-- the list for the polynomials of a basis
pub listed_from : (n : ℕ) (k : Region) (fs : List Terms) (cs bs : List MarkedPolynomial) → AreInVariables n fs → AreRows n k.rows →
    IsMarkedReducedBasis n fs cs → Contains (all_bases n k (polys cs)) bs ↔ IsBasisInRegion n fs k bs
listed_from n k fs cs bs v w c =
    let g = only_ideals_count.generated n fs cs v c in
    let l = listed_in n k (polys cs) bs g.0 w in (
      λ h. only_ideals_count.in_region n (polys cs) fs k bs (record { inside = g.1.back; back = g.1.inside }) (l.0 h),
      λ b. l.1 (only_ideals_count.in_region n fs (polys cs) k bs g.1 b),
    )

listed_everywhere : (n : ℕ) (fs : List Terms) (bs : List MarkedPolynomial) → AreInVariables n fs →
    Contains (all_bases n (all_positive n) fs) bs ↔ IsMarkedReducedBasis n fs bs
listed_everywhere n fs bs v =
    let l = listed_in n (all_positive n) fs bs v (All-nil (λ t. length t ≡ n)) in
    let e = marked_bases_are_reduced.everywhere n fs bs v in
    (λ c. e.0 (l.0 c), λ b. l.1 (e.1 b))

pub bases_are_listed : BasesAreListed
bases_are_listed = record { in_region = listed_in; everywhere = listed_everywhere; from_basis = listed_from }

pub weights_are_listed : WeightsAreListed
weights_are_listed = record {
  cone = λ n k fs v vars w r. let b = weights_have_bases n k fs v vars r in (b.0, (listed_in n k fs b.0 vars w).1 b.1, b.2, b.3);
  monomial_ideals = λ n k fs v vars w r. (
    λ m. let b = (monomial_ideals_are_of_bases n k fs v vars r).0 m in (b.0, (listed_in n k fs b.0 vars w).1 b.1, b.2),
    λ b. (monomial_ideals_are_of_bases n k fs v vars r).1 (b.0, (listed_in n k fs b.0 vars w).0 b.1, b.2),
  );
}
