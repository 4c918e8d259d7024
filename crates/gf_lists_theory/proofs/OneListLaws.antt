-- An ideal has one list of all bases, in each region.
-- To cite: list_exists, one_list_in, one_list, behind_once. The rest are steps.
use Rattle.std.proofs.Common.{◌≡◌, ℕ, List, [], ◌∷◌, ◌++◌, refl, sym, subst, inl}
use Rattle.gf_poly.specs.Polynomial.{Terms}
use Rattle.gf_poly.specs.Marking.{MarkedPolynomial, MarkedPolynomials}
use Rattle.gf_exponents_theory.specs.Orders.{IsDeglexBelow}
use Rattle.gf_ideal_theory.specs.Membership.{AreInVariables}
use Rattle.gf_ideal_theory.specs.MonomialOrders.{MonomialOrder}
use Rattle.gf_ideal_theory.specs.Bases.{IsReducedBasisFor}
use Rattle.gf_bases_theory.proofs.ExistenceLaws.{homogeneous_in_ring}
use Rattle.gf_bases_theory.proofs.LawsHold.{reduced_bases_exist}
use Rattle.gf_reverse_search.specs.Listing.{Among}
use Rattle.gf_reverse_search.specs.Whole.{IsFinite, EachOnce}
use Rattle.gf_facets_theory.specs.Regions.{Region, IsRegion, all_positive}
use Rattle.gf_facets_theory.proofs.SystemLaws.{all_positive-region}
use Rattle.gf_facets_theory.specs.LexPositive.{IsBefore}
use Rattle.gf_facets_theory.specs.MarkedBases.{IsMarkedReducedBasis}
use Rattle.gf_reverse_theory.specs.Upward.{IsParent}
use Rattle.gf_reverse_theory.specs.Lists.{IsListFor}
use Rattle.gf_reverse_theory.proofs.TreeLaws.{count, upward_finite}
use Rattle.gf_reverse_theory.proofs.LawsHold.{ideals_have_one_list}
use Rattle.gf_tree.specs.Ideals.{ideal_within}
use Rattle.gf_lists_theory.specs.BasesList.{AreAllBasesIn, AreAllBases}
use Rattle.gf_lists_theory.proofs.BasesListLaws.{among_right, given_in_node, node_given_in, first_node, first_own, all_bases_from}

-- as a list of the nodes of its tree
nodes_listed : (n : ℕ) (k : Region) (fs : List Terms) (list : List MarkedPolynomials) → AreInVariables n fs → IsRegion n k → AreAllBasesIn n k fs list →
    IsListFor (ideal_within n fs k) list
nodes_listed n k fs list v r a = record {
  only = λ x j. given_in_node n k fs x v r (a.only x j);
  all = λ x h. a.all x (node_given_in n k fs x h);
  once = a.once;
  root = a.root;
  is_root = a.is_root;
  paths = a.paths;
  lead = a.lead;
  rises = a.rises;
}

pub one_list_in : (n : ℕ) (k : Region) (fs : List Terms) (a b : List MarkedPolynomials) → AreInVariables n fs → IsRegion n k → AreAllBasesIn n k fs a →
    AreAllBasesIn n k fs b → a ≡ b
one_list_in n k fs a b v r all other = ideals_have_one_list.one (ideal_within n fs k) a b (nodes_listed n k fs a v r all) (nodes_listed n k fs b v r other)

pub one_list : (n : ℕ) (fs : List Terms) (a b : List MarkedPolynomials) → AreInVariables n fs → AreAllBases n fs a → AreAllBases n fs b → a ≡ b
one_list n fs a b v all other = one_list_in n (all_positive n) fs a b v (all_positive-region n) all other

-- ---- there is one

pub list_exists : (n : ℕ) (fs : List Terms) → AreInVariables n fs → (list : List MarkedPolynomials) × AreAllBases n fs list
list_exists n fs v = (finite.nodes, all_bases_from n fs root finite.nodes v refl reduced.2 reduced.1.arranged finite.leaves)
  where
    reduced : (bs : List MarkedPolynomial) × IsMarkedReducedBasis n fs bs × IsReducedBasisFor n fs IsDeglexBelow bs
    reduced = reduced_bases_exist.for_order MonomialOrder.deglex n [] fs tt v (homogeneous_in_ring n fs v)

    root : MarkedPolynomials
    root = record { variables = n; items = reduced.0 }

    finite : IsFinite IsBefore (IsParent (all_positive n)) root (count (all_positive n) root)
    finite = upward_finite (all_positive n) root (first_own n fs root (first_node n fs root v refl reduced.2 reduced.1.arranged))

-- what comes behind a basis that comes once
pub behind_once : (xs ys us vs : List MarkedPolynomials) (b : MarkedPolynomials) → EachOnce (xs ++ b ∷ us) → xs ++ b ∷ us ≡ ys ++ b ∷ vs → us ≡ vs
behind_once [] [] us vs b o e = cc
behind_once [] (y ∷ ys) us vs b o e =
    let q : us ≡ ys ++ b ∷ vs = cc in
    absurd (o.0 (subst (λ l. Among l b) (sym q) (among_right ys (b ∷ vs) b (inl refl))))
behind_once (x ∷ xs) [] us vs b o e =
    let p : x ≡ b = cc in
    absurd (o.0 (subst (Among (xs ++ b ∷ us)) (sym p) (among_right xs (b ∷ us) b (inl refl))))
behind_once (x ∷ xs) (y ∷ ys) us vs b o e = let q : xs ++ b ∷ us ≡ ys ++ b ∷ vs = cc in behind_once xs ys us vs b o.1 q
