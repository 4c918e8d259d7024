-- The theorems on reverse search over the bases of an ideal that functions of this crate name.
-- Source: Fukuda, Jensen, Thomas, Computing Gröbner fans, 3 and 4; Avis and Fukuda, Reverse Search for Enumeration.
use Rattle.std.specs.Prelude.{◌≡◌, ◌⊎◌, ◌↔◌, ℕ, ◌≤◌, ◌<◌, List, ◌∷◌, ◌++◌, Contains, length, All, ℤ, pos, ◌≤ℤ◌, ◌<ℤ◌}
use Rattle.gf_exponents_theory.specs.Exponents.{Exponents, IsInRing}
use Rattle.gf_exponents_theory.specs.Orders.{gains, IsWeightedBelow}
use Rattle.gf_poly.specs.Polynomial.{Terms}
use Rattle.gf_poly.specs.Marking.{MarkedPolynomial, MarkedPolynomials, polys}
use Rattle.gf_gordan.specs.Alternative.{AreRows}
use Rattle.gf_ideal_theory.specs.Membership.{HasMonomial, AreInVariables}
use Rattle.gf_ideal_theory.specs.Reduction.{IsDivisible}
use Rattle.gf_ideal_theory.specs.Bases.{IsReducedBasisFor, IsReducedBasis}
use Rattle.gf_reverse_search.specs.declared.mark.Mark.{Mark}
use Rattle.gf_reverse_search.specs.Path.{IsTree, IsRoot, Leads}
use Rattle.gf_reverse_search.specs.Walk.{IsNext, IsDone}
use Rattle.gf_reverse_search.specs.Whole.{IsFinite, IsWholeList}
use Rattle.gf_facets_theory.specs.Rows.{IsNormal, negated}
use Rattle.gf_facets_theory.specs.LexPositive.{IsNegative, IsBefore}
use Rattle.gf_facets_theory.specs.Regions.{Region, IsRegion, all_positive, IsInRegion}
use Rattle.gf_facets_theory.specs.Facets.{IsFlippable, IsInClosedCone}
use Rattle.gf_facets_theory.specs.MarkedBases.{IsBasisInRegion, IsMarkedReducedBasis}
use Rattle.gf_facets_theory.specs.Neighbours.{AreAdjacent}
use Rattle.gf_reverse_theory.specs.AllBases.{number_of_bases, all_bases}
use Rattle.gf_reverse_theory.specs.Upward.{IsRootWeight, LeadsTowards, IsWayUp, Fan, IsFanOfIdeal, IsNodeIn, IsParentIn, fan_of, IsNode, IsParent}
use Rattle.gf_reverse_theory.specs.Heights.{above_members}
use Rattle.gf_reverse_theory.specs.LeadingNumber.{leading_number}
use Rattle.gf_reverse_theory.specs.Lists.{IsPathOf, IsListFor, IsListOfBases, IsLeftBasis, AnswersBasis}
use Rattle.gf_ideal_theory.specs.Marks.{AreMarked}
use Rattle.gf_facets_theory.specs.InitialIdeals.{IsMonomialAt}

-- ---- the list of all bases

-- the list holds exactly the marked reduced bases of the region; for the region of all positive vectors, exactly all of
-- them; and so does the list for the polynomials of any of them
pub record BasesAreListed : Type 0 where
  pub in_region : (n : ℕ) (k : Region) (fs : List Terms) (bs : List MarkedPolynomial) → AreInVariables n fs → AreRows n k.rows →
      Contains (all_bases n k fs) bs ↔ IsBasisInRegion n fs k bs
  pub everywhere : (n : ℕ) (fs : List Terms) (bs : List MarkedPolynomial) → AreInVariables n fs →
      Contains (all_bases n (all_positive n) fs) bs ↔ IsMarkedReducedBasis n fs bs
  pub from_basis : (n : ℕ) (k : Region) (fs : List Terms) (cs bs : List MarkedPolynomial) → AreInVariables n fs → AreRows n k.rows →
      IsMarkedReducedBasis n fs cs → Contains (all_bases n k (polys cs)) bs ↔ IsBasisInRegion n fs k bs

-- each vector of the region lies in the closed cone of a listed basis, namely of the one for the vector before lex; and
-- where monomials generate the initial ideal, a listed basis is the reduced one for the vector
pub record WeightsAreListed : Type 0 where
  pub cone : (n : ℕ) (k : Region) (fs : List Terms) (v : List ℤ) → AreInVariables n fs → AreRows n k.rows → IsInRegion n k v →
      (bs : List MarkedPolynomial) × Contains (all_bases n k fs) bs × AreMarked (IsWeightedBelow (gains v)) bs × IsInClosedCone v bs
  pub monomial_ideals : (n : ℕ) (k : Region) (fs : List Terms) (v : List ℤ) → AreInVariables n fs → AreRows n k.rows → IsInRegion n k v →
      IsMonomialAt n fs v ↔ ((bs : List MarkedPolynomial) × Contains (all_bases n k fs) bs × IsReducedBasis n fs (gains v) bs)

-- ---- the way to a root weight

-- where a basis of a region has a normal that is negative at a root weight, it has one that a flip may cross too
abbrev pub NegativeNormalsCanBeCrossed : Type 0
NegativeNormalsCanBeCrossed = (n : ℕ) (fs : List Terms) (k : Region) (r : List ℤ) (bs : List MarkedPolynomial) (b : List ℤ) →
    AreRows n k.rows → IsRootWeight n k r → IsBasisInRegion n fs k bs → IsNormal bs b → IsNegative r b →
    (a : List ℤ) × LeadsTowards n k r bs a

-- no negative normal can be crossed exactly at the reduced basis for the order of the root weight, by it and then lex; an
-- ideal has one such basis in a region at most. A region's own root is a root weight; in the region of all positive vectors each
-- weight with entries at least 0 is
pub record RootHasNoWayUp : Type 0 where
  pub exactly : (n : ℕ) (fs : List Terms) (k : Region) (r : List ℤ) (bs : List MarkedPolynomial) → AreInVariables n fs → AreRows n k.rows →
      IsRootWeight n k r → IsBasisInRegion n fs k bs →
      ((a : List ℤ) → LeadsTowards n k r bs a → ⊥) ↔ IsReducedBasisFor n fs (IsWeightedBelow (gains r)) bs
  pub one : (n : ℕ) (fs : List Terms) (k : Region) (r : List ℤ) (bs cs : List MarkedPolynomial) → AreInVariables n fs → AreRows n k.rows →
      IsRootWeight n k r → IsBasisInRegion n fs k bs → IsBasisInRegion n fs k cs →
      ((a : List ℤ) → LeadsTowards n k r bs a → ⊥) → ((a : List ℤ) → LeadsTowards n k r cs a → ⊥) → bs ≡ cs
  pub own : (n : ℕ) (k : Region) → IsRegion n k → IsRootWeight n k k.root
  pub everywhere : (n : ℕ) (r : List ℤ) → length r ≡ n → All (λ c. pos 0 ≤ℤ c) r → IsRootWeight n (all_positive n) r

-- ---- a number that falls

-- across a facet something enters the leading monomials; and where the normal is negative at a weight, what enters pulls out
-- something smaller by the weight and then lex. So, where the weight is positive, the number that tells the leading monomials
-- up to some weight, the smallest first, falls, if it tells of all monomials of the basis that is left. And for each root weight,
-- also with entries 0, some number falls at each crossing: each walk ends
pub record CrossingsFall : Type 0 where
  pub enters : (n : ℕ) (fs : List Terms) (k : Region) (bs cs : List MarkedPolynomial) (a : List ℤ) → AreInVariables n fs →
      AreAdjacent n fs k bs a cs →
      (x : Exponents) × (b : MarkedPolynomial) × Contains bs b × HasMonomial b.poly x × (IsDivisible (Contains bs) x → ⊥) × IsDivisible (Contains cs) x
  pub pulls : (n : ℕ) (fs : List Terms) (k : Region) (r : List ℤ) (bs cs : List MarkedPolynomial) (a : List ℤ) (x : Exponents) → AreInVariables n fs →
      All (λ c. pos 0 ≤ℤ c) r → AreAdjacent n fs k bs a cs → IsNegative r a → IsInRing n x → (IsDivisible (Contains bs) x → ⊥) → IsDivisible (Contains cs) x →
      (y : Exponents) × IsWeightedBelow (gains r) y x × IsDivisible (Contains bs) y × (IsDivisible (Contains cs) y → ⊥)
  pub falls : (n : ℕ) (fs : List Terms) (k : Region) (r : List ℤ) (d : ℕ) (bs cs : List MarkedPolynomial) (a : List ℤ) → AreInVariables n fs →
      length r ≡ n → All (λ c. pos 0 <ℤ c) r → AreAdjacent n fs k bs a cs → IsNegative r a → above_members (gains r) bs ≤ d →
      leading_number (gains r) d cs < leading_number (gains r) d bs
  pub ends : (n : ℕ) (fs : List Terms) (k : Region) (r : List ℤ) → AreInVariables n fs → AreRows n k.rows → IsRootWeight n k r →
      (height : List MarkedPolynomial → ℕ) × ((bs cs : List MarkedPolynomial) (a : List ℤ) → AreAdjacent n fs k bs a cs → IsNegative r a →
      height cs < height bs)

-- no way along parents leads back to where it began
abbrev pub NoCycles : Type 0
NoCycles = (F : Fan) (top : MarkedPolynomials) (c : List ℤ) (q : List (List ℤ)) → Leads (IsParentIn F) top (c ∷ q) top → ⊥

-- ---- the tree

-- parents make a tree, of bases of the ideals that they generate; each basis has a parent or is the root, and the root is the
-- reduced basis for the order of the region's root; the children are the neighbours whose way up leads back, each across a
-- flippable facet whose normal, turned, is negative at the root
pub record BasesMakeATree : Type 0 where
  pub tree : (k : Region) → IsTree (IsParent k)
  pub nodes : (k : Region) (v : MarkedPolynomials) (c : List ℤ) (u : MarkedPolynomials) → IsParent k v c u → IsNode k v × IsNode k u
  pub up : (k : Region) (v : MarkedPolynomials) → IsNode k v → ((c : List ℤ) × (u : MarkedPolynomials) × IsParent k v c u) ⊎ IsRoot (IsParent k) v
  pub root : (k : Region) (v : MarkedPolynomials) → IsNode k v →
      IsRoot (IsParent k) v ↔ IsReducedBasisFor v.variables (polys v.items) (IsWeightedBelow (gains k.root)) v.items
  pub one_root : (F : Fan) (a b : MarkedPolynomials) → IsNodeIn F a → IsRoot (IsParent F.region) a → IsNodeIn F b → IsRoot (IsParent F.region) b → a ≡ b
  pub child : (k : Region) (u w : MarkedPolynomials) (b : List ℤ) → IsNode k u → w.variables ≡ u.variables →
      AreAdjacent u.variables (polys u.items) k u.items b w.items → IsWayUp u.variables k w.items (negated b) → IsParent k w b u
  pub across : (k : Region) (u v : MarkedPolynomials) (b : List ℤ) → IsParent k v b u → IsFlippable u.variables k u.items b × IsNegative k.root (negated b)
  pub only : (k : Region) (u w v : MarkedPolynomials) (b : List ℤ) → AreAdjacent u.variables (polys u.items) k u.items b w.items → IsParent k v b u →
      (v.items ≡ w.items) × IsWayUp u.variables k w.items (negated b)

-- what is below a basis of an ideal is finite: not more than there are bases
abbrev pub TheTreeIsFinite : Type 0
TheTreeIsFinite = (F : Fan) (top : MarkedPolynomials) → IsNodeIn F top →
    IsFinite IsBefore (IsParent F.region) top (number_of_bases F.variables F.region F.ideal)

-- ---- paths, and what is left

-- each basis has one path; the whole list below the root is the list of all bases of the ideal
pub record BasesHavePaths : Type 0 where
  pub some : (k : Region) (v : MarkedPolynomials) → IsNode k v → (p : List (List ℤ)) × IsPathOf k v p
  pub one : (k : Region) (v : MarkedPolynomials) (p q : List (List ℤ)) → IsNode k v → IsPathOf k v p → IsPathOf k v q → p ≡ q
  pub all : (k : Region) (root v : MarkedPolynomials) (nodes : List MarkedPolynomials) → IsNode k v → IsNodeIn (fan_of k v) root →
      IsRoot (IsParent k) root → IsWholeList IsBefore (IsParent k) root nodes → IsListOfBases k v nodes

-- an ideal has exactly one list of its bases in a region
pub record IdealsHaveOneList : Type 0 where
  pub some : (F : Fan) → IsFanOfIdeal F → (nodes : List MarkedPolynomials) × IsListFor F nodes
  pub one : (F : Fan) (a b : List MarkedPolynomials) → IsListFor F a → IsListFor F b → a ≡ b

-- a walker's step in the words of whole paths: it answers the first basis that was left, and the others are left; where it
-- answers none, none was left
pub record WhatIsLeft : Type 0 where
  pub answers : (k : Region) (top : MarkedPolynomials) (p r : List (List ℤ)) (old new : Mark (List ℤ)) (v here : MarkedPolynomials) (depth : ℕ) →
      IsNode k top → IsPathOf k top p → IsNodeIn (fan_of k v) top → (s : IsNext IsBefore (IsParent k) top old r v new here depth) →
      AnswersBasis k old p (p ++ r) v (p ++ s.path)
  pub ends : (k : Region) (top x : MarkedPolynomials) (p r : List (List ℤ)) (old new : Mark (List ℤ)) (here : MarkedPolynomials) (depth : ℕ) →
      IsNode k top → IsPathOf k top p → IsDone IsBefore (IsParent k) top old r new here depth → IsNodeIn (fan_of k top) x →
      IsLeftBasis k old p (p ++ r) x → ⊥
