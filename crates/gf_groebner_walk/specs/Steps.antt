-- A walk over the bases of an ideal towards a weight. Laws: proofs/StepLaws.antt, proofs/WalkLaws.antt.
-- Source: Fukuda, Jensen, Thomas, Computing Gröbner fans, 3.
use Rattle.std.specs.Prelude.{◌≡◌, ◌↔◌, ℕ, ◌<◌, List, length, ℤ, Bool, IsTrue}
use Rattle.gf_poly.specs.Polynomial.{Terms}
use Rattle.gf_poly.specs.Marking.{MarkedPolynomial, MarkedPolynomials}
use Rattle.gf_facets_theory.specs.Regions.{Region, all_positive}
use Rattle.gf_cone.specs.Cones.{ConeRows, normal_at, IsConeOf}
use Rattle.gf_tree.specs.Crossings.{IsNeighbour}
use Rattle.gf_tree.specs.Reached.{IsReachedByFlips}
use Rattle.gf_reverse_theory.specs.Upward.{LeadsTowards}
use Rattle.gf_groebner_walk.specs.declared.steps.Towards.{Towards}
use Rattle.gf_groebner_walk.specs.declared.steps.Towards.TheVariants.{Nowhere, Facet}
use Rattle.gf_groebner_walk.specs.declared.steps.Step.{Step}
use Rattle.gf_groebner_walk.specs.declared.steps.Step.TheVariants.{Arrived, Across}

-- s is a marked reduced basis, reached by flips, of some ideal in its variables
abbrev pub IsSomeBasis : MarkedPolynomials → Type 0
IsSomeBasis s = (fs : List Terms) × IsReachedByFlips fs s

-- ---- by the cone

-- for each marked list of which c is the cone, in each region: b is true if and only if the facet with the normal at i leads towards r
abbrev pub IsLeadTold : List ℤ → ConeRows → ℕ → Bool → Type 0
IsLeadTold r c i b = (n : ℕ) (k : Region) (bs : List MarkedPolynomial) → IsConeOf n k bs c → IsTrue b ↔ LeadsTowards n k r bs (normal_at c i)

-- Facet: the facet with the normal at i leads towards r. Nowhere: no facet does. Both for each marked list of which c is the cone, in each
-- region
abbrev pub IsFacetTold : List ℤ → ConeRows → Towards → Type 0
IsFacetTold r c Nowhere = (n : ℕ) (k : Region) (bs : List MarkedPolynomial) → IsConeOf n k bs c → (a : List ℤ) → LeadsTowards n k r bs a → ⊥
IsFacetTold r c (Facet i) = (i < length c.normals) × ((n : ℕ) (k : Region) (bs : List MarkedPolynomial) → IsConeOf n k bs c →
    LeadsTowards n k r bs (normal_at c i))

-- ---- by the basis

-- no facet of s leads towards r
abbrev pub HasArrived : List ℤ → MarkedPolynomials → Type 0
HasArrived r s = (a : List ℤ) → LeadsTowards s.variables (all_positive s.variables) r s.items a → ⊥

-- t is the basis across a facet of s that leads towards r
pub record IsAcrossTowards (r : List ℤ) (s t : MarkedPolynomials) : Type 0 where
  pub normal : List ℤ
  pub leads : LeadsTowards s.variables (all_positive s.variables) r s.items normal
  pub neighbour : IsNeighbour s.variables s.items normal t.items
  pub variables : t.variables ≡ s.variables

-- the walk has arrived at s, or t is the basis across a facet that leads towards r
abbrev pub IsConversionStep : List ℤ → MarkedPolynomials → Step → Type 0
IsConversionStep r s Arrived = HasArrived r s
IsConversionStep r s (Across t) = IsAcrossTowards r s t

-- ---- the walk

-- t is a basis of each ideal of which s is one
pub record IsWalkedFrom (s t : MarkedPolynomials) : Type 0 where
  pub variables : t.variables ≡ s.variables
  pub bases : (fs : List Terms) → IsReachedByFlips fs s → IsReachedByFlips fs t

-- t is a basis of each ideal of which s is one, and no facet of t leads towards r
pub record IsWalkEnd (r : List ℤ) (s t : MarkedPolynomials) : Type 0 where
  pub walked : IsWalkedFrom s t
  pub arrived : HasArrived r t
