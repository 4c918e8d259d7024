-- The list of all marked reduced bases of a region, and whether generators and rows are in n variables.
-- To cite: variables_or_not, AreOfVariables, suits_or_not, basis_of_vector, vector_of_basis,
-- basis_everywhere, ListedInRegion, listed_in_region.
use Rattle.std.proofs.Common.{◌≡◌, ◌⊎◌, ◌≢◌, ℕ, List, [], ◌∷◌, length, Contains, ℤ, arith, inl, inr}
use Rattle.std.proofs.lemmas.List.Elements.{All-contains}
use Rattle.gf_facets_theory.specs.Alternative.{AreRows}
use Rattle.gf_frac.specs.Fraction.{zero_ℚ}
use Rattle.gf_exponents_theory.specs.Exponents.{IsInRing}
use Rattle.gf_poly.specs.declared.Term.{Term}
use Rattle.gf_poly.specs.Polynomial.{Terms, coefficient}
use Rattle.gf_poly.specs.Marking.{MarkedPolynomial, Each}
use Rattle.gf_ideal_theory.specs.Membership.{IsInVariables, AreInVariables}
use Rattle.gf_ideal_theory.proofs.ListLaws.{each_contained, contained_each}
use Rattle.gf_ideal_theory.proofs.RingLaws.{in_ring, ring-along}
use Rattle.gf_ideal_theory.proofs.TermLaws.{Canonical, canonical, canonical_exponents}
use Rattle.gf_ideal_theory.proofs.MarkWeights.{realised_of_marked}
use Rattle.gf_facets_theory.specs.Regions.{Region, all_positive}
use Rattle.gf_facets_theory.specs.MarkedBases.{IsMarkedReducedBasis, IsBasisInRegion}
use Rattle.gf_facets_theory.proofs.SystemLaws.{HasVector, vector_or_none, marks_of_open, open_of_marks, whole_of, whole-in_region, open_of_weight}
use Rattle.gf_bases_theory.proofs.DecidedLaws.{each_or_not, Chosen, chosen}
use Rattle.gf_bases_theory.proofs.AllBasesLaws.{Listed, bases_exist}
use Rattle.std.proofs.lemmas.Bool.{cases_eq}
use Rattle.gf_int_theory.proofs.ListLaws.{all_by}

-- ---- n variables

pub variables_or_not : (n : ℕ) (f : Terms) → IsInVariables n f ⊎ (IsInVariables n f → ⊥)
variables_or_not n f = at (canonical f)
  where
    at : Canonical f → IsInVariables n f ⊎ (IsInVariables n f → ⊥)
    at c = by (each_or_not (λ (t : Term). IsInRing n t.mono) (λ t. in_ring n t.mono) c.terms)
      where
        there : (ts : Terms) → Each (λ (t : Term). coefficient f t.mono ≢ zero_ℚ) ts → IsInVariables n f →
            Each (λ (t : Term). IsInRing n t.mono) ts
        there [] h v = tt
        there (t ∷ ts) h v = (v t.mono h.0, there ts h.1 v)

        by : Each (λ (t : Term). IsInRing n t.mono) c.terms ⊎ (Each (λ (t : Term). IsInRing n t.mono) c.terms → ⊥) →
            IsInVariables n f ⊎ (IsInVariables n f → ⊥)
        by (inl h) = inl (canonical_exponents (IsInRing n) f c (ring-along n) h)
        by (inr k) = inr (λ v. k (there c.terms c.there v))

-- ---- the list of a region

-- the generators are polynomials in n variables, and the rows of the region have n entries
pub record AreOfVariables (n : ℕ) (k : Region) (fs : List Terms) : Type 0 where
  pub generators : AreInVariables n fs
  pub widths : AreRows n k.rows

pub suits_or_not : (n : ℕ) (k : Region) (fs : List Terms) → AreOfVariables n k fs ⊎ (AreOfVariables n k fs → ⊥)
suits_or_not n k fs = at (each_or_not (IsInVariables n) (variables_or_not n) fs) (each_or_not (λ (c : List ℤ). length c ≡ n) (λ c. cases_eq (length c) n)
    k.rows)
  where
    at : Each (IsInVariables n) fs ⊎ (Each (IsInVariables n) fs → ⊥) →
        Each (λ (c : List ℤ). length c ≡ n) k.rows ⊎ (Each (λ (c : List ℤ). length c ≡ n) k.rows → ⊥) →
        AreOfVariables n k fs ⊎ (AreOfVariables n k fs → ⊥)
    at (inl v) (inl w) = inl (record {
      generators = λ f c. contained_each (IsInVariables n) fs v f c;
      widths = all_by (λ c. length c ≡ n) k.rows (λ c i. contained_each (λ (c : List ℤ). length c ≡ n) k.rows w c i);
    })
    at (inl v) (inr m) = inr (λ h. m (each_contained (λ (c : List ℤ). length c ≡ n) k.rows (λ c i. All-contains (λ c. length c ≡ n) k.rows c h.widths i)))
    at (inr m) q = inr (λ h. m (each_contained (IsInVariables n) fs h.generators))

-- a marked reduced basis is one of the region where some vector of the region gives its marks
pub basis_of_vector : (n : ℕ) (fs : List Terms) (k : Region) (bs : List MarkedPolynomial) → IsMarkedReducedBasis n fs bs → HasVector n k bs →
    IsBasisInRegion n fs k bs
basis_of_vector n fs k bs b v = record {
  reduced = b.reduced;
  arranged = b.arranged;
  weight = v.0;
  inside = v.1;
  marked = marks_of_open n k bs v.0 v.1 (λ d c. (b.reduced.basis.marked.2 d c).monic) v.2;
}

pub vector_of_basis : (n : ℕ) (fs : List Terms) (k : Region) (bs : List MarkedPolynomial) → IsBasisInRegion n fs k bs →
    IsMarkedReducedBasis n fs bs × HasVector n k bs
vector_of_basis n fs k bs b = (record { reduced = b.reduced; arranged = b.arranged }, (b.weight, b.inside, open_of_marks n k bs b.weight b.inside b.marked))

-- the region of all positive vectors has them all
pub basis_everywhere : (n : ℕ) (fs : List Terms) (bs : List MarkedPolynomial) → IsMarkedReducedBasis n fs bs →
    IsBasisInRegion n fs (all_positive n) bs
basis_everywhere n fs bs b = basis_of_vector n fs (all_positive n) bs b (
  whole_of n b.reduced.basis.marked.0,
  whole-in_region n b.reduced.basis.marked.0 b.reduced.basis.marked.1,
  open_of_weight n b.reduced.basis.marked.0 bs b.arranged.canonical (λ d c. realised_of_marked b.reduced.basis.marked.0 d (b.reduced.basis.marked.2 d c)),
)

-- the marked reduced bases of a region as a list
pub record ListedInRegion (n : ℕ) (fs : List Terms) (k : Region) : Type 0 where
  pub bases : List (List MarkedPolynomial)
  pub sound : (bs : List MarkedPolynomial) → Contains bases bs → IsBasisInRegion n fs k bs
  pub complete : (bs : List MarkedPolynomial) → IsBasisInRegion n fs k bs → Contains bases bs

pub listed_in_region : (n : ℕ) (fs : List Terms) (k : Region) → AreInVariables n fs → AreRows n k.rows → ListedInRegion n fs k
listed_in_region n fs k v w = at (bases_exist n fs v)
  where
    at : Listed n fs [] → ListedInRegion n fs k
    at l = with_choice (chosen (HasVector n k) l.bases (λ bs c. vector_or_none n k bs w (l.sound bs c).arranged.canonical))
      where
        with_choice : Chosen (HasVector n k) l.bases → ListedInRegion n fs k
        with_choice r = record {
          bases = r.items;
          sound = λ bs c. let o = r.only bs c in basis_of_vector n fs k bs (l.sound bs o.0) o.1;
          complete = λ bs b. let q = vector_of_basis n fs k bs b in
              r.all bs (l.complete bs q.0 b.reduced.basis.marked.0 b.reduced.basis.marked.1 (λ p c. absurd (omega (arith, c.1))) b.reduced.basis.marked.2) q.1;
        }
