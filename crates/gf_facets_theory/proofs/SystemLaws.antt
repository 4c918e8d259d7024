-- The system of a marked list: its solutions are the vectors of the open cone that are positive, and these are the positive
-- weights that give the marks. So whether a region has such a vector is decided.
-- To cite: region_rows_wide, rows_of_region, region_of_rows, all_positive-region, system_wide, solution_of_inside,
-- inside_of_solution, HasVector, vector_or_none, marks_of_open, open_of_marks, whole_of, length-whole, whole-in_region,
-- whole-weight, open_of_weight, positive_or_none, canonical_all, solvable_of_realisable, realisable_of_solution,
-- marked_system_wide.
use Rattle.std.proofs.Common.{◌≡◌, ◌⊎◌, ℕ, zero, suc, ◌<◌, true, List, [], ◌∷◌, ◌++◌, length, get_or, replicate, Contains, All, ℤ, pos, ◌<ℤ◌, arith, refl, sym}
use Rattle.std.proofs.Common.{ap, ◌∙◌, inl, inr}
use Rattle.std.proofs.lemmas.Int.{ints}
use Rattle.std.proofs.lemmas.List.{get_or_default}
use Rattle.std.proofs.lemmas.List.Elements.{All-nil, All-contains, All-append, All-replicate, Contains-append_left, Contains-append_right}
use Rattle.std.proofs.lemmas.List.Elements.{Contains-append_cases}
use Rattle.gf_vec.specs.Vector.{dot}
use Rattle.gf_gordan.specs.Alternative.{AreRows, IsSolution, IsSolvable, IsRefutable}
use Rattle.gf_gordan.proofs.ExistenceLaws.{alternative}
use Rattle.gf_poly.specs.Fraction.{one_ℚ}
use Rattle.gf_exponents_theory.specs.Exponents.{Exponents, entry, same, weight, whole_weight, IsInRing}
use Rattle.gf_exponents_theory.specs.Orders.{lighter, gains}
use Rattle.gf_exponents_theory.proofs.ExponentsLaws.{same_by_entries}
use Rattle.gf_exponents_theory.proofs.WeightLaws.{weight-nil, weight-same}
use Rattle.gf_int_theory.proofs.ListLaws.{all_by}
use Rattle.gf_poly.specs.Polynomial.{coefficient, HasVariables}
use Rattle.gf_poly.specs.Marking.{MarkedPolynomial, Each, HaveVariables, HasMarkedTerm}
use Rattle.gf_ideal_theory.specs.Membership.{HasMonomial}
use Rattle.gf_ideal_theory.specs.Marks.{AreMarked, IsPositive, HasPositiveWeight, IsRealisedBy, IsRealisable}
use Rattle.gf_ideal_theory.proofs.ListLaws.{contained_each}
use Rattle.gf_ideal_theory.proofs.ListedTerms.{variables_by_terms}
use Rattle.gf_ideal_theory.proofs.KeptForms.{marked_there, canonical_marked}
use Rattle.gf_ideal_theory.proofs.MarkWeights.{realised_of_marked}
use Rattle.gf_facets_theory.specs.Rows.{rows_of_polynomials}
use Rattle.gf_facets_theory.specs.Systems.{units, system_of}
use Rattle.gf_facets_theory.specs.Regions.{Region, IsRegion, IsInRegion, all_positive}
use Rattle.gf_facets_theory.specs.Facets.{IsInOpenCone}
use Rattle.gf_facets_theory.specs.MarkedBases.{AreCanonical}
use Rattle.gf_facets_theory.proofs.RowLaws.{IsTermRow, row-from, length-differences}
use Rattle.gf_facets_theory.proofs.ConeLaws.{rows_open, open_by_rows}
use Rattle.gf_facets_theory.proofs.UnitLaws.{units_wide, units_on_positive, positive_by_units}
use Rattle.gf_poly.proofs.CoefficientLaws.{term_length}
use Rattle.gf_facets_theory.proofs.RegionLaws.{region-positive, region-weight}

-- ---- the rows of a region, and the unit vectors

pub region_rows_wide : (n : ℕ) (k : Region) → AreRows n k.rows → AreRows n (k.rows ++ units n n)
region_rows_wide n k wide = All-append (λ t. length t ≡ n) k.rows (units n n) wide (all_by (λ t. length t ≡ n) (units n n) (units_wide n n))

-- they are positive on the vectors of the region
pub rows_of_region : (n : ℕ) (k : Region) (v : List ℤ) → IsInRegion n k v → All (λ t. pos 0 <ℤ dot t v) (k.rows ++ units n n)
rows_of_region n k v r = All-append (λ t. pos 0 <ℤ dot t v) k.rows (units n n) r.rows
    (all_by (λ t. pos 0 <ℤ dot t v) (units n n) (units_on_positive n v r.width r.positive))

-- and on no others
pub region_of_rows : (n : ℕ) (k : Region) (v : List ℤ) → length v ≡ n → All (λ t. pos 0 <ℤ dot t v) (k.rows ++ units n n) → IsInRegion n k v
region_of_rows n k v e h = record {
  width = e;
  positive = positive_by_units n v e (λ t c. All-contains (λ t. pos 0 <ℤ dot t v) (k.rows ++ units n n) t h (Contains-append_right k.rows (units n n) t c));
  rows = all_by (λ t. pos 0 <ℤ dot t v) k.rows (λ t c. All-contains (λ t. pos 0 <ℤ dot t v) (k.rows ++ units n n) t h
      (Contains-append_left k.rows (units n n) t c));
}

-- all positive vectors are a region
pub all_positive-region : (n : ℕ) → IsRegion n (all_positive n)
all_positive-region n = record {
  widths = All-nil (λ t. length t ≡ n);
  root = record {
    width = ones n;
    positive = All-replicate (λ x. pos 0 <ℤ x) n (pos 1) (omega (arith, ints));
    rows = All-nil (λ c. pos 0 <ℤ dot c (replicate n (pos 1)));
  };
}
  where
    ones : (n : ℕ) → length (replicate n (pos 1)) ≡ n
    ones zero = refl
    ones (suc n) = ap suc (ones n)

-- ---- the system

-- each row has n entries
row_wide : (n : ℕ) (bs : List MarkedPolynomial) → AreCanonical n bs → (t : List ℤ) → Contains (rows_of_polynomials bs) t → length t ≡ n
row_wide n bs k t c = at (row-from bs t c)
  where
    at : ((b : MarkedPolynomial) × Contains bs b × IsTermRow b.head b.poly t) → length t ≡ n
    at b =
        let h : length b.0.head ≡ n = (k b.0 b.1).head in
        ap (λ (z : List ℤ). length z) b.2.row ∙ length-differences b.0.head b.2.term.mono
        (h ∙ sym (term_length n b.0.poly b.2.term (k b.0 b.1).variables b.2.inside)) ∙ h

by_row : (P : List ℤ → Type 0) (n : ℕ) (rows : List (List ℤ)) (bs : List MarkedPolynomial) → ((t : List ℤ) → Contains rows t → P t) →
    ((t : List ℤ) → Contains (rows_of_polynomials bs) t → P t) → ((t : List ℤ) → Contains (units n n) t → P t) → All P (rows ++ system_of n bs)
by_row P n rows bs f g h = all_by P (rows ++ system_of n bs) (λ t c. first t (Contains-append_cases rows (system_of n bs) t c))
  where
    second : (t : List ℤ) → Contains (rows_of_polynomials bs) t ⊎ Contains (units n n) t → P t
    second t (inl c) = g t c
    second t (inr c) = h t c

    first : (t : List ℤ) → Contains rows t ⊎ Contains (system_of n bs) t → P t
    first t (inl c) = f t c
    first t (inr c) = second t (Contains-append_cases (rows_of_polynomials bs) (units n n) t c)

pub system_wide : (n : ℕ) (k : Region) (bs : List MarkedPolynomial) → AreRows n k.rows → AreCanonical n bs →
    AreRows n (k.rows ++ system_of n bs)
system_wide n k bs w c = by_row (λ t. length t ≡ n) n k.rows bs (λ t i. All-contains (λ t. length t ≡ n) k.rows t w i) (row_wide n bs c) (units_wide n n)

-- vectors of the region in the open cone solve it
pub solution_of_inside : (n : ℕ) (k : Region) (bs : List MarkedPolynomial) (v : List ℤ) → AreCanonical n bs → IsInRegion n k v →
    IsInOpenCone v bs → IsSolution n (k.rows ++ system_of n bs) [] v
solution_of_inside n k bs v c r h = record {
  width = r.width;
  positive = by_row (λ t. pos 0 <ℤ dot t v) n k.rows bs (λ t i. All-contains (λ t. pos 0 <ℤ dot t v) k.rows t r.rows i) (rows_open n bs v c h)
      (units_on_positive n v r.width r.positive);
  zero = All-nil (λ t. dot t v ≡ pos 0);
}

-- and no others do
pub inside_of_solution : (n : ℕ) (k : Region) (bs : List MarkedPolynomial) (v : List ℤ) → AreCanonical n bs →
    IsSolution n (k.rows ++ system_of n bs) [] v → IsInRegion n k v × IsInOpenCone v bs
inside_of_solution n k bs v c s = (
  record {
    width = s.width;
    positive = positive_by_units n v s.width (λ t i. row t (Contains-append_right k.rows (system_of n bs) t
        (Contains-append_right (rows_of_polynomials bs) (units n n) t i)));
    rows = all_by (λ t. pos 0 <ℤ dot t v) k.rows (λ t i. row t (Contains-append_left k.rows (system_of n bs) t i));
  },
  open_by_rows n bs v c (λ t i. row t (Contains-append_right k.rows (system_of n bs) t (Contains-append_left (rows_of_polynomials bs) (units n n) t i))),
)
  where
    row : (t : List ℤ) → Contains (k.rows ++ system_of n bs) t → pos 0 <ℤ dot t v
    row t i = All-contains (λ t. pos 0 <ℤ dot t v) (k.rows ++ system_of n bs) t s.positive i

-- some vector of the region is in the open cone
abbrev pub HasVector : ℕ → Region → List MarkedPolynomial → Type 0
HasVector n k bs = (v : List ℤ) × IsInRegion n k v × IsInOpenCone v bs

-- whether there is one is decided
pub vector_or_none : (n : ℕ) (k : Region) (bs : List MarkedPolynomial) → AreRows n k.rows → AreCanonical n bs →
    HasVector n k bs ⊎ (HasVector n k bs → ⊥)
vector_or_none n k bs w c = at (alternative.one n rows [] wide none)
  where
    rows : List (List ℤ)
    rows = k.rows ++ system_of n bs

    wide : AreRows n rows
    wide = system_wide n k bs w c

    none : AreRows n []
    none = All-nil (λ t. length t ≡ n)

    at : IsSolvable n rows [] ⊎ IsRefutable n rows [] → HasVector n k bs ⊎ (HasVector n k bs → ⊥)
    at (inl s) = let q = inside_of_solution n k bs s.0 c s.1 in inl (s.0, q.0, q.1)
    at (inr r) = inr (λ h. alternative.not_both n rows [] wide none (h.0, solution_of_inside n k bs h.0 c h.1 h.2) r)

-- ---- vectors of a region as weights

-- a vector of the open cone gives the marks
pub marks_of_open : (n : ℕ) (k : Region) (bs : List MarkedPolynomial) (v : List ℤ) → IsInRegion n k v →
    ((b : MarkedPolynomial) → Contains bs b → coefficient b.poly b.head ≡ one_ℚ) → IsInOpenCone v bs →
    AreMarked (lighter (gains v)) bs
marks_of_open n k bs v r one h b c = record { monic = one b c; tail = λ x m. at x (h b c x m) }
  where
    natural : (x : Exponents) → pos (weight (gains v) x) ≡ whole_weight v x
    natural = region-weight n k v r

    at : (x : Exponents) → (same x b.head ≡ true) ⊎ (whole_weight v x <ℤ whole_weight v b.head) →
        (same x b.head ≡ true) ⊎ lighter (gains v) x b.head
    at x (inl s) = inl s
    at x (inr l) = inr (omega (arith, ints, l, natural x, natural b.head))

-- and one that gives them is in it
pub open_of_marks : (n : ℕ) (k : Region) (bs : List MarkedPolynomial) (v : List ℤ) → IsInRegion n k v →
    AreMarked (lighter (gains v)) bs → IsInOpenCone v bs
open_of_marks n k bs v r m b c x i = at ((m b c).tail x i)
  where
    natural : (x : Exponents) → pos (weight (gains v) x) ≡ whole_weight v x
    natural = region-weight n k v r

    at : (same x b.head ≡ true) ⊎ lighter (gains v) x b.head → (same x b.head ≡ true) ⊎ (whole_weight v x <ℤ whole_weight v b.head)
    at (inl s) = inl s
    at (inr l) = inr (omega (arith, ints, l, natural x, natural b.head))

-- ---- weights as vectors

-- n entries of a list of weights
abbrev pub whole_of : ℕ → List ℕ → List ℤ
whole_of zero w = []
whole_of (suc n) [] = pos 0 ∷ whole_of n []
whole_of (suc n) (a ∷ w) = pos a ∷ whole_of n w

pub length-whole : (n : ℕ) (w : List ℕ) → length (whole_of n w) ≡ n
length-whole zero w = refl
length-whole (suc n) [] = ap suc (length-whole n [])
length-whole (suc n) (a ∷ w) = ap suc (length-whole n w)

entry-whole : (n : ℕ) (w : List ℕ) (i : ℕ) → i < n → get_or (whole_of n w) i (pos 0) ≡ pos (entry w i)
entry-whole zero w i l = absurd (omega arith)
entry-whole (suc n) [] zero l = refl
entry-whole (suc n) [] (suc i) l = entry-whole n [] i (omega arith)
entry-whole (suc n) (a ∷ w) zero l = refl
entry-whole (suc n) (a ∷ w) (suc i) l = entry-whole n w i (omega arith)

-- positive weights are in the region of all positive vectors
pub whole-in_region : (n : ℕ) (w : List ℕ) → IsPositive n w → IsInRegion n (all_positive n) (whole_of n w)
whole-in_region n w p = record {
  width = length-whole n w;
  positive = λ i d l. (let e = entry-whole n w i (omega (arith, l, length-whole n w)) in let q = p i (omega (arith, l, length-whole n w)) in let g =
      get_or_default (whole_of n w) i (pos 0) d l in omega (arith, ints, e, q, g));
  rows = All-nil (λ c. pos 0 <ℤ dot c (whole_of n w));
}

-- the weight of a monomial in n variables
pub whole-weight : (n : ℕ) (w : List ℕ) (x : Exponents) → IsInRing n x → whole_weight (whole_of n w) x ≡ pos (weight w x)
whole-weight zero w x h = sym (ap pos (weight-same w x [] (same_by_entries x [] (λ i. h i (omega arith))) ∙ weight-nil w))
whole-weight (suc n) [] [] h = refl
whole-weight (suc n) (a ∷ w) [] h = refl
whole-weight (suc n) [] (b ∷ x) h = omega (arith, ints, whole-weight n [] x (λ i l. h (suc i) (omega (arith, l))))
whole-weight (suc n) (a ∷ w) (b ∷ x) h = omega (arith, ints, whole-weight n w x (λ i l. h (suc i) (omega (arith, l))))

-- a weight that sets the marks above the rest is a vector of the open cone
pub open_of_weight : (n : ℕ) (w : List ℕ) (bs : List MarkedPolynomial) → AreCanonical n bs →
    ((b : MarkedPolynomial) → Contains bs b → IsRealisedBy w b) → IsInOpenCone (whole_of n w) bs
open_of_weight n w bs c m b i x k = at ((m b i).tail x k)
  where
    ring : (x : Exponents) → HasMonomial b.poly x → IsInRing n x
    ring = variables_by_terms n b.poly (c b i).variables

    at : (same x b.head ≡ true) ⊎ lighter w x b.head → (same x b.head ≡ true) ⊎ (whole_weight (whole_of n w) x <ℤ whole_weight (whole_of n w) b.head)
    at (inl s) = inl s
    at (inr l) = inr (omega (arith, ints, l, whole-weight n w x (ring x k), whole-weight n w b.head (ring b.head (m b i).there)))

-- ---- whether there is a positive weight

-- that gives the marks of monic polynomials is decided
pub positive_or_none : (n : ℕ) (bs : List MarkedPolynomial) → AreCanonical n bs →
    ((b : MarkedPolynomial) → Contains bs b → coefficient b.poly b.head ≡ one_ℚ) →
    HasPositiveWeight n bs ⊎ (HasPositiveWeight n bs → ⊥)
positive_or_none n bs c one = at (vector_or_none n (all_positive n) bs (All-nil (λ t. length t ≡ n)) c)
  where
    at : HasVector n (all_positive n) bs ⊎ (HasVector n (all_positive n) bs → ⊥) → HasPositiveWeight n bs ⊎ (HasPositiveWeight n bs → ⊥)
    at (inl v) = inl (gains v.0, region-positive n (all_positive n) v.0 v.1, marks_of_open n (all_positive n) bs v.0 v.1 one v.2)
    at (inr none) = inr (λ w. none (whole_of n w.0, whole-in_region n w.0 w.1, open_of_weight n w.0 bs c (λ b i. realised_of_marked w.0 b (w.2 b i))))

-- ---- with any marked coefficients

pub canonical_all : (n : ℕ) (bs : List MarkedPolynomial) → HaveVariables n bs → Each HasMarkedTerm bs → AreCanonical n bs
canonical_all n bs v m b c = canonical_marked n b (contained_each (λ (b : MarkedPolynomial). HasVariables n b.poly) bs v b c)
    (contained_each HasMarkedTerm bs m b c)

-- a positive weight that gives the marks solves the system
pub solvable_of_realisable : (n : ℕ) (bs : List MarkedPolynomial) → HaveVariables n bs → Each HasMarkedTerm bs → IsRealisable n bs →
    IsSolvable n (system_of n bs) []
solvable_of_realisable n bs v m r = (
  whole_of n r.0,
  solution_of_inside n (all_positive n) bs (whole_of n r.0) (canonical_all n bs v m) (whole-in_region n r.0 r.1)
      (open_of_weight n r.0 bs (canonical_all n bs v m) r.2),
)

-- and a solution is such a weight
pub realisable_of_solution : (n : ℕ) (bs : List MarkedPolynomial) (v : List ℤ) → HaveVariables n bs → Each HasMarkedTerm bs →
    IsSolution n (system_of n bs) [] v → IsRealisable n bs
realisable_of_solution n bs v h m s = at (inside_of_solution n (all_positive n) bs v (canonical_all n bs h m) s)
  where
    at : IsInRegion n (all_positive n) v × IsInOpenCone v bs → IsRealisable n bs
    at q = (
      gains v,
      region-positive n (all_positive n) v q.0,
      λ b c. record {
        there = marked_there n b (contained_each (λ (b : MarkedPolynomial). HasVariables n b.poly) bs h b c) (contained_each HasMarkedTerm bs m b c);
        tail = λ x k. index b x (q.1 b c x k);
      },
    )
      where
        natural : (x : Exponents) → pos (weight (gains v) x) ≡ whole_weight v x
        natural = region-weight n (all_positive n) v q.0

        index : (b : MarkedPolynomial) (x : Exponents) → (same x b.head ≡ true) ⊎ (whole_weight v x <ℤ whole_weight v b.head) →
            (same x b.head ≡ true) ⊎ lighter (gains v) x b.head
        index b x (inl e) = inl e
        index b x (inr l) = inr (omega (arith, ints, l, natural x, natural b.head))

-- each row of the system has n entries
pub marked_system_wide : (n : ℕ) (bs : List MarkedPolynomial) → HaveVariables n bs → Each HasMarkedTerm bs → AreRows n (system_of n bs)
marked_system_wide n bs v m = system_wide n (all_positive n) bs (All-nil (λ t. length t ≡ n)) (canonical_all n bs v m)
