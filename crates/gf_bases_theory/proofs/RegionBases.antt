-- Each vector of a region lies in the closed cone of a marked reduced basis of the region: of the reduced one for the vector
-- before lex, whose marks a vector far along and a little beside gives.
-- To cite: basis_at.
use Rattle.std.specs.List.{AllByRecursion}
use Rattle.std.proofs.Common.{◌≡◌, ◌⊎◌, ℕ, true, List, [], ◌∷◌, length, All, ℤ, pos, neg_ℤ, ◌+ℤ◌, ◌*ℤ◌, ◌<ℤ◌, ◌≤ℤ◌, arith, sym, ap, ap₂, ◌∙◌, inl, inr}
use Rattle.std.proofs.lemmas.Int.{ints}
use Rattle.std.proofs.lemmas.List.Elements.{All-contains, All-from_recursion, recursion_from_All}
use Rattle.gf_int_theory.specs.Content.{scaled}
use Rattle.gf_int_theory.proofs.SignLaws.{0≤-*ℤ, ≤ℤ-*ℤ}
use Rattle.gf_int_theory.proofs.ListLaws.{all_by}
use Rattle.gf_vec.specs.Vector.{dot, vector_sum}
use Rattle.gf_vec.proofs.VectorLaws.{dot_comm, dot-plus, dot-times, length-plus, length-times}
use Rattle.gf_exponents_theory.specs.Exponents.{Exponents, same, weight, whole_weight}
use Rattle.gf_exponents_theory.specs.Orders.{gains, IsWeightedBelow}
use Rattle.gf_exponents_theory.proofs.WeightLaws.{weight-same}
use Rattle.gf_poly.specs.Polynomial.{Terms}
use Rattle.gf_poly.specs.Marking.{MarkedPolynomial, Each}
use Rattle.gf_ideal_theory.specs.Membership.{AreInVariables}
use Rattle.gf_ideal_theory.specs.Marks.{AreMarked}
use Rattle.gf_ideal_theory.proofs.ListLaws.{contained_each}
use Rattle.gf_facets_theory.specs.Regions.{Region, IsInRegion, all_positive}
use Rattle.gf_facets_theory.specs.Facets.{IsInClosedCone, IsInOpenCone}
use Rattle.gf_facets_theory.specs.MarkedBases.{IsMarkedReducedBasis, IsBasisInRegion}
use Rattle.gf_facets_theory.proofs.WholeLaws.{weight-sum, weight-multiple}
use Rattle.gf_facets_theory.proofs.RegionLaws.{region-weight, bounds, beats}
use Rattle.gf_facets_theory.proofs.SystemLaws.{open_of_marks}
use Rattle.gf_bases_theory.proofs.ExistenceLaws.{weighted_exists}
use Rattle.gf_bases_theory.proofs.FiniteLaws.{basis_of_vector, basis_everywhere}

-- ---- far along one vector, and another beside it

-- what they give
beside_value : (m : ℤ) (v u c : List ℤ) → length v ≡ length u → dot c (vector_sum (scaled m v) u) ≡ m *ℤ dot c v +ℤ dot c u
beside_value m v u c e = dot_comm c (vector_sum (scaled m v) u) ∙ dot-plus (scaled m v) u c (length-times m v ∙ e) ∙ ap₂ ◌+ℤ◌
    (dot-times m v c ∙ ap (λ z. m *ℤ z) (dot_comm v c)) (dot_comm u c)

-- far enough along a vector of the region it is in the region
beside_inside : (n : ℕ) (k : Region) (v u : List ℤ) → IsInRegion n k v → length u ≡ n → All (λ x. pos 0 <ℤ x) u →
    (m : ℕ) × IsInRegion n k (vector_sum (scaled (pos m) v) u)
beside_inside n k v u r e p = at (bounds (λ c. neg_ℤ (dot c u)) k.rows)
  where
    at : ((m : ℕ) × Each (λ c. neg_ℤ (dot c u) <ℤ pos m) k.rows) → (m : ℕ) × IsInRegion n k (vector_sum (scaled (pos m) v) u)
    at m = (
      m.0,
      record {
        width = length-plus (scaled (pos m.0) v) u (length-times (pos m.0) v ∙ r.width ∙ sym e) ∙ length-times (pos m.0) v ∙ r.width;
        positive = All-from_recursion (λ x. pos 0 <ℤ x) (vector_sum (scaled (pos m.0) v) u)
            (entries v u (r.width ∙ sym e) (recursion_from_All (λ x. pos 0 <ℤ x) v r.positive) (recursion_from_All (λ x. pos 0 <ℤ x) u p));
        rows = all_by (λ c. pos 0 <ℤ dot c (vector_sum (scaled (pos m.0) v) u)) k.rows
            (λ c i. omega (
              arith,
              ints,
              beside_value (pos m.0) v u c (r.width ∙ sym e),
              beats m.0 (dot c v) (neg_ℤ (dot c u)) (All-contains (λ c. pos 0 <ℤ dot c v) k.rows c r.rows i)
                  (contained_each (λ c. neg_ℤ (dot c u) <ℤ pos m.0) k.rows m.1 c i),
            ));
      },
    )
      where
        entries : (v u : List ℤ) → length v ≡ length u → AllByRecursion (λ x. pos 0 <ℤ x) v → AllByRecursion (λ x. pos 0 <ℤ x) u →
            AllByRecursion (λ x. pos 0 <ℤ x) (vector_sum (scaled (pos m.0) v) u)
        entries [] [] l h q = tt
        entries [] (y ∷ u) l h q = absurd (omega arith)
        entries (x ∷ v) [] l h q = absurd (omega arith)
        entries (x ∷ v) (y ∷ u) l h q =
            let f : pos 0 <ℤ x = h.0 in
            let g : pos 0 <ℤ y = q.0 in
            let a : pos 0 ≤ℤ (pos m.0 *ℤ x) = 0≤-*ℤ (pos m.0) x (omega (arith, ints)) (omega (arith, ints, f)) in
            (omega (arith, ints, a, g), entries v u (omega arith) h.1 q.1)

-- with the first in the closed cone and the other in the open one, it is in the open one
beside_open : (m : ℕ) (v u : List ℤ) (bs : List MarkedPolynomial) → length v ≡ length u → IsInClosedCone v bs → IsInOpenCone u bs →
    IsInOpenCone (vector_sum (scaled (pos m) v) u) bs
beside_open m v u bs e h o b c x i = at (o b c x i)
  where
    value : (x : Exponents) → whole_weight (vector_sum (scaled (pos m) v) u) x ≡ pos m *ℤ whole_weight v x +ℤ whole_weight u x
    value x = weight-sum (scaled (pos m) v) u x (length-times (pos m) v ∙ e) ∙ ap (λ z. z +ℤ whole_weight u x) (weight-multiple (pos m) v x)

    at : (same x b.head ≡ true) ⊎ (whole_weight u x <ℤ whole_weight u b.head) →
        (same x b.head ≡ true) ⊎ (whole_weight (vector_sum (scaled (pos m) v) u) x <ℤ whole_weight (vector_sum (scaled (pos m) v) u) b.head)
    at (inl s) = inl s
    at (inr l) = let g : (pos m *ℤ whole_weight v x) ≤ℤ (pos m *ℤ whole_weight v b.head) =
        ≤ℤ-*ℤ (pos m) (whole_weight v x) (whole_weight v b.head) (omega (arith, ints)) (h b c x i) in
        inr (omega (arith, ints, g, l, value x, value b.head))

-- ---- each vector of a region

-- the marks for a weight before lex
closed_of_marks : (n : ℕ) (k : Region) (v : List ℤ) (bs : List MarkedPolynomial) → IsInRegion n k v → AreMarked (IsWeightedBelow (gains v)) bs →
    IsInClosedCone v bs
closed_of_marks n k v bs r m b c x i = at ((m b c).tail x i)
  where
    natural : (x : Exponents) → pos (weight (gains v) x) ≡ whole_weight v x
    natural = region-weight n k v r

    at : (same x b.head ≡ true) ⊎ IsWeightedBelow (gains v) x b.head → whole_weight v x ≤ℤ whole_weight v b.head
    at (inl s) = omega (arith, ints, weight-same (gains v) x b.head s, natural x, natural b.head)
    at (inr (inl l)) = omega (arith, ints, l, natural x, natural b.head)
    at (inr (inr e)) = omega (arith, ints, e.0, natural x, natural b.head)

pub basis_at : (n : ℕ) (k : Region) (fs : List Terms) (v : List ℤ) → AreInVariables n fs → IsInRegion n k v →
    (bs : List MarkedPolynomial) × IsBasisInRegion n fs k bs × AreMarked (IsWeightedBelow (gains v)) bs × IsInClosedCone v bs
basis_at n k fs v vars r = at (weighted_exists n fs (gains v) vars)
  where
    at : ((bs : List MarkedPolynomial) × IsMarkedReducedBasis n fs bs × AreMarked (IsWeightedBelow (gains v)) bs) →
        (bs : List MarkedPolynomial) × IsBasisInRegion n fs k bs × AreMarked (IsWeightedBelow (gains v)) bs × IsInClosedCone v bs
    at b = with_vector (basis_everywhere n fs b.0 b.1)
      where
        closed : IsInClosedCone v b.0
        closed = closed_of_marks n k v b.0 r b.2

        with_vector : IsBasisInRegion n fs (all_positive n) b.0 →
            (bs : List MarkedPolynomial) × IsBasisInRegion n fs k bs × AreMarked (IsWeightedBelow (gains v)) bs × IsInClosedCone v bs
        with_vector e = moved (beside_inside n k v e.weight r e.inside.width e.inside.positive)
          where
            moved : ((m : ℕ) × IsInRegion n k (vector_sum (scaled (pos m) v) e.weight)) →
                (bs : List MarkedPolynomial) × IsBasisInRegion n fs k bs × AreMarked (IsWeightedBelow (gains v)) bs × IsInClosedCone v bs
            moved m = (
              b.0,
              basis_of_vector n fs k b.0 b.1 (
                vector_sum (scaled (pos m.0) v) e.weight,
                m.1,
                beside_open m.0 v e.weight b.0 (r.width ∙ sym e.inside.width)
                    closed (open_of_marks n (all_positive n) b.0 e.weight e.inside e.marked),
              ),
              b.2,
              closed,
            )
