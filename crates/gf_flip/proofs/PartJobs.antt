-- What a run on the parts asks for: they are in the ring, and the order along the facet is good on them.
-- To cite: in_ring, suited.
use Rattle.std.specs.Prelude.{◌≡◌, ℕ, List, [], ◌∷◌, Contains, All, ℤ, pos, negsuc, ◌+ℤ◌, ◌*ℤ◌, ◌≤ℤ◌}
use Rattle.std.specs.List.{AllByRecursion}
use Rattle.std.proofs.Common.{arith, refl, ap, ◌∙◌, subst}
use Rattle.std.proofs.lemmas.Int.{ints}
use Rattle.std.proofs.lemmas.List.Elements.{recursion_from_All}
use Rattle.gf_exponents_theory.specs.Exponents.{Exponents, whole_weight}
use Rattle.gf_exponents_theory.specs.Orders.{negated_row_of, gains}
use Rattle.gf_exponents_theory.specs.SixOrders.{MonomialOrder}
use Rattle.gf_vec.specs.Vector.{dot}
use Rattle.gf_poly.specs.Polynomial.{Terms}
use Rattle.gf_poly.specs.Marking.{MarkedPolynomial, polys}
use Rattle.gf_ideal_theory.specs.Membership.{HasMonomial}
use Rattle.gf_ideal_theory.specs.OrderTable.{AreMultipleApart}
use Rattle.gf_buchberger.specs.Tasks.{HaveRingVariables, IsSuited}
use Rattle.gf_buchberger.proofs.TaskLaws.{orders_that_suit}
use Rattle.gf_facets_theory.specs.Rows.{negated}
use Rattle.gf_facets_theory.proofs.RegionLaws.{region-natural, region-positive}
use Rattle.gf_initial_theory.specs.Parts.{Matching, IsPartAlong, ArePartsAlong}
use Rattle.gf_initial_theory.proofs.MatchingLaws.{matched-map}
use Rattle.gf_initial_theory.proofs.PartLaws.{IsLevelPart}
use Rattle.gf_initial_theory.proofs.SideLaws.{IsSide, level_of_along, parts_of_one_class, apart-negated}
use Rattle.gf_initial_theory.proofs.FlipLaws.{side_of_inside, along_negated}
use Rattle.gf_strands.specs.Along.{AreAlong}
use Rattle.gf_lifts.specs.Crossings.{IsCrossing}

-- they are in the ring
pub in_ring : (n : ℕ) (bs : List MarkedPolynomial) (a : List ℤ) (fs : List Terms) → IsCrossing n bs a → AreAlong a bs fs → HaveRingVariables n fs
in_ring n bs a fs c h = record { each = h.variables n (λ b k. (c.basis.arranged.canonical b k).variables) }

-- the exponents of a part are multiples of the normal apart
parts_apart : (n : ℕ) (bs : List MarkedPolynomial) (a : List ℤ) (c : IsCrossing n bs a) (ps : List MarkedPolynomial) → ArePartsAlong a bs ps →
    (f : Terms) → Contains (polys ps) f → (x y : Exponents) → HasMonomial f x → HasMonomial f y → AreMultipleApart a x y
parts_apart n bs a c ps h f k x y p q = apart-negated a x y (parts_of_one_class n c.generators c.flippable.point (negated a) bs ps s l f k x y p q)
  where
    s : IsSide n c.generators c.flippable.point (negated a) bs
    s = side_of_inside n c.generators c.region bs a c.flippable.point c.basis c.flippable.inside

    l : Matching (IsLevelPart c.flippable.point) bs ps
    l = matched-map (IsPartAlong a) (IsLevelPart c.flippable.point) bs ps (λ d p k i. level_of_along c.flippable.point (negated a) d p s.nonzero s.zero
        (s.marked d k) (along_negated a d p i)) h

-- weights as exponents
orthogonal : (a v : List ℤ) → All (λ x. pos 0 ≤ℤ x) v → whole_weight a (gains v) ≡ dot a v
orthogonal a v h = at a v (recursion_from_All (λ x. pos 0 ≤ℤ x) v h)
  where
    at : (a v : List ℤ) → AllByRecursion (λ x. pos 0 ≤ℤ x) v → whole_weight a (gains v) ≡ dot a v
    at [] v h = refl
    at (x ∷ a) [] h = refl
    at (x ∷ a) (pos k ∷ v) h = ap (λ z. x *ℤ pos k +ℤ z) (at a v h.1)
    at (x ∷ a) (negsuc k ∷ v) h = absurd (omega (arith, ints, h.0))

-- the order along the facet is good on them
pub suited : (n : ℕ) (bs : List MarkedPolynomial) (a : List ℤ) (fs : List Terms) → IsCrossing n bs a → AreAlong a bs fs →
    IsSuited (MonomialOrder.facet (negated_row_of a)) n fs
suited n bs a fs c h = orders_that_suit.facet n a (gains c.flippable.point) fs (in_ring n bs a fs c h)
    (region-positive n c.region c.flippable.point c.flippable.region)
    (orthogonal a c.flippable.point (region-natural n c.region c.flippable.point c.flippable.region) ∙ c.flippable.inside.zero)
    (λ f k x y p q. parts_apart n bs a c h.parts h.each f (subst (λ (z : List Terms). Contains z f) h.polynomials k) x y p q)
