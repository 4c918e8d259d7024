-- No facet leads towards a root weight exactly from the reduced basis for its order: by the weight, then lex.
-- To cite: root_basis, root_is_top, one_root.
use Rattle.std.proofs.Common.{◌≡◌, ◌⊎◌, ℕ, Bool, true, false, List, All, ℤ, pos, ◌≤ℤ◌, refl, inl, inr}
use Rattle.gf_exponents_theory.specs.Exponents.{Exponents, same}
use Rattle.gf_exponents_theory.specs.Orders.{IsStrict, IsWeightedBelow, gains}
use Rattle.gf_exponents_theory.proofs.ExponentsLaws.{same-refl, same_flip}
use Rattle.gf_exponents_theory.proofs.OrderLaws.{weighted-order}
use Rattle.gf_poly.specs.Polynomial.{Terms}
use Rattle.gf_poly.specs.Marking.{MarkedPolynomial}
use Rattle.gf_gordan.specs.Alternative.{AreRows}
use Rattle.gf_ideal_theory.specs.Membership.{HasMonomial, AreInVariables}
use Rattle.gf_ideal_theory.specs.Marks.{AreMarked}
use Rattle.gf_ideal_theory.specs.MonomialOrders.{MonomialOrder}
use Rattle.gf_ideal_theory.specs.Bases.{IsReducedBasisFor}
use Rattle.gf_ideal_theory.proofs.LawsOfBasesHold.{bases_may_be_interreduced, reduced_bases_are_unique}
use Rattle.gf_facets_theory.specs.Rows.{IsNormal}
use Rattle.gf_facets_theory.specs.LexPositive.{IsLexPositive, rooted}
use Rattle.gf_facets_theory.specs.Regions.{Region}
use Rattle.gf_facets_theory.specs.MarkedBases.{AreCanonical, IsBasisInRegion}
use Rattle.gf_facets_theory.proofs.NormalLaws.{IsNormalOf, normal_of, normal_of_monomial}
use Rattle.gf_facets_theory.proofs.SystemLaws.{open_of_marks}
use Rattle.gf_reverse_theory.specs.Upward.{IsRootWeight, LeadsTowards}
use Rattle.gf_reverse_theory.proofs.StepsLaws.{below_by_positive, below_by_negative}
use Rattle.gf_reverse_theory.proofs.RootwardLaws.{normal_sign, negative_gives_flippable}

-- a basis from which no facet leads towards the root is the reduced one for its order
pub root_basis : (n : ℕ) (fs : List Terms) (k : Region) (r : List ℤ) (bs : List MarkedPolynomial) → AreInVariables n fs → AreRows n k.rows →
    IsRootWeight n k r → IsBasisInRegion n fs k bs → ((a : List ℤ) → LeadsTowards n k r bs a → ⊥) → IsReducedBasisFor n fs (IsWeightedBelow (gains r)) bs
root_basis n fs k r bs v wide rw b none =
    bases_may_be_interreduced.reduced_for (MonomialOrder.weighted (gains r)) n fs bs v b.reduced.basis marked b.reduced.tails b.reduced.heads
  where
    positive : (a : List ℤ) → IsNormal bs a → IsLexPositive (rooted r a)
    positive a q = elim (normal_sign n bs r a b.arranged.canonical q) [
      | inl p ↦ p
      | inr m ↦ absurd (let u = negative_gives_flippable n k r bs b.weight a wide rw b.arranged.canonical b.inside
          (open_of_marks n k bs b.weight b.inside b.marked) q m in none u.0 u.1)
    ]

    marked : AreMarked (IsWeightedBelow (gains r)) bs
    marked c h = record { monic = (b.marked c h).monic; tail = λ x m. tail (same x c.head) x m refl }
      where
        tail : (t : Bool) (x : Exponents) → HasMonomial c.poly x → same x c.head ≡ t → (same x c.head ≡ true) ⊎ IsWeightedBelow (gains r) x c.head
        tail true x m e = inl e
        tail false x m e = inr (let q = normal_of_monomial n bs c x b.arranged.canonical h m e in below_by_positive r q.2.0 q.0 x c.head rw.natural q.2.1 q.2.2
            (positive q.0 q.1))

-- and from the reduced one for the order of a weight none does
pub root_is_top : (n : ℕ) (fs : List Terms) (k : Region) (r : List ℤ) (bs : List MarkedPolynomial) → All (λ c. pos 0 ≤ℤ c) r → AreCanonical n bs →
    IsReducedBasisFor n fs (IsWeightedBelow (gains r)) bs → (a : List ℤ) → LeadsTowards n k r bs a → ⊥
root_is_top n fs k r bs natural c b a u = at (normal_of n bs a c u.flippable.inside.normal)
  where
    o : IsStrict (IsWeightedBelow (gains r))
    o = (weighted-order (gains r)).strict

    at : IsNormalOf n bs a → ⊥
    at q = elim ((b.basis.marked q.member q.contained).tail q.at q.there) [
      | inl e ↦ (let f : same q.member.head q.at ≡ true = same_flip q.at q.member.head e in let g = q.unmarked in absurd (cc))
      | inr l ↦ o.irreflexive q.at q.at (same-refl q.at) (o.transitive q.at q.member.head q.at l
          (below_by_negative r q.steps a q.at q.member.head natural q.some q.apart u.negative))
    ]

-- an ideal has one such basis in a region
pub one_root : (n : ℕ) (fs : List Terms) (k : Region) (r : List ℤ) (bs cs : List MarkedPolynomial) → AreInVariables n fs → AreRows n k.rows →
    IsRootWeight n k r → IsBasisInRegion n fs k bs → IsBasisInRegion n fs k cs → ((a : List ℤ) → LeadsTowards n k r bs a → ⊥) →
    ((a : List ℤ) → LeadsTowards n k r cs a → ⊥) → bs ≡ cs
one_root n fs k r bs cs v wide rw b c p q =
    reduced_bases_are_unique.arranged n bs cs b.arranged c.arranged (reduced_bases_are_unique.for_order (MonomialOrder.weighted (gains r)) n fs bs cs
    (root_basis n fs k r bs v wide rw b p) (root_basis n fs k r cs v wide rw c q))
