-- The facets alone define the cone: a vector lies in it where no normal of a facet is negative on it.
-- To cite: closed_by_facets, open_by_facets.
use Rattle.std.proofs.Common.{◌≡◌, ◌⊎◌, ℕ, List, [], length, ℤ, pos, neg_ℤ, ◌+ℤ◌, ◌*ℤ◌, ◌<ℤ◌, ◌≤ℤ◌, arith, sym, ap, ◌∙◌, inl, inr}
use Rattle.std.proofs.Math.IntN.{*ℤ-zero}
use Rattle.std.proofs.lemmas.Int.{ints}
use Rattle.std.proofs.lemmas.List.Elements.{All-nil}
use Rattle.gf_vec.specs.Vector.{dot}
use Rattle.gf_vec.proofs.VectorLaws.{dot_comm}
use Rattle.gf_poly.specs.Marking.{MarkedPolynomial, Each}
use Rattle.gf_ideal_theory.proofs.ListLaws.{contained_each}
use Rattle.gf_facets_theory.specs.Rows.{IsNormal}
use Rattle.gf_facets_theory.specs.LexPositive.{IsNegative}
use Rattle.gf_facets_theory.specs.Facets.{IsInClosedCone, IsInOpenCone, IsFacet}
use Rattle.gf_facets_theory.specs.MarkedBases.{AreCanonical}
use Rattle.gf_facets_theory.proofs.VectorLaws.{three}
use Rattle.gf_facets_theory.proofs.RegionLaws.{past, dot-past, bounds, beats}
use Rattle.gf_facets_theory.proofs.NormalListLaws.{NormalsListed, normals_listed}
use Rattle.gf_facets_theory.proofs.ConeLaws.{normals_open, closed_by_normals, open_by_normals}
use Rattle.gf_facets_theory.proofs.FirstLaws.{CrossedFirst, crossed_first}

-- a facet whose normal is negative on v, as b is
record HasFacetBelow (n : ℕ) (bs : List MarkedPolynomial) (v : List ℤ) : Type 0 where
  normal : List ℤ
  facet : IsFacet n bs normal
  below : dot normal v <ℤ pos 0

facet_below : (n : ℕ) (bs : List MarkedPolynomial) (w v b : List ℤ) → AreCanonical n bs → IsInOpenCone w bs → IsNormal bs b →
    dot b v <ℤ pos 0 → HasFacetBelow n bs v
facet_below n bs w v b k o q l =
    at (crossed_first n bs w v b [] k o (All-nil (λ t. length t ≡ n)) (All-nil (λ t. pos 0 <ℤ dot t w)) (All-nil (λ t. pos 0 <ℤ dot t v)) q negative)
  where
    negative : IsNegative v b
    negative = inl (omega (arith, ints, l))

    at : CrossedFirst n bs v [] b → HasFacetBelow n bs v
    at f = record { normal = f.normal; facet = record { point = f.point; width = f.width; inside = f.inside }; below = f.as_far l }

pub closed_by_facets : (n : ℕ) (bs : List MarkedPolynomial) (w v : List ℤ) → AreCanonical n bs → IsInOpenCone w bs →
    ((a : List ℤ) → IsFacet n bs a → pos 0 ≤ℤ dot a v) → IsInClosedCone v bs
closed_by_facets n bs w v k o h = closed_by_normals n bs v k (λ b q. at b q (three (dot b v) (pos 0)))
  where
    at : (b : List ℤ) → IsNormal bs b → (dot b v <ℤ pos 0) ⊎ ((dot b v ≡ pos 0) ⊎ (pos 0 <ℤ dot b v)) → pos 0 ≤ℤ dot b v
    at b q (inr (inl e)) = omega (arith, ints, e)
    at b q (inr (inr l)) = omega (arith, ints, l)
    at b q (inl l) = let f = facet_below n bs w v b k o q l in let g = f.below in absurd (omega (arith, ints, h f.normal f.facet, g))

pub open_by_facets : (n : ℕ) (bs : List MarkedPolynomial) (w v : List ℤ) → AreCanonical n bs → IsInOpenCone w bs →
    length w ≡ n → length v ≡ n → ((a : List ℤ) → IsFacet n bs a → pos 0 <ℤ dot a v) → IsInOpenCone v bs
open_by_facets n bs w v k o e f h = bounded (normals_listed bs)
  where
    bounded : NormalsListed bs → IsInOpenCone v bs
    bounded l = below_bound (bounds (λ a. dot a w) l.list)
      where
        below_bound : ((m : ℕ) × Each (λ a. dot a w <ℤ pos m) l.list) → IsInOpenCone v bs
        below_bound m = open_by_normals n bs v k (λ b q. at b q (three (dot b v) (pos 0)))
          where
            -- far along v, less w
            value : (a : List ℤ) → dot a (past m.0 v w) ≡ pos m.0 *ℤ dot a v +ℤ neg_ℤ (dot a w)
            value a = dot_comm a (past m.0 v w) ∙ dot-past m.0 v w a (f ∙ sym e) ∙ ap (λ z. pos m.0 *ℤ z +ℤ neg_ℤ (dot w a)) (dot_comm v a) ∙
                ap (λ z. pos m.0 *ℤ dot a v +ℤ neg_ℤ z) (dot_comm w a)

            clash : (u b : List ℤ) → IsNormal bs b → HasFacetBelow n bs (past m.0 v w) → ⊥
            clash u b q g =
                let s = contained_each (λ a. dot a w <ℤ pos m.0) l.list m.1 g.normal (l.all g.normal g.facet.inside.normal) in
                let p = beats m.0 (dot g.normal v) (dot g.normal w) (h g.normal g.facet) s in
                let d = g.below in
                absurd (omega (arith, ints, p, d, value g.normal))

            at : (b : List ℤ) → IsNormal bs b → (dot b v <ℤ pos 0) ⊎ ((dot b v ≡ pos 0) ⊎ (pos 0 <ℤ dot b v)) → pos 0 <ℤ dot b v
            at b q (inr (inr l)) = l
            at b q (inl l) = let g = facet_below n bs w v b k o q l in let d = g.below in absurd (omega (arith, ints, h g.normal g.facet, d))
            at b q (inr (inl z)) =
                absurd (clash v b q (facet_below n bs w (past m.0 v w) b k o q (omega (
                  arith,
                  ints,
                  value b,
                  ap (λ y. pos m.0 *ℤ y) z,
                  *ℤ-zero (pos m.0),
                  normals_open n bs w k o b q,
                ))))
