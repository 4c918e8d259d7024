-- The theorems that functions of this crate name.
use Rattle.std.specs.Prelude.{◌≡◌, ◌≢◌, ◌↔◌, ◌<◌, ℕ, List, [], ◌∷◌, ◌++◌, ℤ, map, pos, AllPairs, Contains, length}
use Rattle.gf_frac.specs.Fraction.{zero_ℚ}
use Rattle.gf_poly.specs.Polynomial.{Terms, HasVariables, IsDescending, coefficient}
use Rattle.gf_poly.specs.InitialForms.{IsInitialForm}
use Rattle.gf_poly.specs.declared.Term.{Term}
use Rattle.gf_gordan.specs.Alternative.{AreRows, IsSolvable}
use Rattle.gf_duality_theory.specs.Faces.{Rows, SameCone, IsFaceOf, IsInterior}
use Rattle.gf_fans_theory.specs.Fans.{MeetPairwise}
use Rattle.gf_patterns_theory.specs.Refinements.{HaveEntries, all_meets, IsCommonRefinement, HaveSameFaces, IsCoveredBy}
use Rattle.gf_patterns_theory.specs.Interiors.{IsRelativeInterior, HaveInteriors, IsAloneAround}
use Rattle.gf_patterns_theory.specs.Patterns.{points, IsHighest, IsClosedCone, IsAnywhere, IsOnPrevariety, ArePatternCones, HavePoints}
use Rattle.gf_patterns_theory.specs.PatternRows.{point_at, single_rows, AreSingleCones, ArePairCones}
use Rattle.gf_patterns_theory.specs.Vertices.{IsVertex, AreVertexCones, AreVertexPairCones}
use Rattle.gf_patterns_theory.specs.Cuts.{AreCuts}
use Rattle.gf_patterns_theory.specs.PatternFans.{whole_space, IsPrevarietyList, IsMinkowskiList}

-- the meets of the cones of two fans are a fan, and its cones are exactly the meets of a cone of the one and a cone of the other
pub record MeetsAreRefinements : Type 0 where
  pub fan : (n : ℕ) (cs ds : List Rows) → MeetPairwise n cs → MeetPairwise n ds → MeetPairwise n (all_meets cs ds)
  pub width : (n : ℕ) (cs ds : List Rows) → HaveEntries n cs → HaveEntries n ds → HaveEntries n (all_meets cs ds)
  pub refinement : (n : ℕ) (cs ds : List Rows) → IsCommonRefinement n cs ds (all_meets cs ds)

-- parts that cover what the cones of two fans share are a fan, and its cones are exactly the meets of a cone of the one and a cone of the
-- other
pub record CutsAreRefinements : Type 0 where
  pub fan : (n : ℕ) (cs ds parts : List Rows) → HaveEntries n cs → HaveEntries n ds → MeetPairwise n cs → MeetPairwise n ds →
      AreCuts n cs ds parts → MeetPairwise n parts
  pub refinement : (n : ℕ) (cs ds parts : List Rows) → HaveEntries n cs → HaveEntries n ds → HaveEntries n parts →
      MeetPairwise n cs → MeetPairwise n ds → AreCuts n cs ds parts → IsCommonRefinement n cs ds parts

-- each cone has an interior vector, and each interior vector is one of the relative interior
pub record ConesHaveInteriors : Type 0 where
  pub inner : (n : ℕ) (c : Rows) → AreRows n c.inequalities → AreRows n c.equations → (v : List ℤ) × IsInterior n c v
  pub relative : (n : ℕ) (c : Rows) (v : List ℤ) → IsInterior n c v → IsRelativeInterior n c v
  pub faces : (n : ℕ) (cones : List Rows) → HaveEntries n cones → HaveInteriors n cones

-- the faces of a cone don't depend on its rows, and a face of a face is a face
pub record FacesOfFacesAreFaces : Type 0 where
  pub same : (n : ℕ) (c d f : Rows) (w : List ℤ) → SameCone n c d → IsRelativeInterior n f w → IsFaceOf n f c → IsFaceOf n f d
  pub nested : (n : ℕ) (c d f : Rows) (w : List ℤ) → IsRelativeInterior n f w → IsFaceOf n d c → IsFaceOf n f d → IsFaceOf n f c

-- cones and those of them that hold the others have the same faces, and what the faces are follows from these alone
pub record MaximalConesSuffice : Type 0 where
  pub covered : (n : ℕ) (cs ms : List Rows) → HaveEntries n cs → HaveEntries n ms → IsCoveredBy n cs ms → HaveSameFaces n cs ms
  pub prevariety : (n : ℕ) (As : List (List (List ℤ))) (cs ds : List Rows) → HaveSameFaces n cs ds → ArePatternCones IsOnPrevariety n As cs →
      ArePatternCones IsOnPrevariety n As ds
  pub minkowski : (n : ℕ) (As : List (List (List ℤ))) (cs ds : List Rows) → HaveSameFaces n cs ds → ArePatternCones IsAnywhere n As cs →
      ArePatternCones IsAnywhere n As ds
  pub refinement : (n : ℕ) (cs ks ds ls es ms : List Rows) → HaveSameFaces n cs ks → HaveSameFaces n ds ls → HaveSameFaces n es ms →
      IsCommonRefinement n cs ds es → IsCommonRefinement n ks ls ms

-- the pattern of a polynomial at a vector is that of the terms of its initial form
abbrev pub PatternsAreOfInitialForms : Type 0
PatternsAreOfInitialForms = (n : ℕ) (w : List ℤ) (f h : Terms) (t : Term) → HasVariables n f → IsDescending f → IsInitialForm w f h → Contains f t →
    IsHighest (points f) w (map pos t.mono) ↔ (coefficient h t.mono ≢ zero_ℚ)

-- the cones of single points are the Minkowski fan of one polynomial, those of pairs its hypersurface; of no polynomial
-- both are the whole space
pub record PatternsHaveCones : Type 0 where
  pub singles : (n : ℕ) (A : List (List ℤ)) (b : List ℤ) (cones : List Rows) → AreRows n A → Contains A b → AreSingleCones A cones →
      IsMinkowskiList n (A ∷ []) cones
  pub pairs : (n : ℕ) (A : List (List ℤ)) (cones : List Rows) → AreRows n A → AllPairs (λ x y. x ≢ y) A → ArePairCones A cones →
      IsPrevarietyList n (A ∷ []) cones
  pub prevariety : (n : ℕ) → IsPrevarietyList n [] (whole_space ∷ [])
  pub minkowski : (n : ℕ) → IsMinkowskiList n [] (whole_space ∷ [])

-- the cones of the vertices alone, and of the pairs of vertices, will do; and a point is one where the rows of its cone have a
-- vector on which each is positive
pub record VerticesSuffice : Type 0 where
  pub singles : (n : ℕ) (A : List (List ℤ)) (b : List ℤ) (cones : List Rows) → AreRows n A → Contains A b → AreVertexCones n A cones →
      IsMinkowskiList n (A ∷ []) cones
  pub pairs : (n : ℕ) (A : List (List ℤ)) (cones : List Rows) → AreRows n A → AllPairs (λ x y. x ≢ y) A → AreVertexPairCones n A cones →
      IsPrevarietyList n (A ∷ []) cones
  pub vertex : (n : ℕ) (A : List (List ℤ)) (i : ℕ) → AreRows n A → AllPairs (λ x y. x ≢ y) A → i < length A →
      IsVertex n A (point_at A i) ↔ IsSolvable n (single_rows A i).inequalities []

-- the common refinement of the fans of two lists of polynomials is the fan of both together
pub record PatternsAreRefined : Type 0 where
  pub prevariety : (n : ℕ) (As Bs : List (List (List ℤ))) (cs ds es : List Rows) → HavePoints As → HavePoints Bs → HaveEntries n es →
      ArePatternCones IsOnPrevariety n As cs → ArePatternCones IsOnPrevariety n Bs ds → IsCommonRefinement n cs ds es →
      ArePatternCones IsOnPrevariety n (As ++ Bs) es
  pub minkowski : (n : ℕ) (As Bs : List (List (List ℤ))) (cs ds es : List Rows) → HavePoints As → HavePoints Bs → HaveEntries n es →
      ArePatternCones IsAnywhere n As cs → ArePatternCones IsAnywhere n Bs ds → IsCommonRefinement n cs ds es → ArePatternCones IsAnywhere n (As ++ Bs) es

-- each vector of the prevariety is in the relative interior of exactly one of its cones, the closed cone of its own pattern; and
-- so is each vector whatever of the Minkowski fan
pub record VectorsAreInOneCone : Type 0 where
  pub prevariety : (n : ℕ) (As : List (List (List ℤ))) (cones : List Rows) (w : List ℤ) → ArePatternCones IsOnPrevariety n As cones → HavePoints As →
      length w ≡ n → IsOnPrevariety As w → (f : Rows) × (IsClosedCone n As w f × IsAloneAround n cones w f)
  pub minkowski : (n : ℕ) (As : List (List (List ℤ))) (cones : List Rows) (w : List ℤ) → ArePatternCones IsAnywhere n As cones → HavePoints As → length w ≡ n →
      (f : Rows) × (IsClosedCone n As w f × IsAloneAround n cones w f)
