-- The theorems that functions of this crate name.
use Rattle.std.specs.Prelude.{◌≡◌, ◌≢◌, ℕ, ◌<◌, List, [], ◌∷◌, ◌++◌, ℤ, ◌≤ℤ◌, length, All, AllPairs, Contains}
use Rattle.gf_vec.specs.Vector.{dot}
use Rattle.gf_gordan.specs.Alternative.{AreRows}
use Rattle.gf_duality_theory.specs.Faces.{Rows, IsInCone}
use Rattle.gf_patterns_theory.specs.PatternRows.{point_at, AreSingleCones, ArePairCones}
use Rattle.gf_patterns_theory.specs.Cuts.{IsHeldBy, AreCuts}
use Rattle.gf_patterns_theory.specs.Patterns.{HavePoints}
use Rattle.gf_patterns_theory.specs.PatternFans.{IsPrevarietyList, IsMinkowskiList}
use Rattle.gf_patterns_theory.specs.Refinements.{HaveEntries}
use Rattle.gf_levels_theory.specs.declared.members.Members.{Members}
use Rattle.gf_levels_theory.specs.declared.members.Members.TheVariants.{One, Two}
use Rattle.gf_levels_theory.specs.Levels.{IsLevel}
use Rattle.gf_levels_theory.specs.Parts.{AreTops, IsTopOn, AreOfTops}
use Rattle.gf_levels_theory.specs.VertexPoints.{AreVertexPoints}
use Rattle.gf_levels_theory.specs.Generators.{generators, HasRays, AreOuter}

-- the parts of a cone on which each of some points is highest are its level, where each point is nowhere above one of those; the levels of two lists are
-- that of both together; those of the parts that hold the others suffice; and a level is the cuts of the cones by those of all points, or of all pairs
pub record LevelsAreOfParts : Type 0 where
  pub parts : (members : Members) (n : ℕ) (A : List (List ℤ)) (c : Rows) (out : List Rows) (tops : List ℕ) → AreRows n A → AreTops n A c tops →
      All (λ x. x < length A) tops → AreOfTops members n A c tops tops out → IsLevel members n A (c ∷ []) out
  pub joined : (members : Members) (n : ℕ) (A : List (List ℤ)) (cs ds ps qs : List Rows) → IsLevel members n A cs ps → IsLevel members n A ds qs →
      IsLevel members n A (cs ++ ds) (ps ++ qs)
  pub outer : (members : Members) (n : ℕ) (A : List (List ℤ)) (cs ps kept : List Rows) → IsLevel members n A cs ps → AreOuter n ps kept →
      IsLevel members n A cs kept
  pub singles : (n : ℕ) (A : List (List ℤ)) (cs ds ps : List Rows) → AreSingleCones A ds → IsLevel One n A cs ps → AreCuts n cs ds ps
  pub pairs : (n : ℕ) (A : List (List ℤ)) (cs ds ps : List Rows) → ArePairCones A ds → IsLevel Two n A cs ps → AreCuts n cs ds ps

-- a point whose products with what generates the cone are nowhere above those of another one is nowhere above it on the cone; where a point is
-- highest on the cone, and one is as high as it on each generator on which another one is, it is so on all of the cone; and a cone lies inside
-- another one with its lineality basis and its rays
pub record ProductsTellParts : Type 0 where
  pub below : (n : ℕ) (c : Rows) (lineality rays : List (List ℤ)) (a b v : List ℤ) → HasRays n c lineality rays → length a ≡ length b →
      ((x : List ℤ) → Contains (generators rays lineality) x → dot a x ≤ℤ dot b x) → length v ≡ n → IsInCone c v → dot a v ≤ℤ dot b v
  pub ties : (n : ℕ) (c : Rows) (lineality rays A : List (List ℤ)) (top x y : ℕ) (v : List ℤ) → HasRays n c lineality rays → AreRows n A → top < length A →
      x < length A → y < length A → IsTopOn n A top c →
      ((z : List ℤ) → Contains (generators rays lineality) z → dot (point_at A top) z ≡ dot (point_at A x) z → dot (point_at A top) z ≡ dot (point_at A y) z) →
      length v ≡ n → IsInCone c v → dot (point_at A x) v ≡ dot (point_at A top) v → dot (point_at A y) v ≡ dot (point_at A top) v
  pub held : (n : ℕ) (c d : Rows) (lineality rays more : List (List ℤ)) → HasRays n c lineality rays → HasRays n d lineality more →
      ((x : List ℤ) → Contains rays x → Contains more x) → IsHeldBy n c d

-- the level of the cones of a prevariety by the pairs of one polynomial more, of its vertices alone, is a list of cones for the prevariety of all of them; and
-- so that of a Minkowski fan by single points
pub record LevelsAreOfPatterns : Type 0 where
  pub prevariety : (n : ℕ) (As : List (List (List ℤ))) (A B : List (List ℤ)) (cs ps : List Rows) → AreRows n A → AllPairs (λ x y. x ≢ y) A →
      AreVertexPoints n A B → HavePoints As → HavePoints (A ∷ []) → HaveEntries n ps → IsPrevarietyList n As cs → IsLevel Two n B cs ps →
      IsPrevarietyList n (As ++ A ∷ []) ps
  pub minkowski : (n : ℕ) (As : List (List (List ℤ))) (A B : List (List ℤ)) (cs ps : List Rows) → AreRows n A →
      AreVertexPoints n A B → HavePoints As → HavePoints (A ∷ []) → HaveEntries n ps → IsMinkowskiList n As cs → IsLevel One n B cs ps →
      IsMinkowskiList n (As ++ A ∷ []) ps
