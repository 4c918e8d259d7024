-- Parts that cover what the cones of two fans share: they meet in faces, and their faces are the common refinement. And terms that are
-- nowhere higher than another one on a cone fall away there.
use Rattle.std.proofs.Common.{◌≡◌, ℕ, List, [], ◌∷◌, length, ℤ, ◌≤ℤ◌, arith, sym, ap, subst, Contains, inl, inr}
use Rattle.std.proofs.lemmas.Int.{ints}
use Rattle.gf_vec.specs.Vector.{dot}
use Rattle.gf_gordan.specs.Alternative.{AreRows, GordansAlternative}
use Rattle.gf_duality_theory.specs.Faces.{Rows, IsInCone, SameCone, IsFaceOf}
use Rattle.gf_duality_theory.proofs.ListLaws.{none_in, in_cons}
use Rattle.gf_fans_theory.specs.Fans.{meet, MeetInFaces, MeetPairwise}
use Rattle.gf_fans_theory.proofs.Meeting.{left_in, right_in}
use Rattle.gf_fans_theory.proofs.FanLaws.{both_in, face_same, same_turned}
use Rattle.gf_patterns_theory.specs.Refinements.{HaveEntries, all_meets, IsCommonRefinement, IsCoveredBy}
use Rattle.gf_patterns_theory.specs.Interiors.{IsRelativeInterior}
use Rattle.gf_patterns_theory.specs.Patterns.{HasPattern}
use Rattle.gf_patterns_theory.specs.Cuts.{IsHeldBy, AreCuts}
use Rattle.gf_patterns_theory.proofs.MeetLaws.{meets_meet}
use Rattle.gf_patterns_theory.proofs.RefinementLaws.{all_meet, fan_of, in_meets, of_meets, meets_refine, meets_width}
use Rattle.gf_patterns_theory.proofs.InnerLaws.{inner}
use Rattle.gf_patterns_theory.proofs.InteriorLaws.{interior_relative}
use Rattle.gf_patterns_theory.proofs.NestedFaces.{face_of_same}
use Rattle.gf_patterns_theory.proofs.CoverLaws.{covered_same, refinement_same}
use Rattle.gf_patterns_theory.proofs.RowLaws.{IsRowsOf}

-- a vector of its relative interior
within : (n : ℕ) (c : Rows) → GordansAlternative → AreRows n c.inequalities × AreRows n c.equations → (w : List ℤ) × IsRelativeInterior n c w
within n c g w = let r = inner n c g w.0 w.1 in (r.0, interior_relative n c r.0 r.1)

-- cones that are the same as two that meet in faces do so, too
same_meeting : (n : ℕ) (p q c d : Rows) → GordansAlternative → AreRows n (meet c d).inequalities × AreRows n (meet c d).equations →
    SameCone n p c → SameCone n q d → MeetInFaces n c d → MeetInFaces n p q
same_meeting n p q c d g w a b m =
    let r = within n (meet c d) g w in
    let e : SameCone n (meet c d) (meet p q) = λ v l. (
      (λ s. both_in p q v ((a v l).1 (left_in c d v s)) ((b v l).1 (right_in c d v s))),
      (λ s. both_in c d v ((a v l).0 (left_in p q v s)) ((b v l).0 (right_in p q v s))),
    ) in
    let left : IsFaceOf n (meet c d) p = face_of_same n c p (meet c d) r.0 (same_turned n p c a) r.1 m.0 in
    let right : IsFaceOf n (meet c d) q = face_of_same n d q (meet c d) r.0 (same_turned n q d b) r.1 m.1 in
    (face_same n (meet c d) (meet p q) p e left, face_same n (meet c d) (meet p q) q e right)

-- meets of cones of two fans meet in faces
two_meet : (n : ℕ) (cs ds : List Rows) (c c' d d' : Rows) → MeetPairwise n cs → MeetPairwise n ds →
    Contains cs c → Contains cs c' → Contains ds d → Contains ds d' → MeetInFaces n (meet c d) (meet c' d')
two_meet n cs ds c c' d d' f h kc kc' kd kd' = meets_meet n c c' d d' (all_meet n cs f c c' kc kc') (all_meet n ds h d d' kd kd')

-- the rows of the meet of two such meets have n entries
meets_wide : (n : ℕ) (cs ds : List Rows) (c d : Rows) → HaveEntries n cs → HaveEntries n ds → Contains (all_meets cs ds) c → Contains (all_meets cs ds) d →
    AreRows n (meet c d).inequalities × AreRows n (meet c d).equations
meets_wide n cs ds c d wc wd kc kd =
    let all = meets_width n cs ds wc wd in
    meets_width n (all_meets cs ds) (all_meets cs ds) all all (meet c d) (in_meets (all_meets cs ds) (all_meets cs ds) c d kc kd)

pub cuts_fan : (n : ℕ) (cs ds parts : List Rows) → GordansAlternative → HaveEntries n cs → HaveEntries n ds → MeetPairwise n cs → MeetPairwise n ds →
    AreCuts n cs ds parts → MeetPairwise n parts
cuts_fan n cs ds parts g wc wd f h k = fan_of n parts (λ p q i j.
    let x = k.each p i in
    let y = k.each q j in
    let c : Rows = meet x.first x.second in
    let d : Rows = meet y.first y.second in
    let m : MeetInFaces n c d = two_meet n cs ds x.first y.first x.second y.second f h x.of_first y.of_first x.of_second y.of_second in
    let kc = in_meets cs ds x.first x.second x.of_first x.of_second in
    let kd = in_meets cs ds y.first y.second y.of_first y.of_second in
    same_meeting n p q c d g (meets_wide n cs ds c d wc wd kc kd) x.same y.same m)

-- each meet is a face of one of the parts
cuts_cover : (n : ℕ) (cs ds parts : List Rows) → GordansAlternative → HaveEntries n cs → HaveEntries n ds → MeetPairwise n cs → MeetPairwise n ds →
    AreCuts n cs ds parts → IsCoveredBy n (all_meets cs ds) parts
cuts_cover n cs ds parts g wc wd f h k = record {
  each = λ r i.
      let a = of_meets cs ds r i in
      let y = k.every a.first a.second a.of_first a.of_second in
      let x = k.each y.0 y.1.0 in
      let own : Rows = meet a.first a.second in
      let over : Rows = meet x.first x.second in
      let m : MeetInFaces n own over = two_meet n cs ds a.first x.first a.second x.second f h a.of_first x.of_first a.of_second x.of_second in
      let face : IsFaceOf n own over = face_same n (meet own over) own over
      (λ v l. (λ s. left_in own over v s, λ s. both_in own over v s ((x.same v l).0 (y.1.1 v l s)))) m.1 in
      let w = within n own g (meets_width n cs ds wc wd own (in_meets cs ds a.first a.second a.of_first a.of_second)) in
      let turned = same_turned n y.0 over x.same in
      (y.0, (y.1.0, subst (λ z. IsFaceOf n z y.0) (sym a.is) (face_of_same n over y.0 own w.0 turned w.1 face)));
  some = λ p i. let x = k.each p i in (meet x.first x.second, (in_meets cs ds x.first x.second x.of_first x.of_second, x.same));
}

pub cuts_refine : (n : ℕ) (cs ds parts : List Rows) → GordansAlternative → HaveEntries n cs → HaveEntries n ds → HaveEntries n parts →
    MeetPairwise n cs → MeetPairwise n ds → AreCuts n cs ds parts → IsCommonRefinement n cs ds parts
cuts_refine n cs ds parts g wc wd wp f h k =
    let same : IsCoveredBy n (all_meets cs ds) parts = cuts_cover n cs ds parts g wc wd f h k in
    refinement_same n cs cs ds ds (all_meets cs ds) parts (λ x. (λ i. i, λ i. i)) (λ x. (λ i. i, λ i. i))
    (covered_same n (all_meets cs ds) parts g (meets_width n cs ds wc wd) wp same) (meets_refine n cs ds)

-- ---- terms that fall away

-- where b is nowhere higher than a on c, what c shares with the cone of b and another point lies inside what it shares with that of a and b
pub falls_away : (n : ℕ) (A S T : List (List ℤ)) (a b s t : List ℤ) (c d e : Rows) → IsRowsOf n A S s d → IsRowsOf n A T t e →
    Contains S b → Contains A a → ((x : List ℤ) → Contains T x → Contains (a ∷ b ∷ []) x) →
    ((v : List ℤ) → length v ≡ n → IsInCone c v → dot b v ≤ℤ dot a v) → IsHeldBy n (meet c d) (meet c e)
falls_away n A S T a b s t c d e p q kb ka two low v l i =
    let iv = left_in c d v i in
    let has : HasPattern A S v = (p.same_as v l).0 (right_in c d v i) in
    let lower = low v l iv in
    both_in c e v iv ((q.same_as v l).1 (λ x g kx kg.
    let up = has b g kb kg in
    elim (in_cons a (b ∷ []) x (two x kx)) [
      | inl r ↦ let z : dot x v ≡ dot a v = ap (λ y. dot y v) r in omega (arith, ints, up, lower, z)
      | inr y ↦ elim (in_cons b [] x y) [
        | inl r ↦ let z : dot x v ≡ dot b v = ap (λ y. dot y v) r in omega (arith, ints, up, z)
        | inr o ↦ absurd (none_in x o)
      ]
    ]))
