-- The meets of the cones of two fans form a fan, and its cones are exactly the meets of cones of both.
use Rattle.std.proofs.Common.{◌≡◌, ℕ, List, [], ◌∷◌, map, length, arith, sym, ap, ◌∙◌, subst, Contains, inl, inr, get_or}
use Rattle.std.proofs.lemmas.List.{get_or_default}
use Rattle.std.proofs.lemmas.List.Elements.{All-append, Contains-get_or, Contains-append_left, Contains-append_right, Contains-append_cases}
use Rattle.gf_int_theory.proofs.ListLaws.{Contains-here}
use Rattle.gf_gordan.specs.Alternative.{AreRows}
use Rattle.gf_duality_theory.specs.Faces.{Rows, IsFaceOf}
use Rattle.gf_duality_theory.proofs.ListLaws.{none_in, in_tail, in_cons, less, at, more, index}
use Rattle.gf_fans_theory.specs.Fans.{meet, MeetInFaces, MeetPairwise}
use Rattle.gf_fans_theory.proofs.FanLaws.{face_same, meet_swap, same_turned}
use Rattle.gf_patterns_theory.specs.Refinements.{HaveEntries, all_meets, IsCommonRefinement}
use Rattle.gf_patterns_theory.proofs.MeetLaws.{face_meet, face_of_meet, meets_self, meets_meet}

-- any two cones of a list meet in faces
abbrev pub AllMeet : ℕ → List Rows → Type 0
AllMeet n cones = (c d : Rows) → Contains cones c → Contains cones d → MeetInFaces n c d

pub all_meet : (n : ℕ) (cones : List Rows) → MeetPairwise n cones → AllMeet n cones
all_meet n cones f c d (i, li, ei) (j, lj, ej) =
    let e : get_or cones i c ≡ c = ei in
    let e' : get_or cones j c ≡ d = get_or_default cones j c d lj ∙ ej in
    elim (index j i) [
      | less h ↦ subst (λ z. MeetInFaces n z d) e (subst (λ z. MeetInFaces n (get_or cones i c) z) e' (f i j c (omega (arith, h)) lj))
      | more h ↦ meet_swap n d c (subst (λ z. MeetInFaces n z c) e' (subst (λ z. MeetInFaces n (get_or cones j c) z) e (f j i c h li)))
      | at h ↦ let same : c ≡ d = sym e ∙ ap (λ k. get_or cones k c) (sym h) ∙ e' in subst (λ z. MeetInFaces n c z) same (meets_self n c)
    ]

pub fan_of : (n : ℕ) (cones : List Rows) → AllMeet n cones → MeetPairwise n cones
fan_of n cones f i j d h lj = f (get_or cones i d) (get_or cones j d) (Contains-get_or cones i d (omega (arith, h, lj))) (Contains-get_or cones j d lj)

in_map : (c : Rows) (ds : List Rows) (d : Rows) → Contains ds d → Contains (map (meet c) ds) (meet c d)
in_map c [] d k = absurd (none_in d k)
in_map c (e ∷ ds) d k = elim (in_cons e ds d k) [
  | inl q ↦ subst (λ z. Contains (map (meet c) (e ∷ ds)) (meet c z)) (sym q) (Contains-here (meet c e) (map (meet c) ds))
  | inr i ↦ in_tail (meet c e) (map (meet c) ds) (meet c d) (in_map c ds d i)
]

of_map : (c : Rows) (ds : List Rows) (m : Rows) → Contains (map (meet c) ds) m → (d : Rows) × (Contains ds d × (m ≡ meet c d))
of_map c [] m k = absurd (none_in m k)
of_map c (e ∷ ds) m k = elim (in_cons (meet c e) (map (meet c) ds) m k) [
  | inl q ↦ (e, (Contains-here e ds, q))
  | inr i ↦ let r = of_map c ds m i in (r.0, (in_tail e ds r.0 r.1.0, r.1.1))
]

pub in_meets : (cs ds : List Rows) (c d : Rows) → Contains cs c → Contains ds d → Contains (all_meets cs ds) (meet c d)
in_meets [] ds c d k l = absurd (none_in c k)
in_meets (e ∷ cs) ds c d k l = elim (in_cons e cs c k) [
  | inl q ↦ subst (λ z. Contains (all_meets (e ∷ cs) ds) (meet z d)) (sym q) (Contains-append_left (map (meet e) ds) (all_meets cs ds) (meet e d)
      (in_map e ds d l))
  | inr i ↦ Contains-append_right (map (meet e) ds) (all_meets cs ds) (meet c d) (in_meets cs ds c d i l)
]

-- m is the meet of a cone of the one list and a cone of the other
pub record IsListedMeet (cs ds : List Rows) (m : Rows) : Type 0 where
  pub first : Rows
  pub second : Rows
  pub of_first : Contains cs first
  pub of_second : Contains ds second
  pub is : m ≡ meet first second

pub of_meets : (cs ds : List Rows) (m : Rows) → Contains (all_meets cs ds) m → IsListedMeet cs ds m
of_meets [] ds m k = absurd (none_in m k)
of_meets (e ∷ cs) ds m k = elim (Contains-append_cases (map (meet e) ds) (all_meets cs ds) m k) [
  | inl i ↦ let r = of_map e ds m i in record { first = e; second = r.0; of_first = Contains-here e cs; of_second = r.1.0; is = r.1.1 }
  | inr i ↦ let r = of_meets cs ds m i in record {
    first = r.first;
    second = r.second;
    of_first = in_tail e cs r.first r.of_first;
    of_second = r.of_second;
    is = r.is;
  }
]

-- the meets of two fans are a fan
pub meets_fan : (n : ℕ) (cs ds : List Rows) → MeetPairwise n cs → MeetPairwise n ds → MeetPairwise n (all_meets cs ds)
meets_fan n cs ds f g = fan_of n (all_meets cs ds) (λ x y i j.
    let p = of_meets cs ds x i in let q = of_meets cs ds y j in
    let m = meets_meet n p.first q.first p.second q.second (all_meet n cs f p.first q.first p.of_first q.of_first)
    (all_meet n ds g p.second q.second p.of_second q.of_second) in
    subst (λ z. MeetInFaces n z y) (sym p.is) (subst (λ z. MeetInFaces n (meet p.first p.second) z) (sym q.is) m))

-- the meets are the common refinement
pub meets_refine : (n : ℕ) (cs ds : List Rows) → IsCommonRefinement n cs ds (all_meets cs ds)
meets_refine n cs ds f = (
  (λ k.
      let p = of_meets cs ds k.cone k.listed in
      let m = face_of_meet n p.first p.second f (subst (IsFaceOf n f) p.is k.face) in
      record {
        first = m.first;
        second = m.second;
        of_first = record { cone = p.first; listed = p.of_first; face = m.of_first };
        of_second = record { cone = p.second; listed = p.of_second; face = m.of_second };
        same = m.same;
      }),
  (λ k. record {
    cone = meet k.of_first.cone k.of_second.cone;
    listed = in_meets cs ds k.of_first.cone k.of_second.cone k.of_first.listed k.of_second.listed;
    face = face_same n (meet k.first k.second) f (meet k.of_first.cone k.of_second.cone) (same_turned n f (meet k.first k.second) k.same)
        (face_meet n k.first k.second k.of_first.cone k.of_second.cone k.of_first.face k.of_second.face);
  }),
)

pub meets_width : (n : ℕ) (cs ds : List Rows) → HaveEntries n cs → HaveEntries n ds → HaveEntries n (all_meets cs ds)
meets_width n cs ds v w c k =
    let p = of_meets cs ds c k in let a = v p.first p.of_first in let b = w p.second p.of_second in
    subst (λ z. AreRows n z.inequalities × AreRows n z.equations) (sym p.is) (
      All-append (λ t. length t ≡ n) p.first.inequalities p.second.inequalities a.0 b.0,
      All-append (λ t. length t ≡ n) p.first.equations p.second.equations a.1
          b.1,
    )
