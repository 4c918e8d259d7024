-- All faces of cones form a fan where the meet of any two of the cones is a face of both.
use Rattle.std.proofs.Common.{◌≡◌, ℕ, List, [], ◌∷◌, ◌++◌, length, ℤ, pos, negsuc, ◌*ℤ◌, ◌-ℤ◌, neg_ℤ, ◌≤ℤ◌, arith, sym, ap, ◌∙◌, subst, Contains, ◌⊎◌, inl, inr}
use Rattle.std.proofs.Common.{◌↔◌, get_or}
use Rattle.std.specs.Ordering.{int_cmp}
use Rattle.std.specs.Cmp.Lexicographic.{slice_cmp}
use Rattle.std.specs.declared.cmp.Ordering.TheVariants.{Less}
use Rattle.std.proofs.lemmas.Int.{ints}
use Rattle.std.proofs.lemmas.List.{get_or_default}
use Rattle.std.proofs.lemmas.List.Elements.{All-contains, Contains-append_left, Contains-append_right, Contains-append_cases}
use Rattle.gf_int_theory.specs.Content.{scaled}
use Rattle.gf_int_theory.proofs.RingLaws.{same, dv, dn, dneg, ◌⊗◌, ◌⊖◌}
use Rattle.gf_vec.specs.Vector.{dot, vector_sum, opposite}
use Rattle.gf_vec.proofs.VectorLaws.{length-times}
use Rattle.gf_duality_theory.specs.Generators.{Made, AreValid}
use Rattle.gf_duality_theory.specs.Rays.{IsRays, Generated}
use Rattle.gf_duality_theory.specs.Faces.{Rows, IsInCone, SameCone, part, IsFaceOf, sum_of}
use Rattle.gf_fans_theory.specs.FaceLists.{IsPartOn, AreZeroRows}
use Rattle.gf_fans_theory.specs.Fans.{meet, MeetInFaces, MeetPairwise, FacesAreFan}
use Rattle.gf_fans_theory.specs.Laws.{HasRays}
use Rattle.gf_duality_theory.proofs.ListLaws.{none_in, in_tail, in_cons, index, less, at, more}
use Rattle.gf_vec.proofs.VectorIdentities.{vv, ◌⊞◌, ◌⊡◌, by}
use Rattle.gf_duality_theory.proofs.Made.{Made-dot_zero}
use Rattle.gf_duality_theory.proofs.Taking.{enough}
use Rattle.gf_duality_theory.proofs.RaySums.{sum_long, sum_zero, sum_made}
use Rattle.gf_fans_theory.proofs.Meeting.{zero_rows, left_in, right_in}
use Rattle.gf_duality_theory.proofs.Implied.{ray_in}
use Rattle.gf_duality_theory.proofs.Interior.{sum_in}
use Rattle.gf_duality_theory.proofs.EchelonUnique.{same_ordered}
use Rattle.gf_duality_theory.proofs.Determined.{described_of, same_rays_of, rays_determined, less_never, opposite_dot, minus_up, zero_up, minus_zero}
use Rattle.gf_fans_theory.proofs.FaceLaws.{part_made, part_on, face_rays}
use Rattle.gf_int_theory.proofs.SignLaws.{zero_or_not}
use Rattle.gf_int_theory.proofs.ListLaws.{Contains-here, all_by}

-- ---- membership

pub is_in : (c : Rows) (x : List ℤ) → ((h : List ℤ) → Contains c.inequalities h → pos 0 ≤ℤ dot h x) →
    ((e : List ℤ) → Contains c.equations e → dot e x ≡ pos 0) → IsInCone c x
is_in c x f g = record { not_negative = all_by (λ h. pos 0 ≤ℤ dot h x) c.inequalities f; zero = all_by (λ e. dot e x ≡ pos 0) c.equations g }

pub up_in : (c : Rows) (x h : List ℤ) → IsInCone c x → Contains c.inequalities h → pos 0 ≤ℤ dot h x
up_in c x h s k = All-contains (λ h. pos 0 ≤ℤ dot h x) c.inequalities h s.not_negative k

pub zero_in : (c : Rows) (x e : List ℤ) → IsInCone c x → Contains c.equations e → dot e x ≡ pos 0
zero_in c x e s k = All-contains (λ h. dot h x ≡ pos 0) c.equations e s.zero k

pub both_in : (c d : Rows) (x : List ℤ) → IsInCone c x → IsInCone d x → IsInCone (meet c d) x
both_in c d x s t = is_in (meet c d) x
    (λ h k. elim (Contains-append_cases c.inequalities d.inequalities h k) [ inl a ↦ up_in c x h s a | inr b ↦ up_in d x h t b ])
    (λ h k. elim (Contains-append_cases c.equations d.equations h k) [ inl a ↦ zero_in c x h s a | inr b ↦ zero_in d x h t b ])

pub part_in : (c : Rows) (flat : List (List ℤ)) (x : List ℤ) → IsInCone c x → ((t : List ℤ) → Contains flat t → dot t x ≡ pos 0) → IsInCone (part c flat) x
part_in c flat x s f =
    is_in (part c flat) x (λ h k. up_in c x h s k) (λ h k. elim (Contains-append_cases c.equations flat h k) [ inl a ↦ zero_in c x h s a | inr b ↦ f h b ])

pub of_part : (c : Rows) (flat : List (List ℤ)) (x : List ℤ) → IsInCone (part c flat) x → IsInCone c x
of_part c flat x s = is_in c x (λ h k. up_in (part c flat) x h s k) (λ h k. zero_in (part c flat) x h s (Contains-append_left c.equations flat h k))

pub part_zero : (c : Rows) (flat : List (List ℤ)) (x t : List ℤ) → IsInCone (part c flat) x → Contains flat t → dot t x ≡ pos 0
part_zero c flat x t s k = zero_in (part c flat) x t s (Contains-append_right c.equations flat t k)

-- ---- faces

pub face_in : (n : ℕ) (f c : Rows) (x : List ℤ) → IsFaceOf n f c → length x ≡ n → IsInCone f x → IsInCone c x
face_in n f c x k l s = of_part c k.0 x ((k.1.1 x l).0 s)

pub own_face : (n : ℕ) (c : Rows) → IsFaceOf n c c
own_face n c = (
  [],
  (
    all_by (Contains c.inequalities) [] (λ t k. absurd (none_in t k)),
    λ x l. (
      λ s. part_in c [] x s (λ t k. absurd (none_in t k)),
      λ s. of_part c [] x s,
    ),
  ),
)

-- a face of a face has the lineality vectors of the cone, and some of its rays
pub face_has : (n : ℕ) (f c : Rows) (lin rays : List (List ℤ)) → IsRays n c.inequalities c.equations lin rays → (k : IsFaceOf n f c) →
    (some : List (List ℤ)) × (IsPartOn k.0 rays some × IsRays n f.inequalities f.equations lin some)
face_has n f c lin rays r k =
    let p = part_on k.0 rays r.ascending in
    let q = face_rays n c.inequalities c.equations lin rays k.0 p.0 r (λ t i. All-contains (Contains c.inequalities) k.0 t k.1.0 i) p.1 in
    (p.0, (p.1, same_rays_of n (part c k.0) f lin p.0 (λ x l. ((k.1.1 x l).1, (k.1.1 x l).0)) q))

minus_at : (n : ℕ) (b : ℤ) (h v x : List ℤ) → length v ≡ n → length x ≡ n → dot h (vector_sum (scaled b v) (scaled (neg_ℤ (pos 1)) x)) ≡ b *ℤ dot h v -ℤ dot h x
minus_at n b h v x lv lx = same (by h (dv b ⊡ vv v lv ⊞ dneg (dn 1) ⊡ vv x lx)) (dv b ⊗ by h (vv v lv) ⊖ by h (vv x lx)) (omega arith)

no_more : (b x y z : ℤ) → z ≡ b *ℤ x -ℤ y → x ≡ pos 0 → pos 0 ≤ℤ z → pos 0 ≤ℤ y → y ≡ pos 0
no_more b x y z e f g h = let q : b *ℤ x ≡ pos 0 = rw f (omega (arith, ints)) in omega (arith, ints, e, q, g, h)

both_none : (b x y z : ℤ) → z ≡ b *ℤ x -ℤ y → x ≡ pos 0 → y ≡ pos 0 → z ≡ pos 0
both_none b x y z e f g = let q : b *ℤ x ≡ pos 0 = rw f (omega (arith, ints)) in omega (arith, ints, e, q, g)

-- rows that are not negative on a cone, of whatever rows, are zero on a face of it
pub exposed_face : (n : ℕ) (c : Rows) (lin rays flat : List (List ℤ)) → IsRays n c.inequalities c.equations lin rays →
    ((t x : List ℤ) → Contains flat t → length x ≡ n → IsInCone c x → pos 0 ≤ℤ dot t x) → IsFaceOf n (part c flat) c
exposed_face n c lin rays flat r up =
    let d = described_of n c.inequalities c.equations lin rays r in
    let line_in : (l : List ℤ) → Contains lin l → IsInCone c l =
    λ l k. is_in c l (λ h i. zero_up (dot h l) (d.valid.flat h l i k)) (λ e i. d.lin_solves e l i k) in
    let back_in : (l : List ℤ) → Contains lin l → IsInCone c (opposite l) = λ l k. is_in c (opposite l)
    (λ h i. zero_up (dot h (opposite l)) (minus_zero (dot h l) (dot h (opposite l)) (opposite_dot h l) (d.valid.flat h l i k)))
    (λ e i. minus_zero (dot e l) (dot e (opposite l)) (opposite_dot e l) (d.lin_solves e l i k)) in
    let flat_lin : (t l : List ℤ) → Contains flat t → Contains lin l → dot t l ≡ pos 0 = λ t l ct k.
    minus_up (dot t l) (dot t (opposite l)) (opposite_dot t l) (up t l ct (d.lin_width l k) (line_in l k))
    (up t (opposite l) ct (length-times (negsuc 0) l ∙ d.lin_width l k) (back_in l k)) in
    let va : AreValid flat rays lin = record {
      up = λ t x ct k. up t x ct (d.rays_width x k) (ray_in n c.inequalities c.equations lin rays x d k);
      flat = flat_lin;
    } in
    let p = part_on flat rays r.ascending in
    let some : List (List ℤ) = p.0 in
    let v : List ℤ = sum_of n some in
    let ws : (x : List ℤ) → Contains some x → length x ≡ n = λ x k. d.rays_width x (p.1.each x k).0 in
    let lv = sum_long n some ws in
    let mv : Made n some lin v = sum_made n some lin some ws (λ x k. k) in
    let v_in : IsInCone c v = sum_in n c.inequalities c.equations lin rays some d (λ x k. (p.1.each x k).0) in
    let z = zero_rows c.inequalities v in (
      z.rows,
      (
        all_by (Contains c.inequalities) z.rows z.listed,
        λ x lx. (
          (λ s.
              let i : IsInCone c x = of_part c flat x s in
              let m : Made n some lin x = part_made n flat rays some lin x va p.1.every (d.complete x lx (λ h k. up_in c x h i k) (λ e k. zero_in c x e i k))
              (λ t k. part_zero c flat x t s k) in
              part_in c z.rows x i (λ t k. Made-dot_zero n some lin t x (λ y j. sum_zero n some t y ws (λ q a. d.valid.up t q (z.listed t k) (p.1.each q a).0)
              (z.zero t k) j) (λ y j. d.valid.flat t y (z.listed t k) j) m)),
          (λ s.
              let i : IsInCone c x = of_part c z.rows x s in
              let e = enough c.inequalities v x (λ h k. up_in c v h v_in k) (λ h k. up_in c x h i k) (λ h k q. part_zero c z.rows x h s (z.all h k q)) in
              let b = e.big in
              let y : List ℤ = vector_sum (scaled b v) (scaled (neg_ℤ (pos 1)) x) in
              let ly : length y ≡ n = (dv b ⊡ vv v lv ⊞ dneg (dn 1) ⊡ vv x lx).long in
              let at_y : (h : List ℤ) → dot h y ≡ b *ℤ dot h v -ℤ dot h x = λ h. minus_at n b h v x lv lx in
              let y_in : IsInCone c y = is_in c y (λ h k. subst (λ q. pos 0 ≤ℤ q) (sym (at_y h)) (e.within h k))
              (λ h k. both_none b (dot h v) (dot h x) (dot h y) (at_y h) (zero_in c v h v_in k) (zero_in c x h i k)) in
              part_in c flat x i (λ t k. no_more b (dot t v) (dot t x) (dot t y) (at_y t) (Made-dot_zero n some lin t v (λ q j. (p.1.each q j).1 t k)
              (λ q j. flat_lin t q k j) mv) (up t y k ly y_in) (up t x k lx i))),
        ),
      ),
    )

-- ---- the meet of two faces

meet_one : (n : ℕ) (c d f g : Rows) (lin rays : List (List ℤ)) → IsRays n c.inequalities c.equations lin rays → IsFaceOf n (meet c d) c → IsFaceOf n f c →
    IsFaceOf n g d → IsFaceOf n (meet f g) f
meet_one n c d f g lin rays r m kf kg =
    let of_c : (t : List ℤ) → Contains m.0 t → Contains c.inequalities t = λ t i. All-contains (Contains c.inequalities) m.0 t m.1.0 i in
    let of_d : (t : List ℤ) → Contains kg.0 t → Contains d.inequalities t = λ t i. All-contains (Contains d.inequalities) kg.0 t kg.1.0 i in
    let rf = face_has n f c lin rays r kf in
    let a : IsFaceOf n (part f m.0) f = exposed_face n f lin rf.0 m.0 rf.1.1 (λ t x ct l s. up_in c x t (face_in n f c x kf l s) (of_c t ct)) in
    let f1 : Rows = part f m.0 in
    let ra = face_has n f1 f lin rf.0 rf.1.1 a in
    let in_d : (x : List ℤ) → length x ≡ n → IsInCone f1 x → IsInCone d x = λ x l s.
    right_in c d x ((m.1.1 x l).1 (part_in c m.0 x (face_in n f c x kf l (of_part f m.0 x s)) (λ t k. part_zero f m.0 x t s k))) in
    let b : IsFaceOf n (part f1 kg.0) f1 = exposed_face n f1 lin ra.0 kg.0 ra.1.1 (λ t x ct l s. up_in d x t (in_d x l s) (of_d t ct)) in
    let z : List (List ℤ) = a.0 ++ b.0 in (
      z,
      (
        all_by (Contains f.inequalities) z (λ t k. elim (Contains-append_cases a.0 b.0 t k) [
          | inl i ↦ All-contains (Contains f.inequalities) a.0 t a.1.0 i
          | inr j ↦ All-contains (Contains f.inequalities) b.0 t b.1.0 j
        ]),
        λ x l. (
          (λ s.
              let xf = left_in f g x s in let xg = right_in f g x s in
              let xm = (m.1.1 x l).0 (both_in c d x (face_in n f c x kf l xf) (face_in n g d x kg l xg)) in
              let x1 : IsInCone f1 x = part_in f m.0 x xf (λ t k. part_zero c m.0 x t xm k) in
              let xd = (kg.1.1 x l).0 xg in
              let xa = (a.1.1 x l).0 x1 in
              let xb = (b.1.1 x l).0 (part_in f1 kg.0 x x1 (λ t k. part_zero d kg.0 x t xd k)) in
              part_in f z x xf (λ t k. elim (Contains-append_cases a.0 b.0 t k) [ inl i ↦ part_zero f a.0 x t xa i | inr j ↦ part_zero f1 b.0 x t xb j ])),
          (λ s.
              let xf = of_part f z x s in
              let x1 : IsInCone f1 x = (a.1.1 x l).1 (part_in f a.0 x xf (λ t k. part_zero f z x t s (Contains-append_left a.0 b.0 t k))) in
              let xb = (b.1.1 x l).1 (part_in f1 b.0 x x1 (λ t k. part_zero f z x t s (Contains-append_right a.0 b.0 t k))) in
              both_in f g x xf ((kg.1.1 x l).1 (part_in d kg.0 x (in_d x l x1) (λ t k. part_zero f1 kg.0 x t xb k)))),
        ),
      ),
    )

pub face_same : (n : ℕ) (f g c : Rows) → SameCone n f g → IsFaceOf n f c → IsFaceOf n g c
face_same n f g c s k = (k.0, (k.1.0, λ x l. ((λ i. (k.1.1 x l).0 ((s x l).1 i)), (λ i. (s x l).0 ((k.1.1 x l).1 i)))))

pub meet_turned : (n : ℕ) (c d : Rows) → SameCone n (meet c d) (meet d c)
meet_turned n c d x l = (λ s. both_in d c x (right_in c d x s) (left_in c d x s), λ s. both_in c d x (right_in d c x s) (left_in d c x s))

pub meet_swap : (n : ℕ) (c d : Rows) → MeetInFaces n c d → MeetInFaces n d c
meet_swap n c d m = (face_same n (meet c d) (meet d c) d (meet_turned n c d) m.1, face_same n (meet c d) (meet d c) c (meet_turned n c d) m.0)

-- the meet of a face of the one and a face of the other is a face of both
pub faces_meet : (n : ℕ) (c d f g : Rows) → HasRays n c → HasRays n d → MeetInFaces n c d → IsFaceOf n f c → IsFaceOf n g d → MeetInFaces n f g
faces_meet n c d f g rc rd m kf kg =
    let s = meet_swap n c d m in
    (meet_one n c d f g rc.0 rc.1 rc.2 m.0 kf kg, face_same n (meet g f) (meet f g) g (meet_turned n g f) (meet_one n d c g f rd.0 rd.1 rd.2 s.0 kg kf))

own_meet : (n : ℕ) (c : Rows) → IsFaceOf n (meet c c) c
own_meet n c = face_same n c (meet c c) c (λ x l. (λ s. both_in c c x s s, λ s. left_in c c x s)) (own_face n c)

-- all faces of the cones form a fan exactly where the meet of any two of the cones is a face of both
pub pairs_fan : (n : ℕ) (cones : List Rows) → ((c : Rows) → Contains cones c → HasRays n c) → MeetPairwise n cones → FacesAreFan n cones
pairs_fan n cones r p c d f g cc cd kf kg =
    let e : get_or cones cc.0 c ≡ c = cc.2 in
    let h : get_or cones cd.0 c ≡ d = get_or_default cones cd.0 c d cd.1 ∙ cd.2 in
    let m : MeetInFaces n c d = elim (index cc.0 cd.0) [
      | more k ↦ subst (λ z. MeetInFaces n z d) e (subst (MeetInFaces n (get_or cones cc.0 c)) h (p cc.0 cd.0 c k cd.1))
      | less k ↦ meet_swap n d c (subst (λ z. MeetInFaces n z c) h (subst (MeetInFaces n (get_or cones cd.0 c)) e (p cd.0 cc.0 c k cc.1)))
      | at k ↦ subst (MeetInFaces n c) (sym e ∙ ap (λ i. get_or cones i c) k ∙ h) (own_meet n c, own_meet n c)
    ] in
    faces_meet n c d f g (r c cc) (r d cd) m kf kg

pub fan_pairs : (n : ℕ) (cones : List Rows) → FacesAreFan n cones → MeetPairwise n cones
fan_pairs n cones f i j d h l =
    let c : Rows = get_or cones i d in let e : Rows = get_or cones j d in
    f c e c e (i, omega (arith, h, l), get_or_default cones i c d (omega (arith, h, l))) (j, l, get_or_default cones j e d l) (own_face n c) (own_face n e)

-- ---- the test by lists

pub same_turned : (n : ℕ) (c d : Rows) → SameCone n c d → SameCone n d c
same_turned n c d s x l = ((s x l).1, (s x l).0)

-- cones whose meet is a face of both have one lineality basis
pub one_lineality : (n : ℕ) (c d : Rows) (lin rays lines others : List (List ℤ)) → IsRays n c.inequalities c.equations lin rays →
    IsRays n d.inequalities d.equations lines others → MeetInFaces n c d → lin ≡ lines
one_lineality n c d lin rays lines others r s m =
    let a = face_has n (meet c d) c lin rays r m.0 in let b = face_has n (meet c d) d lines others s m.1 in
    (rays_determined n (meet c d) (meet c d) lin a.0 lines b.0 (λ x l. (λ i. i, λ i. i)) a.1.1 b.1.1).0

zero_on_all : (h : List ℤ) (rays : List (List ℤ)) → ((r : List ℤ) → Contains rays r → dot h r ≡ pos 0) ⊎ (((r : List ℤ) → Contains rays r → dot h r ≡ pos 0) →
    ⊥)
zero_on_all h [] = inl (λ r k. absurd (none_in r k))
zero_on_all h (x ∷ rays) = elim (zero_or_not (dot h x)) [
  | inr n ↦ inr (λ f. n (f x (Contains-here x rays)))
  | inl z ↦ elim (zero_on_all h rays) [
    | inr n ↦ inr (λ f. n (λ r k. f r (in_tail x rays r k)))
    | inl g ↦ inl (λ r k. elim (in_cons x rays r k) [ inl e ↦ ap (dot h) e ∙ z | inr d ↦ g r d ])
  ]
]

-- the rows that are zero on these rays
pub zero_rows_on : (rows rays : List (List ℤ)) → (flat : List (List ℤ)) × AreZeroRows rows rays flat
zero_rows_on [] rays = ([], record { each = λ t c. absurd (none_in t c); every = λ t c f. c })
zero_rows_on (h ∷ rows) rays =
    let s = zero_rows_on rows rays in
    elim (zero_on_all h rays) [
      | inl z ↦ (
        h ∷ s.0,
        record {
          each = λ t c. elim (in_cons h s.0 t c) [
            | inl e ↦ (subst (Contains (h ∷ rows)) (sym e) (Contains-here h rows), λ r k. ap (λ (q : List ℤ). dot q r) e ∙ z r k)
            | inr d ↦ (in_tail h rows t (s.1.each t d).0, (s.1.each t d).1)
          ];
          every = λ t c f. elim (in_cons h rows t c) [
            | inl e ↦ subst (Contains (h ∷ s.0)) (sym e) (Contains-here h s.0)
            | inr d ↦ in_tail h s.0 t (s.1.every t d f)
          ];
        },
      )
      | inr n ↦ (
        s.0,
        record {
          each = λ t c. (in_tail h rows t (s.1.each t c).0, (s.1.each t c).1);
          every = λ t c f. elim (in_cons h rows t c) [ inl e ↦ absurd (n (λ r k. ap (λ (q : List ℤ). dot q r) (sym e) ∙ f r k)) | inr d ↦ s.1.every t d f ];
        },
      )
    ]

-- a cone is a face of another one exactly where it has its lineality basis, and the rays on which those rows are zero that are zero on all rays of the face
pub lists_face : (n : ℕ) (f c : Rows) (lin rays flat some : List (List ℤ)) → IsRays n c.inequalities c.equations lin rays →
    IsRays n f.inequalities f.equations lin some → ((t : List ℤ) → Contains flat t → Contains c.inequalities t) → IsPartOn flat rays some → IsFaceOf n f c
lists_face n f c lin rays flat some r m sub p =
    let q = face_rays n c.inequalities c.equations lin rays flat some r sub p in (
      flat,
      (
        all_by (Contains c.inequalities) flat sub,
        λ x l. (
          (λ s. (q.generates x l).1 ((m.generates x l).0 s)),
          (λ s. (m.generates x l).1 ((q.generates x l).0 s)),
        ),
      ),
    )

pub face_lists : (n : ℕ) (f c : Rows) (lin rays lines others flat some : List (List ℤ)) → IsRays n c.inequalities c.equations lin rays →
    IsRays n f.inequalities f.equations lines others → AreZeroRows c.inequalities others flat → IsPartOn flat rays some → IsFaceOf n f c →
    (lines ≡ lin) × (others ≡ some)
face_lists n f c lin rays lines others flat some r m z p k =
    let a = face_has n f c lin rays r k in
    let e = rays_determined n f f lines others lin a.0 (λ x l. (λ i. i, λ i. i)) m a.1.1 in
    let zero_on : (t x : List ℤ) → Contains k.0 t → Contains others x → dot t x ≡ pos 0 =
    λ t x ct cx. (a.1.0.each x (subst (λ z. Contains z x) e.1 cx)).1 t ct in (
      e.0,
      e.1 ∙ same_ordered (λ x y. slice_cmp int_cmp x y ≡ Less) a.0 some (λ x y cx cy u v. less_never x y u v) a.1.0.ascending p.ascending
          (λ x c. p.every x (a.1.0.each x c).0 (λ t i. (z.each t i).1 x (subst (λ z. Contains z x) (sym e.1) c)))
          (λ x q. a.1.0.every x (p.each x q).0 (λ t i. (p.each x q).1 t (z.every t (All-contains (Contains c.inequalities) k.0 t k.1.0 i)
          (λ y j. zero_on t y i j)))),
    )

-- faces of cones with one lineality basis are the same exactly where their rays are
pub same_lists : (n : ℕ) (f g : Rows) (lin rays others : List (List ℤ)) → IsRays n f.inequalities f.equations lin rays →
    IsRays n g.inequalities g.equations lin others → SameCone n f g ↔ (rays ≡ others)
same_lists n f g lin rays others r s = (
  λ m. (rays_determined n f g lin rays lin others m r s).1,
  λ e x l. (
    λ i. (s.generates x l).1 (subst (λ t. Generated n t lin x) e ((r.generates x l).0 i)),
    λ i. (r.generates x l).1 (subst (λ t. Generated n t lin x) (sym e) ((s.generates x l).0 i)),
  ),
)
