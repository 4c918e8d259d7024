-- Two cones that rows keep apart but for the rays that they share meet in a face of both.
use Rattle.std.proofs.Common.{◌≡◌, ℕ, List, [], ◌∷◌, ◌++◌, length, ℤ, pos, negsuc, ◌*ℤ◌, ◌≤ℤ◌, arith, refl, sym, subst, ap, ◌∙◌, Contains, ◌⊎◌, inl, inr}
use Rattle.std.proofs.lemmas.Int.{ints}
use Rattle.std.proofs.lemmas.List.Elements.{All-contains, Contains-append_left, Contains-append_right, Contains-append_cases}
use Rattle.gf_int_theory.proofs.ListLaws.{Contains-here}
use Rattle.gf_vec.specs.Vector.{dot, opposite}
use Rattle.gf_vec.proofs.VectorLaws.{dot-times}
use Rattle.gf_duality_theory.specs.Generators.{Made, ray, line, AreValid}
use Rattle.gf_duality_theory.specs.Rays.{IsRays}
use Rattle.gf_duality_theory.specs.Faces.{Rows, SameCone, IsInCone, part, IsFaceOf}
use Rattle.gf_duality_theory.proofs.ListLaws.{none_in, in_tail, in_cons}
use Rattle.gf_duality_theory.proofs.Made.{Made-dot, Made-into}
use Rattle.gf_duality_theory.proofs.Generated.{made-generated}
use Rattle.gf_duality_theory.proofs.Determined.{described_of}
use Rattle.gf_duality_theory.proofs.Implied.{ray_in}
use Rattle.gf_fans_theory.specs.Fans.{meet, MeetInFaces}
use Rattle.gf_fans_theory.specs.Separating.{IsNowherePositive, AreSeparating, IsCutOff, AreSettled}
use Rattle.gf_fans_theory.proofs.Meeting.{left_in, right_in}
use Rattle.gf_fans_theory.proofs.FaceLaws.{part_made, part_on}
use Rattle.gf_fans_theory.proofs.FanLaws.{up_in, zero_in, both_in, part_in, of_part, part_zero, exposed_face, face_same, meet_turned}
use Rattle.gf_duality_theory.proofs.PivotLaws.{opposite_zero_back, zero_opposite}

-- opposite rows
abbrev opposites : List (List ℤ) → List (List ℤ)
opposites [] = []
opposites (h ∷ hs) = opposite h ∷ opposites hs

opposite_in : (hs : List (List ℤ)) (h : List ℤ) → Contains hs h → Contains (opposites hs) (opposite h)
opposite_in [] h c = absurd (none_in h c)
opposite_in (k ∷ hs) h c = elim (in_cons k hs h c) [
  | inl e ↦ subst (λ t. Contains (opposite k ∷ opposites hs) (opposite t)) (sym e) (Contains-here (opposite k) (opposites hs))
  | inr d ↦ in_tail (opposite k) (opposites hs) (opposite h) (opposite_in hs h d)
]

of_opposite : (hs : List (List ℤ)) (t : List ℤ) → Contains (opposites hs) t → (h : List ℤ) × (Contains hs h × (t ≡ opposite h))
of_opposite [] t c = absurd (none_in t c)
of_opposite (k ∷ hs) t c = elim (in_cons (opposite k) (opposites hs) t c) [
  | inl e ↦ (k, (Contains-here k hs, e))
  | inr d ↦ let f = of_opposite hs t d in (f.0, (in_tail k hs f.0 f.1.0, f.1.1))
]

turned_at : (h x : List ℤ) → dot (opposite h) x ≡ negsuc 0 *ℤ dot h x
turned_at h x = dot-times (negsuc 0) h x

turned_up : (x y : ℤ) → y ≡ negsuc 0 *ℤ x → x ≤ℤ pos 0 → pos 0 ≤ℤ y
turned_up x y e h = omega (arith, ints, e, h)

turned_down : (x y : ℤ) → y ≡ negsuc 0 *ℤ x → pos 0 ≤ℤ y → pos 0 ≤ℤ x → x ≡ pos 0
turned_down x y e h k = omega (arith, ints, e, h, k)

zero_of : (x y : ℤ) → y ≡ negsuc 0 *ℤ x → pos 0 ≤ℤ x → pos 0 ≤ℤ y → y ≡ pos 0
zero_of x y e f g = omega (arith, ints, e, f, g)

-- a row that is positive on no ray of a cone, and zero on its lineality vectors, is positive nowhere on it
down_on : (n : ℕ) (rays lin : List (List ℤ)) (h x : List ℤ) → IsNowherePositive rays h → ((l : List ℤ) → Contains lin l → dot h l ≡ pos 0) → Made n rays lin x →
    pos 0 ≤ℤ dot (opposite h) x
down_on n rays lin h x w f m = Made-dot n rays lin (opposite h) x (λ r c. turned_up (dot h r) (dot (opposite h) r) (turned_at h r)
    (All-contains (λ v. dot h v ≤ℤ pos 0) rays r w c)) (λ l c. zero_opposite (dot (opposite h) l) (dot h l) (turned_at h l) (f l c)) m

separated_one : (n : ℕ) (c d : Rows) (lin rays others left right : List (List ℤ)) → IsRays n c.inequalities c.equations lin rays →
    IsRays n d.inequalities d.equations lin others → AreSeparating c.inequalities others left → AreSeparating d.inequalities rays right →
    AreSettled left right others rays → IsFaceOf n (meet c d) c
separated_one n c d lin rays others left right rc rd sl sr settled =
    let a = described_of n c.inequalities c.equations lin rays rc in
    let b = described_of n d.inequalities d.equations lin others rd in
    let flat : List (List ℤ) = left ++ opposites right in
    let of_left : (p : List ℤ) → Contains left p → Contains c.inequalities p × IsNowherePositive others p =
    λ p k. All-contains (λ h. Contains c.inequalities h × IsNowherePositive others h) left p sl k in
    let of_right : (q : List ℤ) → Contains right q → Contains d.inequalities q × IsNowherePositive rays q =
    λ q k. All-contains (λ h. Contains d.inequalities h × IsNowherePositive rays h) right q sr k in
    let made_c : (x : List ℤ) → length x ≡ n → IsInCone c x → Made n rays lin x = λ x l s. a.complete x l (λ h k. up_in c x h s k) (λ e k. zero_in c x e s k) in
    let made_d : (x : List ℤ) → length x ≡ n → IsInCone d x → Made n others lin x =
    λ x l s. b.complete x l (λ h k. up_in d x h s k) (λ e k. zero_in d x e s k) in
    let up : (t x : List ℤ) → Contains flat t → length x ≡ n → IsInCone c x → pos 0 ≤ℤ dot t x =
    λ t x k l s. elim (Contains-append_cases left (opposites right) t k) [
      | inl i ↦ up_in c x t s (of_left t i).0
      | inr j ↦ let f = of_opposite right t j in subst (λ (u : List ℤ). pos 0 ≤ℤ dot u x) (sym f.1.1)
          (down_on n rays lin f.0 x (of_right f.0 f.1.0).1 (λ v i. b.valid.flat f.0 v (of_right f.0 f.1.0).0 i) (made_c x l s))
    ] in
    let flat_lin : (t l : List ℤ) → Contains flat t → Contains lin l → dot t l ≡ pos 0 = λ t l k i. elim (Contains-append_cases left (opposites right) t k) [
      | inl j ↦ a.valid.flat t l (of_left t j).0 i
      | inr j ↦ let f = of_opposite right t j in ap (λ (u : List ℤ). dot u l) f.1.1 ∙ zero_opposite (dot (opposite f.0) l) (dot f.0 l) (turned_at f.0 l)
          (b.valid.flat f.0 l (of_right f.0 f.1.0).0 i)
    ] in
    let va : AreValid flat rays lin = record {
      up = λ t x k i. up t x k (a.rays_width x i) (ray_in n c.inequalities c.equations lin rays x a i);
      flat = flat_lin;
    } in
    let p = part_on flat rays rc.ascending in
    let some : List (List ℤ) = p.0 in
    let shared : (r : List ℤ) → Contains some r → Contains others r =
    λ r k. elim (All-contains (λ r. Contains others r ⊎ IsCutOff left r ⊎ IsCutOff right r) rays r settled (p.1.each r k).0) [
      | inl i ↦ i
      | inr (inl (i, h, b, e, z)) ↦ absurd (z ((p.1.each r k).1 h (Contains-append_left left (opposites right) h (i, b, e))))
      | inr (inr (i, h, b, e, z)) ↦
          absurd (z (opposite_zero_back (dot (opposite h) r) (dot h r) (turned_at h r)
          ((p.1.each r k).1 (opposite h) (Contains-append_right left (opposites right) (opposite h) (opposite_in right h (i, b, e))))))
    ] in
    let same : SameCone n (part c flat) (meet c d) = λ x l. (
      λ s.
          let i : IsInCone c x = of_part c flat x s in
          let m : Made n some lin x = part_made n flat rays some lin x va p.1.every (made_c x l i) (λ t k. part_zero c flat x t s k) in
          let w : Made n others lin x = Made-into n some lin others lin x (λ y ly k. ray n others lin y ly (shared y k))
          (λ z y ly k. line n others lin z y _ ly k refl) m in
          both_in c d x i ((rd.generates x l).1 (made-generated n others lin x rd.rays_width rd.lin_width w)),
      λ s.
          let xc = left_in c d x s in let xd = right_in c d x s in
          part_in c flat x xc (λ t k. elim (Contains-append_cases left (opposites right) t k) [
            | inl i ↦ turned_down (dot t x) (dot (opposite t) x) (turned_at t x)
                (down_on n others lin t x (of_left t i).1 (λ v j. a.valid.flat t v (of_left t i).0 j) (made_d x l xd)) (up_in c x t xc (of_left t i).0)
            | inr j ↦ let f = of_opposite right t j in ap (λ (u : List ℤ). dot u x) f.1.1 ∙ zero_of (dot f.0 x) (dot (opposite f.0) x) (turned_at f.0 x)
                (up_in d x f.0 xd (of_right f.0 f.1.0).0)
                (down_on n rays lin f.0 x (of_right f.0 f.1.0).1 (λ v i. b.valid.flat f.0 v (of_right f.0 f.1.0).0 i) (made_c x l xc))
          ]),
    ) in
    face_same n (part c flat) (meet c d) c same (exposed_face n c lin rays flat rc up)

-- the meet of two cones is a face of both where each ray is one of the other's too, or a separating row isn't zero on it
pub separated : (n : ℕ) (c d : Rows) (lin rays others left right : List (List ℤ)) → IsRays n c.inequalities c.equations lin rays →
    IsRays n d.inequalities d.equations lin others → AreSeparating c.inequalities others left → AreSeparating d.inequalities rays right →
    AreSettled left right others rays → AreSettled right left rays others → MeetInFaces n c d
separated n c d lin rays others left right rc rd sl sr one two = (
  separated_one n c d lin rays others left right rc rd sl sr one,
  face_same n (meet d c) (meet c d) d (meet_turned n d c)
      (separated_one n d c lin others rays right left rd rc sr sl two),
)
