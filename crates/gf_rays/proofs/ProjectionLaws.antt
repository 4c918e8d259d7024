-- A ray on which the rows give what they give on another one, but for a positive factor, and that is orthogonal to the lineality vectors, is that one
-- straightened.
use Rattle.std.proofs.Common.{◌≡◌, ◌≢◌, ℕ, List, [], ◌∷◌, ◌++◌, length, ℤ, pos, neg_ℤ, ◌+ℤ◌, ◌*ℤ◌, ◌<ℤ◌, arith, sym, refl, ap, ap₂, ◌∙◌, subst, inl, inr}
use Rattle.std.proofs.Common.{get_or}
use Rattle.std.proofs.Common.{Contains, drop, append_assoc, append-nil}
use Rattle.std.specs.List.{AllZip}
use Rattle.std.proofs.lemmas.Int.{ints}
use Rattle.std.proofs.lemmas.List.Elements.{All-contains, Contains-append_left, Contains-append_right, Contains-append_cases}
use Rattle.gf_int_theory.specs.Content.{IsPrimitive, AllZero, scaled}
use Rattle.gf_int_theory.proofs.RingLaws.{same, dv, dneg, ◌⊕◌, ◌⊗◌}
use Rattle.gf_int_theory.proofs.SignLaws.{zero_or_not, above_zero, 0<-*ℤ}
use Rattle.gf_int_theory.proofs.ListLaws.{Contains-here}
use Rattle.gf_vec.specs.Vector.{dot, values, vector_sum, zeros}
use Rattle.gf_vec.proofs.DotLaws.{own_zero, own_not_negative}
use Rattle.gf_vec.proofs.PrimitiveLaws.{primitive_same}
use Rattle.gf_vec.proofs.VectorIdentities.{vv, vz, ◌⊞◌, ◌⊡◌, by, vsame}
use Rattle.gf_vec.proofs.VectorLaws.{dot_comm, length-times, length-plus}
use Rattle.gf_gordan.proofs.ExistenceLaws.{divided_exists}
use Rattle.gf_duality_theory.specs.Combining.{pair}
use Rattle.gf_duality_theory.specs.Generators.{IsDescribed, Made}
use Rattle.gf_duality_theory.specs.Straightening.{IsStraightened, done, next, IsOrthogonalized, start, added, gone}
use Rattle.gf_duality_theory.proofs.Determined.{zero_up}
use Rattle.gf_duality_theory.proofs.Finishing.{flat_made}
use Rattle.gf_duality_theory.proofs.ListLaws.{none_in, in_tail, in_cons}
use Rattle.gf_duality_theory.proofs.Made.{Made-dot_zero}
use Rattle.gf_duality_theory.proofs.Orthogonal.{Basis, basis, Straight, straightened, straight_dot, straight_zero, orthogonal_all}
use Rattle.gf_rays.specs.declared.ray.Ray.{Ray}
use Rattle.gf_rays.specs.MarkedRays.{vectors_of}
use Rattle.gf_rays.specs.Projections.{IsProjection, IsProjectedRay, AreBrought}
use Rattle.gf_rays.specs.States.{IsConeState, IsStraightRay}
use Rattle.gf_rays.proofs.FinishLaws.{straight_primitive}
use Rattle.gf_rays.proofs.SplitLaws.{vector_in}

-- ---- straightening by numbers of any size

straight_exists : (ys : List (List ℤ)) (x : List ℤ) → (w : List ℤ) × IsStraightened ys x w
straight_exists [] x = (x, done x)
straight_exists (y ∷ ys) x = elim (zero_or_not (dot y x)) [
  | inl z ↦ let r = straight_exists ys x in (r.0, next y ys x x r.0 (y ∷ ys) refl (inl (z, refl)) r.1)
  | inr n ↦
      let d = divided_exists (pair y y x) in let r = straight_exists ys d.0 in (r.0, next y ys x d.0 r.0 (y ∷ ys) refl (inr (n, d.1)) r.1)
]

orthogonal_from : (before rest out : List (List ℤ)) → IsOrthogonalized before out → (all : List (List ℤ)) × IsOrthogonalized (before ++ rest) all
orthogonal_from before [] out o = (out, subst (λ l. IsOrthogonalized l out) (sym (append-nil before)) o)
orthogonal_from before (x ∷ rest) out o =
    let w = straight_exists out x in
    let on : (all : List (List ℤ)) → IsOrthogonalized (before ++ x ∷ []) all → (t : List (List ℤ)) × IsOrthogonalized (before ++ x ∷ rest) t = λ all p. let r =
    orthogonal_from (before ++ x ∷ []) rest all p in (r.0, subst (λ l. IsOrthogonalized l r.0) (append_assoc before (x ∷ []) rest) r.1) in
    elim (zero_or_not (dot w.0 w.0)) [
      | inl z ↦ on out (gone before out x w.0 (before ++ x ∷ []) refl o w.1 z)
      | inr n ↦ on (out ++ w.0 ∷ [])
          (added before out x w.0 (before ++ x ∷ []) (out ++ w.0 ∷ []) refl refl o w.1 (above_zero (dot w.0 w.0) (own_not_negative w.0) n))
    ]

-- ---- what rows give

crossed : (c a z x y : ℤ) → c *ℤ z ≡ x → a *ℤ z ≡ y → c *ℤ y ≡ a *ℤ x
crossed c a z x y ex ey = ap (λ t. c *ℤ t) (sym ey) ∙ same (dv c ⊗ (dv a ⊗ dv z)) (dv a ⊗ (dv c ⊗ dv z)) (omega arith) ∙ ap (λ t. a *ℤ t) ex

given_at : (rows : List (List ℤ)) (x y v : List ℤ) (c a : ℤ) → scaled c v ≡ values rows x → scaled a v ≡ values rows y → (h : List ℤ) → Contains rows h →
    c *ℤ dot h y ≡ a *ℤ dot h x
given_at [] x y v c a ex ey h k = absurd (none_in h k)
given_at (t ∷ ts) x y [] c a ex ey h k = let n : length (scaled c []) ≡ length (values (t ∷ ts) x) = ap length ex in absurd (omega (arith, n))
given_at (t ∷ ts) x y (z ∷ zs) c a ex ey h k = elim (in_cons t ts h k) [
  | inl e ↦
      subst (λ q. c *ℤ dot q y ≡ a *ℤ dot q x) (sym e)
      (crossed c a z (dot t x) (dot t y) (ap (λ l. get_or l 0 (pos 0)) ex) (ap (λ l. get_or l 0 (pos 0)) ey))
  | inr m ↦ given_at ts x y zs c a (ap (drop 1) ex) (ap (drop 1) ey) h m
]

vanish : (c a sc sa x y w : ℤ) → c *ℤ y ≡ a *ℤ x → sc *ℤ w ≡ sa *ℤ x → (c *ℤ sa) *ℤ y +ℤ neg_ℤ (a *ℤ sc) *ℤ w ≡ pos 0
vanish c a sc sa x y w ey ew =
    same (dv c ⊗ dv sa ⊗ dv y ⊕ dneg (dv a ⊗ dv sc) ⊗ dv w) (dv sa ⊗ (dv c ⊗ dv y) ⊕ dneg (dv a ⊗ (dv sc ⊗ dv w))) (omega arith) ∙
    ap₂ (λ s t. sa *ℤ s +ℤ neg_ℤ (a *ℤ t)) ey ew ∙ same (dv sa ⊗ (dv a ⊗ dv x) ⊕ dneg (dv a ⊗ (dv sa ⊗ dv x))) (dv (pos 0)) (omega arith)

both_zero : (m q x y : ℤ) → x ≡ pos 0 → y ≡ pos 0 → m *ℤ x +ℤ q *ℤ y ≡ pos 0
both_zero m q x y ex ey = ap₂ (λ s t. m *ℤ s +ℤ q *ℤ t) ex ey ∙ omega (arith, ints)

zero_value : (h x : List ℤ) → AllZero x → dot h x ≡ pos 0
zero_value [] x z = refl
zero_value (a ∷ h) [] z = refl
zero_value (a ∷ h) (b ∷ x) z = rw (z.0, zero_value h x z.1) (omega (arith, ints))

positive_value : (c a x y : ℤ) → c *ℤ y ≡ a *ℤ x → y ≡ pos 0 → pos 0 <ℤ (a *ℤ x) → ⊥
positive_value c a x y e z p = let k : c *ℤ y ≡ pos 0 = ap (λ t. c *ℤ t) z ∙ omega (arith, ints) in omega (arith, ints)

-- ---- one vector

projection_straight : (n : ℕ) (hs es lin rays ortho : List (List ℤ)) (x y : List ℤ) → IsDescribed n hs es lin rays → Contains rays x → IsPrimitive x →
    IsOrthogonalized lin ortho → length y ≡ n → IsPrimitive y → IsProjection (hs ++ es) lin x y → IsStraightened ortho x y
projection_straight n hs es lin rays ortho x y d cx px o ly py p =
    let b : Basis n lin ortho = basis n lin ortho d.lin_width o in
    let lx : length x ≡ n = d.rays_width x cx in
    let w = straight_exists ortho x in
    let s : Straight n ortho x w.0 = straightened n ortho x w.0 b.base lx w.1 in
    let lw : length w.0 ≡ n = s.long in
    let c : ℤ = p.of_x.0 in let a : ℤ = p.of_y.0 in
    let m : ℤ = c *ℤ s.a in let q : ℤ = a *ℤ s.c in
    let flat : (h : List ℤ) → Contains (hs ++ es) h → (l : List ℤ) → Contains lin l → dot h l ≡ pos 0 =
    λ h k l i. elim (Contains-append_cases hs es h k) [ inl e ↦ d.valid.flat h l e i | inr e ↦ d.lin_solves h l e i ] in
    let along : (h : List ℤ) → Contains (hs ++ es) h → s.c *ℤ dot h w.0 ≡ s.a *ℤ dot h x =
    λ h k. straight_dot n ortho x w.0 h lx s (λ u i. Made-dot_zero n [] lin h u (λ t j. absurd (none_in t j)) (flat h k) (b.within u i)) in
    let u : List ℤ = vector_sum (scaled m y) (scaled (neg_ℤ q) w.0) in
    let at : (h : List ℤ) → dot h u ≡ m *ℤ dot h y +ℤ neg_ℤ q *ℤ dot h w.0 =
    λ h. same (by h (dv m ⊡ vv y ly ⊞ dneg (dv q) ⊡ vv w.0 lw)) (dv m ⊗ by h (vv y ly) ⊕ dneg (dv q) ⊗ by h (vv w.0 lw)) (omega arith) in
    let none : (h : List ℤ) → Contains (hs ++ es) h → dot h u ≡ pos 0 = λ h k. at h ∙ vanish c a s.c s.a (dot h x) (dot h y) (dot h w.0)
    (given_at (hs ++ es) x y p.given c a p.of_x.1.multiple p.of_y.1.multiple h k) (along h k) in
    let lu : length u ≡ n = length-plus (scaled m y) (scaled (neg_ℤ q) w.0) (length-times m y ∙ ly ∙ sym (length-times (neg_ℤ q) w.0 ∙ lw)) ∙
    length-times m y ∙ ly in
    let low : (h : List ℤ) → Contains hs h → dot h u ≡ pos 0 = λ h k. none h (Contains-append_left hs es h k) in
    let made : Made n [] lin u = flat_made n hs rays lin u d.valid d.pointed
    (d.complete u lu (λ h k. zero_up (dot h u) (low h k)) (λ e k. none e (Contains-append_right hs es e k))) low in
    let own : dot u u ≡ pos 0 = Made-dot_zero n [] lin u u (λ t j. absurd (none_in t j)) (λ l k. dot_comm u l ∙ at l ∙ both_zero m (neg_ℤ q) (dot l y)
    (dot l w.0)
    (dot_comm l y ∙ All-contains (λ t. dot y t ≡ pos 0) lin l p.orthogonal k)
    (dot_comm l w.0 ∙ orthogonal_all n lin ortho w.0 l b (λ z i. dot_comm w.0 z ∙ straight_zero n ortho x w.0 z b.base b.orthogonal lx w.1 i) k)) made in
    let e : scaled m y ≡ scaled q w.0 = vsame (dv m ⊡ vv y ly) (dv m ⊡ vv y ly ⊞ dneg (dv q) ⊡ vv w.0 lw ⊞ dv q ⊡ vv w.0 lw) (λ i. omega arith) ∙
    ap (λ t. vector_sum t (scaled q w.0)) (own_zero u own ∙ ap zeros lu) ∙ vsame (vz n ⊞ dv q ⊡ vv w.0 lw) (dv q ⊡ vv w.0 lw) (λ i. omega arith) in
    let g = d.pointed x cx in
    subst (IsStraightened ortho x) (sym (primitive_same w.0 y m q (0<-*ℤ c s.a p.of_x.1.positive s.a_positive) (0<-*ℤ a s.c p.of_y.1.positive s.c_positive) e
    (straight_primitive ortho x w.0 w.1 px) py (λ z. positive_value s.c s.a (dot g.0 x) (dot g.0 w.0) (along g.0 (Contains-append_left hs es g.0 g.1.0))
    (zero_value g.0 w.0 z) (0<-*ℤ s.a (dot g.0 x) s.a_positive g.1.1)))) w.1

-- ---- all rays

zip_with : (Q R : Ray → Ray → Type 0) (xs ys : List Ray) → ((x y : Ray) → Contains xs x → Q x y → R x y) → AllZip Q xs ys → AllZip R xs ys
zip_with Q R [] [] f a = tt
zip_with Q R [] (y ∷ ys) f a = absurd a
zip_with Q R (x ∷ xs) [] f a = absurd a
zip_with Q R (x ∷ xs) (y ∷ ys) f a = (f x y (Contains-here x xs) a.0, zip_with Q R xs ys (λ z t c k. f z t (in_tail x xs z c) k) a.1)

pub projected_brought : (n : ℕ) (hs es lin : List (List ℤ)) (rays out : List Ray) → IsConeState n hs es lin rays →
    AllZip (IsProjectedRay (hs ++ es) lin) rays out → AreBrought lin rays out
projected_brought n hs es lin rays out s z =
    let o = orthogonal_from [] lin [] start in (
      o.0,
      (
        o.1,
        zip_with (IsProjectedRay (hs ++ es) lin) (IsStraightRay o.0) rays out (λ r t c p.
            let k = vector_in rays r c in (
              projection_straight n hs es lin (vectors_of rays) o.0 r.vector t.vector s.described k (s.primitive r.vector (inr k)) o.1
                  (p.long ∙ s.described.rays_width r.vector k) p.primitive p.projection,
              p.flags,
            )) z,
      ),
    )
