-- A cone in the plane has at most two rays, and small lineality vectors.
-- To cite: plane_rays_few, plane_line_up. The rest are steps.
use Rattle.std.proofs.Common.{◌≡◌, ℕ, ◌≤◌, List, [], ◌∷◌, length, ℤ, pos, ◌+ℤ◌, ◌-ℤ◌, ◌*ℤ◌, neg_ℤ, ◌<ℤ◌, ◌≤ℤ◌, arith, refl, sym, ap, ap₂, ◌∙◌, subst}
use Rattle.std.proofs.Common.{Contains}
use Rattle.std.specs.Ordering.{int_cmp}
use Rattle.std.specs.Cmp.Lexicographic.{slice_cmp}
use Rattle.std.specs.declared.cmp.Ordering.TheVariants.{Less}
use Rattle.std.proofs.lemmas.Int.{ints}
use Rattle.std.proofs.lemmas.List.Elements.{All-contains}
use Rattle.gf_int_theory.specs.Content.{IsPrimitive}
use Rattle.gf_int_theory.proofs.RingLaws.{same, dv, dn, ◌⊕◌, ◌⊗◌, ◌⊖◌, neg-*ℤ}
use Rattle.gf_int_theory.proofs.SignLaws.{0≤-*ℤ, 0<-*ℤ, zero-cancel, zero_product, not_negative, IsSigned, sign_of, negative, none, positive}
use Rattle.gf_int_theory.proofs.ListLaws.{Contains-here}
use Rattle.gf_vec.specs.Vector.{dot, zeros, entry_at}
use Rattle.gf_vec.proofs.VectorLaws.{dot_comm}
use Rattle.gf_vec.proofs.DotLaws.{own_zero, own_not_negative, dot-times_right}
use Rattle.gf_gordan.specs.Elimination.{IsPivot}
use Rattle.gf_gordan.proofs.SizeLaws.{UpTo, up_zeros}
use Rattle.gf_duality_theory.specs.Rays.{IsRays}
use Rattle.gf_duality_theory.specs.Generators.{IsDescribed}
use Rattle.gf_duality_theory.proofs.ListLaws.{in_tail}
use Rattle.gf_duality_theory.proofs.Determined.{described_of, alone_of, less_never}
use Rattle.gfan_theory.proofs.RayLines.{small_on_line}
use Rattle.gfan_theory.proofs.SmallRays.{some_own, turned, dot_two, determinant, line_two, turned_zero, turned_own, turned_up}

-- ---- sums of three numbers

first_of_three : (p q r : ℤ) → p +ℤ (q +ℤ r) ≡ pos 0 → neg_ℤ p ≡ q +ℤ r
first_of_three p q r e = omega (arith, ints, e)

second_of_three : (p q r : ℤ) → p +ℤ (q +ℤ r) ≡ pos 0 → neg_ℤ q ≡ p +ℤ r
second_of_three p q r e = omega (arith, ints, e)

third_of_three : (p q r : ℤ) → p +ℤ (q +ℤ r) ≡ pos 0 → neg_ℤ r ≡ p +ℤ q
third_of_three p q r e = omega (arith, ints, e)

lone_first : (p q r : ℤ) → p +ℤ (q +ℤ r) ≡ pos 0 → p ≡ neg_ℤ q +ℤ neg_ℤ r
lone_first p q r e = omega (arith, ints, e)

lone_second : (p q r : ℤ) → p +ℤ (q +ℤ r) ≡ pos 0 → q ≡ neg_ℤ p +ℤ neg_ℤ r
lone_second p q r e = omega (arith, ints, e)

lone_third : (p q r : ℤ) → p +ℤ (q +ℤ r) ≡ pos 0 → r ≡ neg_ℤ p +ℤ neg_ℤ q
lone_third p q r e = omega (arith, ints, e)

all_opposite : (p q r : ℤ) → p +ℤ (q +ℤ r) ≡ pos 0 → neg_ℤ p +ℤ (neg_ℤ q +ℤ neg_ℤ r) ≡ pos 0
all_opposite p q r e = omega (arith, ints, e)

opposite_up : (x : ℤ) → x <ℤ pos 0 → pos 0 <ℤ neg_ℤ x
opposite_up x h = omega (arith, ints, h)

sum_up : (p q r : ℤ) → pos 0 <ℤ p → pos 0 ≤ℤ q → pos 0 ≤ℤ r → p +ℤ (q +ℤ r) ≡ pos 0 → ⊥
sum_up p q r h k l e = omega (arith, ints, h, k, l, e)

both_zero : (p q r : ℤ) → p ≡ pos 0 → p ≡ q +ℤ r → pos 0 ≤ℤ q → pos 0 ≤ℤ r → q ≡ pos 0
both_zero p q r z e k l = omega (arith, ints, z, e, k, l)

two_sums : (a b x y : ℤ) → x ≡ pos 0 → y ≡ pos 0 → a *ℤ x +ℤ b *ℤ y ≡ pos 0
two_sums a b x y e f = let k = zero_product a x e in let l = zero_product b y f in omega (arith, ints, k, l)

-- three vectors of two entries, by their determinants: one entry of each
determinants : (x y z u v w : ℤ) → (y *ℤ w -ℤ v *ℤ z) *ℤ x +ℤ ((z *ℤ u -ℤ w *ℤ x) *ℤ y +ℤ (x *ℤ v -ℤ u *ℤ y) *ℤ z) ≡ pos 0
determinants x y z u v w =
    same ((dv y ⊗ dv w ⊖ dv v ⊗ dv z) ⊗ dv x ⊕ ((dv z ⊗ dv u ⊖ dv w ⊗ dv x) ⊗ dv y ⊕ (dv x ⊗ dv v ⊖ dv u ⊗ dv y) ⊗ dv z)) (dn 0) (omega arith)

other_determinants : (x y z u v w : ℤ) → (y *ℤ w -ℤ v *ℤ z) *ℤ u +ℤ ((z *ℤ u -ℤ w *ℤ x) *ℤ v +ℤ (x *ℤ v -ℤ u *ℤ y) *ℤ w) ≡ pos 0
other_determinants x y z u v w =
    same ((dv y ⊗ dv w ⊖ dv v ⊗ dv z) ⊗ dv u ⊕ ((dv z ⊗ dv u ⊖ dv w ⊗ dv x) ⊗ dv v ⊕ (dv x ⊗ dv v ⊖ dv u ⊗ dv y) ⊗ dv w)) (dn 0) (omega arith)

-- a row on three such vectors
on_row : (a b c g h x y z u v w : ℤ) → a *ℤ x +ℤ (b *ℤ y +ℤ c *ℤ z) ≡ pos 0 → a *ℤ u +ℤ (b *ℤ v +ℤ c *ℤ w) ≡ pos 0 →
    a *ℤ (g *ℤ x +ℤ h *ℤ u) +ℤ (b *ℤ (g *ℤ y +ℤ h *ℤ v) +ℤ c *ℤ (g *ℤ z +ℤ h *ℤ w)) ≡ pos 0
on_row a b c g h x y z u v w e f =
    same (dv a ⊗ (dv g ⊗ dv x ⊕ dv h ⊗ dv u) ⊕ (dv b ⊗ (dv g ⊗ dv y ⊕ dv h ⊗ dv v) ⊕ dv c ⊗ (dv g ⊗ dv z ⊕ dv h ⊗ dv w)))
    (dv g ⊗ (dv a ⊗ dv x ⊕ (dv b ⊗ dv y ⊕ dv c ⊗ dv z)) ⊕ dv h ⊗ (dv a ⊗ dv u ⊕ (dv b ⊗ dv v ⊕ dv c ⊗ dv w))) (omega arith)
    ∙ two_sums g h (a *ℤ x +ℤ (b *ℤ y +ℤ c *ℤ z)) (a *ℤ u +ℤ (b *ℤ v +ℤ c *ℤ w)) e f

-- the determinant of two vectors of two entries
abbrev det : List ℤ → List ℤ → ℤ
det x y = entry_at x 0 *ℤ entry_at y 1 -ℤ entry_at x 1 *ℤ entry_at y 0

-- ---- three rays

module _ (hs es lin rays : List (List ℤ)) (is : IsRays 2 hs es lin rays) (wide : (h : List ℤ) → Contains hs h → length h ≡ 2) where
  d : IsDescribed 2 hs es lin rays
  d = described_of 2 hs es lin rays is

  -- two rays on one line are one
  one_ray : (x y : List ℤ) → Contains rays x → Contains rays y → det x y ≡ pos 0 → x ≡ y
  one_ray x y cx cy e = alone_of 2 hs es lin rays y x is cy cx (λ h c z.
      zero-cancel (dot y y) (dot h x) own (sym (dot-times_right (dot y y) h x) ∙ ap (dot h) (line_two y x (d.rays_width y cy) (d.rays_width x cx) e)
      ∙ dot-times_right (dot x y) h y ∙ zero_product (dot x y) (dot h y) z))
    where
      own : pos 0 <ℤ dot y y
      own = let p = d.pointed y cy in some_own y p.0 (λ f. let g : dot p.0 y ≡ pos 0 = dot_comm p.0 y ∙ f in let q = p.1.1 in omega (arith, ints, g, q))

  abbrev AreInSum : ℤ → ℤ → ℤ → List ℤ → List ℤ → List ℤ → Type 0
  AreInSum a b c x y z = (h : List ℤ) → Contains hs h → a *ℤ dot h x +ℤ (b *ℤ dot h y +ℤ c *ℤ dot h z) ≡ pos 0

  -- no sum of positive multiples of three rays is lineal
  no_sum : (a b c : ℤ) (x y z : List ℤ) → Contains rays x → Contains rays y → Contains rays z → pos 0 <ℤ a → pos 0 <ℤ b → pos 0 <ℤ c → AreInSum a b c x y z → ⊥
  no_sum a b c x y z cx cy cz ha hb hc e =
      let p = d.pointed x cx in
      sum_up (a *ℤ dot p.0 x) (b *ℤ dot p.0 y) (c *ℤ dot p.0 z) (0<-*ℤ a (dot p.0 x) ha p.1.1)
      (0≤-*ℤ b (dot p.0 y) (not_negative b hb) (d.valid.up p.0 y p.1.0 cy)) (0≤-*ℤ c (dot p.0 z) (not_negative c hc) (d.valid.up p.0 z p.1.0 cz)) (e p.0 p.1.0)

  -- nor is a ray the sum of positive multiples of two others
  no_middle : (a b c : ℤ) (x y z : List ℤ) → Contains rays x → Contains rays y → Contains rays z → pos 0 <ℤ b → pos 0 <ℤ c →
      ((h : List ℤ) → Contains hs h → a *ℤ dot h x ≡ b *ℤ dot h y +ℤ c *ℤ dot h z) → y ≡ x
  no_middle a b c x y z cx cy cz hb hc e = alone_of 2 hs es lin rays x y is cx cy (λ h k f.
      zero-cancel b (dot h y) hb (both_zero (a *ℤ dot h x) (b *ℤ dot h y) (c *ℤ dot h z) (zero_product a (dot h x) f) (e h k)
      (0≤-*ℤ b (dot h y) (not_negative b hb) (d.valid.up h y k cy)) (0≤-*ℤ c (dot h z) (not_negative c hc) (d.valid.up h z k cz))))

  module _ (x y z : List ℤ) (cx : Contains rays x) (cy : Contains rays y) (cz : Contains rays z) (xy : x ≡ y → ⊥) (xz : x ≡ z → ⊥) (yz : y ≡ z → ⊥) where
    in_sum : (h : List ℤ) → Contains hs h → det y z *ℤ dot h x +ℤ (det z x *ℤ dot h y +ℤ det x y *ℤ dot h z) ≡ pos 0
    in_sum h k =
        let w = wide h k in
        subst (λ (t : ℤ). det y z *ℤ t +ℤ (det z x *ℤ dot h y +ℤ det x y *ℤ dot h z) ≡ pos 0) (sym (dot_two h x w (d.rays_width x cx)))
        (subst (λ (t : ℤ). det y z *ℤ (entry_at h 0 *ℤ entry_at x 0 +ℤ entry_at h 1 *ℤ entry_at x 1) +ℤ (det z x *ℤ t +ℤ det x y *ℤ dot h z) ≡ pos 0)
        (sym (dot_two h y w (d.rays_width y cy)))
        (subst (λ (t : ℤ). det y z *ℤ (entry_at h 0 *ℤ entry_at x 0 +ℤ entry_at h 1 *ℤ entry_at x 1) +ℤ
        (det z x *ℤ (entry_at h 0 *ℤ entry_at y 0 +ℤ entry_at h 1 *ℤ entry_at y 1) +ℤ det x y *ℤ t) ≡ pos 0) (sym (dot_two h z w (d.rays_width z cz)))
        (on_row (det y z) (det z x) (det x y) (entry_at h 0) (entry_at h 1) (entry_at x 0) (entry_at y 0) (entry_at z 0) (entry_at x 1) (entry_at y 1)
        (entry_at z 1)
        (determinants (entry_at x 0) (entry_at y 0) (entry_at z 0) (entry_at x 1) (entry_at y 1) (entry_at z 1))
        (other_determinants (entry_at x 0) (entry_at y 0) (entry_at z 0) (entry_at x 1) (entry_at y 1) (entry_at z 1)))))

    down : (m : ℤ) (h t : List ℤ) → neg_ℤ m *ℤ dot h t ≡ neg_ℤ (m *ℤ dot h t)
    down m h t = neg-*ℤ m (dot h t)

    pub no_three : ⊥
    no_three = at (sign_of (det y z)) (sign_of (det z x)) (sign_of (det x y))
      where
        at : IsSigned (det y z) → IsSigned (det z x) → IsSigned (det x y) → ⊥
        at (none e) q r = yz (one_ray y z cy cz e)
        at p (none e) r = xz (sym (one_ray z x cz cx e))
        at p q (none e) = xy (one_ray x y cx cy e)
        at (positive p) (positive q) (positive r) = no_sum (det y z) (det z x) (det x y) x y z cx cy cz p q r in_sum
        at (positive p) (positive q) (negative r) = xz (no_middle (neg_ℤ (det x y)) (det y z) (det z x) z x y cz cx cy p q
            (λ h k. down (det x y) h z ∙ third_of_three (det y z *ℤ dot h x) (det z x *ℤ dot h y) (det x y *ℤ dot h z) (in_sum h k)))
        at (positive p) (negative q) (positive r) = xy (no_middle (neg_ℤ (det z x)) (det y z) (det x y) y x z cy cx cz p r
            (λ h k. down (det z x) h y ∙ second_of_three (det y z *ℤ dot h x) (det z x *ℤ dot h y) (det x y *ℤ dot h z) (in_sum h k)))
        at (positive p) (negative q) (negative r) = xy (sym (no_middle (det y z) (neg_ℤ (det z x)) (neg_ℤ (det x y)) x y z cx cy cz (opposite_up (det z x) q)
            (opposite_up (det x y) r) (λ h k. lone_first (det y z *ℤ dot h x) (det z x *ℤ dot h y) (det x y *ℤ dot h z) (in_sum h k)
            ∙ sym (ap₂ (λ (s t : ℤ). s +ℤ t) (down (det z x) h y) (down (det x y) h z)))))
        at (negative p) (positive q) (positive r) = xy (sym (no_middle (neg_ℤ (det y z)) (det z x) (det x y) x y z cx cy cz q r
            (λ h k. down (det y z) h x ∙ first_of_three (det y z *ℤ dot h x) (det z x *ℤ dot h y) (det x y *ℤ dot h z) (in_sum h k))))
        at (negative p) (positive q) (negative r) = xy (no_middle (det z x) (neg_ℤ (det y z)) (neg_ℤ (det x y)) y x z cy cx cz (opposite_up (det y z) p)
            (opposite_up (det x y) r) (λ h k. lone_second (det y z *ℤ dot h x) (det z x *ℤ dot h y) (det x y *ℤ dot h z) (in_sum h k)
            ∙ sym (ap₂ (λ (s t : ℤ). s +ℤ t) (down (det y z) h x) (down (det x y) h z))))
        at (negative p) (negative q) (positive r) = xz (no_middle (det x y) (neg_ℤ (det y z)) (neg_ℤ (det z x)) z x y cz cx cy (opposite_up (det y z) p)
            (opposite_up (det z x) q) (λ h k. lone_third (det y z *ℤ dot h x) (det z x *ℤ dot h y) (det x y *ℤ dot h z) (in_sum h k)
            ∙ sym (ap₂ (λ (s t : ℤ). s +ℤ t) (down (det y z) h x) (down (det z x) h y))))
        at (negative p) (negative q) (negative r) = no_sum (neg_ℤ (det y z)) (neg_ℤ (det z x)) (neg_ℤ (det x y)) x y z cx cy cz (opposite_up (det y z) p)
            (opposite_up (det z x) q) (opposite_up (det x y) r) (λ h k.
            ap₂ (λ (s t : ℤ). s +ℤ t) (down (det y z) h x) (ap₂ (λ (s t : ℤ). s +ℤ t) (down (det z x) h y) (down (det x y) h z))
            ∙ all_opposite (det y z *ℤ dot h x) (det z x *ℤ dot h y) (det x y *ℤ dot h z) (in_sum h k))

-- ---- at most two

pub plane_rays_few : (hs es lin rays : List (List ℤ)) → IsRays 2 hs es lin rays → ((h : List ℤ) → Contains hs h → length h ≡ 2) → length rays ≤ 2
plane_rays_few hs es lin [] is wide = omega arith
plane_rays_few hs es lin (x ∷ []) is wide = omega arith
plane_rays_few hs es lin (x ∷ (y ∷ [])) is wide = omega arith
plane_rays_few hs es lin (x ∷ (y ∷ (z ∷ rays))) is wide =
    let apart : (u v : List ℤ) → slice_cmp int_cmp u v ≡ Less → u ≡ v → ⊥ =
    λ u v l e. (let m : slice_cmp int_cmp v v ≡ Less = subst (λ (t : List ℤ). slice_cmp int_cmp t v ≡ Less) e l in less_never v v m m) in
    absurd (no_three hs es lin (x ∷ (y ∷ (z ∷ rays))) is wide x y z (Contains-here x (y ∷ (z ∷ rays))) (in_tail x (y ∷ (z ∷ rays)) y
    (Contains-here y (z ∷ rays)))
    (in_tail x (y ∷ (z ∷ rays)) z (in_tail y (z ∷ rays) z (Contains-here z rays)))
    (apart x y (is.ascending 0 1 [] (omega arith) (omega arith))) (apart x z (is.ascending 0 2 [] (omega arith) (omega arith)))
    (apart y z (is.ascending 1 2 [] (omega arith) (omega arith))))

-- ---- the lineality space

-- where a row isn't zero, a lineality vector has entries that are no greater than those of the row
pub plane_line_up : (b : ℕ) (hs es lin rays : List (List ℤ)) → IsRays 2 hs es lin rays → (t : List ℤ) → Contains hs t → pos 0 <ℤ dot t t → length t ≡ 2 →
    UpTo b t → (l : List ℤ) → Contains lin l → UpTo b l
plane_line_up b hs es lin rays is t c some lt ut l k =
    let d = described_of 2 hs es lin rays is in
    let ll = d.lin_width l k in
    let e : entry_at (turned t) 0 *ℤ entry_at l 1 -ℤ entry_at (turned t) 1 *ℤ entry_at l 0 ≡ pos 0 =
    determinant t (turned t) l lt refl ll some (turned_zero t lt) (d.valid.flat t l c k) in
    small_on_line b l (turned t) (All-contains IsPrimitive lin l is.echelon.primitive k) (subst (λ (x : ℤ). pos 0 <ℤ x) (sym (turned_own t lt)) some)
    (turned_up b t ut)
    (record { k = dot l l; k_positive = own; a = dot (turned t) l; is = line_two l (turned t) ll refl e })
  where
    none_at : (m i : ℕ) → entry_at (zeros m) i ≡ pos 0
    none_at m i = let p = (up_zeros 0 m).at i in omega (arith, ints, p)

    leads : (p : ℕ) × (IsPivot l p × (pos 0 <ℤ entry_at l p))
    leads = All-contains (λ x. (p : ℕ) × (IsPivot x p × (pos 0 <ℤ entry_at x p))) lin l is.echelon.leading k

    own : pos 0 <ℤ dot l l
    own = elim (sign_of (dot l l)) [
      | positive g ↦ g
      | negative g ↦ absurd (let p = own_not_negative l in omega (arith, ints, p, g))
      | none e ↦
          let z : entry_at l leads.0 ≡ pos 0 = ap (λ (x : List ℤ). entry_at x leads.0) (own_zero l e) ∙ none_at (length l) leads.0 in
          absurd (let p = leads.1.1 in omega (arith, ints, p, z))
    ]
