-- The line of a ray: what each row that is zero on the ray is zero on, and how large the ray is by that.
-- To cite: IsOnLine, IsLifted, lifted_over, on_ray_line, small_on_line. The rest are steps.
use Rattle.std.proofs.Common.{◌≡◌, ℕ, ◌≤◌, List, [], ◌∷◌, length, ℤ, pos, negsuc, ◌+ℤ◌, ◌-ℤ◌, ◌*ℤ◌, neg_ℤ, ◌<ℤ◌, ◌≤ℤ◌, unsigned_abs, arith, sym, refl, ap, ◌∙◌}
use Rattle.std.proofs.Common.{subst, inl, inr, All, Contains}
use Rattle.std.proofs.lemmas.Int.{ints}
use Rattle.std.proofs.lemmas.List.Elements.{All-contains}
use Rattle.gf_int_theory.specs.Content.{AllZero, IsPrimitive, scaled}
use Rattle.gf_int_theory.proofs.RingLaws.{same, dv, dn, dneg, ◌⊕◌, ◌⊗◌, ◌⊖◌}
use Rattle.gf_int_theory.proofs.SignLaws.{0≤-*ℤ, 0<-*ℤ, zero-cancel, zero_product, sign_of, negative, none, positive}
use Rattle.gf_int_theory.proofs.ListLaws.{Contains-here}
use Rattle.gf_vec.specs.Vector.{dot, vector_sum, zeros, entry_at}
use Rattle.gf_vec.proofs.EntryLaws.{entry_times}
use Rattle.gf_vec.proofs.VectorLaws.{dot-plus, dot-times, length-plus, length-times}
use Rattle.gf_vec.proofs.DotLaws.{own_zero, dot_zero_row, dot-plus_right, dot-times_right}
use Rattle.gf_vec.proofs.PrimitiveLaws.{primitive_of, primitive_opposite, primitive_same}
use Rattle.gf_vec.proofs.VectorIdentities.{vv, vz, ◌⊞◌, ◌⊡◌, vsame}
use Rattle.gf_gordan.proofs.ExistenceLaws.{divided_exists}
use Rattle.gf_gordan.proofs.SizeLaws.{UpTo, up_divided}
use Rattle.gf_duality_theory.specs.Rays.{IsRays}
use Rattle.gf_duality_theory.specs.Generators.{Made, IsDescribed}
use Rattle.gf_duality_theory.proofs.ListLaws.{none_in, in_tail, in_cons}
use Rattle.gf_duality_theory.proofs.Made.{Made-length, Made-dot_zero}
use Rattle.gf_duality_theory.proofs.Stepping.{IsSplit, split}
use Rattle.gf_duality_theory.proofs.Taking.{IsMultiple, single, ZeroWhere}
use Rattle.gf_duality_theory.proofs.Uniqueness.{face_made}
use Rattle.gf_duality_theory.proofs.Determined.{described_of, alone_of}

-- a positive multiple of v is a multiple of r
pub record IsOnLine (r v : List ℤ) : Type 0 where
  pub k : ℤ
  pub k_positive : pos 0 <ℤ k
  pub a : ℤ
  pub is : scaled k v ≡ scaled a r

-- ---- enough of a ray, added to a vector, is in the cone

pub record IsLifted (hs : List (List ℤ)) (r v : List ℤ) : Type 0 where
  pub big : ℤ
  pub big_fits : pos 0 ≤ℤ big
  pub within : (h : List ℤ) → Contains hs h → pos 0 ≤ℤ (big *ℤ dot h r +ℤ dot h v)

grown : (b c x y : ℤ) → pos 0 ≤ℤ c → pos 0 ≤ℤ x → pos 0 ≤ℤ (b *ℤ x +ℤ y) → pos 0 ≤ℤ ((b +ℤ c) *ℤ x +ℤ y)
grown b c x y g h k =
    let p : pos 0 ≤ℤ (c *ℤ x) = 0≤-*ℤ c x g h in
    let e : (b +ℤ c) *ℤ x ≡ b *ℤ x +ℤ c *ℤ x = same ((dv b ⊕ dv c) ⊗ dv x) (dv b ⊗ dv x ⊕ dv c ⊗ dv x) (omega arith) in
    omega (arith, ints, p, e, k)

own_grown : (b c x y : ℤ) → pos 0 ≤ℤ b → pos 0 ≤ℤ c → pos 0 ≤ℤ (c +ℤ y) → pos 0 ≤ℤ x → (x ≡ pos 0 → y ≡ pos 0) → pos 0 ≤ℤ ((b +ℤ c) *ℤ x +ℤ y)
own_grown b c x y f g s h z = elim (sign_of x) [
  | negative l ↦ absurd (omega (arith, ints, l, h))
  | none e ↦ let i : y ≡ pos 0 = z e in rw (e, i) (omega (arith, ints))
  | positive l ↦
      let d : ℤ = x -ℤ pos 1 in
      let i : pos 0 ≤ℤ ((b +ℤ c) *ℤ d) = 0≤-*ℤ (b +ℤ c) d (omega (arith, ints, f, g)) (omega (arith, ints, l)) in
      let e : (b +ℤ c) *ℤ x ≡ (b +ℤ c) *ℤ d +ℤ (b +ℤ c) = same ((dv b ⊕ dv c) ⊗ dv x) ((dv b ⊕ dv c) ⊗ (dv x ⊖ dn 1) ⊕ (dv b ⊕ dv c)) (omega arith) in
      omega (arith, ints, i, e, f, s)
]

pub lifted_over : (hs : List (List ℤ)) (r v : List ℤ) → ((h : List ℤ) → Contains hs h → pos 0 ≤ℤ dot h r) → ZeroWhere hs r v → IsLifted hs r v
lifted_over [] r v f z = record { big = pos 0; big_fits = omega (arith, ints); within = λ h c. absurd (none_in h c) }
lifted_over (h ∷ hs) r v f z =
    let s = lifted_over hs r v (λ k c. f k (in_tail h hs k c)) (λ k c e. z k (in_tail h hs k c) e) in
    let i = Contains-here h hs in
    let b = s.big_fits in
    record {
      big = s.big +ℤ pos (unsigned_abs (dot h v));
      big_fits = omega (arith, ints, b);
      within = λ k c. elim (in_cons h hs k c) [
        | inl e ↦ subst (λ (t : List ℤ). pos 0 ≤ℤ ((s.big +ℤ pos (unsigned_abs (dot h v))) *ℤ dot t r +ℤ dot t v)) (sym e)
            (own_grown s.big (pos (unsigned_abs (dot h v))) (dot h r) (dot h v) b (omega (arith, ints)) (omega (arith, ints)) (f h i) (z h i))
        | inr d ↦ grown s.big (pos (unsigned_abs (dot h v))) (dot k r) (dot k v) (omega (arith, ints)) (f k c) (s.within k d)
      ];
    }

-- ---- on the line of a ray

zero_sum : (b x y : ℤ) → x ≡ pos 0 → y ≡ pos 0 → b *ℤ x +ℤ y ≡ pos 0
zero_sum b x y e f = rw (e, f) (omega (arith, ints))

zero_left : (k x y z : ℤ) → pos 0 <ℤ k → k *ℤ x ≡ y +ℤ z → x ≡ pos 0 → z ≡ pos 0 → y ≡ pos 0
zero_left k x y z h e p q = let f : k *ℤ x ≡ pos 0 = rw p (omega (arith, ints)) in omega (arith, ints, e, f, q)

module _ (n : ℕ) (hs es lin rays : List (List ℤ)) (r v : List ℤ) (is : IsRays n hs es lin rays) (c : Contains rays r) (lv : length v ≡ n)
    (solves : (e : List ℤ) → Contains es e → dot e v ≡ pos 0) (flat : (l : List ℤ) → Contains lin l → dot v l ≡ pos 0) (z : ZeroWhere hs r v) where
  d : IsDescribed n hs es lin rays
  d = described_of n hs es lin rays is

  lr : length r ≡ n
  lr = d.rays_width r c

  ray_flat : (l : List ℤ) → Contains lin l → dot r l ≡ pos 0
  ray_flat l k = All-contains (λ y. dot r y ≡ pos 0) lin l (All-contains (λ q. All (λ y. dot q y ≡ pos 0) lin) rays r is.orthogonal c) k

  lift : IsLifted hs r v
  lift = lifted_over hs r v (λ h k. d.valid.up h r k c) z

  abbrev u : List ℤ
  u = vector_sum (scaled lift.big r) v

  long_scaled : length (scaled lift.big r) ≡ n
  long_scaled = length-times lift.big r ∙ lr

  lu : length u ≡ n
  lu = length-plus (scaled lift.big r) v (long_scaled ∙ sym lv) ∙ long_scaled

  value : (h : List ℤ) → dot h u ≡ lift.big *ℤ dot h r +ℤ dot h v
  value h = dot-plus_right h (scaled lift.big r) v (long_scaled ∙ sym lv) ∙ ap (λ (x : ℤ). x +ℤ dot h v) (dot-times_right lift.big h r)

  made : Made n rays lin u
  made = d.complete u lu (λ h k. subst (λ (x : ℤ). pos 0 ≤ℤ x) (sym (value h)) (lift.within h k))
      (λ e k. value e ∙ zero_sum lift.big (dot e r) (dot e v) (d.solves e r k c) (solves e k))

  part : Made n (r ∷ []) lin u
  part = face_made n hs rays (r ∷ []) lin r u d.valid
      (λ x k w. subst (Contains (r ∷ [])) (sym (alone_of n hs es lin rays r x is c k w)) (Contains-here r [])) made
      (λ h k e. value h ∙ zero_sum lift.big (dot h r) (dot h v) e (z h k e))

  s : IsSplit n [] (r ∷ []) lin u
  s = split n (r ∷ []) [] (r ∷ []) lin u (λ x k. inr k) part

  t : IsMultiple r s.q
  t = single n (r ∷ []) [] r s.q lr (λ y k. elim (in_cons r [] y k) [ inl e ↦ e | inr o ↦ absurd (none_in y o) ]) (λ y k. none_in y k) s.of_q

  lp : length s.p ≡ n
  lp = Made-length n [] lin s.p s.of_p

  lq : length s.q ≡ n
  lq = Made-length n (r ∷ []) [] s.q s.of_q

  -- what is left over is lineal and orthogonal to the lineality space
  over_flat : (l : List ℤ) → Contains lin l → dot s.p l ≡ pos 0
  over_flat l k =
      let of_u : dot u l ≡ pos 0 =
      dot-plus (scaled lift.big r) v l (long_scaled ∙ sym lv) ∙ ap (λ (x : ℤ). x +ℤ dot v l) (dot-times lift.big r l)
      ∙ zero_sum lift.big (dot r l) (dot v l) (ray_flat l k) (flat l k) in
      let of_q : dot s.q l ≡ pos 0 =
      zero-cancel t.k (dot s.q l) t.k_positive (sym (dot-times t.k s.q l) ∙ ap (λ (x : List ℤ). dot x l) t.is ∙ dot-times t.a r l
      ∙ zero_product t.a (dot r l) (ray_flat l k)) in
      zero_left s.k (dot u l) (dot s.p l) (dot s.q l) s.k_positive
      (sym (dot-times s.k u l) ∙ ap (λ (x : List ℤ). dot x l) s.sum ∙ dot-plus s.p s.q l (lp ∙ sym lq)) of_u of_q

  over_zero : s.p ≡ zeros n
  over_zero = own_zero s.p (Made-dot_zero n [] lin s.p s.p (λ x k. absurd (none_in x k)) over_flat s.of_p) ∙ ap zeros lp

  on_line : scaled (t.k *ℤ s.k) v ≡ scaled (t.a -ℤ t.k *ℤ s.k *ℤ lift.big) r
  on_line =
      vsame (dv t.k ⊗ dv s.k ⊡ vv v lv) (dv t.k ⊡ (dv s.k ⊡ (dv lift.big ⊡ vv r lr ⊞ vv v lv)) ⊞ dneg (dv t.k ⊗ dv s.k ⊗ dv lift.big) ⊡ vv r lr)
      (λ w. omega arith)
      ∙ ap (λ (x : List ℤ). vector_sum (scaled t.k x) (scaled (neg_ℤ (t.k *ℤ s.k *ℤ lift.big)) r)) (s.sum ∙ ap (λ (x : List ℤ). vector_sum x s.q) over_zero)
      ∙ vsame (dv t.k ⊡ (vz n ⊞ vv s.q lq) ⊞ dneg (dv t.k ⊗ dv s.k ⊗ dv lift.big) ⊡ vv r lr)
      (dv t.k ⊡ vv s.q lq ⊞ dneg (dv t.k ⊗ dv s.k ⊗ dv lift.big) ⊡ vv r lr) (λ w. omega arith)
      ∙ ap (λ (x : List ℤ). vector_sum x (scaled (neg_ℤ (t.k *ℤ s.k *ℤ lift.big)) r)) t.is
      ∙ vsame (dv t.a ⊡ vv r lr ⊞ dneg (dv t.k ⊗ dv s.k ⊗ dv lift.big) ⊡ vv r lr) ((dv t.a ⊖ dv t.k ⊗ dv s.k ⊗ dv lift.big) ⊡ vv r lr) (λ w. omega arith)

  -- a vector orthogonal to the lineality space on which each row is zero that is zero on the ray, is on its line
  pub on_ray_line : IsOnLine r v
  on_ray_line = record { k = t.k *ℤ s.k; k_positive = 0<-*ℤ t.k s.k t.k_positive s.k_positive; a = t.a -ℤ t.k *ℤ s.k *ℤ lift.big; is = on_line }

-- ---- how large a primitive vector on the line of another one is

no_zero : (k a : ℤ) (r v : List ℤ) → pos 0 <ℤ k → scaled k v ≡ scaled a r → pos 0 <ℤ dot v v → AllZero r → ⊥
no_zero k a r v hk e some z =
    let f : k *ℤ dot v v ≡ pos 0 = sym (dot-times k v v) ∙ ap (λ (x : List ℤ). dot x v) e ∙ dot-times a r v ∙ zero_product a (dot r v) (dot_zero_row r v z) in
    let g : dot v v ≡ pos 0 = zero-cancel k (dot v v) hk f in
    omega (arith, ints, g, some)

line_up : (m : ℕ) (r v : List ℤ) (k a : ℤ) → pos 0 <ℤ k → pos 0 <ℤ a → scaled k v ≡ scaled a r → IsPrimitive r → pos 0 <ℤ dot v v → UpTo m v → UpTo m r
line_up m r v k a hk ha e p some up =
    let d = divided_exists v in
    let u : List ℤ = d.0 in
    let c : ℤ = d.1.0 in
    let one_line : scaled (k *ℤ c) u ≡ scaled a r =
    vsame (dv k ⊗ dv c ⊡ vv u refl) (dv k ⊡ (dv c ⊡ vv u refl)) (λ w. omega arith) ∙ ap (scaled k) d.1.1.multiple ∙ e in
    let s : u ≡ r = primitive_same r u (k *ℤ c) a (0<-*ℤ k c hk d.1.1.positive) ha one_line p (primitive_of v u d.1) (no_zero k a r v hk e some) in
    subst (UpTo m) s (up_divided m v u c d.1.1 up)

minus_up : (m : ℕ) (r : List ℤ) → UpTo m (scaled (negsuc 0) r) → UpTo m r
minus_up m r up = record {
  at = λ i. let e = entry_times (negsuc 0) r i in let p = up.at i in
      let q : unsigned_abs (negsuc 0 *ℤ entry_at r i) ≤ m = subst (λ (x : ℤ). unsigned_abs x ≤ m) e p in omega (arith, ints, q);
}

pub small_on_line : (m : ℕ) (r v : List ℤ) → IsPrimitive r → pos 0 <ℤ dot v v → UpTo m v → IsOnLine r v → UpTo m r
small_on_line m r v p some up o = elim (sign_of o.a) [
  | positive g ↦ line_up m r v o.k o.a o.k_positive g o.is p some up
  | none g ↦
      let f : o.k *ℤ dot v v ≡ pos 0 =
      sym (dot-times o.k v v) ∙ ap (λ (x : List ℤ). dot x v) o.is ∙ dot-times o.a r v ∙ ap (λ (x : ℤ). x *ℤ dot r v) g ∙ omega (arith, ints) in
      let q : dot v v ≡ pos 0 = zero-cancel o.k (dot v v) o.k_positive f in
      absurd (omega (arith, ints, q, some))
  | negative g ↦
      let other : scaled o.k v ≡ scaled (neg_ℤ o.a) (scaled (negsuc 0) r) =
      o.is ∙ vsame (dv o.a ⊡ vv r refl) (dneg (dv o.a) ⊡ (dneg (dn 1) ⊡ vv r refl)) (λ w. omega arith) in
      minus_up m r (line_up m (scaled (negsuc 0) r) v o.k (neg_ℤ o.a) o.k_positive (omega (arith, ints, g)) other (primitive_opposite r p) some up)
]
