-- Farkas' lemma, by Gordan's alternative and by one ray after another; and that the dual cone of the dual cone is what rays and
-- lineality vectors generate.
-- To cite: farkas_lemma, duals_of_duals. The rest are steps.
use Rattle.std.proofs.Common.{◌≡◌, ◌⊎◌, ℕ, zero, suc, List, [], ◌∷◌, length, map, ℤ, pos, negsuc, neg_ℤ, ◌+ℤ◌, ◌*ℤ◌, ◌<ℤ◌, ◌≤ℤ◌, arith, sym, refl, ap, ◌∙◌}
use Rattle.std.proofs.Common.{subst, Contains, inl, inr}
use Rattle.std.proofs.lemmas.Int.{ints}
use Rattle.std.proofs.lemmas.List.{length-map}
use Rattle.std.proofs.lemmas.List.Elements.{All-contains}
use Rattle.gf_int_theory.specs.Content.{scaled}
use Rattle.gf_int_theory.proofs.RingLaws.{same, dv, dn, dneg, ◌⊕◌, ◌⊗◌}
use Rattle.gf_int_theory.proofs.SignLaws.{sign_of, negative, none, positive}
use Rattle.gf_int_theory.proofs.ListLaws.{Contains-here, all_by}
use Rattle.gf_vec.specs.Vector.{dot, vector_sum}
use Rattle.gf_vec.proofs.VectorLaws.{dot_comm, length-times}
use Rattle.gf_vec.proofs.DotLaws.{dot-plus_right, dot-times_right}
use Rattle.gf_vec.proofs.VectorIdentities.{vv, ◌⊞◌, ◌⊡◌, vsame}
use Rattle.gf_gordan.specs.Alternative.{AreRows, GordansAlternative}
use Rattle.gf_duality_theory.specs.Rays.{Satisfies, IsLineal, Generated, IsRays}
use Rattle.gf_duality_theory.specs.Generators.{Made, ray, line, summed, multiplied, divided}
use Rattle.gf_duality_theory.proofs.ListLaws.{none_in, in_tail, in_cons}
use Rattle.gf_duality_theory.proofs.Made.{Made-into, Made-dot, Made-dot_zero}
use Rattle.gf_duality_theory.proofs.Generated.{made-generated, generated-made}
use Rattle.gf_duality_theory.proofs.EchelonUnique.{no_widths}
use Rattle.gf_fans_theory.proofs.PartNumbers.{in_map, of_map}
use Rattle.gf_fan_files.specs.Duals.{SeparatesFrom, FarkasLemma, DualsOfDuals}
use Rattle.gf_fan_files.proofs.SpanLaws.{spanned_by}

-- ---- one ray after another

-- y is in the dual cone, and v is negative on it: by members
record IsApart (n : ℕ) (rays lin : List (List ℤ)) (v y : List ℤ) : Type 0 where
  width : length y ≡ n
  up : (x : List ℤ) → Contains rays x → pos 0 ≤ℤ dot x y
  flat : (l : List ℤ) → Contains lin l → dot l y ≡ pos 0
  negative_on : dot v y <ℤ pos 0

abbrev IsDecided : ℕ → List (List ℤ) → List (List ℤ) → List ℤ → Type 0
IsDecided n rays lin v = Made n rays lin v ⊎ ((y : List ℤ) × IsApart n rays lin v y)

abbrev AreLong : ℕ → List (List ℤ) → Type 0
AreLong n rows = (x : List ℤ) → Contains rows x → length x ≡ n

-- without rays, by Gordan's alternative
by_lines : (n : ℕ) (lin : List (List ℤ)) (v : List ℤ) → GordansAlternative → AreRows n lin → length v ≡ n → IsDecided n [] lin v
by_lines n lin v g w l =
    elim (g.one n (v ∷ []) lin (all_by (λ (t : List ℤ). length t ≡ n) (v ∷ []) (λ x c. elim (in_cons v [] x c) [
      | inl e ↦ ap length e ∙ l
      | inr d ↦
          absurd (none_in x d)
    ])) w) [
      | inl s ↦
          let y = s.0 in
          let up : pos 0 <ℤ dot v y = All-contains (λ (t : List ℤ). pos 0 <ℤ dot t y) (v ∷ []) v s.1.positive (Contains-here v []) in
          let turned : dot v (scaled (negsuc 0) y) ≡ negsuc 0 *ℤ dot v y = dot-times_right (negsuc 0) v y in
          inr (
            scaled (negsuc 0) y,
            record {
              width = length-times (negsuc 0) y ∙ s.1.width;
              up = λ x c. absurd (none_in x c);
              flat = λ x c. dot-times_right (negsuc 0) x y ∙ ap (λ z. negsuc 0 *ℤ z) (All-contains (λ (t : List ℤ). dot t y ≡ pos 0) lin x s.1.zero c) ∙
                  omega (arith, ints);
              negative_on = omega (arith, ints, up, turned);
            },
          )
      | inr f ↦ inl (generated-made n [] lin v (no_widths n) w (spanned_by n lin v f.0 f.1 l w f.2))
    ]

-- x brought along r to be zero at y
abbrev pushed : List ℤ → List ℤ → List ℤ → List ℤ
pushed y r x = vector_sum (scaled (neg_ℤ (dot r y)) x) (scaled (dot x y) r)

-- and z brought along y to be zero at r
abbrev turned_to : List ℤ → List ℤ → List ℤ → List ℤ
turned_to y r z = vector_sum (scaled (neg_ℤ (dot r y)) z) (scaled (dot r z) y)

long_sum : (n : ℕ) (a b : ℤ) (u w : List ℤ) → length u ≡ n → length w ≡ n → length (vector_sum (scaled a u) (scaled b w)) ≡ n
long_sum n a b u w lu lw = (dv a ⊡ vv u lu ⊞ dv b ⊡ vv w lw).long

-- what the one gives on z, the other is given
pushed_turned : (n : ℕ) (y r x z : List ℤ) → length y ≡ n → length r ≡ n → length x ≡ n → length z ≡ n → dot x (turned_to y r z) ≡ dot (pushed y r x) z
pushed_turned n y r x z ly lr lx lz =
    let c = neg_ℤ (dot r y) in
    let left : dot x (turned_to y r z) ≡ c *ℤ dot x z +ℤ dot r z *ℤ dot x y = dot-plus_right x (scaled c z) (scaled (dot r z) y)
    (length-times c z ∙ lz ∙ sym ly ∙ sym (length-times (dot r z) y)) ∙ ap (λ t. t +ℤ dot x (scaled (dot r z) y)) (dot-times_right c x z) ∙
    ap (λ t. c *ℤ dot x z +ℤ t) (dot-times_right (dot r z) x y) in
    let right : dot z (pushed y r x) ≡ c *ℤ dot z x +ℤ dot x y *ℤ dot z r = dot-plus_right z (scaled c x) (scaled (dot x y) r)
    (length-times c x ∙ lx ∙ sym lr ∙ sym (length-times (dot x y) r)) ∙ ap (λ t. t +ℤ dot z (scaled (dot x y) r)) (dot-times_right c z x) ∙
    ap (λ t. c *ℤ dot z x +ℤ t) (dot-times_right (dot x y) z r) in
    let mid : c *ℤ dot x z +ℤ dot r z *ℤ dot x y ≡ c *ℤ dot z x +ℤ dot x y *ℤ dot z r =
    rw (dot_comm z x, dot_comm z r) (same (dv c ⊗ dv (dot x z) ⊕ dv (dot r z) ⊗ dv (dot x y)) (dv c ⊗ dv (dot x z) ⊕ dv (dot x y) ⊗ dv (dot r z))
    (omega arith)) in
    left ∙ mid ∙ sym right ∙ dot_comm z (pushed y r x)

-- r itself is zero there
turned_zero : (n : ℕ) (y r z : List ℤ) → length y ≡ n → length z ≡ n → dot r (turned_to y r z) ≡ pos 0
turned_zero n y r z ly lz =
    let c = neg_ℤ (dot r y) in
    dot-plus_right r (scaled c z) (scaled (dot r z) y) (length-times c z ∙ lz ∙ sym ly ∙ sym (length-times (dot r z) y)) ∙
    ap (λ t. t +ℤ dot r (scaled (dot r z) y)) (dot-times_right c r z) ∙ ap (λ t. c *ℤ dot r z +ℤ t) (dot-times_right (dot r z) r y)
    ∙ same (dneg (dv (dot r y)) ⊗ dv (dot r z) ⊕ dv (dot r z) ⊗ dv (dot r y)) (dn 0) (omega arith)

-- what is zero at y stays, up to a factor
turned_flat : (n : ℕ) (y r l z : List ℤ) → length y ≡ n → length z ≡ n → dot l y ≡ pos 0 → dot l z ≡ pos 0 → dot l (turned_to y r z) ≡ pos 0
turned_flat n y r l z ly lz a b =
    let c = neg_ℤ (dot r y) in
    dot-plus_right l (scaled c z) (scaled (dot r z) y) (length-times c z ∙ lz ∙ sym ly ∙ sym (length-times (dot r z) y)) ∙
    ap (λ t. t +ℤ dot l (scaled (dot r z) y)) (dot-times_right c l z) ∙ ap (λ t. c *ℤ dot l z +ℤ t) (dot-times_right (dot r z) l y)
    ∙ ap (λ t. c *ℤ t +ℤ dot r z *ℤ dot l y) b ∙ ap (λ t. c *ℤ pos 0 +ℤ dot r z *ℤ t) a ∙ omega (arith, ints)

-- what is made of the rays that were brought along is made of the rays
pushed_made : (n : ℕ) (rays lin : List (List ℤ)) (y r v : List ℤ) → AreLong n rays → length r ≡ n → length v ≡ n →
    ((x : List ℤ) → Contains rays x → pos 0 ≤ℤ dot x y) → dot r y <ℤ pos 0 → dot v y <ℤ pos 0 → Made n (map (pushed y r) rays) lin (pushed y r v) →
    Made n (r ∷ rays) lin v
pushed_made n rays lin y r v wr lr lv up below vy m =
    let c = neg_ℤ (dot r y) in
    let c_positive : pos 0 <ℤ c = omega (arith, ints) in
    let d = neg_ℤ (dot v y) in
    let d_fits : pos 0 ≤ℤ d = omega (arith, ints) in
    let c_fits : pos 0 ≤ℤ c = omega (arith, ints) in
    let r_made : Made n (r ∷ rays) lin r = ray n (r ∷ rays) lin r lr (Contains-here r rays) in
    let each : (x : List ℤ) → length x ≡ n → Contains (map (pushed y r) rays) x → Made n (r ∷ rays) lin x = λ x l k.
    let o = of_map (pushed y r) rays x k in
    let x_made : Made n (r ∷ rays) lin o.0 = ray n (r ∷ rays) lin o.0 (wr o.0 o.1.0) (in_tail r rays o.0 o.1.0) in
    subst (Made n (r ∷ rays) lin) o.1.1 (summed n (r ∷ rays) lin (scaled c o.0) (scaled (dot o.0 y) r) _ refl
    (multiplied n (r ∷ rays) lin c o.0 _ c_fits refl x_made) (multiplied n (r ∷ rays) lin (dot o.0 y) r _ (up o.0 o.1.0) refl r_made)) in
    let p : Made n (r ∷ rays) lin (pushed y r v) = Made-into n (map (pushed y r) rays) lin (r ∷ rays) lin (pushed y r v) each
    (λ a x l k. line n (r ∷ rays) lin a x _ l k refl) m in
    divided n (r ∷ rays) lin c v (scaled c v) c_positive refl
    (summed n (r ∷ rays) lin (pushed y r v) (scaled d r) (scaled c v)
    (vsame (dv c ⊡ vv v lv) ((dv c ⊡ vv v lv ⊞ dv (dot v y) ⊡ vv r lr) ⊞ dneg (dv (dot v y)) ⊡ vv r lr) (λ u. omega arith))
    p (multiplied n (r ∷ rays) lin d r _ d_fits refl r_made))

-- what keeps them apart, brought along y, keeps the rays apart
turned_apart : (n : ℕ) (rays lin : List (List ℤ)) (y r v z : List ℤ) → AreLong n rays → length r ≡ n → length v ≡ n → IsApart n rays lin v y →
    IsApart n (map (pushed y r) rays) lin (pushed y r v) z → IsApart n (r ∷ rays) lin v (turned_to y r z)
turned_apart n rays lin y r v z wr lr lv s t = record {
  width = long_sum n (neg_ℤ (dot r y)) (dot r z) z y t.width s.width;
  up = λ x c. elim (in_cons r rays x c) [
    | inl e ↦ (let zero_at : dot r (turned_to y r z) ≡ pos 0 = turned_zero n y r z s.width t.width in rw (e, zero_at) (omega (arith, ints)))
    | inr k ↦ subst (λ q. pos 0 ≤ℤ q) (sym (pushed_turned n y r x z s.width lr (wr x k) t.width)) (t.up (pushed y r x) (in_map (pushed y r) rays x k))
  ];
  flat = λ x c. turned_flat n y r x z s.width t.width (s.flat x c) (t.flat x c);
  negative_on = subst (λ q. q <ℤ pos 0) (sym (pushed_turned n y r v z s.width lr lv t.width)) t.negative_on;
}

-- one ray more
wider : (n : ℕ) (rays lin : List (List ℤ)) (r v : List ℤ) → Made n rays lin v → Made n (r ∷ rays) lin v
wider n rays lin r v m = Made-into n rays lin (r ∷ rays) lin v (λ x l c. ray n (r ∷ rays) lin x l (in_tail r rays x c))
    (λ a x l c. line n (r ∷ rays) lin a x _ l c refl) m

kept_apart : (n : ℕ) (rays lin : List (List ℤ)) (r v y : List ℤ) → pos 0 ≤ℤ dot r y → IsApart n rays lin v y → IsApart n (r ∷ rays) lin v y
kept_apart n rays lin r v y h s = record {
  width = s.width;
  up = λ x c. elim (in_cons r rays x c) [ inl e ↦ subst (λ t. pos 0 ≤ℤ dot t y) (sym e) h | inr k ↦ s.up x k ];
  flat = s.flat;
  negative_on = s.negative_on;
}

-- one ray more, where each vector is decided for as many rays
further : (k n : ℕ) (rays lin : List (List ℤ)) (r v y : List ℤ) → length rays ≡ k → AreLong n rays → length r ≡ n → length v ≡ n →
    ((next : List (List ℤ)) (w : List ℤ) → length next ≡ k → AreLong n next → length w ≡ n → IsDecided n next lin w) → IsApart n rays lin v y →
    IsDecided n (r ∷ rays) lin v
further k n rays lin r v y e wr lr lv decide s = elim (sign_of (dot r y)) [
  | negative h ↦ elim (decide (map (pushed y r) rays) (pushed y r v) (length-map rays (pushed y r) ∙ e) long
      (long_sum n (neg_ℤ (dot r y)) (dot v y) v r lv lr)) [
        | inl m ↦ inl (pushed_made n rays lin y r v wr lr lv s.up h s.negative_on m)
        | inr t ↦ inr (turned_to y r t.0, turned_apart n rays lin y r v t.0 wr lr lv s t.1)
      ]
  | none h ↦ inr (y, kept_apart n rays lin r v y (omega (arith, ints, h)) s)
  | positive h ↦ inr (y, kept_apart n rays lin r v y (omega (arith, ints, h)) s)
]
  where
    long : AreLong n (map (pushed y r) rays)
    long = λ x c. let o = of_map (pushed y r) rays x c in ap length (sym o.1.1) ∙ long_sum n (neg_ℤ (dot r y)) (dot o.0 y) o.0 r (wr o.0 o.1.0) lr

by_count : (k n : ℕ) (rays lin : List (List ℤ)) (v : List ℤ) → GordansAlternative → length rays ≡ k → AreLong n rays → AreRows n lin → length v ≡ n →
    IsDecided n rays lin v
by_count zero n [] lin v g e wr wl lv = by_lines n lin v g wl lv
by_count zero n (r ∷ rays) lin v g e wr wl lv = absurd (omega (arith, e))
by_count (suc k) n [] lin v g e wr wl lv = absurd (omega (arith, e))
by_count (suc k) n (r ∷ rays) lin v g e wr wl lv =
    let fewer : length rays ≡ k = omega (arith, e) in
    let rest : AreLong n rays = λ x c. wr x (in_tail r rays x c) in
    elim (by_count k n rays lin v g fewer rest wl lv) [
      | inl m ↦ inl (wider n rays lin r v m)
      | inr s ↦ further k n rays lin r v s.0 fewer rest (wr r (Contains-here r rays)) lv (λ next w f long l. by_count k n next lin w g f long wl l) s.1
    ]

-- ---- Farkas' lemma

one_of : (n : ℕ) (rays lin : List (List ℤ)) (v : List ℤ) → GordansAlternative → AreRows n rays → AreRows n lin → length v ≡ n →
    Generated n rays lin v ⊎ ((y : List ℤ) × SeparatesFrom n rays lin v y)
one_of n rays lin v g wr wl lv = elim (by_count (length rays) n rays lin v g refl (λ x c. All-contains (λ (t : List ℤ). length t ≡ n) rays x wr c) wl lv) [
  | inl m ↦ inl (made-generated n rays lin v wr wl m)
  | inr s ↦ inr (
    s.0,
    record {
      width = s.1.width;
      dual = record { not_negative = all_by (λ h. pos 0 ≤ℤ dot h s.0) rays s.1.up; zero = all_by (λ e. dot e s.0 ≡ pos 0) lin s.1.flat };
      negative = s.1.negative_on;
    },
  )
]

not_both_of : (n : ℕ) (rays lin : List (List ℤ)) (v y : List ℤ) → AreRows n rays → AreRows n lin → Generated n rays lin v → SeparatesFrom n rays lin v y → ⊥
not_both_of n rays lin v y wr wl g s =
    let up : (x : List ℤ) → Contains rays x → pos 0 ≤ℤ dot y x =
    λ x c. subst (λ q. pos 0 ≤ℤ q) (dot_comm x y) (All-contains (λ (t : List ℤ). pos 0 ≤ℤ dot t y) rays x s.dual.not_negative c) in
    let flat : (x : List ℤ) → Contains lin x → dot y x ≡ pos 0 = λ x c. dot_comm y x ∙ All-contains (λ (t : List ℤ). dot t y ≡ pos 0) lin x s.dual.zero c in
    let fits : pos 0 ≤ℤ dot y v = Made-dot n rays lin y v up flat (generated-made n rays lin v wr wl g) in
    let swapped : dot y v ≡ dot v y = dot_comm y v in
    let below = s.negative in
    omega (arith, ints, fits, swapped, below)

pub farkas_lemma : GordansAlternative → FarkasLemma
farkas_lemma g = record { one = λ n rays lin v. one_of n rays lin v g; not_both = not_both_of }

-- ---- the dual cone of the dual cone

-- the rays of the dual cone are in it, and its lineality basis is zero on the rays and lineality vectors
dual_ray : (n : ℕ) (rays lin lines duals : List (List ℤ)) (d : List ℤ) → IsRays n rays lin lines duals → Contains duals d → Satisfies rays lin d
dual_ray n rays lin lines duals d r c =
    let l : length d ≡ n = All-contains (λ (t : List ℤ). length t ≡ n) duals d r.rays_width c in
    (r.generates d l).1 (made-generated n duals lines d r.rays_width r.lin_width (ray n duals lines d l c))

dual_line : (n : ℕ) (rays lin lines duals : List (List ℤ)) (d : List ℤ) → IsRays n rays lin lines duals → Contains lines d → IsLineal rays lin d
dual_line n rays lin lines duals d r c =
    let l : length d ≡ n = All-contains (λ (t : List ℤ). length t ≡ n) lines d r.lin_width c in
    (r.spans d l).1 (made-generated n [] lines d (no_widths n) r.lin_width
    (line n [] lines (pos 1) d d l c (vsame (vv d l) (dn 1 ⊡ vv d l) (λ w. omega arith))))

pub duals_of_duals : FarkasLemma → DualsOfDuals
duals_of_duals f = λ n rays lin lines duals v wr wl r lv. (to n rays lin lines duals v wr wl r lv, from n rays lin lines duals v wr wl r lv)
  where
    to : (n : ℕ) (rays lin lines duals : List (List ℤ)) (v : List ℤ) → AreRows n rays → AreRows n lin → IsRays n rays lin lines duals → length v ≡ n →
        Satisfies duals lines v → Generated n rays lin v
    to n rays lin lines duals v wr wl r lv s = elim (f.one n rays lin v wr wl lv) [
      | inl g ↦ g
      | inr t ↦
          let y = t.0 in
          let made : Made n duals lines y = generated-made n duals lines y r.rays_width r.lin_width ((r.generates y t.1.width).0 t.1.dual) in
          let fits : pos 0 ≤ℤ dot v y = Made-dot n duals lines v y
          (λ x c. subst (λ q. pos 0 ≤ℤ q) (dot_comm x v) (All-contains (λ (h : List ℤ). pos 0 ≤ℤ dot h v) duals x s.not_negative c))
          (λ x c. dot_comm v x ∙ All-contains (λ (h : List ℤ). dot h v ≡ pos 0) lines x s.zero c) made in
          let below = t.1.negative in
          absurd (omega (arith, ints, fits, below))
    ]

    from : (n : ℕ) (rays lin lines duals : List (List ℤ)) (v : List ℤ) → AreRows n rays → AreRows n lin → IsRays n rays lin lines duals → length v ≡ n →
        Generated n rays lin v → Satisfies duals lines v
    from n rays lin lines duals v wr wl r lv g =
        let made = generated-made n rays lin v wr wl g in
        record {
          not_negative = all_by (λ h. pos 0 ≤ℤ dot h v) duals (λ d c.
              let s = dual_ray n rays lin lines duals d r c in
              Made-dot n rays lin d v
              (λ x k. subst (λ q. pos 0 ≤ℤ q) (dot_comm x d) (All-contains (λ (h : List ℤ). pos 0 ≤ℤ dot h d) rays x s.not_negative k))
              (λ x k. dot_comm d x ∙ All-contains (λ (h : List ℤ). dot h d ≡ pos 0) lin x s.zero k) made);
          zero = all_by (λ e. dot e v ≡ pos 0) lines (λ d c.
              let s = dual_line n rays lin lines duals d r c in
              Made-dot_zero n rays lin d v
              (λ x k. dot_comm d x ∙ All-contains (λ (h : List ℤ). dot h d ≡ pos 0) rays x s.flat k)
              (λ x k. dot_comm d x ∙ All-contains (λ (h : List ℤ). dot h d ≡ pos 0) lin x s.zero k) made);
        }
