-- Facet rows of a full-dimensional cone: a row is one exactly where it has a witness, a vector on which it is zero and all
-- other rows are positive.
use Rattle.std.proofs.Common.{◌≡◌, ℕ, List, [], ◌∷◌, length, ℤ, pos, ◌+ℤ◌, ◌-ℤ◌, ◌*ℤ◌, neg_ℤ, ◌<ℤ◌, ◌≤ℤ◌, arith, sym, refl, ap, ◌∙◌, subst, Contains, ◌⊎◌, inl}
use Rattle.std.proofs.Common.{inr, All}
use Rattle.std.proofs.lemmas.Int.{ints}
use Rattle.std.proofs.lemmas.List.Elements.{All-contains}
use Rattle.gf_int_theory.specs.Content.{scaled}
use Rattle.gf_int_theory.proofs.RingLaws.{same, dv, dn, dneg, ◌⊗◌, ◌⊕◌, ◌⊖◌}
use Rattle.gf_int_theory.proofs.SignLaws.{0≤-*ℤ, 0<-*ℤ, sign_of, negative, none, positive, 0≤-cancel, zero_or_not, not_negative}
use Rattle.gf_int_theory.proofs.ListLaws.{Contains-here, all_by}
use Rattle.gf_vec.specs.Vector.{dot, vector_sum}
use Rattle.gf_duality_theory.specs.Generators.{Made, IsDescribed}
use Rattle.gf_duality_theory.specs.Faces.{IsInCone, IsFacetRow, IsWitness, IsOfFullDimension, cone_of}
use Rattle.gf_duality_theory.proofs.ListLaws.{none_in, in_tail, in_cons}
use Rattle.gf_vec.proofs.VectorIdentities.{vv, ◌⊞◌, ◌⊡◌, by}

-- ---- the rays on which a row is zero

pub record Part (rays : List (List ℤ)) (t : List ℤ) : Type 0 where
  pub part : List (List ℤ)
  pub of_part : (x : List ℤ) → Contains part x → Contains rays x × (dot t x ≡ pos 0)
  pub all : (x : List ℤ) → Contains rays x → dot t x ≡ pos 0 → Contains part x

pub part_of : (rays : List (List ℤ)) (t : List ℤ) → Part rays t
part_of [] t = record { part = []; of_part = λ x c. absurd (none_in x c); all = λ x c z. absurd (none_in x c) }
part_of (r ∷ rays) t =
    let p = part_of rays t in
    elim (zero_or_not (dot t r)) [
      | inl z ↦ record {
        part = r ∷ p.part;
        of_part = λ x c. elim (in_cons r p.part x c) [
          | inl e ↦ (subst (Contains (r ∷ rays)) (sym e) (Contains-here r rays), subst (λ (k : List ℤ). dot t k ≡ pos 0) (sym e) z)
          | inr d ↦ (in_tail r rays x (p.of_part x d).0, (p.of_part x d).1)
        ];
        all = λ x c k. elim (in_cons r rays x c) [
          | inl e ↦ subst (Contains (r ∷ p.part)) (sym e) (Contains-here r p.part)
          | inr d ↦ in_tail r p.part x (p.all x d k)
        ];
      }
      | inr n ↦ record {
        part = p.part;
        of_part = λ x c. (in_tail r rays x (p.of_part x c).0, (p.of_part x c).1);
        all = λ x c k. elim (in_cons r rays x c) [ inl e ↦ absurd (n (subst (λ (y : List ℤ). dot t y ≡ pos 0) e k)) | inr d ↦ p.all x d k ];
      }
    ]

-- ---- a large multiple of v takes x into the cone

fits_more : (b c x y : ℤ) → pos 0 ≤ℤ b → pos 0 ≤ℤ c → pos 0 ≤ℤ x → pos 0 ≤ℤ (b *ℤ x +ℤ y) → pos 0 ≤ℤ ((b +ℤ c) *ℤ x +ℤ y)
fits_more b c x y f g h k =
    let p : pos 0 ≤ℤ (c *ℤ x) = 0≤-*ℤ c x g h in
    let e : (b +ℤ c) *ℤ x ≡ b *ℤ x +ℤ c *ℤ x = same ((dv b ⊕ dv c) ⊗ dv x) (dv b ⊗ dv x ⊕ dv c ⊗ dv x) (omega arith) in
    omega (arith, ints, p, e, k)

-- the size of a negative number, or zero
lack : (y : ℤ) → (z : ℤ) × ((pos 0 ≤ℤ z) × (pos 0 ≤ℤ (z +ℤ y)))
lack y = elim (sign_of y) [
  | negative g ↦ (neg_ℤ y, (omega (arith, ints, g), omega (arith, ints)))
  | none e ↦ (pos 0, (omega (arith, ints), omega (arith, ints, e)))
  | positive g ↦ (pos 0, (omega (arith, ints), omega (arith, ints, g)))
]

-- a number that is large enough where x is positive
pub reach : (b c x y : ℤ) → pos 0 ≤ℤ b → pos 0 ≤ℤ c → pos 0 ≤ℤ (c +ℤ y) → pos 0 <ℤ x → pos 0 ≤ℤ ((b +ℤ c) *ℤ x +ℤ y)
reach b c x y f g h k =
    let d : ℤ = x -ℤ pos 1 in
    let p : pos 0 ≤ℤ ((b +ℤ c) *ℤ d) = 0≤-*ℤ (b +ℤ c) d (omega (arith, ints, f, g)) (omega (arith, ints, k)) in
    let e : (b +ℤ c) *ℤ x ≡ (b +ℤ c) *ℤ d +ℤ (b +ℤ c) = same ((dv b ⊕ dv c) ⊗ dv x) ((dv b ⊕ dv c) ⊗ (dv x ⊖ dn 1) ⊕ (dv b ⊕ dv c)) (omega arith) in
    omega (arith, ints, p, e, h, f)

pub record Reached (rows : List (List ℤ)) (v x : List ℤ) : Type 0 where
  pub big : ℤ
  pub big_fits : pos 0 ≤ℤ big
  pub within : (h : List ℤ) → Contains rows h → pos 0 ≤ℤ (big *ℤ dot h v +ℤ dot h x)

pub reached : (rows : List (List ℤ)) (v x : List ℤ) → ((h : List ℤ) → Contains rows h → (pos 0 <ℤ dot h v) ⊎ ((dot h v ≡ pos 0) × (pos 0 ≤ℤ dot h x))) →
    Reached rows v x
reached [] v x f = record { big = pos 0; big_fits = omega (arith, ints); within = λ h c. absurd (none_in h c) }
reached (t ∷ rows) v x f =
    let r = reached rows v x (λ h c. f h (in_tail t rows h c)) in
    let l = lack (dot t x) in
    let rb = r.big_fits in
    record {
      big = r.big +ℤ l.0;
      big_fits = let p = l.1.0 in omega (arith, ints, rb, p);
      within = λ h c. elim (in_cons t rows h c) [
        | inl e ↦ subst (λ (k : List ℤ). pos 0 ≤ℤ ((r.big +ℤ l.0) *ℤ dot k v +ℤ dot k x)) (sym e) (elim (f t (Contains-here t rows)) [
          | inl g ↦ reach r.big l.0 (dot t v) (dot t x) rb l.1.0 l.1.1 g
          | inr z ↦ let w : (r.big +ℤ l.0) *ℤ dot t v ≡ pos 0 = ap (λ q. (r.big +ℤ l.0) *ℤ q) z.0 ∙ omega (arith, ints) in let u =
              z.1 in omega (arith, ints, w, u)
        ])
        | inr d ↦ elim (f h c) [
          | inl g ↦ fits_more r.big l.0 (dot h v) (dot h x) rb l.1.0 (omega (arith, ints, g)) (r.within h d)
          | inr z ↦ let w : (r.big +ℤ l.0) *ℤ dot h v ≡ pos 0 = ap (λ q. (r.big +ℤ l.0) *ℤ q) z.0 ∙ omega (arith, ints) in let u =
              z.1 in omega (arith, ints, w, u)
        ]
      ];
    }

-- ---- the least quotient of x by r among the rows that are zero on v

-- for fractions with positive denominators
follows : (a b c d e f : ℤ) → pos 0 <ℤ d → pos 0 ≤ℤ b → pos 0 ≤ℤ f → pos 0 ≤ℤ (c *ℤ b -ℤ a *ℤ d) → pos 0 ≤ℤ (e *ℤ d -ℤ c *ℤ f) → pos 0 ≤ℤ (e *ℤ b -ℤ a *ℤ f)
follows a b c d e f hd hb hf p q =
    let u : pos 0 ≤ℤ (f *ℤ (c *ℤ b -ℤ a *ℤ d)) = 0≤-*ℤ f (c *ℤ b -ℤ a *ℤ d) hf p in
    let w : pos 0 ≤ℤ (b *ℤ (e *ℤ d -ℤ c *ℤ f)) = 0≤-*ℤ b (e *ℤ d -ℤ c *ℤ f) hb q in
    let i : d *ℤ (e *ℤ b -ℤ a *ℤ f) ≡ f *ℤ (c *ℤ b -ℤ a *ℤ d) +ℤ b *ℤ (e *ℤ d -ℤ c *ℤ f) =
    same (dv d ⊗ (dv e ⊗ dv b ⊖ dv a ⊗ dv f)) (dv f ⊗ (dv c ⊗ dv b ⊖ dv a ⊗ dv d) ⊕ dv b ⊗ (dv e ⊗ dv d ⊖ dv c ⊗ dv f)) (omega arith) in
    0≤-cancel d (e *ℤ b -ℤ a *ℤ f) hd (omega (arith, ints, u, w, i))

own_quotient : (a b : ℤ) → pos 0 ≤ℤ (a *ℤ b -ℤ a *ℤ b)
own_quotient a b = omega (arith, ints)

pub record Least (rows : List (List ℤ)) (v x r s : List ℤ) : Type 0 where
  pub u : List ℤ
  pub in_u : (u ≡ s) ⊎ Contains rows u
  pub zero : dot u v ≡ pos 0
  pub under : pos 0 ≤ℤ (dot s x *ℤ dot u r -ℤ dot u x *ℤ dot s r)
  pub least : (h : List ℤ) → Contains rows h → dot h v ≡ pos 0 → pos 0 ≤ℤ (dot h x *ℤ dot u r -ℤ dot u x *ℤ dot h r)

turned_round : (a b c d : ℤ) → (c *ℤ b -ℤ a *ℤ d) <ℤ pos 0 → pos 0 ≤ℤ (a *ℤ d -ℤ c *ℤ b)
turned_round a b c d h = omega (arith, ints, h)

pub least_of : (rows : List (List ℤ)) (v x r s : List ℤ) → dot s v ≡ pos 0 → pos 0 <ℤ dot s r → ((h : List ℤ) → Contains rows h → dot h v ≡ pos 0 →
    pos 0 <ℤ dot h r) → Least rows v x r s
least_of [] v x r s z g f = record { u = s; in_u = inl refl; zero = z; under = own_quotient (dot s x) (dot s r); least = λ h c. absurd (none_in h c) }
least_of (t ∷ rows) v x r s z g f =
    let l = least_of rows v x r s z g (λ h c. f h (in_tail t rows h c)) in
    let up : pos 0 <ℤ dot l.u r = elim l.in_u [ inl e ↦ subst (λ (k : List ℤ). pos 0 <ℤ dot k r) (sym e) g | inr c ↦ f l.u (in_tail t rows l.u c) l.zero ] in
    let keep : ((dot t v ≡ pos 0) → pos 0 ≤ℤ (dot t x *ℤ dot l.u r -ℤ dot l.u x *ℤ dot t r)) → Least (t ∷ rows) v x r s = λ k. record {
      u = l.u;
      in_u = elim l.in_u [ inl e ↦ inl e | inr c ↦ inr (in_tail t rows l.u c) ];
      zero = l.zero;
      under = l.under;
      least = λ h c hz. elim (in_cons t rows h c) [
        | inl e ↦ subst (λ (q : List ℤ). pos 0 ≤ℤ (dot q x *ℤ dot l.u r -ℤ dot l.u x *ℤ dot q r)) (sym e) (k (subst (λ (q : List ℤ). dot q v ≡ pos 0) e hz))
        | inr d ↦ l.least h d hz
      ];
    } in
    elim (zero_or_not (dot t v)) [
      | inr n ↦ keep (λ e. absurd (n e))
      | inl tz ↦
          let tr : pos 0 <ℤ dot t r = f t (Contains-here t rows) tz in
          let test : ℤ = dot t x *ℤ dot l.u r -ℤ dot l.u x *ℤ dot t r in
          let take : pos 0 ≤ℤ (dot l.u x *ℤ dot t r -ℤ dot t x *ℤ dot l.u r) → Least (t ∷ rows) v x r s = λ k. record {
            u = t;
            in_u = inr (Contains-here t rows);
            zero = tz;
            under = follows (dot t x) (dot t r) (dot l.u x) (dot l.u r) (dot s x) (dot s r) up (omega (arith, ints, tr)) (omega (arith, ints, g)) k l.under;
            least = λ h c hz. elim (in_cons t rows h c) [
              | inl e ↦ subst (λ (q : List ℤ). pos 0 ≤ℤ (dot q x *ℤ dot t r -ℤ dot t x *ℤ dot q r)) (sym e) (own_quotient (dot t x) (dot t r))
              | inr d ↦ let hr = f h c hz in follows (dot t x) (dot t r) (dot l.u x) (dot l.u r) (dot h x) (dot h r) up
                  (omega (arith, ints, tr)) (omega (arith, ints, hr)) k (l.least h d hz)
            ];
          } in
          elim (sign_of test) [
            | positive k ↦ keep (λ e. omega (arith, ints, k))
            | none k ↦ keep (λ e. omega (arith, ints, k))
            | negative k ↦ take (turned_round (dot l.u x) (dot l.u r) (dot t x) (dot t r) k)
          ]
    ]

-- ---- a cone with an interior point

no_equations : (v : List ℤ) → All (λ e. dot e v ≡ pos 0) []
no_equations v = λ k d h. absurd (omega arith)

pub in_cone : (rows : List (List ℤ)) (v : List ℤ) → ((h : List ℤ) → Contains rows h → pos 0 ≤ℤ dot h v) → IsInCone (cone_of rows) v
in_cone rows v f = record { not_negative = all_by (λ h. pos 0 ≤ℤ dot h v) rows f; zero = no_equations v }

pub full_in : (n : ℕ) (rows lin rays : List (List ℤ)) (w : List ℤ) → IsOfFullDimension n rows lin rays w → IsInCone (cone_of rows) w
full_in n rows lin rays w f = in_cone rows w (λ h c. not_negative (dot h w) (f.inside h c))

pub made_in : (n : ℕ) (rows lin rays : List (List ℤ)) (x : List ℤ) → IsDescribed n rows [] lin rays → length x ≡ n → IsInCone (cone_of rows) x →
    Made n rays lin x
made_in n rows lin rays x d l i = d.complete x l (λ h c. All-contains (λ k. pos 0 ≤ℤ dot k x) rows h i.not_negative c) (λ e c. absurd (none_in e c))

-- a row with a witness is a facet row
pub witness_facet : (n : ℕ) (rows lin rays : List (List ℤ)) (w a v : List ℤ) → IsOfFullDimension n rows lin rays w → Contains rows a → IsWitness n rows a v →
    IsFacetRow n (cone_of rows) a
witness_facet n rows lin rays w a v f c s =
    let v_in : IsInCone (cone_of rows) v = in_cone rows v (λ h k. elim (s.others h k) [
      | inl e ↦ let z : dot h v ≡ pos 0 = ap (λ (q : List ℤ). dot q v) e ∙ s.zero in omega (arith, ints, z)
      | inr g ↦ omega (arith, ints, g)
    ]) in
    record {
      listed = c;
      proper = (w, (f.width, full_in n rows lin rays w f, f.inside a c));
      greatest = λ b x cb lx ix px zw y ly iy z. elim (s.others b cb) [
        | inl e ↦ ap (λ (q : List ℤ). dot q y) (sym e) ∙ z
        | inr g ↦ let k : dot b v ≡ pos 0 = zw v s.width v_in s.zero in absurd (omega (arith, ints, g, k))
      ];
    }

-- two rows that are zero on each other's part of the cone, one on a point inside the facet and both positive on a ray, are one
pub record AreParallel (n : ℕ) (rows : List (List ℤ)) (t v r : List ℤ) : Type 0 where
  pub v_width : length v ≡ n
  pub r_width : length r ≡ n
  pub v_in : (h : List ℤ) → Contains rows h → pos 0 ≤ℤ dot h v
  pub t_zero : dot t v ≡ pos 0
  pub t_up : pos 0 <ℤ dot t r
  pub up : (h : List ℤ) → Contains rows h → dot h v ≡ pos 0 → pos 0 <ℤ dot h r
  pub back : (h y : List ℤ) → Contains rows h → dot h v ≡ pos 0 → length y ≡ n → ((k : List ℤ) → Contains rows k → pos 0 ≤ℤ dot k y) → dot h y ≡ pos 0 →
      dot t y ≡ pos 0

zero_sum_is : (a x y : ℤ) → x ≡ pos 0 → y ≡ pos 0 → a *ℤ x +ℤ y ≡ pos 0
zero_sum_is a x y e f = rw (e, f) (omega (arith, ints))

up_sum : (a x y : ℤ) → x ≡ pos 0 → pos 0 <ℤ y → pos 0 <ℤ (a *ℤ x +ℤ y)
up_sum a x y e h = let z : a *ℤ x ≡ pos 0 = ap (λ q. a *ℤ q) e ∙ omega (arith, ints) in omega (arith, ints, z, h)

below_zero : (sx ur ux sr : ℤ) → sx <ℤ pos 0 → pos 0 <ℤ ur → pos 0 <ℤ sr → pos 0 ≤ℤ (sx *ℤ ur -ℤ ux *ℤ sr) → ux <ℤ pos 0
below_zero sx ur ux sr a b c h = elim (sign_of ux) [
  | negative g ↦ g
  | none g ↦
      let p : pos 0 <ℤ (neg_ℤ sx *ℤ ur) = 0<-*ℤ (neg_ℤ sx) ur (omega (arith, ints, a)) b in
      let e : neg_ℤ sx *ℤ ur ≡ neg_ℤ (sx *ℤ ur) = same (dneg (dv sx) ⊗ dv ur) (dneg (dv sx ⊗ dv ur)) (omega arith) in
      let z : ux *ℤ sr ≡ pos 0 = ap (λ q. q *ℤ sr) g ∙ omega (arith, ints) in absurd (omega (arith, ints, p, e, z, h))
  | positive g ↦
      let p : pos 0 <ℤ (neg_ℤ sx *ℤ ur) = 0<-*ℤ (neg_ℤ sx) ur (omega (arith, ints, a)) b in
      let e : neg_ℤ sx *ℤ ur ≡ neg_ℤ (sx *ℤ ur) = same (dneg (dv sx) ⊗ dv ur) (dneg (dv sx ⊗ dv ur)) (omega arith) in
      let z : pos 0 <ℤ (ux *ℤ sr) = 0<-*ℤ ux sr g c in absurd (omega (arith, ints, p, e, z, h))
]

-- no vector is zero at t and negative at another such row
pub never_below : (n : ℕ) (rows : List (List ℤ)) (t v r s x : List ℤ) → AreParallel n rows t v r → Contains rows s → dot s v ≡ pos 0 → length x ≡ n →
    dot t x ≡ pos 0 → dot s x <ℤ pos 0 → ⊥
never_below n rows t v r s x p cs zs lx zt neg =
    let sr = p.up s cs zs in
    let l = least_of rows v x r s zs sr p.up in
    let u : List ℤ = l.u in
    let cu : Contains rows u = elim l.in_u [ inl e ↦ subst (Contains rows) (sym e) cs | inr c ↦ c ] in
    let ur : pos 0 <ℤ dot u r = p.up u cu l.zero in
    let ux : dot u x <ℤ pos 0 = below_zero (dot s x) (dot u r) (dot u x) (dot s r) neg ur sr l.under in
    let y : List ℤ = vector_sum (scaled (dot u r) x) (scaled (neg_ℤ (dot u x)) r) in
    let ly = (by u (vv r p.r_width) ⊡ vv x lx ⊞ dneg (by u (vv x lx)) ⊡ vv r p.r_width).long in
    let value : (h : List ℤ) → dot h y ≡ dot h x *ℤ dot u r -ℤ dot u x *ℤ dot h r = λ h.
    same (by h (by u (vv r p.r_width) ⊡ vv x lx ⊞ dneg (by u (vv x lx)) ⊡ vv r p.r_width)) (by h (vv x lx) ⊗ by u (vv r p.r_width) ⊖ by u (vv x lx) ⊗ by h
    (vv r p.r_width)) (omega arith) in
    let g = reached rows v y (λ h c. elim (sign_of (dot h v)) [
      | positive k ↦ inl k
      | none k ↦ inr (k, subst (λ z. pos 0 ≤ℤ z) (sym (value h)) (l.least h c k))
      | negative k ↦ let q = p.v_in h c in absurd (omega (arith, ints, k, q))
    ]) in
    let big : ℤ = g.big in
    let z : List ℤ = vector_sum (scaled big v) y in
    let lz = (dv big ⊡ vv v p.v_width ⊞ vv y ly).long in
    let at : (h : List ℤ) → dot h z ≡ big *ℤ dot h v +ℤ dot h y =
    λ h. same (by h (dv big ⊡ vv v p.v_width ⊞ vv y ly)) (dv big ⊗ by h (vv v p.v_width) ⊕ by h (vv y ly)) (omega arith) in
    let uz : dot u z ≡ pos 0 = at u ∙ zero_sum_is big (dot u v) (dot u y) l.zero (value u ∙ same (dv (dot u x) ⊗ dv (dot u r) ⊖ dv (dot u x) ⊗ dv (dot u r))
    (dn 0) (omega arith)) in
    let tz : dot t z ≡ pos 0 = p.back u z cu l.zero lz (λ k c. subst (λ q. pos 0 ≤ℤ q) (sym (at k)) (g.within k c)) uz in
    let ty : dot t y ≡ neg_ℤ (dot u x) *ℤ dot t r = value t ∙ ap (λ q. q *ℤ dot u r -ℤ dot u x *ℤ dot t r) zt ∙
    same (dn 0 ⊗ dv (dot u r) ⊖ dv (dot u x) ⊗ dv (dot t r)) (dneg (dv (dot u x)) ⊗ dv (dot t r)) (omega arith) in
    let up : pos 0 <ℤ dot t y = subst (λ q. pos 0 <ℤ q) (sym ty) (0<-*ℤ (neg_ℤ (dot u x)) (dot t r) (omega (arith, ints, ux)) p.t_up) in
    let pz : pos 0 <ℤ dot t z = subst (λ q. pos 0 <ℤ q) (sym (at t)) (up_sum big (dot t v) (dot t y) p.t_zero up) in
    omega (arith, ints, pz, tz)
