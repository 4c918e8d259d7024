-- What holds of the lineality vectors and the rays after each inequality.
use Rattle.gf_duality_theory.proofs.ListLaws.{none_in, in_tail, in_cons, in_rest, stood, of_rest, rest_cover, in_more}
use Rattle.gf_duality_theory.specs.Straightening.{IsLeveled}
use Rattle.gf_duality_theory.specs.Combining.{pair}
use Rattle.gf_duality_theory.specs.Generators.{Made, nothing, ray, line, multiplied, AreValid, IsDescribed, divided}
use Rattle.std.proofs.Common.{◌≡◌, ◌≢◌, ℕ, zero, ◌<◌, List, [], ◌∷◌, ◌++◌, length, ℤ, pos, negsuc, ◌+ℤ◌, ◌-ℤ◌, ◌*ℤ◌, neg_ℤ, ◌<ℤ◌, ◌≤ℤ◌, arith, sym, refl, ap}
use Rattle.std.proofs.Common.{◌∙◌, subst, Contains, ◌⊎◌, inl, inr, remove, get_or}
use Rattle.std.proofs.lemmas.Int.{ints}
use Rattle.std.proofs.lemmas.List.{get_or_default}
use Rattle.std.proofs.lemmas.List.Elements.{Contains-append_left, Contains-push}
use Rattle.gf_int_theory.specs.Content.{scaled}
use Rattle.gf_vec.specs.Vector.{dot, vector_sum, zeros}
use Rattle.gf_int_theory.proofs.RingLaws.{same, dv, dn, dneg, ◌⊕◌, ◌⊗◌, ◌⊖◌}
use Rattle.gf_int_theory.proofs.SignLaws.{0≤-*ℤ, 0<-*ℤ, 0≤-cancel, 0<-cancel, zero-cancel, sign_of, negative, none, positive}
use Rattle.gf_int_theory.proofs.ListLaws.{Contains-here}
use Rattle.gf_vec.proofs.VectorLaws.{length-times}
use Rattle.gf_vec.proofs.DotLaws.{dot-times_right}
use Rattle.gf_vec.specs.Primitive.{IsPrimitivePart}
use Rattle.gf_vec.proofs.VectorIdentities.{Vec, vv, vz, ◌⊞◌, ◌⊡◌, by, vsame}
use Rattle.gf_duality_theory.proofs.PairLaws.{vpair}
use Rattle.gf_duality_theory.proofs.Made.{Made-into}
use Rattle.gf_duality_theory.proofs.Stepping.{step_line, step_split}
use Rattle.gf_duality_theory.proofs.Taking.{IsEnough, ZeroWhere, enough, take_away, dominated}

-- what a leveled vector is: a multiple of it is a multiple of x and some of l
pub record Along (n : ℕ) (h l x y : List ℤ) : Type 0 where
  pub long : length y ≡ n
  pub c : ℤ
  pub c_positive : pos 0 <ℤ c
  pub a : ℤ
  pub a_positive : pos 0 <ℤ a
  pub b : ℤ
  pub is : scaled c y ≡ vector_sum (scaled a x) (scaled b l)
  pub d : ℤ
  pub d_fits : pos 0 ≤ℤ d
  pub pair_is : pair h l x ≡ scaled d y
  pub zero : dot h y ≡ pos 0

-- w is c scaled y, and c positive
pub record IsTimes (w : List ℤ) (c : ℤ) (y : List ℤ) : Type 0 where
  pub positive : pos 0 <ℤ c
  pub multiple : scaled c y ≡ w

-- w is a positive multiple of y
abbrev pub IsMultipleOf : List ℤ → List ℤ → Type 0
IsMultipleOf w y = (c : ℤ) × IsTimes w c y

pub multiple_of : (w y : List ℤ) → IsPrimitivePart w y → IsMultipleOf w y
multiple_of w y d = (d.0, record { positive = d.1.positive; multiple = d.1.multiple })

-- a pair is zero at h
pub pair_zero : (n : ℕ) (h p q : List ℤ) → length p ≡ n → length q ≡ n → dot h (pair h p q) ≡ pos 0
pair_zero n h p q lp lq = same (by h (vpair h (vv p lp) (vv q lq))) (dn 0) (omega arith)

pub divided_long : (n : ℕ) (w y : List ℤ) → length w ≡ n → IsMultipleOf w y → length y ≡ n
divided_long n w y l d = sym (length-times (d.0) y) ∙ ap length d.1.multiple ∙ l

pub along : (n : ℕ) (h l x y : List ℤ) → length l ≡ n → length x ≡ n → pos 0 <ℤ dot h l → IsLeveled h l x y → Along n h l x y
along n h l x y ll lx g (inl f) = record {
  long = ap length f.1 ∙ lx;
  c = pos 1;
  c_positive = omega (arith, ints);
  a = pos 1;
  a_positive = omega (arith, ints);
  b = pos 0;
  is = ap (scaled (pos 1)) f.1 ∙ vsame (dn 1 ⊡ vv x lx) (dn 1 ⊡ vv x lx ⊞ dn 0 ⊡ vv l ll) (λ w. omega arith);
  d = dot h l;
  d_fits = omega (arith, ints);
  pair_is = ap (λ t. vector_sum (scaled (dot h l) x) (scaled (neg_ℤ t) l)) f.0 ∙ vsame (by h (vv l ll) ⊡ vv x lx ⊞ dneg (dn 0) ⊡ vv l ll)
      (by h (vv l ll) ⊡ vv x lx) (λ w. omega arith) ∙ ap (scaled (dot h l)) (sym f.1);
  zero = ap (dot h) f.1 ∙ f.0;
}
along n h l x y ll lx g (inr f) =
    let d = f.1 in let k : pos 0 <ℤ d.0 = d.1.positive in
    record {
      long = divided_long n (pair h l x) y (vpair h (vv l ll) (vv x lx)).long (multiple_of (pair h l x) y d);
      c = d.0;
      c_positive = k;
      a = dot h l;
      a_positive = g;
      b = neg_ℤ (dot h x);
      is = d.1.multiple;
      d = d.0;
      d_fits = omega (arith, ints, k);
      pair_is = sym d.1.multiple;
      zero = zero-cancel (d.0) (dot h y) k (sym (dot-times_right (d.0) h y) ∙ ap (dot h) d.1.multiple ∙ pair_zero n h l x ll lx);
    }

-- what a row that is zero on l gives there
pub along_dot : (n : ℕ) (h l x y k : List ℤ) → length l ≡ n → length x ≡ n → (t : Along n h l x y) → dot k l ≡ pos 0 → t.c *ℤ dot k y ≡ t.a *ℤ dot k x
along_dot n h l x y k ll lx t z =
    let c = t.c in let a = t.a in let b = t.b in
    sym (dot-times_right c k y) ∙ ap (dot k) t.is ∙ same (by k (dv a ⊡ vv x lx ⊞ dv b ⊡ vv l ll)) (dv a ⊗ by k (vv x lx) ⊕ dv b ⊗ by k (vv l ll)) (omega arith)
    ∙ ap (λ w. a *ℤ dot k x +ℤ b *ℤ w) z ∙ omega (arith, ints)

along_fits : (n : ℕ) (h l x y k : List ℤ) → length l ≡ n → length x ≡ n → Along n h l x y → dot k l ≡ pos 0 → pos 0 ≤ℤ dot k x → pos 0 ≤ℤ dot k y
along_fits n h l x y k ll lx t z f = 0≤-cancel t.c (dot k y) t.c_positive (subst (λ w. pos 0 ≤ℤ w) (sym (along_dot n h l x y k ll lx t z))
    (0≤-*ℤ t.a (dot k x) (omega (arith, ints, t.a_positive)) f))

along_positive : (n : ℕ) (h l x y k : List ℤ) → length l ≡ n → length x ≡ n → Along n h l x y → dot k l ≡ pos 0 → pos 0 <ℤ dot k x → pos 0 <ℤ dot k y
along_positive n h l x y k ll lx t z f =
    0<-cancel t.c (dot k y) t.c_positive (subst (λ w. pos 0 <ℤ w) (sym (along_dot n h l x y k ll lx t z)) (0<-*ℤ t.a (dot k x) t.a_positive f))

pub along_zero : (n : ℕ) (h l x y k : List ℤ) → length l ≡ n → length x ≡ n → Along n h l x y → dot k l ≡ pos 0 → dot k x ≡ pos 0 → dot k y ≡ pos 0
along_zero n h l x y k ll lx t z f = zero-cancel t.c (dot k y) t.c_positive (along_dot n h l x y k ll lx t z ∙ ap (λ w. t.a *ℤ w) f ∙ omega (arith, ints))

-- the step along l: what the new lists hold
pub record IsLinedStep (n : ℕ) (h l : List ℤ) (lin rays lines next : List (List ℤ)) : Type 0 where
  pub lines_from : (y : List ℤ) → Contains lines y → (x : List ℤ) × (Contains lin x × IsLeveled h l x y)
  pub lines_to : (x : List ℤ) → Contains lin x → (pair h l x ≡ zeros n) ⊎ ((y : List ℤ) × (Contains lines y × IsLeveled h l x y))
  pub next_from : (y : List ℤ) → Contains next y → (y ≡ l) ⊎ ((x : List ℤ) × (Contains rays x × IsLeveled h l x y))
  pub next_to : (x : List ℤ) → Contains rays x → (y : List ℤ) × (Contains next y × IsLeveled h l x y)
  pub next_l : Contains next l

pub lined : (n : ℕ) (hs es lin rays lines next : List (List ℤ)) (h l : List ℤ) → IsDescribed n hs es lin rays → length l ≡ n → pos 0 <ℤ dot h l →
    ((k : List ℤ) → Contains hs k → dot k l ≡ pos 0) → ((e : List ℤ) → Contains es e → dot e l ≡ pos 0) → IsLinedStep n h l lin rays lines next →
    IsDescribed n (hs ++ h ∷ []) es lines next
lined n hs es lin rays lines next h l d ll g fl zl s =
    let of_line : (x y : List ℤ) → Contains lin x → IsLeveled h l x y → Along n h l x y = λ x y c f. along n h l x y ll (d.lin_width x c) g f in
    let of_ray : (x y : List ℤ) → Contains rays x → IsLeveled h l x y → Along n h l x y = λ x y c f. along n h l x y ll (d.rays_width x c) g f in
    record {
      lin_width = λ y c. let f = s.lines_from y c in (of_line f.0 y f.1.0 f.1.1).long;
      rays_width = λ y c. elim (s.next_from y c) [ inl e ↦ ap length e ∙ ll | inr f ↦ (of_ray f.0 y f.1.0 f.1.1).long ];
      valid = record {
        up = λ k y ck cy. elim (s.next_from y cy) [
          | inl e ↦ subst (λ t. pos 0 ≤ℤ dot k t) (sym e) (in_more (λ t. pos 0 ≤ℤ dot t l) hs h (λ t ct. let z : dot t l ≡ pos 0 = fl t ct in
              omega (arith, ints)) (omega (arith, ints)) k ck)
          | inr f ↦ let t = of_ray f.0 y f.1.0 f.1.1 in
              in_more (λ u. pos 0 ≤ℤ dot u y) hs h (λ u cu. along_fits n h l f.0 y u ll (d.rays_width f.0 f.1.0) t (fl u cu) (d.valid.up u f.0 cu f.1.0))
              (let z : dot h y ≡ pos 0 = t.zero in omega (arith, ints)) k ck
        ];
        flat = λ k y ck cy. let f = s.lines_from y cy in let t = of_line f.0 y f.1.0 f.1.1 in
            in_more (λ u. dot u y ≡ pos 0) hs h (λ u cu. along_zero n h l f.0 y u ll (d.lin_width f.0 f.1.0) t (fl u cu) (d.valid.flat u f.0 cu f.1.0))
            t.zero k ck;
      };
      solves = λ e y ce cy. elim (s.next_from y cy) [
        | inl q ↦ ap (dot e) q ∙ zl e ce
        | inr f ↦ along_zero n h l f.0 y e ll (d.rays_width f.0 f.1.0) (of_ray f.0 y f.1.0 f.1.1) (zl e ce) (d.solves e f.0 ce f.1.0)
      ];
      lin_solves = λ e y ce cy. let f = s.lines_from y cy in along_zero n h l f.0 y e ll (d.lin_width f.0 f.1.0) (of_line f.0 y f.1.0 f.1.1) (zl e ce)
          (d.lin_solves e f.0 ce f.1.0);
      complete = λ v lv up zero.
          step_line n rays lin next lines h l v ll g (ray n next lines l ll s.next_l)
          (λ x lx c. let f = s.next_to x c in let t = of_ray x f.0 c f.1.1 in multiplied n next lines t.d f.0 _ t.d_fits t.pair_is
          (ray n next lines f.0 t.long f.1.0))
          (λ a x lx c. elim (s.lines_to x c) [
            | inl e ↦ subst (Made n next lines) (sym (ap (scaled a) e ∙ vsame (dv a ⊡ vz n) (vz n) (λ w. omega arith))) (nothing n next lines)
            | inr f ↦ let t = of_line x f.0 c f.1.1 in let k = t.d in
                line n next lines (a *ℤ k) f.0 _ t.long f.1.0 (ap (scaled a) t.pair_is ∙ vsame (dv a ⊡ (dv k ⊡ vv f.0 t.long)) (dv a ⊗ dv k ⊡ vv f.0 t.long)
                (λ w. omega arith))
          ])
          (d.complete v lv (λ k c. up k (Contains-append_left hs (h ∷ []) k c)) zero) (up h (Contains-push hs h));
      pointed = λ y cy. elim (s.next_from y cy) [
        | inl e ↦ (h, (Contains-push hs h, subst (λ t. pos 0 <ℤ dot h t) (sym e) g))
        | inr f ↦ let p = d.pointed f.0 f.1.0 in (
          p.0,
          (
            Contains-append_left hs (h ∷ []) p.0 p.1.0,
            along_positive n h l f.0 y p.0 ll (d.rays_width f.0 f.1.0) (of_ray f.0 y f.1.0 f.1.1)
                (fl p.0 p.1.0) p.1.1,
          ),
        )
      ];
    }

-- p is positive at h, q negative, and y is their pair, divided
pub record IsPaired (h : List ℤ) (rays : List (List ℤ)) (y : List ℤ) : Type 0 where
  pub p : List ℤ
  pub q : List ℤ
  pub in_p : Contains rays p
  pub in_q : Contains rays q
  pub up : pos 0 <ℤ dot h p
  pub down : dot h q <ℤ pos 0
  pub divided : IsMultipleOf (pair h p q) y

pub record IsSplitStep (h : List ℤ) (rays next : List (List ℤ)) : Type 0 where
  pub from : (y : List ℤ) → Contains next y → (Contains rays y × (pos 0 ≤ℤ dot h y)) ⊎ IsPaired h rays y
  pub kept : (x : List ℤ) → Contains rays x → pos 0 ≤ℤ dot h x → Contains next x
  pub paired : (p q : List ℤ) → Contains rays p → Contains rays q → pos 0 <ℤ dot h p → dot h q <ℤ pos 0 →
      (y : List ℤ) × (Contains next y × IsMultipleOf (pair h p q) y)

-- the rays that are not negative at h, and the others
record Parts (h : List ℤ) (rays : List (List ℤ)) : Type 0 where
  ps : List (List ℤ)
  qs : List (List ℤ)
  cover : (x : List ℤ) → Contains rays x → Contains ps x ⊎ Contains qs x
  of_p : (x : List ℤ) → Contains ps x → Contains rays x × (pos 0 ≤ℤ dot h x)
  of_q : (x : List ℤ) → Contains qs x → Contains rays x × (dot h x <ℤ pos 0)

data Side (x : ℤ) : Type 0 where
  above : pos 0 ≤ℤ x → Side x
  below : x <ℤ pos 0 → Side x

side : (x : ℤ) → Side x
side (pos n) = above (omega (arith, ints))
side (negsuc n) = below (omega (arith, ints))

parts : (h : List ℤ) (rays : List (List ℤ)) → Parts h rays
parts h [] = record { ps = []; qs = []; cover = λ x c. absurd (none_in x c); of_p = λ x c. absurd (none_in x c); of_q = λ x c. absurd (none_in x c) }
parts h (r ∷ rays) =
    let t = parts h rays in
    elim (side (dot h r)) [
      | above g ↦ record {
        ps = r ∷ t.ps;
        qs = t.qs;
        cover = λ x c. elim (in_cons r rays x c) [
          | inl e ↦ inl (subst (Contains (r ∷ t.ps)) (sym e) (Contains-here r t.ps))
          | inr b ↦ elim (t.cover x b) [ inl a ↦ inl (in_tail r t.ps x a) | inr a ↦ inr a ]
        ];
        of_p = λ x c. elim (in_cons r t.ps x c) [
          | inl e ↦ (subst (Contains (r ∷ rays)) (sym e) (Contains-here r rays), subst (λ z. pos 0 ≤ℤ dot h z) (sym e) g)
          | inr b ↦ (in_tail r rays x (t.of_p x b).0, (t.of_p x b).1)
        ];
        of_q = λ x c. (in_tail r rays x (t.of_q x c).0, (t.of_q x c).1);
      }
      | below g ↦ record {
        ps = t.ps;
        qs = r ∷ t.qs;
        cover = λ x c. elim (in_cons r rays x c) [
          | inl e ↦ inr (subst (Contains (r ∷ t.qs)) (sym e) (Contains-here r t.qs))
          | inr b ↦ elim (t.cover x b) [ inl a ↦ inl a | inr a ↦ inr (in_tail r t.qs x a) ]
        ];
        of_p = λ x c. (in_tail r rays x (t.of_p x c).0, (t.of_p x c).1);
        of_q = λ x c. elim (in_cons r t.qs x c) [
          | inl e ↦ (subst (Contains (r ∷ rays)) (sym e) (Contains-here r rays), subst (λ z. dot h z <ℤ pos 0) (sym e) g)
          | inr b ↦ (in_tail r rays x (t.of_q x b).0, (t.of_q x b).1)
        ];
      }
    ]

-- what a row gives on a pair
pub pair_dot : (n : ℕ) (h p q k : List ℤ) → length p ≡ n → length q ≡ n → dot k (pair h p q) ≡ dot h p *ℤ dot k q +ℤ neg_ℤ (dot h q) *ℤ dot k p
pair_dot n h p q k lp lq = same (by k (vpair h (vv p lp) (vv q lq))) (by h (vv p lp) ⊗ by k (vv q lq) ⊕ dneg (by h (vv q lq)) ⊗ by k (vv p lp)) (omega arith)

pub minus_up : (z : ℤ) → z <ℤ pos 0 → pos 0 <ℤ neg_ℤ z
minus_up z h = omega (arith, ints)

pub sum_up : (a b : ℤ) → pos 0 ≤ℤ a → pos 0 ≤ℤ b → pos 0 ≤ℤ (a +ℤ b)
sum_up a b h k = omega (arith, ints)

sum_above : (a b : ℤ) → pos 0 ≤ℤ a → pos 0 <ℤ b → pos 0 <ℤ (a +ℤ b)
sum_above a b h k = omega (arith, ints)

pair_fits : (n : ℕ) (h p q k : List ℤ) → length p ≡ n → length q ≡ n → pos 0 <ℤ dot h p → dot h q <ℤ pos 0 → pos 0 ≤ℤ dot k p → pos 0 ≤ℤ dot k q →
    pos 0 ≤ℤ dot k (pair h p q)
pair_fits n h p q k lp lq up down kp kq = subst (λ z. pos 0 ≤ℤ z) (sym (pair_dot n h p q k lp lq))
    (sum_up _ _ (0≤-*ℤ (dot h p) (dot k q) (omega (arith, ints)) kq) (0≤-*ℤ (neg_ℤ (dot h q)) (dot k p) (omega (arith, ints)) kp))

pair_positive : (n : ℕ) (h p q k : List ℤ) → length p ≡ n → length q ≡ n → pos 0 <ℤ dot h p → dot h q <ℤ pos 0 → pos 0 <ℤ dot k p → pos 0 ≤ℤ dot k q →
    pos 0 <ℤ dot k (pair h p q)
pair_positive n h p q k lp lq up down kp kq = subst (λ z. pos 0 <ℤ z) (sym (pair_dot n h p q k lp lq))
    (sum_above _ _ (0≤-*ℤ (dot h p) (dot k q) (omega (arith, ints)) kq) (0<-*ℤ (neg_ℤ (dot h q)) (dot k p) (minus_up (dot h q) down) kp))

pub divided_dot : (w y k : List ℤ) → (d : IsMultipleOf w y) → d.0 *ℤ dot k y ≡ dot k w
divided_dot w y k d = sym (dot-times_right (d.0) k y) ∙ ap (dot k) d.1.multiple

pub divided_made : (n : ℕ) (next lin : List (List ℤ)) (w y : List ℤ) → length w ≡ n → Contains next y → IsMultipleOf w y → Made n next lin w
divided_made n next lin w y lw c d = multiplied n next lin (d.0) y w (omega (arith, ints, d.1.positive)) (sym d.1.multiple)
    (ray n next lin y (divided_long n w y lw d) c)

pub split_step : (n : ℕ) (hs es lin rays next : List (List ℤ)) (h : List ℤ) → IsDescribed n hs es lin rays → ((x : List ℤ) → Contains lin x → dot h x ≡ pos 0) →
    IsSplitStep h rays next → IsDescribed n (hs ++ h ∷ []) es lin next
split_step n hs es lin rays next h d flat s =
    let w = d.rays_width in
    let long : (y : List ℤ) (t : IsPaired h rays y) → length (pair h t.p t.q) ≡ n = λ y t. (vpair h (vv t.p (w t.p t.in_p)) (vv t.q (w t.q t.in_q))).long in
    let up_of : (y : List ℤ) (t : IsPaired h rays y) → pos 0 <ℤ t.divided.0 = λ y t. t.divided.1.positive in
    record {
      lin_width = d.lin_width;
      rays_width = λ y c. elim (s.from y c) [ inl a ↦ w y a.0 | inr t ↦ divided_long n (pair h t.p t.q) y (long y t) t.divided ];
      valid = record {
        up = λ k y ck cy. elim (s.from y cy) [
          | inl a ↦ in_more (λ u. pos 0 ≤ℤ dot u y) hs h (λ u cu. d.valid.up u y cu a.0) a.1 k ck
          | inr t ↦ 0≤-cancel (t.divided.0) (dot k y) (up_of y t) (subst (λ z. pos 0 ≤ℤ z) (sym (divided_dot (pair h t.p t.q) y k t.divided))
              (in_more (λ u. pos 0 ≤ℤ dot u (pair h t.p t.q)) hs h (λ u cu. pair_fits n h t.p t.q u (w t.p t.in_p) (w t.q t.in_q) t.up t.down
              (d.valid.up u t.p cu t.in_p) (d.valid.up u t.q cu t.in_q))
              (let z : dot h (pair h t.p t.q) ≡ pos 0 = pair_zero n h t.p t.q (w t.p t.in_p) (w t.q t.in_q) in omega (arith, ints)) k ck))
        ];
        flat = λ k y ck cy. in_more (λ u. dot u y ≡ pos 0) hs h (λ u cu. d.valid.flat u y cu cy) (flat y cy) k ck;
      };
      solves = λ e y ce cy. elim (s.from y cy) [
        | inl a ↦ d.solves e y ce a.0
        | inr t ↦ zero-cancel (t.divided.0) (dot e y) (up_of y t) (divided_dot (pair h t.p t.q) y e t.divided ∙ pair_dot n h t.p t.q e (w t.p t.in_p)
            (w t.q t.in_q)
            ∙ rw (d.solves e t.p ce t.in_p, d.solves e t.q ce t.in_q) (omega (arith, ints)))
      ];
      lin_solves = d.lin_solves;
      complete = λ v lv up zero.
          let t = parts h rays in
          step_split n rays t.ps t.qs lin next h v t.cover flat (λ x c. (t.of_p x c).1) (λ x c. (t.of_q x c).1)
          (λ x lx c. ray n next lin x lx (s.kept x (t.of_p x c).0 (t.of_p x c).1))
          (λ x y lx ly cx cy. elim (sign_of (dot h x)) [
            | negative g ↦ let u : pos 0 ≤ℤ dot h x = (t.of_p x cx).1 in absurd (omega (arith, ints))
            | none g ↦
                let o : dot h y <ℤ pos 0 = (t.of_q y cy).1 in
                multiplied n next lin (neg_ℤ (dot h y)) x _ (omega (arith, ints)) (ap (λ z. vector_sum (scaled z y) (scaled (neg_ℤ (dot h y)) x)) g ∙
                vsame (dn 0 ⊡ vv y ly ⊞ dneg (by h (vv y ly)) ⊡ vv x lx) (dneg (by h (vv y ly)) ⊡ vv x lx) (λ u. omega arith))
                (ray n next lin x lx (s.kept x (t.of_p x cx).0 (t.of_p x cx).1))
            | positive g ↦
                let f = s.paired x y (t.of_p x cx).0 (t.of_q y cy).0 g (t.of_q y cy).1 in
                divided_made n next lin (pair h x y) f.0 (vpair h (vv x lx) (vv y ly)).long f.1.0 f.1.1
          ])
          (d.complete v lv (λ k c. up k (Contains-append_left hs (h ∷ []) k c)) zero) (up h (Contains-push hs h));
      pointed = λ y cy. elim (s.from y cy) [
        | inl a ↦ let p = d.pointed y a.0 in (p.0, (Contains-append_left hs (h ∷ []) p.0 p.1.0, p.1.1))
        | inr t ↦ let p = d.pointed t.p t.in_p in (
          p.0,
          (
            Contains-append_left hs (h ∷ []) p.0 p.1.0,
            0<-cancel (t.divided.0) (dot p.0 y) (up_of y t) (subst (λ z. pos 0 <ℤ z) (sym (divided_dot (pair h t.p t.q) y p.0 t.divided))
                (pair_positive n h t.p t.q p.0 (w t.p t.in_p) (w t.q t.in_q) t.up t.down p.1.1 (d.valid.up p.0 t.q p.1.0 t.in_q))),
          ),
        )
      ];
    }

-- a ray taken away
pub pruned : (n : ℕ) (hs es lin rays : List (List ℤ)) (i j : ℕ) → IsDescribed n hs es lin rays → i < length rays → j < length rays → i ≢ j →
    ZeroWhere hs (get_or rays i []) (get_or rays j []) → IsDescribed n hs es lin (remove rays i)
pruned n hs es lin rays i j d hi hj ne z =
    let x : List ℤ = get_or rays i [] in let y : List ℤ = get_or rays j [] in
    let cx : Contains rays x = (i, hi, get_or_default rays i x [] hi) in
    let cy : Contains rays y = (j, hj, get_or_default rays j y [] hj) in
    let sub : (u : List ℤ) → Contains (remove rays i) u → Contains rays u = λ u c. of_rest rays i u hi c in
    let lx : length x ≡ n = d.rays_width x cx in let ly : length y ≡ n = d.rays_width y cy in
    let en : IsEnough hs x y = enough hs x y (λ h c. d.valid.up h x c cx) (λ h c. d.valid.up h y c cy) z in
    let big = en.big in
    let p = d.pointed y cy in
    let s = vector_sum (scaled big x) (scaled (neg_ℤ (pos 1)) y) in
    let vs : Vec n s = dv big ⊡ vv x lx ⊞ dneg (dn 1) ⊡ vv y ly in
    let value : (h : List ℤ) → dot h s ≡ big *ℤ dot h x -ℤ dot h y =
    λ h. same (by h (dv big ⊡ vv x lx ⊞ dneg (dn 1) ⊡ vv y ly)) (dv big ⊗ by h (vv x lx) ⊖ by h (vv y ly)) (omega arith) in
    let m : Made n rays lin s = d.complete s vs.long (λ h c. subst (λ w. pos 0 ≤ℤ w) (sym (value h)) (en.within h c))
    (λ e c. value e ∙ rw (d.solves e x c cx, d.solves e y c cy) (omega (arith, ints))) in
    let made : Made n (remove rays i) lin x = take_away n hs rays (remove rays i) lin x y p.0 d.valid (λ u c. rest_cover rays i [] u hi c) sub lx ly cx
    (in_rest rays i j [] hi hj ne) p.1.0 p.1.1 en m in
    record {
      lin_width = d.lin_width;
      rays_width = λ u c. d.rays_width u (sub u c);
      valid = record { up = λ h u ch cu. d.valid.up h u ch (sub u cu); flat = d.valid.flat };
      solves = λ e u ce cu. d.solves e u ce (sub u cu);
      lin_solves = d.lin_solves;
      complete = λ v lv up zero. Made-into n rays lin (remove rays i) lin v
          (λ u lu c. elim (rest_cover rays i [] u hi c) [
            | inl a ↦ ray n (remove rays i) lin u lu a
            | inr a ↦ elim (in_cons x [] u a) [ inl e ↦ subst (Made n (remove rays i) lin) (sym e) made | inr b ↦ absurd (none_in u b) ]
          ])
          (λ a u lu c. line n (remove rays i) lin a u _ lu c refl) (d.complete v lv up zero);
      pointed = λ u c. d.pointed u (sub u c);
    }

-- where no ray's zeros are among another's, none is generated by the others
pub minimal : (n : ℕ) (hs es lin rays : List (List ℤ)) (i : ℕ) → IsDescribed n hs es lin rays → i < length rays →
    ((j : ℕ) → j < length rays → i ≢ j → ZeroWhere hs (get_or rays i []) (get_or rays j []) → ⊥) → Made n (remove rays i) lin (get_or rays i []) → ⊥
minimal n hs es lin rays i d hi not_within m =
    let x : List ℤ = get_or rays i [] in
    let cx : Contains rays x = (i, hi, get_or_default rays i x [] hi) in
    let va : AreValid hs (remove rays i) lin = record { up = λ h u ch cu. d.valid.up h u ch (of_rest rays i u hi cu); flat = d.valid.flat } in
    elim (dominated n hs (remove rays i) lin x va m) [
      | inl f ↦ let p = d.pointed x cx in let z : dot p.0 x ≡ pos 0 = f p.0 p.1.0 in let u : pos 0 <ℤ dot p.0 x = p.1.1 in omega (arith, ints)
      | inr w ↦ let s = stood rays i w.0 hi w.1.0 in
          not_within s.j s.inside s.other (λ h c z. ap (dot h) (get_or_default rays s.j [] w.0 s.inside ∙ s.is) ∙ w.1.1 h c z)
    ]
