-- Orthogonal lineality vectors, and rays brought to be orthogonal to them.
use Rattle.gf_duality_theory.proofs.ListLaws.{none_in, in_tail, in_cons, in_more}
use Rattle.gf_duality_theory.specs.Straightening.{IsStraightened, done, next, IsOrthogonalized, start, added, gone}
use Rattle.gf_duality_theory.specs.Generators.{Made, nothing, ray, line, summed, multiplied, divided, IsDescribed}
use Rattle.std.proofs.Common.{◌≡◌, ℕ, List, [], ◌∷◌, ◌++◌, length, ℤ, pos, ◌+ℤ◌, ◌*ℤ◌, neg_ℤ, ◌<ℤ◌, ◌≤ℤ◌, arith, sym, refl, ap, ◌∙◌, subst, Contains, inl, inr}
use Rattle.std.proofs.lemmas.Int.{ints}
use Rattle.std.proofs.lemmas.List.Elements.{Contains-append_left, Contains-push}
use Rattle.gf_int_theory.specs.Content.{scaled}
use Rattle.gf_vec.specs.Vector.{dot, vector_sum, zeros}
use Rattle.gf_int_theory.proofs.RingLaws.{same, dv, dn, dneg, ◌⊕◌, ◌⊗◌}
use Rattle.gf_int_theory.proofs.SignLaws.{0≤-*ℤ, 0<-*ℤ, 0≤-cancel, 0<-cancel, zero-cancel}
use Rattle.gf_int_theory.proofs.ListLaws.{Contains-here}
use Rattle.gf_vec.proofs.DotLaws.{own_zero, dot-times_right}
use Rattle.gf_vec.proofs.VectorIdentities.{vv, vz, ◌⊞◌, ◌⊡◌, by, vsame}
use Rattle.gf_duality_theory.proofs.Made.{Made-length, Made-into, Made-dot_zero, span-times, span-made}
use Rattle.gf_duality_theory.proofs.Described.{Along, along}
use Rattle.gf_duality_theory.proofs.Echelon.{own_member}

-- a multiple of w is a multiple of x and some of ys
pub record Straight (n : ℕ) (ys : List (List ℤ)) (x w : List ℤ) : Type 0 where
  pub long : length w ≡ n
  pub c : ℤ
  pub c_positive : pos 0 <ℤ c
  pub a : ℤ
  pub a_positive : pos 0 <ℤ a
  pub off : List ℤ
  pub of_off : Made n [] ys off
  pub is : scaled c w ≡ vector_sum (scaled a x) off

pub record AreBase (n : ℕ) (ys : List (List ℤ)) : Type 0 where
  pub width : (y : List ℤ) → Contains ys y → length y ≡ n
  pub positive : (y : List ℤ) → Contains ys y → pos 0 <ℤ dot y y

tail_base : (n : ℕ) (y : List ℤ) (ys whole : List (List ℤ)) → whole ≡ y ∷ ys → AreBase n whole → AreBase n ys
tail_base n y ys whole e b = record {
  width = λ z c. b.width z (subst (λ t. Contains t z) (sym e) (in_tail y ys z c));
  positive = λ z c. b.positive z (subst (λ t. Contains t z) (sym e) (in_tail y ys z c));
}

pub head_in : (y : List ℤ) (ys whole : List (List ℤ)) → whole ≡ y ∷ ys → Contains whole y
head_in y ys whole e = subst (λ t. Contains t y) (sym e) (Contains-here y ys)

span_tail : (n : ℕ) (y : List ℤ) (ys whole : List (List ℤ)) (v : List ℤ) → whole ≡ y ∷ ys → Made n [] ys v → Made n [] whole v
span_tail n y ys whole v e m = Made-into n [] ys [] whole v (λ z l c. absurd (none_in z c))
    (λ a z l c. line n [] whole a z _ l (subst (λ t. Contains t z) (sym e) (in_tail y ys z c)) refl) m

pub straightened : (n : ℕ) (ys : List (List ℤ)) (x w : List ℤ) → AreBase n ys → length x ≡ n → IsStraightened ys x w → Straight n ys x w
straightened n ys x w b lx (done v) = record {
  long = lx;
  c = pos 1;
  c_positive = omega (arith, ints);
  a = pos 1;
  a_positive = omega (arith, ints);
  off = zeros n;
  of_off = nothing n [] [];
  is = vsame (dn 1 ⊡ vv v lx) (dn 1 ⊡ vv v lx ⊞ vz n) (λ u. omega arith);
}
straightened n ys x w b lx (next y rest v z u whole e f g) =
    let cy : Contains whole y = head_in y rest whole e in
    let ly : length y ≡ n = b.width y cy in
    let t : Along n y y v z = along n y y v z ly lx (b.positive y cy) f in
    let s : Straight n rest z u = straightened n rest z u (tail_base n y rest whole e b) t.long g in
    let c1 = t.c in let a1 = t.a in let b1 = t.b in let c2 = s.c in let a2 = s.a in
    let lo : length s.off ≡ n = Made-length n [] rest s.off s.of_off in
    record {
      long = s.long;
      c = c1 *ℤ c2;
      c_positive = 0<-*ℤ c1 c2 t.c_positive s.c_positive;
      a = a2 *ℤ a1;
      a_positive = 0<-*ℤ a2 a1 s.a_positive t.a_positive;
      off = vector_sum (scaled (a2 *ℤ b1) y) (scaled c1 s.off);
      of_off = summed n [] whole _ _ _ refl (line n [] whole (a2 *ℤ b1) y _ ly cy refl) (span_tail n y rest whole _ e (span-times n rest c1 s.off s.of_off));
      is = vsame (dv c1 ⊗ dv c2 ⊡ vv u s.long) (dv c1 ⊡ (dv c2 ⊡ vv u s.long)) (λ q. omega arith) ∙ ap (scaled c1) s.is
          ∙ vsame (dv c1 ⊡ (dv a2 ⊡ vv z t.long ⊞ vv s.off lo)) (dv a2 ⊡ (dv c1 ⊡ vv z t.long) ⊞ dv c1 ⊡ vv s.off lo) (λ q. omega arith)
          ∙ ap (λ p. vector_sum (scaled a2 p) (scaled c1 s.off)) t.is
          ∙ vsame (dv a2 ⊡ (dv a1 ⊡ vv v lx ⊞ dv b1 ⊡ vv y ly) ⊞ dv c1 ⊡ vv s.off lo)
          (dv a2 ⊗ dv a1 ⊡ vv v lx ⊞ (dv a2 ⊗ dv b1 ⊡ vv y ly ⊞ dv c1 ⊡ vv s.off lo)) (λ q. omega arith);
    }

-- what a vector that is zero on ys gives
pub straight_dot : (n : ℕ) (ys : List (List ℤ)) (x w k : List ℤ) → length x ≡ n → (s : Straight n ys x w) → ((y : List ℤ) → Contains ys y → dot k y ≡ pos 0) →
    s.c *ℤ dot k w ≡ s.a *ℤ dot k x
straight_dot n ys x w k lx s z =
    let lo : length s.off ≡ n = Made-length n [] ys s.off s.of_off in let a = s.a in
    let zo : dot k s.off ≡ pos 0 = Made-dot_zero n [] ys k s.off (λ y c. absurd (none_in y c)) z s.of_off in
    sym (dot-times_right s.c k w) ∙ ap (dot k) s.is ∙ same (by k (dv a ⊡ vv x lx ⊞ vv s.off lo)) (dv a ⊗ by k (vv x lx) ⊕ by k (vv s.off lo)) (omega arith)
    ∙ ap (λ t. a *ℤ dot k x +ℤ t) zo ∙ omega (arith, ints)

-- each is orthogonal to each later one
abbrev pub IsOrthogonal : List (List ℤ) → Type 0
IsOrthogonal [] = Unit {0}
IsOrthogonal (y ∷ ys) = ((z : List ℤ) → Contains ys z → dot y z ≡ pos 0) × IsOrthogonal ys

-- the outcome is orthogonal to all
pub straight_zero : (n : ℕ) (ys : List (List ℤ)) (x w y : List ℤ) → AreBase n ys → IsOrthogonal ys → length x ≡ n → IsStraightened ys x w → Contains ys y →
    dot y w ≡ pos 0
straight_zero n ys x w y b o lx (done v) c = absurd (none_in y c)
straight_zero n ys x w y b o lx (next h rest v z u whole e f g) c =
    let p : IsOrthogonal (h ∷ rest) = subst IsOrthogonal e o in
    let ch : Contains whole h = head_in h rest whole e in
    let t : Along n h h v z = along n h h v z (b.width h ch) lx (b.positive h ch) f in
    let tb : AreBase n rest = tail_base n h rest whole e b in
    elim (in_cons h rest y (subst (λ l. Contains l y) e c)) [
      | inl q ↦ let s : Straight n rest z u = straightened n rest z u tb t.long g in
          ap (λ k. dot k u) q ∙ zero-cancel s.c (dot h u) s.c_positive (straight_dot n rest z u h t.long s p.0 ∙ ap (λ k. s.a *ℤ k) t.zero ∙ omega (
            arith,
            ints,
          ))
      | inr d ↦ straight_zero n rest z u y tb p.1 t.long g d
    ]

orthogonal_more : (ys : List (List ℤ)) (w : List ℤ) → IsOrthogonal ys → ((y : List ℤ) → Contains ys y → dot y w ≡ pos 0) → IsOrthogonal (ys ++ w ∷ [])
orthogonal_more [] w o f = (λ z c. absurd (none_in z c), tt)
orthogonal_more (y ∷ ys) w o f = (in_more (λ z. dot y z ≡ pos 0) ys w o.0 (f y (Contains-here y ys)), orthogonal_more ys w o.1 (λ z c. f z (in_tail y ys z c)))

pub record Basis (n : ℕ) (lin out : List (List ℤ)) : Type 0 where
  pub base : AreBase n out
  pub orthogonal : IsOrthogonal out
  pub within : (y : List ℤ) → Contains out y → Made n [] lin y
  pub covers : (x : List ℤ) → Contains lin x → Made n [] out x

span_more : (n : ℕ) (ys : List (List ℤ)) (w v : List ℤ) → Made n [] ys v → Made n [] (ys ++ w ∷ []) v
span_more n ys w v m = Made-into n [] ys [] (ys ++ w ∷ []) v (λ z l c. absurd (none_in z c))
    (λ a z l c. line n [] (ys ++ w ∷ []) a z _ l (Contains-append_left ys (w ∷ []) z c) refl) m

-- w from x and the span, and x from w
straight_back : (n : ℕ) (ys next_ : List (List ℤ)) (x w : List ℤ) → length x ≡ n → Straight n ys x w → ((y : List ℤ) → Made n [] ys y → Made n [] next_ y) →
    Made n [] next_ w → Made n [] next_ x
straight_back n ys next_ x w lx s f m =
    let a = s.a in let lo : length s.off ≡ n = Made-length n [] ys s.off s.of_off in
    divided n [] next_ a x _ s.a_positive (vsame (dv a ⊡ vv x lx) (dv a ⊡ vv x lx ⊞ vv s.off lo ⊞ dneg (dn 1) ⊡ vv s.off lo) (λ q. omega arith) ∙
    ap (λ t. vector_sum t (scaled (neg_ℤ (pos 1)) s.off)) (sym s.is))
    (summed n [] next_ _ _ _ refl (span-times n next_ s.c w m) (span-times n next_ (neg_ℤ (pos 1)) s.off (f s.off s.of_off)))

straight_on : (n : ℕ) (ys next_ : List (List ℤ)) (x w : List ℤ) → Straight n ys x w → ((y : List ℤ) → Made n [] ys y → Made n [] next_ y) → Made n [] next_ x →
    Made n [] next_ w
straight_on n ys next_ x w s f m = divided n [] next_ s.c w _ s.c_positive s.is (summed n [] next_ _ _ _ refl (span-times n next_ s.a x m) (f s.off s.of_off))

pub basis : (n : ℕ) (lin out : List (List ℤ)) → ((x : List ℤ) → Contains lin x → length x ≡ n) → IsOrthogonalized lin out → Basis n lin out
basis n lin out width start = record {
  base = record { width = λ y c. absurd (none_in y c); positive = λ y c. absurd (none_in y c) };
  orthogonal = tt;
  within = λ y c. absurd (none_in y c);
  covers = λ y c. absurd (none_in y c);
}
basis n lin out width (added before ys x w whole all e q b f g) =
    let wide : (z : List ℤ) → Contains before z → length z ≡ n =
    λ z c. width z (subst (λ t. Contains t z) (sym e) (Contains-append_left before (x ∷ []) z c)) in
    let i : Basis n before ys = basis n before ys wide b in
    let lx : length x ≡ n = width x (subst (λ t. Contains t x) (sym e) (Contains-push before x)) in
    let s : Straight n ys x w = straightened n ys x w i.base lx f in
    let into : (v : List ℤ) → Made n [] ys v → Made n [] (before ++ x ∷ []) v = λ v m. Made-into n [] ys [] (before ++ x ∷ []) v (λ z l c. absurd (none_in z c))
    (λ a z l c. span-times n (before ++ x ∷ []) a z (span_more n before x z (i.within z c))) m in
    let ww : Made n [] (ys ++ w ∷ []) w = own_member n (ys ++ w ∷ []) w s.long (Contains-push ys w) in
    subst (λ t. Basis n whole t) (sym q) (subst (λ t. Basis n t (ys ++ w ∷ [])) (sym e) (record {
      base = record { width = in_more (λ y. length y ≡ n) ys w i.base.width s.long; positive = in_more (λ y. pos 0 <ℤ dot y y) ys w i.base.positive g };
      orthogonal = orthogonal_more ys w i.orthogonal (λ y c. straight_zero n ys x w y i.base i.orthogonal lx f c);
      within = in_more (λ y. Made n [] (before ++ x ∷ []) y) ys w (λ y c. span_more n before x y (i.within y c))
          (straight_on n ys (before ++ x ∷ []) x w s into (own_member n (before ++ x ∷ []) x lx (Contains-push before x)));
      covers = in_more (λ y. Made n [] (ys ++ w ∷ []) y) before x (λ y c. span_more n ys w y (i.covers y c))
          (straight_back n ys (ys ++ w ∷ []) x w lx s (λ v m. span_more n ys w v m) ww);
    }))
basis n lin out width (gone before ys x w whole e b f g) =
    let wide : (z : List ℤ) → Contains before z → length z ≡ n =
    λ z c. width z (subst (λ t. Contains t z) (sym e) (Contains-append_left before (x ∷ []) z c)) in
    let i : Basis n before ys = basis n before ys wide b in
    let lx : length x ≡ n = width x (subst (λ t. Contains t x) (sym e) (Contains-push before x)) in
    let s : Straight n ys x w = straightened n ys x w i.base lx f in
    let zero : w ≡ zeros n = own_zero w g ∙ ap zeros s.long in
    subst (λ t. Basis n t ys) (sym e) (record {
      base = i.base;
      orthogonal = i.orthogonal;
      within = λ y c. span_more n before x y (i.within y c);
      covers = in_more (λ y. Made n [] ys y) before x i.covers (straight_back n ys ys x w lx s (λ v m. m) (subst (Made n [] ys) (sym zero) (nothing n [] ys)));
    })

-- a vector orthogonal to the basis is orthogonal to the lineality vectors
pub orthogonal_all : (n : ℕ) (lin out : List (List ℤ)) (r x : List ℤ) → Basis n lin out → ((y : List ℤ) → Contains out y → dot r y ≡ pos 0) → Contains lin x →
    dot r x ≡ pos 0
orthogonal_all n lin out r x b f c = Made-dot_zero n [] out r x (λ z i. absurd (none_in z i)) f (b.covers x c)

-- rays brought along one lineality vector
pub straight_rays : (n : ℕ) (hs es lin rays next_ : List (List ℤ)) (ys : List (List ℤ)) → IsDescribed n hs es lin rays → AreBase n ys →
    ((y : List ℤ) → Contains ys y → Made n [] lin y) → ((w : List ℤ) → Contains next_ w → (x : List ℤ) × (Contains rays x × IsStraightened ys x w)) →
    ((x : List ℤ) → Contains rays x → (w : List ℤ) × (Contains next_ w × IsStraightened ys x w)) → IsDescribed n hs es lin next_
straight_rays n hs es lin rays next_ ys d b span from to =
    let flat : (k y : List ℤ) → ((x : List ℤ) → Contains lin x → dot k x ≡ pos 0) → Contains ys y → dot k y ≡ pos 0 =
    λ k y z c. Made-dot_zero n [] lin k y (λ x i. absurd (none_in x i)) z (span y c) in
    let st : (x w : List ℤ) → Contains rays x → IsStraightened ys x w → Straight n ys x w = λ x w c s. straightened n ys x w b (d.rays_width x c) s in
    record {
      lin_width = d.lin_width;
      rays_width = λ w c. let f = from w c in (st f.0 w f.1.0 f.1.1).long;
      valid = record {
        up = λ k w ck cw. let f = from w cw in let s = st f.0 w f.1.0 f.1.1 in
            0≤-cancel s.c (dot k w) s.c_positive
            (subst (λ t. pos 0 ≤ℤ t) (sym (straight_dot n ys f.0 w k (d.rays_width f.0 f.1.0) s (λ y c. flat k y (λ x i. d.valid.flat k x ck i) c)))
            (0≤-*ℤ s.a (dot k f.0) (omega (arith, ints, s.a_positive)) (d.valid.up k f.0 ck f.1.0)));
        flat = d.valid.flat;
      };
      solves = λ e w ce cw. let f = from w cw in let s = st f.0 w f.1.0 f.1.1 in
          zero-cancel s.c (dot e w) s.c_positive (straight_dot n ys f.0 w e (d.rays_width f.0 f.1.0) s (λ y c. flat e y (λ x i. d.lin_solves e x ce i) c) ∙
          ap (λ t. s.a *ℤ t) (d.solves e f.0 ce f.1.0) ∙ omega (arith, ints));
      lin_solves = d.lin_solves;
      complete = λ v lv up zero. Made-into n rays lin next_ lin v
          (λ x lx c. let f = to x c in let s = st x f.0 c f.1.1 in let a = s.a in let c = s.c in
          let lo : length s.off ≡ n = Made-length n [] ys s.off s.of_off in
          divided n next_ lin a x _ s.a_positive
          (vsame (dv a ⊡ vv x lx) (dv a ⊡ vv x lx ⊞ vv s.off lo ⊞ dneg (dn 1) ⊡ vv s.off lo) (λ q. omega arith) ∙
          ap (λ t. vector_sum t (scaled (neg_ℤ (pos 1)) s.off)) (sym s.is))
          (summed n next_ lin _ _ _ refl (multiplied n next_ lin c f.0 _ (omega (arith, ints, s.c_positive)) refl (ray n next_ lin f.0 s.long f.1.0))
          (span-made n next_ lin _ (span-times n lin (neg_ℤ (pos 1)) s.off (Made-into n [] ys [] lin s.off (λ y l i. absurd (none_in y i))
          (λ k y l i. span-times n lin k y (span y i)) s.of_off)))))
          (λ a x lx c. line n next_ lin a x _ lx c refl) (d.complete v lv up zero);
      pointed = λ w cw. let f = from w cw in let s = st f.0 w f.1.0 f.1.1 in let p = d.pointed f.0 f.1.0 in (
        p.0,
        (
          p.1.0,
          0<-cancel s.c (dot p.0 w) s.c_positive
              (subst (λ t. pos 0 <ℤ t) (sym (straight_dot n ys f.0 w p.0 (d.rays_width f.0 f.1.0) s (λ y c. flat p.0 y (λ x i. d.valid.flat p.0 x p.1.0 i) c)))
              (0<-*ℤ s.a (dot p.0 f.0) s.a_positive p.1.1)),
        ),
      );
    }
