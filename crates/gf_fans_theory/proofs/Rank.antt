-- Vectors none of which is spanned by those behind it are no more than any that span them.
use Rattle.std.proofs.Common.{◌≡◌, ◌≢◌, ℕ, suc, ◌<◌, ◌≤◌, List, [], ◌∷◌, length, ℤ, pos, ◌+ℤ◌, ◌*ℤ◌, neg_ℤ, ◌<ℤ◌, arith, sym, refl, ap, ◌∙◌, subst, Contains}
use Rattle.std.proofs.Common.{◌⊎◌, inl, inr, AllPairs}
use Rattle.std.proofs.lemmas.Int.{ints}
use Rattle.std.proofs.lemmas.List.Elements.{All-contains}
use Rattle.gf_int_theory.specs.Content.{scaled}
use Rattle.gf_int_theory.proofs.RingLaws.{dv, dn, dneg, ◌⊗◌, ◌⊕◌}
use Rattle.gf_int_theory.proofs.SignLaws.{0<-*ℤ, sign_of, negative, none, positive, zero_product, positive_not_zero}
use Rattle.gf_int_theory.proofs.ListLaws.{Contains-here}
use Rattle.gf_vec.specs.Vector.{dot, vector_sum, zeros, entry_at}
use Rattle.gf_vec.proofs.VectorLaws.{length-times}
use Rattle.gf_gordan.specs.Elimination.{IsPivot}
use Rattle.gf_duality_theory.specs.Generators.{Made, nothing, ray, line, summed, multiplied, divided}
use Rattle.gf_duality_theory.specs.Rays.{IsEchelon}
use Rattle.gf_fans_theory.specs.Dimension.{AreFree, HasDimension}
use Rattle.gf_duality_theory.proofs.ListLaws.{none_in, in_tail, in_cons}
use Rattle.gf_vec.proofs.EntryLaws.{entry_times, entry_plus, cancel}
use Rattle.gf_vec.proofs.VectorIdentities.{vv, vz, ◌⊞◌, ◌⊡◌, vsame}
use Rattle.gf_duality_theory.proofs.Described.{pair_zero}
use Rattle.gf_duality_theory.proofs.Made.{Made-length, divided_length, Made-dot_zero, span-times}
use Rattle.gf_duality_theory.proofs.Echelon.{own_member, span_into}
use Rattle.gf_duality_theory.proofs.EchelonUnique.{entry_zeros}

-- a multiple of x is one of y and what ys span
record Apart (n : ℕ) (y : List ℤ) (ys : List (List ℤ)) (x : List ℤ) : Type 0 where
  k : ℤ
  k_positive : pos 0 <ℤ k
  a : ℤ
  w : List ℤ
  of_w : Made n [] ys w
  is : scaled k x ≡ vector_sum (scaled a y) w

apart : (n : ℕ) (rays lin : List (List ℤ)) (y : List ℤ) (ys : List (List ℤ)) (x : List ℤ) → length y ≡ n → ((z : List ℤ) → Contains rays z → ⊥) →
    ((z : List ℤ) → Contains lin z → (z ≡ y) ⊎ Contains ys z) → Made n rays lin x → Apart n y ys x
apart n rays lin y ys x ly never cover (nothing m rs ls) = record {
  k = pos 1;
  k_positive = omega (arith, ints);
  a = pos 0;
  w = zeros m;
  of_w = nothing m [] ys;
  is = vsame (dn 1 ⊡ vz m) (dn 0 ⊡ vv y ly ⊞ vz m) (λ u. omega arith);
}
apart n rays lin y ys x ly never cover (ray m rs ls w l c) = absurd (never w c)
apart n rays lin y ys x ly never cover (line m rs ls b u w l c e) = elim (cover u c) [
  | inl q ↦ record {
    k = pos 1;
    k_positive = omega (arith, ints);
    a = b;
    w = zeros m;
    of_w = nothing m [] ys;
    is = ap (scaled (pos 1)) (e ∙ ap (scaled b) q) ∙ vsame (dn 1 ⊡ (dv b ⊡ vv y ly)) (dv b ⊡ vv y ly ⊞ vz m) (λ v. omega arith);
  }
  | inr d ↦ let lw : length w ≡ m = ap length e ∙ length-times b u ∙ l in
      record {
        k = pos 1;
        k_positive = omega (arith, ints);
        a = pos 0;
        w = w;
        of_w = line m [] ys b u w l d e;
        is = vsame (dn 1 ⊡ vv w lw) (dn 0 ⊡ vv y ly ⊞ vv w lw) (λ v. omega arith);
      }
]
apart n rays lin y ys x ly never cover (summed m rs ls u v w e f g) =
    let s = apart m rs ls y ys u ly never cover f in let t = apart m rs ls y ys v ly never cover g in
    let k = s.k in let l = t.k in let a = s.a in let b = t.a in
    let lu = Made-length m rs ls u f in let lv = Made-length m rs ls v g in
    let ls = Made-length m [] ys s.w s.of_w in let lt = Made-length m [] ys t.w t.of_w in
    record {
      k = k *ℤ l;
      k_positive = 0<-*ℤ k l s.k_positive t.k_positive;
      a = l *ℤ a +ℤ k *ℤ b;
      w = vector_sum (scaled l s.w) (scaled k t.w);
      of_w = summed m [] ys _ _ _ refl (span-times m ys l s.w s.of_w) (span-times m ys k t.w t.of_w);
      is = ap (scaled (k *ℤ l)) e ∙ vsame (dv k ⊗ dv l ⊡ (vv u lu ⊞ vv v lv)) (dv l ⊡ (dv k ⊡ vv u lu) ⊞ dv k ⊡ (dv l ⊡ vv v lv)) (λ z. omega arith)
          ∙ ap (λ z. vector_sum (scaled l z) (scaled k (scaled l v))) s.is ∙ ap (λ z. vector_sum (scaled l (vector_sum (scaled a y) s.w)) (scaled k z)) t.is
          ∙ vsame (dv l ⊡ (dv a ⊡ vv y ly ⊞ vv s.w ls) ⊞ dv k ⊡ (dv b ⊡ vv y ly ⊞ vv t.w lt))
          ((dv l ⊗ dv a ⊕ dv k ⊗ dv b) ⊡ vv y ly ⊞ (dv l ⊡ vv s.w ls ⊞ dv k ⊡ vv t.w lt)) (λ z. omega arith);
    }
apart n rays lin y ys x ly never cover (multiplied m rs ls b u w g e f) =
    let s = apart m rs ls y ys u ly never cover f in let k = s.k in let a = s.a in
    let lu = Made-length m rs ls u f in let lw = Made-length m [] ys s.w s.of_w in
    record {
      k = k;
      k_positive = s.k_positive;
      a = b *ℤ a;
      w = scaled b s.w;
      of_w = span-times m ys b s.w s.of_w;
      is = ap (scaled k) e ∙ vsame (dv k ⊡ (dv b ⊡ vv u lu)) (dv b ⊡ (dv k ⊡ vv u lu)) (λ z. omega arith) ∙ ap (scaled b) s.is ∙
          vsame (dv b ⊡ (dv a ⊡ vv y ly ⊞ vv s.w lw)) (dv b ⊗ dv a ⊡ vv y ly ⊞ dv b ⊡ vv s.w lw) (λ z. omega arith);
    }
apart n rays lin y ys x ly never cover (divided m rs ls b u w g e f) =
    let s = apart m rs ls y ys w ly never cover f in let k = s.k in let lu = divided_length m rs ls b u w e f in
    record {
      k = k *ℤ b;
      k_positive = 0<-*ℤ k b s.k_positive g;
      a = s.a;
      w = s.w;
      of_w = s.of_w;
      is = vsame (dv k ⊗ dv b ⊡ vv u lu) (dv k ⊡ (dv b ⊡ vv u lu)) (λ z. omega arith) ∙ ap (scaled k) e ∙ s.is;
    }

-- a vector of which some multiple is spanned
pub span_divided : (n : ℕ) (xs : List (List ℤ)) (c : ℤ) (x : List ℤ) → length x ≡ n → c ≢ pos 0 → Made n [] xs (scaled c x) → Made n [] xs x
span_divided n xs c x l nz m = elim (sign_of c) [
  | none e ↦ absurd (nz e)
  | positive g ↦ divided n [] xs c x (scaled c x) g refl m
  | negative g ↦ divided n [] xs (neg_ℤ c) x (scaled (neg_ℤ (pos 1)) (scaled c x)) (omega (arith, ints, g)) (vsame (dneg (dv c) ⊡ vv x l)
      (dneg (dn 1) ⊡ (dv c ⊡ vv x l)) (λ u. omega arith)) (span-times n xs (neg_ℤ (pos 1)) (scaled c x) m)
]

-- one vector less of xs, spanned by ys alone
record Exchange (n : ℕ) (y : List ℤ) (ys xs : List (List ℤ)) : Type 0 where
  rest : List (List ℤ)
  one : length xs ≡ suc (length rest)
  free : AreFree n rest
  inside : (z : List ℤ) → Contains rest z → Made n [] ys z
  below : (z : List ℤ) → Contains rest z → Made n [] xs z
  top : List ℤ
  of_top : Made n [] xs top
  parts : Apart n y ys top
  not_zero : parts.a ≢ pos 0

more_span : (n : ℕ) (x : List ℤ) (xs : List (List ℤ)) (v : List ℤ) → ((z : List ℤ) → Contains xs z → length z ≡ n) → Made n [] xs v → Made n [] (x ∷ xs) v
more_span n x xs v w m = span_into n xs (x ∷ xs) v (λ z c. own_member n (x ∷ xs) z (w z c) (in_tail x xs z c)) m

product_not_zero : (a b : ℤ) → a ≢ pos 0 → b ≢ pos 0 → a *ℤ b ≢ pos 0
product_not_zero a b f g e = g (cancel a b f e)

zero_left : (n : ℕ) (y w x : List ℤ) (ys : List (List ℤ)) (k a : ℤ) → length y ≡ n → length x ≡ n → pos 0 <ℤ k → a ≡ pos 0 → Made n [] ys w →
    scaled k x ≡ vector_sum (scaled a y) w → Made n [] ys x
zero_left n y w x ys k a ly lx g z m e =
    let lw = Made-length n [] ys w m in
    divided n [] ys k x w g (e ∙ ap (λ c. vector_sum (scaled c y) w) z ∙ vsame (dn 0 ⊡ vv y ly ⊞ vv w lw) (vv w lw) (λ u. omega arith)) m

exchange : (n : ℕ) (y : List ℤ) (ys xs : List (List ℤ)) → length y ≡ n → ((z : List ℤ) → Contains xs z → length z ≡ n) → AreFree n xs →
    ((z : List ℤ) → Contains xs z → Made n [] (y ∷ ys) z) → ((z : List ℤ) → Contains xs z → Made n [] ys z) ⊎ Exchange n y ys xs
exchange n y ys [] ly w f i = inl (λ z c. absurd (none_in z c))
exchange n y ys (x ∷ xs) ly w f i =
    let wt : (z : List ℤ) → Contains xs z → length z ≡ n = λ z c. w z (in_tail x xs z c) in
    let lx : length x ≡ n = w x (Contains-here x xs) in
    let p = apart n [] (y ∷ ys) y ys x ly (λ z c. none_in z c) (λ z c. in_cons y ys z c) (i x (Contains-here x xs)) in
    let k = p.k in let a = p.a in
    elim (exchange n y ys xs ly wt f.1 (λ z c. i z (in_tail x xs z c))) [
      | inl all ↦ elim (sign_of a) [
        | none e ↦ inl (λ z c. elim (in_cons x xs z c) [
          | inl q ↦ subst (Made n [] ys) (sym q) (zero_left n y p.w x ys k a ly lx p.k_positive e p.of_w p.is)
          | inr d ↦ all z d
        ])
        | positive g ↦ inr (record {
          rest = xs;
          one = refl;
          free = f.1;
          inside = all;
          below = λ z c. own_member n (x ∷ xs) z (wt z c) (in_tail x xs z c);
          top = x;
          of_top = own_member n (x ∷ xs) x lx (Contains-here x xs);
          parts = p;
          not_zero = λ e. omega (arith, ints, g, e);
        })
        | negative g ↦ inr (record {
          rest = xs;
          one = refl;
          free = f.1;
          inside = all;
          below = λ z c. own_member n (x ∷ xs) z (wt z c) (in_tail x xs z c);
          top = x;
          of_top = own_member n (x ∷ xs) x lx (Contains-here x xs);
          parts = p;
          not_zero = λ e. omega (arith, ints, g, e);
        })
      ]
      | inr r ↦
          let q = r.parts in let l = q.k in let b = q.a in let z : List ℤ = r.top in
          let lz : length z ≡ n = Made-length n [] xs z r.of_top in
          let lp : length p.w ≡ n = Made-length n [] ys p.w p.of_w in let lq : length q.w ≡ n = Made-length n [] ys q.w q.of_w in
          let v : List ℤ = vector_sum (scaled (b *ℤ k) x) (scaled (neg_ℤ (a *ℤ l)) z) in
          let e : v ≡ vector_sum (scaled b p.w) (scaled (neg_ℤ a) q.w) =
          vsame (dv b ⊗ dv k ⊡ vv x lx ⊞ dneg (dv a ⊗ dv l) ⊡ vv z lz) (dv b ⊡ (dv k ⊡ vv x lx) ⊞ dneg (dv a) ⊡ (dv l ⊡ vv z lz)) (λ u. omega arith)
          ∙ ap (λ t. vector_sum (scaled b t) (scaled (neg_ℤ a) (scaled l z))) p.is ∙ ap (λ t. vector_sum (scaled b (vector_sum (scaled a y) p.w))
          (scaled (neg_ℤ a) t)) q.is
          ∙ vsame (dv b ⊡ (dv a ⊡ vv y ly ⊞ vv p.w lp) ⊞ dneg (dv a) ⊡ (dv b ⊡ vv y ly ⊞ vv q.w lq)) (dv b ⊡ vv p.w lp ⊞ dneg (dv a) ⊡ vv q.w lq)
          (λ u. omega arith) in
          let of_v : Made n [] ys v = summed n [] ys _ _ v e (span-times n ys b p.w p.of_w) (span-times n ys (neg_ℤ a) q.w q.of_w) in
          let back : scaled (b *ℤ k) x ≡ vector_sum v (scaled (a *ℤ l) z) =
          vsame (dv b ⊗ dv k ⊡ vv x lx) ((dv b ⊗ dv k ⊡ vv x lx ⊞ dneg (dv a ⊗ dv l) ⊡ vv z lz) ⊞ dv a ⊗ dv l ⊡ vv z lz) (λ u. omega arith) in
          inr (record {
            rest = v ∷ r.rest;
            one = ap suc r.one;
            free = (
              λ m. f.0 (span_divided n xs (b *ℤ k) x lx (product_not_zero b k r.not_zero (positive_not_zero k p.k_positive))
                  (summed n [] xs v (scaled (a *ℤ l) z) _ back (span_into n r.rest xs v r.below m) (span-times n xs (a *ℤ l) z r.of_top))),
              r.free,
            );
            inside = λ t c. elim (in_cons v r.rest t c) [ inl h ↦ subst (Made n [] ys) (sym h) of_v | inr d ↦ r.inside t d ];
            below = λ t c. elim (in_cons v r.rest t c) [
              | inl h ↦ subst (Made n [] (x ∷ xs)) (sym h) (summed n [] (x ∷ xs) _ _ v refl
                  (span-times n (x ∷ xs) (b *ℤ k) x (own_member n (x ∷ xs) x lx (Contains-here x xs)))
                  (span-times n (x ∷ xs) (neg_ℤ (a *ℤ l)) z (more_span n x xs z wt r.of_top)))
              | inr d ↦ more_span n x xs t wt (r.below t d)
            ];
            top = z;
            of_top = more_span n x xs z wt r.of_top;
            parts = q;
            not_zero = r.not_zero;
          })
    ]

pub free_short : (n : ℕ) (ys xs : List (List ℤ)) → ((z : List ℤ) → Contains ys z → length z ≡ n) → ((z : List ℤ) → Contains xs z → length z ≡ n) →
    AreFree n xs → ((z : List ℤ) → Contains xs z → Made n [] ys z) → length xs ≤ length ys
free_short n [] [] wy wx f i = omega arith
free_short n [] (x ∷ xs) wy wx f i = absurd (f.0 (span_into n [] xs x (λ z c. absurd (none_in z c)) (i x (Contains-here x xs))))
free_short n (y ∷ ys) xs wy wx f i = elim (exchange n y ys xs (wy y (Contains-here y ys)) wx f i) [
  | inl all ↦ let h : length xs ≤ length ys = free_short n ys xs (λ z c. wy z (in_tail y ys z c)) wx f all in omega (arith, h)
  | inr r ↦ let h : length r.rest ≤ length ys = free_short n ys r.rest (λ z c. wy z (in_tail y ys z c)) (λ z c. Made-length n [] ys z (r.inside z c))
      r.free r.inside in let o = r.one in omega (arith, h, o)
]

both_zero : (x y : ℤ) → x ≡ pos 0 → y ≡ pos 0 → x +ℤ y ≡ pos 0
both_zero x y e f = rw (e, f) refl

-- what is zero in a column on all that span, is so on what they span
span_entry : (n : ℕ) (rays lin : List (List ℤ)) (v : List ℤ) (p : ℕ) → ((z : List ℤ) → Contains rays z → ⊥) →
    ((z : List ℤ) → Contains lin z → entry_at z p ≡ pos 0) → Made n rays lin v → entry_at v p ≡ pos 0
span_entry n rays lin v p never f (nothing m rs ls) = entry_zeros m p
span_entry n rays lin v p never f (ray m rs ls w l c) = absurd (never w c)
span_entry n rays lin v p never f (line m rs ls b u w l c e) = ap (λ t. entry_at t p) e ∙ entry_times b u p ∙ zero_product b (entry_at u p) (f u c)
span_entry n rays lin v p never f (summed m rs ls u w z e g h) =
    ap (λ t. entry_at t p) e ∙ entry_plus u w p (Made-length m rs ls u g ∙ sym (Made-length m rs ls w h)) ∙ both_zero (entry_at u p) (entry_at w p)
    (span_entry m rs ls u p never f g) (span_entry m rs ls w p never f h)
span_entry n rays lin v p never f (multiplied m rs ls b u w k e g) =
    ap (λ t. entry_at t p) e ∙ entry_times b u p ∙ zero_product b (entry_at u p) (span_entry m rs ls u p never f g)
span_entry n rays lin v p never f (divided m rs ls b u w k e g) =
    cancel b (entry_at u p) (positive_not_zero b k) (sym (entry_times b u p) ∙ ap (λ t. entry_at t p) e ∙ span_entry m rs ls w p never f g)

free_of : (n : ℕ) (rows whole : List (List ℤ)) → IsEchelon whole → ((x : List ℤ) → Contains rows x → Contains whole x) →
    AllPairs (λ x y. (p q : ℕ) → IsPivot x p → IsPivot y q → p < q) rows → AreFree n rows
free_of n [] whole e i r = tt
free_of n (x ∷ rows) whole e i r =
    let cx = i x (Contains-here x rows) in
    let l = All-contains (λ x. (p : ℕ) × (IsPivot x p × (pos 0 <ℤ entry_at x p))) whole x e.leading cx in
    let p = l.0 in
    let after : (y : List ℤ) → Contains rows y → (q : ℕ) → IsPivot y q → p < q = λ y c q k. subst (λ (t : List ℤ). (p q : ℕ) → IsPivot x p → IsPivot t q →
    p < q) c.2 (r 0 (suc c.0) y (omega arith) (omega (arith, c.1))) p q l.1.0 k in (
      λ m. let z : entry_at x p ≡ pos 0 = span_entry n [] rows x p (λ y c. none_in y c) (λ y c.
          let cy = i y (in_tail x rows y c) in
          let k = All-contains (λ x. (p : ℕ) × (IsPivot x p × (pos 0 <ℤ entry_at x p))) whole y e.leading cy in
          let lt : p < k.0 = after y c k.0 k.1.0 in
          e.alone x y p k.0 cx cy l.1.0 k.1.0 (λ q. let h : k.0 < k.0 = subst (λ t. t < k.0) q lt in omega (arith, h))) m in
          let g = l.1.1 in omega (arith, ints, z, g),
      free_of n rows whole e (λ y c. i y (in_tail x rows y c)) (λ a b d h u. r (suc a) (suc b) d (omega arith) (omega arith)),
    )

-- ---- dimensions

pub basis_free : (n : ℕ) (rows : List (List ℤ)) → IsEchelon rows → AreFree n rows
basis_free n rows e = free_of n rows rows e (λ x c. c) e.rising

zero_on_span : (n : ℕ) (vectors : List (List ℤ)) (t v : List ℤ) → ((x : List ℤ) → Contains vectors x → dot t x ≡ pos 0) → Made n [] vectors v → dot t v ≡ pos 0
zero_on_span n vectors t v f m = Made-dot_zero n [] vectors t v (λ x c. absurd (none_in x c)) f m

-- an echelon basis has as many vectors as the dimension
pub dimension_basis : (n : ℕ) (rows : List (List ℤ)) → ((x : List ℤ) → Contains rows x → length x ≡ n) → IsEchelon rows → HasDimension n rows (length rows)
dimension_basis n rows w e = record {
  basis = rows;
  width = w;
  free = basis_free n rows e;
  to = λ x c. own_member n rows x (w x c) c;
  from = λ x c. own_member n rows x (w x c) c;
  long = refl;
}

dimension_at_most : (n : ℕ) (xs ys : List (List ℤ)) (d e : ℕ) → HasDimension n xs d → HasDimension n ys e → ((x : List ℤ) → Contains xs x → Made n [] ys x) →
    d ≤ e
dimension_at_most n xs ys d e h k sub =
    let s = free_short n k.basis h.basis k.width h.width h.free (λ x c. span_into n ys k.basis x k.to (span_into n xs ys x sub (h.from x c))) in
    let a = h.long in let b = k.long in omega (arith, s, a, b)

-- the dimension is one number
pub dimension_one : (n : ℕ) (xs ys : List (List ℤ)) (d e : ℕ) → HasDimension n xs d → HasDimension n ys e → ((x : List ℤ) → Contains xs x → Made n [] ys x) →
    ((x : List ℤ) → Contains ys x → Made n [] xs x) → d ≡ e
dimension_one n xs ys d e h k f g = let a = dimension_at_most n xs ys d e h k f in let b = dimension_at_most n ys xs e d k h g in omega (arith, a, b)

-- what a row is zero on has a smaller dimension than what it is not zero on
pub dimension_below : (n : ℕ) (small large : List (List ℤ)) (d e : ℕ) (t y : List ℤ) → HasDimension n small d → HasDimension n large e →
    ((x : List ℤ) → Contains small x → Made n [] large x) → ((x : List ℤ) → Contains small x → dot t x ≡ pos 0) → Made n [] large y → dot t y ≢ pos 0 → d < e
dimension_below n small large d e t y hs hl sub flat my nz =
    let up : (x : List ℤ) → Contains hs.basis x → Made n [] large x = λ x c. span_into n small large x sub (hs.from x c) in
    let ly = Made-length n [] large y my in
    let h : length (y ∷ hs.basis) ≤ length hl.basis = free_short n hl.basis (y ∷ hs.basis) hl.width
    (λ x c. elim (in_cons y hs.basis x c) [ inl q ↦ ap length q ∙ ly | inr k ↦ hs.width x k ])
    ((λ m. nz (zero_on_span n small t y flat (span_into n hs.basis small y hs.from m))), hs.free)
    (λ x c. span_into n large hl.basis x hl.to (elim (in_cons y hs.basis x c) [ inl q ↦ subst (Made n [] large) (sym q) my | inr k ↦ up x k ])) in
    let ld = hs.long in let le = hl.long in omega (arith, h, ld, le)

-- and by one where all that the row is zero on is there
pub dimension_step : (n : ℕ) (small large : List (List ℤ)) (d : ℕ) (t y : List ℤ) → ((x : List ℤ) → Contains large x → length x ≡ n) → HasDimension n small d →
    ((x : List ℤ) → Contains small x → Made n [] large x) → ((x : List ℤ) → Contains small x → dot t x ≡ pos 0) → Made n [] large y → dot t y ≢ pos 0 →
    ((x : List ℤ) → Made n [] large x → dot t x ≡ pos 0 → Made n [] small x) → HasDimension n large (suc d)
dimension_step n small large d t y wl hs sub flat my nz all =
    let ly = Made-length n [] large y my in
    let wy : (x : List ℤ) → Contains (y ∷ hs.basis) x → length x ≡ n =
    λ x c. elim (in_cons y hs.basis x c) [ inl q ↦ ap length q ∙ ly | inr k ↦ hs.width x k ] in
    let own : Made n [] (y ∷ hs.basis) y = own_member n (y ∷ hs.basis) y ly (Contains-here y hs.basis) in
    let k : ℤ = dot t y in
    record {
      basis = y ∷ hs.basis;
      width = wy;
      free = ((λ m. nz (zero_on_span n small t y flat (span_into n hs.basis small y hs.from m))), hs.free);
      to = λ x c.
          let lx = wl x c in
          let mx : Made n [] large x = own_member n large x lx c in
          let b : ℤ = dot t x in
          let z : List ℤ = vector_sum (scaled k x) (scaled (neg_ℤ b) y) in
          let tz : dot t z ≡ pos 0 = pair_zero n t y x ly lx in
          let mz : Made n [] hs.basis z =
          span_into n small hs.basis z hs.to (all z (summed n [] large _ _ z refl (span-times n large k x mx) (span-times n large (neg_ℤ b) y my)) tz) in
          span_divided n (y ∷ hs.basis) k x lx nz (summed n [] (y ∷ hs.basis) z (scaled b y) _
          (vsame (dv k ⊡ vv x lx) ((dv k ⊡ vv x lx ⊞ dneg (dv b) ⊡ vv y ly) ⊞ dv b ⊡ vv y ly) (λ u. omega arith)) (more_span n y hs.basis z hs.width mz)
          (span-times n (y ∷ hs.basis) b y own));
      from = λ x c. elim (in_cons y hs.basis x c) [ inl q ↦ subst (Made n [] large) (sym q) my | inr k ↦ span_into n small large x sub (hs.from x k) ];
      long = ap suc hs.long;
    }
