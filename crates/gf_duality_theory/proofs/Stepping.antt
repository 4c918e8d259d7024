-- One inequality more: what is generated afterwards is what was generated and is not negative there.
use Rattle.gf_duality_theory.proofs.ListLaws.{none_in}
use Rattle.gf_duality_theory.specs.Combining.{pair}
use Rattle.gf_duality_theory.specs.Generators.{Made, nothing, ray, line, summed, multiplied, divided}
use Rattle.std.proofs.Common.{◌≡◌, ℕ, List, [], length, ℤ, pos, ◌+ℤ◌, ◌*ℤ◌, neg_ℤ, ◌<ℤ◌, ◌≤ℤ◌, arith, sym, refl, ap, ◌∙◌, subst, Contains, ◌⊎◌, inl, inr}
use Rattle.std.proofs.lemmas.Int.{ints}
use Rattle.gf_int_theory.specs.Content.{scaled}
use Rattle.gf_vec.specs.Vector.{dot, vector_sum, zeros}
use Rattle.gf_int_theory.proofs.RingLaws.{dv, dn, dneg, ◌⊕◌, ◌⊗◌}
use Rattle.gf_int_theory.proofs.SignLaws.{0≤-*ℤ, 0<-*ℤ, <0-cancel, zero-cancel, sign_of, negative, none, positive, <0-*ℤ}
use Rattle.gf_vec.proofs.VectorLaws.{dot_comm, dot-times, dot-zeros, length-zeros}
use Rattle.gf_vec.proofs.DotLaws.{vector_ext, dot-plus_right, dot-times_right}
use Rattle.gf_vec.proofs.VectorIdentities.{vv, vz, ◌⊞◌, ◌⊡◌, by, vsame}
use Rattle.gf_duality_theory.proofs.PairLaws.{vpair, pair_left_linear, pair_right_linear}
use Rattle.gf_duality_theory.proofs.Made.{Made-length, divided_length, Made-mapped, Made-into, Made-dot}

-- a positive multiple as a sum of what ps and the lineality vectors make, and what qs make
pub record IsSplit (n : ℕ) (ps qs lin : List (List ℤ)) (v : List ℤ) : Type 0 where
  pub k : ℤ
  pub k_positive : pos 0 <ℤ k
  pub p : List ℤ
  pub q : List ℤ
  pub of_p : Made n ps lin p
  pub of_q : Made n qs [] q
  pub sum : scaled k v ≡ vector_sum p q

pub split : (n : ℕ) (rays ps qs lin : List (List ℤ)) (v : List ℤ) → ((x : List ℤ) → Contains rays x → Contains ps x ⊎ Contains qs x) → Made n rays lin v →
    IsSplit n ps qs lin v
split n rays ps qs lin v f (nothing m rs ls) = record {
  k = pos 1;
  k_positive = omega (arith, ints);
  p = zeros m;
  q = zeros m;
  of_p = nothing m ps ls;
  of_q = nothing m qs [];
  sum = vsame (dn 1 ⊡ vz m) (vz m ⊞ vz m) (λ w. omega arith);
}
split n rays ps qs lin v f (ray m rs ls w l c) = elim (f w c) [
  | inl a ↦ record {
    k = pos 1;
    k_positive = omega (arith, ints);
    p = w;
    q = zeros m;
    of_p = ray m ps ls w l a;
    of_q = nothing m qs [];
    sum = vsame (dn 1 ⊡ vv w l) (vv w l ⊞ vz m) (λ w. omega arith);
  }
  | inr a ↦ record {
    k = pos 1;
    k_positive = omega (arith, ints);
    p = zeros m;
    q = w;
    of_p = nothing m ps ls;
    of_q = ray m qs [] w l a;
    sum = vsame (dn 1 ⊡ vv w l) (vz m ⊞ vv w l) (λ w. omega arith);
  }
]
split n rays ps qs lin v f (line m rs ls a u w l c e) =
    let lw : length w ≡ m = Made-length m rs ls w (line m rs ls a u w l c e) in
    record {
      k = pos 1;
      k_positive = omega (arith, ints);
      p = w;
      q = zeros m;
      of_p = line m ps ls a u w l c e;
      of_q = nothing m qs [];
      sum = vsame (dn 1 ⊡ vv w lw) (vv w lw ⊞ vz m) (λ w. omega arith);
    }
split n rays ps qs lin v f (summed m rs ls x y w e a b) =
    let s = split m rs ps qs ls x f a in let t = split m rs ps qs ls y f b in
    let k = s.k in let l = t.k in
    let lx = Made-length m rs ls x a in let ly = Made-length m rs ls y b in
    let ps_ = Made-length m ps ls s.p s.of_p in let pt = Made-length m ps ls t.p t.of_p in
    let qs_ = Made-length m qs [] s.q s.of_q in let qt = Made-length m qs [] t.q t.of_q in
    record {
      k = k *ℤ l;
      k_positive = 0<-*ℤ k l s.k_positive t.k_positive;
      p = vector_sum (scaled l s.p) (scaled k t.p);
      q = vector_sum (scaled l s.q) (scaled k t.q);
      of_p = summed m ps ls (scaled l s.p) (scaled k t.p) _ refl (multiplied m ps ls l s.p _ (omega (arith, ints, t.k_positive)) refl s.of_p)
          (multiplied m ps ls k t.p _ (omega (arith, ints, s.k_positive)) refl t.of_p);
      of_q = summed m qs [] (scaled l s.q) (scaled k t.q) _ refl (multiplied m qs [] l s.q _ (omega (arith, ints, t.k_positive)) refl s.of_q)
          (multiplied m qs [] k t.q _ (omega (arith, ints, s.k_positive)) refl t.of_q);
      sum = ap (scaled (k *ℤ l)) e
          ∙ vsame (dv k ⊗ dv l ⊡ (vv x lx ⊞ vv y ly)) (dv l ⊡ (dv k ⊡ vv x lx) ⊞ dv k ⊡ (dv l ⊡ vv y ly)) (λ w. omega arith)
          ∙ ap (λ z. vector_sum (scaled l z) (scaled k (scaled l y))) s.sum ∙ ap (λ z. vector_sum (scaled l (vector_sum s.p s.q)) (scaled k z)) t.sum
          ∙ vsame (dv l ⊡ (vv s.p ps_ ⊞ vv s.q qs_) ⊞ dv k ⊡ (vv t.p pt ⊞ vv t.q qt))
          (dv l ⊡ vv s.p ps_ ⊞ dv k ⊡ vv t.p pt ⊞ (dv l ⊡ vv s.q qs_ ⊞ dv k ⊡ vv t.q qt)) (λ w. omega arith);
    }
split n rays ps qs lin v f (multiplied m rs ls a x w g e b) =
    let s = split m rs ps qs ls x f b in let k = s.k in
    let lx = Made-length m rs ls x b in let lp = Made-length m ps ls s.p s.of_p in let lq = Made-length m qs [] s.q s.of_q in
    record {
      k = k;
      k_positive = s.k_positive;
      p = scaled a s.p;
      q = scaled a s.q;
      of_p = multiplied m ps ls a s.p _ g refl s.of_p;
      of_q = multiplied m qs [] a s.q _ g refl s.of_q;
      sum = ap (scaled k) e ∙ vsame (dv k ⊡ (dv a ⊡ vv x lx)) (dv a ⊡ (dv k ⊡ vv x lx)) (λ w. omega arith) ∙ ap (scaled a) s.sum
          ∙ vsame (dv a ⊡ (vv s.p lp ⊞ vv s.q lq)) (dv a ⊡ vv s.p lp ⊞ dv a ⊡ vv s.q lq) (λ w. omega arith);
    }
split n rays ps qs lin v f (divided m rs ls a x w g e b) =
    let s = split m rs ps qs ls w f b in let k = s.k in
    let lx = divided_length m rs ls a x w e b in
    record {
      k = k *ℤ a;
      k_positive = 0<-*ℤ k a s.k_positive g;
      p = s.p;
      q = s.q;
      of_p = s.of_p;
      of_q = s.of_q;
      sum = vsame (dv k ⊗ dv a ⊡ vv x lx) (dv k ⊡ (dv a ⊡ vv x lx)) (λ w. omega arith) ∙ ap (scaled k) e ∙ s.sum;
    }

-- where each pair of generators is made, each pair of what they make is
pub pairs : (n : ℕ) (ps qs lin next : List (List ℤ)) (h p q : List ℤ) → ((x : List ℤ) → Contains lin x → dot h x ≡ pos 0) →
    ((x : List ℤ) → Contains qs x → dot h x <ℤ pos 0) → ((x y : List ℤ) → length x ≡ n → length y ≡ n → Contains ps x → Contains qs y →
    Made n next lin (pair h x y)) → Made n ps lin p → Made n qs [] q → Made n next lin (pair h p q)
pairs n ps qs lin next h p q z s g a b =
    Made-mapped n ps lin next lin (λ x. pair h x q) p (pair_left_linear n h q (Made-length n qs [] q b))
    (λ x lx c. Made-mapped n qs [] next lin (λ y. pair h x y) q (pair_right_linear n h x lx) (λ y ly d. g x y lx ly c d) (λ k y ly d. absurd (none_in y d)) b)
    (λ k x lx c. let lq = Made-length n qs [] q b in
    line n next lin (k *ℤ neg_ℤ (dot h q)) x _ lx c (ap (λ t. scaled k (vector_sum (scaled t q) (scaled (neg_ℤ (dot h q)) x))) (z x c) ∙
    vsame (dv k ⊡ (dn 0 ⊡ vv q lq ⊞ dneg (by h (vv q lq)) ⊡ vv x lx)) (dv k ⊗ dneg (by h (vv q lq)) ⊡ vv x lx) (λ w. omega arith)))
    a

zeros_at : (n : ℕ) (h v : List ℤ) → v ≡ zeros n → dot h v ≡ pos 0
zeros_at n h v e = ap (dot h) e ∙ dot_comm h (zeros n) ∙ dot-zeros n h

-- a positive multiple is zero only at zero
pub zeros-cancel : (n : ℕ) (a : ℤ) (x : List ℤ) → length x ≡ n → pos 0 <ℤ a → scaled a x ≡ zeros n → x ≡ zeros n
zeros-cancel n a x l k e = vector_ext x (zeros n) (l ∙ sym (length-zeros n))
    (λ u. zero-cancel a (dot x u) k (sym (dot-times a x u) ∙ ap (λ z. dot z u) e ∙ dot-zeros n u) ∙ sym (dot-zeros n u))

-- what negative generators make is zero, or negative
pub negatives : (n : ℕ) (qs lin : List (List ℤ)) (h v : List ℤ) → ((x : List ℤ) → Contains qs x → dot h x <ℤ pos 0) → ((x : List ℤ) → Contains lin x → ⊥) →
    Made n qs lin v → (v ≡ zeros n) ⊎ (dot h v <ℤ pos 0)
negatives n qs lin h v s z (nothing m rs ls) = inl refl
negatives n qs lin h v s z (ray m rs ls w l c) = inr (s w c)
negatives n qs lin h v s z (line m rs ls a u w l c e) = absurd (z u c)
negatives n qs lin h v s z (summed m rs ls x y w e p q) =
    let d : dot h w ≡ dot h x +ℤ dot h y = ap (dot h) e ∙ dot-plus_right h x y (Made-length m rs ls x p ∙ sym (Made-length m rs ls y q)) in
    elim (negatives m rs ls h x s z p) [
      | inl a ↦ let i : dot h x ≡ pos 0 = zeros_at m h x a in elim (negatives m rs ls h y s z q) [
        | inl b ↦ inl (e ∙ ap (λ t. vector_sum t y) a ∙ ap (vector_sum (zeros m)) b ∙ vsame (vz m ⊞ vz m) (vz m) (λ u. omega arith))
        | inr b ↦ inr (omega (arith, ints))
      ]
      | inr a ↦ elim (negatives m rs ls h y s z q) [
        | inl b ↦ let j : dot h y ≡ pos 0 = zeros_at m h y b in inr (omega (arith, ints))
        | inr b ↦ inr (omega (arith, ints))
      ]
    ]
negatives n qs lin h v s z (multiplied m rs ls a x w k e p) =
    let lx : length x ≡ m = Made-length m rs ls x p in
    elim (sign_of a) [
      | negative g ↦ absurd (omega (arith, ints))
      | none g ↦ inl (e ∙ ap (λ t. scaled t x) g ∙ vsame (dn 0 ⊡ vv x lx) (vz m) (λ u. omega arith))
      | positive g ↦ elim (negatives m rs ls h x s z p) [
        | inl b ↦ inl (e ∙ ap (scaled a) b ∙ vsame (dv a ⊡ vz m) (vz m) (λ u. omega arith))
        | inr b ↦ inr (subst (λ t. t <ℤ pos 0) (sym (ap (dot h) e ∙ dot-times_right a h x)) (<0-*ℤ a (dot h x) g b))
      ]
    ]
negatives n qs lin h v s z (divided m rs ls a x w k e p) =
    elim (negatives m rs ls h w s z p) [
      | inl b ↦ inl (zeros-cancel m a x (divided_length m rs ls a x w e p) k (e ∙ b))
      | inr b ↦ inr (<0-cancel a (dot h x) k (subst (λ t. t <ℤ pos 0) (ap (dot h) (sym e) ∙ dot-times_right a h x) b))
    ]

-- the step where the inequality is zero on the lineality vectors
pub step_split : (n : ℕ) (rays ps qs lin next : List (List ℤ)) (h v : List ℤ) →
    ((x : List ℤ) → Contains rays x → Contains ps x ⊎ Contains qs x) → ((x : List ℤ) → Contains lin x → dot h x ≡ pos 0) →
    ((x : List ℤ) → Contains ps x → pos 0 ≤ℤ dot h x) → ((x : List ℤ) → Contains qs x → dot h x <ℤ pos 0) →
    ((x : List ℤ) → length x ≡ n → Contains ps x → Made n next lin x) →
    ((x y : List ℤ) → length x ≡ n → length y ≡ n → Contains ps x → Contains qs y → Made n next lin (pair h x y)) →
    Made n rays lin v → pos 0 ≤ℤ dot h v → Made n next lin v
step_split n rays ps qs lin next h v cover zero up down kept paired m t =
    let s = split n rays ps qs lin v cover m in
    let k = s.k in let p = s.p in let q = s.q in
    let lv : length v ≡ n = Made-length n rays lin v m in
    let lp : length p ≡ n = Made-length n ps lin p s.of_p in
    let lq : length q ≡ n = Made-length n qs [] q s.of_q in
    let in_p : Made n next lin p = Made-into n ps lin next lin p kept (λ a x l c. line n next lin a x (scaled a x) l c refl) s.of_p in
    let in_pair : Made n next lin (pair h p q) = pairs n ps qs lin next h p q zero down paired s.of_p s.of_q in
    let hp : pos 0 ≤ℤ dot h p = Made-dot n ps lin h p up zero s.of_p in
    let hv : k *ℤ dot h v ≡ dot h p +ℤ dot h q = sym (dot-times_right k h v) ∙ ap (dot h) s.sum ∙ dot-plus_right h p q (lp ∙ sym lq) in
    let kv : pos 0 ≤ℤ (k *ℤ dot h v) = 0≤-*ℤ k (dot h v) (omega (arith, ints, s.k_positive)) t in
    let e : scaled (dot h p) (scaled k v) ≡ vector_sum (scaled (dot h p +ℤ dot h q) p) (pair h p q) =
    ap (scaled (dot h p)) s.sum ∙ vsame (by h (vv p lp) ⊡ (vv p lp ⊞ vv q lq)) ((by h (vv p lp) ⊕ by h (vv q lq)) ⊡ vv p lp ⊞ vpair h (vv p lp) (vv q lq))
    (λ w. omega arith) in
    elim (sign_of (dot h p)) [
      | negative g ↦ absurd (omega (arith, ints))
      | none g ↦ elim (negatives n qs [] h q down (λ x c. none_in x c) s.of_q) [
        | inl b ↦ divided n next lin k v (scaled k v) s.k_positive refl
            (subst (Made n next lin) (sym (s.sum ∙ ap (vector_sum p) b ∙ vsame (vv p lp ⊞ vz n) (vv p lp) (λ w. omega arith))) in_p)
        | inr b ↦ absurd (omega (arith, ints))
      ]
      | positive g ↦ divided n next lin k v (scaled k v) s.k_positive refl (divided n next lin (dot h p) (scaled k v) _ g e
          (summed n next lin _ _ _ refl (multiplied n next lin (dot h p +ℤ dot h q) p _ (omega (arith, ints)) refl in_p) in_pair))
    ]

-- the step where it is positive on a vector l of which all multiples were generated
pub step_line : (n : ℕ) (rays lin next lines : List (List ℤ)) (h l v : List ℤ) → length l ≡ n → pos 0 <ℤ dot h l → Made n next lines l →
    ((x : List ℤ) → length x ≡ n → Contains rays x → Made n next lines (pair h l x)) →
    ((a : ℤ) (x : List ℤ) → length x ≡ n → Contains lin x → Made n next lines (scaled a (pair h l x))) →
    Made n rays lin v → pos 0 ≤ℤ dot h v → Made n next lines v
step_line n rays lin next lines h l v ll g ml f k m t =
    let lv : length v ≡ n = Made-length n rays lin v m in
    let mapped : Made n next lines (pair h l v) = Made-mapped n rays lin next lines (pair h l) v (pair_right_linear n h l ll) f k m in
    divided n next lines (dot h l) v _ g (vsame (by h (vv l ll) ⊡ vv v lv) (vpair h (vv l ll) (vv v lv) ⊞ by h (vv v lv) ⊡ vv l ll) (λ w. omega arith))
    (summed n next lines _ _ _ refl mapped (multiplied n next lines (dot h v) l _ t refl ml))

-- the step of an equation that is not zero on l
pub step_equation : (n : ℕ) (rays lin next lines : List (List ℤ)) (h l v : List ℤ) → length l ≡ n → pos 0 <ℤ dot h l →
    ((x : List ℤ) → length x ≡ n → Contains rays x → Made n next lines (pair h l x)) →
    ((a : ℤ) (x : List ℤ) → length x ≡ n → Contains lin x → Made n next lines (scaled a (pair h l x))) →
    Made n rays lin v → dot h v ≡ pos 0 → Made n next lines v
step_equation n rays lin next lines h l v ll g f k m t =
    let lv : length v ≡ n = Made-length n rays lin v m in
    divided n next lines (dot h l) v _ g
    (vsame (by h (vv l ll) ⊡ vv v lv) (by h (vv l ll) ⊡ vv v lv ⊞ dneg (dn 0) ⊡ vv l ll) (λ w. omega arith) ∙
    ap (λ z. vector_sum (scaled (dot h l) v) (scaled (neg_ℤ z) l)) (sym t))
    (Made-mapped n rays lin next lines (pair h l) v (pair_right_linear n h l ll) f k m)
