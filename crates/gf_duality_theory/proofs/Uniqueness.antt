-- The part of a cone on which the rows that are zero on a vector are zero, and that the rays are determined.
use Rattle.gf_duality_theory.proofs.ListLaws.{none_in, in_cons}
use Rattle.gf_duality_theory.specs.Generators.{IsDescribed, Made, nothing, ray, line, summed, multiplied, divided, AreValid}
use Rattle.std.proofs.Common.{◌≡◌, ℕ, List, [], ◌∷◌, length, ℤ, pos, ◌+ℤ◌, ◌*ℤ◌, ◌<ℤ◌, ◌≤ℤ◌, arith, sym, refl, ap, ◌∙◌, subst, Contains, inl, inr}
use Rattle.std.proofs.lemmas.Int.{ints}
use Rattle.gf_int_theory.specs.Content.{scaled}
use Rattle.gf_vec.specs.Vector.{dot, vector_sum, zeros}
use Rattle.gf_int_theory.proofs.RingLaws.{same, dv, dn, ◌⊕◌, ◌⊗◌}
use Rattle.gf_int_theory.proofs.SignLaws.{0<-*ℤ, sign_of, negative, none, positive, zero-cancel}
use Rattle.gf_vec.proofs.VectorLaws.{dot_comm}
use Rattle.gf_vec.proofs.DotLaws.{own_zero, dot-plus_right, dot-times_right}
use Rattle.gf_vec.proofs.VectorIdentities.{vv, vz, ◌⊞◌, ◌⊡◌, by, vsame}
use Rattle.gf_duality_theory.proofs.Made.{Made-length, Made-dot, Made-dot_zero}
use Rattle.gf_duality_theory.proofs.Stepping.{split}
use Rattle.gf_duality_theory.proofs.Taking.{ZeroWhere, dominated, single, IsMultiple}

-- what is made and zero where r is, is made of the rays that are
pub face_made : (n : ℕ) (hs rays part lin : List (List ℤ)) (r v : List ℤ) → AreValid hs rays lin → ((x : List ℤ) → Contains rays x → ZeroWhere hs r x →
    Contains part x) → Made n rays lin v → ZeroWhere hs r v → Made n part lin v
face_made n hs rays part lin r v va pt (nothing m rs ls) f = nothing m part ls
face_made n hs rays part lin r v va pt (ray m rs ls w l c) f = ray m part ls w l (pt w c f)
face_made n hs rays part lin r v va pt (line m rs ls a u w l c e) f = line m part ls a u w l c e
face_made n hs rays part lin r v va pt (summed m rs ls x y w e p q) f =
    let d : (h : List ℤ) → dot h w ≡ dot h x +ℤ dot h y = λ h. ap (dot h) e ∙ dot-plus_right h x y (Made-length m rs ls x p ∙ sym (Made-length m rs ls y q)) in
    let px : (h : List ℤ) → Contains hs h → pos 0 ≤ℤ dot h x = λ h c. Made-dot m rs ls h x (λ z k. va.up h z c k) (λ z k. va.flat h z c k) p in
    let py : (h : List ℤ) → Contains hs h → pos 0 ≤ℤ dot h y = λ h c. Made-dot m rs ls h y (λ z k. va.up h z c k) (λ z k. va.flat h z c k) q in
    summed m part ls x y w e (face_made m hs rs part ls r x va pt p (λ h c z. omega (arith, ints, d h, px h c, py h c, f h c z)))
    (face_made m hs rs part ls r y va pt q (λ h c z. omega (arith, ints, d h, px h c, py h c, f h c z)))
face_made n hs rays part lin r v va pt (multiplied m rs ls a x w k e p) f =
    let lx : length x ≡ m = Made-length m rs ls x p in
    elim (sign_of a) [
      | negative g ↦ absurd (omega (arith, ints))
      | none g ↦ subst (Made m part ls) (sym (e ∙ ap (λ t. scaled t x) g ∙ vsame (dn 0 ⊡ vv x lx) (vz m) (λ u. omega arith))) (nothing m part ls)
      | positive g ↦ multiplied m part ls a x w k e (face_made m hs rs part ls r x va pt p
          (λ h c z. zero-cancel a (dot h x) g (sym (ap (dot h) e ∙ dot-times_right a h x) ∙ f h c z)))
    ]
face_made n hs rays part lin r v va pt (divided m rs ls a x w k e p) f =
    divided m part ls a x w k e (face_made m hs rs part ls r w va pt p (λ h c z. ap (dot h) (sym e) ∙ dot-times_right a h x ∙ ap (λ t. a *ℤ t) (f h c z) ∙
    omega (arith, ints)))

zero_index : (r : List ℤ) → Contains (r ∷ []) r
zero_index r = (0, omega arith, refl)

settle : (m a l x y z : ℤ) → x ≡ pos 0 → y ≡ pos 0 → m *ℤ x ≡ l *ℤ z +ℤ a *ℤ y → l *ℤ z ≡ pos 0
settle m a l x y z ex ey h =
    let e : m *ℤ x ≡ pos 0 = rw ex (omega (arith, ints)) in let f : a *ℤ y ≡ pos 0 = rw ey (omega (arith, ints)) in omega (arith, ints)

-- a ray of the one description is, up to a multiple, a ray of the other
pub matched : (n : ℕ) (hs es lin rays lin_other others : List (List ℤ)) (r : List ℤ) → IsDescribed n hs es lin rays → IsDescribed n hs es lin_other others →
    Contains rays r → ((x : List ℤ) → Contains rays x → ZeroWhere hs r x → x ≡ r) → ((x y : List ℤ) → Contains rays x → Contains lin y → dot x y ≡ pos 0) →
    ((x y : List ℤ) → Contains others x → Contains lin y → dot x y ≡ pos 0) → (s : List ℤ) × (Contains others s × IsMultiple r s)
matched n hs es lin rays lin_other others r d e cr alone orth orth_other =
    let lr : length r ≡ n = d.rays_width r cr in
    elim (dominated n hs others lin_other r e.valid (e.complete r lr (λ h c. d.valid.up h r c cr) (λ k c. d.solves k r c cr))) [
      | inl f ↦ let p = d.pointed r cr in let z : dot p.0 r ≡ pos 0 = f p.0 p.1.0 in let u : pos 0 <ℤ dot p.0 r = p.1.1 in absurd (omega (arith, ints))
      | inr w ↦
          let s : List ℤ = w.0 in let cs = w.1.0 in
          let ls : length s ≡ n = e.rays_width s cs in
          let m : Made n (r ∷ []) lin s = face_made n hs rays (r ∷ []) lin r s d.valid (λ x c z. subst (Contains (r ∷ [])) (sym (alone x c z)) (zero_index r))
          (d.complete s ls (λ h c. e.valid.up h s c cs) (λ k c. e.solves k s c cs)) w.1.1 in
          let t = split n (r ∷ []) [] (r ∷ []) lin s (λ x c. inr c) m in
          let q = single n (r ∷ []) [] r t.q lr (λ z c. elim (in_cons r [] z c) [ inl i ↦ i | inr j ↦ absurd (none_in z j) ]) (λ z c. none_in z c) t.of_q in
          let p = t.p in let lp : length p ≡ n = Made-length n [] lin p t.of_p in
          let lq : length t.q ≡ n = Made-length n (r ∷ []) [] t.q t.of_q in
          let pr : dot p r ≡ pos 0 = dot_comm p r ∙ Made-dot_zero n [] lin r p (λ x c. absurd (none_in x c)) (λ y c. orth r y cr c) t.of_p in
          let ps : dot p s ≡ pos 0 = dot_comm p s ∙ Made-dot_zero n [] lin s p (λ x c. absurd (none_in x c)) (λ y c. orth_other s y cs c) t.of_p in
          let k = t.k in let l = q.k in let a = q.a in
          let sum : scaled (l *ℤ k) s ≡ vector_sum (scaled l p) (scaled a r) =
          vsame (dv l ⊗ dv k ⊡ vv s ls) (dv l ⊡ (dv k ⊡ vv s ls)) (λ u. omega arith) ∙ ap (scaled l) t.sum ∙ vsame (dv l ⊡ (vv p lp ⊞ vv t.q lq))
          (dv l ⊡ vv p lp ⊞ dv l ⊡ vv t.q lq) (λ u. omega arith) ∙ ap (vector_sum (scaled l p)) q.is in
          let value : l *ℤ k *ℤ dot p s ≡ l *ℤ dot p p +ℤ a *ℤ dot p r = sym (dot-times_right (l *ℤ k) p s) ∙ ap (dot p) sum ∙
          same (by p (dv l ⊡ vv p lp ⊞ dv a ⊡ vv r lr)) (dv l ⊗ by p (vv p lp) ⊕ dv a ⊗ by p (vv r lr)) (omega arith) in
          let zero : l *ℤ dot p p ≡ pos 0 = settle (l *ℤ k) a l (dot p s) (dot p r) (dot p p) ps pr value in
          let pz : p ≡ zeros n = own_zero p (zero-cancel l (dot p p) q.k_positive zero) ∙ ap zeros lp in (
            s,
            (
              cs,
              record {
                k = l *ℤ k;
                k_positive = 0<-*ℤ l k q.k_positive t.k_positive;
                a = a;
                a_fits = q.a_fits;
                is = sum ∙ ap (λ z. vector_sum (scaled l z) (scaled a r)) pz ∙ vsame (dv l ⊡ vz n ⊞ dv a ⊡ vv r lr) (dv a ⊡ vv r lr) (λ u. omega arith);
              },
            ),
          )
    ]
