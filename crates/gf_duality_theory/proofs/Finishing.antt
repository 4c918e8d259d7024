-- From the state after all inequalities to what the rays of a cone are.
use Rattle.gf_duality_theory.proofs.ListLaws.{none_in, of_rest}
use Rattle.gf_duality_theory.specs.Generators.{IsDescribed, Made, nothing, ray, line, summed, multiplied, divided, AreValid}
use Rattle.std.proofs.Common.{◌≡◌, ◌≢◌, ℕ, ◌<◌, List, [], length, ℤ, pos, ◌+ℤ◌, ◌*ℤ◌, ◌<ℤ◌, ◌≤ℤ◌, arith, sym, ap, ◌∙◌, subst, Contains, remove, get_or, All}
use Rattle.std.proofs.Common.{AllPairs}
use Rattle.std.specs.Ordering.{int_cmp}
use Rattle.std.specs.Cmp.Lexicographic.{slice_cmp}
use Rattle.std.specs.declared.cmp.Ordering.TheVariants.{Less}
use Rattle.std.proofs.lemmas.Int.{ints}
use Rattle.std.proofs.lemmas.List.Elements.{All-contains}
use Rattle.gf_int_theory.specs.Content.{scaled, IsPrimitive}
use Rattle.gf_vec.specs.Vector.{dot}
use Rattle.gf_int_theory.proofs.RingLaws.{dn}
use Rattle.gf_gordan.specs.Alternative.{AreRows}
use Rattle.gf_vec.proofs.DotLaws.{dot-plus_right, dot-times_right}
use Rattle.gf_duality_theory.specs.Rays.{IsEchelon, IsRays}
use Rattle.gf_vec.proofs.VectorIdentities.{vv, vz, ◌⊡◌, vsame}
use Rattle.gf_int_theory.proofs.SignLaws.{sign_of, negative, none, positive, zero-cancel}
use Rattle.gf_int_theory.proofs.ListLaws.{all_by}
use Rattle.gf_duality_theory.proofs.Made.{Made-length, Made-into, Made-dot, Made-dot_zero, span-times, span-made}
use Rattle.gf_duality_theory.proofs.Taking.{IsFlat, ZeroWhere}
use Rattle.gf_duality_theory.proofs.Described.{minimal}
use Rattle.gf_duality_theory.proofs.Orthogonal.{Basis, orthogonal_all}
use Rattle.gf_duality_theory.proofs.Generated.{made-generated, generated-made}
use Rattle.gf_duality_theory.proofs.Echelon.{SameSpan}
use Rattle.gf_duality_theory.proofs.EchelonUnique.{no_widths}

-- what is made and lineal is made of the lineality vectors alone
pub flat_made : (n : ℕ) (hs rays lin : List (List ℤ)) (v : List ℤ) → AreValid hs rays lin →
    ((x : List ℤ) → Contains rays x → (h : List ℤ) × (Contains hs h × (pos 0 <ℤ dot h x))) → Made n rays lin v → IsFlat hs v → Made n [] lin v
flat_made n hs rays lin v va pt (nothing m rs ls) f = nothing m [] ls
flat_made n hs rays lin v va pt (ray m rs ls w l c) f = let p = pt w c in let z : dot p.0 w ≡ pos 0 = f p.0 p.1.0 in let u : pos 0 <ℤ dot p.0 w =
    p.1.1 in absurd (omega (arith, ints))
flat_made n hs rays lin v va pt (line m rs ls a u w l c e) f = line m [] ls a u w l c e
flat_made n hs rays lin v va pt (summed m rs ls x y w e p q) f =
    let d : (h : List ℤ) → dot h w ≡ dot h x +ℤ dot h y = λ h. ap (dot h) e ∙ dot-plus_right h x y (Made-length m rs ls x p ∙ sym (Made-length m rs ls y q)) in
    let px : (h : List ℤ) → Contains hs h → pos 0 ≤ℤ dot h x = λ h c. Made-dot m rs ls h x (λ z k. va.up h z c k) (λ z k. va.flat h z c k) p in
    let py : (h : List ℤ) → Contains hs h → pos 0 ≤ℤ dot h y = λ h c. Made-dot m rs ls h y (λ z k. va.up h z c k) (λ z k. va.flat h z c k) q in
    summed m [] ls x y w e (flat_made m hs rs ls x va pt p (λ h c. omega (arith, ints, d h, px h c, py h c, f h c)))
    (flat_made m hs rs ls y va pt q (λ h c. omega (arith, ints, d h, px h c, py h c, f h c)))
flat_made n hs rays lin v va pt (multiplied m rs ls a x w k e p) f =
    let lx : length x ≡ m = Made-length m rs ls x p in
    elim (sign_of a) [
      | negative g ↦ absurd (omega (arith, ints))
      | none g ↦ subst (Made m [] ls) (sym (e ∙ ap (λ t. scaled t x) g ∙ vsame (dn 0 ⊡ vv x lx) (vz m) (λ u. omega arith))) (nothing m [] ls)
      | positive g ↦ multiplied m [] ls a x w k e (flat_made m hs rs ls x va pt p
          (λ h c. zero-cancel a (dot h x) g (sym (ap (dot h) e ∙ dot-times_right a h x) ∙ f h c)))
    ]
flat_made n hs rays lin v va pt (divided m rs ls a x w k e p) f =
    divided m [] ls a x w k e (flat_made m hs rs ls w va pt p (λ h c. ap (dot h) (sym e) ∙ dot-times_right a h x ∙ ap (λ t. a *ℤ t) (f h c) ∙ omega (
      arith,
      ints,
    )))

pub finish : (n : ℕ) (hs es lin rays ech out : List (List ℤ)) → IsDescribed n hs es lin rays → SameSpan n lin ech → IsEchelon ech → Basis n lin out →
    ((r y : List ℤ) → Contains rays r → Contains out y → dot r y ≡ pos 0) → All IsPrimitive rays → AllPairs (λ x y. slice_cmp int_cmp x y ≡ Less) rays →
    ((i j : ℕ) → i < length rays → j < length rays → i ≢ j → ZeroWhere hs (get_or rays i []) (get_or rays j []) → ⊥) → IsRays n hs es ech rays
finish n hs es lin rays ech out d s e b orth prim asc none_within =
    let lw : AreRows n ech = all_by (λ x. length x ≡ n) ech s.width in
    let rw_ : AreRows n rays = all_by (λ x. length x ≡ n) rays d.rays_width in
    let to_ech : (v : List ℤ) → Made n [] lin v → Made n [] ech v =
    λ v m. Made-into n [] lin [] ech v (λ x l c. absurd (none_in x c)) (λ a x l c. span-times n ech a x (s.to x c)) m in
    let to_lin : (v : List ℤ) → Made n [] ech v → Made n [] lin v =
    λ v m. Made-into n [] ech [] lin v (λ x l c. absurd (none_in x c)) (λ a x l c. span-times n lin a x (s.from x c)) m in
    let lin_of : (rs : List (List ℤ)) (v : List ℤ) → Made n rs ech v → Made n rs lin v =
    λ rs v m. Made-into n rs ech rs lin v (λ x l c. ray n rs lin x l c) (λ a x l c. span-made n rs lin _ (span-times n lin a x (s.from x c))) m in
    let ech_of : (rs : List (List ℤ)) (v : List ℤ) → Made n rs lin v → Made n rs ech v =
    λ rs v m. Made-into n rs lin rs ech v (λ x l c. ray n rs ech x l c) (λ a x l c. span-made n rs ech _ (span-times n ech a x (s.to x c))) m in
    record {
      lin_width = lw;
      echelon = e;
      spans = λ v lv. (
        (λ f. made-generated n [] ech v (no_widths n) lw (to_ech v (flat_made n hs rays lin v d.valid d.pointed
            (d.complete v lv (λ h c. let z : dot h v ≡ pos 0 = All-contains (λ k. dot k v ≡ pos 0) hs h f.flat c in omega (arith, ints)) (λ k c. All-contains
            (λ k. dot k v ≡ pos 0) es k f.zero c))
            (λ h c. All-contains (λ k. dot k v ≡ pos 0) hs h f.flat c)))),
        (λ g. let m = to_lin v (generated-made n [] ech v (no_widths n) lw g) in record {
          flat = all_by (λ h. dot h v ≡ pos 0) hs (λ h c. Made-dot_zero n [] lin h v (λ x i. absurd (none_in x i)) (λ x i. d.valid.flat h x c i) m);
          zero = all_by (λ k. dot k v ≡ pos 0) es (λ k c. Made-dot_zero n [] lin k v (λ x i. absurd (none_in x i)) (λ x i. d.lin_solves k x c i) m);
        }),
      );
      rays_width = rw_;
      ascending = asc;
      primitive = prim;
      orthogonal = all_by (λ r. All (λ l. dot r l ≡ pos 0) ech) rays
          (λ r c. all_by (λ l. dot r l ≡ pos 0) ech (λ l k. Made-dot_zero n [] lin r l (λ x i. absurd (none_in x i))
          (λ x i. orthogonal_all n lin out r x b (λ y j. orth r y c j) i) (s.from l k)));
      generates = λ v lv. (
        (λ f. made-generated n rays ech v rw_ lw (ech_of rays v (d.complete v lv (λ h c. All-contains (λ k. pos 0 ≤ℤ dot k v) hs h f.not_negative c)
            (λ k c. All-contains (λ k. dot k v ≡ pos 0) es k f.zero c)))),
        (λ g. let m = lin_of rays v (generated-made n rays ech v rw_ lw g) in record {
          not_negative = all_by (λ h. pos 0 ≤ℤ dot h v) hs (λ h c. Made-dot n rays lin h v (λ x i. d.valid.up h x c i) (λ x i. d.valid.flat h x c i) m);
          zero = all_by (λ k. dot k v ≡ pos 0) es (λ k c. Made-dot_zero n rays lin k v (λ x i. d.solves k x c i) (λ x i. d.lin_solves k x c i) m);
        }),
      );
      minimal = λ i hi g.
          let rest_width : AreRows n (remove rays i) = all_by (λ x. length x ≡ n) (remove rays i) (λ x c. d.rays_width x (of_rest rays i x hi c)) in
          minimal n hs es lin rays i d hi (λ j hj ne z. none_within i j hi hj ne z)
          (lin_of (remove rays i) (get_or rays i []) (generated-made n (remove rays i) ech (get_or rays i []) rest_width lw g));
    }
