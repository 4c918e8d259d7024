-- Each facet row of a full-dimensional cone has a witness: the sum of the rays on which it is zero.
use Rattle.std.proofs.Common.{◌≡◌, ℕ, List, [], ◌∷◌, length, ℤ, pos, neg_ℤ, ◌<ℤ◌, ◌≤ℤ◌, arith, sym, refl, ap, ◌∙◌, subst, Contains, inl, inr}
use Rattle.std.proofs.lemmas.Int.{ints}
use Rattle.std.proofs.lemmas.List.Elements.{All-contains}
use Rattle.gf_int_theory.specs.Content.{AllZero, IsPrimitive, scaled}
use Rattle.gf_int_theory.proofs.RingLaws.{same, dv, dn, dneg, ◌⊗◌, ◌⊕◌}
use Rattle.gf_int_theory.proofs.SignLaws.{sign_of, negative, none, positive}
use Rattle.gf_int_theory.proofs.ListLaws.{Contains-here}
use Rattle.gf_vec.specs.Vector.{dot, vector_sum, zeros}
use Rattle.gf_duality_theory.specs.Generators.{Made, AreValid}
use Rattle.gf_duality_theory.specs.Faces.{IsInCone, IsFacetRow, sum_of, IsWitness, IsOfFullDimension, cone_of}
use Rattle.gf_duality_theory.proofs.ListLaws.{none_in, in_cons}
use Rattle.gf_vec.proofs.DotLaws.{own_zero, own_not_negative}
use Rattle.gf_vec.proofs.VectorIdentities.{vv, vz, ◌⊞◌, ◌⊡◌, by, vsame}
use Rattle.gf_duality_theory.proofs.Made.{Made-dot_zero}
use Rattle.gf_duality_theory.proofs.RaySums.{sum_made, sum_long, sum_zero}
use Rattle.gf_vec.proofs.PrimitiveLaws.{primitive_same}
use Rattle.gf_duality_theory.proofs.Determined.{described_of}
use Rattle.gf_duality_theory.proofs.Interior.{some_above, sum_in}
use Rattle.gf_duality_theory.proofs.Uniqueness.{face_made}
use Rattle.gf_duality_theory.proofs.FacetRows.{Part, AreParallel, never_below, full_in, made_in, in_cone}

all_zero_value : (h x : List ℤ) → AllZero h → dot h x ≡ pos 0
all_zero_value [] x z = refl
all_zero_value (a ∷ h) [] z = refl
all_zero_value (a ∷ h) (b ∷ x) z = rw (z.0, all_zero_value h x z.1) (omega (arith, ints))

-- such rows are on one line
parallel_same : (n : ℕ) (rows : List (List ℤ)) (t v r s : List ℤ) → AreParallel n rows t v r → Contains rows s → dot s v ≡ pos 0 → length t ≡ n → length s ≡ n →
    IsPrimitive t → IsPrimitive s → (AllZero t → ⊥) → s ≡ t
parallel_same n rows t v r s p cs zs lt ls pt ps nz =
    let a : ℤ = dot t r in let b : ℤ = dot s r in
    let sr = p.up s cs zs in
    let f : List ℤ = vector_sum (scaled a s) (scaled (neg_ℤ b) t) in
    let vf = dv a ⊡ vv s ls ⊞ dneg (dv b) ⊡ vv t lt in
    let lf : length f ≡ n = vf.long in
    let tf : ℤ = dot t f in
    let x : List ℤ = vector_sum (scaled tf r) (scaled (neg_ℤ a) f) in
    let lx : length x ≡ n = (dv tf ⊡ vv r p.r_width ⊞ dneg (dv a) ⊡ vv f lf).long in
    let tx : dot t x ≡ pos 0 = same (by t (dv tf ⊡ vv r p.r_width ⊞ dneg (dv a) ⊡ vv f lf)) (dv tf ⊗ by t (vv r p.r_width) ⊕ dneg (dv a ⊗ by t (vv f lf)))
    (omega arith) ∙ same (dv tf ⊗ dv a ⊕ dneg (dv a ⊗ dv tf)) (dn 0) (omega arith) in
    let sx : dot s x ≡ neg_ℤ (dot f f) =
    same (by s (dv tf ⊡ vv r p.r_width ⊞ dneg (dv a) ⊡ vv f lf)) (dv tf ⊗ by s (vv r p.r_width) ⊕ dneg (dv a ⊗ by s (vv f lf))) (omega arith)
    ∙ same (dv tf ⊗ dv b ⊕ dneg (dv a ⊗ dv (dot s f))) (dneg (dv a ⊗ dv (dot s f) ⊕ dneg (dv b) ⊗ dv tf)) (omega arith)
    ∙ ap neg_ℤ (sym (same (vf.on f) (dv a ⊗ dv (dot s f) ⊕ dneg (dv b) ⊗ dv (dot t f)) (omega arith))) in
    let own = own_not_negative f in
    elim (sign_of (dot f f)) [
      | positive g ↦ absurd (never_below n rows t v r s x p cs zs lx tx (omega (arith, ints, sx, g)))
      | negative g ↦ absurd (omega (arith, ints, own, g))
      | none g ↦
          let fz : f ≡ zeros n = own_zero f g ∙ ap zeros lf in
          let crosswise : scaled a s ≡ scaled b t =
          vsame (dv a ⊡ vv s ls) ((dv a ⊡ vv s ls ⊞ dneg (dv b) ⊡ vv t lt) ⊞ dv b ⊡ vv t lt) (λ w. omega arith) ∙ ap (λ z. vector_sum z (scaled b t)) fz ∙
          vsame (vz n ⊞ dv b ⊡ vv t lt) (dv b ⊡ vv t lt) (λ w. omega arith) in
          primitive_same t s a b p.t_up sr crosswise pt ps nz
    ]

pub facet_witness : (n : ℕ) (rows lin rays : List (List ℤ)) (w t : List ℤ) (p : Part rays t) → IsOfFullDimension n rows lin rays w →
    IsFacetRow n (cone_of rows) t → IsWitness n rows t (sum_of n p.part)
facet_witness n rows lin rays w t p f c =
    let ct : Contains rows t = c.listed in
    let d = described_of n rows [] lin rays f.are_rays in
    let part : List (List ℤ) = p.part in
    let v : List ℤ = sum_of n part in
    let wp : (x : List ℤ) → Contains part x → length x ≡ n = λ x k. d.rays_width x (p.of_part x k).0 in
    let lv : length v ≡ n = sum_long n part wp in
    let v_in : (h : List ℤ) → Contains rows h → pos 0 ≤ℤ dot h v =
    λ h k. All-contains (λ q. pos 0 ≤ℤ dot q v) rows h (sum_in n rows [] lin rays part d (λ x i. (p.of_part x i).0)).not_negative k in
    let tv : dot t v ≡ pos 0 = Made-dot_zero n part [] t v (λ x k. (p.of_part x k).1) (λ x k. absurd (none_in x k)) (sum_made n part [] part wp (λ x k. k)) in
    let up_t : (x : List ℤ) → Contains rays x → pos 0 ≤ℤ dot t x = λ x k. d.valid.up t x ct k in
    let flat_t : (x : List ℤ) → Contains lin x → dot t x ≡ pos 0 = λ x k. d.valid.flat t x ct k in
    let one : AreValid (t ∷ []) rays lin = record {
      up = λ h x k i. elim (in_cons t [] h k) [ inl e ↦ subst (λ (q : List ℤ). pos 0 ≤ℤ dot q x) (sym e) (up_t x i) | inr j ↦ absurd (none_in h j) ];
      flat = λ h x k i. elim (in_cons t [] h k) [ inl e ↦ subst (λ (q : List ℤ). dot q x ≡ pos 0) (sym e) (flat_t x i) | inr j ↦ absurd (none_in h j) ];
    } in
    let of_part : (y : List ℤ) → length y ≡ n → IsInCone (cone_of rows) y → dot t y ≡ pos 0 → Made n part lin y = λ y ly iy zy.
    face_made n (t ∷ []) rays part lin v y one (λ x k z. p.all x k (z t (Contains-here t []) tv)) (made_in n rows lin rays y d ly iy)
    (λ h k z. elim (in_cons t [] h k) [ inl e ↦ ap (λ (q : List ℤ). dot q y) e ∙ zy | inr j ↦ absurd (none_in h j) ]) in
    let back : (h y : List ℤ) → Contains rows h → dot h v ≡ pos 0 → length y ≡ n → IsInCone (cone_of rows) y → dot h y ≡ pos 0 → dot t y ≡ pos 0 =
    λ h y k z ly iy zy.
    c.greatest h w k f.width (full_in n rows lin rays w f) (f.inside h k)
    (λ q lq iq zq. Made-dot_zero n part lin h q (λ x i. sum_zero n part h x wp (λ u j. d.valid.up h u k (p.of_part u j).0) z i) (λ x i. d.valid.flat h x k i)
    (of_part q lq iq zq)) y ly iy zy in
    let r : (x : List ℤ) × (Contains rays x × (pos 0 <ℤ dot t x)) = elim (some_above rays t up_t) [
      | inl a ↦ a
      | inr z ↦
          let tw : dot t w ≡ pos 0 = Made-dot_zero n rays lin t w z flat_t (made_in n rows lin rays w d f.width (full_in n rows lin rays w f)) in
          let g = f.inside t ct in absurd (omega (arith, ints, tw, g))
    ] in
    let ray_in : IsInCone (cone_of rows) r.0 = in_cone rows r.0 (λ h k. d.valid.up h r.0 k r.1.0) in
    let lr : length r.0 ≡ n = d.rays_width r.0 r.1.0 in
    let q : AreParallel n rows t v r.0 = record {
      v_width = lv;
      r_width = lr;
      v_in = v_in;
      t_zero = tv;
      t_up = r.1.1;
      up = λ h k z. elim (sign_of (dot h r.0)) [
        | positive g ↦ g
        | none g ↦ let e = back h r.0 k z lr ray_in g in let u = r.1.1 in absurd (omega (arith, ints, e, u))
        | negative g ↦ let u = d.valid.up h r.0 k r.1.0 in absurd (omega (arith, ints, g, u))
      ];
      back = λ h y k z ly up zy. back h y k z ly (in_cone rows y up) zy;
    } in
    let lt : (h : List ℤ) → Contains rows h → length h ≡ n = λ h k. All-contains (λ q. length q ≡ n) rows h f.rows_width k in
    let nz : AllZero t → ⊥ = λ z. let e : dot t w ≡ pos 0 = all_zero_value t w z in let g = f.inside t ct in omega (arith, ints, e, g) in
    record {
      width = lv;
      zero = tv;
      others = λ b k. elim (sign_of (dot b v)) [
        | positive g ↦ inr g
        | negative g ↦ let u = v_in b k in absurd (omega (arith, ints, g, u))
        | none g ↦ inl (parallel_same n rows t v r.0 b q k g (lt t ct) (lt b k) (All-contains IsPrimitive rows t f.primitive ct)
            (All-contains IsPrimitive rows b f.primitive k) nz)
      ];
    }
