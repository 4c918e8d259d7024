-- Sums of rays as weights and as witnesses.
use Rattle.std.proofs.Common.{◌≡◌, ℕ, List, [], ◌∷◌, length, ℤ, pos, ◌<ℤ◌, ◌≤ℤ◌, arith, sym, ap, ◌∙◌, subst, Contains, ◌⊎◌, inl, inr}
use Rattle.std.proofs.lemmas.Int.{ints}
use Rattle.std.proofs.lemmas.List.Elements.{All-contains}
use Rattle.gf_int_theory.proofs.SignLaws.{sign_of, negative, none, positive, not_negative}
use Rattle.gf_int_theory.proofs.ListLaws.{Contains-here}
use Rattle.gf_vec.specs.Vector.{dot}
use Rattle.gf_duality_theory.specs.Generators.{Made, IsDescribed, AreValid}
use Rattle.gf_duality_theory.specs.Rays.{IsRays, Satisfies}
use Rattle.gf_duality_theory.specs.Faces.{IsInCone, sum_of, IsWitness, cone_of}
use Rattle.gf_duality_theory.proofs.ListLaws.{none_in, in_cons}
use Rattle.gf_duality_theory.proofs.Made.{Made-dot, Made-dot_zero}
use Rattle.gf_duality_theory.proofs.RaySums.{sum_made, sum_long, sum_zero}
use Rattle.gf_duality_theory.proofs.Determined.{described_of}
use Rattle.gf_duality_theory.proofs.Interior.{interior}
use Rattle.gf_duality_theory.proofs.Uniqueness.{face_made}
use Rattle.gf_duality_theory.proofs.FacetRows.{Part, part_of, in_cone, made_in}

-- where some vector is positive on all rows, the sum of the rays is
pub sum_positive : (n : ℕ) (rows lin rays : List (List ℤ)) (w h : List ℤ) → IsRays n rows [] lin rays → length w ≡ n →
    ((k : List ℤ) → Contains rows k → pos 0 <ℤ dot k w) → Contains rows h → pos 0 <ℤ dot h (sum_of n rays)
sum_positive n rows lin rays w h r lw up ch =
    elim (All-contains (λ k. (pos 0 <ℤ dot k (sum_of n rays)) ⊎ ((x : List ℤ) → length x ≡ n → IsInCone (cone_of rows) x → dot k x ≡ pos 0)) rows h
    (interior n (cone_of rows) lin rays r).positive ch) [
      | inl g ↦ g
      | inr z ↦
          let e : dot h w ≡ pos 0 = z w lw (in_cone rows w (λ k c. not_negative (dot k w) (up k c))) in
          let g = up h ch in absurd (omega (arith, ints, e, g))
    ]

-- where a row has a witness, the sum of the rays on which it is zero is one
pub sum_witness : (n : ℕ) (rows lin rays : List (List ℤ)) (a v : List ℤ) (p : Part rays a) → IsRays n rows [] lin rays → Contains rows a →
    IsWitness n rows a v → IsWitness n rows a (sum_of n p.part)
sum_witness n rows lin rays a v p r ca s =
    let d = described_of n rows [] lin rays r in
    let part : List (List ℤ) = p.part in
    let t : List ℤ = sum_of n part in
    let wp : (x : List ℤ) → Contains part x → length x ≡ n = λ x k. d.rays_width x (p.of_part x k).0 in
    let m : Made n part [] t = sum_made n part [] part wp (λ x k. k) in
    let one : AreValid (a ∷ []) rays lin = record {
      up = λ h x k i. elim (in_cons a [] h k) [ inl e ↦ subst (λ (q : List ℤ). pos 0 ≤ℤ dot q x) (sym e) (d.valid.up a x ca i) | inr j ↦ absurd (none_in h j) ];
      flat = λ h x k i. elim (in_cons a [] h k) [
        | inl e ↦ subst (λ (q : List ℤ). dot q x ≡ pos 0) (sym e) (d.valid.flat a x ca i)
        | inr j ↦ absurd (none_in h j)
      ];
    } in
    let v_in : IsInCone (cone_of rows) v = in_cone rows v (λ h k. elim (s.others h k) [
      | inl e ↦ let z : dot h v ≡ pos 0 = ap (λ (q : List ℤ). dot q v) e ∙ s.zero in omega (arith, ints, z)
      | inr g ↦ not_negative (dot h v) g
    ]) in
    let zero : dot a t ≡ pos 0 = Made-dot_zero n part [] a t (λ x k. (p.of_part x k).1) (λ x k. absurd (none_in x k)) m in
    let of_part : Made n part lin v = face_made n (a ∷ []) rays part lin t v one (λ x k z. p.all x k (z a (Contains-here a []) zero))
    (made_in n rows lin rays v d s.width v_in)
    (λ h k z. elim (in_cons a [] h k) [ inl e ↦ ap (λ (q : List ℤ). dot q v) e ∙ s.zero | inr j ↦ absurd (none_in h j) ]) in
    record {
      width = sum_long n part wp;
      zero = zero;
      others = λ b cb. elim (s.others b cb) [
        | inl e ↦ inl e
        | inr g ↦ elim (sign_of (dot b t)) [
          | positive u ↦ inr u
          | negative u ↦ let k : pos 0 ≤ℤ dot b t = Made-dot n part [] b t (λ x i. d.valid.up b x cb (p.of_part x i).0) (λ x i. absurd (none_in x i)) m in
              absurd (omega (arith, ints, u, k))
          | none u ↦
              let z : dot b v ≡ pos 0 = Made-dot_zero n part lin b v (λ x i. sum_zero n part b x wp (λ y j. d.valid.up b y cb (p.of_part y j).0) u i)
              (λ x i. d.valid.flat b x cb i) of_part in
              absurd (omega (arith, ints, g, z))
        ]
      ];
    }

-- a row that is zero on the rays on which another one is, is so on the cone
pub within_zero : (n : ℕ) (hs es lin rays : List (List ℤ)) (s t y : List ℤ) → IsDescribed n hs es lin rays → Contains hs s → Contains hs t →
    ((x : List ℤ) → Contains rays x → dot s x ≡ pos 0 → dot t x ≡ pos 0) → length y ≡ n → Satisfies hs es y → dot s y ≡ pos 0 → dot t y ≡ pos 0
within_zero n hs es lin rays s t y d cs ct f ly iy z =
    let p = part_of rays s in
    let one : AreValid (s ∷ []) rays lin = record {
      up = λ h x k i. elim (in_cons s [] h k) [ inl e ↦ subst (λ (q : List ℤ). pos 0 ≤ℤ dot q x) (sym e) (d.valid.up s x cs i) | inr j ↦ absurd (none_in h j) ];
      flat = λ h x k i. elim (in_cons s [] h k) [
        | inl e ↦ subst (λ (q : List ℤ). dot q x ≡ pos 0) (sym e) (d.valid.flat s x cs i)
        | inr j ↦ absurd (none_in h j)
      ];
    } in
    let m : Made n rays lin y = d.complete y ly (λ h c. All-contains (λ k. pos 0 ≤ℤ dot k y) hs h iy.not_negative c)
    (λ e c. All-contains (λ k. dot k y ≡ pos 0) es e iy.zero c) in
    Made-dot_zero n p.part lin t y (λ x k. let q = p.of_part x k in f x q.0 q.1) (λ x i. d.valid.flat t x ct i)
    (face_made n (s ∷ []) rays p.part lin y y one (λ x k g. p.all x k (g s (Contains-here s []) z)) m (λ h k g. g))
