-- The sum of the rays of a cone: each row is positive there, or zero on the whole cone.
use Rattle.std.proofs.Common.{◌≡◌, ℕ, List, [], ◌∷◌, length, ℤ, pos, ◌<ℤ◌, ◌≤ℤ◌, arith, sym, subst, Contains, ◌⊎◌, inl, inr}
use Rattle.std.proofs.lemmas.Int.{ints}
use Rattle.std.proofs.lemmas.List.Elements.{All-contains}
use Rattle.gf_int_theory.proofs.SignLaws.{sign_of, negative, none, positive}
use Rattle.gf_int_theory.proofs.ListLaws.{Contains-here, all_by}
use Rattle.gf_vec.specs.Vector.{dot}
use Rattle.gf_duality_theory.specs.Generators.{IsDescribed}
use Rattle.gf_duality_theory.specs.Rays.{Satisfies, IsRays}
use Rattle.gf_duality_theory.specs.Faces.{Rows, IsInCone, IsInterior, sum_of}
use Rattle.gf_duality_theory.proofs.ListLaws.{none_in, in_tail, in_cons}
use Rattle.gf_duality_theory.proofs.Made.{Made-dot, Made-dot_zero}
use Rattle.gf_duality_theory.proofs.RaySums.{sum_made, sum_long, sum_zero}
use Rattle.gf_duality_theory.proofs.Determined.{described_of}

-- some vector is positive at h, or h is zero on all
pub some_above : (xs : List (List ℤ)) (h : List ℤ) → ((x : List ℤ) → Contains xs x → pos 0 ≤ℤ dot h x) →
    ((x : List ℤ) × (Contains xs x × (pos 0 <ℤ dot h x))) ⊎ ((x : List ℤ) → Contains xs x → dot h x ≡ pos 0)
some_above [] h f = inr (λ x c. absurd (none_in x c))
some_above (t ∷ xs) h f = elim (sign_of (dot h t)) [
  | negative g ↦ let k : pos 0 ≤ℤ dot h t = f t (Contains-here t xs) in absurd (omega (arith, ints))
  | positive g ↦ inl (t, (Contains-here t xs, g))
  | none g ↦ elim (some_above xs h (λ x c. f x (in_tail t xs x c))) [
    | inl r ↦ inl (r.0, (in_tail t xs r.0 r.1.0, r.1.1))
    | inr z ↦ inr (λ x c. elim (in_cons t xs x c) [ inl e ↦ subst (λ (k : List ℤ). dot h k ≡ pos 0) (sym e) g | inr d ↦ z x d ])
  ]
]

-- the sum of rays is in the cone
pub sum_in : (n : ℕ) (hs es lin rays part : List (List ℤ)) → IsDescribed n hs es lin rays → ((x : List ℤ) → Contains part x → Contains rays x) →
    Satisfies hs es (sum_of n part)
sum_in n hs es lin rays part d s =
    let m = sum_made n rays lin part (λ x c. d.rays_width x (s x c)) s in
    record {
      not_negative = all_by (λ h. pos 0 ≤ℤ dot h (sum_of n part)) hs (λ h c. Made-dot n rays lin h (sum_of n part) (λ x i. d.valid.up h x c i)
          (λ x i. d.valid.flat h x c i) m);
      zero = all_by (λ e. dot e (sum_of n part) ≡ pos 0) es (λ e c. Made-dot_zero n rays lin e (sum_of n part) (λ x i. d.solves e x c i)
          (λ x i. d.lin_solves e x c i) m);
    }

pub interior : (n : ℕ) (c : Rows) (lin rays : List (List ℤ)) → IsRays n c.inequalities c.equations lin rays → IsInterior n c (sum_of n rays)
interior n c lin rays r =
    let d = described_of n c.inequalities c.equations lin rays r in
    let v : List ℤ = sum_of n rays in
    let v_in : IsInCone c v = sum_in n c.inequalities c.equations lin rays rays d (λ x k. k) in
    record {
      width = sum_long n rays d.rays_width;
      inside = v_in;
      positive = all_by (λ h. (pos 0 <ℤ dot h v) ⊎ ((x : List ℤ) → length x ≡ n → IsInCone c x → dot h x ≡ pos 0)) c.inequalities (λ h ch.
          elim (some_above rays h (λ x k. d.valid.up h x ch k)) [
            | inr z ↦ inr (λ x lx k. Made-dot_zero n rays lin h x z (λ y i. d.valid.flat h y ch i)
                (d.complete x lx (λ t ct. All-contains (λ q. pos 0 ≤ℤ dot q x) c.inequalities t k.not_negative ct)
                (λ t ct. All-contains (λ q. dot q x ≡ pos 0) c.equations t k.zero ct)))
            | inl p ↦ elim (sign_of (dot h v)) [
              | positive g ↦ inl g
              | none g ↦ let z : dot h p.0 ≡ pos 0 = sum_zero n rays h p.0 d.rays_width (λ x k. d.valid.up h x ch k) g p.1.0 in let u =
                  p.1.1 in absurd (omega (arith, ints, z, u))
              | negative g ↦ let u : pos 0 ≤ℤ dot h v = All-contains (λ q. pos 0 ≤ℤ dot q v) c.inequalities h v_in.not_negative ch in
                  absurd (omega (arith, ints, g, u))
            ]
          ]);
    }
