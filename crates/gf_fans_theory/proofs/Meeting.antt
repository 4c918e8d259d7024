-- Rows that are zero on a vector, the opposite of a vector, and the halves of a meet.
use Rattle.std.proofs.Common.{◌≡◌, List, [], ◌∷◌, ◌++◌, ℤ, pos, ◌<ℤ◌, ◌≤ℤ◌, arith, sym, ap, ◌∙◌, subst, Contains, ◌⊎◌, inl, inr}
use Rattle.std.proofs.lemmas.Int.{ints}
use Rattle.std.proofs.lemmas.List.Elements.{All-contains, Contains-append_left, Contains-append_right}
use Rattle.gf_int_theory.proofs.SignLaws.{sign_of, negative, none, positive}
use Rattle.gf_int_theory.proofs.ListLaws.{Contains-here, all_by}
use Rattle.gf_vec.specs.Vector.{dot}
use Rattle.gf_duality_theory.specs.Faces.{Rows, IsInCone}
use Rattle.gf_duality_theory.proofs.ListLaws.{none_in, in_tail, in_cons}
use Rattle.gf_fans_theory.specs.Fans.{meet}

-- the rows that are zero on v
pub record ZeroRows (hs : List (List ℤ)) (v : List ℤ) : Type 0 where
  pub rows : List (List ℤ)
  pub listed : (t : List ℤ) → Contains rows t → Contains hs t
  pub zero : (t : List ℤ) → Contains rows t → dot t v ≡ pos 0
  pub all : (t : List ℤ) → Contains hs t → dot t v ≡ pos 0 → Contains rows t

not_zero : (x : ℤ) → (x <ℤ pos 0) ⊎ (pos 0 <ℤ x) → x ≡ pos 0 → ⊥
not_zero x (inl h) e = omega (arith, ints)
not_zero x (inr h) e = omega (arith, ints)

skip_row : (h : List ℤ) (hs : List (List ℤ)) (v : List ℤ) → (dot h v ≡ pos 0 → ⊥) → ZeroRows hs v → ZeroRows (h ∷ hs) v
skip_row h hs v n s = record {
  rows = s.rows;
  listed = λ t c. in_tail h hs t (s.listed t c);
  zero = s.zero;
  all = λ t c z. elim (in_cons h hs t c) [ inl e ↦ absurd (n (ap (λ k. dot k v) (sym e) ∙ z)) | inr k ↦ s.all t k z ];
}

pub zero_rows : (hs : List (List ℤ)) (v : List ℤ) → ZeroRows hs v
zero_rows [] v = record { rows = []; listed = λ t c. c; zero = λ t c. absurd (none_in t c); all = λ t c z. c }
zero_rows (h ∷ hs) v =
    let s = zero_rows hs v in
    elim (sign_of (dot h v)) [
      | negative g ↦ skip_row h hs v (λ e. not_zero (dot h v) (inl g) e) s
      | positive g ↦ skip_row h hs v (λ e. not_zero (dot h v) (inr g) e) s
      | none g ↦ record {
        rows = h ∷ s.rows;
        listed = λ t c. elim (in_cons h s.rows t c) [ inl e ↦ subst (Contains (h ∷ hs)) (sym e) (Contains-here h hs) | inr k ↦ in_tail h hs t (s.listed t k) ];
        zero = λ t c. elim (in_cons h s.rows t c) [ inl e ↦ ap (λ k. dot k v) e ∙ g | inr k ↦ s.zero t k ];
        all = λ t c z. elim (in_cons h hs t c) [
          | inl e ↦ subst (Contains (h ∷ s.rows)) (sym e) (Contains-here h s.rows)
          | inr k ↦ in_tail h s.rows t (s.all t k z)
        ];
      }
    ]

-- the halves of what the rows of two cones say
pub left_in : (c d : Rows) (x : List ℤ) → IsInCone (meet c d) x → IsInCone c x
left_in c d x s = record {
  not_negative = all_by (λ h. pos 0 ≤ℤ dot h x) c.inequalities (λ h k. All-contains (λ h. pos 0 ≤ℤ dot h x) (c.inequalities ++ d.inequalities) h s.not_negative
      (Contains-append_left c.inequalities d.inequalities h k));
  zero = all_by (λ h. dot h x ≡ pos 0) c.equations (λ h k. All-contains (λ h. dot h x ≡ pos 0) (c.equations ++ d.equations) h s.zero
      (Contains-append_left c.equations d.equations h k));
}

pub right_in : (c d : Rows) (x : List ℤ) → IsInCone (meet c d) x → IsInCone d x
right_in c d x s = record {
  not_negative = all_by (λ h. pos 0 ≤ℤ dot h x) d.inequalities (λ h k. All-contains (λ h. pos 0 ≤ℤ dot h x) (c.inequalities ++ d.inequalities) h s.not_negative
      (Contains-append_right c.inequalities d.inequalities h k));
  zero = all_by (λ h. dot h x ≡ pos 0) d.equations (λ h k. All-contains (λ h. dot h x ≡ pos 0) (c.equations ++ d.equations) h s.zero
      (Contains-append_right c.equations d.equations h k));
}
