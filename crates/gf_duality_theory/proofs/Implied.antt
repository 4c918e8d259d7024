-- Rows that are zero on the whole cone, and an echelon basis of their span.
use Rattle.std.proofs.Common.{◌≡◌, ℕ, zero, suc, ◌<◌, ◌≤◌, List, [], length, ℤ, pos, ◌≤ℤ◌, arith, refl, Contains, ◌⊎◌, get_or}
use Rattle.std.proofs.lemmas.List.Elements.{All-contains}
use Rattle.gf_int_theory.proofs.ListLaws.{all_by}
use Rattle.gf_vec.specs.Vector.{dot}
use Rattle.gf_gordan.specs.Alternative.{AreRows}
use Rattle.gf_gordan.specs.Elimination.{IsPivot}
use Rattle.gf_duality_theory.specs.Generators.{IsDescribed}
use Rattle.gf_duality_theory.specs.Rays.{IsEchelon, IsZeroOn, IsImplied, Satisfies}
use Rattle.gf_duality_theory.specs.Elimination.{IsEchelonBasis}
use Rattle.gf_duality_theory.proofs.ListLaws.{none_in}
use Rattle.gf_duality_theory.proofs.Made.{Made-dot_zero, Made-into, span-times}
use Rattle.gf_duality_theory.proofs.Generated.{made-generated, generated-made}
use Rattle.gf_duality_theory.proofs.Echelon.{SameSpan, basis_echelon, basis_span}
use Rattle.gf_duality_theory.proofs.EchelonUnique.{no_widths}

-- a row that is zero on all rays
pub zero_on : (n : ℕ) (hs es lin rays : List (List ℤ)) (t : List ℤ) → IsDescribed n hs es lin rays → Contains hs t →
    ((x : List ℤ) → Contains rays x → dot t x ≡ pos 0) → IsZeroOn n hs es t
zero_on n hs es lin rays t d ct z = λ x lx s.
    Made-dot_zero n rays lin t x z (λ y c. d.valid.flat t y ct c)
    (d.complete x lx (λ h c. All-contains (λ k. pos 0 ≤ℤ dot k x) hs h s.not_negative c) (λ e c. All-contains (λ k. dot k x ≡ pos 0) es e s.zero c))

-- a ray is in the cone
pub ray_in : (n : ℕ) (hs es lin rays : List (List ℤ)) (x : List ℤ) → IsDescribed n hs es lin rays → Contains rays x → Satisfies hs es x
ray_in n hs es lin rays x d c = record {
  not_negative = all_by (λ h. pos 0 ≤ℤ dot h x) hs (λ h k. d.valid.up h x k c);
  zero = all_by (λ e. dot e x ≡ pos 0) es (λ e k. d.solves e x k c);
}

pub implied_by : (n : ℕ) (hs es rows out : List (List ℤ)) → AreRows n rows →
    ((t : List ℤ) → Contains rows t → Contains es t ⊎ (Contains hs t × IsZeroOn n hs es t)) →
    ((t : List ℤ) → Contains es t ⊎ (Contains hs t × IsZeroOn n hs es t) → Contains rows t) → IsEchelonBasis n rows out → IsImplied n hs es out
implied_by n hs es rows out w each every b =
    let wide : (x : List ℤ) → Contains rows x → length x ≡ n = λ x c. All-contains (λ t. length t ≡ n) rows x w c in
    let s : SameSpan n rows out = basis_span n rows out wide b in
    let wo : AreRows n out = all_by (λ t. length t ≡ n) out s.width in
    record {
      rows = rows;
      each = each;
      every = every;
      width = wo;
      echelon = basis_echelon n rows out wide b;
      spans = λ v lv. (
        λ g. made-generated n [] out v (no_widths n) wo (Made-into n [] rows [] out v (λ x l c. absurd (none_in x c))
            (λ a x l c. span-times n out a x (s.to x c)) (generated-made n [] rows v (no_widths n) w g)),
        λ g. made-generated n [] rows v (no_widths n) w (Made-into n [] out [] rows v (λ x l c. absurd (none_in x c))
            (λ a x l c. span-times n rows a x (s.from x c)) (generated-made n [] out v (no_widths n) wo g)),
      );
    }

-- pivots rise, so that there are no more rows than columns
pivot_above : (rows : List (List ℤ)) (i : ℕ) → IsEchelon rows → i < length rows → (p : ℕ) → IsPivot (get_or rows i []) p → i ≤ p
pivot_above rows zero e h p v = omega arith
pivot_above rows (suc i) e h p v =
    let k : i < length rows = omega (arith, h) in
    let l = e.leading i [] k in
    let r : l.0 < p = e.rising i (suc i) [] (omega arith) h l.0 p l.1.0 v in
    let b : i ≤ l.0 = pivot_above rows i e k l.0 l.1.0 in
    omega (arith, r, b)

long_by : (n m : ℕ) (rows : List (List ℤ)) → AreRows n rows → IsEchelon rows → m ≡ length rows → m ≤ n
long_by n zero rows w e q = omega arith
long_by n (suc m) rows w e q =
    let k : m < length rows = omega (arith, q) in
    let l = e.leading m [] k in
    let i : l.0 < length (get_or rows m []) = l.1.0.inside in
    let t : length (get_or rows m []) ≡ n = w m [] k in
    let b : m ≤ l.0 = pivot_above rows m e k l.0 l.1.0 in
    omega (arith, i, t, b)

pub echelon_long : (n : ℕ) (rows : List (List ℤ)) → AreRows n rows → IsEchelon rows → length rows ≤ n
echelon_long n rows w e = long_by n (length rows) rows w e refl
