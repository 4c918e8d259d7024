-- Vectors in the span of others, by Gordan's alternative of one row with equations.
-- To cite: spanned_by, outside_by. The rest are steps.
use Rattle.std.proofs.Common.{◌≡◌, ℕ, List, [], ◌∷◌, length, ℤ, pos, negsuc, ◌+ℤ◌, ◌*ℤ◌, ◌<ℤ◌, arith, sym, refl, ap, ap₂, ◌∙◌, inl, inr}
use Rattle.std.proofs.lemmas.Int.{ints}
use Rattle.std.proofs.lemmas.List.Elements.{All-contains, recursion_from_All}
use Rattle.std.specs.List.{AllByRecursion}
use Rattle.gf_int_theory.specs.Content.{scaled}
use Rattle.gf_int_theory.proofs.RingLaws.{same, dv, ◌⊕◌, ◌⊗◌}
use Rattle.gf_vec.specs.Vector.{dot, vector_sum, zeros, combined}
use Rattle.gf_vec.proofs.VectorLaws.{dot_comm, dot-plus, dot-times, dot-zeros, length-zeros, length-plus, length-times, length-combined}
use Rattle.gf_vec.proofs.DotLaws.{vector_ext}
use Rattle.gf_gordan.specs.Alternative.{AreRows, IsSolution, IsFarkas}
use Rattle.gf_duality_theory.specs.Rays.{Generated}
use Rattle.gf_duality_theory.proofs.ListLaws.{none_in}
use Rattle.gf_duality_theory.proofs.Made.{Made-dot_zero}
use Rattle.gf_duality_theory.proofs.Generated.{generated-made}
use Rattle.gf_duality_theory.proofs.EchelonUnique.{no_widths}
use Rattle.gf_int_theory.proofs.SignLaws.{zero_product}
use Rattle.gf_int_theory.proofs.ListLaws.{Contains-here}

-- a combination by so many times the multipliers gives so many times the values
times_sum : (k e q y : ℤ) → (k *ℤ e) *ℤ q +ℤ k *ℤ y ≡ k *ℤ (e *ℤ q +ℤ y)
times_sum k e q y = same ((dv k ⊗ dv e) ⊗ dv q ⊕ dv k ⊗ dv y) (dv k ⊗ (dv e ⊗ dv q ⊕ dv y)) (omega arith)

times_values : (n : ℕ) (k : ℤ) (es : List ℤ) (rows : List (List ℤ)) (u : List ℤ) → AllByRecursion (λ t. length t ≡ n) rows →
    dot (combined n (scaled k es) rows) u ≡ k *ℤ dot (combined n es rows) u
times_values n k [] rows u w = let z = dot-zeros n u in rw z (sym (zero_product k (pos 0) refl))
times_values n k (e ∷ es) [] u w = let z = dot-zeros n u in rw z (sym (zero_product k (pos 0) refl))
times_values n k (e ∷ es) (r ∷ rows) u w =
    let y = dot (combined n es rows) u in
    dot-plus (scaled (k *ℤ e) r) (combined n (scaled k es) rows) u (length-times (k *ℤ e) r ∙ w.0 ∙ sym (length-combined n (scaled k es) rows w.1))
    ∙ ap₂ ◌+ℤ◌ (dot-times (k *ℤ e) r u) (times_values n k es rows u w.1)
    ∙ times_sum k e (dot r u) y
    ∙ ap (λ x. k *ℤ x) (sym (dot-plus (scaled e r) (combined n es rows) u (length-times e r ∙ w.0 ∙ sym (length-combined n es rows w.1)) ∙
    ap (λ x. x +ℤ y) (dot-times e r u)))

-- what is zero together with others is a combination of them by opposite multipliers
opposite_sum : (n : ℕ) (a : List ℤ) (es : List ℤ) (rows : List (List ℤ)) → length a ≡ n → AreRows n rows →
    vector_sum (vector_sum a (zeros n)) (combined n es rows) ≡ zeros n
    → a ≡ vector_sum (zeros n) (combined n (scaled (negsuc 0) es) rows)
opposite_sum n a es rows la w e =
    let wr = recursion_from_All (λ t. length t ≡ n) rows w in
    let b = combined n es rows in
    let c = combined n (scaled (negsuc 0) es) rows in
    let lb : length b ≡ n = length-combined n es rows wr in
    let lc : length c ≡ n = length-combined n (scaled (negsuc 0) es) rows wr in
    let lz = length-zeros n in
    let lsum : length (vector_sum a (zeros n)) ≡ n = length-plus a (zeros n) (la ∙ sym lz) ∙ la in
    let lright : length (vector_sum (zeros n) c) ≡ n = length-plus (zeros n) c (lz ∙ sym lc) ∙ lz in
    vector_ext a (vector_sum (zeros n) c) (la ∙ sym lright) (λ u.
    let right : dot (vector_sum (zeros n) c) u ≡ dot (zeros n) u +ℤ dot c u = dot-plus (zeros n) c u (lz ∙ sym lc) in
    let left : dot (vector_sum (vector_sum a (zeros n)) b) u ≡ dot (vector_sum a (zeros n)) u +ℤ dot b u =
    dot-plus (vector_sum a (zeros n)) b u (lsum ∙ sym lb) in
    let first : dot (vector_sum a (zeros n)) u ≡ dot a u +ℤ dot (zeros n) u = dot-plus a (zeros n) u (la ∙ sym lz) in
    let none : dot (zeros n) u ≡ pos 0 = dot-zeros n u in
    let whole : dot (vector_sum (vector_sum a (zeros n)) b) u ≡ pos 0 = ap (λ v. dot v u) e ∙ none in
    let turned : dot c u ≡ negsuc 0 *ℤ dot b u = times_values n (negsuc 0) es rows u wr in
    omega (arith, ints, right, left, first, none, whole, turned))

-- Farkas multipliers of the row with the others as equations show that it is in their span
pub spanned_by : (n : ℕ) (span : List (List ℤ)) (v ms es : List ℤ) → length v ≡ n → AreRows n span → IsFarkas n (v ∷ []) span ms es → Generated n [] span v
spanned_by n span v [] es l w f = absurd (let e = f.rows_len in omega arith)
spanned_by n span v (m ∷ []) es l w f = record {
  factor = m;
  rays_by = [];
  lin_by = scaled (negsuc 0) es;
  positive = elim f.not_all_zero [ inl p ↦ p | inr q ↦ absurd q ];
  rays_len = refl;
  lin_len = length-times (negsuc 0) es ∙ f.equations_len;
  not_negative = λ k d h. absurd (omega arith);
  is = opposite_sum n (scaled m v) es span (length-times m v ∙ l) w f.zero_sum;
}
spanned_by n span v (m ∷ k ∷ ms) es l w f = absurd (let e = f.rows_len in omega arith)

-- a vector on which the row is positive and the others are zero shows that it isn't
pub outside_by : (n : ℕ) (span : List (List ℤ)) (v x : List ℤ) → AreRows n span → IsSolution n (v ∷ []) span x → Generated n [] span v → ⊥
outside_by n span v x w s g =
    let made = generated-made n [] span v (no_widths n) w g in
    let zero : dot x v ≡ pos 0 = Made-dot_zero n [] span x v (λ t c. absurd (none_in t c)) (λ t c. dot_comm x t ∙ All-contains (λ q. dot q x ≡ pos 0)
    span t s.zero c) made in
    let positive : pos 0 <ℤ dot v x = All-contains (λ q. pos 0 <ℤ dot q x) (v ∷ []) v s.positive (Contains-here v []) in
    let turned : dot x v ≡ dot v x = dot_comm x v in
    omega (arith, ints, zero, positive, turned)
