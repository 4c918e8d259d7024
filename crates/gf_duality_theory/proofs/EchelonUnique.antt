-- A span has one echelon basis.
use Rattle.std.proofs.Common.{◌≡◌, ◌≢◌, ℕ, zero, suc, ◌<◌, List, [], ◌∷◌, length, ℤ, pos, ◌+ℤ◌, ◌*ℤ◌, neg_ℤ, ◌<ℤ◌, arith, sym, refl, ap, ap₂, ◌∙◌, subst}
use Rattle.std.proofs.Common.{Contains, inl, inr, AllPairs}
use Rattle.std.specs.List.{AllByRecursion}
use Rattle.std.proofs.lemmas.Int.{ints}
use Rattle.std.proofs.lemmas.List.Elements.{All-contains, recursion_from_All}
use Rattle.gf_int_theory.specs.Content.{AllZero, IsPrimitive, scaled}
use Rattle.gf_int_theory.proofs.RingLaws.{same, dv, dn, dneg, ◌⊗◌, ◌⊕◌}
use Rattle.gf_int_theory.proofs.SignLaws.{positive, zero_product, positive_not_zero, zero_or_not}
use Rattle.gf_int_theory.proofs.ListLaws.{Contains-here}
use Rattle.gf_vec.specs.Vector.{vector_sum, zeros, combined, entry_at}
use Rattle.gf_vec.proofs.VectorLaws.{length-times, length-combined}
use Rattle.gf_gordan.specs.Alternative.{AreRows}
use Rattle.gf_gordan.specs.Elimination.{IsPivot}
use Rattle.gf_duality_theory.specs.Generators.{Made, summed}
use Rattle.gf_duality_theory.specs.Rays.{IsEchelon}
use Rattle.gf_duality_theory.proofs.ListLaws.{none_in, in_tail, in_cons}
use Rattle.gf_vec.proofs.EntryLaws.{entry_times, entry_plus, cancel}
use Rattle.gf_duality_theory.proofs.PivotLaws.{pivot_unique}
use Rattle.gf_vec.proofs.VectorIdentities.{vv, vz, ◌⊞◌, ◌⊡◌, vsame}
use Rattle.gf_duality_theory.proofs.Made.{span-times}
use Rattle.gf_duality_theory.proofs.Generated.{made-generated}
use Rattle.gf_duality_theory.proofs.Echelon.{own_member, linear_zero}
use Rattle.gf_vec.proofs.PrimitiveLaws.{primitive_same, times_cancel}
use Rattle.std.proofs.lemmas.Bool.{cases_eq}

-- ---- ordered lists

-- lists in strict order with the same members are one
pub same_ordered : {X : Type 0} (R : X → X → Type 0) (xs ys : List X) → ((x y : X) → Contains xs x → Contains xs y → R x y → R y x → ⊥) → AllPairs R xs →
    AllPairs R ys → ((x : X) → Contains xs x → Contains ys x) → ((x : X) → Contains ys x → Contains xs x) → xs ≡ ys
same_ordered R [] [] a p q f g = refl
same_ordered R [] (y ∷ ys) a p q f g = absurd (none_in y (g y (Contains-here y ys)))
same_ordered R (x ∷ xs) [] a p q f g = absurd (none_in x (f x (Contains-here x xs)))
same_ordered {X} R (x ∷ xs) (y ∷ ys) a p q f g =
    let after : (z : X) → Contains xs z → R x z = λ z c. subst (R x) (c.2) (p 0 (suc c.0) z (omega arith) (omega (arith, c.1))) in
    let after_y : (z : X) → Contains ys z → R y z = λ z c. subst (R y) (c.2) (q 0 (suc c.0) z (omega arith) (omega (arith, c.1))) in
    let e : x ≡ y = elim (in_cons y ys x (f x (Contains-here x xs))) [
      | inl e ↦ e
      | inr c ↦ elim (in_cons x xs y (g y (Contains-here y ys))) [
        | inl e ↦ sym e
        | inr d ↦ absurd (a x y (Contains-here x xs) (in_tail x xs y d) (after y d) (after_y x c))
      ]
    ] in
    let rest : xs ≡ ys = same_ordered R xs ys (λ u v cu cv. a u v (in_tail x xs u cu) (in_tail x xs v cv))
    (λ i k d h l. p (suc i) (suc k) d (omega arith) (omega arith)) (λ i k d h l. q (suc i) (suc k) d (omega arith) (omega arith))
    (λ z c. elim (in_cons y ys z (f z (in_tail x xs z c))) [
      | inr d ↦ d
      | inl i ↦ let r : R x x = subst (R x) (i ∙ sym e) (after z c) in absurd (a x x (Contains-here x xs) (Contains-here x xs) r r)
    ])
    (λ z c. elim (in_cons x xs z (g z (in_tail y ys z c))) [
      | inr d ↦ d
      | inl i ↦ let r : R y y = subst (R y) (i ∙ e) (after_y z c) in let s : R x x =
          subst (λ t. R t t) (sym e) r in absurd (a x x (Contains-here x xs) (Contains-here x xs) s s)
    ]) in
    ap₂ ◌∷◌ e rest

-- ---- combinations of rows with pivots of their own

-- each row has a pivot, and the rows behind it are zero there and before
abbrev pub IsStaircase : List (List ℤ) → Type 0
IsStaircase [] = Unit {0}
IsStaircase (b ∷ rows) = ((p : ℕ) × (IsPivot b p × ((y : List ℤ) (i : ℕ) → Contains rows y → i < suc p → entry_at y i ≡ pos 0))) × IsStaircase rows

staircase_of : (rows whole : List (List ℤ)) → IsEchelon whole → ((x : List ℤ) → Contains rows x → Contains whole x) →
    AllPairs (λ x y. (p q : ℕ) → IsPivot x p → IsPivot y q → p < q) rows → IsStaircase rows
staircase_of [] whole e s r = tt
staircase_of (b ∷ rows) whole e s r =
    let cb = s b (Contains-here b rows) in
    let lead : (y : List ℤ) → Contains whole y → (p : ℕ) × (IsPivot y p × (pos 0 <ℤ entry_at y p)) =
    λ y c. All-contains (λ x. (p : ℕ) × (IsPivot x p × (pos 0 <ℤ entry_at x p))) whole y e.leading c in
    let p = lead b cb in (
      (
        p.0,
        (
          p.1.0,
          λ y i c h.
              let q = lead y (s y (in_tail b rows y c)) in
              let l : p.0 < q.0 = r 0 (suc c.0) y (omega arith) (omega (arith, c.1)) p.0 q.0 p.1.0 (subst (λ t. IsPivot t q.0) (sym c.2) q.1.0) in
              q.1.0.first i (omega (arith, h, l)),
        ),
      ),
      staircase_of rows whole e (λ x c. s x (in_tail b rows x c)) (λ i k d h l. r (suc i) (suc k) d (omega arith) (omega arith)),
    )

pub entry_zeros : (n i : ℕ) → entry_at (zeros n) i ≡ pos 0
entry_zeros zero i = refl
entry_zeros (suc n) zero = refl
entry_zeros (suc n) (suc i) = entry_zeros n i

combined_entry : (n : ℕ) (m : ℤ) (ms : List ℤ) (t : List ℤ) (ts : List (List ℤ)) (i : ℕ) → AllByRecursion (λ t. length t ≡ n) (t ∷ ts) →
    entry_at (combined n (m ∷ ms) (t ∷ ts)) i ≡ m *ℤ entry_at t i +ℤ entry_at (combined n ms ts) i
combined_entry n m ms t ts i w = entry_plus (scaled m t) (combined n ms ts) i (length-times m t ∙ w.0 ∙ sym (length-combined n ms ts w.1)) ∙
    ap (λ z. z +ℤ entry_at (combined n ms ts) i) (entry_times m t i)

-- where all rows are zero the combination is
combined_zero : (n : ℕ) (ms : List ℤ) (rows : List (List ℤ)) (i : ℕ) → AllByRecursion (λ t. length t ≡ n) rows →
    ((y : List ℤ) → Contains rows y → entry_at y i ≡ pos 0) → entry_at (combined n ms rows) i ≡ pos 0
combined_zero n [] rows i w f = entry_zeros n i
combined_zero n (m ∷ ms) [] i w f = entry_zeros n i
combined_zero n (m ∷ ms) (t ∷ ts) i w f = combined_entry n m ms t ts i w ∙ ap₂ ◌+ℤ◌ (zero_product m (entry_at t i) (f t (Contains-here t ts)))
    (combined_zero n ms ts i w.1 (λ y c. f y (in_tail t ts y c)))

no_more : (x : ℤ) → x +ℤ pos 0 ≡ x
no_more x = omega (arith, ints)

combined_head : (n : ℕ) (m : ℤ) (ms : List ℤ) (t : List ℤ) (ts : List (List ℤ)) (i : ℕ) → AllByRecursion (λ t. length t ≡ n) (t ∷ ts) →
    ((y : List ℤ) → Contains ts y → entry_at y i ≡ pos 0) → entry_at (combined n (m ∷ ms) (t ∷ ts)) i ≡ m *ℤ entry_at t i
combined_head n m ms t ts i w f = combined_entry n m ms t ts i w ∙ ap (λ z. m *ℤ entry_at t i +ℤ z) (combined_zero n ms ts i w.1 f) ∙
    no_more (m *ℤ entry_at t i)

-- a head that isn't taken
combined_rest : (n : ℕ) (m : ℤ) (ms : List ℤ) (t : List ℤ) (ts : List (List ℤ)) → AllByRecursion (λ t. length t ≡ n) (t ∷ ts) → m ≡ pos 0 →
    combined n (m ∷ ms) (t ∷ ts) ≡ combined n ms ts
combined_rest n m ms t ts w z =
    let l = length-combined n ms ts w.1 in
    ap (λ k. vector_sum (scaled k t) (combined n ms ts)) z ∙ vsame (dn 0 ⊡ vv t w.0 ⊞ vv (combined n ms ts) l) (vv (combined n ms ts) l) (λ u. omega arith)

factor_zero : (m x : ℤ) → x ≢ pos 0 → m *ℤ x ≡ pos 0 → m ≡ pos 0
factor_zero m x n e = cancel x m n (same (dv x ⊗ dv m) (dv m ⊗ dv x) (omega arith) ∙ e)

-- a combination that is zero at all pivots is zero
pub combined_none : (n : ℕ) (ms : List ℤ) (rows : List (List ℤ)) → AllByRecursion (λ t. length t ≡ n) rows → IsStaircase rows →
    ((y : List ℤ) (p : ℕ) → Contains rows y → IsPivot y p → entry_at (combined n ms rows) p ≡ pos 0) → combined n ms rows ≡ zeros n
combined_none n [] rows w s f = refl
combined_none n (m ∷ ms) [] w s f = refl
combined_none n (m ∷ ms) (t ∷ ts) w s f =
    let p = s.0 in
    let z : m ≡ pos 0 = factor_zero m (entry_at t p.0) p.1.0.not_zero (sym (combined_head n m ms t ts p.0 w (λ y c. p.1.1 y p.0 c (omega arith))) ∙ f t p.0
    (Contains-here t ts) p.1.0) in
    let e = combined_rest n m ms t ts w z in
    e ∙ combined_none n ms ts w.1 s.1 (λ y q c k. ap (λ v. entry_at v q) (sym e) ∙ f y q (in_tail t ts y c) k)

-- the pivot of a combination is a pivot of a row
pub combined_pivot : (n : ℕ) (ms : List ℤ) (rows : List (List ℤ)) (q : ℕ) → AllByRecursion (λ t. length t ≡ n) rows → IsStaircase rows →
    IsPivot (combined n ms rows) q → (y : List ℤ) × (Contains rows y × IsPivot y q)
combined_pivot n [] rows q w s k = absurd (k.not_zero (entry_zeros n q))
combined_pivot n (m ∷ ms) [] q w s k = absurd (k.not_zero (entry_zeros n q))
combined_pivot n (m ∷ ms) (t ∷ ts) q w s k = elim (zero_or_not m) [
  | inl z ↦ let r = combined_pivot n ms ts q w.1 s.1 (subst (λ v. IsPivot v q) (combined_rest n m ms t ts w z) k) in (r.0, (in_tail t ts r.0 r.1.0, r.1.1))
  | inr nz ↦
      let p = s.0 in
      let whole = combined n (m ∷ ms) (t ∷ ts) in
      let own : IsPivot whole p.0 = record {
        inside = let h = p.1.0.inside in omega (arith, h, w.0, length-combined n (m ∷ ms) (t ∷ ts) w);
        not_zero = λ e. p.1.0.not_zero (cancel m (entry_at t p.0) nz (sym (combined_head n m ms t ts p.0 w (λ y c. p.1.1 y p.0 c (omega arith))) ∙ e));
        first = λ i h. combined_head n m ms t ts i w (λ y c. p.1.1 y i c (omega (arith, h))) ∙ zero_product m (entry_at t i) (p.1.0.first i h);
      } in
      (t, (Contains-here t ts, subst (IsPivot t) (pivot_unique whole p.0 q own k) p.1.0))
]

-- ---- members of the span

pub no_widths : (n : ℕ) → AreRows n []
no_widths n = λ k d h. absurd (omega arith)

none_taken : (n : ℕ) (ms v : List ℤ) → length v ≡ n → vector_sum (combined n ms []) v ≡ v
none_taken n [] v l = vsame (vz n ⊞ vv v l) (vv v l) (λ u. omega arith)
none_taken n (m ∷ ms) v l = vsame (vz n ⊞ vv v l) (vv v l) (λ u. omega arith)

record Combination (n : ℕ) (rows : List (List ℤ)) (v : List ℤ) : Type 0 where
  factor : ℤ
  by : List ℤ
  positive_factor : pos 0 <ℤ factor
  is : scaled factor v ≡ combined n by rows

combination : (n : ℕ) (rows : List (List ℤ)) (v : List ℤ) → AreRows n rows → Made n [] rows v → Combination n rows v
combination n rows v w m =
    let g = made-generated n [] rows v (no_widths n) w m in
    let u = recursion_from_All (λ t. length t ≡ n) rows w in
    let l = length-combined n g.lin_by rows u in
    record { factor = g.factor; by = g.lin_by; positive_factor = g.positive; is = g.is ∙ none_taken n g.rays_by (combined n g.lin_by rows) l }

-- a member that is zero at all pivots is zero
pub span_none : (n : ℕ) (rows : List (List ℤ)) (v : List ℤ) → AreRows n rows → IsEchelon rows → Made n [] rows v → length v ≡ n →
    ((y : List ℤ) (p : ℕ) → Contains rows y → IsPivot y p → entry_at v p ≡ pos 0) → v ≡ zeros n
span_none n rows v w e m l f =
    let c = combination n rows v w m in
    let u = recursion_from_All (λ t. length t ≡ n) rows w in
    let z : combined n c.by rows ≡ zeros n = combined_none n c.by rows u (staircase_of rows rows e (λ x i. i) e.rising)
    (λ y p i k. ap (λ t. entry_at t p) (sym c.is) ∙ entry_times c.factor v p ∙ zero_product c.factor (entry_at v p) (f y p i k)) in
    let k = c.factor in
    times_cancel k v (zeros n) c.positive_factor (c.is ∙ z ∙ vsame (vz n) (dv k ⊡ vz n) (λ t. omega arith))

-- the pivot of a member is a pivot of a row
pub span_pivot : (n : ℕ) (rows : List (List ℤ)) (v : List ℤ) (q : ℕ) → AreRows n rows → IsEchelon rows → Made n [] rows v → IsPivot v q →
    (y : List ℤ) × (Contains rows y × IsPivot y q)
span_pivot n rows v q w e m k =
    let c = combination n rows v w m in
    let u = recursion_from_All (λ t. length t ≡ n) rows w in
    let moved : IsPivot (scaled c.factor v) q = record {
      inside = let h = k.inside in omega (arith, h, length-times c.factor v);
      not_zero = λ z. k.not_zero (cancel c.factor (entry_at v q) (positive_not_zero c.factor c.positive_factor) (sym (entry_times c.factor v q) ∙ z));
      first = λ i h. entry_times c.factor v i ∙ zero_product c.factor (entry_at v i) (k.first i h);
    } in
    combined_pivot n c.by rows q u (staircase_of rows rows e (λ x i. i) e.rising) (subst (λ t. IsPivot t q) c.is moved)

zero_entry : (x : List ℤ) (p : ℕ) → AllZero x → entry_at x p ≡ pos 0
zero_entry [] p z = refl
zero_entry (y ∷ x) zero z = z.0
zero_entry (y ∷ x) (suc p) z = zero_entry x p z.1

even : (x y : ℤ) → y *ℤ x +ℤ neg_ℤ x *ℤ y ≡ pos 0
even x y = same (dv y ⊗ dv x ⊕ dneg (dv x) ⊗ dv y) (dn 0) (omega arith)

-- each row of the one basis is a row of the other
basis_member : (n : ℕ) (xs ys : List (List ℤ)) (x : List ℤ) → AreRows n xs → AreRows n ys → IsEchelon xs → IsEchelon ys →
    ((v : List ℤ) → Contains xs v → Made n [] ys v) → ((v : List ℤ) → Contains ys v → Made n [] xs v) → Contains xs x → Contains ys x
basis_member n xs ys x wx wy ex ey to from c =
    let lead = All-contains (λ t. (p : ℕ) × (IsPivot t p × (pos 0 <ℤ entry_at t p))) xs x ex.leading c in
    let p = lead.0 in let px = lead.1.0 in
    let f = span_pivot n ys x p wy ey (to x c) px in
    let y : List ℤ = f.0 in let cy = f.1.0 in let py = f.1.1 in
    let lead_y = All-contains (λ t. (p : ℕ) × (IsPivot t p × (pos 0 <ℤ entry_at t p))) ys y ey.leading cy in
    let up_y : pos 0 <ℤ entry_at y p = subst (λ t. pos 0 <ℤ entry_at y t) (pivot_unique y lead_y.0 p lead_y.1.0 py) lead_y.1.1 in
    let a : ℤ = entry_at y p in let b : ℤ = entry_at x p in
    let lx : length x ≡ n = All-contains (λ t. length t ≡ n) xs x wx c in let ly : length y ≡ n = All-contains (λ t. length t ≡ n) ys y wy cy in
    let z : List ℤ = vector_sum (scaled a x) (scaled (neg_ℤ b) y) in
    let lz = (dv a ⊡ vv x lx ⊞ dneg (dv b) ⊡ vv y ly).long in
    let mz : Made n [] xs z = summed n [] xs _ _ _ refl (span-times n xs a x (own_member n xs x lx c)) (span-times n xs (neg_ℤ b) y (from y cy)) in
    let at : (q : ℕ) → entry_at z q ≡ a *ℤ entry_at x q +ℤ neg_ℤ b *ℤ entry_at y q = λ q. entry_plus (scaled a x) (scaled (neg_ℤ b) y) q
    (length-times a x ∙ lx ∙ sym ly ∙ sym (length-times (neg_ℤ b) y)) ∙ ap₂ ◌+ℤ◌ (entry_times a x q) (entry_times (neg_ℤ b) y q) in
    let nothing_left : z ≡ zeros n = span_none n xs z wx ex mz lz (λ t q ct pt. elim (cases_eq p q) [
      | inl e ↦ at q ∙ ap (λ k. a *ℤ entry_at x k +ℤ neg_ℤ b *ℤ entry_at y k) (sym e) ∙ even b a
      | inr ne ↦
          let g = span_pivot n ys t q wy ey (to t ct) pt in
          at q ∙ linear_zero a (neg_ℤ b) (entry_at x q) (entry_at y q) (ex.alone t x q p ct c pt px (λ e. ne (sym e)))
          (ey.alone g.0 y q p g.1.0 cy g.1.1 py (λ e. ne (sym e)))
    ]) in
    let crosswise : scaled a x ≡ scaled b y =
    vsame (dv a ⊡ vv x lx) ((dv a ⊡ vv x lx ⊞ dneg (dv b) ⊡ vv y ly) ⊞ dv b ⊡ vv y ly) (λ t. omega arith) ∙ ap (λ t. vector_sum t (scaled b y)) nothing_left ∙
    vsame (vz n ⊞ dv b ⊡ vv y ly) (dv b ⊡ vv y ly) (λ t. omega arith) in
    let e : x ≡ y = primitive_same y x a b up_y lead.1.1 crosswise (All-contains IsPrimitive ys y ey.primitive cy)
    (All-contains IsPrimitive xs x ex.primitive c) (λ q. py.not_zero (zero_entry y p q)) in
    subst (Contains ys) (sym e) cy

-- two echelon bases of one span are one
pub one_basis : (n : ℕ) (xs ys : List (List ℤ)) → AreRows n xs → AreRows n ys → IsEchelon xs → IsEchelon ys → ((v : List ℤ) → Contains xs v → Made n [] ys v) →
    ((v : List ℤ) → Contains ys v → Made n [] xs v) → xs ≡ ys
one_basis n xs ys wx wy ex ey to from =
    same_ordered (λ x y. (p q : ℕ) → IsPivot x p → IsPivot y q → p < q) xs ys
    (λ x y cx cy r s.
    let p = All-contains (λ t. (p : ℕ) × (IsPivot t p × (pos 0 <ℤ entry_at t p))) xs x ex.leading cx in
    let q = All-contains (λ t. (p : ℕ) × (IsPivot t p × (pos 0 <ℤ entry_at t p))) xs y ex.leading cy in
    let a : p.0 < q.0 = r p.0 q.0 p.1.0 q.1.0 in let b : q.0 < p.0 = s q.0 p.0 q.1.0 p.1.0 in omega (arith, a, b))
    ex.rising ey.rising (λ x c. basis_member n xs ys x wx wy ex ey to from c) (λ x c. basis_member n ys xs x wy wx ey ex from to c)
