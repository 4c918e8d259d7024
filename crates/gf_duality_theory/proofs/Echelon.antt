-- What an elimination leaves: pivots rise, each is alone in its column, and the span is the same.
use Rattle.std.proofs.Common.{◌≡◌, ◌≢◌, ℕ, zero, suc, ◌<◌, List, [], ◌∷◌, ◌++◌, length, ℤ, pos, ◌+ℤ◌, ◌*ℤ◌, neg_ℤ, ◌<ℤ◌, arith, sym, refl, ap, ap₂, ◌∙◌, subst}
use Rattle.std.proofs.Common.{Contains, ◌⊎◌, inl, inr, get_or, AllPairs, remove, negsuc, unsigned_abs}
use Rattle.std.specs.Int.{int_signum}
use Rattle.std.specs.List.{AllZip}
use Rattle.std.proofs.lemmas.Int.{ints}
use Rattle.std.proofs.lemmas.List.{get_or_default}
use Rattle.std.proofs.lemmas.List.Elements.{AllZip-get_or, length_all_zip, All-contains, Contains-append_left, Contains-append_right, Contains-append_cases}
use Rattle.std.proofs.lemmas.List.Elements.{Contains-push}
use Rattle.std.proofs.lemmas.List.Quantifiers.{all_pairs_push}
use Rattle.gf_int_theory.specs.Content.{IsPrimitive, scaled}
use Rattle.gf_int_theory.proofs.RingLaws.{same, dv, dn, dneg, ◌⊗◌, ◌⊕◌}
use Rattle.gf_int_theory.proofs.SignLaws.{zero-cancel, zero_product}
use Rattle.gf_int_theory.proofs.ListLaws.{Contains-last, all_by}
use Rattle.gf_vec.specs.Vector.{vector_sum, zeros, entry_at}
use Rattle.gf_vec.proofs.VectorLaws.{length-times, length-plus}
use Rattle.gf_gordan.specs.Elimination.{IsPivot, row_at, size_at, signed_at}
use Rattle.gf_duality_theory.specs.Generators.{Made, nothing, line, summed, divided}
use Rattle.gf_duality_theory.specs.Rays.{IsEchelon}
use Rattle.gf_duality_theory.specs.Elimination.{IsTurned, IsFirstAt, IsEliminated, begun, skipped, turned, IsNormalised, IsEchelonBasis}
use Rattle.gf_duality_theory.proofs.ListLaws.{none_in, in_cons, in_more, zip_from, zip_to, index, less, at, more, of_rest, rest_cover}
use Rattle.gf_vec.proofs.EntryLaws.{signum_up, entry_times, entry_plus, cancel, all_zero}
use Rattle.gf_duality_theory.proofs.PivotLaws.{pivot_unique}
use Rattle.gf_vec.proofs.VectorIdentities.{vv, ◌⊞◌, ◌⊡◌, vsame}
use Rattle.gf_duality_theory.proofs.Made.{Made-into, span-times}

-- ---- one row turned

-- a positive multiple of u is a positive multiple of t and some of r, and u is zero in column j
pub record Turned (n j : ℕ) (r t u : List ℤ) : Type 0 where
  pub long : length u ≡ n
  pub c : ℤ
  pub c_positive : pos 0 <ℤ c
  pub a : ℤ
  pub a_positive : pos 0 <ℤ a
  pub b : ℤ
  pub is : scaled c u ≡ vector_sum (scaled a t) (scaled b r)
  pub at : entry_at u j ≡ pos 0

settled : (x y : ℤ) → pos (unsigned_abs x) *ℤ y +ℤ neg_ℤ (int_signum x *ℤ y) *ℤ x ≡ pos 0
settled (pos zero) y = same (dn 0 ⊗ dv y ⊕ dneg (dn 0 ⊗ dv y) ⊗ dn 0) (dn 0) (omega arith)
settled (pos (suc n)) y = ap (λ z. pos (suc n) *ℤ y +ℤ neg_ℤ (z *ℤ y) *ℤ pos (suc n)) (signum_up n) ∙ same (dn (suc n) ⊗ dv y ⊕ dneg (dn 1 ⊗ dv y) ⊗ dn (suc n))
    (dn 0) (omega arith)
settled (negsuc n) y = same (dn (suc n) ⊗ dv y ⊕ dneg (dneg (dn 1) ⊗ dv y) ⊗ dneg (dn (suc n))) (dn 0) (omega arith)

pub size_positive : (x : ℤ) → x ≢ pos 0 → pos 0 <ℤ pos (unsigned_abs x)
size_positive (pos zero) n = absurd (n refl)
size_positive (pos (suc x)) n = omega (arith, ints)
size_positive (negsuc x) n = omega (arith, ints)

pub turned_of : (n j : ℕ) (r t u : List ℤ) → length t ≡ n → length r ≡ n → entry_at r j ≢ pos 0 → IsTurned r j t u → Turned n j r t u
turned_of n j r t u lt lr nz d =
    let a = size_at r j in let b = neg_ℤ (signed_at r j t) in
    let same_len : length (scaled a t) ≡ length (scaled b r) = length-times a t ∙ lt ∙ sym lr ∙ sym (length-times b r) in
    record {
      long = sym (length-times d.0 u) ∙ ap length d.1.multiple ∙ length-plus (scaled a t) (scaled b r) same_len ∙ length-times a t ∙ lt;
      c = d.0;
      c_positive = d.1.positive;
      a = a;
      a_positive = size_positive (entry_at r j) nz;
      b = b;
      is = d.1.multiple;
      at = zero-cancel d.0 (entry_at u j) d.1.positive (sym (entry_times d.0 u j) ∙ ap (λ v. entry_at v j) d.1.multiple ∙ entry_plus (scaled a t) (scaled b r)
          j same_len
          ∙ ap₂ ◌+ℤ◌ (entry_times a t j) (entry_times b r j) ∙ settled (entry_at r j) (entry_at t j));
    }

turned_entry : (n j : ℕ) (r t u : List ℤ) (i : ℕ) → length t ≡ n → length r ≡ n → (s : Turned n j r t u) →
    s.c *ℤ entry_at u i ≡ s.a *ℤ entry_at t i +ℤ s.b *ℤ entry_at r i
turned_entry n j r t u i lt lr s = sym (entry_times s.c u i) ∙ ap (λ v. entry_at v i) s.is
    ∙ entry_plus (scaled s.a t) (scaled s.b r) i (length-times s.a t ∙ lt ∙ sym lr ∙ sym (length-times s.b r)) ∙ ap₂ ◌+ℤ◌ (entry_times s.a t i)
    (entry_times s.b r i)

pub linear_zero : (a b x y : ℤ) → x ≡ pos 0 → y ≡ pos 0 → a *ℤ x +ℤ b *ℤ y ≡ pos 0
linear_zero a b x y e f = rw (e, f) (omega (arith, ints))

linear_left : (a b x y : ℤ) → y ≡ pos 0 → a *ℤ x +ℤ b *ℤ y ≡ a *ℤ x
linear_left a b x y f = rw f (omega (arith, ints))

-- zero where both are
turned_zero : (n j : ℕ) (r t u : List ℤ) (i : ℕ) → length t ≡ n → length r ≡ n → Turned n j r t u → entry_at t i ≡ pos 0 → entry_at r i ≡ pos 0 →
    entry_at u i ≡ pos 0
turned_zero n j r t u i lt lr s e f = zero-cancel s.c (entry_at u i) s.c_positive (turned_entry n j r t u i lt lr s ∙ linear_zero s.a s.b (entry_at t i)
    (entry_at r i) e f)

-- not zero where t is not and r is
turned_not_zero : (n j : ℕ) (r t u : List ℤ) (i : ℕ) → length t ≡ n → length r ≡ n → Turned n j r t u → entry_at r i ≡ pos 0 → entry_at u i ≡ pos 0 →
    entry_at t i ≡ pos 0
turned_not_zero n j r t u i lt lr s f z = zero-cancel s.a (entry_at t i) s.a_positive (sym (linear_left s.a s.b (entry_at t i) (entry_at r i) f) ∙
    sym (turned_entry n j r t u i lt lr s) ∙ zero_product s.c (entry_at u i) z)

-- ---- the shape

pub record Shape (n j : ℕ) (done left : List (List ℤ)) : Type 0 where
  pub done_width : (x : List ℤ) → Contains done x → length x ≡ n
  pub left_width : (x : List ℤ) → Contains left x → length x ≡ n
  pub left_zero : (x : List ℤ) (i : ℕ) → Contains left x → i < j → entry_at x i ≡ pos 0
  pub pivoted : (x : List ℤ) → Contains done x → (p : ℕ) × ((p < j) × IsPivot x p)
  pub alone : (x y : List ℤ) (p q : ℕ) → Contains done x → Contains done y → IsPivot x p → IsPivot y q → p ≢ q → entry_at y p ≡ pos 0
  pub rising : AllPairs (λ x y. (p q : ℕ) → IsPivot x p → IsPivot y q → p < q) done

turned_pivot : (n j : ℕ) (r t u : List ℤ) (p : ℕ) → length t ≡ n → length r ≡ n → p < j → ((i : ℕ) → i < j → entry_at r i ≡ pos 0) → Turned n j r t u →
    IsPivot t p → IsPivot u p
turned_pivot n j r t u p lt lr h z s k = record {
  inside = let a = k.inside in let b : length u ≡ length t = s.long ∙ sym lt in omega (arith, a, b);
  not_zero = λ e. k.not_zero (turned_not_zero n j r t u p lt lr s (z p h) e);
  first = λ i hi. turned_zero n j r t u i lt lr s (k.first i hi) (z i (omega arith));
}

-- the row that has its turn
pub turn_in : (left : List (List ℤ)) (j k : ℕ) → IsFirstAt left j k → Contains left (row_at left k)
turn_in left j k f = (k, f.inside, get_or_default left k (row_at left k) [] f.inside)

pub shape : (n : ℕ) (rows : List (List ℤ)) (j : ℕ) (done left : List (List ℤ)) → ((x : List ℤ) → Contains rows x → length x ≡ n) →
    IsEliminated n rows j done left → Shape n j done left
shape n rows j done left w begun = record {
  done_width = λ x c. absurd (none_in x c);
  left_width = w;
  left_zero = λ x i c h. absurd (omega arith);
  pivoted = λ x c. absurd (none_in x c);
  alone = λ x y p q c. absurd (none_in x c);
  rising = λ i k d h l. absurd (omega arith);
}
shape n rows j done left w (skipped b m old rest e z g) =
    let s = shape n rows b old rest w g in
    record {
      done_width = s.done_width;
      left_width = s.left_width;
      left_zero = λ x i c h. elim (index b i) [
        | less k ↦ s.left_zero x i c k
        | at q ↦ subst (λ t. entry_at x t ≡ pos 0) q (All-contains (λ t. entry_at t b ≡ pos 0) rest x z c)
        | more k ↦ absurd (omega arith)
      ];
      pivoted = λ x c. let p = s.pivoted x c in (p.0, (omega (arith, p.1.0, e), p.1.1));
      alone = s.alone;
      rising = s.rising;
    }
shape n rows j done left w (turned b m old from others rest out kk e hb f zd zr q g) =
    let s = shape n rows b old from w g in
    let r : List ℤ = row_at from kk in
    let nz = f.not_zero in
    let lr : length r ≡ n = s.left_width r (turn_in from b kk f) in
    let rz : (i : ℕ) → i < b → entry_at r i ≡ pos 0 = λ i h. s.left_zero r i (turn_in from b kk f) h in
    let rp : IsPivot r b = record { inside = omega (arith, lr, hb); not_zero = nz; first = rz } in
    let back : (u : List ℤ) → Contains others u → (t : List ℤ) × (Contains old t × Turned n b r t u) = λ u c.
    let t = zip_from (IsTurned r b) old others u zd c in (t.0, (t.1.0, turned_of n b r t.0 u (s.done_width t.0 t.1.0) lr nz t.1.1)) in
    let to : (u : List ℤ) → Contains rest u → (t : List ℤ) × (Contains from t × Turned n b r t u) = λ u c.
    let t = zip_from (IsTurned r b) (remove from kk) rest u zr c in let i =
    of_rest from kk t.0 f.inside t.1.0 in (t.0, (i, turned_of n b r t.0 u (s.left_width t.0 i) lr nz t.1.1)) in
    let pivot_of : (u : List ℤ) (c : Contains others u) → (p : ℕ) × ((p < b) × IsPivot (back u c).0 p × IsPivot u p) = λ u c.
    let t = back u c in let p = s.pivoted t.0 t.1.0 in (p.0, (p.1.0, p.1.1, turned_pivot n b r t.0 u p.0 (s.done_width t.0 t.1.0) lr p.1.0 rz t.1.1 p.1.1)) in
    subst (λ l. Shape n m l rest) (sym q) (record {
      done_width = in_more (λ u. length u ≡ n) others r (λ u c. (back u c).1.1.long) lr;
      left_width = λ u c. (to u c).1.1.long;
      left_zero = λ u i c h. let t = to u c in elim (index b i) [
        | less k ↦ turned_zero n b r t.0 u i (s.left_width t.0 t.1.0) lr t.1.1 (s.left_zero t.0 i t.1.0 k) (rz i k)
        | at z ↦ subst (λ k. entry_at u k ≡ pos 0) z t.1.1.at
        | more k ↦ absurd (omega arith)
      ];
      pivoted = in_more (λ u. (p : ℕ) × ((p < m) × IsPivot u p)) others r (λ u c. let p = pivot_of u c in (p.0, (omega (arith, p.1.0, e), p.1.2))) (
        b,
        (omega (arith, e), rp),
      );
      alone = λ x y p k cx cy px py ne. elim (Contains-last others r x cx) [
        | inl ax ↦
            let tx = back x ax in let hx = pivot_of x ax in
            let ep : hx.0 ≡ p = pivot_unique x hx.0 p hx.1.2 px in
            let lp : p < b = subst (λ t. t < b) ep hx.1.0 in
            elim (Contains-last others r y cy) [
              | inl ay ↦
                  let ty = back y ay in let hy = pivot_of y ay in
                  let eq : hy.0 ≡ k = pivot_unique y hy.0 k hy.1.2 py in
                  turned_zero n b r ty.0 y p (s.done_width ty.0 ty.1.0) lr ty.1.1
                  (s.alone tx.0 ty.0 p k tx.1.0 ty.1.0 (subst (IsPivot tx.0) ep hx.1.1) (subst (IsPivot ty.0) eq hy.1.1) ne) (rz p lp)
              | inr ey ↦ ap (λ t. entry_at t p) ey ∙ rz p lp
            ]
        | inr ex ↦
            let ep : b ≡ p = pivot_unique r b p rp (subst (λ t. IsPivot t p) ex px) in
            elim (Contains-last others r y cy) [
              | inl ay ↦ let ty = back y ay in subst (λ t. entry_at y t ≡ pos 0) ep ty.1.1.at
              | inr ey ↦ absurd (ne (sym ep ∙ pivot_unique r b k rp (subst (λ t. IsPivot t k) ey py)))
            ]
      ];
      rising = all_pairs_push (λ x y. (p q : ℕ) → IsPivot x p → IsPivot y q → p < q) others r
          (λ i k d h l p z px pz.
          let lo : length old ≡ length others = length_all_zip (IsTurned r b) old others zd in
          let hi : i < length old = omega (arith, lo, h, l) in let hk : k < length old = omega (arith, lo, l) in
          let ci : Contains old (get_or old i d) = (i, hi, get_or_default old i (get_or old i d) d hi) in
          let ck : Contains old (get_or old k d) = (k, hk, get_or_default old k (get_or old k d) d hk) in
          let li = s.done_width (get_or old i d) ci in let lk = s.done_width (get_or old k d) ck in
          let a = s.pivoted (get_or old i d) ci in let c = s.pivoted (get_or old k d) ck in
          let ua = turned_pivot n b r (get_or old i d) (get_or others i d) a.0 li lr a.1.0 rz
          (turned_of n b r _ _ li lr nz (AllZip-get_or (IsTurned r b) old others i d d zd hi)) a.1.1 in
          let uc = turned_pivot n b r (get_or old k d) (get_or others k d) c.0 lk lr c.1.0 rz
          (turned_of n b r _ _ lk lr nz (AllZip-get_or (IsTurned r b) old others k d d zd hk)) c.1.1 in
          let ea : a.0 ≡ p = pivot_unique (get_or others i d) a.0 p ua px in let ec : c.0 ≡ z = pivot_unique (get_or others k d) c.0 z uc pz in
          let u : a.0 < c.0 = s.rising i k d h hk a.0 c.0 a.1.1 c.1.1 in omega (arith, u, ea, ec))
          (λ k d h p z px pz.
          let ck : Contains others (get_or others k d) = (k, h, get_or_default others k (get_or others k d) d h) in
          let hx = pivot_of (get_or others k d) ck in
          let ep : hx.0 ≡ p = pivot_unique (get_or others k d) hx.0 p hx.1.2 px in
          let ez : b ≡ z = pivot_unique r b z rp pz in
          let lp = hx.1.0 in omega (arith, lp, ep, ez));
    })

-- ---- the span

-- two lists that generate the same
pub record SameSpan (n : ℕ) (rows now : List (List ℤ)) : Type 0 where
  pub width : (x : List ℤ) → Contains now x → length x ≡ n
  pub to : (x : List ℤ) → Contains rows x → Made n [] now x
  pub from : (x : List ℤ) → Contains now x → Made n [] rows x

pub own_member : (n : ℕ) (ys : List (List ℤ)) (x : List ℤ) → length x ≡ n → Contains ys x → Made n [] ys x
own_member n ys x l c = line n [] ys (pos 1) x x l c (vsame (vv x l) (dn 1 ⊡ vv x l) (λ w. omega arith))

pub span_into : (n : ℕ) (ys zs : List (List ℤ)) (v : List ℤ) → ((y : List ℤ) → Contains ys y → Made n [] zs y) → Made n [] ys v → Made n [] zs v
span_into n ys zs v f m = Made-into n [] ys [] zs v (λ y l c. absurd (none_in y c)) (λ a y l c. span-times n zs a y (f y c)) m

turned_back : (n j : ℕ) (zs : List (List ℤ)) (r t u : List ℤ) → length t ≡ n → length r ≡ n → Turned n j r t u → Made n [] zs r → Made n [] zs u →
    Made n [] zs t
turned_back n j zs r t u lt lr s mr mu =
    let a = s.a in let b = s.b in
    divided n [] zs a t _ s.a_positive (vsame (dv a ⊡ vv t lt) (dv a ⊡ vv t lt ⊞ dv b ⊡ vv r lr ⊞ dneg (dv b) ⊡ vv r lr) (λ w. omega arith) ∙
    ap (λ z. vector_sum z (scaled (neg_ℤ b) r)) (sym s.is))
    (summed n [] zs _ _ _ refl (span-times n zs s.c u mu) (span-times n zs (neg_ℤ b) r mr))

turned_on : (n j : ℕ) (zs : List (List ℤ)) (r t u : List ℤ) → Turned n j r t u → Made n [] zs r → Made n [] zs t → Made n [] zs u
turned_on n j zs r t u s mr mt = divided n [] zs s.c u _ s.c_positive s.is (summed n [] zs _ _ _ refl (span-times n zs s.a t mt) (span-times n zs s.b r mr))

-- the rows that had their turn and those that are left generate what the rows do
pub eliminated_span : (n : ℕ) (rows : List (List ℤ)) (j : ℕ) (done left : List (List ℤ)) → ((x : List ℤ) → Contains rows x → length x ≡ n) →
    IsEliminated n rows j done left → SameSpan n rows (done ++ left)
eliminated_span n rows j done left w begun = record { width = w; to = λ x c. own_member n rows x (w x c) c; from = λ x c. own_member n rows x (w x c) c }
eliminated_span n rows j done left w (skipped b m old rest e z g) = eliminated_span n rows b old rest w g
eliminated_span n rows j done left w (turned b m old from others rest out k e hb f zd zr q g) =
    let s = eliminated_span n rows b old from w g in
    let sh = shape n rows b old from w g in
    let r : List ℤ = row_at from k in
    let nz = f.not_zero in
    let lr : length r ≡ n = sh.left_width r (turn_in from b k f) in
    let mr : Made n [] rows r = s.from r (Contains-append_right old from r (turn_in from b k f)) in
    let now : List (List ℤ) = (others ++ r ∷ []) ++ rest in
    let cr : Contains now r = Contains-append_left (others ++ r ∷ []) rest r (Contains-push others r) in
    let own : Made n [] now r = own_member n now r lr cr in
    let of_done : (t u : List ℤ) → Contains old t → IsTurned r b t u → Turned n b r t u = λ t u c i. turned_of n b r t u (sh.done_width t c) lr nz i in
    let of_left : (t u : List ℤ) → Contains from t → IsTurned r b t u → Turned n b r t u = λ t u c i. turned_of n b r t u (sh.left_width t c) lr nz i in
    let result : SameSpan n rows now = record {
      width = λ u c. elim (Contains-append_cases (others ++ r ∷ []) rest u c) [
        | inl a ↦ elim (Contains-last others r u a) [
          | inl i ↦ let t = zip_from (IsTurned r b) old others u zd i in (of_done t.0 u t.1.0 t.1.1).long
          | inr i ↦ ap length i ∙ lr
        ]
        | inr a ↦ let t = zip_from (IsTurned r b) (remove from k) rest u zr a in (of_left t.0 u (of_rest from k t.0 f.inside t.1.0) t.1.1).long
      ];
      to = λ x c. span_into n (old ++ from) now x (λ t ct. elim (Contains-append_cases old from t ct) [
        | inl a ↦ let u = zip_to (IsTurned r b) old others t zd a in let i = of_done t u.0 a u.1.1 in
            turned_back n b now r t u.0 (sh.done_width t a) lr i own
            (own_member n now u.0 i.long (Contains-append_left (others ++ r ∷ []) rest u.0 (Contains-append_left others (r ∷ []) u.0 u.1.0)))
        | inr a ↦ elim (rest_cover from k [] t f.inside a) [
          | inl d ↦ let u = zip_to (IsTurned r b) (remove from k) rest t zr d in let i = of_left t u.0 a u.1.1 in
              turned_back n b now r t u.0 (sh.left_width t a) lr i own (own_member n now u.0 i.long (Contains-append_right (others ++ r ∷ []) rest u.0 u.1.0))
          | inr d ↦ elim (in_cons r [] t d) [ inl y ↦ subst (Made n [] now) (sym y) own | inr y ↦ absurd (none_in t y) ]
        ]
      ]) (s.to x c);
      from = λ u c. elim (Contains-append_cases (others ++ r ∷ []) rest u c) [
        | inl a ↦ elim (Contains-last others r u a) [
          | inl i ↦ let t = zip_from (IsTurned r b) old others u zd i in turned_on n b rows r t.0 u (of_done t.0 u t.1.0 t.1.1) mr
              (s.from t.0 (Contains-append_left old from t.0 t.1.0))
          | inr i ↦ subst (Made n [] rows) (sym i) mr
        ]
        | inr a ↦ let t = zip_from (IsTurned r b) (remove from k) rest u zr a in let i = of_rest from k t.0 f.inside t.1.0 in
            turned_on n b rows r t.0 u (of_left t.0 u i t.1.1) mr (s.from t.0 (Contains-append_right old from t.0 i))
      ];
    } in
    subst (λ l. SameSpan n rows (l ++ rest)) (sym q) result

-- ---- normal rows

normal_long : (n : ℕ) (t z : List ℤ) → length t ≡ n → IsNormalised t z → length z ≡ n
normal_long n t z l s = sym (length-times s.factor z) ∙ ap length s.multiple ∙ l

normal_entry : (t z : List ℤ) (i : ℕ) → (s : IsNormalised t z) → s.factor *ℤ entry_at z i ≡ entry_at t i
normal_entry t z i s = sym (entry_times s.factor z i) ∙ ap (λ v. entry_at v i) s.multiple

normal_pivot : (n : ℕ) (t z : List ℤ) (p : ℕ) → length t ≡ n → IsNormalised t z → IsPivot t p → IsPivot z p
normal_pivot n t z p lt s k = record {
  inside = let a = k.inside in let b : length z ≡ length t = normal_long n t z lt s ∙ sym lt in omega (arith, a, b);
  not_zero = λ e. k.not_zero (sym (normal_entry t z p s) ∙ zero_product s.factor (entry_at z p) e);
  first = λ i hi. cancel s.factor (entry_at z i) s.not_zero (normal_entry t z i s ∙ k.first i hi);
}

pub echelon : (n j : ℕ) (done left out : List (List ℤ)) → Shape n j done left → AllZip IsNormalised done out → IsEchelon out
echelon n j done left out s zip =
    let back : (z : List ℤ) → Contains out z → (t : List ℤ) × (Contains done t × IsNormalised t z) = λ z c. zip_from IsNormalised done out z zip c in
    let pivot_of : (z : List ℤ) (c : Contains out z) → (p : ℕ) × (IsPivot (back z c).0 p × IsPivot z p) = λ z c.
    let t = back z c in let p = s.pivoted t.0 t.1.0 in (p.0, (p.1.1, normal_pivot n t.0 z p.0 (s.done_width t.0 t.1.0) t.1.1 p.1.1)) in
    let lo : length done ≡ length out = length_all_zip IsNormalised done out zip in
    record {
      rising = λ i k d h l p q pi pk.
          let hi : i < length done = omega (arith, lo, h, l) in let hk : k < length done = omega (arith, lo, l) in
          let ci : Contains done (get_or done i d) = (i, hi, get_or_default done i (get_or done i d) d hi) in
          let ck : Contains done (get_or done k d) = (k, hk, get_or_default done k (get_or done k d) d hk) in
          let a = s.pivoted (get_or done i d) ci in let c = s.pivoted (get_or done k d) ck in
          let ea : a.0 ≡ p = pivot_unique (get_or out i d) a.0 p (normal_pivot n (get_or done i d) (get_or out i d) a.0 (s.done_width (get_or done i d) ci)
          (AllZip-get_or IsNormalised done out i d d zip hi) a.1.1) pi in
          let ec : c.0 ≡ q = pivot_unique (get_or out k d) c.0 q (normal_pivot n (get_or done k d) (get_or out k d) c.0 (s.done_width (get_or done k d) ck)
          (AllZip-get_or IsNormalised done out k d d zip hk) c.1.1) pk in
          let u : a.0 < c.0 = s.rising i k d h hk a.0 c.0 a.1.1 c.1.1 in omega (arith, u, ea, ec);
      leading = all_by (λ x. (p : ℕ) × (IsPivot x p × (pos 0 <ℤ entry_at x p))) out (λ z c. let p = pivot_of z c in
          (p.0, (p.1.1, (back z c).1.1.leading p.0 p.1.1)));
      alone = λ x y p q cx cy px py ne.
          let tx = back x cx in let ty = back y cy in let hx = pivot_of x cx in let hy = pivot_of y cy in
          let ep : hx.0 ≡ p = pivot_unique x hx.0 p hx.1.1 px in let eq : hy.0 ≡ q = pivot_unique y hy.0 q hy.1.1 py in
          let m = ty.1.1 in
          cancel m.factor (entry_at y p) m.not_zero (normal_entry ty.0 y p m ∙ s.alone tx.0 ty.0 p q tx.1.0 ty.1.0 (subst (IsPivot tx.0) ep hx.1.0)
          (subst (IsPivot ty.0) eq hy.1.0) ne);
      primitive = all_by IsPrimitive out (λ z c. (back z c).1.1.primitive);
    }

-- after all columns what is left is zero
pub left_zeros : (n : ℕ) (done left : List (List ℤ)) (x : List ℤ) → Shape n n done left → Contains left x → x ≡ zeros n
left_zeros n done left x s c = all_zero n x (s.left_width x c) (λ i h. s.left_zero x i c h)

-- a number that isn't zero, or its negative, is positive
sign_side : (c : ℤ) → c ≢ pos 0 → (pos 0 <ℤ c) ⊎ (pos 0 <ℤ neg_ℤ c)
sign_side (pos zero) n = absurd (n refl)
sign_side (pos (suc c)) n = inl (omega (arith, ints))
sign_side (negsuc c) n = inr (omega (arith, ints))

normal_made : (n : ℕ) (zs : List (List ℤ)) (t z : List ℤ) → length t ≡ n → IsNormalised t z → Made n [] zs t → Made n [] zs z
normal_made n zs t z lt s m =
    let c = s.factor in let lz = normal_long n t z lt s in
    elim (sign_side c s.not_zero) [
      | inl g ↦ divided n [] zs c z t g s.multiple m
      | inr g ↦ divided n [] zs (neg_ℤ c) z (scaled (neg_ℤ (pos 1)) t) g (vsame (dneg (dv c) ⊡ vv z lz) (dneg (dn 1) ⊡ (dv c ⊡ vv z lz)) (λ w. omega arith) ∙
          ap (scaled (neg_ℤ (pos 1))) s.multiple) (span-times n zs (neg_ℤ (pos 1)) t m)
    ]

-- an echelon basis: its form, and its span
pub basis_echelon : (n : ℕ) (rows out : List (List ℤ)) → ((x : List ℤ) → Contains rows x → length x ≡ n) → IsEchelonBasis n rows out → IsEchelon out
basis_echelon n rows out w b = echelon n n b.done b.left out (shape n rows n b.done b.left w b.eliminated) b.normal

pub basis_span : (n : ℕ) (rows out : List (List ℤ)) → ((x : List ℤ) → Contains rows x → length x ≡ n) → IsEchelonBasis n rows out → SameSpan n rows out
basis_span n rows out w b =
    let s = shape n rows n b.done b.left w b.eliminated in
    let t = eliminated_span n rows n b.done b.left w b.eliminated in
    let long : (z : List ℤ) → Contains out z → length z ≡ n = λ z c. let f =
    zip_from IsNormalised b.done out z b.normal c in normal_long n f.0 z (s.done_width f.0 f.1.0) f.1.1 in
    record {
      width = long;
      to = λ x c. span_into n (b.done ++ b.left) out x (λ y i. elim (Contains-append_cases b.done b.left y i) [
        | inl a ↦ let f = zip_to IsNormalised b.done out y b.normal a in
            subst (Made n [] out) f.1.1.multiple (span-times n out f.1.1.factor f.0 (own_member n out f.0 (long f.0 f.1.0) f.1.0))
        | inr a ↦ subst (Made n [] out) (sym (left_zeros n b.done b.left y s a)) (nothing n [] out)
      ]) (t.to x c);
      from = λ z c. let f = zip_from IsNormalised b.done out z b.normal c in normal_made n rows f.0 z (s.done_width f.0 f.1.0) f.1.1
          (t.from f.0 (Contains-append_left b.done b.left f.0 f.1.0));
    }
