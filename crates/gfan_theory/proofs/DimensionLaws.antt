-- The number of variables less the number of implied equations is the dimension of what the rays and lineality vectors of a cone span.
-- To cite: dimensions_agree. The rest are steps.
use Rattle.std.proofs.Common.{◌≡◌, ◌≢◌, ◌⊎◌, ℕ, zero, suc, ◌+◌, ◌<◌, ◌≤◌, List, [], ◌∷◌, ◌++◌, length, get_or, ℤ, pos, ◌+ℤ◌, ◌*ℤ◌, neg_ℤ, ◌<ℤ◌, ◌≤ℤ◌, arith}
use Rattle.std.proofs.Common.{refl}
use Rattle.std.proofs.Common.{sym, ap, ap₂, ◌∙◌, subst, inl, inr, Contains}
use Rattle.std.proofs.lemmas.Bool.{cases_lt}
use Rattle.std.proofs.lemmas.Int.{ints}
use Rattle.std.proofs.lemmas.List.Elements.{All-contains, Contains-append_cases, Contains-append_left, Contains-append_right}
use Rattle.gf_int_theory.specs.Content.{scaled}
use Rattle.gf_int_theory.proofs.RingLaws.{same, dv, dn, dneg, ◌⊕◌, ◌⊗◌}
use Rattle.gf_int_theory.proofs.SignLaws.{zero_product}
use Rattle.gf_int_theory.proofs.ListLaws.{Contains-here, all_by}
use Rattle.gf_vec.specs.Vector.{dot, vector_sum, zeros, entry_at}
use Rattle.gf_vec.proofs.EntryLaws.{entry_times, entry_plus, all_zero}
use Rattle.gf_vec.proofs.VectorLaws.{dot_comm, length-plus, length-times}
use Rattle.gf_vec.proofs.DotLaws.{dot-plus_right, dot-times_right}
use Rattle.gf_vec.proofs.VectorIdentities.{vv, ◌⊞◌, ◌⊡◌, vsame}
use Rattle.gf_gordan.specs.Alternative.{AreRows}
use Rattle.gf_gordan.specs.Elimination.{IsPivot}
use Rattle.gf_duality_theory.specs.Generators.{Made, nothing, line, summed, IsDescribed}
use Rattle.gf_duality_theory.specs.Rays.{IsRays, IsImplied, IsEchelon, Satisfies}
use Rattle.gf_duality_theory.specs.Faces.{IsInterior, sum_of}
use Rattle.gf_duality_theory.proofs.ListLaws.{none_in, in_tail, in_cons}
use Rattle.gf_duality_theory.proofs.Made.{Made-length, Made-dot_zero, Made-into, span-times}
use Rattle.gf_duality_theory.proofs.Generated.{made-generated, generated-made}
use Rattle.gf_duality_theory.proofs.Determined.{described_of}
use Rattle.gf_duality_theory.proofs.Interior.{interior}
use Rattle.gf_duality_theory.proofs.Implied.{ray_in}
use Rattle.gf_duality_theory.proofs.Echelon.{own_member}
use Rattle.gf_duality_theory.proofs.EchelonUnique.{no_widths}
use Rattle.gf_fans_theory.specs.Dimension.{AreFree, HasDimension}
use Rattle.gf_fans_theory.proofs.Rank.{span_divided, dimension_one, dimension_step}
use Rattle.gf_facets_theory.specs.Systems.{unit}
use Rattle.gf_facets_theory.proofs.UnitLaws.{length-unit, dot-unit}
use Rattle.gfan_theory.specs.Dimensions.{DimensionsAgree}
use Rattle.gfan_theory.proofs.RayLines.{lifted_over}
use Rattle.gfan_theory.proofs.ConeRowLaws.{unit_one}

-- ---- unit vectors are a basis of all vectors

none_at : (m i : ℕ) → get_or (zeros m) i (pos 0) ≡ pos 0
none_at zero i = refl
none_at (suc m) zero = refl
none_at (suc m) (suc i) = none_at m i

unit_none : (n i j : ℕ) → (i ≡ j → ⊥) → get_or (unit n i) j (pos 0) ≡ pos 0
unit_none zero i j e = refl
unit_none (suc n) zero zero e = absurd (e refl)
unit_none (suc n) zero (suc j) e = none_at n j
unit_none (suc n) (suc i) zero e = refl
unit_none (suc n) (suc i) (suc j) e = unit_none n i j (λ q. e (ap suc q))

-- the first k of them, the last one in front
axes : ℕ → ℕ → List (List ℤ)
axes n zero = []
axes n (suc k) = unit n k ∷ axes n k

axes_long : (n k : ℕ) → length (axes n k) ≡ k
unfolding axes
axes_long n zero = refl
axes_long n (suc k) = ap suc (axes_long n k)

record IsAxis (n k : ℕ) (x : List ℤ) : Type 0 where
  index : ℕ
  below : index < k
  is : x ≡ unit n index

axis_of : (n k : ℕ) (x : List ℤ) → Contains (axes n k) x → IsAxis n k x
unfolding axes
axis_of n zero x c = absurd (none_in x c)
axis_of n (suc k) x c = elim (in_cons (unit n k) (axes n k) x c) [
  | inl e ↦ record { index = k; below = omega arith; is = e }
  | inr i ↦ let a = axis_of n k x i in record { index = a.index; below = (let l = a.below in omega (arith, l)); is = a.is }
]

axis_width : (n k : ℕ) (x : List ℤ) → Contains (axes n k) x → length x ≡ n
axis_width n k x c = let a = axis_of n k x c in ap length a.is ∙ length-unit n a.index

axes_free : (n k : ℕ) → k ≤ n → AreFree n (axes n k)
unfolding axes
axes_free n zero l = tt
axes_free n (suc k) l = (
  (λ m.
      let own : dot (unit n k) (unit n k) ≡ pos 1 = dot-unit n k (unit n k) (omega (arith, l)) (length-unit n k) ∙ unit_one n k (omega (arith, l)) in
      let flat : dot (unit n k) (unit n k) ≡ pos 0 = Made-dot_zero n [] (axes n k) (unit n k) (unit n k) (λ x c. absurd (none_in x c)) (λ x c.
      let a = axis_of n k x c in
      dot-unit n k x (omega (arith, l)) (axis_width n k x c) ∙ ap (λ (z : List ℤ). get_or z k (pos 0)) a.is
      ∙ unit_none n a.index k (λ e. (let b = a.below in omega (arith, b, e)))) m in
      omega (arith, ints, own, flat)),
  axes_free n k (omega (arith, l)),
)

add_zero : (x y : ℤ) → x +ℤ neg_ℤ x *ℤ pos 1 ≡ pos 0
add_zero x y = omega (arith, ints)

no_more : (x y z : ℤ) → z ≡ pos 0 → x +ℤ neg_ℤ y *ℤ z ≡ x
no_more x y z e = let p = zero_product (neg_ℤ y) z e in omega (arith, ints, p)

-- a vector that is 0 from the index k on
axes_span : (n k : ℕ) (v : List ℤ) → k ≤ n → length v ≡ n → ((i : ℕ) → k ≤ i → i < n → get_or v i (pos 0) ≡ pos 0) → Made n [] (axes n k) v
unfolding axes
axes_span n zero v l lv z = subst (Made n [] []) (sym (all_zero n v lv (λ i h. z i (omega arith) h))) (nothing n [] [])
axes_span n (suc k) v l lv z =
    let x : ℤ = get_or v k (pos 0) in
    let lu = length-unit n k in
    let ls : length (scaled (neg_ℤ (get_or v k (pos 0))) (unit n k)) ≡ n = length-times (neg_ℤ (get_or v k (pos 0))) (unit n k) ∙ lu in
    let rest : List ℤ = vector_sum v (scaled (neg_ℤ (get_or v k (pos 0))) (unit n k)) in
    let long : length (vector_sum v (scaled (neg_ℤ (get_or v k (pos 0))) (unit n k))) ≡ n =
    length-plus v (scaled (neg_ℤ (get_or v k (pos 0))) (unit n k)) (lv ∙ sym ls) ∙ lv in
    let made : Made n [] (axes n k) (vector_sum v (scaled (neg_ℤ (get_or v k (pos 0))) (unit n k))) =
    axes_span n k (vector_sum v (scaled (neg_ℤ (get_or v k (pos 0))) (unit n k))) (omega (arith, l)) long (λ i h m. entries i h m (lv ∙ sym ls)) in
    let up : Made n [] (unit n k ∷ axes n k) (vector_sum v (scaled (neg_ℤ (get_or v k (pos 0))) (unit n k))) =
    Made-into n [] (axes n k) [] (unit n k ∷ axes n k) (vector_sum v (scaled (neg_ℤ (get_or v k (pos 0))) (unit n k))) (λ y m c. absurd (none_in y c))
    (λ a y m c. line n [] (unit n k ∷ axes n k) a y (scaled a y) m (in_tail (unit n k) (axes n k) y c) refl) made in
    summed n [] (unit n k ∷ axes n k) (vector_sum v (scaled (neg_ℤ (get_or v k (pos 0))) (unit n k))) (scaled (get_or v k (pos 0)) (unit n k)) v
    (vsame (vv v lv) (vv v lv ⊞ dneg (dv (get_or v k (pos 0))) ⊡ vv (unit n k) lu ⊞ dv (get_or v k (pos 0)) ⊡ vv (unit n k) lu) (λ w. omega arith)) up
    (line n [] (unit n k ∷ axes n k) (get_or v k (pos 0)) (unit n k) (scaled (get_or v k (pos 0)) (unit n k)) lu (Contains-here (unit n k) (axes n k)) refl)
  where
    entries : (i : ℕ) → k ≤ i → i < n → length v ≡ length (scaled (neg_ℤ (get_or v k (pos 0))) (unit n k)) →
        get_or (vector_sum v (scaled (neg_ℤ (get_or v k (pos 0))) (unit n k))) i (pos 0) ≡ pos 0
    entries i h m e =
        entry_plus v (scaled (neg_ℤ (get_or v k (pos 0))) (unit n k)) i e
        ∙ ap (λ (t : ℤ). get_or v i (pos 0) +ℤ t) (entry_times (neg_ℤ (get_or v k (pos 0))) (unit n k) i) ∙ at (cases_lt k i)
      where
        at : (k < i) ⊎ (i ≤ k) → get_or v i (pos 0) +ℤ neg_ℤ (get_or v k (pos 0)) *ℤ get_or (unit n k) i (pos 0) ≡ pos 0
        at (inl p) = no_more (get_or v i (pos 0)) (get_or v k (pos 0)) (get_or (unit n k) i (pos 0)) (unit_none n k i (λ q. omega (arith, p, q))) ∙ z i p m
        at (inr p) =
            let q : i ≡ k = omega (arith, p, h) in
            ap (λ (j : ℕ). get_or v j (pos 0) +ℤ neg_ℤ (get_or v k (pos 0)) *ℤ get_or (unit n k) j (pos 0)) q
            ∙ ap (λ (t : ℤ). get_or v k (pos 0) +ℤ neg_ℤ (get_or v k (pos 0)) *ℤ t) (unit_one n k (let r : k < n = omega (arith, m, h) in r))
            ∙ add_zero (get_or v k (pos 0)) (pos 0)

whole_dimension : (n : ℕ) → HasDimension n (axes n n) n
whole_dimension n = record {
  basis = axes n n;
  width = axis_width n n;
  free = axes_free n n (omega arith);
  to = λ x c. own_member n (axes n n) x (axis_width n n x c) c;
  from = λ x c. own_member n (axes n n) x (axis_width n n x c) c;
  long = axes_long n n;
}

-- ---- rows of which each has an entry that the later ones lack

abbrev IsStair : ℕ → List (List ℤ) → Type 0
IsStair n [] = Unit {0}
IsStair n (t ∷ ts) =
    ((p : ℕ) × (p < n) × (entry_at t p ≢ pos 0) × ((s : List ℤ) → Contains ts s → entry_at s p ≡ pos 0)) × IsStair n ts

stair_of : (n : ℕ) (rows whole : List (List ℤ)) → AreRows n whole → IsEchelon whole → ((x : List ℤ) → Contains rows x → Contains whole x) →
    ((i j : ℕ) (d : List ℤ) → i < j → j < length rows → (p q : ℕ) → IsPivot (get_or rows i d) p → IsPivot (get_or rows j d) q → p < q) → IsStair n rows
stair_of n [] whole w e sub up = tt
stair_of n (t ∷ ts) whole w e sub up = (
  (lead.0, inside, some, later),
  stair_of n ts whole w e (λ x c. sub x (in_tail t ts x c)) (λ i j d h l. up (suc i) (suc j) d (omega (arith, h)) (omega (arith, l))),
)
  where
    leads : (x : List ℤ) → Contains whole x → (p : ℕ) × (IsPivot x p × (pos 0 <ℤ entry_at x p))
    leads x c = All-contains (λ x. (p : ℕ) × (IsPivot x p × (pos 0 <ℤ entry_at x p))) whole x e.leading c

    here : Contains whole t
    here = sub t (Contains-here t ts)

    lead : (p : ℕ) × (IsPivot t p × (pos 0 <ℤ entry_at t p))
    lead = leads t here

    inside : lead.0 < n
    inside = let l = lead.1.0.inside in let m = All-contains (λ x. length x ≡ n) whole t w here in omega (arith, l, m)

    some : entry_at t lead.0 ≢ pos 0
    some = lead.1.0.not_zero

    later : (s : List ℤ) → Contains ts s → entry_at s lead.0 ≡ pos 0
    later s c =
        let there = sub s (in_tail t ts s c) in
        let k = leads s there in
        let l : lead.0 < k.0 = up 0 (suc c.0) s (omega arith) (let b = c.1 in omega (arith, b)) lead.0 k.0 lead.1.0
        (subst (λ (x : List ℤ). IsPivot x k.0) (sym c.2) k.1.0) in
        e.alone t s lead.0 k.0 here there lead.1.0 k.1.0 (λ q. omega (arith, l, q))

-- ---- one dimension for each row

climb : (n : ℕ) (rows vectors : List (List ℤ)) (d : ℕ) → ((t : List ℤ) → Contains rows t → length t ≡ n) → ((x : List ℤ) → Contains vectors x → length x ≡ n) →
    IsStair n rows → ((t x : List ℤ) → Contains rows t → Contains vectors x → dot t x ≡ pos 0) →
    ((v : List ℤ) → length v ≡ n → ((t : List ℤ) → Contains rows t → dot t v ≡ pos 0) → Made n [] vectors v) → HasDimension n vectors d → d + length rows ≡ n
climb n [] vectors d wr wv stair flat complete h =
    let e : d ≡ n = dimension_one n vectors (axes n n) d n h (whole_dimension n)
    (λ x c. axes_span n n x (omega arith) (wv x c) (λ i k m. absurd (omega (arith, k, m))))
    (λ x c. complete x (axis_width n n x c) (λ t k. absurd (none_in t k))) in
    omega (arith, e)
climb n (t ∷ rows) vectors d wr wv stair flat complete h =
    let k = climb n rows (y ∷ vectors) (suc d) (λ s c. wr s (in_tail t rows s c)) wide stair.1 flat_more complete_more step in
    omega (arith, k)
  where
    p : ℕ
    p = stair.0.0

    y : List ℤ
    y = unit n p

    ly : length y ≡ n
    ly = length-unit n p

    lt : length t ≡ n
    lt = wr t (Contains-here t rows)

    at_y : (s : List ℤ) → length s ≡ n → dot s y ≡ entry_at s p
    at_y s l = dot_comm s y ∙ dot-unit n p s stair.0.1 l

    wide : (x : List ℤ) → Contains (y ∷ vectors) x → length x ≡ n
    wide x c = elim (in_cons y vectors x c) [ inl e ↦ ap length e ∙ ly | inr k ↦ wv x k ]

    some : dot t y ≢ pos 0
    some e = stair.0.2 (sym (at_y t lt) ∙ e)

    flat_more : (s x : List ℤ) → Contains rows s → Contains (y ∷ vectors) x → dot s x ≡ pos 0
    flat_more s x c k = elim (in_cons y vectors x k) [
      | inl e ↦ ap (λ (z : List ℤ). dot s z) e ∙ at_y s (wr s (in_tail t rows s c)) ∙ stair.0.3 s c
      | inr i ↦ flat s x (in_tail t rows s c) i
    ]

    own : Made n [] (y ∷ vectors) y
    own = own_member n (y ∷ vectors) y ly (Contains-here y vectors)

    step : HasDimension n (y ∷ vectors) (suc d)
    step = dimension_step n vectors (y ∷ vectors) d t y wide h (λ x c. own_member n (y ∷ vectors) x (wv x c) (in_tail y vectors x c))
        (λ x c. flat t x (Contains-here t rows) c) own some (λ x m z. complete x (Made-length n [] (y ∷ vectors) x m) (λ s c. elim (in_cons t rows s c) [
          | inl e ↦ ap (λ (q : List ℤ). dot q x) e ∙ z
          | inr i ↦ Made-dot_zero n [] (y ∷ vectors) s x (λ u k. absurd (none_in u k)) (λ u k. flat_more s u i k) m
        ]))

    complete_more : (v : List ℤ) → length v ≡ n → ((s : List ℤ) → Contains rows s → dot s v ≡ pos 0) → Made n [] (y ∷ vectors) v
    complete_more v lv none_there =
        let a : ℤ = dot t y in
        let b : ℤ = dot t v in
        let z : List ℤ = vector_sum (scaled a v) (scaled (neg_ℤ b) y) in
        let la : length (scaled a v) ≡ n = length-times a v ∙ lv in
        let lb : length (scaled (neg_ℤ b) y) ≡ n = length-times (neg_ℤ b) y ∙ ly in
        let gives : (s : List ℤ) → dot s z ≡ a *ℤ dot s v +ℤ neg_ℤ b *ℤ dot s y =
        λ s. dot-plus_right s (scaled a v) (scaled (neg_ℤ b) y) (la ∙ sym lb) ∙ ap₂ (λ (u w : ℤ). u +ℤ w) (dot-times_right a s v)
        (dot-times_right (neg_ℤ b) s y) in
        let lz : length z ≡ n = length-plus (scaled a v) (scaled (neg_ℤ b) y) (la ∙ sym lb) ∙ la in
        let made : Made n [] vectors z = complete z lz (λ s c. elim (in_cons t rows s c) [
          | inl e ↦ ap (λ (q : List ℤ). dot q z) e ∙ gives t ∙ cross (dot t y) (dot t v)
          | inr i ↦ gives s ∙ both a (neg_ℤ b) (dot s v) (dot s y) (none_there s i) (flat_more s y i (Contains-here y vectors))
        ]) in
        let up : Made n [] (y ∷ vectors) z =
        Made-into n [] vectors [] (y ∷ vectors) z (λ u l c. absurd (none_in u c)) (λ g u l c. line n [] (y ∷ vectors) g u (scaled g u) l (in_tail y vectors u c)
        refl)
        made in
        span_divided n (y ∷ vectors) a v lv some (summed n [] (y ∷ vectors) z (scaled b y) (scaled a v)
        (vsame (dv a ⊡ vv v lv) (dv a ⊡ vv v lv ⊞ dneg (dv b) ⊡ vv y ly ⊞ dv b ⊡ vv y ly) (λ w. omega arith)) up (span-times n (y ∷ vectors) b y own))
      where
        cross : (a b : ℤ) → a *ℤ b +ℤ neg_ℤ b *ℤ a ≡ pos 0
        cross a b = same (dv a ⊗ dv b ⊕ dneg (dv b) ⊗ dv a) (dn 0) (omega arith)

        both : (a b x w : ℤ) → x ≡ pos 0 → w ≡ pos 0 → a *ℤ x +ℤ b *ℤ w ≡ pos 0
        both a b x w e f = let g = zero_product a x e in let h = zero_product b w f in omega (arith, ints, g, h)

-- ---- a cone

module _ (n : ℕ) (hs es lin rays implied : List (List ℤ)) (wh : AreRows n hs) (we : AreRows n es) (is : IsRays n hs es lin rays)
    (im : IsImplied n hs es implied) where
  d : IsDescribed n hs es lin rays
  d = described_of n hs es lin rays is

  rows_width : AreRows n im.rows
  rows_width = all_by (λ t. length t ≡ n) im.rows (λ t c. elim (im.each t c) [
    | inl i ↦ All-contains (λ x. length x ≡ n) es t we i
    | inr i ↦ All-contains (λ x. length x ≡ n) hs t wh i.0
  ])

  implied_width : (t : List ℤ) → Contains implied t → length t ≡ n
  implied_width t c = All-contains (λ x. length x ≡ n) implied t im.width c

  vectors_width : (x : List ℤ) → Contains (rays ++ lin) x → length x ≡ n
  vectors_width x c = elim (Contains-append_cases rays lin x c) [ inl i ↦ d.rays_width x i | inr i ↦ d.lin_width x i ]

  -- the rows that imply equations are zero on each of them
  row_flat : (t x : List ℤ) → Contains im.rows t → Contains (rays ++ lin) x → dot t x ≡ pos 0
  row_flat t x c k = elim (Contains-append_cases rays lin x k) [
    | inl i ↦ elim (im.each t c) [ inl e ↦ d.solves t x e i | inr z ↦ z.1 x (d.rays_width x i) (ray_in n hs es lin rays x d i) ]
    | inr i ↦ elim (im.each t c) [ inl e ↦ d.lin_solves t x e i | inr z ↦ d.valid.flat t x z.0 i ]
  ]

  implied_flat : (t x : List ℤ) → Contains implied t → Contains (rays ++ lin) x → dot t x ≡ pos 0
  implied_flat t x c k =
      let lt = implied_width t c in
      let made : Made n [] im.rows t = generated-made n [] im.rows t (no_widths n) rows_width
      ((im.spans t lt).1 (made-generated n [] implied t (no_widths n) im.width (own_member n implied t lt c))) in
      dot_comm t x ∙ Made-dot_zero n [] im.rows x t (λ y i. absurd (none_in y i)) (λ y i. dot_comm x y ∙ row_flat y x i k) made

  -- a vector on which the implied equations are zero
  module _ (v : List ℤ) (lv : length v ≡ n) (none_there : (t : List ℤ) → Contains implied t → dot t v ≡ pos 0) where
    row_zero : (t : List ℤ) → Contains im.rows t → dot t v ≡ pos 0
    row_zero t c =
        let lt = All-contains (λ x. length x ≡ n) im.rows t rows_width c in
        let made : Made n [] implied t = generated-made n [] implied t (no_widths n) im.width
        ((im.spans t lt).0 (made-generated n [] im.rows t (no_widths n) rows_width (own_member n im.rows t lt c))) in
        dot_comm t v ∙ Made-dot_zero n [] implied v t (λ y i. absurd (none_in y i)) (λ y i. dot_comm v y ∙ none_there y i) made

    middle : List ℤ
    middle = sum_of n rays

    inner : IsInterior n (record { inequalities = hs; equations = es }) (sum_of n rays)
    inner = interior n (record { inequalities = hs; equations = es }) lin rays is

    flat_there : (h : List ℤ) → Contains hs h → dot h (sum_of n rays) ≡ pos 0 → dot h v ≡ pos 0
    flat_there h c e = elim (All-contains (λ h. (pos 0 <ℤ dot h (sum_of n rays)) ⊎ ((x : List ℤ) → length x ≡ n → Satisfies hs es x → dot h x ≡ pos 0)) hs h
        inner.positive c) [
          | inl p ↦ absurd (omega (arith, ints, e, p))
          | inr z ↦ row_zero h (im.every h (inr (c, z)))
        ]

    into : (x : List ℤ) → Made n rays lin x → Made n [] (rays ++ lin) x
    into x m = Made-into n rays lin [] (rays ++ lin) x (λ y l c. own_member n (rays ++ lin) y l (Contains-append_left rays lin y c))
        (λ a y l c. line n [] (rays ++ lin) a y (scaled a y) l (Contains-append_right rays lin y c) refl) m

    made_middle : Made n rays lin (sum_of n rays)
    made_middle = d.complete (sum_of n rays) inner.width (λ h c. All-contains (λ h. pos 0 ≤ℤ dot h (sum_of n rays)) hs h inner.inside.not_negative c)
        (λ e c. All-contains (λ h. dot h (sum_of n rays) ≡ pos 0) es e inner.inside.zero c)

    pub all_there : Made n [] (rays ++ lin) v
    all_there =
        let w : List ℤ = sum_of n rays in
        let lw = inner.width in
        let lift = lifted_over hs (sum_of n rays) v (λ h c. All-contains (λ h. pos 0 ≤ℤ dot h (sum_of n rays)) hs h inner.inside.not_negative c) flat_there in
        let ls : length (scaled lift.big (sum_of n rays)) ≡ n = length-times lift.big (sum_of n rays) ∙ lw in
        let u : List ℤ = vector_sum (scaled lift.big (sum_of n rays)) v in
        let lu : length u ≡ n = length-plus (scaled lift.big (sum_of n rays)) v (ls ∙ sym lv) ∙ ls in
        let gives : (h : List ℤ) → dot h u ≡ lift.big *ℤ dot h (sum_of n rays) +ℤ dot h v =
        λ h. dot-plus_right h (scaled lift.big (sum_of n rays)) v (ls ∙ sym lv) ∙ ap (λ (x : ℤ). x +ℤ dot h v) (dot-times_right lift.big h (sum_of n rays)) in
        let made : Made n rays lin u = d.complete u lu (λ h c. subst (λ (x : ℤ). pos 0 ≤ℤ x) (sym (gives h)) (lift.within h c))
        (λ e c. gives e ∙ together lift.big (dot e (sum_of n rays)) (dot e v) (All-contains (λ h. dot h (sum_of n rays) ≡ pos 0) es e inner.inside.zero c)
        (row_zero e (im.every e (inl c)))) in
        summed n [] (rays ++ lin) u (scaled (neg_ℤ lift.big) (sum_of n rays)) v
        (vsame (vv v lv) (dv lift.big ⊡ vv (sum_of n rays) lw ⊞ vv v lv ⊞ dneg (dv lift.big) ⊡ vv (sum_of n rays) lw) (λ x. omega arith)) (into u made)
        (span-times n (rays ++ lin) (neg_ℤ lift.big) (sum_of n rays) (into (sum_of n rays) made_middle))
      where
        together : (b x y : ℤ) → x ≡ pos 0 → y ≡ pos 0 → b *ℤ x +ℤ y ≡ pos 0
        together b x y e f = let g = zero_product b x e in omega (arith, ints, g, f)

pub dimensions_agree : DimensionsAgree
dimensions_agree n dim e hs es lin rays implied wh we is im sum h =
    let k = climb n implied (rays ++ lin) e (implied_width n hs es lin rays implied wh we is im) (vectors_width n hs es lin rays implied wh we is im)
    (stair_of n implied implied im.width im.echelon (λ x c. c) im.echelon.rising) (implied_flat n hs es lin rays implied wh we is im)
    (λ v lv none_there. all_there n hs es lin rays implied wh we is im v lv none_there) h in
    omega (arith, k, sum)
