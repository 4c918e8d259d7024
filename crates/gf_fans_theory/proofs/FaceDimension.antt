-- The dimension of a cone is one more than that of its greatest proper faces.
use Rattle.std.proofs.Common.{◌≡◌, ◌≢◌, ℕ, suc, List, [], ◌∷◌, ◌++◌, length, ℤ, pos, ◌+ℤ◌, ◌*ℤ◌, ◌-ℤ◌, neg_ℤ, ◌<ℤ◌, ◌≤ℤ◌, arith, sym, refl, ap, ◌∙◌, subst}
use Rattle.std.proofs.Common.{Contains, ◌⊎◌, inl, inr}
use Rattle.std.proofs.lemmas.Int.{ints}
use Rattle.std.proofs.lemmas.List.Elements.{All-contains, Contains-append_left, Contains-append_right, Contains-append_cases}
use Rattle.gf_int_theory.specs.Content.{scaled}
use Rattle.gf_int_theory.proofs.RingLaws.{same, dv, dn, dneg, ◌⊕◌, ◌⊗◌}
use Rattle.gf_int_theory.proofs.SignLaws.{sign_of, negative, none, positive, positive_not_zero, above_zero, zero_or_not}
use Rattle.gf_int_theory.proofs.ListLaws.{Contains-here}
use Rattle.gf_vec.specs.Vector.{dot, vector_sum}
use Rattle.gf_duality_theory.specs.Combining.{pair}
use Rattle.gf_duality_theory.specs.Generators.{Made, line, summed, divided, IsDescribed, AreValid}
use Rattle.gf_duality_theory.specs.Faces.{sum_of}
use Rattle.gf_fans_theory.specs.Dimension.{HasDimension}
use Rattle.gf_fans_theory.specs.FaceLists.{IsPartOn}
use Rattle.gf_fans_theory.specs.Laws.{IsGreatestPart}
use Rattle.gf_duality_theory.proofs.ListLaws.{none_in, in_tail, in_cons}
use Rattle.gf_vec.proofs.EntryLaws.{cancel}
use Rattle.gf_vec.proofs.VectorIdentities.{vv, ◌⊞◌, ◌⊡◌, by, vsame}
use Rattle.gf_duality_theory.proofs.Made.{Made-length, Made-dot, Made-dot_zero, Made-into, span-times}
use Rattle.gf_duality_theory.proofs.Described.{pair_dot, pair_zero}
use Rattle.gf_duality_theory.proofs.Echelon.{own_member}
use Rattle.gf_duality_theory.proofs.RaySums.{sum_made, sum_long, sum_zero}
use Rattle.gf_duality_theory.proofs.Interior.{some_above}
use Rattle.gf_duality_theory.proofs.FacetRows.{reached, least_of, part_of}
use Rattle.gf_fans_theory.proofs.FaceLaws.{part_made, all_zero_or, part_on}
use Rattle.gf_fans_theory.proofs.Rank.{dimension_step, dimension_basis}
use Rattle.gf_duality_theory.proofs.Determined.{described_of}
use Rattle.gf_duality_theory.specs.Rays.{IsRays}

-- s is zero on the rays on which t is
abbrev pub IsZeroWithin : List (List ℤ) → List ℤ → List ℤ → Type 0
IsZeroWithin rays t s = (r : List ℤ) → Contains rays r → dot t r ≡ pos 0 → dot s r ≡ pos 0

decide_within : (rays : List (List ℤ)) (t s : List ℤ) → IsZeroWithin rays t s ⊎ (IsZeroWithin rays t s → ⊥)
decide_within [] t s = inl (λ r c e. absurd (none_in r c))
decide_within (x ∷ rays) t s = elim (decide_within rays t s) [
  | inr n ↦ inr (λ w. n (λ r c e. w r (in_tail x rays r c) e))
  | inl w ↦
      let more : (dot t x ≡ pos 0 → dot s x ≡ pos 0) → IsZeroWithin (x ∷ rays) t s = λ f r c e. elim (in_cons x rays r c) [
        | inl q ↦ ap (dot s) q ∙ f (ap (dot t) (sym q) ∙ e)
        | inr i ↦ w r i e
      ] in
      elim (zero_or_not (dot t x)) [
        | inr n ↦ inl (more (λ e. absurd (n e)))
        | inl z ↦ elim (zero_or_not (dot s x)) [ inl g ↦ inl (more (λ e. g)) | inr n ↦ inr (λ u. n (u x (Contains-here x rays) z)) ]
      ]
]

-- t is positive on some ray, and a row that is zero where t is, is zero on all rays or only there
record Greatest (rows rays : List (List ℤ)) (start t : List ℤ) : Type 0 where
  above : (r : List ℤ) × (Contains rays r × (pos 0 <ℤ dot t r))
  from : (t ≡ start) ⊎ Contains rows t
  wider : IsZeroWithin rays start t
  greatest : (s : List ℤ) → Contains rows s → IsZeroWithin rays t s → ((r : List ℤ) → Contains rays r → dot s r ≡ pos 0) ⊎ IsZeroWithin rays s t

greatest_of : (rows rays : List (List ℤ)) (start : List ℤ) → ((s r : List ℤ) → Contains rows s → Contains rays r → pos 0 ≤ℤ dot s r) →
    (r : List ℤ) × (Contains rays r × (pos 0 <ℤ dot start r)) → (t : List ℤ) × Greatest rows rays start t
greatest_of [] rays start up a = (start, record { above = a; from = inl refl; wider = λ r c e. e; greatest = λ s c w. absurd (none_in s c) })
greatest_of (s ∷ rows) rays start up a =
    let up_rest : (h r : List ℤ) → Contains rows h → Contains rays r → pos 0 ≤ℤ dot h r = λ h r c i. up h r (in_tail s rows h c) i in
    let keep : ((t : List ℤ) → IsZeroWithin rays start t → IsZeroWithin rays t s → (r : List ℤ) → Contains rays r → dot s r ≡ pos 0) →
    (t : List ℤ) × Greatest (s ∷ rows) rays start t = λ f.
    let g = greatest_of rows rays start up_rest a in let k = g.1 in (
      g.0,
      record {
        above = k.above;
        from = elim k.from [ inl e ↦ inl e | inr c ↦ inr (in_tail s rows g.0 c) ];
        wider = k.wider;
        greatest = λ h c w. elim (in_cons s rows h c) [
          | inl e ↦ inl (λ r i. ap (λ (q : List ℤ). dot q r) e ∙ f g.0 k.wider (λ r i z. ap (λ (q : List ℤ). dot q r) (sym e) ∙ w r i z) r i)
          | inr d ↦ k.greatest h d w
        ];
      },
    ) in
    elim (some_above rays s (λ r c. up s r (Contains-here s rows) c)) [
      | inr z ↦ keep (λ t w u r c. z r c)
      | inl b ↦ elim (decide_within rays start s) [
        | inr n ↦ keep (λ t w u r c. absurd (n (λ r c e. u r c (w r c e))))
        | inl w ↦
            let g = greatest_of rows rays s up_rest b in let k = g.1 in (
              g.0,
              record {
                above = k.above;
                from = elim k.from [ inl e ↦ inr (subst (Contains (s ∷ rows)) (sym e) (Contains-here s rows)) | inr c ↦ inr (in_tail s rows g.0 c) ];
                wider = λ r c e. k.wider r c (w r c e);
                greatest = λ h c u. elim (in_cons s rows h c) [
                  | inl e ↦ inr (λ r i z. k.wider r i (ap (λ (q : List ℤ). dot q r) (sym e) ∙ z))
                  | inr d ↦ k.greatest h d u
                ];
              },
            )
      ]
    ]

-- the rows that are positive on some ray
record AboveRows (rows rays : List (List ℤ)) : Type 0 where
  some : List (List ℤ)
  each : (s : List ℤ) → Contains some s → Contains rows s × ((r : List ℤ) × (Contains rays r × (pos 0 <ℤ dot s r)))
  every : (s : List ℤ) → Contains rows s → Contains some s ⊎ ((r : List ℤ) → Contains rays r → dot s r ≡ pos 0)

above_rows : (rows rays : List (List ℤ)) → ((s r : List ℤ) → Contains rows s → Contains rays r → pos 0 ≤ℤ dot s r) → AboveRows rows rays
above_rows [] rays up = record { some = []; each = λ s c. absurd (none_in s c); every = λ s c. absurd (none_in s c) }
above_rows (h ∷ rows) rays up =
    let a = above_rows rows rays (λ s r c i. up s r (in_tail h rows s c) i) in
    elim (some_above rays h (λ r c. up h r (Contains-here h rows) c)) [
      | inr z ↦ record {
        some = a.some;
        each = λ s c. let e = a.each s c in (in_tail h rows s e.0, e.1);
        every = λ s c. elim (in_cons h rows s c) [ inl e ↦ inr (λ r i. ap (λ (q : List ℤ). dot q r) e ∙ z r i) | inr d ↦ a.every s d ];
      }
      | inl b ↦ record {
        some = h ∷ a.some;
        each = λ s c. elim (in_cons h a.some s c) [
          | inl e ↦ (
            subst (Contains (h ∷ rows)) (sym e) (Contains-here h rows),
            subst (λ (q : List ℤ). (r : List ℤ) × (Contains rays r × (pos 0 <ℤ dot q r)))
                (sym e) b,
          )
          | inr d ↦ let e = a.each s d in (in_tail h rows s e.0, e.1)
        ];
        every = λ s c. elim (in_cons h rows s c) [
          | inl e ↦ inl (subst (Contains (h ∷ a.some)) (sym e) (Contains-here h a.some))
          | inr d ↦ elim (a.every s d) [ inl i ↦ inl (in_tail h a.some s i) | inr z ↦ inr z ]
        ];
      }
    ]

-- what rays and lineality vectors make, they span together
joined_span : (n : ℕ) (part whole lin : List (List ℤ)) (v : List ℤ) → ((r : List ℤ) → Contains part r → Contains whole r) → Made n part lin v →
    Made n [] (whole ++ lin) v
joined_span n part whole lin v sub m =
    Made-into n part lin [] (whole ++ lin) v (λ x l c. own_member n (whole ++ lin) x l (Contains-append_left whole lin x (sub x c)))
    (λ a x l c. line n [] (whole ++ lin) a x (scaled a x) l (Contains-append_right whole lin x c) refl) m

joined_zero : (n : ℕ) (rays lin : List (List ℤ)) (h v : List ℤ) → ((r : List ℤ) → Contains rays r → dot h r ≡ pos 0) →
    ((l : List ℤ) → Contains lin l → dot h l ≡ pos 0) → Made n [] (rays ++ lin) v → dot h v ≡ pos 0
joined_zero n rays lin h v f g m = Made-dot_zero n [] (rays ++ lin) h v (λ x c. absurd (none_in x c))
    (λ x c. elim (Contains-append_cases rays lin x c) [ inl a ↦ f x a | inr b ↦ g x b ]) m

-- a row such that the rays on which it is zero, with lineality, span all that it is zero on
pub record IsFacetStep (n : ℕ) (hs lin rays : List (List ℤ)) (t : List ℤ) : Type 0 where
  pub listed : Contains hs t
  pub above : (r : List ℤ) × (Contains rays r × (pos 0 <ℤ dot t r))
  pub spans : (some : List (List ℤ)) → ((r : List ℤ) → Contains rays r → dot t r ≡ pos 0 → Contains some r) → (x : List ℤ) → Made n [] (rays ++ lin) x →
      dot t x ≡ pos 0 → Made n [] (some ++ lin) x

at_zero : (a b c d : ℤ) → c ≡ pos 0 → d ≡ pos 0 → pos 0 ≤ℤ (a *ℤ c +ℤ neg_ℤ b *ℤ d)
at_zero a b c d e f = rw (e, f) (omega (arith, ints))

round : (a b c d : ℤ) → pos 0 ≤ℤ (c *ℤ a -ℤ b *ℤ d) → pos 0 ≤ℤ (a *ℤ c +ℤ neg_ℤ b *ℤ d)
round a b c d h = let e : a *ℤ c +ℤ neg_ℤ b *ℤ d ≡ c *ℤ a +ℤ neg_ℤ (b *ℤ d) =
    same (dv a ⊗ dv c ⊕ dneg (dv b) ⊗ dv d) (dv c ⊗ dv a ⊕ dneg (dv b ⊗ dv d)) (omega arith) in omega (arith, ints, h, e)

must_vanish : (a b c d : ℤ) → a *ℤ c +ℤ neg_ℤ b *ℤ d ≡ pos 0 → c ≡ pos 0 → d ≢ pos 0 → b ≡ pos 0
must_vanish a b c d h e n = cancel d b n (let q : a *ℤ c ≡ pos 0 = rw e (omega (arith, ints)) in let u : neg_ℤ b *ℤ d ≡ neg_ℤ (d *ℤ b) =
    same (dneg (dv b) ⊗ dv d) (dneg (dv d ⊗ dv b)) (omega arith) in omega (arith, ints, h, q, u))

up_zero : (b x y z : ℤ) → z ≡ b *ℤ x +ℤ y → x ≡ pos 0 → z ≡ pos 0 → y ≡ pos 0
up_zero b x y z e f g = let q : b *ℤ x ≡ pos 0 = rw f (omega (arith, ints)) in omega (arith, ints, e, g, q)

both_zero : (b x y z : ℤ) → z ≡ b *ℤ x +ℤ y → x ≡ pos 0 → y ≡ pos 0 → z ≡ pos 0
both_zero b x y z e f g = let q : b *ℤ x ≡ pos 0 = rw f (omega (arith, ints)) in omega (arith, ints, e, g, q)

pair_none : (a b c d : ℤ) → c ≡ pos 0 → d ≡ pos 0 → a *ℤ c +ℤ neg_ℤ b *ℤ d ≡ pos 0
pair_none a b c d e f = rw (e, f) (omega (arith, ints))

there_and_back : (n : ℕ) (b k : ℤ) (v x r : List ℤ) → length v ≡ n → length x ≡ n → length r ≡ n →
    scaled k x ≡ vector_sum (vector_sum (scaled b v) (vector_sum (scaled k x) (scaled (neg_ℤ (pos 0)) r))) (scaled (neg_ℤ b) v)
there_and_back n b k v x r lv lx lr = vsame (dv k ⊡ vv x lx) (dv b ⊡ vv v lv ⊞ (dv k ⊡ vv x lx ⊞ dneg (dn 0) ⊡ vv r lr) ⊞ dneg (dv b) ⊡ vv v lv)
    (λ z. omega arith)

-- from a row that is positive on some ray on to one that is zero wherever it is
pub facet_step : (n : ℕ) (hs es lin rays : List (List ℤ)) (start : List ℤ) → IsDescribed n hs es lin rays → Contains hs start →
    (r : List ℤ) × (Contains rays r × (pos 0 <ℤ dot start r)) → (t : List ℤ) × (IsFacetStep n hs lin rays t × IsZeroWithin rays start t)
facet_step n hs es lin rays start d cs up_start =
    let g0 = greatest_of hs rays start (λ s r c i. d.valid.up s r c i) up_start in
    let t : List ℤ = g0.0 in let g = g0.1 in
    let ct : Contains hs t = elim g.from [ inl e ↦ subst (Contains hs) (sym e) cs | inr c ↦ c ] in
    let r : List ℤ = g.above.0 in let cr = g.above.1.0 in let up_r = g.above.1.1 in
    let lr = d.rays_width r cr in
    let p = part_of rays t in
    let v : List ℤ = sum_of n p.part in
    let wp : (x : List ℤ) → Contains p.part x → length x ≡ n = λ x c. d.rays_width x (p.of_part x c).0 in
    let lv : length v ≡ n = sum_long n p.part wp in
    let mv : Made n p.part [] v = sum_made n p.part [] p.part wp (λ x c. c) in
    let flat_at : (s : List ℤ) → Contains hs s → dot s v ≡ pos 0 → IsZeroWithin rays t s =
    λ s c z x i k. sum_zero n p.part s x wp (λ y j. d.valid.up s y c (p.of_part y j).0) z (p.all x i k) in
    let tv : dot t v ≡ pos 0 = Made-dot_zero n p.part [] t v (λ x c. (p.of_part x c).1) (λ x c. absurd (none_in x c)) mv in
    let above : (s : List ℤ) → Contains hs s → (q : List ℤ) × (Contains rays q × (pos 0 <ℤ dot s q)) → dot s v ≡ pos 0 → pos 0 <ℤ dot s r =
    λ s c b z. elim (g.greatest s c (flat_at s c z)) [
      | inl f ↦ let e : dot s b.0 ≡ pos 0 = f b.0 b.1.0 in let u = b.1.1 in absurd (omega (arith, ints, e, u))
      | inr w ↦ elim (sign_of (dot s r)) [
        | positive k ↦ k
        | none k ↦ let e : dot t r ≡ pos 0 = w r cr k in absurd (omega (arith, ints, e, up_r))
        | negative k ↦ let e : pos 0 ≤ℤ dot s r = d.valid.up s r c cr in absurd (omega (arith, ints, e, k))
      ]
    ] in (
      t,
      (
        record {
          listed = ct;
          above = g.above;
          spans = λ some every x m tx.
              let lx = Made-length n [] (rays ++ lin) x m in
              let a = above_rows hs rays (λ s q c i. d.valid.up s q c i) in
              let l = least_of a.some v x r t tv up_r (λ h c z. above h (a.each h c).0 (a.each h c).1 z) in
              let u : List ℤ = l.u in
              let cu : Contains hs u = elim l.in_u [ inl e ↦ subst (Contains hs) (sym e) ct | inr c ↦ (a.each u c).0 ] in
              let up_u : pos 0 <ℤ dot u r = elim l.in_u [
                | inl e ↦ subst (λ (q : List ℤ). pos 0 <ℤ dot q r) (sym e) up_r
                | inr c ↦ above u (a.each u c).0 (a.each u c).1 l.zero
              ] in
              let y : List ℤ = pair u r x in
              let ly : length y ≡ n = (dv (dot u r) ⊡ vv x lx ⊞ dneg (dv (dot u x)) ⊡ vv r lr).long in
              let at : (h : List ℤ) → dot h y ≡ dot u r *ℤ dot h x +ℤ neg_ℤ (dot u x) *ℤ dot h r = λ h. pair_dot n u r x h lr lx in
              let zero_x : (h : List ℤ) → ((q : List ℤ) → Contains rays q → dot h q ≡ pos 0) → ((q : List ℤ) → Contains lin q → dot h q ≡ pos 0) →
              dot h x ≡ pos 0 = λ h f k. joined_zero n rays lin h x f k m in
              let up_y : (h : List ℤ) → Contains hs h → dot h v ≡ pos 0 → pos 0 ≤ℤ dot h y = λ h c z. subst (λ k. pos 0 ≤ℤ k) (sym (at h)) (elim (a.every h c) [
                | inr f ↦ at_zero (dot u r) (dot u x) (dot h x) (dot h r) (zero_x h f (λ q i. d.valid.flat h q c i)) (f r cr)
                | inl i ↦ round (dot u r) (dot u x) (dot h x) (dot h r) (l.least h i z)
              ]) in
              let big = reached hs v y (λ h c. elim (sign_of (dot h v)) [
                | positive k ↦ inl k
                | none k ↦ inr (k, up_y h c k)
                | negative k ↦ let e : pos 0 ≤ℤ dot h v = Made-dot n p.part [] h v (λ q i. d.valid.up h q c (p.of_part q i).0) (λ q i. absurd (none_in q i))
                    mv in absurd (omega (arith, ints, e, k))
              ]) in
              let b = big.big in
              let w : List ℤ = vector_sum (scaled b v) y in
              let lw : length w ≡ n = (dv b ⊡ vv v lv ⊞ vv y ly).long in
              let at_w : (h : List ℤ) → dot h w ≡ b *ℤ dot h v +ℤ dot h y =
              λ h. same (by h (dv b ⊡ vv v lv ⊞ vv y ly)) (dv b ⊗ by h (vv v lv) ⊕ by h (vv y ly)) (omega arith) in
              let mw : Made n rays lin w = d.complete w lw (λ h c. subst (λ k. pos 0 ≤ℤ k) (sym (at_w h)) (big.within h c))
              (λ e c. both_zero b (dot e v) (dot e y) (dot e w) (at_w e) (Made-dot_zero n p.part [] e v (λ q i. d.solves e q c (p.of_part q i).0)
              (λ q i. absurd (none_in q i)) mv)
              (at e ∙ pair_none (dot u r) (dot u x) (dot e x) (dot e r) (zero_x e (λ q i. d.solves e q c i) (λ q i. d.lin_solves e q c i))
              (d.solves e r c cr))) in
              let uw : dot u w ≡ pos 0 = both_zero b (dot u v) (dot u y) (dot u w) (at_w u) l.zero (pair_zero n u r x lr lx) in
              let one : AreValid (u ∷ []) rays lin = record {
                up = λ h q k i. elim (in_cons u [] h k) [
                  | inl e ↦ subst (λ (z : List ℤ). pos 0 ≤ℤ dot z q) (sym e) (d.valid.up u q cu i)
                  | inr j ↦ absurd (none_in h j)
                ];
                flat = λ h q k i. elim (in_cons u [] h k) [
                  | inl e ↦ subst (λ (z : List ℤ). dot z q ≡ pos 0) (sym e) (d.valid.flat u q cu i)
                  | inr j ↦ absurd (none_in h j)
                ];
              } in
              let narrow : IsZeroWithin rays u t = elim (g.greatest u cu (flat_at u cu l.zero)) [
                | inl f ↦ absurd (positive_not_zero (dot u r) up_u (f r cr))
                | inr k ↦ k
              ] in
              let of_part : Made n p.part lin w = part_made n (u ∷ []) rays p.part lin w one (λ q c f. p.all q c (narrow q c (f u (Contains-here u [])))) mw
              (λ h k. elim (in_cons u [] h k) [ inl e ↦ ap (λ (z : List ℤ). dot z w) e ∙ uw | inr j ↦ absurd (none_in h j) ]) in
              let tw : dot t w ≡ pos 0 = Made-dot_zero n p.part lin t w (λ q c. (p.of_part q c).1) (λ q c. d.valid.flat t q ct c) of_part in
              let ty : dot t y ≡ pos 0 = up_zero b (dot t v) (dot t y) (dot t w) (at_w t) tv tw in
              let ux : dot u x ≡ pos 0 = must_vanish (dot u r) (dot u x) (dot t x) (dot t r) (sym (at t) ∙ ty) tx (positive_not_zero (dot t r) up_r) in
              let k : ℤ = dot u r in
              let sub : (q : List ℤ) → Contains p.part q → Contains some q = λ q c. every q (p.of_part q c).0 (p.of_part q c).1 in
              let sw : Made n [] (some ++ lin) w = joined_span n p.part some lin w sub of_part in
              let sv : Made n [] (some ++ lin) v = joined_span n p.part some lin v sub (sum_made n p.part lin p.part wp (λ q c. c)) in
              divided n [] (some ++ lin) k x _ up_u
              (there_and_back n b k v x r lv lx lr ∙ ap (λ z. vector_sum (vector_sum (scaled b v) (vector_sum (scaled k x) (scaled (neg_ℤ z) r)))
              (scaled (neg_ℤ b) v)) (sym ux))
              (summed n [] (some ++ lin) w (scaled (neg_ℤ b) v) _ refl sw (span-times n (some ++ lin) (neg_ℤ b) v sv));
        },
        g.wider,
      ),
    )

-- ---- dimensions of faces by their lists of rays

some_not : (flat : List (List ℤ)) (r : List ℤ) → (((t : List ℤ) → Contains flat t → dot t r ≡ pos 0) → ⊥) → (t : List ℤ) × (Contains flat t × (dot t r ≢ pos 0))
some_not [] r n = absurd (n (λ t c. absurd (none_in t c)))
some_not (h ∷ flat) r n = elim (zero_or_not (dot h r)) [
  | inr g ↦ (h, (Contains-here h flat, g))
  | inl z ↦ let s = some_not flat r (λ f. n (λ t c. elim (in_cons h flat t c) [ inl e ↦ ap (λ (q : List ℤ). dot q r) e ∙ z | inr d ↦ f t d ])) in
      (s.0, (in_tail h flat s.0 s.1.0, s.1.1))
]

joined_width : (n : ℕ) (hs es lin rays : List (List ℤ)) → IsDescribed n hs es lin rays → (x : List ℤ) → Contains (rays ++ lin) x → length x ≡ n
joined_width n hs es lin rays d x c = elim (Contains-append_cases rays lin x c) [ inl a ↦ d.rays_width x a | inr b ↦ d.lin_width x b ]

joined_sub : (n : ℕ) (hs es lin rays some : List (List ℤ)) → IsDescribed n hs es lin rays → ((r : List ℤ) → Contains some r → Contains rays r) → (x : List ℤ) →
    Contains (some ++ lin) x → Made n [] (rays ++ lin) x
joined_sub n hs es lin rays some d sub x c = elim (Contains-append_cases some lin x c) [
  | inl a ↦ own_member n (rays ++ lin) x (d.rays_width x (sub x a)) (Contains-append_left rays lin x (sub x a))
  | inr b ↦ own_member n (rays ++ lin) x (d.lin_width x b) (Contains-append_right rays lin x b)
]

-- the dimension is one more than that of any such part
pub dimension_above : (n : ℕ) (hs es lin rays flat some : List (List ℤ)) (r : List ℤ) (d : ℕ) → IsRays n hs es lin rays →
    ((t : List ℤ) → Contains flat t → Contains hs t) → IsPartOn flat rays some → Contains rays r → (Contains some r → ⊥) → IsGreatestPart hs rays some →
    HasDimension n (some ++ lin) d → HasDimension n (rays ++ lin) (suc d)
dimension_above n hs es lin rays flat some r d q sub p cr out most h =
    let k = described_of n hs es lin rays q in
    elim (all_zero_or flat r) [
      | inl z ↦ absurd (out (p.every r cr z))
      | inr n_ ↦
          let s0 = some_not flat r n_ in let s : List ℤ = s0.0 in
          let cs = sub s s0.1.0 in
          let f = facet_step n hs es lin rays s k cs (r, (cr, above_zero (dot s r) (k.valid.up s r cs cr) s0.1.1)) in
          let t : List ℤ = f.0 in let g = f.1.0 in
          let a : List ℤ = g.above.0 in let ca = g.above.1.0 in let up_a = g.above.1.1 in
          let one : (u : List ℤ) → Contains (t ∷ []) u → Contains hs u = λ u c. elim (in_cons t [] u c) [
            | inl e ↦ subst (Contains hs) (sym e) g.listed
            | inr j ↦ absurd (none_in u j)
          ] in
          let zero_some : (x : List ℤ) → Contains some x → dot t x ≡ pos 0 = λ x c. f.1.1 x (p.each x c).0 ((p.each x c).1 s s0.1.0) in
          let m = part_on (t ∷ []) rays q.ascending in
          let within : (x : List ℤ) → Contains some x → Contains m.0 x =
          λ x c. m.1.every x (p.each x c).0 (λ u i. elim (in_cons t [] u i) [
            | inl e ↦ ap (λ (y : List ℤ). dot y x) e ∙ zero_some x c
            | inr j ↦ absurd (none_in u j)
          ]) in
          let less : ((x : List ℤ) → Contains rays x → Contains m.0 x) → ⊥ =
          λ all. positive_not_zero (dot t a) up_a ((m.1.each a (all a ca)).1 t (Contains-here t [])) in
          let back : (x : List ℤ) → Contains m.0 x → Contains some x = most (t ∷ []) m.0 one m.1 within less in
          dimension_step n (some ++ lin) (rays ++ lin) d t a (joined_width n hs es lin rays k) h (joined_sub n hs es lin rays some k (λ x c. (p.each x c).0))
          (λ x c. elim (Contains-append_cases some lin x c) [ inl i ↦ zero_some x i | inr b ↦ k.valid.flat t x g.listed b ])
          (own_member n (rays ++ lin) a (k.rays_width a ca) (Contains-append_left rays lin a ca)) (positive_not_zero (dot t a) up_a)
          (λ x c z. g.spans some (λ y i e. back y (m.1.every y i (λ u j. elim (in_cons t [] u j) [
            | inl w ↦ ap (λ (v : List ℤ). dot v y) w ∙ e
            | inr v ↦ absurd (none_in u v)
          ]))) x c z)
    ]

-- and that of the lineality space where there is no ray
pub dimension_lineality : (n : ℕ) (hs es lin : List (List ℤ)) → IsRays n hs es lin [] → HasDimension n lin (length lin)
dimension_lineality n hs es lin r = dimension_basis n lin (λ x c. All-contains (λ t. length t ≡ n) lin x r.lin_width c) r.echelon

-- a part of a part
pub part_of_part : (flat more rays some other : List (List ℤ)) → IsPartOn flat rays some → IsPartOn more some other → IsPartOn (flat ++ more) rays other
part_of_part flat more rays some other p q = record {
  ascending = q.ascending;
  each = λ r c. let i = q.each r c in let j = p.each r i.0 in (j.0, λ t k. elim (Contains-append_cases flat more t k) [ inl a ↦ j.1 t a | inr b ↦ i.1 t b ]);
  every = λ r c f. q.every r (p.every r c (λ t k. f t (Contains-append_left flat more t k))) (λ t k. f t (Contains-append_right flat more t k));
}
