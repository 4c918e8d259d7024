-- What is known of rows at rays in the bits of several words, one further; rows that are told by it to keep two cones apart.
use Rattle.std.proofs.Common.{◌≡◌, ◌≢◌, ℕ, ◌+◌, ◌*◌, ◌/◌, ◌%◌, ◌-◌, ◌<◌, ◌≤◌, List, [], ◌∷◌, ◌++◌, length, take, drop, get_or, ℤ, pos, ◌≤ℤ◌, All}
use Rattle.std.proofs.Common.{Contains, arith, sym, ap, ◌∙◌, subst, ◌⊎◌, inl, inr, ◌↔◌}
use Prim.Native.Nat.{min}
use Rattle.std.specs.Int.{bit_at}
use Rattle.std.specs.Int.RustNames.{bit_or}
use Rattle.std.proofs.lemmas.Bool.{cases_eq}
use Rattle.std.proofs.lemmas.List.{get_or_default, get_or-take, get_or-drop, length-take, length-drop, take_all, take_more}
use Rattle.std.proofs.lemmas.List.Elements.{All-contains, All-push, All-take, All-drop, Contains-push}
use Rattle.gf_int_theory.proofs.ListLaws.{all_by, Contains-last}
use Rattle.gf_vec.specs.Vector.{dot}
use Rattle.gf_gordan.specs.Alternative.{AreRows}
use Rattle.gf_duality_theory.proofs.ListLaws.{first_in, none_in}
use Rattle.gf_fans_theory.specs.FaceLists.{numbered}
use Rattle.gf_fans_theory.proofs.PartNumbers.{of_map, in_map}
use Rattle.gf_rays.specs.Cones.{RowsAndRays}
use Rattle.gf_fan.specs.declared.bits.RowBits.{RowBits}
use Rattle.gf_fan.specs.declared.words.ConeWords.{ConeWords}
use Rattle.gf_fan.specs.Signs.{AreEach}
use Rattle.gf_fan.specs.Bits.{IsLowOn}
use Rattle.gf_fan.specs.Words.{AreWordsOfRow, AreWordsOfRows, AreOwnWords, IsIndexOf, AreIndicesOf, AreWordsOfCone, AreWordsOfFirst}
use Rattle.gf_fan.specs.Words.{IsLowInWords, AreLowIndices, IsCutIn, IsToldAt, AreToldByWords}
use Rattle.gf_fan.proofs.SettledLaws.{HasSeparated}
use Rattle.gf_fan.proofs.EachLaws.{each_more}
use Rattle.gf_fan.proofs.BitLaws.{IsCut, bit_either, separated_by}

-- ---- 128 rays at most

pub block_long : (rays : List (List ℤ)) (start : ℕ) → length (take 128 (drop start rays)) ≤ 128
block_long rays start = let e : length (take 128 (drop start rays)) ≡ min 128 (length (drop start rays)) = length-take 128 (drop start rays) in omega (arith, e)

pub block_width : (n : ℕ) (rays : List (List ℤ)) (start : ℕ) → AreRows n rays → AreRows n (take 128 (drop start rays))
block_width n rays start w = All-take (λ v. length v ≡ n) 128 (drop start rays) (All-drop (λ v. length v ≡ n) start rays w)

-- where the bit j of the word at b is that for a ray
in_block : (rays : List (List ℤ)) (b j : ℕ) → b * 128 + j < length rays → j < 128 → j < length (take 128 (drop (b * 128) rays))
in_block rays b j h l =
    let e : length (take 128 (drop (b * 128) rays)) ≡ min 128 (length (drop (b * 128) rays)) = length-take 128 (drop (b * 128) rays) in
    let d : length (drop (b * 128) rays) ≡ length rays - b * 128 = length-drop (b * 128) rays in omega (arith, e, d, h, l)

at_block : (rays : List (List ℤ)) (b j : ℕ) → j < 128 → get_or (take 128 (drop (b * 128) rays)) j [] ≡ get_or rays (b * 128 + j) []
at_block rays b j l = get_or-take 128 (drop (b * 128) rays) j [] l ∙ get_or-drop (b * 128) rays j []

word_of : (n b j : ℕ) → b * 128 + j < n → b < n / 128 + 1
word_of n b j h = omega (arith, h)

-- ---- the bits for numbers

pub word_more : (numbers : List ℕ) (start i x y old new : ℕ) → i < length numbers → x ≡ get_or numbers i x → y ≡ x →
    ((j : ℕ) → j < 128 → start + j ≡ y → bit_at new j ≡ 1) → ((j : ℕ) → j < 128 → start + j ≢ y → bit_at new j ≡ bit_at old j) →
    ((j : ℕ) → j < 128 → (bit_at old j ≡ 1) ↔ Contains (take i numbers) (start + j)) → (j : ℕ) → j < 128 →
    (bit_at new j ≡ 1) ↔ Contains (take (i + 1) numbers) (start + j)
word_more numbers start i x y old new h e ey set others s j l =
    let more : take (i + 1) numbers ≡ take i numbers ++ x ∷ [] = take_more numbers i x h ∙ ap (λ z. take i numbers ++ z ∷ []) (sym e) in
    subst (λ (w : List ℕ). (bit_at new j ≡ 1) ↔ Contains w (start + j)) (sym more) (elim (cases_eq (start + j) y) [
      | inl q ↦ (λ _. subst (Contains (take i numbers ++ x ∷ [])) (sym (q ∙ ey)) (Contains-push (take i numbers) x), λ _. set j l q)
      | inr n ↦ (
        λ t. first_in (take i numbers) x (start + j) ((s j l).0 (sym (others j l n) ∙ t)),
        λ c. others j l n ∙ (s j l).1 (elim (Contains-last (take i numbers) x (start + j) c) [ inl d ↦ d | inr q ↦ absurd (n (q ∙ sym ey)) ]),
      )
    ])

pub word_done : (numbers : List ℕ) (start i word : ℕ) → length numbers ≤ i → ((j : ℕ) → j < 128 → (bit_at word j ≡ 1) ↔ Contains (take i numbers) (start + j)) →
    (j : ℕ) → j < 128 → (bit_at word j ≡ 1) ↔ Contains numbers (start + j)
word_done numbers start i word h s j l = subst (λ (w : List ℕ). (bit_at word j ≡ 1) ↔ Contains w (start + j)) (take_all i numbers h) (s j l)

-- the words with the bits for the numbers of a cone's rays
pub own_words_of : (rays : List (List ℤ)) (c : RowsAndRays) (numbers own : List ℕ) → All (λ i. i < length rays) numbers → numbered rays numbers ≡ c.rays →
    AreOwnWords (length rays) numbers own → ((b j : ℕ) → b * 128 + j < length rays → j < 128 → bit_at (get_or own b 0) j ≡ 1 → Contains c.rays
    (get_or rays (b * 128 + j) [])) × ((r : List ℤ) → Contains c.rays r → (b : ℕ) × ((j : ℕ) × ((b * 128 + j < length rays) × (j < 128) ×
    (get_or rays (b * 128 + j) [] ≡ r) × (bit_at (get_or own b 0) j ≡ 1))))
own_words_of rays c numbers own inside e s = (
  λ b j h l t. subst (λ (w : List (List ℤ)). Contains w (get_or rays (b * 128 + j) [])) e
      (in_map (λ i. get_or rays i []) numbers (b * 128 + j) ((s.each b 0 (word_of (length rays) b j h) j l).0 t)),
  λ r k.
      let q = of_map (λ i. get_or rays i []) numbers r (subst (λ (w : List (List ℤ)). Contains w r) (sym e) k) in
      let hi : q.0 < length rays = All-contains (λ i. i < length rays) numbers q.0 inside q.1.0 in
      let split : (q.0 / 128) * 128 + q.0 % 128 ≡ q.0 = omega arith in
      let below : q.0 % 128 < 128 = omega arith in
      let h : (q.0 / 128) * 128 + q.0 % 128 < length rays = omega (arith, split, hi) in (
        q.0 / 128,
        (
          q.0 % 128,
          (
            h,
            below,
            ap (λ i. get_or rays i []) split ∙ q.1.1,
            (s.each (q.0 / 128) 0 (word_of (length rays) (q.0 / 128) (q.0 % 128) h) (q.0 % 128) below).1 (subst (Contains numbers) (sym split) q.1.0),
          ),
        ),
      ),
)

-- ---- indices

pub index_more : (rays keys rows : List (List ℤ)) (known : List (List RowBits)) (i k : ℕ) (h : List ℤ) (out new : List ℕ) → AreWordsOfRows rays keys known →
    i < length rows → h ≡ get_or rows i h → (k < length keys) × (get_or keys k [] ≡ h) → new ≡ out ++ k ∷ [] → AreIndicesOf rays known rows out →
    AreIndicesOf rays known rows new
index_more rays keys rows known i k h out new a l e p en s = subst (AreIndicesOf rays known rows) (sym en) (All-push (IsIndexOf rays known rows) out k s (
  let g = a.long in let b = p.0 in omega (arith, b, g),
  (h, ((i, l, sym e), λ d. subst (λ z. AreWordsOfRow rays z (get_or known k d)) p.1 (a.each k d p.0))),
))

pub index_inside : (rays rows : List (List ℤ)) (known : List (List RowBits)) (indices : List ℕ) → AreIndicesOf rays known rows indices →
    All (λ p. p < length known) indices
index_inside rays rows known indices a = all_by (λ p. p < length known) indices (λ p k. (All-contains (IsIndexOf rays known rows) indices p a k).0)

-- the words of rows are as many
pub rows_wide : (rays rows : List (List ℤ)) (known : List (List RowBits)) → AreWordsOfRows rays rows known → (p : ℕ) (d : List RowBits) → p < length known →
    length (get_or known p d) ≡ length rays / 128 + 1
rows_wide rays rows known a p d h = (a.each p d (let e = a.long in omega (arith, h, e))).long

-- ---- of cones

pub cone_words_more : (rays : List (List ℤ)) (known : List (List RowBits)) (cones : List RowsAndRays) (i : ℕ) (c : RowsAndRays) (s : ConeWords)
    (out new : List ConeWords) → i < length cones → c ≡ get_or cones i c → new ≡ out ++ s ∷ [] → AreWordsOfCone rays known c s →
    AreEach (λ k (z : ConeWords). (d : RowsAndRays) → AreWordsOfCone rays known (get_or cones k d) z) i out →
    AreEach (λ k (z : ConeWords). (d : RowsAndRays) → AreWordsOfCone rays known (get_or cones k d) z) (i + 1) new
cone_words_more rays known cones i c s out new h e en p a =
    each_more (λ k (z : ConeWords). (d : RowsAndRays) → AreWordsOfCone rays known (get_or cones k d) z) i s out new en
    (λ d. subst (λ x. AreWordsOfCone rays known x s) (e ∙ get_or_default cones i c d h) p) a

pub first_words : (rays keys : List (List ℤ)) (known : List (List RowBits)) (cones : List RowsAndRays) (i : ℕ) (out : List ConeWords) →
    AreWordsOfRows rays keys known → AreEach (λ k (z : ConeWords). (d : RowsAndRays) → AreWordsOfCone rays known (get_or cones k d) z) i out →
    AreWordsOfFirst cones known out
first_words rays keys known cones i out w a = record {
  rays = rays;
  wide = rows_wide rays keys known w;
  each = λ k c s h. a.each k s (let e = a.long in omega (arith, h, e)) c;
}

-- ---- rows that are told to keep two cones apart do so

-- one word further
pub low_further : (row : List RowBits) (own : List ℕ) (b : ℕ) (s : RowBits) (w : ℕ) → b < length row → b < length own →
    IsLowOn (get_or row b s) (get_or own b w) →
    ((k : ℕ) (d : RowBits) → k < b → IsLowOn (get_or row k d) (get_or own k 0)) → (k : ℕ) (d : RowBits) → k < b + 1 →
    IsLowOn (get_or row k d) (get_or own k 0)
low_further row own b s w hr ho l f k d h = elim (cases_eq k b) [
  | inl e ↦ subst (λ j. IsLowOn (get_or row j d) (get_or own j 0)) (sym e)
      (subst (λ z. IsLowOn (get_or row b d) z) (get_or_default own b w 0 ho)
      (subst (λ (z : RowBits). IsLowOn z (get_or own b w)) (get_or_default row b s d hr) l))
  | inr n ↦ f k d (omega (arith, h, n))
]

pub low_more : (known : List (List RowBits)) (indices own out new : List ℕ) (i p : ℕ) (row row2 : List RowBits) → i < length indices → p ≡ get_or indices i p →
    p < length known → row ≡ get_or known p row → row2 ≡ row → IsLowInWords row2 own → new ≡ out ++ p ∷ [] → AreLowIndices known indices own out →
    AreLowIndices known indices own new
low_more known indices own out new i p row row2 h e hp er eq l en a = subst (AreLowIndices known indices own) (sym en)
    (All-push (λ p. Contains indices p × ((d : List RowBits) → IsLowInWords (get_or known p d) own)) out p a
    ((i, h, sym e), λ d. subst (λ z. IsLowInWords z own) (eq ∙ er ∙ get_or_default known p row d hp) l))

pub low_inside : (known : List (List RowBits)) (indices own out : List ℕ) → All (λ p. p < length known) indices → AreLowIndices known indices own out →
    All (λ p. p < length known) out
low_inside known indices own out inside a = all_by (λ p. p < length known) out (λ p k. All-contains (λ p. p < length known) indices p inside
    (All-contains (λ p. Contains indices p × ((d : List RowBits) → IsLowInWords (get_or known p d) own)) out p a k).0)

-- one row further
pub cut_more : (known : List (List RowBits)) (indices : List ℕ) (b i p : ℕ) (row row2 : List RowBits) (d : RowBits) (old : ℕ) → i < length indices →
    p ≡ get_or indices i p → p < length known → row ≡ get_or known p row → row2 ≡ row →
    ((p : ℕ) (d : List RowBits) → p < length known → b < length (get_or known p d)) → ((j : ℕ) → bit_at old j ≡ 1 → IsCutIn known indices b j) → (j : ℕ) →
    bit_at (bit_or old (get_or row2 b d).cut) j ≡ 1 → IsCutIn known indices b j
cut_more known indices b i p row row2 d old h e hp er eq inside f j t = elim (bit_either old (get_or row2 b d).cut j t) [
  | inl x ↦ f j x
  | inr x ↦
      let hb : b < length row2 = subst (λ (z : List RowBits). b < length z) (sym (eq ∙ er)) (inside p row hp) in (
        p,
        (
          (i, h, sym e),
          λ g k. subst (λ (z : List RowBits). bit_at (get_or z b k).cut j ≡ 1) (eq ∙ er ∙ get_or_default known p row g hp)
              (subst (λ (z : RowBits). bit_at z.cut j ≡ 1) (get_or_default row2 b d k hb) x),
        ),
      )
]

-- one word further
pub told_further : (known : List (List RowBits)) (left right left2 right2 xs ys : List ℕ) (b x y : ℕ) → b < length xs → b < length ys → left2 ≡ left →
    right2 ≡ right → x ≡ get_or xs b x → y ≡ get_or ys b y → IsToldAt known left2 right2 x y b →
    ((k : ℕ) → k < b → IsToldAt known left right (get_or xs k 0) (get_or ys k 0) k) → (k : ℕ) → k < b + 1 →
    IsToldAt known left right (get_or xs k 0) (get_or ys k 0) k
told_further known left right left2 right2 xs ys b x y hx hy el er ex ey t f k h = elim (cases_eq k b) [
  | inl e ↦
      let a : IsToldAt known left right2 x y b = subst (λ (z : List ℕ). IsToldAt known z right2 x y b) el t in
      let c : IsToldAt known left right x y b = subst (λ (z : List ℕ). IsToldAt known left z x y b) er a in
      subst (λ j. IsToldAt known left right (get_or xs j 0) (get_or ys j 0) j) (sym e)
      (subst (λ z. IsToldAt known left right (get_or xs b 0) z b) (ey ∙ get_or_default ys b y 0 hy)
      (subst (λ z. IsToldAt known left right z y b) (ex ∙ get_or_default xs b x 0 hx) c))
  | inr n ↦ f k (omega (arith, h, n))
]

-- no row
pub no_indices : (known : List (List RowBits)) (indices own : List ℕ) → AreLowIndices known indices own []
no_indices known indices own = all_by (λ p. Contains indices p × ((d : List RowBits) → IsLowInWords (get_or known p d) own)) [] (λ p k. absurd (none_in p k))

-- of the same lists
pub told_as : {left left2 right right2 xs xs2 ys ys2 : List ℕ} (known : List (List RowBits)) → left ≡ left2 → right ≡ right2 → xs ≡ xs2 → ys ≡ ys2 →
    ((b : ℕ) → b < length xs → IsToldAt known left right (get_or xs b 0) (get_or ys b 0) b) → (b : ℕ) → b < length xs2 →
    IsToldAt known left2 right2 (get_or xs2 b 0) (get_or ys2 b 0) b
told_as {left} {left2} {right} {right2} {xs} {xs2} {ys} {ys2} known a e f g t b h =
    subst (λ (z : List ℕ). IsToldAt known z right2 (get_or xs2 b 0) (get_or ys2 b 0) b) a
    (subst (λ (z : List ℕ). IsToldAt known left z (get_or xs2 b 0) (get_or ys2 b 0) b) e
    (subst (λ (z : List ℕ). IsToldAt known left right (get_or xs2 b 0) (get_or z b 0) b) g
    (subst (λ (z : List ℕ). IsToldAt known left right (get_or z b 0) (get_or ys b 0) b) f (t b (subst (λ (z : List ℕ). b < length z) (sym f) h)))))

pub low_as : {indices places2 own own2 : List ℕ} (known : List (List RowBits)) (out : List ℕ) → indices ≡ places2 → own ≡ own2 →
    AreLowIndices known indices own out → AreLowIndices known places2 own2 out
low_as {indices} {places2} {own} {own2} known out a b s = subst (λ (z : List ℕ). AreLowIndices known places2 z out) b
    (subst (λ (z : List ℕ). AreLowIndices known z own out) a s)

cut_of : (rays : List (List ℤ)) (known : List (List RowBits)) (c d : RowsAndRays) (s t : ConeWords) (indices : List ℕ) (b j : ℕ) →
    AreWordsOfCone rays known c s → AreWordsOfCone rays known d t → AreLowIndices known s.rows.items t.own.items indices →
    b * 128 + j < length rays → j < 128 → IsCutIn known indices b j → IsCut c d (get_or rays (b * 128 + j) [])
cut_of rays known c d s t indices b j x y low hi l cut =
    let p : ℕ = cut.0 in
    let lp = All-contains (λ p. Contains s.rows.items p × ((d : List RowBits) → IsLowInWords (get_or known p d) t.own.items)) indices p low cut.1.0 in
    let w = All-contains (IsIndexOf rays known c.inequalities) s.rows.items p x.rows lp.0 in
    let h : List ℤ = w.1.0 in
    let row : List RowBits = get_or known p [] in
    let is : AreWordsOfRow rays h row = w.1.1.1 [] in
    let none : RowBits = record { high = 0; cut = 0 } in
    let hb : b < length rays / 128 + 1 = word_of (length rays) b j hi in (
      h,
      (
        w.1.1.0,
        all_by (λ v. dot h v ≤ℤ pos 0) d.rays (λ v kv.
            let q = y.every v kv in
            let m = q.1.1 in
            let own : bit_at (get_or t.own.items q.0 0) q.1.0 ≡ 1 = m.3 in
            let hq : q.0 < length rays / 128 + 1 = word_of (length rays) q.0 q.1.0 m.0 in
            let clear = lp.1 [] q.0 none (let e = y.long in omega (arith, hq, e)) q.1.0 own in
            subst (λ z. dot h z ≤ℤ pos 0) (at_block rays q.0 q.1.0 m.1 ∙ m.2)
            ((is.each q.0 none hq).low q.1.0 (in_block rays q.0 q.1.0 m.0 m.1) clear)),
        subst (λ z. dot h z ≢ pos 0) (at_block rays b j l) ((is.each b none hb).apart j (in_block rays b j hi l) (cut.1.1 [] none)),
      ),
    )

-- what is told of a ray of the one cone
ray_told : (rays : List (List ℤ)) (known : List (List RowBits)) (c d : RowsAndRays) (s t : ConeWords) (left right : List ℕ) → AreWordsOfCone rays known c s →
    AreWordsOfCone rays known d t → AreLowIndices known s.rows.items t.own.items left → AreLowIndices known t.rows.items s.own.items right →
    ((b : ℕ) → b < length rays / 128 + 1 → (i : ℕ) → (bit_at (get_or s.own.items b 0) i ≡ bit_at (get_or t.own.items b 0) i) ⊎ IsCutIn known left b i ⊎
    IsCutIn known right b i) → (r : List ℤ) → Contains c.rays r → Contains d.rays r ⊎ IsCut c d r ⊎ IsCut d c r
ray_told rays known c d s t left right x y low high told r k =
    let q = x.every r k in
    let b : ℕ = q.0 in let j : ℕ = q.1.0 in let m = q.1.1 in
    subst (λ (z : List ℤ). Contains d.rays z ⊎ IsCut c d z ⊎ IsCut d c z) m.2 (elim (told b (word_of (length rays) b j m.0) j) [
      | inl e ↦ inl (y.each b j m.0 m.1 (sym e ∙ m.3))
      | inr w ↦ elim w [
        | inl z ↦ inr (inl (cut_of rays known c d s t left b j x y low m.0 m.1 z))
        | inr z ↦ inr (inr (cut_of rays known d c t s right b j y x high m.0 m.1 z))
      ]
    ])

pub told_by_words : (rays : List (List ℤ)) (known : List (List RowBits)) (c d : RowsAndRays) (s t : ConeWords) → AreWordsOfCone rays known c s →
    AreWordsOfCone rays known d t → AreToldByWords known s t → (left : List (List ℤ)) × (right : List (List ℤ)) × HasSeparated c d left right
told_by_words rays known c d s t x y h =
    separated_by c d (ray_told rays known c d s t h.left h.right x y h.of_left h.of_right (λ b l i. h.told b (let e = x.long in omega (arith, l, e)) i))
    (ray_told rays known d c t s h.right h.left y x h.of_right h.of_left (λ b l i. elim (h.told b (let e = x.long in omega (arith, l, e)) i) [
      | inl e ↦ inl (sym e)
      | inr w ↦ elim w [ inl z ↦ inr (inr z) | inr z ↦ inr (inl z) ]
    ]))
