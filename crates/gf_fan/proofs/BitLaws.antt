-- What is known of rows at rays in the bits of one word, one further; rows that are told by it to keep two cones apart.
use Rattle.std.proofs.Common.{bit_and, ◌≡◌, ◌≢◌, ℕ, ◌+◌, ◌%◌, ◌<◌, ◌≤◌, List, [], ◌∷◌, ◌++◌, length, take, get_or, ℤ, pos, ◌≤ℤ◌, All, Contains, arith, sym, ap}
use Rattle.std.proofs.Common.{◌∙◌, subst, ◌⊎◌, inl, inr, ◌↔◌}
use Prim.Native.Nat.{min, max}
use Rattle.std.specs.Int.{bit_at}
use Rattle.std.specs.Int.RustNames.{bit_or, bit_xor}
use Rattle.std.proofs.lemmas.Bool.{cases_eq}
use Rattle.std.proofs.lemmas.Nat.Bits.{bit_at_and, bit_at_or, bit_at_xor, bit_at-lt, bit_at-zero}
use Rattle.std.proofs.lemmas.List.{get_or_default, take_all, take_more}
use Rattle.std.proofs.lemmas.List.Elements.{All-append, All-contains, Contains-get_or, Contains-push, Contains-append_left, Contains-append_right}
use Rattle.gf_int_theory.proofs.ListLaws.{all_by, Contains-last, Contains-here}
use Rattle.gf_vec.specs.Vector.{dot}
use Rattle.gf_gordan.specs.Alternative.{AreRows}
use Rattle.gf_duality_theory.proofs.ListLaws.{first_in, none_in, in_cons, in_tail}
use Rattle.gf_fans_theory.specs.FaceLists.{numbered}
use Rattle.gf_fans_theory.specs.Separating.{IsNowherePositive, IsCutOff, AreSeparating, AreSettled}
use Rattle.gf_fans_theory.proofs.PartNumbers.{of_map, in_map}
use Rattle.gf_rays.specs.Cones.{RowsAndRays}
use Rattle.gf_fan.specs.declared.bits.RowBits.{RowBits}
use Rattle.gf_fan.specs.declared.bits.ConeBits.{ConeBits}
use Rattle.gf_fan.specs.Numbered.{AreAdded}
use Rattle.gf_fan.specs.Signs.{AreEach}
use Rattle.gf_fan.specs.Bits.{AreBitsOfRow, AreBitsOfRows, AreBitsOfCone, AreBitsOfFirst, IsExcludedBy, AreToldByBits}
use Rattle.gf_fan.proofs.SettledLaws.{HasSeparated}
use Rattle.gf_fan.proofs.EachLaws.{each_more}

-- ---- a word, one bit further

pub record AreBitsBelow (Q : ℕ → ℕ → Type 0) (n word : ℕ) : Type 0 where
  pub clear : (j : ℕ) → n ≤ j → bit_at word j ≡ 0
  pub each : (j : ℕ) → j < n → Q j (bit_at word j)

abbrev pub IsHighBit : List (List ℤ) → List ℤ → ℕ → ℕ → Type 0
IsHighBit rays h j b = b ≡ 0 → dot h (get_or rays j []) ≤ℤ pos 0

abbrev pub IsCutBit : List (List ℤ) → List ℤ → ℕ → ℕ → Type 0
IsCutBit rays h j b = b ≡ 1 → dot h (get_or rays j []) ≢ pos 0

pub row_done : (rays : List (List ℤ)) (h : List ℤ) (i : ℕ) (s : RowBits) → length rays ≤ i → AreBitsBelow (IsHighBit rays h) i s.high →
    AreBitsBelow (IsCutBit rays h) i s.cut → AreBitsOfRow rays h s
row_done rays h i s l a b = record { low = λ j k. a.each j (omega (arith, l, k)); apart = λ j k. b.each j (omega (arith, l, k)) }

-- ---- the bits at numbers

pub own_more : (numbers : List ℕ) (i x y old new : ℕ) → i < length numbers → x ≡ get_or numbers i x → y ≡ x → bit_at new y ≡ 1 →
    ((j : ℕ) → (j ≡ y → ⊥) → bit_at new j ≡ bit_at old j) → ((j : ℕ) → (bit_at old j ≡ 1) ↔ Contains (take i numbers) j) → (j : ℕ) →
    (bit_at new j ≡ 1) ↔ Contains (take (i + 1) numbers) j
own_more numbers i x y old new h e ey set others s j =
    let more : take (i + 1) numbers ≡ take i numbers ++ x ∷ [] = take_more numbers i x h ∙ ap (λ z. take i numbers ++ z ∷ []) (sym e) in
    subst (λ (l : List ℕ). (bit_at new j ≡ 1) ↔ Contains l j) (sym more) (elim (cases_eq j y) [
      | inl q ↦ (λ _. subst (Contains (take i numbers ++ x ∷ [])) (sym (q ∙ ey)) (Contains-push (take i numbers) x), λ _. ap (bit_at new) q ∙ set)
      | inr n ↦ (
        λ t. first_in (take i numbers) x j ((s j).0 (sym (others j n) ∙ t)),
        λ c. others j n ∙ (s j).1 (elim (Contains-last (take i numbers) x j c) [ inl d ↦ d | inr q ↦ absurd (n (q ∙ sym ey)) ]),
      )
    ])

pub own_done : (numbers : List ℕ) (i word : ℕ) → length numbers ≤ i → ((j : ℕ) → (bit_at word j ≡ 1) ↔ Contains (take i numbers) j) → (j : ℕ) →
    (bit_at word j ≡ 1) ↔ Contains numbers j
own_done numbers i word h s j = subst (λ (l : List ℕ). (bit_at word j ≡ 1) ↔ Contains l j) (take_all i numbers h) (s j)

-- the bits at the numbers of a cone's rays
pub own_of : (rays : List (List ℤ)) (c : RowsAndRays) (numbers : List ℕ) (own : ℕ) → All (λ i. i < length rays) numbers → numbered rays numbers ≡ c.rays →
    ((j : ℕ) → (bit_at own j ≡ 1) ↔ Contains numbers j) → ((i : ℕ) → i < length rays → bit_at own i ≡ 1 → Contains c.rays (get_or rays i [])) × ((r : List ℤ) →
    Contains c.rays r → (i : ℕ) × ((i < length rays) × (get_or rays i [] ≡ r) × (bit_at own i ≡ 1)))
own_of rays c numbers own inside e s = (
  λ i h t. subst (λ (l : List (List ℤ)). Contains l (get_or rays i [])) e (in_map (λ j. get_or rays j []) numbers i ((s i).0 t)),
  λ r k. let q = of_map (λ j. get_or rays j []) numbers r (subst (λ (l : List (List ℤ)). Contains l r) (sym e) k) in
      (q.0, (All-contains (λ i. i < length rays) numbers q.0 inside q.1.0, q.1.1, (s q.0).1 q.1.0)),
)

-- ---- rows, each once

pub width_more : (n : ℕ) (cones : List RowsAndRays) (i : ℕ) (c : RowsAndRays) (rows old new : List (List ℤ)) → All (λ (c : RowsAndRays). c.ambient ≡ n) cones →
    i < length cones → c ≡ get_or cones i c → AreRows c.ambient rows → AreAdded old rows new → AreRows n old → AreRows n new
width_more n cones i c rows old new ambient h e w a o = all_by (λ v. length v ≡ n) new (λ v k. elim (a.each v k) [
  | inl k ↦ All-contains (λ v. length v ≡ n) old v o k
  | inr k ↦ All-contains (λ v. length v ≡ c.ambient) rows v w k ∙ All-contains (λ (c : RowsAndRays). c.ambient ≡ n) cones c ambient (i, h, sym e)
])

-- what is read of the row at an index
pub bits_read : (rays keys : List (List ℤ)) (table : List RowBits) (h : List ℤ) (k : ℕ) (d : RowBits) → AreBitsOfRows rays keys table →
    (k < length keys) × (get_or keys k [] ≡ h) → AreBitsOfRow rays h (get_or table k d)
bits_read rays keys table h k d a p = subst (λ z. AreBitsOfRow rays z (get_or table k d)) p.1 (a.each k d p.0)

-- ---- of cones

pub cone_bits_more : (rays : List (List ℤ)) (cones : List RowsAndRays) (i : ℕ) (c : RowsAndRays) (s : ConeBits) (out new : List ConeBits) → i < length cones →
    c ≡ get_or cones i c → new ≡ out ++ s ∷ [] → AreBitsOfCone rays c s →
    AreEach (λ k (z : ConeBits). (d : RowsAndRays) → AreBitsOfCone rays (get_or cones k d) z) i out →
    AreEach (λ k (z : ConeBits). (d : RowsAndRays) → AreBitsOfCone rays (get_or cones k d) z) (i + 1) new
cone_bits_more rays cones i c s out new h e en p a = each_more (λ k (z : ConeBits). (d : RowsAndRays) → AreBitsOfCone rays (get_or cones k d) z) i s out new en
    (λ d. subst (λ x. AreBitsOfCone rays x s) (e ∙ get_or_default cones i c d h) p) a

pub first_bits : (rays : List (List ℤ)) (cones : List RowsAndRays) (i : ℕ) (out : List ConeBits) →
    AreEach (λ k (z : ConeBits). (d : RowsAndRays) → AreBitsOfCone rays (get_or cones k d) z) i out → AreBitsOfFirst cones out
first_bits rays cones i out a = record { rays = rays; each = λ k c s h. a.each k s (let e = a.long in omega (arith, h, e)) c }

-- ---- rows that are told to keep two cones apart do so

-- no bit of both
pub none_common : (x y i : ℕ) → bit_and x y ≡ 0 → bit_at y i ≡ 1 → bit_at x i ≡ 0
none_common x y i e t =
    let g : min (bit_at x i) (bit_at y i) ≡ 0 = sym (bit_at_and x y i) ∙ ap (λ w. bit_at w i) e ∙ bit_at-zero i in
    let l = bit_at-lt x i in omega (arith, g, t, l)

pub bit_either : (x y i : ℕ) → bit_at (bit_or x y) i ≡ 1 → (bit_at x i ≡ 1) ⊎ (bit_at y i ≡ 1)
bit_either x y i t =
    let g : max (bit_at x i) (bit_at y i) ≡ 1 = sym (bit_at_or x y i) ∙ t in
    let lx = bit_at-lt x i in let ly = bit_at-lt y i in
    elim (cases_eq (bit_at x i) 1) [ inl e ↦ inl e | inr n ↦ inr (omega (arith, g, n, lx, ly)) ]

pub bits_below : (x y i : ℕ) → bit_and x y ≡ x → bit_at x i ≤ bit_at y i
bits_below x y i e = let g : bit_at x i ≡ min (bit_at x i) (bit_at y i) = ap (λ w. bit_at w i) (sym e) ∙ bit_at_and x y i in omega (arith, g)

-- where two words differ, a third one has a bit
pub differing : (a b x y i : ℕ) → bit_at (bit_xor a b) i ≤ bit_at (bit_or x y) i → (bit_at a i ≡ bit_at b i) ⊎ (bit_at x i ≡ 1) ⊎ (bit_at y i ≡ 1)
differing a b x y i h = elim (cases_eq (bit_at a i) (bit_at b i)) [
  | inl e ↦ inl e
  | inr n ↦
      let la = bit_at-lt a i in let lb = bit_at-lt b i in let lo = bit_at-lt (bit_or x y) i in
      let s : bit_at a i + bit_at b i ≡ 1 = omega (arith, n, la, lb) in
      let g : bit_at (bit_xor a b) i ≡ 1 = bit_at_xor a b i ∙ ap (λ z. z % 2) s in
      let o : bit_at (bit_or x y) i ≡ 1 = omega (arith, g, h, lo) in inr (bit_either x y i o)
]

-- two words that differ nowhere
pub same_of_none : (x y i : ℕ) → bit_xor x y ≡ 0 → bit_at x i ≡ bit_at y i
same_of_none x y i e =
    let lx = bit_at-lt x i in let ly = bit_at-lt y i in
    let g : (bit_at x i + bit_at y i) % 2 ≡ 0 = sym (bit_at_xor x y i) ∙ ap (λ w. bit_at w i) e ∙ bit_at-zero i in omega (arith, g, lx, ly)

-- a row of the one that is positive on no ray of the other, and not zero on r
abbrev pub IsCut : RowsAndRays → RowsAndRays → List ℤ → Type 0
IsCut c d r = (h : List ℤ) × (Contains c.inequalities h × IsNowherePositive d.rays h × (dot h r ≢ pos 0))

cut_of : (rays : List (List ℤ)) (c d : RowsAndRays) (s t : ConeBits) (i : ℕ) → AreBitsOfCone rays c s → AreBitsOfCone rays d t → i < length rays →
    IsExcludedBy s.rows.items t.own i → IsCut c d (get_or rays i [])
cut_of rays c d s t i a b hi (k, row, l, e, p) =
    let hk : k < length c.inequalities = let g = a.rows.long in omega (arith, l, g) in
    let h : List ℤ = get_or c.inequalities k [] in
    let is : AreBitsOfRow rays h row = subst (AreBitsOfRow rays h) e (a.rows.each k row hk) in (
      h,
      (
        Contains-get_or c.inequalities k [] hk,
        all_by (λ v. dot h v ≤ℤ pos 0) d.rays (λ v kv. let q = b.every v kv in subst (λ z. dot h z ≤ℤ pos 0) q.1.1 (is.low q.0 q.1.0 (p.0 q.0 q.1.2))),
        is.apart i hi p.1,
      ),
    )

-- rows of both that settle the rays
pub record HasRows (c d : RowsAndRays) (others rays : List (List ℤ)) : Type 0 where
  pub left : List (List ℤ)
  pub right : List (List ℤ)
  pub of_left : AreSeparating c.inequalities d.rays left
  pub of_right : AreSeparating d.inequalities c.rays right
  pub settled : AreSettled left right others rays

cut_wider : (rows wide : List (List ℤ)) → ((t : List ℤ) → Contains rows t → Contains wide t) → (v : List ℤ) → IsCutOff rows v → IsCutOff wide v
cut_wider rows wide f v (i, t, l, e, n) = let c = f t (i, l, e) in (c.0, t, c.1, c.2, n)

cut_first : (h v : List ℤ) (rows : List (List ℤ)) → dot h v ≢ pos 0 → IsCutOff (h ∷ rows) v
cut_first h v rows n = let c = Contains-here h rows in (c.0, h, c.1, c.2, n)

abbrev IsSettledBy : List (List ℤ) → List (List ℤ) → List (List ℤ) → List ℤ → Type 0
IsSettledBy left right others r = Contains others r ⊎ IsCutOff left r ⊎ IsCutOff right r

settled_cons : (left right others rays : List (List ℤ)) (r : List ℤ) → IsSettledBy left right others r → AreSettled left right others rays →
    AreSettled left right others (r ∷ rays)
settled_cons left right others rays r s a = all_by (IsSettledBy left right others) (r ∷ rays) (λ v k. elim (in_cons r rays v k) [
  | inl e ↦ subst (λ (z : List ℤ). Contains others z ⊎ IsCutOff left z ⊎ IsCutOff right z) (sym e) s
  | inr i ↦ All-contains (IsSettledBy left right others) rays v a i
])

settled_wider : (left right left2 right2 others rays : List (List ℤ)) → ((t : List ℤ) → Contains left t → Contains left2 t) →
    ((t : List ℤ) → Contains right t → Contains right2 t) → AreSettled left right others rays → AreSettled left2 right2 others rays
settled_wider left right left2 right2 others rays f g a =
    all_by (IsSettledBy left2 right2 others) rays (λ v k. elim (All-contains (IsSettledBy left right others) rays v a k) [
      | inl o ↦ inl o
      | inr w ↦ elim w [ inl x ↦ inr (inl (cut_wider left left2 f v x)) | inr x ↦ inr (inr (cut_wider right right2 g v x)) ]
    ])

separating_cons : (rows rays left : List (List ℤ)) (h : List ℤ) → Contains rows h → IsNowherePositive rays h → AreSeparating rows rays left →
    AreSeparating rows rays (h ∷ left)
separating_cons rows rays left h i p a = all_by (λ t. Contains rows t × IsNowherePositive rays t) (h ∷ left) (λ t k. elim (in_cons h left t k) [
  | inl e ↦ subst (λ z. Contains rows z × IsNowherePositive rays z) (sym e) (i, p)
  | inr j ↦ All-contains (λ t. Contains rows t × IsNowherePositive rays t) left t a j
])

collected : (c d : RowsAndRays) (others rays : List (List ℤ)) → ((r : List ℤ) → Contains rays r → Contains others r ⊎ IsCut c d r ⊎ IsCut d c r) →
    HasRows c d others rays
collected c d others [] f = record {
  left = [];
  right = [];
  of_left = all_by _ [] (λ t k. absurd (none_in t k));
  of_right = all_by _ [] (λ t k. absurd (none_in t k));
  settled = all_by _ [] (λ t k. absurd (none_in t k));
}
collected c d others (r ∷ rays) f =
    let rest = collected c d others rays (λ v k. f v (in_tail r rays v k)) in
    elim (f r (Contains-here r rays)) [
      | inl o ↦ record {
        left = rest.left;
        right = rest.right;
        of_left = rest.of_left;
        of_right = rest.of_right;
        settled = settled_cons rest.left rest.right others rays r (inl o) rest.settled;
      }
      | inr w ↦ elim w [
        | inl x ↦ record {
          left = x.0 ∷ rest.left;
          right = rest.right;
          of_left = separating_cons c.inequalities d.rays rest.left x.0 x.1.0 x.1.1 rest.of_left;
          of_right = rest.of_right;
          settled = settled_cons (x.0 ∷ rest.left) rest.right others rays r (inr (inl (cut_first x.0 r rest.left x.1.2)))
              (settled_wider rest.left rest.right (x.0 ∷ rest.left) rest.right others rays (λ t k. in_tail x.0 rest.left t k) (λ t k. k) rest.settled);
        }
        | inr x ↦ record {
          left = rest.left;
          right = x.0 ∷ rest.right;
          of_left = rest.of_left;
          of_right = separating_cons d.inequalities c.rays rest.right x.0 x.1.0 x.1.1 rest.of_right;
          settled = settled_cons rest.left (x.0 ∷ rest.right) others rays r (inr (inr (cut_first x.0 r rest.right x.1.2)))
              (settled_wider rest.left rest.right rest.left (x.0 ∷ rest.right) others rays (λ t k. k) (λ t k. in_tail x.0 rest.right t k) rest.settled);
        }
      ]
    ]

-- what is told of a ray of the one cone
ray_told : (rays : List (List ℤ)) (c d : RowsAndRays) (s t : ConeBits) → AreBitsOfCone rays c s → AreBitsOfCone rays d t →
    ((i : ℕ) → (bit_at s.own i ≡ bit_at t.own i) ⊎ IsExcludedBy s.rows.items t.own i ⊎ IsExcludedBy t.rows.items s.own i) → (r : List ℤ) → Contains c.rays r →
    Contains d.rays r ⊎ IsCut c d r ⊎ IsCut d c r
ray_told rays c d s t a b h r k =
    let q = a.every r k in
    let hi : q.0 < length rays = q.1.0 in
    let er : get_or rays q.0 [] ≡ r = q.1.1 in
    subst (λ (z : List ℤ). Contains d.rays z ⊎ IsCut c d z ⊎ IsCut d c z) er (elim (h q.0) [
      | inl e ↦ inl (b.each q.0 hi (sym e ∙ q.1.2))
      | inr w ↦ elim w [ inl x ↦ inr (inl (cut_of rays c d s t q.0 a b hi x)) | inr x ↦ inr (inr (cut_of rays d c t s q.0 b a hi x)) ]
    ])

other_way : (s t : ConeBits) → AreToldByBits s t → AreToldByBits t s
other_way s t h i = elim (h i) [ inl e ↦ inl (sym e) | inr w ↦ elim w [ inl x ↦ inr (inr x) | inr x ↦ inr (inl x) ] ]

-- rows that settle the rays of both
pub separated_by : (c d : RowsAndRays) → ((r : List ℤ) → Contains c.rays r → Contains d.rays r ⊎ IsCut c d r ⊎ IsCut d c r) →
    ((r : List ℤ) → Contains d.rays r → Contains c.rays r ⊎ IsCut d c r ⊎ IsCut c d r) →
    (left : List (List ℤ)) × (right : List (List ℤ)) × HasSeparated c d left right
separated_by c d f g =
    let one = collected c d d.rays c.rays f in
    let two = collected d c c.rays d.rays g in
    let left : List (List ℤ) = one.left ++ two.right in
    let right : List (List ℤ) = one.right ++ two.left in (
      left,
      right,
      record {
        of_left = All-append (λ t. Contains c.inequalities t × IsNowherePositive d.rays t) one.left two.right one.of_left two.of_right;
        of_right = All-append (λ t. Contains d.inequalities t × IsNowherePositive c.rays t) one.right two.left one.of_right two.of_left;
        settled_left = settled_wider one.left one.right left right d.rays c.rays (Contains-append_left one.left two.right)
            (Contains-append_left one.right two.left) one.settled;
        settled_right = settled_wider two.left two.right right left c.rays d.rays (Contains-append_right one.right two.left)
            (Contains-append_right one.left two.right) two.settled;
      },
    )

pub told_by_bits : (rays : List (List ℤ)) (c d : RowsAndRays) (s t : ConeBits) → AreBitsOfCone rays c s → AreBitsOfCone rays d t → AreToldByBits s t →
    (left : List (List ℤ)) × (right : List (List ℤ)) × HasSeparated c d left right
told_by_bits rays c d s t a b h = separated_by c d (ray_told rays c d s t a b h) (ray_told rays d c t s b a (other_way s t h))
