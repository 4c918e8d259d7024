-- Faces by the numbers of their rays, and their dimensions.
use Rattle.std.proofs.Common.{◌≡◌, ℕ, zero, suc, ◌<◌, ◌≤◌, List, [], ◌∷◌, ◌++◌, length, map, ℤ, pos, arith, sym, refl, ap, ◌∙◌, subst, inl, inr, get_or}
use Rattle.std.proofs.Common.{Contains, All, AllPairs}
use Rattle.std.specs.Ordering.{int_cmp, nat_cmp}
use Rattle.std.specs.Cmp.Lexicographic.{slice_cmp}
use Rattle.std.specs.declared.cmp.Ordering.TheVariants.{Less}
use Rattle.std.specs.List.Sorted.{IsSortedByKey}
use Rattle.std.proofs.lemmas.Int.{ints}
use Rattle.std.proofs.lemmas.List.{get_or_default, get_or-map, length-map}
use Rattle.std.proofs.lemmas.List.Elements.{All-contains, Contains-append_cases}
use Rattle.gf_int_theory.proofs.ListLaws.{Contains-here, all_by}
use Rattle.gf_vec.specs.Vector.{dot}
use Rattle.gf_duality_theory.specs.Rays.{IsRays}
use Rattle.gf_duality_theory.proofs.ListLaws.{none_in, in_tail, in_cons, index, less, at, more}
use Rattle.gf_duality_theory.proofs.Determined.{described_of, less_never}
use Rattle.gf_fans_theory.specs.Dimension.{HasDimension}
use Rattle.gf_fans_theory.specs.FaceLists.{IsPartOn, AreNumbers, IsFaceBy, numbered}
use Rattle.gf_fans_theory.specs.Heights.{AreParts, IsWithinPart, IsNextBelow, AreHeights}
use Rattle.gf_fans_theory.specs.Laws.{IsGreatestPart}
use Rattle.gf_fans_theory.proofs.FaceLaws.{face_rays}
use Rattle.gf_fans_theory.proofs.FaceDimension.{dimension_above, dimension_lineality, part_of_part}
use Rattle.gf_fans_theory.proofs.Ordered.{by_lengths, within_all, same_numbers, missing}

-- ---- numbers

pub in_map : {X Y : Type 0} (f : X → Y) (xs : List X) (x : X) → Contains xs x → Contains (map f xs) (f x)
in_map f [] x c = absurd (none_in x c)
in_map f (y ∷ xs) x c = elim (in_cons y xs x c) [
  | inl e ↦ subst (λ t. Contains (f y ∷ map f xs) (f t)) (sym e) (Contains-here (f y) (map f xs))
  | inr d ↦ in_tail (f y) (map f xs) (f x) (in_map f xs x d)
]

pub of_map : {X Y : Type 0} (f : X → Y) (xs : List X) (y : Y) → Contains (map f xs) y → (x : X) × (Contains xs x × (f x ≡ y))
of_map f [] y c = absurd (none_in y c)
of_map f (x ∷ xs) y c = elim (in_cons (f x) (map f xs) y c) [
  | inl e ↦ (x, (Contains-here x xs, sym e))
  | inr d ↦ let m = of_map f xs y d in (m.0, (in_tail x xs m.0 m.1.0, m.1.1))
]

-- the vector at a number
pub at_number : (rays : List (List ℤ)) (numbers : List ℕ) (i : ℕ) → Contains numbers i → Contains (numbered rays numbers) (get_or rays i [])
at_number rays numbers i c = in_map (λ i. get_or rays i []) numbers i c

pub of_number : (rays : List (List ℤ)) (numbers : List ℕ) (v : List ℤ) → Contains (numbered rays numbers) v →
    (i : ℕ) × (Contains numbers i × (get_or rays i [] ≡ v))
of_number rays numbers v c = of_map (λ i. get_or rays i []) numbers v c

-- ascending numbers of ascending vectors
pub numbered_ascends : (rays : List (List ℤ)) (numbers : List ℕ) → AllPairs (λ x y. slice_cmp int_cmp x y ≡ Less) rays → AreNumbers rays numbers →
    AllPairs (λ x y. slice_cmp int_cmp x y ≡ Less) (numbered rays numbers)
numbered_ascends rays numbers a n i j d h l =
    let lm : length (numbered rays numbers) ≡ length numbers = length-map numbers (λ i. get_or rays i []) in
    let hj : j < length numbers = omega (arith, l, lm) in
    let hi : i < length numbers = omega (arith, h, hj) in
    let x : get_or (numbered rays numbers) i d ≡ get_or rays (get_or numbers i 0) [] = get_or-map (λ i. get_or rays i []) numbers i 0 d hi in
    let y : get_or (numbered rays numbers) j d ≡ get_or rays (get_or numbers j 0) [] = get_or-map (λ i. get_or rays i []) numbers j 0 d hj in
    subst (λ t. slice_cmp int_cmp t (get_or (numbered rays numbers) j d) ≡ Less) (sym x)
    (subst (λ t. slice_cmp int_cmp (get_or rays (get_or numbers i 0) []) t ≡ Less) (sym y)
    (a (get_or numbers i 0) (get_or numbers j 0) [] (n.ascending i j 0 h hj) (n.inside j 0 hj)))

-- ascending vectors at different indices differ
pub index_of_vector : (rays : List (List ℤ)) (i j : ℕ) → AllPairs (λ x y. slice_cmp int_cmp x y ≡ Less) rays → i < length rays → j < length rays →
    get_or rays i [] ≡ get_or rays j [] → i ≡ j
index_of_vector rays i j a hi hj e = elim (index i j) [
  | at q ↦ q
  | less k ↦ let u : slice_cmp int_cmp (get_or rays i []) (get_or rays i []) ≡ Less =
      subst (λ t. slice_cmp int_cmp t (get_or rays i []) ≡ Less) (sym e) (a j i [] k hi) in absurd (less_never (get_or rays i []) (get_or rays i []) u u)
  | more k ↦ let u : slice_cmp int_cmp (get_or rays i []) (get_or rays i []) ≡ Less =
      subst (λ t. slice_cmp int_cmp (get_or rays i []) t ≡ Less) (sym e) (a i j [] k hj) in absurd (less_never (get_or rays i []) (get_or rays i []) u u)
]

-- a number is listed where its vector is
pub number_in : (rays : List (List ℤ)) (numbers : List ℕ) (i : ℕ) → AllPairs (λ x y. slice_cmp int_cmp x y ≡ Less) rays → AreNumbers rays numbers →
    i < length rays → Contains (numbered rays numbers) (get_or rays i []) → Contains numbers i
number_in rays numbers i a n hi c =
    let t = of_number rays numbers (get_or rays i []) c in
    let h : t.0 < length rays = All-contains (λ i. i < length rays) numbers t.0 n.inside t.1.0 in
    subst (Contains numbers) (index_of_vector rays t.0 i a h hi t.1.1) t.1.0

-- ---- indices

-- rows have indices
pub indices_of : (hs zero_rows : List (List ℤ)) → ((t : List ℤ) → Contains zero_rows t → Contains hs t) →
    (ks : List ℕ) × (((k : ℕ) → Contains ks k → k < length hs) × (numbered hs ks ≡ zero_rows))
indices_of hs [] f = ([], ((λ k c. absurd (none_in k c)), refl))
indices_of hs (t ∷ ts) f =
    let c = f t (Contains-here t ts) in
    let r = indices_of hs ts (λ u d. f u (in_tail t ts u d)) in (
      c.0 ∷ r.0,
      (
        (λ k d. elim (in_cons c.0 r.0 k d) [ inl e ↦ subst (λ j. j < length hs) (sym e) c.1 | inr i ↦ r.1.0 k i ]),
        ap (λ v. v ∷ numbered hs r.0) (get_or_default hs c.0 [] t c.1 ∙ c.2) ∙ ap (λ l. t ∷ l) r.1.1,
      ),
    )

pub rows_listed : (hs : List (List ℤ)) (ks : List ℕ) → ((k : ℕ) → Contains ks k → k < length hs) → (t : List ℤ) → Contains (numbered hs ks) t → Contains hs t
rows_listed hs ks f t c = let u = of_number hs ks t c in let h =
    f u.0 u.1.0 in subst (Contains hs) u.1.1 (u.0, h, get_or_default hs u.0 (get_or hs u.0 []) [] h)

-- ---- dimensions

all_indices : (hs : List (List ℤ)) → (ks : List ℕ) × (((k : ℕ) → Contains ks k → k < length hs) × (numbered hs ks ≡ hs))
all_indices hs = indices_of hs hs (λ t c. c)

-- a part, with its rows
record PartAt (n : ℕ) (hs es lin : List (List ℤ)) (vs : List (List ℤ)) (f : List ℕ) : Type 0 where
  ks : List ℕ
  listed_numbers : AreNumbers vs f
  on : IsPartOn (numbered hs ks) vs (numbered vs f)
  listed : (t : List ℤ) → Contains (numbered hs ks) t → Contains hs t
  are_rays : IsRays n hs (es ++ numbered hs ks) lin (numbered vs f)

part_at : (n : ℕ) (hs es lin : List (List ℤ)) (vs : List (List ℤ)) (parts : List (List ℕ)) (f : List ℕ) → IsRays n hs es lin vs → AreParts hs vs parts →
    Contains parts f → PartAt n hs es lin vs f
part_at n hs es lin vs parts f s a c =
    let e = a.each f c in
    record {
      ks = e.0;
      listed_numbers = e.1.1;
      on = e.1.2;
      listed = rows_listed hs e.0 e.1.0;
      are_rays = face_rays n hs es lin vs (numbered hs e.0) (numbered vs f) s (rows_listed hs e.0 e.1.0) e.1.2;
    }

in_list : (parts : List (List ℕ)) (i : ℕ) → i < length parts → Contains parts (get_or parts i [])
in_list parts i h = (i, h, get_or_default parts i (get_or parts i []) [] h)

-- the part on which all rows are zero has no ray
flat_part : (n : ℕ) (hs es lin : List (List ℤ)) (vs : List (List ℤ)) (parts : List (List ℕ)) → IsRays n hs es lin vs → AreParts hs vs parts →
    (f : List ℕ) × (Contains parts f × ((i : ℕ) → Contains f i → ⊥))
flat_part n hs es lin vs parts s a =
    let k = all_indices hs in
    let f = a.every k.0 k.1.0 in
    let d = described_of n hs es lin vs s in (
      f.0,
      (
        f.1.0,
        λ i c.
            let v : List ℤ = get_or vs i [] in
            let e = f.1.1.each v (at_number vs f.0 i c) in
            let h = d.pointed v e.0 in
            let z : dot h.0 v ≡ pos 0 = e.1 h.0 (subst (λ l. Contains l h.0) (sym k.1.1) h.1.0) in
            let u = h.1.1 in absurd (omega (arith, ints, z, u)),
      ),
    )

none_left : (f : List ℕ) → length f ≤ 0 → f ≡ []
none_left [] h = refl
none_left (x ∷ f) h = absurd (omega (arith, h))

least_dimension : (n : ℕ) (hs es lin : List (List ℤ)) (vs : List (List ℤ)) (parts : List (List ℕ)) (i : ℕ) → IsRays n hs es lin vs → AreParts hs vs parts →
    IsSortedByKey (λ (part : List ℕ). length part) nat_cmp parts → i < length parts → ((j : ℕ) → j < i → IsWithinPart parts j i → ⊥) →
    HasDimension n (numbered vs (get_or parts i []) ++ lin) (length lin)
least_dimension n hs es lin vs parts i s a sorted h none =
    let f = flat_part n hs es lin vs parts s a in
    let j : ℕ = f.1.0.0 in
    let e : get_or parts j [] ≡ f.0 = get_or_default parts j [] f.0 f.1.0.1 ∙ f.1.0.2 in
    let empty : (x : List ℕ) → ((y : ℕ) → Contains x y → ⊥) → length x ≤ 0 = λ x g. elim x as (λ (x : List ℕ). ((y : ℕ) → Contains x y → ⊥) → length x ≤ 0) [
      | [] ↦ λ g. omega arith
      | y ∷ ys ↦ λ g. absurd (g y (Contains-here y ys))
    ] g in
    let z : get_or parts i [] ≡ [] = elim (index j i) [
      | more k ↦ absurd (none j k (all_by (Contains (get_or parts i [])) (get_or parts j []) (λ y c. absurd (f.1.1 y (subst (λ l. Contains l y) e c)))))
      | at q ↦ none_left (get_or parts i []) (empty (get_or parts i []) (λ y c.
          f.1.1 y (subst (λ l. Contains l y) (ap (λ t. get_or parts t []) (sym q) ∙ e) c)))
      | less k ↦ none_left (get_or parts i []) (let u = by_lengths parts sorted i j (omega (arith, k)) f.1.0.1 in let v =
          empty (get_or parts j []) (λ y c. f.1.1 y (subst (λ l. Contains l y) e c)) in omega (arith, u, v))
    ] in
    let p = part_at n hs es lin vs parts (get_or parts i []) s a (in_list parts i h) in
    subst (λ l. HasDimension n (numbered vs l ++ lin) (length lin)) (sym z)
    (dimension_lineality n hs (es ++ numbered hs p.ks) lin (subst (λ l. IsRays n hs (es ++ numbered hs p.ks) lin (numbered vs l)) z p.are_rays))

part_within : (flat vs some other : List (List ℤ)) → IsPartOn flat vs other → IsPartOn flat vs some → (x : List ℤ) → Contains other x → Contains some x
part_within flat vs some other p q x c = q.every x (p.each x c).0 (p.each x c).1

next_dimension : (n : ℕ) (hs es lin : List (List ℤ)) (vs : List (List ℤ)) (parts : List (List ℕ)) (i j dim : ℕ) → IsRays n hs es lin vs → AreParts hs vs parts →
    IsSortedByKey (λ (part : List ℕ). length part) nat_cmp parts → i < length parts → IsNextBelow parts i j →
    HasDimension n (numbered vs (get_or parts j []) ++ lin) dim → HasDimension n (numbered vs (get_or parts i []) ++ lin) (suc dim)
next_dimension n hs es lin vs parts i j dim s a sorted h below dj =
    let up = s.ascending in
    let b = below.before in
    let hj : j < length parts = omega (arith, h, b) in
    let big : List ℕ = get_or parts i [] in let small : List ℕ = get_or parts j [] in
    let p = part_at n hs es lin vs parts big s a (in_list parts i h) in
    let q = part_at n hs es lin vs parts small s a (in_list parts j hj) in
    let np = p.listed_numbers in let nq = q.listed_numbers in
    let sub : (x : ℕ) → Contains small x → Contains big x = λ x c. All-contains (Contains big) small x below.within c in
    let sub_v : (v : List ℤ) → Contains (numbered vs small) v → Contains (numbered vs big) v = λ v c. let t =
    of_number vs small v c in subst (Contains (numbered vs big)) t.1.1 (at_number vs big t.0 (sub t.0 t.1.0)) in
    let in_vs : (x : ℕ) → Contains big x → x < length vs = λ x c. All-contains (λ i. i < length vs) big x np.inside c in
    elim (missing big small) [
      | inr all ↦ absurd (a.once j i [] b h (same_numbers small big nq.ascending np.ascending sub all))
      | inl m ↦
          let x : ℕ = m.0 in let r : List ℤ = get_or vs x [] in
          let out : Contains (numbered vs small) r → ⊥ = λ c. m.1.1 (number_in vs small x up nq (in_vs x m.1.0) c) in
          let on : IsPartOn (numbered hs q.ks) (numbered vs big) (numbered vs small) = record {
            ascending = q.on.ascending;
            each = λ v c. (sub_v v c, (q.on.each v c).1);
            every = λ v c f. q.on.every v (p.on.each v c).0 f;
          } in
          let most : IsGreatestPart hs (numbered vs big) (numbered vs small) = λ zero_rows other listed part inside less_than v c.
          let all_zero : List (List ℤ) = numbered hs p.ks ++ zero_rows in
          let k = indices_of hs all_zero (λ t d. elim (Contains-append_cases (numbered hs p.ks) zero_rows t d) [ inl u ↦ p.listed t u | inr u ↦ listed t u ]) in
          let f = a.every k.0 k.1.0 in
          let mid : List ℕ = f.0 in
          let nm = (part_at n hs es lin vs parts mid s a f.1.0).listed_numbers in
          let whole : IsPartOn all_zero vs other = part_of_part (numbered hs p.ks) zero_rows vs (numbered vs big) other p.on part in
          let of_mid : IsPartOn all_zero vs (numbered vs mid) = subst (λ l. IsPartOn l vs (numbered vs mid)) k.1.1 f.1.1 in
          let to_other : (w : List ℤ) → Contains (numbered vs mid) w → Contains other w = part_within all_zero vs other (numbered vs mid) of_mid whole in
          let of_other : (w : List ℤ) → Contains other w → Contains (numbered vs mid) w = part_within all_zero vs (numbered vs mid) other whole of_mid in
          let in_mid : (y : ℕ) → Contains mid y → y < length vs = λ y d. All-contains (λ i. i < length vs) mid y nm.inside d in
          let mid_big : (y : ℕ) → Contains mid y → Contains big y =
          λ y d. number_in vs big y up np (in_mid y d) (part.each (get_or vs y []) (to_other (get_or vs y []) (at_number vs mid y d))).0 in
          let small_mid : (y : ℕ) → Contains small y → Contains mid y =
          λ y d. number_in vs mid y up nm (in_vs y (sub y d)) (of_other (get_or vs y []) (inside (get_or vs y []) (at_number vs small y d))) in
          let g : ℕ = f.1.0.0 in
          let eg : get_or parts g [] ≡ mid = get_or_default parts g [] mid f.1.0.1 ∙ f.1.0.2 in
          let back : (y : ℕ) → Contains mid y → Contains small y = elim (index g i) [
            | at e ↦ absurd (less_than (λ w d. let t = of_number vs big w d in
                subst (Contains other) t.1.1 (to_other (get_or vs t.0 []) (at_number vs mid t.0
                (subst (λ l. Contains l t.0) (ap (λ z. get_or parts z []) (sym e) ∙ eg) t.1.0)))))
            | less l ↦
                let u = by_lengths parts sorted i g (omega (arith, l)) f.1.0.1 in
                let w : length big ≤ length mid = subst (λ l. length big ≤ length l) eg u in
                let all = within_all mid big nm.ascending np.ascending mid_big w in
                absurd (less_than (λ w d. let t = of_number vs big w d in
                subst (Contains other) t.1.1 (to_other (get_or vs t.0 []) (at_number vs mid t.0 (all t.0 t.1.0)))))
            | more l ↦
                let gj : g ≤ j = elim (index g j) [
                  | at e ↦ omega (arith, e)
                  | more e ↦ omega (arith, e)
                  | less e ↦ absurd (below.later g e l (subst (λ t. All (Contains big) t) (sym eg) (all_by (Contains big) mid mid_big)))
                ] in
                let u = by_lengths parts sorted g j gj hj in
                within_all small mid nq.ascending nm.ascending small_mid (subst (λ l. length l ≤ length small) eg u)
          ] in
          let t = of_number vs mid v (of_other v c) in
          subst (Contains (numbered vs small)) t.1.1 (at_number vs small t.0 (back t.0 t.1.0)) in
          dimension_above n hs (es ++ numbered hs p.ks) lin (numbered vs big) (numbered hs q.ks) (numbered vs small) r dim p.are_rays q.listed on
          (at_number vs big x m.1.0) out most dj
    ]

-- the heights of parts are the dimensions of their faces
heights_below : (n : ℕ) (hs es lin : List (List ℤ)) (vs : List (List ℤ)) (parts : List (List ℕ)) (heights : List ℕ) → IsRays n hs es lin vs →
    AreParts hs vs parts → IsSortedByKey (λ (part : List ℕ). length part) nat_cmp parts → AreHeights (length lin) parts heights → (bound i : ℕ) → i < bound →
    i < length parts → HasDimension n (numbered vs (get_or parts i []) ++ lin) (get_or heights i 0)
heights_below n hs es lin vs parts heights s a sorted t zero i b h = absurd (omega (arith, b))
heights_below n hs es lin vs parts heights s a sorted t (suc bound) i b h = elim (t.each i h) [
  | inl (none, e) ↦ subst (HasDimension n (numbered vs (get_or parts i []) ++ lin)) (sym e) (least_dimension n hs es lin vs parts i s a sorted h none)
  | inr (j, (below, e)) ↦
      let k = below.before in
      let dj = heights_below n hs es lin vs parts heights s a sorted t bound j (omega (arith, b, k)) (omega (arith, h, k)) in
      subst (HasDimension n (numbered vs (get_or parts i []) ++ lin)) (let q : suc (get_or heights j 0) ≡ get_or heights i 0 = omega (arith, e) in
      q) (next_dimension n hs es lin vs parts i j (get_or heights j 0) s a sorted h below dj)
]

pub heights_dimensions : (n : ℕ) (hs es lin : List (List ℤ)) (vs : List (List ℤ)) (parts : List (List ℕ)) (heights : List ℕ) (i : ℕ) → IsRays n hs es lin vs →
    AreParts hs vs parts → IsSortedByKey (λ (part : List ℕ). length part) nat_cmp parts → AreHeights (length lin) parts heights → i < length parts →
    HasDimension n (numbered vs (get_or parts i []) ++ lin) (get_or heights i 0)
heights_dimensions n hs es lin vs parts heights i s a sorted t h = heights_below n hs es lin vs parts heights s a sorted t (suc i) i (omega arith) h

-- the faces of sorted parts
pub part_faces : (n : ℕ) (hs es lin : List (List ℤ)) (vs : List (List ℤ)) (parts : List (List ℕ)) (heights : List ℕ) (i : ℕ) → IsRays n hs es lin vs →
    AreParts hs vs parts → IsSortedByKey (λ (part : List ℕ). length part) nat_cmp parts → AreHeights (length lin) parts heights → i < length parts →
    (zero_rows : List (List ℤ)) → IsPartOn zero_rows vs (numbered vs (get_or parts i [])) → ((t : List ℤ) → Contains zero_rows t → Contains hs t) →
    IsFaceBy n (record { inequalities = hs; equations = es }) lin vs zero_rows (get_or parts i []) (get_or heights i 0)
part_faces n hs es lin vs parts heights i s a sorted t h zero_rows p listed =
    let q = part_at n hs es lin vs parts (get_or parts i []) s a (in_list parts i h) in
    record {
      listed = q.listed_numbers;
      are_rays = face_rays n hs es lin vs zero_rows (numbered vs (get_or parts i [])) s listed p;
      spans = heights_dimensions n hs es lin vs parts heights i s a sorted t h;
    }
