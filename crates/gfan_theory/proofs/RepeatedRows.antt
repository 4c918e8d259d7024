-- Where there is room for some rows, there is room for any number of rows that are these or their opposites.
-- To cite: IsAlongOne, has_far_room, RepeatedRowsFit, repeated_rows_fit. The rest are steps.
use Rattle.std.proofs.Common.{◌≡◌, ℕ, zero, suc, ◌+◌, ◌*◌, ◌^◌, ◌<◌, ◌≤◌, ◌-◌, List, [], ◌∷◌, ◌++◌, length, ℤ, pos, negsuc, neg_ℤ, ◌*ℤ◌, ◌<ℤ◌, ◌≤ℤ◌}
use Rattle.std.proofs.Common.{◌⊎◌, arith, sym, refl, ap, ◌∙◌, subst, inl, inr, get_or, remove, unsigned_abs, All, Contains, Bool, true, false, ◌&&◌, cond}
use Rattle.std.proofs.Math.Nat.{mul-le-mul}
use Rattle.std.proofs.lemmas.Bool.{and_parts, true_from_ne_false}
use Rattle.std.proofs.lemmas.Int.{ints}
use Rattle.std.proofs.lemmas.List.{get_or_default}
use Rattle.std.proofs.lemmas.List.Edits.{length-remove}
use Rattle.std.proofs.lemmas.List.Elements.{All-contains, Contains-append_cases, Contains-append_left, Contains-push}
use Rattle.std.proofs.lemmas.Slice.Zip.{AllZip-long}
use Rattle.gf_int_theory.proofs.ListLaws.{all_by}
use Rattle.gf_vec.specs.Vector.{dot, opposite}
use Rattle.gf_vec.proofs.DotLaws.{dot-times_right}
use Rattle.gf_gordan.specs.Alternative.{AreRows}
use Rattle.gf_gordan.specs.Sizes.{HaveEntriesUpTo}
use Rattle.gf_gordan.specs.declared.error.ConeOverflow.{ConeOverflow}
use Rattle.gf_gordan.proofs.SizeLaws.{UpTo, up_weaker}
use Rattle.gf_gordan.proofs.StepSizes.{no_dot}
use Rattle.gf_duality_theory.specs.Faces.{Rows}
use Rattle.gf_duality_theory.specs.Rays.{IsZeroOn}
use Rattle.gf_duality_theory.specs.Elimination.{IsNullSpace}
use Rattle.gf_duality_theory.specs.Straightening.{IsLeveled}
use Rattle.gf_duality_theory.proofs.ListLaws.{none_in, in_cons, rest_cover, index, less, at, more}
use Rattle.gf_rays.specs.Cones.{AreRaysWithinLimits}
use Rattle.gf_rays.specs.declared.ray.Ray.{Ray}
use Rattle.gf_rays.specs.Leveling.{IsLine, IsLinedBy, IsRowStep, lineal, splitting, leveling}
use Rattle.gf_rays.specs.Limits.{turned_bound, next_bound, orthogonal_bound, straight_bound, fits, IsSmallSystem}
use Rattle.gf_rays.specs.MarkedRays.{IsPruned, vectors_of}
use Rattle.gf_rays.specs.Reached.{IsReachedState, begun, split, lined, IsRaysStep, null_space, taking, lineality, straight, echelon, implied}
use Rattle.gf_rays.specs.Splitting.{IsSplit, testing, pairing}
use Rattle.gf_rays.specs.States.{IsConeState}
use Rattle.gf_rays.proofs.ReachedLaws.{reached_state, chosen_in}
use Rattle.gf_rays.proofs.ReachedSizes.{AreUpTo, BothUpTo, next_step, no_elimination, entry_up, sized_last, snoc_long, split_up, lined_up, no_row_step}
use Rattle.gf_rays.proofs.ReachedSizes.{room_below, middle_in, front_in, weaker}
use Rattle.gfan_theory.proofs.RowSteps.{vector_in, of_vector, of_pruned}
use Rattle.gfan_theory.proofs.VectorRoom.{AreWide, wide_front, below_fits, straight_mono, orthogonal_one, orthogonal_up, orthogonal_wide, no_straightening}
use Rattle.gfan_theory.proofs.VectorRoom.{no_orthogonalizing, no_null_step, small_basis, one_turned}

-- ---- what there has to be room for

-- on each vector of n entries the row h is zero; or it is one of the rows ds, or its opposite
pub data IsAlongOne (n : ℕ) (ds : List (List ℤ)) (h : List ℤ) : Type 0 where
  flat : ((v : List ℤ) → length v ≡ n → dot h v ≡ pos 0) → IsAlongOne n ds h
  along : (d : List ℤ) → Contains ds d → ((v : List ℤ) → length v ≡ n → dot h v ≡ dot d v) → IsAlongOne n ds h
  against : (d : List ℤ) → Contains ds d → ((v : List ℤ) → length v ≡ n → dot h v ≡ neg_ℤ (dot d v)) → IsAlongOne n ds h

-- at the end, of so many lineality vectors with entries up to l and perhaps some rays with entries up to m, for rows of n entries up to b
abbrev pub far_ends_fit : ℕ → ℕ → Bool → ℕ → ℕ → ℕ → Bool
far_ends_fit n b some c l m =
    fits (n * (b * m)) && (fits (n * (orthogonal_bound n l c * orthogonal_bound n l c)) &&
    (cond some (fits (straight_bound n (orthogonal_bound n l c) c m)) true && fits (turned_bound l c)))

-- of so many different rows: each leaves the lineality vectors, or makes a ray of one of them
abbrev pub far_rows_fit : ℕ → ℕ → ℕ → Bool → ℕ → ℕ → ℕ → Bool
far_rows_fit n b zero some c l m = far_ends_fit n b some c l m
far_rows_fit n b (suc k) some c l m =
    fits (next_bound n b m) && (far_rows_fit n b k some c l (cond some (next_bound n b m) m) && far_rows_fit n b k true (c - 1) (next_bound n b l)
    (next_bound n b m))

-- behind null spaces of at least so many equations
abbrev pub far_starts_fit : ℕ → ℕ → ℕ → ℕ → Bool
far_starts_fit n b k zero = far_rows_fit n b k false n 1 1
far_starts_fit n b k (suc p) = far_rows_fit n b k false (n - suc p) (turned_bound b n) (turned_bound b n) && far_starts_fit n b k p

-- for inequalities that are among so many up to sign, and any equations
abbrev pub has_far_room : ℕ → ℕ → ℕ → Bool
has_far_room n b k = fits (turned_bound b n) && far_starts_fit n b k n

-- Where there is room by these bounds for the rows ds, no operation of finding the rays leaves the range, however often each is repeated or turned: a row
-- after itself or its opposite combines no rays. There is room for three rows of three entries up to 1.
pub record RepeatedRowsFit : Type 0 where
  pub systems : (n b : ℕ) (ds : List (List ℤ)) (c : Rows) → 1 ≤ n → 1 ≤ b → IsSmallSystem n b c →
      ((h : List ℤ) → Contains c.inequalities h → IsAlongOne n ds h) → has_far_room n b (length ds) ≡ true → AreRaysWithinLimits n c.inequalities c.equations
  pub room : (has_far_room 3 1 3 ≡ true) × (has_far_room 2 1 1 ≡ true) × (has_far_room 1 1 0 ≡ true)

-- ---- rows that were there

-- after the rows hs the row h is known: it is zero on each vector, or it is one of them or its opposite
abbrev IsKnown : ℕ → List (List ℤ) → List ℤ → Type 0
IsKnown = IsAlongOne

negated_twice : (x : ℤ) → neg_ℤ (neg_ℤ x) ≡ x
negated_twice x = omega (arith, ints)

negated_none : neg_ℤ (pos 0) ≡ pos 0
negated_none = refl

-- if d is known and h is along d, so is h
known_along : (n : ℕ) (hs : List (List ℤ)) (d h : List ℤ) → IsKnown n hs d → ((v : List ℤ) → length v ≡ n → dot h v ≡ dot d v) → IsKnown n hs h
known_along n hs d h (IsAlongOne.flat f) e = IsAlongOne.flat (λ v l. e v l ∙ f v l)
known_along n hs d h (IsAlongOne.along g c f) e = IsAlongOne.along g c (λ v l. e v l ∙ f v l)
known_along n hs d h (IsAlongOne.against g c f) e = IsAlongOne.against g c (λ v l. e v l ∙ f v l)

known_against : (n : ℕ) (hs : List (List ℤ)) (d h : List ℤ) → IsKnown n hs d → ((v : List ℤ) → length v ≡ n → dot h v ≡ neg_ℤ (dot d v)) → IsKnown n hs h
known_against n hs d h (IsAlongOne.flat f) e = IsAlongOne.flat (λ v l. e v l ∙ ap neg_ℤ (f v l) ∙ negated_none)
known_against n hs d h (IsAlongOne.along g c f) e = IsAlongOne.against g c (λ v l. e v l ∙ ap neg_ℤ (f v l))
known_against n hs d h (IsAlongOne.against g c f) e = IsAlongOne.along g c (λ v l. e v l ∙ ap neg_ℤ (f v l) ∙ negated_twice (dot g v))

-- with more rows
known_more : (n : ℕ) (hs whole : List (List ℤ)) (d : List ℤ) → ((g : List ℤ) → Contains hs g → Contains whole g) → IsKnown n hs d → IsKnown n whole d
known_more n hs whole d to (IsAlongOne.flat f) = IsAlongOne.flat f
known_more n hs whole d to (IsAlongOne.along g c f) = IsAlongOne.along g (to g c) f
known_more n hs whole d to (IsAlongOne.against g c f) = IsAlongOne.against g (to g c) f

-- what h gives where it is known: zero on the lineality vectors, and one sign on the rays
data HasOneSign (h : List ℤ) (rays : List Ray) : Type 0 where
  upward : ((r : Ray) → Contains rays r → pos 0 ≤ℤ dot h r.vector) → HasOneSign h rays
  downward : ((r : Ray) → Contains rays r → dot h r.vector ≤ℤ pos 0) → HasOneSign h rays

zero_up : (x : ℤ) → x ≡ pos 0 → pos 0 ≤ℤ x
zero_up x e = omega (arith, ints, e)

same_up : (x y : ℤ) → x ≡ y → pos 0 ≤ℤ y → pos 0 ≤ℤ x
same_up x y e u = omega (arith, ints, e, u)

turned_down : (x y : ℤ) → x ≡ neg_ℤ y → pos 0 ≤ℤ y → x ≤ℤ pos 0
turned_down x y e u = omega (arith, ints, e, u)

module _ (n : ℕ) (hs es lin : List (List ℤ)) (rays : List Ray) (s : IsConeState n hs es lin rays) where
  known_flat : (h : List ℤ) → IsKnown n hs h → (x : List ℤ) → Contains lin x → dot h x ≡ pos 0
  known_flat h (IsAlongOne.flat f) x c = f x (s.described.lin_width x c)
  known_flat h (IsAlongOne.along g k f) x c = f x (s.described.lin_width x c) ∙ s.described.valid.flat g x k c
  known_flat h (IsAlongOne.against g k f) x c = f x (s.described.lin_width x c) ∙ ap neg_ℤ (s.described.valid.flat g x k c) ∙ negated_none

  known_sign : (h : List ℤ) → IsKnown n hs h → HasOneSign h rays
  known_sign h (IsAlongOne.flat f) = HasOneSign.upward (λ r c. zero_up (dot h r.vector) (f r.vector (s.described.rays_width r.vector (vector_in rays r c))))
  known_sign h (IsAlongOne.along g k f) = HasOneSign.upward (λ r c.
      let v = vector_in rays r c in
      same_up (dot h r.vector) (dot g r.vector) (f r.vector (s.described.rays_width r.vector v)) (s.described.valid.up g r.vector k v))
  known_sign h (IsAlongOne.against g k f) = HasOneSign.downward (λ r c.
      let v = vector_in rays r c in
      turned_down (dot h r.vector) (dot g r.vector) (f r.vector (s.described.rays_width r.vector v)) (s.described.valid.up g r.vector k v))

-- then no two rays are combined
no_pair : (h : List ℤ) (rays : List Ray) (p q : Ray) → HasOneSign h rays → Contains rays p → Contains rays q → pos 0 <ℤ dot h p.vector →
    dot h q.vector <ℤ pos 0 → ⊥
no_pair h rays p q (HasOneSign.upward f) cp cq u d = let k = f q cq in omega (arith, ints, k, d)
no_pair h rays p q (HasOneSign.downward f) cp cq u d = let k = f p cp in omega (arith, ints, k, u)

-- and there is no line along which h isn't zero
no_line : (h : List ℤ) (lin : List (List ℤ)) (i : ℕ) (l : List ℤ) → ((x : List ℤ) → Contains lin x → dot h x ≡ pos 0) → IsLine h lin i l → ⊥
no_line h lin i l zero_on k =
    let y : List ℤ = get_or lin i [] in
    let e : dot h y ≡ pos 0 = zero_on y (i, k.inside, get_or_default lin i y [] k.inside) in
    let u = k.up in
    elim k.signed [
      | inl q ↦ let f : dot h l ≡ pos 0 = ap (dot h) q ∙ e in omega (arith, ints, f, u)
      | inr q ↦ let f : dot h l ≡ negsuc 0 *ℤ dot h y = ap (dot h) q ∙ dot-times_right (negsuc 0) h y in let g : dot h l ≡ negsuc 0 *ℤ pos 0 =
          f ∙ ap (λ z. negsuc 0 *ℤ z) e in
          omega (arith, ints, g, u)
    ]

known_split_up : (m : ℕ) (h : List ℤ) (old middle out : List Ray) → IsSplit h old middle → IsPruned middle out → HasOneSign h old →
    AreUpTo m (vectors_of old) → AreUpTo m (vectors_of out)
known_split_up m h old middle out k p g u = record {
  each = λ x c.
      let y = of_vector out x c in
      subst (UpTo m) (sym y.1.1) (elim (k.drawn y.0 (of_pruned middle out y.0 p y.1.0)) [
        | inl t ↦ subst (UpTo m) (sym t.vector) (u.each t.r.vector (vector_in old t.r t.in_r))
        | inr t ↦ absurd (no_pair h old t.p t.q g t.in_p t.in_q t.up t.down)
      ]);
}

-- no ray comes of none
none_split : (h : List ℤ) (old middle out : List Ray) → IsSplit h old middle → IsPruned middle out → ((r : Ray) → Contains old r → ⊥) → (r : Ray) →
    Contains out r → ⊥
none_split h old middle out k p empty r c = elim (k.drawn r (of_pruned middle out r p c)) [ inl t ↦ empty t.r t.in_r | inr t ↦ empty t.p t.in_p ]

known_step : (n b m row : ℕ) (h : List ℤ) (lin : List (List ℤ)) (rays : List Ray) (s : ConeOverflow) → length h ≡ n → UpTo b h → AreUpTo m lin →
    AreUpTo m (vectors_of rays) → n * (b * m) < 2 ^ 127 → ((x : List ℤ) → Contains lin x → dot h x ≡ pos 0) → HasOneSign h rays →
    IsRowStep row h lin rays s → ⊥
known_step n b m row h lin rays s e u ul ur room zero_on g (lineal t) =
    no_dot n b m row h (get_or lin t.index []) s (omega (arith, e)) u (ul.each _ (t.index, t.inside, get_or_default lin t.index _ [] t.inside)) room t.step
known_step n b m row h lin rays s e u ul ur room zero_on g (splitting f (testing r c k)) =
    no_dot n b m row h r.vector s (omega (arith, e)) u (ur.each r.vector (vector_in rays r c)) room k
known_step n b m row h lin rays s e u ul ur room zero_on g (splitting f (pairing p q cp cq up down free k)) = no_pair h rays p q g cp cq up down
known_step n b m row h lin rays s e u ul ur room zero_on g (leveling i x y line cy k) = no_line h lin i x zero_on line

-- ---- row by row

wide_rows : (n b : ℕ) (rows : List (List ℤ)) → AreWide n b rows → AreRows n rows
wide_rows n b rows w = all_by (λ t. length t ≡ n) rows w.long

next_mono : (n b l m : ℕ) → l ≤ m → next_bound n b l ≤ next_bound n b m
next_mono n b l m h =
    let p : n * (b * l) * l ≤ n * (b * m) * m = mul-le-mul (mul-le-mul (omega arith) (mul-le-mul (omega arith) h)) h in
    omega (arith, p)

-- rows that weren't there yet, and the room for them
record HasFarRoom (n b : ℕ) (ds hs lin : List (List ℤ)) (rays : List Ray) : Type 0 where
  rest : List (List ℤ)
  left : (d : List ℤ) → Contains ds d → Contains rest d ⊎ IsKnown n hs d
  low : ℕ
  high : ℕ
  one : 1 ≤ low
  rises : low ≤ high
  lines : AreUpTo low lin
  up : AreUpTo high (vectors_of rays)
  some : Bool
  empty : some ≡ false → (r : Ray) → Contains rays r → ⊥
  room : far_rows_fit n b (length rest) some (length lin) low high ≡ true

far_start_at : (n b k p c : ℕ) → far_starts_fit n b k p ≡ true → c ≤ n → n ≤ c + p →
    (far_rows_fit n b k false c (turned_bound b n) (turned_bound b n) ≡ true) ⊎ ((c ≡ n) × (far_rows_fit n b k false c 1 1 ≡ true))
far_start_at n b k zero c h l g =
    inr (omega (arith, l, g), subst (λ d. far_rows_fit n b k false d 1 1 ≡ true) (let e : n ≡ c = omega (arith, l, g) in e) h)
far_start_at n b k (suc p) c h l g =
    let t = and_parts (far_rows_fit n b k false (n - suc p) (turned_bound b n) (turned_bound b n)) (far_starts_fit n b k p) h in
    elim (nearer n c p l g) [
      | inl e ↦ inl (subst (λ d. far_rows_fit n b k false d (turned_bound b n) (turned_bound b n) ≡ true) (sym e) t.0)
      | inr f ↦ far_start_at n b k p c t.1 l f
    ]
  where
    nearer : (n c p : ℕ) → c ≤ n → n ≤ c + suc p → (c ≡ n - suc p) ⊎ (n ≤ c + p)
    nearer n c p l g = elim (index n (suc (c + p))) [ less a ↦ absurd (omega (arith, a, g)) | at e ↦ inl (omega (arith, e)) | more a ↦ inr (omega (arith, a)) ]

far_started : (n b : ℕ) (ds es basis : List (List ℤ)) → 1 ≤ b → AreWide n b es → far_starts_fit n b (length ds) n ≡ true → IsNullSpace n es basis →
    HasFarRoom n b ds [] basis []
far_started n b ds es basis hb w h k =
    let q = small_basis n b es basis hb w k in
    elim (far_start_at n b (length ds) n (length basis) h q.few (omega arith)) [
      | inl r ↦ record {
        rest = ds;
        left = λ d c. inl c;
        low = turned_bound b n;
        high = turned_bound b n;
        one = one_turned b n hb;
        rises = omega arith;
        lines = q.small;
        up = record { each = λ x c. absurd (none_in x c) };
        some = false;
        empty = λ e y c. none_in y c;
        room = r;
      }
      | inr r ↦ record {
        rest = ds;
        left = λ d c. inl c;
        low = 1;
        high = 1;
        one = omega arith;
        rises = omega arith;
        lines = q.all r.0;
        up = record { each = λ x c. absurd (none_in x c) };
        some = false;
        empty = λ e y c. none_in y c;
        room = r.1;
      }
    ]

-- what one row more asks
record HasNextRoom (n b k : ℕ) (some : Bool) (c l m : ℕ) : Type 0 where
  next : next_bound n b m < 2 ^ 127
  stays : far_rows_fit n b k some c l (cond some (next_bound n b m) m) ≡ true
  goes : far_rows_fit n b k true (c - 1) (next_bound n b l) (next_bound n b m) ≡ true

next_room : (n b k j : ℕ) (some : Bool) (c l m : ℕ) → j ≡ suc k → far_rows_fit n b j some c l m ≡ true → HasNextRoom n b k some c l m
next_room n b k j some c l m e h =
    let first = far_rows_fit n b k some c l (cond some (next_bound n b m) m) in
    let second = far_rows_fit n b k true (c - 1) (next_bound n b l) (next_bound n b m) in
    let t = and_parts (fits (next_bound n b m)) (first && second) (subst (λ i. far_rows_fit n b i some c l m ≡ true) e h) in
    let u = and_parts first second t.1 in
    record { next = below_fits (next_bound n b m) t.0; stays = u.0; goes = u.1 }

-- the same room where a row is gone
record IsRestOf (n : ℕ) (ds before whole rest : List (List ℤ)) : Type 0 where
  fewer : List (List ℤ)
  long : length rest ≡ suc (length fewer)
  left : (d : List ℤ) → Contains ds d → Contains fewer d ⊎ IsKnown n whole d

-- the row d goes, where it is known after the next one
gone : (n : ℕ) (ds before rest whole : List (List ℤ)) (h d : List ℤ) → whole ≡ before ++ h ∷ [] →
    ((d : List ℤ) → Contains ds d → Contains rest d ⊎ IsKnown n before d) → (k : Contains rest d) → IsKnown n whole d → IsRestOf n ds before whole rest
gone n ds before rest whole h d e left k known = record {
  fewer = remove rest k.0;
  long = let l = length-remove rest k.0 k.1 in omega (arith, l);
  left = λ x c. elim (left x c) [
    | inr a ↦ inr (known_more n before whole x (λ g i. subst (λ (z : List (List ℤ)). Contains z g) (sym e) (Contains-append_left before (h ∷ []) g i)) a)
    | inl a ↦ elim (rest_cover rest k.0 d x k.1 a) [
      | inl r ↦ inl r
      | inr r ↦ elim (in_cons (get_or rest k.0 d) [] x r) [
        | inl q ↦ inr (subst (IsKnown n whole) (sym (q ∙ k.2)) known)
        | inr o ↦ absurd (none_in x o)
      ]
    ]
  ];
}

-- a row is known, or one of the rest
row_cases : (n : ℕ) (ds before rest whole : List (List ℤ)) (h : List ℤ) → whole ≡ before ++ h ∷ [] →
    ((d : List ℤ) → Contains ds d → Contains rest d ⊎ IsKnown n before d) → IsAlongOne n ds h → IsKnown n before h ⊎ IsRestOf n ds before whole rest
row_cases n ds before rest whole h e left (IsAlongOne.flat f) = inl (IsAlongOne.flat f)
row_cases n ds before rest whole h e left (IsAlongOne.along d c f) = elim (left d c) [
  | inr k ↦ inl (known_along n before d h k f)
  | inl k ↦ inr (gone n ds before rest whole h d e left k
      (IsAlongOne.along h (subst (λ (z : List (List ℤ)). Contains z h) (sym e) (Contains-push before h)) (λ v l. sym (f v l))))
]
row_cases n ds before rest whole h e left (IsAlongOne.against d c f) = elim (left d c) [
  | inr k ↦ inl (known_against n before d h k f)
  | inl k ↦ inr (gone n ds before rest whole h d e left k
      (IsAlongOne.against h (subst (λ (z : List (List ℤ)). Contains z h) (sym e) (Contains-push before h))
      (λ v l. sym (negated_twice (dot d v)) ∙ ap neg_ℤ (sym (f v l)))))
]

-- less may be asked of fewer rows
cond_up : (some : Bool) (x m : ℕ) → m ≤ x → m ≤ cond some x m
cond_up true x m l = l
cond_up false x m l = omega arith

module _ (n b : ℕ) (ds : List (List ℤ)) (hn : 1 ≤ n) (hb : 1 ≤ b) where
  -- a row that was there
  known_split : (before whole lin : List (List ℤ)) (h : List ℤ) (old middle out : List Ray) → whole ≡ before ++ h ∷ [] → IsSplit h old middle →
      IsPruned middle out → HasOneSign h old → HasFarRoom n b ds before lin old → HasFarRoom n b ds whole lin out
  known_split before whole lin h old middle out e k p g q = record {
    rest = q.rest;
    left = λ d c. elim (q.left d c) [
      | inl i ↦ inl i
      | inr i ↦ inr (known_more n before whole d (λ x j. subst (λ (z : List (List ℤ)). Contains z x) (sym e) (Contains-append_left before (h ∷ []) x j)) i)
    ];
    low = q.low;
    high = q.high;
    one = q.one;
    rises = q.rises;
    lines = q.lines;
    up = known_split_up q.high h old middle out k p g q.up;
    some = q.some;
    empty = λ f. none_split h old middle out k p (q.empty f);
    room = q.room;
  }

  -- a row that wasn't
  new_split : (some : Bool) (before whole lin : List (List ℤ)) (h : List ℤ) (old middle out : List Ray) (q : HasFarRoom n b ds before lin old) →
      some ≡ q.some → (r : IsRestOf n ds before whole q.rest) → length h ≡ n → UpTo b h → IsSplit h old middle → IsPruned middle out →
      HasNextRoom n b (length r.fewer) some (length lin) q.low q.high → HasFarRoom n b ds whole lin out
  new_split true before whole lin h old middle out q e r l u k p f =
      let hm : 1 ≤ q.high = (let a = q.one in let c = q.rises in omega (arith, a, c)) in
      let step = next_step n b q.high hn hb hm in
      record {
        rest = r.fewer;
        left = r.left;
        low = q.low;
        high = next_bound n b q.high;
        one = q.one;
        rises = let a = q.rises in omega (arith, a, step);
        lines = q.lines;
        up = (split_up n b q.high h [] old middle out hn hb hm l u k p
            (record { first = record { each = λ x c. absurd (none_in x c) }; second = q.up })).second;
        some = true;
        empty = λ x. absurd (cc);
        room = f.stays;
      }
  new_split false before whole lin h old middle out q e r l u k p f =
      let none = none_split h old middle out k p (q.empty (sym e)) in
      record {
        rest = r.fewer;
        left = r.left;
        low = q.low;
        high = q.high;
        one = q.one;
        rises = q.rises;
        lines = q.lines;
        up = record { each = λ x c. let y = of_vector out x c in absurd (none y.0 y.1.0) };
        some = false;
        empty = λ x. none;
        room = f.stays;
      }

  new_lined : (before whole lin lines : List (List ℤ)) (h l : List ℤ) (i m : ℕ) (old next : List Ray) (q : HasFarRoom n b ds before lin old) →
      (r : IsRestOf n ds before whole q.rest) → length h ≡ n → UpTo b h → IsLine h lin i l → IsLinedBy h l (remove lin i) old m lines next →
      HasNextRoom n b (length r.fewer) q.some (length lin) q.low q.high → HasFarRoom n b ds whole lines next
  new_lined before whole lin lines h l i m old next q r w u k z f =
      let hm : 1 ≤ q.high = (let a = q.one in let c = q.rises in omega (arith, a, c)) in
      let long : length lin - 1 ≡ length lines = let x = length-remove lin i k.inside in let y =
      AllZip-long (IsLeveled h l) (remove lin i) lines z.leveled in omega (arith, x, y) in
      let alone : IsLinedBy h l (remove lin i) [] m lines (z.ray ∷ []) =
      record { leveled = z.leveled; middle = []; rays_leveled = tt; ray = z.ray; all = refl; vector = z.vector; flags = z.flags } in
      record {
        rest = r.fewer;
        left = r.left;
        low = next_bound n b q.low;
        high = next_bound n b q.high;
        one = let t = next_step n b q.low hn hb q.one in let o = q.one in omega (arith, t, o);
        rises = next_mono n b q.low q.high q.rises;
        lines = (lined_up n b q.low h l lin lines i m [] (z.ray ∷ []) hn hb q.one w u k alone
            (record { first = q.lines; second = record { each = λ x c. absurd (none_in x c) } })).first;
        up = (lined_up n b q.high h l lin lines i m old next hn hb hm w u k z
            (record { first = weaker q.low q.high lin q.rises q.lines; second = q.up })).second;
        some = true;
        empty = λ x. absurd (cc);
        room = subst (λ d. far_rows_fit n b (length r.fewer) true d (next_bound n b q.low) (next_bound n b q.high) ≡ true) long f.goes;
      }

  module _ (es : List (List ℤ)) (we : AreWide n b es) (starts : far_starts_fit n b (length ds) n ≡ true) where
    state : (hs lin : List (List ℤ)) (rays : List Ray) → IsReachedState n es hs lin rays → IsConeState n hs es lin rays
    state hs lin rays r = reached_state n es hs lin rays (wide_rows n b es we) r

    reached_room : (hs lin : List (List ℤ)) (rays : List Ray) → AreWide n b hs → ((h : List ℤ) → Contains hs h → IsAlongOne n ds h) →
        IsReachedState n es hs lin rays → HasFarRoom n b ds hs lin rays
    reached_room hs lin rays w by (begun basis k) = far_started n b ds es basis hb we starts k
    reached_room hs lin rays w by (split before lines old middle out h whole e z k p g r) =
        let c = sized_last before h hs e in
        let q = reached_room before lin old (wide_front n b before h hs e w)
        (λ x i. by x (subst (λ (t : List (List ℤ)). Contains t x) (sym e) (Contains-append_left before (h ∷ []) x i))) r in
        elim (row_cases n ds before q.rest hs h e q.left (by h c)) [
          | inl known ↦ known_split before hs lin h old middle rays e k p (known_sign n before es lin old (state before lin old r) h known) q
          | inr rest ↦ new_split q.some before hs lin h old middle rays q refl rest (w.long h c) (w.small.each h c) k p
              (next_room n b (length rest.fewer) (length q.rest) q.some (length lin) q.low q.high rest.long q.room)
        ]
    reached_room hs lin rays w by (lined before whole lines old next h a i all e k z r) =
        let c = sized_last before h hs e in
        let q = reached_room before whole old (wide_front n b before h hs e w)
        (λ x i. by x (subst (λ (t : List (List ℤ)). Contains t x) (sym e) (Contains-append_left before (h ∷ []) x i))) r in
        elim (row_cases n ds before q.rest hs h e q.left (by h c)) [
          | inl known ↦ absurd (no_line h whole i a (known_flat n before es whole old (state before whole old r) h known) k)
          | inr rest ↦ new_lined before hs whole lin h a i (length before) old rays q rest (w.long h c) (w.small.each h c) k z
              (next_room n b (length rest.fewer) (length q.rest) q.some (length whole) q.low q.high rest.long q.room)
        ]

-- ---- at the end

-- what the end asks
record EndsFit (n b : ℕ) (some : Bool) (c l m : ℕ) : Type 0 where
  gives : n * (b * m) < 2 ^ 127
  own : n * (orthogonal_bound n l c * orthogonal_bound n l c) < 2 ^ 127
  along : (some ≡ true) → straight_bound n (orthogonal_bound n l c) c m < 2 ^ 127
  turned : turned_bound l c < 2 ^ 127

straight_rises : (n o k x y : ℕ) → x ≤ y → straight_bound n o k x ≤ straight_bound n o k y
straight_rises n o zero x y l = l
straight_rises n o (suc k) x y l =
    let p = straight_rises n o k x y l in
    let a = straight_bound n o k x in
    let c = straight_bound n o k y in
    let q : n * (o * o) * a ≤ n * (o * o) * c = mul-le-mul (omega arith) p in
    let s : n * (o * a) * o ≤ n * (o * c) * o = mul-le-mul (mul-le-mul (omega arith) (mul-le-mul (omega arith) p)) (omega arith) in
    omega (arith, q, s)

-- where there is room for more rows, there is at the end
ends_room : (n b k : ℕ) (some : Bool) (c l m : ℕ) → 1 ≤ n → 1 ≤ b → 1 ≤ m → far_rows_fit n b k some c l m ≡ true → EndsFit n b some c l m
ends_room n b zero some c l m hn hb hm h =
    let w = orthogonal_bound n l c in
    let t = and_parts (fits (n * (b * m))) (fits (n * (w * w)) && (cond some (fits (straight_bound n w c m)) true && fits (turned_bound l c))) h in
    let v = and_parts (fits (n * (w * w))) (cond some (fits (straight_bound n w c m)) true && fits (turned_bound l c)) t.1 in
    let u = and_parts (cond some (fits (straight_bound n w c m)) true) (fits (turned_bound l c)) v.1 in
    record {
      gives = below_fits (n * (b * m)) t.0;
      own = below_fits (n * (w * w)) v.0;
      along = λ q. below_fits (straight_bound n w c m) (subst (λ x. cond x (fits (straight_bound n w c m)) true ≡ true) q u.0);
      turned = below_fits (turned_bound l c) u.1;
    }
ends_room n b (suc k) some c l m hn hb hm h =
    let f = next_room n b k (suc k) some c l m refl h in
    let step = next_step n b m hn hb hm in
    let up = cond_up some (next_bound n b m) m step in
    let e = ends_room n b k some c l (cond some (next_bound n b m) m) hn hb (omega (arith, up, hm)) f.stays in
    record {
      gives = room_below n b m hm f.next;
      own = e.own;
      along = λ q. let a = e.along q in let r = straight_rises n (orthogonal_bound n l c) c m (cond some (next_bound n b m) m) up in omega (arith, a, r);
      turned = e.turned;
    }

module _ (n b : ℕ) (ds hs es : List (List ℤ)) (s : ConeOverflow) (hn : 1 ≤ n) (hb : 1 ≤ b) (wh : AreWide n b hs) (we : AreWide n b es)
    (by : (h : List ℤ) → Contains hs h → IsAlongOne n ds h) (fit : has_far_room n b (length ds) ≡ true) where
  parts : (fits (turned_bound b n) ≡ true) × (far_starts_fit n b (length ds) n ≡ true)
  parts = and_parts (fits (turned_bound b n)) (far_starts_fit n b (length ds) n) fit

  turns : turned_bound b n < 2 ^ 127
  turns = below_fits (turned_bound b n) parts.0

  reached : (lin : List (List ℤ)) (rays : List Ray) → IsReachedState n es hs lin rays → HasFarRoom n b ds hs lin rays
  reached lin rays r = reached_room n b ds hn hb es we parts.1 hs lin rays wh by r

  high_one : (rows lin : List (List ℤ)) (rays : List Ray) (q : HasFarRoom n b ds rows lin rays) → 1 ≤ q.high
  high_one rows lin rays q = let a = q.one in let c = q.rises in omega (arith, a, c)

  ends : (rows lin : List (List ℤ)) (rays : List Ray) (q : HasFarRoom n b ds rows lin rays) → EndsFit n b q.some (length lin) q.low q.high
  ends rows lin rays q = ends_room n b (length q.rest) q.some (length lin) q.low q.high hn hb (high_one rows lin rays q) q.room

  width : (lin : List (List ℤ)) (rays : List Ray) → IsReachedState n es hs lin rays → (x : List ℤ) → Contains lin x → length x ≡ n
  width lin rays r = (reached_state n es hs lin rays (wide_rows n b es we) r).described.lin_width

  no_step : IsRaysStep n hs es s → ⊥
  no_step (null_space d) = no_null_step (length hs + length es) n b es s hb we turns d
  no_step (taking before after lin rays h e r d) =
      let front : AreWide n b before = record {
        long = λ x c. wh.long x (subst (λ (l : List (List ℤ)). Contains l x) (sym e) (front_in before after h x c));
        small = record { each = λ x c. wh.small.each x (subst (λ (l : List (List ℤ)). Contains l x) (sym e) (front_in before after h x c)) };
      } in
      let ch : Contains hs h = subst (λ (l : List (List ℤ)). Contains l h) (sym e) (middle_in before after h) in
      let q = reached_room n b ds hn hb es we parts.1 before lin rays front
      (λ x c. by x (subst (λ (l : List (List ℤ)). Contains l x) (sym e) (front_in before after h x c))) r in
      let lines = weaker q.low q.high lin q.rises q.lines in
      elim (row_cases n ds before q.rest (before ++ h ∷ []) h refl q.left (by h ch)) [
        | inl known ↦
            let t = state n b ds hn hb es we parts.1 before lin rays r in
            known_step n b q.high (length before) h lin rays s (wh.long h ch) (wh.small.each h ch) lines q.up (ends before lin rays q).gives
            (known_flat n before es lin rays t h known) (known_sign n before es lin rays t h known) d
        | inr rest ↦
            let f = next_room n b (length rest.fewer) (length q.rest) q.some (length lin) q.low q.high rest.long q.room in
            no_row_step n b q.high (length before) h lin rays s (wh.long h ch) (wh.small.each h ch) lines q.up
            (room_below n b q.high (high_one before lin rays q) f.next) f.next d
      ]
  no_step (lineality lin rays r d) =
      let q = reached lin rays r in
      no_orthogonalizing (length hs + length es) n q.low lin s hn q.one (record { long = width lin rays r; small = q.lines }) (ends hs lin rays q).own d
  no_step (straight lin ortho rays y r o c d) =
      let q = reached lin rays r in
      let wl : AreWide n q.low lin = record { long = width lin rays r; small = q.lines } in
      let w = orthogonal_bound n q.low (length lin) in
      let t = orthogonal_up n q.low lin ortho hn wl o in
      let along = (ends hs lin rays q).along (true_from_ne_false q.some (λ e. q.empty e y c)) in
      let short : straight_bound n w (length ortho) q.high ≤ straight_bound n w (length lin) q.high =
      straight_mono n w q.high (length ortho) (length lin) hn (orthogonal_one n q.low (length lin)) t.fewer in
      no_straightening (length hs + length es) n w q.high ortho y.vector s hn (orthogonal_one n q.low (length lin)) (high_one hs lin rays q)
      (orthogonal_wide n q.low lin ortho wl o t.small) (q.up.each y.vector (vector_in rays y c)) (omega (arith, short, along)) d
  no_step (echelon lin rays r d) =
      let q = reached lin rays r in
      no_elimination (length hs + length es) n q.low lin n (length lin) s q.lines (inr (omega arith)) (ends hs lin rays q).turned d
  no_step (implied zero_on c d) =
      no_elimination (length hs + length es) n b (zero_on ++ es) n n s
      (record {
        each = λ x i. elim (Contains-append_cases zero_on es x i) [
          | inl a ↦ wh.small.each x (chosen_in (IsZeroOn n hs es) hs zero_on x c a)
          | inr a ↦ we.small.each x a
        ];
      }) (inl (omega arith)) turns d

-- ---- the law

wide_of : (n b : ℕ) (rows : List (List ℤ)) → AreRows n rows → HaveEntriesUpTo b rows → AreWide n b rows
wide_of n b rows w u = record {
  long = λ h c. All-contains (λ t. length t ≡ n) rows h w c;
  small = record { each = λ h c. entry_up b h (All-contains (All (λ x. unsigned_abs x ≤ b)) rows h u c) };
}

pub repeated_rows_fit : RepeatedRowsFit
repeated_rows_fit = record {
  systems = λ n b ds c hn hb s by fit o k. no_step n b ds c.inequalities c.equations o hn hb (wide_of n b c.inequalities s.inequalities_width s.inequalities)
      (wide_of n b c.equations s.equations_width s.equations) by fit k;
  room = (refl, refl, refl);
}
