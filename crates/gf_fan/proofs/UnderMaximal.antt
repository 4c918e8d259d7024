-- Each cone of a fan is a face of a maximal one; the faces of its cones are its cones, and no two of them are the same.
use Rattle.std.proofs.Common.{◌≡◌, ◌≢◌, ℕ, zero, suc, ◌+◌, ◌<◌, ◌≤◌, List, [], ◌∷◌, ◌++◌, length, get_or, ℤ, All, AllPairs, Contains, arith, refl, sym, ap, ap₂}
use Rattle.std.proofs.Common.{append_assoc, ◌∙◌, subst, ◌⊎◌, inl, inr, rules}
use Rattle.std.specs.Ordering.{nat_cmp}
use Rattle.std.specs.Cmp.Lexicographic.{slice_cmp}
use Rattle.std.specs.declared.cmp.Ordering.TheVariants.{Less, Equal}
use Rattle.std.proofs.lemmas.Bool.{cases_eq}
use Rattle.std.proofs.lemmas.Cmp.{nat_list_cmp_total, tied_itself}
use Rattle.std.proofs.lemmas.List.{get_or_default}
use Rattle.std.proofs.lemmas.List.Elements.{All-contains, Contains-get_or, Contains-append_cases}
use Rattle.gf_int_theory.proofs.ListLaws.{all_by}
use Rattle.gf_duality_theory.specs.Faces.{Rows, SameCone, IsFaceOf, part}
use Rattle.gf_duality_theory.proofs.ListLaws.{index, less, at, more}
use Rattle.gf_fans_theory.specs.FaceLists.{numbered}
use Rattle.gf_fans_theory.specs.Heights.{IsWithinPart}
use Rattle.gf_fans_theory.specs.Fans.{meet}
use Rattle.gf_fans_theory.proofs.FanLaws.{both_in, face_same, same_lists}
use Rattle.gf_fans_theory.proofs.Meeting.{left_in}
use Rattle.gf_fans_theory.proofs.Ordered.{within_all, same_numbers, missing}
use Rattle.gf_fans_theory.proofs.PartNumbers.{in_map, of_map}
use Rattle.gf_rays.specs.Cones.{RowsAndRays, rows_of}
use Rattle.gf_fan.specs.declared.cones.FanCone.{FanCone}
use Rattle.gf_fan.specs.FanLists.{FanLists, rank_of, numbers_of}
use Rattle.gf_fan.specs.FansOfCones.{IsFanOf, IsMaximalAt, vanishing_rows}
use Rattle.gf_fan.specs.MaximalCones.{no_cone, maximal_of}
use Rattle.gf_fan.proofs.FanConeLaws.{own_rays, cones_meet, inside_of, listed_once}
use Rattle.gf_fan.proofs.MaximalLaws.{numbers_at, numbers_long}
use Rattle.gf_fan.proofs.ZeroRowLaws.{are_zero_rows}

-- ---- each once

pub lists_less_never : (x y : List ℕ) → slice_cmp nat_cmp x y ≡ Less → slice_cmp nat_cmp y x ≡ Less → ⊥
lists_less_never x y f g =
    let a : slice_cmp nat_cmp x x ≡ Less = nat_list_cmp_total.trans x y x f g in
    let e : Less ≡ Equal = sym a ∙ tied_itself nat_list_cmp_total x in absurd (search rules)

-- no two cones of a fan are the same
pub different : (n : ℕ) (given : List RowsAndRays) (f : FanLists) → IsFanOf n given f →
    AllPairs (λ (k l : FanCone). SameCone n (rows_of k.cone) (rows_of l.cone) → ⊥) f.cones
different n given f s i j d h l w =
    let k : FanCone = get_or f.cones i d in let m : FanCone = get_or f.cones j d in
    let e : rank_of k ≡ rank_of m = listed_once n given f k m s (Contains-get_or f.cones i d (omega (arith, h, l))) (Contains-get_or f.cones j d l) w in
    let t : slice_cmp nat_cmp (rank_of k) (rank_of k) ≡ Less = subst (λ z. slice_cmp nat_cmp (rank_of k) z ≡ Less) (sym e) (s.cones.ordered i j d h l) in
    lists_less_never (rank_of k) (rank_of k) t t

-- ---- lists of numbers

-- ascending, and no two the same
record AreApart (lists : List (List ℕ)) : Type 0 where
  pub ascending : (i : ℕ) → i < length lists → AllPairs (λ x y. x < y) (get_or lists i [])
  pub apart : (i j : ℕ) → i < length lists → j < length lists → get_or lists i [] ≡ get_or lists j [] → i ≡ j

within : (xs ys : List ℕ) → All (Contains ys) xs ⊎ (All (Contains ys) xs → ⊥)
within xs ys = elim (missing xs ys) [
  | inl m ↦ inr (λ a. m.1.1 (All-contains (Contains ys) xs m.0 a m.1.0))
  | inr f ↦ inl (all_by (Contains ys) xs f)
]

-- another one that has all its numbers
abbrev IsWithinOther : List (List ℕ) → ℕ → ℕ → Type 0
IsWithinOther lists i j = (j ≢ i) × IsWithinPart lists i j

above : (lists : List (List ℕ)) (i m : ℕ) → ((j : ℕ) × ((j < m) × IsWithinOther lists i j)) ⊎ ((j : ℕ) → j < m → j ≢ i → IsWithinPart lists i j → ⊥)
above lists i zero = inr (λ j h n w. absurd (omega (arith, h)))
above lists i (suc m) = elim (above lists i m) [
  | inl f ↦ inl (f.0, ((let h = f.1.0 in omega (arith, h)), f.1.1))
  | inr f ↦ elim (cases_eq m i) [
    | inl e ↦ inr (λ j h n w. elim (cases_eq j m) [ inl q ↦ n (q ∙ e) | inr d ↦ f j (omega (arith, h, d)) n w ])
    | inr n ↦ elim (within (get_or lists i []) (get_or lists m [])) [
      | inl w ↦ inl (m, ((omega arith), (n, w)))
      | inr g ↦ inr (λ j h d w. elim (cases_eq j m) [ inl q ↦ g (subst (IsWithinPart lists i) q w) | inr b ↦ f j (omega (arith, h, b)) d w ])
    ]
  ]
]

-- how many numbers there are
abbrev total : List (List ℕ) → ℕ
total [] = 0
total (x ∷ xs) = length x + total xs

at_most_total : (lists : List (List ℕ)) (i : ℕ) → i < length lists → length (get_or lists i []) ≤ total lists
at_most_total [] i h = absurd (omega (arith, h))
at_most_total (x ∷ xs) zero h = omega arith
at_most_total (x ∷ xs) (suc i) h = let r = at_most_total xs i (omega (arith, h)) in omega (arith, r)

longer : (lists : List (List ℕ)) (i j : ℕ) → AreApart lists → i < length lists → j < length lists → IsWithinOther lists i j →
    length (get_or lists i []) < length (get_or lists j [])
longer lists i j a hi hj w =
    let xs : List ℕ = get_or lists i [] in let ys : List ℕ = get_or lists j [] in
    let inside : (x : ℕ) → Contains xs x → Contains ys x = λ x c. All-contains (Contains ys) xs x w.1 c in
    let same : length ys ≤ length xs → ⊥ =
    λ l. w.0 (a.apart j i hj hi (sym (same_numbers xs ys (a.ascending i hi) (a.ascending j hj) inside
    (within_all xs ys (a.ascending i hi) (a.ascending j hj) inside l)))) in
    elim (index (length xs) (length ys)) [ more k ↦ k | at e ↦ absurd (same (omega (arith, e))) | less k ↦ absurd (same (omega (arith, k))) ]

-- a maximal one that has all its numbers
abbrev IsUnder : List (List ℕ) → ℕ → Type 0
IsUnder lists i = (j : ℕ) × (IsMaximalAt lists j × IsWithinPart lists i j)

climb : (fuel : ℕ) (lists : List (List ℕ)) (i : ℕ) → AreApart lists → i < length lists → total lists < length (get_or lists i []) + fuel → IsUnder lists i
climb zero lists i a h l = absurd (let b = at_most_total lists i h in omega (arith, b, l))
climb (suc fuel) lists i a h l = elim (above lists i (length lists)) [
  | inr f ↦ (i, (record { inside = h; alone = f }, all_by (Contains (get_or lists i [])) (get_or lists i []) (λ x c. c)))
  | inl f ↦
      let j = f.0 in
      let g = longer lists i j a h f.1.0 f.1.1 in
      let r = climb fuel lists j a f.1.0 (omega (arith, g, l)) in (
        r.0,
        (
          r.1.0,
          all_by (Contains (get_or lists r.0 [])) (get_or lists i []) (λ x c. All-contains (Contains (get_or lists r.0 [])) (get_or lists j []) x
              r.1.1 (All-contains (Contains (get_or lists j [])) (get_or lists i []) x f.1.1.1 c)),
        ),
      )
]

maximal_above : (lists : List (List ℕ)) (i : ℕ) → AreApart lists → i < length lists → IsUnder lists i
maximal_above lists i a h = climb (suc (total lists)) lists i a h (omega arith)

-- ---- maximal cones

own_numbers : (cones : List FanCone) (i : ℕ) (d : FanCone) → i < length cones → get_or (numbers_of cones) i [] ≡ (get_or cones i d).numbers
own_numbers cones i d h = numbers_at cones i (get_or cones i d) h (get_or_default cones i d (get_or cones i d) h)

-- cones whose numbers are the same
same_cone : (n : ℕ) (given : List RowsAndRays) (f : FanLists) (k l : FanCone) → IsFanOf n given f → Contains f.cones k → Contains f.cones l →
    k.numbers ≡ l.numbers → SameCone n (rows_of k.cone) (rows_of l.cone)
same_cone n given f k l s ck cl e v lv = (
  inside_of n given f k l s ck cl (all_by (Contains l.numbers) k.numbers (λ i c. subst (λ z. Contains z i) e c)) v lv,
  inside_of n given f l k s cl ck (all_by (Contains k.numbers) l.numbers (λ i c. subst (λ z. Contains z i) (sym e) c)) v lv,
)

are_apart : (n : ℕ) (given : List RowsAndRays) (f : FanLists) → IsFanOf n given f → AreApart (numbers_of f.cones)
are_apart n given f s =
    let lists = numbers_of f.cones in
    let long = numbers_long f.cones in
    let cone : ℕ → FanCone = λ i. get_or f.cones i no_cone in
    let there : (i : ℕ) → i < length lists → i < length f.cones = λ i h. omega (arith, h, long) in
    let listed : (i : ℕ) → i < length lists → Contains f.cones (cone i) = λ i h. Contains-get_or f.cones i no_cone (there i h) in
    let equal : (i j : ℕ) → i < length lists → j < length lists → get_or lists i [] ≡ get_or lists j [] →
    SameCone n (rows_of (cone i).cone) (rows_of (cone j).cone) = λ i j hi hj e.
    same_cone n given f (cone i) (cone j) s (listed i hi) (listed j hj) (sym (own_numbers f.cones i no_cone (there i hi)) ∙ e ∙ own_numbers f.cones j no_cone
    (there j hj)) in
    record {
      ascending = λ i h. subst (λ z. AllPairs (λ x y. x < y) z) (sym (own_numbers f.cones i no_cone (there i h)))
          (s.cones.each (cone i) (listed i h)).face.listed.ascending;
      apart = λ i j hi hj e. elim (index i j) [
        | at q ↦ q
        | more k ↦ absurd (different n given f s i j no_cone k (there j hj) (equal i j hi hj e))
        | less k ↦ absurd (different n given f s j i no_cone k (there i hi) (equal j i hj hi (sym e)))
      ];
    }

-- some cones of a fan
abbrev pub AreSome : FanLists → List FanCone → Type 0
AreSome f cones = (k : FanCone) → Contains cones k → Contains f.cones k

pub maximal_some : (n : ℕ) (given : List RowsAndRays) (f : FanLists) → IsFanOf n given f → AreSome f (maximal_of f)
maximal_some n given f s k c =
    let x = of_map (λ i. get_or f.cones i no_cone) f.maximal k c in
    let h = (s.maximal.each x.0 x.1.0).inside in let long = numbers_long f.cones in
    subst (Contains f.cones) x.1.1 (Contains-get_or f.cones x.0 no_cone (omega (arith, h, long)))

-- a maximal cone that has all numbers of a cone
pub record IsUnderMaximal (f : FanLists) (k : FanCone) : Type 0 where
  pub over : FanCone
  pub listed : Contains (maximal_of f) over
  pub within : All (Contains over.numbers) k.numbers

pub under_maximal : (n : ℕ) (given : List RowsAndRays) (f : FanLists) (k : FanCone) → IsFanOf n given f → Contains f.cones k → IsUnderMaximal f k
under_maximal n given f k s c =
    let long = numbers_long f.cones in
    let i = c.0 in let hi = c.1 in
    let m = maximal_above (numbers_of f.cones) i (are_apart n given f s) (omega (arith, hi, long)) in
    let j = m.0 in let hj = m.1.0.inside in
    let lj : j < length f.cones = omega (arith, hj, long) in
    let l : FanCone = get_or f.cones j no_cone in
    record {
      over = l;
      listed = in_map (λ i. get_or f.cones i no_cone) f.maximal j (s.maximal.every j m.1.0);
      within = subst (λ z. All (Contains l.numbers) z) (numbers_at f.cones i k hi (sym c.2))
          (subst (λ z. All (Contains z) (get_or (numbers_of f.cones) i [])) (own_numbers f.cones j no_cone lj) m.1.1);
    }

-- a cone inside another one of the fan is a face of it
pub inside_face : (n : ℕ) (given : List RowsAndRays) (f : FanLists) (k l : FanCone) → IsFanOf n given f → Contains f.cones k → Contains f.cones l →
    All (Contains l.numbers) k.numbers → IsFaceOf n (rows_of k.cone) (rows_of l.cone)
inside_face n given f k l s ck cl a =
    let c : Rows = rows_of k.cone in let d : Rows = rows_of l.cone in
    let same : SameCone n (meet c d) c = λ v lv. (λ i. left_in c d v i, λ i. both_in c d v i (inside_of n given f k l s ck cl a v lv i)) in
    face_same n (meet c d) c d same (cones_meet n given f k l s ck cl).1

-- ---- faces of its cones

-- a face of a cone that the fan is of is one of its cones
pub given_face : (n : ℕ) (given : List RowsAndRays) (f : FanLists) (m : RowsAndRays) (flat : List (List ℤ)) → IsFanOf n given f → Contains given m →
    All (Contains m.inequalities) flat → (k : FanCone) × (Contains f.cones k × SameCone n (part (rows_of m) flat) (rows_of k.cone))
given_face n given f m flat s c own =
    let a = s.cones.every m flat c own in let k : FanCone = a.1 in
    let ck : Contains f.cones k = (a.0, a.2, a.3) in
    let rays : List (List ℤ) = numbered f.rays k.numbers in (
      k,
      (
        ck,
        (same_lists n (part (rows_of m) flat) (rows_of k.cone) f.lineality rays rays a.4.are_rays
            (own_rays n given f.lineality f.rays k (s.cones.each k ck))).1 refl,
      ),
    )

-- so is a face of one of its cones
pub own_faces : (n : ℕ) (given : List RowsAndRays) (f : FanLists) (k : FanCone) (x : Rows) → IsFanOf n given f → Contains f.cones k →
    IsFaceOf n x (rows_of k.cone) → (l : FanCone) × (Contains f.cones l × SameCone n x (rows_of l.cone))
own_faces n given f k x s c e =
    let a = s.cones.each k c in
    let o : Rows = rows_of a.origin in
    let flat : List (List ℤ) = vanishing_rows o.inequalities (numbered f.rays k.numbers) in
    let both : List (List ℤ) = flat ++ e.0 in
    let own : All (Contains o.inequalities) both = all_by (Contains o.inequalities) both (λ t i. elim (Contains-append_cases flat e.0 t i) [
      | inl p ↦ ((are_zero_rows o.inequalities (numbered f.rays k.numbers)).each t p).0
      | inr q ↦ subst (λ z. Contains z t) a.inequalities (All-contains (Contains k.cone.inequalities) e.0 t e.1.0 q)
    ]) in
    let rows : rows_of k.cone ≡ part o flat = ap₂ (λ (i j : List (List ℤ)). record { inequalities = i; equations = j }) a.inequalities a.equations in
    let joined : part (part o flat) e.0 ≡ part o both = ap (λ (j : List (List ℤ)). record { inequalities = o.inequalities; equations = j })
    (append_assoc o.equations flat e.0) in
    let w : SameCone n x (part o both) = subst (SameCone n x) joined (subst (λ (z : Rows). SameCone n x (part z e.0)) rows e.1.1) in
    let g = given_face n given f a.origin both s a.listed own in
    (g.0, (g.1.0, λ v l. (λ i. (g.1.1 v l).0 ((w v l).0 i), λ i. (w v l).1 ((g.1.1 v l).1 i))))
