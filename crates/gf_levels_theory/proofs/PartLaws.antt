-- The parts of one cone, where each point is nowhere above one of some highest ones.
use Rattle.std.proofs.Common.{◌≡◌, ◌≢◌, ℕ, ◌<◌, List, [], ◌∷◌, ◌++◌, length, ℤ, ◌≤ℤ◌, arith, sym, refl, ◌∙◌, subst, Contains, All, inl, inr}
use Rattle.std.proofs.lemmas.Int.{ints}
use Rattle.std.proofs.lemmas.List.{get_or_default}
use Rattle.std.proofs.lemmas.List.Elements.{All-contains, Contains-append_left, Contains-append_right, Contains-append_cases, Contains-push}
use Rattle.gf_int_theory.proofs.ListLaws.{Contains-here, Contains-last}
use Rattle.gf_vec.specs.Vector.{dot}
use Rattle.gf_gordan.specs.Alternative.{AreRows}
use Rattle.gf_duality_theory.specs.Faces.{Rows, IsInCone, SameCone}
use Rattle.gf_duality_theory.proofs.ListLaws.{none_in, in_cons, in_tail, first_in, index, less, at, more}
use Rattle.gf_fans_theory.specs.Fans.{meet}
use Rattle.gf_fans_theory.proofs.Meeting.{left_in, right_in}
use Rattle.gf_fans_theory.proofs.FanLaws.{both_in}
use Rattle.gf_patterns_theory.specs.Patterns.{HasPattern}
use Rattle.gf_patterns_theory.specs.PatternRows.{point_at, single_rows, pair_rows}
use Rattle.gf_patterns_theory.specs.Cuts.{IsHeldBy}
use Rattle.gf_patterns_theory.proofs.ConeLaws.{single_is, pair_is}
use Rattle.gf_levels_theory.specs.declared.members.Members.{Members}
use Rattle.gf_levels_theory.specs.declared.members.Members.TheVariants.{One, Two}
use Rattle.gf_levels_theory.specs.Levels.{IsConeOf, IsCutBy, IsLevel}
use Rattle.gf_levels_theory.specs.Parts.{IsTopAt, IsTopOn, AreTops, IsPartOver, IsTiePart, AreOfTop, AreOfTops}

point_in : (A : List (List ℤ)) (x : ℕ) → x < length A → Contains A (point_at A x)
point_in A x l = (x, l, get_or_default A x (point_at A x) [] l)

both_same : (x y : ℤ) → x ≤ℤ y → y ≤ℤ x → x ≡ y
both_same x y p q = omega (arith, ints, p, q)

up_to : (x y z : ℤ) → x ≤ℤ y → y ≤ℤ z → x ≤ℤ z
up_to x y z p q = omega (arith, ints, p, q)

same_up : (x y z : ℤ) → x ≤ℤ y → z ≡ y → x ≤ℤ z
same_up x y z p q = omega (arith, ints, p, q)

-- ---- what a cone and that of one or two points share

single_to : (n : ℕ) (A : List (List ℤ)) (i : ℕ) (c : Rows) (v : List ℤ) → AreRows n A → i < length A → length v ≡ n →
    IsInCone (meet c (single_rows A i)) v → IsInCone c v × IsTopAt A i v
single_to n A i c v w l lv s = (
  left_in c (single_rows A i) v s,
  λ b k. ((single_is n A i w l).same_as v lv).0 (right_in c (single_rows A i) v s) (point_at A i) b (Contains-here (point_at A i) []) k,
)

to_single : (n : ℕ) (A : List (List ℤ)) (i : ℕ) (c : Rows) (v : List ℤ) → AreRows n A → i < length A → length v ≡ n → IsInCone c v → IsTopAt A i v →
    IsInCone (meet c (single_rows A i)) v
to_single n A i c v w l lv iv t = both_in c (single_rows A i) v iv (((single_is n A i w l).same_as v lv).1 (λ s b ks kb.
    elim (in_cons (point_at A i) [] s ks) [
      | inl e ↦ subst (λ (z : List ℤ). dot b v ≤ℤ dot z v) (sym e) (t b kb)
      | inr o ↦ absurd (none_in s o)
    ]))

pair_to : (n : ℕ) (A : List (List ℤ)) (i j : ℕ) (c : Rows) (v : List ℤ) → AreRows n A → i < j → j < length A → length v ≡ n →
    IsInCone (meet c (pair_rows A i j)) v → IsInCone c v × IsTopAt A i v × (dot (point_at A j) v ≡ dot (point_at A i) v)
pair_to n A i j c v w l m lv s =
    let a : List ℤ = point_at A i in let b : List ℤ = point_at A j in
    let has : HasPattern A (a ∷ b ∷ []) v = ((pair_is n A i j w l m).same_as v lv).0 (right_in c (pair_rows A i j) v s) in
    let first : Contains (a ∷ b ∷ []) a = Contains-here a (b ∷ []) in
    let second : Contains (a ∷ b ∷ []) b = in_tail a (b ∷ []) b (Contains-here b []) in (
      left_in c (pair_rows A i j) v s,
      (λ x k. has a x first k),
      both_same (dot b v) (dot a v) (has a b first (point_in A j m)) (has b a second (point_in A i (omega (arith, l, m)))),
    )

to_pair : (n : ℕ) (A : List (List ℤ)) (i j : ℕ) (c : Rows) (v : List ℤ) → AreRows n A → i < j → j < length A → length v ≡ n →
    IsInCone c v → IsTopAt A i v → dot (point_at A j) v ≡ dot (point_at A i) v → IsInCone (meet c (pair_rows A i j)) v
to_pair n A i j c v w l m lv iv t e = both_in c (pair_rows A i j) v iv (((pair_is n A i j w l m).same_as v lv).1 (λ s b ks kb.
    let u = t b kb in
    elim (in_cons (point_at A i) (point_at A j ∷ []) s ks) [
      | inl q ↦ subst (λ (z : List ℤ). dot b v ≤ℤ dot z v) (sym q) u
      | inr o ↦ elim (in_cons (point_at A j) [] s o) [
        | inl q ↦ subst (λ (z : List ℤ). dot b v ≤ℤ dot z v) (sym q) (same_up (dot b v) (dot (point_at A i) v) (dot (point_at A j) v) u e)
        | inr x ↦ absurd (none_in s x)
      ]
    ]))

-- ---- parts on which one point is highest

-- a point that is nowhere below those at some indices is nowhere below any one, where each is nowhere above one of those
pub over_top : (n : ℕ) (A : List (List ℤ)) (t : ℕ) (tops : List ℕ) (c s : Rows) (v : List ℤ) → AreTops n A c tops → IsPartOver n A t tops c s →
    length v ≡ n → IsInCone s v → IsInCone c v × IsTopAt A t v
over_top n A t tops c s v a o lv iv =
    let p = (o v lv).0 iv in (
      p.0,
      λ b k.
          let y = a k.0 k.1 in
          let e : point_at A k.0 ≡ b = get_or_default A k.0 [] b k.1 ∙ k.2 in
          let low = y.1.1 v lv p.0 in
          let up = p.1 y.0 y.1.0 in
          subst (λ (z : List ℤ). dot z v ≤ℤ dot (point_at A t) v) e (omega (arith, ints, low, up)),
    )

pub top_over : (n : ℕ) (A : List (List ℤ)) (t : ℕ) (tops : List ℕ) (c s : Rows) (v : List ℤ) → All (λ x. x < length A) tops → IsPartOver n A t tops c s →
    length v ≡ n → IsInCone c v → IsTopAt A t v → IsInCone s v
top_over n A t tops c s v inside o lv iv top =
    (o v lv).1 (iv, λ x k. top (point_at A x) (point_in A x (All-contains (λ x. x < length A) tops x inside k)))

pub top_on : (n : ℕ) (A : List (List ℤ)) (t : ℕ) (tops : List ℕ) (c s : Rows) → AreTops n A c tops → IsPartOver n A t tops c s → IsTopOn n A t s
top_on n A t tops c s a o v lv iv = (over_top n A t tops c s v a o lv iv).1

-- ---- lists of parts

pub of_none : (members : Members) (n : ℕ) (A : List (List ℤ)) (c : Rows) (tops : List ℕ) → AreOfTops members n A c tops [] []
of_none members n A c tops = record { each = λ p k. absurd (none_in p k); every = λ t k. absurd (none_in t k) }

pub of_more : (members : Members) (n : ℕ) (A : List (List ℤ)) (c : Rows) (tops done : List ℕ) (t : ℕ) (out parts : List Rows) →
    AreOfTop members n A c tops t parts → AreOfTops members n A c tops done out → AreOfTops members n A c tops (done ++ t ∷ []) (out ++ parts)
of_more members n A c tops done t out parts p a = record {
  each = λ x k. elim (Contains-append_cases out parts x k) [
    | inl i ↦ let r = a.each x i in (r.0, r.1, (first_in done t r.0 r.2.0, r.2.1, r.2.2))
    | inr i ↦ (t, parts, (Contains-push done t, p, i))
  ];
  every = λ s k. elim (Contains-last done t s k) [
    | inl i ↦ let r = a.every s i in (r.0, (r.1.0, λ x j. Contains-append_left out parts x (r.1.1 x j)))
    | inr e ↦ (parts, (subst (λ z. AreOfTop members n A c tops z parts) (sym e) p, λ x j. Contains-append_right out parts x j))
  ];
}

-- ---- they are the cuts of the cone

cut_one : (n : ℕ) (A : List (List ℤ)) (c s p q : Rows) (tops : List ℕ) (t : ℕ) → AreRows n A → AreTops n A c tops → All (λ x. x < length A) tops →
    t < length A → IsPartOver n A t tops c s → SameCone n q s → p ≡ q → IsCutBy One n A (c ∷ []) p
cut_one n A c s p q tops t w a inside l o same e = record {
  first = c;
  second = single_rows A t;
  of_first = Contains-here c [];
  of_second = record { i = t; inside = l; rows = refl };
  same = subst (λ z. SameCone n z (meet c (single_rows A t))) (sym e) (λ v lv. (
    (λ i. let r = over_top n A t tops c s v a o lv ((same v lv).0 i) in to_single n A t c v w l lv r.0 r.1),
    (λ i. let r = single_to n A t c v w l lv i in (same v lv).1 (top_over n A t tops c s v inside o lv r.0 r.1)),
  ));
}

cut_two : (n : ℕ) (A : List (List ℤ)) (c s p : Rows) (tops : List ℕ) (t x : ℕ) → AreRows n A → AreTops n A c tops → All (λ x. x < length A) tops →
    t < length A → x < length A → x ≢ t → IsPartOver n A t tops c s → IsTiePart n A t x s p → IsCutBy Two n A (c ∷ []) p
cut_two n A c s p tops t x w a inside l lx d o tie = elim (index t x) [
  | at e ↦ absurd (d (sym e))
  | more g ↦ record {
    first = c;
    second = pair_rows A t x;
    of_first = Contains-here c [];
    of_second = record { i = t; j = x; ordered = g; inside = lx; rows = refl };
    same = λ v lv. (
      (λ i. let k = (tie v lv).0 i in let r = over_top n A t tops c s v a o lv k.0 in to_pair n A t x c v w g lx lv r.0 r.1 k.1),
      (λ i. let r = pair_to n A t x c v w g lx lv i in (tie v lv).1 (top_over n A t tops c s v inside o lv r.0 r.1, r.2)),
    );
  }
  | less g ↦ record {
    first = c;
    second = pair_rows A x t;
    of_first = Contains-here c [];
    of_second = record { i = x; j = t; ordered = g; inside = l; rows = refl };
    same = λ v lv. (
      (λ i.
          let k = (tie v lv).0 i in
          let r = over_top n A t tops c s v a o lv k.0 in
          to_pair n A x t c v w g l lv r.0 (λ b kb. let u = r.1 b kb in let e = k.1 in omega (arith, ints, u, e)) (sym k.1)),
      (λ i.
          let r = pair_to n A x t c v w g l lv i in
          (tie v lv).1 (top_over n A t tops c s v inside o lv r.0 (λ b kb. let u = r.1 b kb in let e = r.2 in omega (arith, ints, u, e)), sym r.2)),
    );
  }
]

-- a list of one
of_one : (p q : Rows) (parts : List Rows) → parts ≡ q ∷ [] → Contains parts p → p ≡ q
of_one p q parts e k = elim (in_cons q [] p (subst (λ (z : List Rows). Contains z p) e k)) [ inl i ↦ i | inr o ↦ absurd (none_in p o) ]

each_cut : (members : Members) (n : ℕ) (A : List (List ℤ)) (c p : Rows) (parts : List Rows) (tops : List ℕ) (t : ℕ) → AreRows n A → AreTops n A c tops →
    All (λ x. x < length A) tops → Contains tops t → AreOfTop members n A c tops t parts → Contains parts p → IsCutBy members n A (c ∷ []) p
each_cut One n A c p parts tops t w a inside kt o k =
    let q = o.parts in
    cut_one n A c o.part p q.0 tops t w a inside (All-contains (λ x. x < length A) tops t inside kt) o.over q.1.1 (of_one p q.0 parts q.1.0 k)
each_cut Two n A c p parts tops t w a inside kt o k =
    let q = o.parts.each p k in
    cut_two n A c o.part p tops t q.0 w a inside (All-contains (λ x. x < length A) tops t inside kt) q.1.0 q.1.1 o.over q.1.2

-- the part of the highest ones holds that of a point below it
held_one : (n : ℕ) (A : List (List ℤ)) (c : Rows) (out : List Rows) (tops : List ℕ) (i : ℕ) → AreRows n A → AreTops n A c tops →
    All (λ x. x < length A) tops → AreOfTops One n A c tops tops out → i < length A → (p : Rows) × (Contains out p × IsHeldBy n (meet c (single_rows A i)) p)
held_one n A c out tops i w a inside all l =
    let y = a i l in
    let r = all.every y.0 y.1.0 in
    let q = r.1.0.parts in (
      q.0,
      (
        r.1.1 q.0 (subst (λ (z : List Rows). Contains z q.0) (sym q.1.0) (Contains-here q.0 [])),
        λ v lv s.
            let k = single_to n A i c v w l lv s in
            let low = y.1.1 v lv k.0 in
            (q.1.1 v lv).1 (top_over n A y.0 tops c r.1.0.part v inside r.1.0.over lv k.0 (λ b kb. let u = k.1 b kb in omega (arith, ints, u, low))),
      ),
    )

-- so of two points: where the first is highest itself, its part with the second; else the part of a highest one with the first
held_two : (n : ℕ) (A : List (List ℤ)) (c : Rows) (out : List Rows) (tops : List ℕ) (i j : ℕ) → AreRows n A → AreTops n A c tops →
    All (λ x. x < length A) tops → AreOfTops Two n A c tops tops out → i < j → j < length A →
    (p : Rows) × (Contains out p × IsHeldBy n (meet c (pair_rows A i j)) p)
held_two n A c out tops i j w a inside all l m =
    let li : i < length A = omega (arith, l, m) in
    let y = a i li in
    let r = all.every y.0 y.1.0 in
    let Held : Type 0 = (p : Rows) × (Contains out p × IsHeldBy n (meet c (pair_rows A i j)) p) in
    let other : i ≢ y.0 → Held = λ d.
    let q = r.1.0.parts.every i li d in (
      q.0,
      (
        r.1.1 q.0 q.1.0,
        λ v lv s.
            let k = pair_to n A i j c v w l m lv s in
            let low = y.1.1 v lv k.0 in
            let ky = k.1 (point_at A y.0) (point_in A y.0 (All-contains (λ x. x < length A) tops y.0 inside y.1.0)) in
            q.1.1 v lv (top_over n A y.0 tops c r.1.0.part v inside r.1.0.over lv k.0 (λ b kb. let u = k.1 b kb in omega (arith, ints, u, low)))
            (omega (arith, ints, low, ky)),
      ),
    ) in
    elim (index i y.0) [
      | less g ↦ other (λ e. omega (arith, g, e))
      | more g ↦ other (λ e. omega (arith, g, e))
      | at g ↦
          let o : AreOfTop Two n A c tops i r.0 = subst (λ z. AreOfTop Two n A c tops z r.0) (sym g) r.1.0 in
          let q = o.parts.every j m (λ e. omega (arith, l, e)) in (
            q.0,
            (
              r.1.1 q.0 q.1.0,
              λ v lv s.
                  let k = pair_to n A i j c v w l m lv s in
                  q.1.1 v lv (top_over n A i tops c o.part v inside o.over lv k.0 k.1) k.2,
            ),
          )
    ]

level_holds : (members : Members) (n : ℕ) (A : List (List ℤ)) (c d : Rows) (out : List Rows) (tops : List ℕ) → AreRows n A → AreTops n A c tops →
    All (λ x. x < length A) tops → AreOfTops members n A c tops tops out → IsConeOf members A d → (p : Rows) × (Contains out p × IsHeldBy n (meet c d) p)
level_holds One n A c d out tops w a inside all is = subst (λ (z : Rows). (p : Rows) × (Contains out p × IsHeldBy n (meet c z) p)) (sym is.rows)
    (held_one n A c out tops is.i w a inside all is.inside)
level_holds Two n A c d out tops w a inside all is = subst (λ (z : Rows). (p : Rows) × (Contains out p × IsHeldBy n (meet c z) p)) (sym is.rows)
    (held_two n A c out tops is.i is.j w a inside all is.ordered is.inside)

pub parts_level : (members : Members) (n : ℕ) (A : List (List ℤ)) (c : Rows) (out : List Rows) (tops : List ℕ) → AreRows n A → AreTops n A c tops →
    All (λ x. x < length A) tops → AreOfTops members n A c tops tops out → IsLevel members n A (c ∷ []) out
parts_level members n A c out tops w a inside all = record {
  each = λ p k. let r = all.each p k in each_cut members n A c p r.1 tops r.0 w a inside r.2.0 r.2.1 r.2.2;
  every = λ e d k is. subst (λ (z : Rows). (p : Rows) × (Contains out p × IsHeldBy n (meet z d) p)) (sym (of_one e c (c ∷ []) refl k))
      (level_holds members n A c d out tops w a inside all is);
}
