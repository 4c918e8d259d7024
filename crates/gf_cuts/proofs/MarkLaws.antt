-- Marks of indices where two lists are the same.
use Rattle.std.proofs.Common.{◌≡◌, ℕ, ◌+◌, ◌-◌, ◌<◌, List, [], ◌∷◌, ◌++◌, length, length-append, get_or, ℤ, pos, negsuc, arith}
use Rattle.std.proofs.Common.{sym, ap, ◌∙◌, subst, All, inl, inr}
use Rattle.std.proofs.lemmas.Int.{ints}
use Rattle.std.proofs.lemmas.List.{get_or_append_left, get_or-append_right, get_or_default}
use Rattle.std.proofs.lemmas.List.Elements.{All-push}
use Rattle.gf_int_theory.specs.Range.{InRange}
use Rattle.gf_int_theory.proofs.SignLaws.{equal_or_not}
use Rattle.gf_duality_theory.proofs.ListLaws.{index, less, at, more}
use Rattle.gf_cuts.specs.Heights.{IsBelow, IsMark, AreMarks, AreZero, row_at}

-- one element more: what holds at each index so far and at the new one
pub at_each : {X : Type 0} (P : ℕ → X → Type 0) (out new : List X) (x d : X) (k : ℕ) → length out ≡ k → new ≡ out ++ x ∷ [] → P k x →
    ((j : ℕ) → j < k → P j (get_or out j d)) → (j : ℕ) → j < k + 1 → P j (get_or new j d)
at_each P out new x d k e n p f j l = subst (λ z. P j (get_or z j d)) (sym n) (elim (index k j) [
  | less g ↦ subst (P j) (sym (get_or_append_left out (x ∷ []) d j (omega (arith, g, e)))) (f j g)
  | at g ↦ subst (λ i. P i (get_or (out ++ x ∷ []) i d)) g (subst (P k) (sym (last_of out x d k e)) p)
  | more g ↦ absurd (omega (arith, g, l))
])
  where
    last_of : {X : Type 0} (out : List X) (x d : X) (k : ℕ) → length out ≡ k → get_or (out ++ x ∷ []) k d ≡ x
    last_of out x d k e = get_or-append_right out (x ∷ []) k k d e (omega arith)
        ∙ (let z : ◌≡◌ {A = ℕ} (k - k) 0 = omega arith in ap (λ i. get_or (x ∷ []) i d) z)

pub longer : {X : Type 0} (out new : List X) (x : X) (k : ℕ) → length out ≡ k → new ≡ out ++ x ∷ [] → length new ≡ k + 1
longer out new x k e n = ap length n ∙ length-append out (x ∷ []) ∙ ap (λ z. z + 1) e

-- ---- marks so far

pub mark_range : (x y z : ℤ) → IsMark x y z → InRange z
mark_range x y z m = elim (equal_or_not x y) [
  | inl e ↦ let q = m.same e in record { within = omega (arith, ints, q) }
  | inr d ↦ let q = m.other d in record { within = omega (arith, ints, q) }
]

pub record MarksSoFar (xs ys : List ℤ) (k : ℕ) (out : List ℤ) : Type 0 where
  pub long : length out ≡ k
  pub each : (j : ℕ) → j < k → IsMark (get_or xs j (pos 0)) (get_or ys j (pos 0)) (get_or out j (pos 0))
  pub range : All InRange out

pub marks_more : (xs ys : List ℤ) (k : ℕ) (out new : List ℤ) (z : ℤ) → new ≡ out ++ z ∷ [] → IsMark (get_or xs k (pos 0)) (get_or ys k (pos 0)) z →
    MarksSoFar xs ys k out → MarksSoFar xs ys (k + 1) new
marks_more xs ys k out new z n m s = record {
  long = longer out new z k s.long n;
  each = at_each (λ j m. IsMark (get_or xs j (pos 0)) (get_or ys j (pos 0)) m) out new z (pos 0) k s.long n m s.each;
  range = subst (All InRange) (sym n) (All-push InRange out z s.range (mark_range (get_or xs k (pos 0)) (get_or ys k (pos 0)) z m));
}

pub record MarkRowsSoFar (rows : List (List ℤ)) (top k : ℕ) (out : List (List ℤ)) : Type 0 where
  pub long : length out ≡ k
  pub each : (j : ℕ) → j < k → AreMarks (row_at rows top) (row_at rows j) (get_or out j [])

pub mark_rows_more : (rows : List (List ℤ)) (top k : ℕ) (out new : List (List ℤ)) (v : List ℤ) → new ≡ out ++ v ∷ [] →
    AreMarks (row_at rows top) (row_at rows k) v → MarkRowsSoFar rows top k out → MarkRowsSoFar rows top (k + 1) new
mark_rows_more rows top k out new v n m s = record {
  long = longer out new v k s.long n;
  each = at_each (λ j z. AreMarks (row_at rows top) (row_at rows j) z) out new v [] k s.long n m s.each;
}

-- rows as they are read
pub one_length : (rows : List (List ℤ)) (top k : ℕ) (a b : List ℤ) → top < length rows → k < length rows → a ≡ get_or rows top a → b ≡ get_or rows k b →
    length (row_at rows k) ≡ length (row_at rows top) → length b ≡ length a
one_length rows top k a b lt lk e f q =
    ap length (f ∙ get_or_default rows k b [] lk) ∙ q ∙ sym (ap length (e ∙ get_or_default rows top a [] lt))

pub marks_at : (rows : List (List ℤ)) (top k : ℕ) (a b v : List ℤ) → top < length rows → k < length rows → a ≡ get_or rows top a → b ≡ get_or rows k b →
    AreMarks a b v → AreMarks (row_at rows top) (row_at rows k) v
marks_at rows top k a b v lt lk e f m = subst (λ z. AreMarks z (row_at rows k) v) (e ∙ get_or_default rows top a [] lt)
    (subst (λ z. AreMarks a z v) (f ∙ get_or_default rows k b [] lk) m)

pub zero_at : (rows : List (List ℤ)) (k : ℕ) (a : List ℤ) → k < length rows → a ≡ get_or rows k a → AreZero a → AreZero (row_at rows k)
zero_at rows k a l e z = subst AreZero (e ∙ get_or_default rows k a [] l) z

-- ---- what marks say

-- where the marks of one list are below those of another one, the other one is the same as the first list where the one is
pub tied_where : (top xs ys ms ns : List ℤ) (k : ℕ) → AreMarks top xs ms → AreMarks top ys ns → IsBelow ms ns → k < length top →
    get_or top k (pos 0) ≡ get_or xs k (pos 0) → get_or top k (pos 0) ≡ get_or ys k (pos 0)
tied_where top xs ys ms ns k a b low l e =
    let long = a.long in
    let z : get_or ms k (pos 0) ≡ pos 0 = (a.each k l).same e in
    let u = low.up k (omega (arith, l, long)) in
    elim (equal_or_not (get_or top k (pos 0)) (get_or ys k (pos 0))) [
      | inl q ↦ q
      | inr d ↦ let m : get_or ns k (pos 0) ≡ negsuc 0 = (b.each k l).other d in absurd (omega (arith, ints, z, u, m))
    ]

-- where all marks are zero, both lists are the same at each index
pub all_tied : (top ys ns : List ℤ) (k : ℕ) → AreMarks top ys ns → AreZero ns → k < length top →
    get_or top k (pos 0) ≡ get_or ys k (pos 0)
all_tied top ys ns k b f l =
    let long = b.long in
    let z = f k (omega (arith, l, long)) in
    elim (equal_or_not (get_or top k (pos 0)) (get_or ys k (pos 0))) [
      | inl q ↦ q
      | inr d ↦ let m : get_or ns k (pos 0) ≡ negsuc 0 = (b.each k l).other d in absurd (omega (arith, ints, z, m))
    ]
