-- From a vector w inside a cone towards the root: which normals are crossed first.
-- `turned w r b c` is positive at its first nonzero entry where b is crossed before c. It is linear in c.
-- To cite: turned, turned-linear, turned-self, turned_cases, turned_trans, turned_negative, turned_far, turned_beyond.
use Rattle.std.proofs.Common.{◌≡◌, ◌⊎◌, ℕ, zero, suc, List, [], ◌∷◌, length, ℤ, pos, negsuc, neg_ℤ, ◌+ℤ◌, ◌*ℤ◌, ◌<ℤ◌, arith, sym, refl, ap, ap₂, ◌∙◌, subst}
use Rattle.std.proofs.Common.{inl, inr}
use Rattle.std.proofs.lemmas.Int.{ints}
use Rattle.gf_int_theory.specs.Content.{scaled}
use Rattle.gf_int_theory.proofs.RingLaws.{same as same_number, ◌⊗◌, ◌⊕◌, dv, dneg}
use Rattle.gf_int_theory.proofs.SignLaws.{<0-*ℤ, <0-cancel}
use Rattle.gf_vec.specs.Vector.{dot, vector_sum, zeros}
use Rattle.gf_vec.proofs.VectorLaws.{dot-plus, dot-times, dot-zeros, length-plus, length-times}
use Rattle.gf_facets_theory.specs.Rows.{negated}
use Rattle.gf_facets_theory.specs.LexPositive.{IsLexPositive, rooted, IsNegative}
use Rattle.gf_facets_theory.proofs.LexPositiveLaws.{lex-cases, lex-plus, lex-times, lex-untimes}
use Rattle.gf_facets_theory.specs.LinearMaps.{IsLinear}

-- k times x less m times s
pub mixed : ℤ → List ℤ → ℤ → List ℤ → List ℤ
mixed k x m s = vector_sum (scaled k x) (scaled (neg_ℤ m) s)

sum_entry : (k x y m p s : ℤ) → k *ℤ (x +ℤ y) +ℤ neg_ℤ (m +ℤ p) *ℤ s ≡ (k *ℤ x +ℤ neg_ℤ m *ℤ s) +ℤ (k *ℤ y +ℤ neg_ℤ p *ℤ s)
sum_entry k x y m p s = same_number (dv k ⊗ (dv x ⊕ dv y) ⊕ dneg (dv m ⊕ dv p) ⊗ dv s) ((dv k ⊗ dv x ⊕ dneg (dv m) ⊗ dv s) ⊕ (dv k ⊗ dv y ⊕ dneg (dv p) ⊗ dv s))
    (omega arith)

mixed-sum : (k m p : ℤ) (x y s : List ℤ) → length x ≡ length s → length y ≡ length s →
    mixed k (vector_sum x y) (m +ℤ p) s ≡ vector_sum (mixed k x m s) (mixed k y p s)
unfolding mixed
mixed-sum k m p [] [] [] e f = refl
mixed-sum k m p [] y (t ∷ s) e f = absurd (omega arith)
mixed-sum k m p (a ∷ x) y [] e f = absurd (omega arith)
mixed-sum k m p [] (b ∷ y) [] e f = absurd (omega arith)
mixed-sum k m p (a ∷ x) [] (t ∷ s) e f = absurd (omega arith)
mixed-sum k m p (a ∷ x) (b ∷ y) (t ∷ s) e f = ap₂ ◌∷◌ (sum_entry k a b m p t) (mixed-sum k m p x y s (omega arith) (omega arith))

multiple_entry : (c k x m s : ℤ) → k *ℤ (c *ℤ x) +ℤ neg_ℤ (c *ℤ m) *ℤ s ≡ c *ℤ (k *ℤ x +ℤ neg_ℤ m *ℤ s)
multiple_entry c k x m s = same_number (dv k ⊗ (dv c ⊗ dv x) ⊕ dneg (dv c ⊗ dv m) ⊗ dv s) (dv c ⊗ (dv k ⊗ dv x ⊕ dneg (dv m) ⊗ dv s)) (omega arith)

mixed-multiple : (c k m : ℤ) (x s : List ℤ) → length x ≡ length s → mixed k (scaled c x) (c *ℤ m) s ≡ scaled c (mixed k x m s)
unfolding mixed
mixed-multiple c k m [] [] e = refl
mixed-multiple c k m [] (t ∷ s) e = absurd (omega arith)
mixed-multiple c k m (a ∷ x) [] e = absurd (omega arith)
mixed-multiple c k m (a ∷ x) (t ∷ s) e = ap₂ ◌∷◌ (multiple_entry c k a m t) (mixed-multiple c k m x s (omega arith))

length-mixed : (k m : ℤ) (x s : List ℤ) → length x ≡ length s → length (mixed k x m s) ≡ length x
unfolding mixed
length-mixed k m x s e = length-plus (scaled k x) (scaled (neg_ℤ m) s) (length-times k x ∙ e ∙ sym (length-times (neg_ℤ m) s)) ∙ length-times k x

mixed-self : (k : ℤ) (x : List ℤ) → mixed k x k x ≡ zeros (length x)
unfolding mixed
mixed-self k [] = refl
mixed-self k (a ∷ x) = ap₂ ◌∷◌ (same_number (dv k ⊗ dv a ⊕ dneg (dv k) ⊗ dv a) (dv (pos 0)) (omega arith)) (mixed-self k x)

mixed-zeros : (k : ℤ) (s : List ℤ) (n : ℕ) → length s ≡ n → mixed k (zeros n) (pos 0) s ≡ zeros n
unfolding mixed
mixed-zeros k [] zero e = refl
mixed-zeros k [] (suc n) e = absurd (omega arith)
mixed-zeros k (t ∷ s) zero e = absurd (omega arith)
mixed-zeros k (t ∷ s) (suc n) e = ap₂ ◌∷◌ (same_number (dv k ⊗ dv (pos 0) ⊕ dneg (dv (pos 0)) ⊗ dv t) (dv (pos 0)) (omega arith))
    (mixed-zeros k s n (omega arith))

mixed-back : (k m : ℤ) (x s : List ℤ) → length x ≡ length s → negated (mixed k x m s) ≡ mixed m s k x
unfolding mixed
mixed-back k m [] [] e = refl
mixed-back k m [] (t ∷ s) e = absurd (omega arith)
mixed-back k m (a ∷ x) [] e = absurd (omega arith)
mixed-back k m (a ∷ x) (t ∷ s) e =
    ap₂ ◌∷◌ (same_number (dv (negsuc 0) ⊗ (dv k ⊗ dv a ⊕ dneg (dv m) ⊗ dv t)) (dv m ⊗ dv t ⊕ dneg (dv k) ⊗ dv a) (omega arith))
    (mixed-back k m x s (omega arith))

chain_entry : (p q s b c d : ℤ) → q *ℤ (p *ℤ d +ℤ neg_ℤ s *ℤ b) ≡ p *ℤ (q *ℤ d +ℤ neg_ℤ s *ℤ c) +ℤ s *ℤ (p *ℤ c +ℤ neg_ℤ q *ℤ b)
chain_entry p q s b c d =
    same_number (dv q ⊗ (dv p ⊗ dv d ⊕ dneg (dv s) ⊗ dv b)) (dv p ⊗ (dv q ⊗ dv d ⊕ dneg (dv s) ⊗ dv c) ⊕ dv s ⊗ (dv p ⊗ dv c ⊕ dneg (dv q) ⊗ dv b))
    (omega arith)

mixed-chain : (p q s : ℤ) (b c d : List ℤ) → length b ≡ length d → length c ≡ length d →
    scaled q (mixed p d s b) ≡ vector_sum (scaled p (mixed q d s c)) (scaled s (mixed p c q b))
unfolding mixed
mixed-chain p q s [] [] [] e f = refl
mixed-chain p q s [] c (z ∷ d) e f = absurd (omega arith)
mixed-chain p q s (x ∷ b) c [] e f = absurd (omega arith)
mixed-chain p q s [] (y ∷ c) [] e f = absurd (omega arith)
mixed-chain p q s (x ∷ b) [] (z ∷ d) e f = absurd (omega arith)
mixed-chain p q s (x ∷ b) (y ∷ c) (z ∷ d) e f = ap₂ ◌∷◌ (chain_entry p q s x y z) (mixed-chain p q s b c d (omega arith) (omega arith))

equal_entry : (k x m s : ℤ) → k *ℤ x +ℤ neg_ℤ m *ℤ s ≡ pos 0 → k *ℤ x ≡ m *ℤ s
equal_entry k x m s e = let f : neg_ℤ m *ℤ s ≡ neg_ℤ (m *ℤ s) = same_number (dneg (dv m) ⊗ dv s) (dneg (dv m ⊗ dv s)) (omega arith) in omega (arith, ints, e, f)

mixed-equal : (k m : ℤ) (x s : List ℤ) → length x ≡ length s → mixed k x m s ≡ zeros (length x) → scaled k x ≡ scaled m s
unfolding mixed
mixed-equal k m [] [] e z = refl
mixed-equal k m [] (t ∷ s) e z = absurd (omega arith)
mixed-equal k m (a ∷ x) [] e z = absurd (omega arith)
mixed-equal k m (a ∷ x) (t ∷ s) e z =
    let h : k *ℤ a +ℤ neg_ℤ m *ℤ t ≡ pos 0 = cc in
    let r : vector_sum (scaled k x) (scaled (neg_ℤ m) s) ≡ zeros (length x) = cc in
    ap₂ ◌∷◌ (equal_entry k a m t h) (mixed-equal k m x s (omega arith) r)

-- k x - m s is lex-positive where x and the negative of s are
mixed-positive : (k m : ℤ) (x s : List ℤ) → pos 0 <ℤ k → pos 0 <ℤ m → IsLexPositive x → IsLexPositive (negated s) → IsLexPositive (mixed k x m s)
unfolding mixed
mixed-positive k m x s hk hm p q = subst (λ v. IsLexPositive (vector_sum (scaled k x) v)) (turn s)
    (lex-plus (scaled k x) (scaled m (negated s)) (lex-times k x hk p) (lex-times m (negated s) hm q))
  where
    turn : (s : List ℤ) → scaled m (negated s) ≡ scaled (neg_ℤ m) s
    turn [] = refl
    turn (t ∷ s) = ap₂ ◌∷◌ (same_number (dv m ⊗ (dv (negsuc 0) ⊗ dv t)) (dneg (dv m) ⊗ dv t) (omega arith)) (turn s)

-- k x - m s is lex-positive, and so is the negative of x: then that of s is
mixed-negative : (k m : ℤ) (x s : List ℤ) → length x ≡ length s → pos 0 <ℤ k → pos 0 <ℤ m → IsLexPositive (mixed k x m s) → IsLexPositive (negated x) →
    IsLexPositive (negated s)
unfolding mixed
mixed-negative k m x s e hk hm p q = lex-untimes m (negated s) hm
    (subst IsLexPositive (sums x s e) (lex-plus (vector_sum (scaled k x) (scaled (neg_ℤ m) s)) (scaled k (negated x)) p (lex-times k (negated x) hk q)))
  where
    sums : (x s : List ℤ) → length x ≡ length s → vector_sum (vector_sum (scaled k x) (scaled (neg_ℤ m) s)) (scaled k (negated x)) ≡ scaled m (negated s)
    sums [] [] e = refl
    sums [] (t ∷ s) e = absurd (omega arith)
    sums (a ∷ x) [] e = absurd (omega arith)
    sums (a ∷ x) (t ∷ s) e = ap₂ ◌∷◌ (same_number ((dv k ⊗ dv a ⊕ dneg (dv m) ⊗ dv t) ⊕ dv k ⊗ (dv (negsuc 0) ⊗ dv a)) (dv m ⊗ (dv (negsuc 0) ⊗ dv t))
        (omega arith)) (sums x s (omega arith))

-- ---- turning from w to the root
unfoldable pub turned : List ℤ → List ℤ → List ℤ → List ℤ → List ℤ
turned w r b c = mixed (dot b w) (rooted r c) (dot c w) (rooted r b)

rooted-zeros : (r : List ℤ) (n : ℕ) → rooted r (zeros n) ≡ zeros (suc n)
rooted-zeros r n = ap (λ z. z ∷ zeros n) (dot-zeros n r)

pub turned-linear : (n : ℕ) (w r b : List ℤ) → length b ≡ n → IsLinear n (suc n) (turned w r b)
unfolding turned
turned-linear n w r b e = record {
  width = λ x l. length-mixed (dot b w) (dot x w) (rooted r x) (rooted r b) (omega (arith, l, e)) ∙ omega (arith, l);
  zero = ap₂ (λ u v. mixed (dot b w) u v (rooted r b)) (rooted-zeros r n) (dot-zeros n w) ∙ mixed-zeros (dot b w) (rooted r b) (suc n) (omega (arith, e));
  sum = λ x y l k. ap₂ (λ u v. mixed (dot b w) (u ∷ vector_sum x y) v (rooted r b)) (dot-plus x y r (l ∙ sym k)) (dot-plus x y w (l ∙ sym k))
      ∙ mixed-sum (dot b w) (dot x w) (dot y w) (rooted r x) (rooted r y) (rooted r b) (omega (arith, l, e)) (omega (arith, k, e));
  multiple = λ c x l. ap₂ (λ u v. mixed (dot b w) (u ∷ scaled c x) v (rooted r b)) (dot-times c x r) (dot-times c x w)
      ∙ mixed-multiple c (dot b w) (dot x w) (rooted r x) (rooted r b) (omega (arith, l, e));
}

pub turned-self : (n : ℕ) (w r b : List ℤ) → length b ≡ n → turned w r b b ≡ zeros (suc n)
unfolding turned
turned-self n w r b e = mixed-self (dot b w) (rooted r b) ∙ ap (λ k. zeros (suc k)) e

-- one is crossed first, or the two are proportional
pub turned_cases : (w r b c : List ℤ) → length b ≡ length c →
    (scaled (dot b w) c ≡ scaled (dot c w) b) ⊎ (IsLexPositive (turned w r b c) ⊎ IsLexPositive (turned w r c b))
unfolding turned
turned_cases w r b c e = elim (lex-cases (mixed (dot b w) (rooted r c) (dot c w) (rooted r b))) [
  | inl z ↦ inl (tails (mixed-equal (dot b w) (dot c w) (rooted r c) (rooted r b)
      (omega (arith, e)) (z ∙ ap zeros (length-mixed (dot b w) (dot c w) (rooted r c) (rooted r b) (omega (arith, e))))))
  | inr k ↦ inr (elim k [
    | inl p ↦ inl p
    | inr q ↦ inr (subst IsLexPositive (mixed-back (dot b w) (dot c w) (rooted r c) (rooted r b) (omega (arith, e))) q)
  ])
]
  where
    tails : scaled (dot b w) (rooted r c) ≡ scaled (dot c w) (rooted r b) → scaled (dot b w) c ≡ scaled (dot c w) b
    tails h = cc

pub turned_trans : (w r b c d : List ℤ) → length b ≡ length d → length c ≡ length d → pos 0 <ℤ dot b w → pos 0 <ℤ dot c w → pos 0 <ℤ dot d w →
    IsLexPositive (turned w r b c) → IsLexPositive (turned w r c d) → IsLexPositive (turned w r b d)
unfolding turned
turned_trans w r b c d e f pb pc pd h k =
    lex-untimes (dot c w) _ pc (subst IsLexPositive (sym (mixed-chain (dot b w) (dot c w) (dot d w) (rooted r b) (rooted r c) (rooted r d)
    (omega (arith, e)) (omega (arith, f))))
    (lex-plus _ _ (lex-times (dot b w) _ pb k) (lex-times (dot d w) _ pd h)))

-- what is crossed before a negative normal is negative
pub turned_negative : (w r a b : List ℤ) → length a ≡ length b → pos 0 <ℤ dot a w → pos 0 <ℤ dot b w → IsLexPositive (turned w r a b) → IsNegative r b →
    IsNegative r a
unfolding turned
turned_negative w r a b e pa pb h k = mixed-negative (dot a w) (dot b w) (rooted r b) (rooted r a) (omega (arith, e)) pa pb h k

-- what the root is positive on is crossed after a negative normal
pub turned_beyond : (w r a c : List ℤ) → pos 0 <ℤ dot a w → pos 0 <ℤ dot c w → pos 0 <ℤ dot c r → IsNegative r a → IsLexPositive (turned w r a c)
unfolding turned
turned_beyond w r a c pa pc p q = mixed-positive (dot a w) (dot c w) (rooted r c) (rooted r a) pa pc (inl p) q

far : (p q x y : ℤ) → pos 0 <ℤ p → pos 0 <ℤ q → y <ℤ pos 0 → (pos 0 <ℤ (p *ℤ y +ℤ neg_ℤ q *ℤ x)) ⊎ (p *ℤ y +ℤ neg_ℤ q *ℤ x ≡ pos 0) → x <ℤ pos 0
far p q x y hp hq hy h = <0-cancel q x hq (at h)
  where
    minus : neg_ℤ q *ℤ x ≡ neg_ℤ (q *ℤ x)
    minus = same_number (dneg (dv q) ⊗ dv x) (dneg (dv q ⊗ dv x)) (omega arith)

    at : (pos 0 <ℤ (p *ℤ y +ℤ neg_ℤ q *ℤ x)) ⊎ (p *ℤ y +ℤ neg_ℤ q *ℤ x ≡ pos 0) → (q *ℤ x) <ℤ pos 0
    at (inl l) = let b : (p *ℤ y) <ℤ pos 0 = <0-*ℤ p y hp hy in omega (arith, ints, l, b, minus)
    at (inr e) = let b : (p *ℤ y) <ℤ pos 0 = <0-*ℤ p y hp hy in omega (arith, ints, e, b, minus)

-- what is crossed before a vector that is negative at the root's first number is so too
pub turned_far : (w r a b : List ℤ) → pos 0 <ℤ dot a w → pos 0 <ℤ dot b w → IsLexPositive (turned w r a b) → dot b r <ℤ pos 0 → dot a r <ℤ pos 0
unfolding turned mixed
turned_far w r a b pa pb h l = far (dot a w) (dot b w) (dot a r) (dot b r) pa pb l (elim h [ inl g ↦ inl g | inr g ↦ inr g.0 ])
