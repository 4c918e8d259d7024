-- Points one by one: the exponents of a point as they are worked out, and how points change as one is added, taken away, or counted anew.
-- To cite: quotient_is, AreMoved, moved_more, moved-monomial, moved_end, added_each, added_terms, point_joined, point_entered, falling_set, same_point,
-- falling_entered, subtracted-none, subtracted_more, relative_point, relative_is, strand_from.
use Rattle.std.proofs.Common.{◌≡◌, ◌≢◌, ◌⊎◌, ℕ, zero, suc, ◌+◌, ◌<◌, ◌≤◌, ◌^◌, Bool, true, false, if◌then◌else◌, List, [], ◌∷◌, ◌++◌, length, take, drop, map}
use Rattle.std.proofs.Common.{get_or, All, ℤ, pos, ◌+ℤ◌, ◌-ℤ◌, ◌*ℤ◌, ◌<ℤ◌, ◌≤ℤ◌, arith, refl, sym, ap, ◌∙◌, subst, inl, inr, add-one}
use Rattle.std.specs.List.{insert}
use Rattle.std.proofs.Math.ListN.{set}
use Rattle.std.proofs.lemmas.Bool.{cases_lt}
use Rattle.std.proofs.lemmas.Int.{ints}
use Rattle.std.proofs.lemmas.List.{length-set, length-take-le, get_or-take, get_or-set_other, get_or_past, get_or_default, append-nil, append_assoc, map-append}
use Rattle.std.proofs.lemmas.List.{take-append-drop, drop_more, set_split}
use Rattle.std.proofs.lemmas.List.Elements.{All-set, All-take}
use Rattle.std.proofs.lemmas.Grind.{get_or-set_at}
use Rattle.gf_frac.specs.Fraction.{Fraction, ◌+ℚ◌, ◌*ℚ◌, ◌/ℚ◌, neg_ℚ, reciprocal_ℚ, zero_ℚ, one_ℚ}
use Rattle.gf_frac.proofs.FractionLaws.{+ℚ_comm, +ℚ_assoc, +ℚ-zero, *ℚ_comm, *ℚ_assoc, *ℚ-one, neg_ℚ-*ℚ, *ℚ-reciprocal_ℚ, reciprocal_ℚ-*ℚ}
use Rattle.gf_exponents_theory.specs.Exponents.{Exponents, entry, same}
use Rattle.gf_exponents_theory.proofs.ExponentsLaws.{entry-get_or, entry-past}
use Rattle.gf_poly.specs.declared.TheConstants.{ROOM}
use Rattle.gf_poly.specs.declared.Term.{Term}
use Rattle.gf_poly.specs.Monomial.{IsMonomial}
use Rattle.gf_poly.specs.Polynomial.{Terms, coefficient, SamePolynomial, times, times_term}
use Rattle.gf_poly.specs.Marking.{Each}
use Rattle.gf_poly.proofs.PolynomialLaws.{coefficient-++, coefficient-times, times-++}
use Rattle.gf_ideal_theory.specs.OrderTable.{AreMultipleApart}
use Rattle.gf_ideal_theory.proofs.ListLaws.{each_contained, contained_each}
use Rattle.gf_strands.specs.declared.strands.Point.{Point}
use Rattle.gf_strands.specs.declared.strands.Strand.{Strand}
use Rattle.gf_strands.specs.Along.{HasNonzero}
use Rattle.gf_strands.specs.Strands.{moved, IsDistance, IsSpot, AreSpots, AreFalling, point_term, strand_terms, strand_member, IsPointAdded, IsSubtracted}
use Rattle.gf_strands.specs.Strands.{IsRelative}
use Rattle.gf_strands.specs.Strands.{IsStrandFrom}
use Rattle.gf_strands.proofs.StrandLaws.{strand_coefficient}
use Rattle.gf_strands.proofs.MoveLaws.{moved-length, moved_is, on_is, moved_moved, on_sum, on_rest, moved_apart}

-- ---- quotients

-- what times the divisor is the number
pub quotient_is : (a b q : Fraction) → b ≢ zero_ℚ → q *ℚ b ≡ a → q ≡ a /ℚ b
quotient_is a b q n e =
    sym (*ℚ-one q) ∙ ap (λ z. q *ℚ z) (sym (*ℚ-reciprocal_ℚ b n)) ∙ sym (*ℚ_assoc q b (reciprocal_ℚ b)) ∙ ap (λ z. z *ℚ reciprocal_ℚ b) e

-- ---- the exponents of a point

-- the first i indices of all hold the exponents so many multiples of a from x
pub record AreMoved (a : List ℤ) (x : Exponents) (k : ℤ) (all : List ℕ) (i : ℕ) : Type 0 where
  pub room : length all ≡ ROOM
  pub limit : All (λ n. n < 2 ^ 31) all
  pub at : (j : ℕ) → j < i → pos (get_or all j 0) ≡ pos (entry x j) +ℤ k *ℤ get_or a j (pos 0)

pub moved_more : (a : List ℤ) (x : Exponents) (k : ℤ) (all : List ℕ) (i v : ℕ) → i < ROOM → v < 2 ^ 31 → pos v ≡ pos (entry x i) +ℤ k *ℤ get_or a i (pos 0) →
    AreMoved a x k all i → AreMoved a x k (set all i v) (i + 1)
moved_more a x k all i v l b e h = record {
  room = length-set all i v ∙ h.room;
  limit = All-set (λ (n : ℕ). n < 2 ^ 31) all i v b h.limit;
  at = λ j m. index j m (cases_lt j i);
}
  where
    index : (j : ℕ) → j < i + 1 → (j < i) ⊎ (i ≤ j) → pos (get_or (set all i v) j 0) ≡ pos (entry x j) +ℤ k *ℤ get_or a j (pos 0)
    index j m (inl n) = ap pos (get_or-set_other all i j v 0 (λ q. absurd (omega arith))) ∙ h.at j n
    index j m (inr n) =
        let q : j ≡ i = omega arith in
        ap pos (get_or-set_at all i j v 0 q (omega (arith, h.room))) ∙ e ∙ ap (λ (s : ℕ). pos (entry x s) +ℤ k *ℤ get_or a s (pos 0)) (sym q)

pub moved-monomial : (a : List ℤ) (x : Exponents) (k : ℤ) (all : List ℕ) (i n : ℕ) → n ≤ ROOM → AreMoved a x k all i → IsMonomial (take n all)
moved-monomial a x k all i n r h = record {
  room = omega (arith, length-take-le n all (omega (arith, h.room)));
  limit = All-take (λ (n : ℕ). n < 2 ^ 31) n all h.limit;
}

-- all exponents are worked out
moved_distance : (a : List ℤ) (x : Exponents) (k : ℤ) (all : List ℕ) (i : ℕ) → length x ≡ length a → length x ≤ ROOM → length x ≤ i → AreMoved a x k all i →
    IsDistance a (take (length x) all) x k
moved_distance a x k all i e r l h = λ j. index j (cases_lt j (length x))
  where
    n : length (take (length x) all) ≡ length x
    n = length-take-le (length x) all (omega (arith, h.room))

    index : (j : ℕ) → (j < length x) ⊎ (length x ≤ j) → pos (entry (take (length x) all) j) ≡ pos (entry x j) +ℤ k *ℤ get_or a j (pos 0)
    index j (inl m) = ap pos (sym (entry-get_or (take (length x) all) j) ∙ get_or-take (length x) all j 0 m) ∙ h.at j (omega arith)
    index j (inr m) =
        let y : entry (take (length x) all) j ≡ 0 = entry-past (take (length x) all) j (omega (arith, n)) in
        let z : entry x j ≡ 0 = entry-past x j m in
        let b : get_or a j (pos 0) ≡ pos 0 = get_or_past a j (pos 0) (omega arith) in
        ap pos y ∙ sym (ap (λ (s : ℕ). pos s +ℤ k *ℤ get_or a j (pos 0)) z ∙ ap (λ (s : ℤ). pos 0 +ℤ k *ℤ s) b ∙ zero k)
      where
        zero : (k : ℤ) → pos 0 +ℤ k *ℤ pos 0 ≡ pos 0
        zero k = omega (arith, ints)

pub moved_end : (a : List ℤ) (x : Exponents) (k : ℤ) (all : List ℕ) (i : ℕ) → length x ≡ length a → length x ≤ ROOM → length x ≤ i → AreMoved a x k all i →
    (take (length x) all ≡ moved a x k) × IsSpot a x k
moved_end a x k all i e r l h =
    let n : length (take (length x) all) ≡ length x = length-take-le (length x) all (omega (arith, h.room)) in
    let d = moved_distance a x k all i e r l h in
    (moved_is a x (take (length x) all) k n d, on_is a x (take (length x) all) k n d)

-- ---- points of a list

each_split : (P : Point → Type 0) (xs ys : List Point) → Each P (xs ++ ys) → Each P xs × Each P ys
each_split P [] ys h = (tt, h)
each_split P (x ∷ xs) ys h = let r = each_split P xs ys h.1 in ((h.0, r.0), r.1)

-- another point with the same multiple
each_same : (P : ℤ → Type 0) (before after : List Point) (p q : Point) → q.k ≡ p.k → Each (λ (r : Point). P r.k) (before ++ p ∷ after) →
    Each (λ (r : Point). P r.k) (before ++ q ∷ after)
each_same P [] after p q e h = (subst P (sym e) h.0, h.1)
each_same P (x ∷ before) after p q e h = (h.0, each_same P before after p q e h.1)

-- a point more
each_more : (P : Point → Type 0) (before after : List Point) (q : Point) → P q → Each P (before ++ after) → Each P (before ++ q ∷ after)
each_more P [] after q n h = (n, h)
each_more P (x ∷ before) after q n h = (h.0, each_more P before after q n h.1)

-- ---- a point is added

-- what holds of its multiple and the old ones holds of the new ones
pub added_each : (P : ℤ → Type 0) (k : ℤ) (c : Fraction) (old new : List Point) → IsPointAdded k c old new → P k → Each (λ (p : Point). P p.k) old →
    Each (λ (p : Point). P p.k) new
added_each P k c old new (IsPointAdded.joined before after d e f) n h =
    subst (Each (λ (p : Point). P p.k)) (sym f) (each_same P before after (record { k = k; coef = d }) (record { k = k; coef = d +ℚ c }) refl
    (subst (Each (λ (p : Point). P p.k)) e h))
added_each P k c old new (IsPointAdded.entered before after e f) n h =
    subst (Each (λ (p : Point). P p.k)) (sym f) (each_more (λ (p : Point). P p.k) before after (record { k = k; coef = c }) n
    (subst (Each (λ (p : Point). P p.k)) e h))

-- the coefficients of a list with one more term somewhere
entered_same : (f g : Terms) (t : Term) → SamePolynomial (f ++ t ∷ g) ((f ++ g) ++ t ∷ [])
entered_same f g t = λ e.
    let z = coefficient (t ∷ []) e in
    coefficient-++ f (t ∷ g) e ∙ ap (λ w. coefficient f e +ℚ w) (coefficient-++ (t ∷ []) g e ∙ +ℚ_comm z (coefficient g e)) ∙
    sym (+ℚ_assoc (coefficient f e) (coefficient g e) z)
    ∙ ap (λ w. w +ℚ z) (sym (coefficient-++ f g e)) ∙ sym (coefficient-++ (f ++ g) (t ∷ []) e)

chosen_sum : (b : Bool) (c d : Fraction) → (if b then c +ℚ d else zero_ℚ) ≡ (if b then c else zero_ℚ) +ℚ (if b then d else zero_ℚ)
chosen_sum true c d = refl
chosen_sum false c d = sym (+ℚ-zero zero_ℚ)

-- a coefficient that is a sum, in two terms
joined_terms : (x : Exponents) (c d : Fraction) (g : Terms) →
    SamePolynomial (record { coef = d +ℚ c; mono = x } ∷ g) (record { coef = d; mono = x } ∷ record { coef = c; mono = x } ∷ g)
joined_terms x c d g = λ e. ap (λ z. z +ℚ coefficient g e) (chosen_sum (same e x) d c) ∙ +ℚ_assoc _ _ _

front_same : (f g h : Terms) → SamePolynomial g h → SamePolynomial (f ++ g) (f ++ h)
front_same f g h s = λ e. coefficient-++ f g e ∙ ap (λ z. coefficient f e +ℚ z) (s e) ∙ sym (coefficient-++ f h e)

-- what is added as a point is added as a term
pub added_terms : (k : ℤ) (c : Fraction) (old new : List Point) (a : List ℤ) (x : Exponents) → IsPointAdded k c old new →
    SamePolynomial (strand_terms a x new) (strand_terms a x old ++ record { coef = c; mono = moved a x k } ∷ [])
added_terms k c old new a x (IsPointAdded.joined before after d e f) = λ y.
    let b = strand_terms a x before in
    let g = strand_terms a x after in
    let m = moved a x k in
    let t : Term = record { coef = c; mono = m } in
    let u : Term = record { coef = d; mono = m } in
    ap (λ z. coefficient (strand_terms a x z) y) f
    ∙ ap (λ z. coefficient z y) (map-append (point_term a x) before (record { k = k; coef = d +ℚ c } ∷ after))
    ∙ front_same b (record { coef = d +ℚ c; mono = m } ∷ g) (u ∷ t ∷ g) (joined_terms m c d g) y
    ∙ front_same b (u ∷ t ∷ g) ((u ∷ g) ++ t ∷ []) (entered_same (u ∷ []) g t) y
    ∙ ap (λ z. coefficient z y) (sym (append_assoc b (u ∷ g) (t ∷ [])))
    ∙ ap (λ z. coefficient (z ++ t ∷ []) y) (sym (map-append (point_term a x) before (record { k = k; coef = d } ∷ after)))
    ∙ ap (λ z. coefficient (strand_terms a x z ++ t ∷ []) y) (sym e)
added_terms k c old new a x (IsPointAdded.entered before after e f) = λ y.
    let b = strand_terms a x before in
    let g = strand_terms a x after in
    let t : Term = record { coef = c; mono = moved a x k } in
    ap (λ z. coefficient (strand_terms a x z) y) f
    ∙ ap (λ z. coefficient z y) (map-append (point_term a x) before (record { k = k; coef = c } ∷ after))
    ∙ entered_same b g t y
    ∙ ap (λ z. coefficient (z ++ t ∷ []) y) (sym (map-append (point_term a x) before after))
    ∙ ap (λ z. coefficient (strand_terms a x z ++ t ∷ []) y) (sym e)

-- the coefficient is added to that of the point at index i
pub point_joined : (k : ℤ) (c : Fraction) (old : List Point) (i : ℕ) (p q : Point) → i < length old → p ≡ get_or old i p → p.k ≡ k → q.k ≡ k →
    q.coef ≡ p.coef +ℚ c → IsPointAdded k c old (set old i q)
point_joined k c old i p q l e f g h = IsPointAdded.joined (take i old) (drop (i + 1) old) p.coef
    (sym (take-append-drop i old) ∙ ap (λ z. take i old ++ z) (drop_more old i p l ∙ ap (λ (z : Point). z ∷ drop (i + 1) old)
    (sym e ∙ ap (λ (z : ℤ). record { k = z; coef = p.coef }) f)))
    (set_split old i q l ∙ ap (λ n. take i old ++ q ∷ drop n old) (sym (add-one i)) ∙ ap (λ (z : ℤ). take i old ++ record { k = z; coef = q.coef } ∷
    drop (i + 1) old) g ∙ ap (λ (z : Fraction). take i old ++ record { k = k; coef = z } ∷ drop (i + 1) old) h)

pub point_entered : (k : ℤ) (c : Fraction) (old : List Point) (i : ℕ) (q : Point) → q.k ≡ k → q.coef ≡ c → IsPointAdded k c old (insert old i q)
point_entered k c old i q g h = IsPointAdded.entered (take i old) (drop i old) (sym (take-append-drop i old))
    (ap (λ (z : ℤ). take i old ++ record { k = z; coef = q.coef } ∷ drop i old) g ∙ ap (λ (z : Fraction). take i old ++ record { k = k; coef = z } ∷ drop i old)
    h)

each_set : (P : ℤ → Type 0) (ps : List Point) (i : ℕ) (q : Point) → P q.k → Each (λ (r : Point). P r.k) ps → Each (λ (r : Point). P r.k) (set ps i q)
each_set P [] i q n h = tt
each_set P (p ∷ ps) zero q n h = (n, h.1)
each_set P (p ∷ ps) (suc i) q n h = (h.0, each_set P ps i q n h.1)

each_at : (P : Point → Type 0) (ps : List Point) (i : ℕ) (p : Point) → i < length ps → p ≡ get_or ps i p → Each P ps → P p
each_at P ps i p l e h = contained_each P ps h p (i, l, sym e)

-- multiples fall as long as they stay
pub falling_set : (ps : List Point) (i : ℕ) (p q : Point) → i < length ps → p ≡ get_or ps i p → q.k ≡ p.k → AreFalling ps → AreFalling (set ps i q)
falling_set [] i p q l e g f = tt
falling_set (r ∷ ps) zero p q l e g f = (subst (λ (z : ℤ). Each (λ (s : Point). s.k <ℤ z) ps) (sym (g ∙ ap (λ (z : Point). z.k) e)) f.0, f.1)
falling_set (r ∷ ps) (suc i) p q l e g f = (
  each_set (λ (z : ℤ). z <ℤ r.k) ps i q (subst (λ (z : ℤ). z <ℤ r.k) (sym g) (each_at (λ (s : Point). s.k <ℤ r.k) ps i p (omega arith) e f.0)) f.0,
  falling_set ps i p q (omega arith) e g f.1,
)

-- q is below the first point, where it is below the last one before its index
below_first : (r : Point) (ps : List Point) (i : ℕ) (q : Point) → i ≤ length ps → ((j : ℕ) (p : Point) → j + 1 ≡ suc i → p ≡ get_or (r ∷ ps) j p → q.k <ℤ p.k) →
    AreFalling (r ∷ ps) → q.k <ℤ r.k
below_first r ps zero q l b f = b 0 r refl refl
below_first r ps (suc i) q l b f =
    let p = get_or ps i r in
    let e : p ≡ get_or ps i p = get_or_default ps i r p (omega arith) in
    let m : q.k <ℤ p.k = b (suc i) p (omega arith) e in
    let n : p.k <ℤ r.k = each_at (λ (s : Point). s.k <ℤ r.k) ps i p (omega arith) e f.0 in
    omega (arith, ints, m, n)

-- multiples fall, also where one enters at its index
pub falling_insert : (ps : List Point) (i : ℕ) (q : Point) → i ≤ length ps → ((j : ℕ) (p : Point) → i ≤ j → j < length ps → p ≡ get_or ps j p → p.k <ℤ q.k) →
    ((j : ℕ) (p : Point) → j + 1 ≡ i → p ≡ get_or ps j p → q.k <ℤ p.k) → AreFalling ps → AreFalling (insert ps i q)
falling_insert ps zero q l b d f = (each_contained (λ (p : Point). p.k <ℤ q.k) ps (λ p c. b c.0 p (omega arith) c.1 (sym c.2)), f)
falling_insert [] (suc i) q l b d f = absurd (omega arith)
falling_insert (r ∷ ps) (suc i) q l b d f = (
  each_more (λ (s : Point). s.k <ℤ r.k) (take i ps) (drop i ps) q (below_first r ps i q (omega arith) d f)
      (subst (Each (λ (s : Point). s.k <ℤ r.k)) (sym (take-append-drop i ps)) f.0),
  falling_insert ps i q (omega arith) (λ j p m n e. b (suc j) p (omega arith) (omega arith) e) (λ j p m e. d (suc j) p (omega arith) e) f.1,
)

-- two reads of one index
pub same_point : (ps : List Point) (i j : ℕ) (p q : Point) → i ≡ j → i < length ps → p ≡ get_or ps i p → q ≡ get_or ps j q → p ≡ q
same_point ps i j p q e l h g = h ∙ get_or_default ps i p q l ∙ ap (λ n. get_or ps n q) e ∙ sym g

strictly : (j k : ℤ) → j ≤ℤ k → (k ≡ j → ⊥) → j <ℤ k
strictly j k l n = elim (cases k j) [ inl e ↦ absurd (n e) | inr d ↦ d l ]
  where
    cases : (k j : ℤ) → (k ≡ j) ⊎ (j ≤ℤ k → j <ℤ k)
    cases k j = grind (arith, ints)

-- a point enters at the index that a search found
pub falling_entered : (old new : List Point) (i : ℕ) (k : ℤ) (q : Point) → q.k ≡ k → i ≤ length old →
    ((j : ℕ) (p : Point) → i ≤ j → j < length old → p ≡ get_or old j p → p.k <ℤ k) → ((j : ℕ) (p : Point) → j + 1 ≡ i → p ≡ get_or old j p → k ≤ℤ p.k) →
    ((j : ℕ) (p : Point) → j + 1 ≡ i → p ≡ get_or old j p → p.k ≡ k → ⊥) → new ≡ insert old i q → AreFalling old → AreFalling new
falling_entered old new i k q e l b d n m f = subst AreFalling (sym m) (falling_insert old i q l
    (λ j p h o g. subst (λ (z : ℤ). p.k <ℤ z) (sym e) (b j p h o g))
    (λ j p h g. subst (λ (z : ℤ). z <ℤ p.k) (sym e) (strictly k p.k (d j p h g) (n j p h g))) f)

-- ---- points are taken away

pub subtracted-none : (p : Point) (old : List Point) → IsSubtracted p [] old old
subtracted-none p old = record {
  terms = λ a x o n. λ e. ap (λ z. coefficient z e) (sym (append-nil (strand_terms a x old)));
  on = λ a x o n h. h;
  above = λ k l n h. h;
  falling = λ h. h;
}

above_sum : (j k l : ℤ) → j <ℤ k → pos 0 <ℤ l → j <ℤ (k +ℤ l)
above_sum j k l h n = omega (arith, ints, h, n)

-- one more
pub subtracted_more : (p q : Point) (qs old work new : List Point) → IsSubtracted p qs old work →
    IsPointAdded (p.k +ℤ q.k) (neg_ℚ (p.coef *ℚ q.coef)) work new → (AreFalling work → AreFalling new) → IsSubtracted p (qs ++ q ∷ []) old new
subtracted_more p q qs old work new s d f = record {
  terms = λ a x o n. terms a x o (each_split (λ (r : Point). IsSpot a (moved a x p.k) r.k) qs (q ∷ []) n);
  on = λ a x o n h.
      let m = each_split (λ (r : Point). IsSpot a (moved a x p.k) r.k) qs (q ∷ []) n in
      added_each (IsSpot a x) (p.k +ℤ q.k) (neg_ℚ (p.coef *ℚ q.coef)) work new d (on_sum a x p.k q.k o m.1.0) (s.on a x o m.0 h);
  above = λ k l n h.
      let m = each_split (λ (r : Point). pos 0 <ℤ r.k) qs (q ∷ []) n in
      added_each (λ (j : ℤ). k <ℤ j) (p.k +ℤ q.k) (neg_ℚ (p.coef *ℚ q.coef)) work new d (above_sum k p.k q.k l m.1.0) (s.above k l m.0 h);
  falling = λ h. f (s.falling h);
}
  where
    terms : (a : List ℤ) (x : Exponents) → IsSpot a x p.k → AreSpots a (moved a x p.k) qs × AreSpots a (moved a x p.k) (q ∷ []) →
        SamePolynomial (strand_terms a x new) (strand_terms a x old ++ times (neg_ℚ p.coef) [] (strand_terms a (moved a x p.k) (qs ++ q ∷ [])))
    terms a x o n e =
        let y = moved a x p.k in
        let c = neg_ℚ p.coef in
        let b = strand_terms a x old in
        let g = times c [] (strand_terms a y qs) in
        let t : Term = record { coef = neg_ℚ (p.coef *ℚ q.coef); mono = moved a x (p.k +ℤ q.k) } in
        let u : times_term c [] (point_term a y q) ≡ t =
        ap (λ (z : Fraction). record { coef = z; mono = moved a y q.k }) (neg_ℚ-*ℚ p.coef q.coef) ∙
        ap (λ (z : Exponents). record { coef = neg_ℚ (p.coef *ℚ q.coef); mono = z }) (moved_moved a x p.k q.k o) in
        added_terms (p.k +ℤ q.k) (neg_ℚ (p.coef *ℚ q.coef)) work new a x d e
        ∙ coefficient-++ (strand_terms a x work) (t ∷ []) e ∙ ap (λ z. z +ℚ coefficient (t ∷ []) e) (s.terms a x o n.0 e) ∙
        sym (coefficient-++ (b ++ g) (t ∷ []) e)
        ∙ ap (λ z. coefficient z e) (append_assoc b g (t ∷ []))
        ∙ ap (λ (z : Term). coefficient (b ++ (g ++ z ∷ [])) e) (sym u)
        ∙ ap (λ z. coefficient (b ++ z) e) (sym (times-++ c [] (strand_terms a y qs) (point_term a y q ∷ [])))
        ∙ ap (λ z. coefficient (b ++ times c [] z) e) (sym (map-append (point_term a y) qs (q ∷ [])))

-- ---- points are counted anew

-- p, counted from another one, and divided by its coefficient
abbrev pub relative_point : Point → Point → Point
relative_point first p = record { k = p.k -ℤ first.k; coef = p.coef /ℚ first.coef }

pub relative_is : (first p q : Point) → IsRelative first p q → q ≡ relative_point first p
relative_is first p q h = ap (λ (z : ℤ). record { k = z; coef = q.coef }) h.k ∙ ap (λ (z : Fraction). record { k = p.k -ℤ first.k; coef = z }) h.coef

relative_on : (a : List ℤ) (x : Exponents) (first : Point) (qs : List Point) → IsSpot a x first.k → AreSpots a x qs →
    AreSpots a (moved a x first.k) (map (relative_point first) qs)
relative_on a x first [] o h = tt
relative_on a x first (q ∷ qs) o h = (on_rest a x first.k q.k o h.0, relative_on a x first qs o h.1)

relative_each : (first : Point) (P Q : ℤ → Type 0) → ((k : ℤ) → P k → Q (k -ℤ first.k)) → (qs : List Point) → Each (λ (q : Point). P q.k) qs →
    Each (λ (q : Point). Q q.k) (map (relative_point first) qs)
relative_each first P Q t [] h = tt
relative_each first P Q t (q ∷ qs) h = (t q.k h.0, relative_each first P Q t qs h.1)

above_first : (j k : ℤ) → j <ℤ k → pos 0 <ℤ (k -ℤ j)
above_first j k h = omega (arith, ints, h)

below_still : (j k l : ℤ) → k <ℤ l → (k -ℤ j) <ℤ (l -ℤ j)
below_still j k l h = omega (arith, ints, h)

relative_falling : (first : Point) (qs : List Point) → AreFalling qs → AreFalling (map (relative_point first) qs)
relative_falling first [] f = tt
relative_falling first (q ∷ qs) f =
    (relative_each first (λ (k : ℤ). k <ℤ q.k) (λ (k : ℤ). k <ℤ (q.k -ℤ first.k)) (λ k h. below_still first.k k q.k h) qs f.0, relative_falling first qs f.1)

-- those before the last one of falling points
falling_front : (qs : List Point) (first : Point) → AreFalling (qs ++ first ∷ []) → AreFalling qs × Each (λ (q : Point). first.k <ℤ q.k) qs
falling_front [] first f = (tt, tt)
falling_front (q ∷ qs) first f =
    let r = falling_front qs first f.1 in
    let s = each_split (λ (p : Point). p.k <ℤ q.k) qs (first ∷ []) f.0 in
    ((s.0, r.0), (s.1.0, r.1))

-- a quotient times the divisor
quotient-times : (c d : Fraction) → c ≢ zero_ℚ → c *ℚ (d /ℚ c) ≡ d
quotient-times c d n = *ℚ_comm c (d /ℚ c) ∙ *ℚ_assoc d (reciprocal_ℚ c) c ∙ ap (λ z. d *ℚ z) (reciprocal_ℚ-*ℚ c n) ∙ *ℚ-one d

back : (j k : ℤ) → j +ℤ (k -ℤ j) ≡ k
back j k = omega (arith, ints)

-- counted anew and multiplied, they are the terms that they were
relative_terms : (a : List ℤ) (x : Exponents) (first : Point) (qs : List Point) → first.coef ≢ zero_ℚ → IsSpot a x first.k →
    times first.coef [] (strand_terms a (moved a x first.k) (map (relative_point first) qs)) ≡ strand_terms a x qs
relative_terms a x first [] n o = refl
relative_terms a x first (q ∷ qs) n o =
    let g = times first.coef [] (strand_terms a (moved a x first.k) (map (relative_point first) qs)) in
    ap (λ (z : Fraction). record { coef = z; mono = moved a (moved a x first.k) (q.k -ℤ first.k) } ∷ g) (quotient-times first.coef q.coef n)
    ∙ ap (λ (z : Exponents). record { coef = q.coef; mono = z } ∷ g) (moved_moved a x first.k (q.k -ℤ first.k) o ∙ ap (moved a x) (back first.k q.k))
    ∙ ap (λ z. point_term a x q ∷ z) (relative_terms a x first qs n o)

-- so is the strand, and the points
strand_times : (a : List ℤ) (x : Exponents) (qs : List Point) (first : Point) (l : Strand) → IsSpot a x first.k → first.coef ≢ zero_ℚ →
    l.mark ≡ moved a x first.k → l.rest.items ≡ map (relative_point first) qs → (y : Exponents) → first.coef *ℚ coefficient (strand_member a l).poly y ≡
    coefficient (strand_terms a x (qs ++ first ∷ [])) y
strand_times a x qs first l o n m r y =
    let t = point_term a x first in
    let f = strand_terms a x qs in
    sym (coefficient-times first.coef [] (strand_member a l).poly y)
    ∙ ap (λ (z : Exponents). coefficient (times first.coef [] (record { coef = one_ℚ; mono = z } ∷ strand_terms a z l.rest.items)) y) m
    ∙ ap (λ (z : List Point). coefficient (times first.coef [] (record { coef = one_ℚ; mono = moved a x first.k } ∷ strand_terms a (moved a x first.k) z)) y) r
    ∙ ap (λ (z : Fraction). coefficient (record { coef = z; mono = moved a x first.k } ∷ times first.coef
    [] (strand_terms a (moved a x first.k) (map (relative_point first) qs))) y) (*ℚ-one first.coef)
    ∙ ap (λ (z : Terms). coefficient (t ∷ z) y) (relative_terms a x first qs n o)
    ∙ ap (λ (z : Terms). coefficient (t ∷ z) y) (sym (append-nil f))
    ∙ sym (turned f t y)
    ∙ ap (λ (z : Terms). coefficient z y) (sym (map-append (point_term a x) qs (first ∷ [])))
  where
    turned : (f : Terms) (t : Term) → SamePolynomial (f ++ t ∷ []) (t ∷ (f ++ []))
    turned f t = λ e. coefficient-++ f (t ∷ []) e ∙ +ℚ_comm (coefficient f e) (coefficient (t ∷ []) e) ∙ sym (coefficient-++ (t ∷ []) f e) ∙
        ap (λ z. coefficient (t ∷ z) e) (sym (append-nil f))

-- the strand of points
pub strand_from : (a : List ℤ) (x : Exponents) (ps qs : List Point) (first : Point) (l : Strand) → ps ≡ qs ++ first ∷ [] → HasNonzero a → length x ≡ length a →
    AreSpots a x ps → AreFalling ps → first.coef ≢ zero_ℚ → l.mark ≡ moved a x first.k → l.rest.items ≡ map (relative_point first) qs → IsStrandFrom a x ps l
strand_from a x ps qs first l e h w o f n m r = subst (λ (z : List Point). IsStrandFrom a x z l) (sym e) (record {
  strand = record {
    width = ap length m ∙ moved-length a x first.k ∙ w;
    on = subst (λ (z : Exponents). AreSpots a z l.rest.items) (sym m) (subst (AreSpots a (moved a x first.k)) (sym r) (relative_on a x first qs s.1.0 s.0));
    further = subst (Each (λ (p : Point). pos 0 <ℤ p.k)) (sym r)
        (relative_each first (λ (k : ℤ). first.k <ℤ k) (λ (k : ℤ). pos 0 <ℤ k) (λ k. above_first first.k k) qs g.1);
    falling = subst AreFalling (sym r) (relative_falling first qs g.0);
  };
  monic = record {
    there = λ z. n (sym c ∙ z);
    equation = λ y. ap (λ z. z *ℚ coefficient (strand_member a l).poly y) c ∙ strand_times a x qs first l s.1.0 n m r y;
  };
  apart = subst (λ (z : Exponents). AreMultipleApart a z x) (sym m) (moved_apart a x first.k s.1.0);
})
  where
    on : AreSpots a x (qs ++ first ∷ [])
    on = subst (AreSpots a x) e o

    falls : AreFalling (qs ++ first ∷ [])
    falls = subst AreFalling e f

    s : AreSpots a x qs × AreSpots a x (first ∷ [])
    s = each_split (λ (p : Point). IsSpot a x p.k) qs (first ∷ []) on

    g : AreFalling qs × Each (λ (q : Point). first.k <ℤ q.k) qs
    g = falling_front qs first falls

    c : coefficient (strand_terms a x (qs ++ first ∷ [])) l.mark ≡ first.coef
    c = ap (coefficient (strand_terms a x (qs ++ first ∷ []))) m ∙ strand_coefficient a x qs [] first h on falls
