-- The greatest term by a weight, as a search finds it.
-- To cite: above_by, below_by, Greatest, Greatest-start, Greatest-new, Greatest-kept, greatest_of, marked_kept. The rest are steps.
use Rattle.std.specs.Prelude.{◌≡◌, ◌≢◌, ◌⊎◌, ℕ, zero, suc, ◌+◌, ◌<◌, ◌≤◌, List, [], ◌∷◌, ◌++◌, length, take, get_or, All, Contains, ℤ, ◌<ℤ◌}
use Rattle.std.specs.Ordering.{MatchOrdering}
use Rattle.std.specs.declared.cmp.Ordering.{Ordering}
use Rattle.std.specs.declared.cmp.Ordering.TheVariants.{Less, Equal, Greater}
use Rattle.std.proofs.Common.{arith, refl, sym, ap, subst, ◌∙◌, inl, inr}
use Rattle.std.proofs.lemmas.Int.{ints}
use Rattle.std.proofs.lemmas.List.{take_more, take_all, map-append}
use Rattle.std.proofs.lemmas.List.Elements.{All-head, All-tail, Contains-push_cases}
use Rattle.gf_frac.specs.Fraction.{zero_ℚ}
use Rattle.gf_exponents_theory.specs.Exponents.{Exponents, whole_weight}
use Rattle.gf_exponents_theory.specs.Orders.{IsLexBelow, lex}
use Rattle.gf_exponents_theory.proofs.OrderLaws.{lex-compares, lex-strict}
use Rattle.gf_poly.specs.declared.Term.{Term}
use Rattle.gf_poly.specs.Polynomial.{Terms, IsDescending, HasVariables}
use Rattle.gf_poly.specs.Marking.{MarkedPolynomial, Each, HaveVariables, head_of, polys}
use Rattle.gf_poly.proofs.MarkingLaws.{mark_at}
use Rattle.gf_poly.proofs.CoefficientLaws.{term_length}
use Rattle.gf_ideal_theory.proofs.ListLaws.{Each-++}
use Rattle.gf_division.proofs.TailLaws.{head_at}
use Rattle.gf_small.specs.MarksByWeight.{IsBelowBy, IsMarkedByWeight}

-- ---- comparisons

abbrev IsLexAbove : Exponents → Exponents → Ordering → Type 0
IsLexAbove x y r = MatchOrdering r (IsLexBelow x y) (x ≡ y) (IsLexBelow y x)

pub lex_by : (x y : Exponents) (r : Ordering) → length x ≡ length y → r ≡ lex x y → MatchOrdering r (IsLexBelow x y) (x ≡ y) (IsLexBelow y x)
lex_by x y r l e = subst (IsLexAbove x y) (sym e) (lex-compares x y l)

pub not_above : (x y : Exponents) (r : Ordering) → MatchOrdering r (IsLexBelow x y) (x ≡ y) (IsLexBelow y x) → (r ≡ Greater → ⊥) → (x ≡ y) ⊎ IsLexBelow x y
not_above x y Less h n = inr h
not_above x y Equal h n = inl h
not_above x y Greater h n = absurd (n refl)

pub IsBelowBy-trans : (w : List ℤ) (x y z : Exponents) → IsBelowBy w x y → IsBelowBy w y z → IsBelowBy w x z
IsBelowBy-trans w x y z (inl a) (inl b) = inl (omega (arith, ints, a, b))
IsBelowBy-trans w x y z (inl a) (inr b) = inl (omega (arith, ints, a, b.0))
IsBelowBy-trans w x y z (inr a) (inl b) = inl (omega (arith, ints, a.0, b))
IsBelowBy-trans w x y z (inr a) (inr b) = inr (a.0 ∙ b.0, lex-strict.transitive x y z a.1 b.1)

-- ---- the term at an index

-- each of the first i terms is at the index or below the term there, which has the weight m
pub record Greatest (w : List ℤ) (f : Terms) (index : ℕ) (m : ℤ) (i : ℕ) : Type 0 where
  pub inside : index < length f
  pub weight : m ≡ whole_weight w (head_of f index)
  pub others : (t : Term) → Contains (take i f) t → (t.mono ≡ head_of f index) ⊎ IsBelowBy w t.mono (head_of f index)

-- a term of the first i + 1 is one of the first i, or that at i
split_at : (f : Terms) (i : ℕ) (t s : Term) → i < length f → t ≡ get_or f i t → Contains (take (i + 1) f) s → Contains (take i f) s ⊎ (t ≡ s)
split_at f i t s h is k =
    Contains-push_cases (take i f) t s (subst (λ (g : Terms). Contains g s) (take_more f i t h ∙ ap (λ (z : Term). take i f ++ z ∷ []) (sym is)) k)

pub Greatest-start : (w : List ℤ) (f : Terms) (index : ℕ) (t : Term) (m : ℤ) → index < length f → t ≡ get_or f index t → m ≡ whole_weight w t.mono →
    Greatest w f index m 0
Greatest-start w f index t m h is e = record {
  inside = h;
  weight = e ∙ ap (whole_weight w) (sym (head_at f index t h is));
  others = λ s k. absurd (omega (arith, k.1));
}

-- the exponents of the term at an index
pub exponents_at : (f : Terms) (i : ℕ) (t : Term) (x : Exponents) → t ≡ get_or f i t → x ≡ (get_or f i t).mono → x ≡ t.mono
exponents_at f i t x is e = e ∙ ap (λ (z : Term). z.mono) (sym is)

pub width_at : (n : ℕ) (f : Terms) (i : ℕ) (t : Term) (x : Exponents) → i < length f → t ≡ get_or f i t → x ≡ (get_or f i t).mono → HasVariables n f →
    length x ≡ n
width_at n f i t x l is e v = ap length (exponents_at f i t x is e) ∙ term_length n f t v (i, l, sym is)

-- the term at i is above
pub Greatest-new : (w : List ℤ) (f : Terms) (index i : ℕ) (m k : ℤ) (t : Term) → i < length f → t ≡ get_or f i t → k ≡ whole_weight w t.mono →
    (x y : Exponents) → x ≡ t.mono → y ≡ head_of f index → ((m <ℤ k) ⊎ ((m ≡ k) × IsLexBelow y x)) → Greatest w f index m i → Greatest w f i k (i + 1)
Greatest-new w f index i m k t h is e x y ex ey above g = record {
  inside = h;
  weight = e ∙ ap (whole_weight w) (sym at);
  others = λ s c. elim (split_at f i t s h is c) [
    | inl n ↦ inr (subst (IsBelowBy w s.mono) (sym at) (elim (g.others s n) [
      | inl q ↦ subst (λ (x : Exponents). IsBelowBy w x t.mono) (sym q) old
      | inr b ↦ IsBelowBy-trans w s.mono (head_of f index) t.mono b old
    ]))
    | inr q ↦ inl (ap (λ (z : Term). z.mono) (sym q) ∙ sym at)
  ];
}
  where
    at : head_of f i ≡ t.mono
    at = head_at f i t h is

    old : IsBelowBy w (head_of f index) t.mono
    old = elim above [
      | inl l ↦ inl (omega (arith, ints, l, g.weight, e))
      | inr b ↦ inr (sym g.weight ∙ b.0 ∙ e, subst (λ (z : Exponents). IsLexBelow z t.mono) ey (subst (IsLexBelow y) ex b.1))
    ]

-- it isn't
pub Greatest-kept : (w : List ℤ) (f : Terms) (index i : ℕ) (m k : ℤ) (t : Term) → i < length f → t ≡ get_or f i t → k ≡ whole_weight w t.mono →
    (x y : Exponents) → x ≡ t.mono → y ≡ head_of f index → ((x ≡ y) ⊎ (k <ℤ m) ⊎ ((k ≡ m) × IsLexBelow x y)) → Greatest w f index m i →
    Greatest w f index m (i + 1)
Greatest-kept w f index i m k t h is e x y ex ey below g = record {
  inside = g.inside;
  weight = g.weight;
  others = λ s c. elim (split_at f i t s h is c) [
    | inl n ↦ g.others s n
    | inr q ↦ subst (λ (z : Term). (z.mono ≡ head_of f index) ⊎ IsBelowBy w z.mono (head_of f index)) q new
  ];
}
  where
    by : (k <ℤ m) ⊎ ((k ≡ m) × IsLexBelow x y) → IsBelowBy w t.mono (head_of f index)
    by (inl l) = inl (omega (arith, ints, l, g.weight, e))
    by (inr b) = inr (sym e ∙ b.0 ∙ g.weight, subst (λ (z : Exponents). IsLexBelow z (head_of f index)) ex (subst (IsLexBelow x) ey b.1))

    new : (t.mono ≡ head_of f index) ⊎ IsBelowBy w t.mono (head_of f index)
    new = elim below [ inl q ↦ inl (sym ex ∙ q ∙ ey) | inr b ↦ inr (by b) ]

pub greatest_of : (w : List ℤ) (f : Terms) (index : ℕ) (m : ℤ) (i : ℕ) → length f ≤ i → Greatest w f index m i → (t : Term) → Contains f t →
    (t.mono ≡ head_of f index) ⊎ IsBelowBy w t.mono (head_of f index)
greatest_of w f index m i h g t c = g.others t (subst (λ (z : Terms). Contains z t) (sym (take_all i f h)) c)

-- ---- polynomial by polynomial

pub marked_at : (w : List ℤ) (c : MarkedPolynomial) (f : Terms) (index : ℕ) → c ≡ record { poly = f; head = head_of f index } → IsDescending f →
    index < length f → ((s : Term) → Contains f s → (s.mono ≡ head_of f index) ⊎ IsBelowBy w s.mono (head_of f index)) → IsMarkedByWeight w c
marked_at w c f index e d l h = subst (IsMarkedByWeight w) (sym e) (record {
  marked = record { descending = d; mark = (get_or f index nothing).coef; term = mark_at f index (get_or f index nothing) l (at f index nothing l) };
  others = h;
})
  where
    nothing : Term
    nothing = record { coef = zero_ℚ; mono = [] }

    at : (f : Terms) (k : ℕ) (d : Term) → k < length f → get_or f k d ≡ get_or f k (get_or f k d)
    at [] k d l = absurd (omega arith)
    at (s ∷ f) zero d l = refl
    at (s ∷ f) (suc k) d l = at f k d (omega arith)

-- what stands at an index
pub some_at : (set : List Terms) (i : ℕ) (f : Terms) → All (λ g. g ≢ []) set → i < length set → f ≡ get_or set i f → 0 < length f
some_at set i f all l e = some f (subst (λ (g : Terms). g ≢ []) (sym e) (all i f l))
  where
    some : (g : Terms) → g ≢ [] → 0 < length g
    some [] n = absurd (n refl)
    some (t ∷ g) n = omega arith

pub variables_at : (n : ℕ) (set : List Terms) (i : ℕ) (f : Terms) → All (HasVariables n) set → i < length set → f ≡ get_or set i f → HasVariables n f
variables_at n set i f all l e = subst (HasVariables n) (sym e) (all i f l)

-- the first i, marked
pub record MarkedSoFar (w : List ℤ) (set : List Terms) (found : List MarkedPolynomial) (i : ℕ) : Type 0 where
  pub polynomials : polys found ≡ take i set
  pub marks : Each (IsMarkedByWeight w) found

pub marked-more : (w : List ℤ) (set : List Terms) (found next : List MarkedPolynomial) (i : ℕ) (f : Terms) (c : MarkedPolynomial) → i < length set →
    f ≡ get_or set i f → c.poly ≡ f → IsMarkedByWeight w c → next ≡ found ++ c ∷ [] → MarkedSoFar w set found i → MarkedSoFar w set next (i + 1)
marked-more w set found next i f c l e p m q h = record {
  polynomials = ap polys q ∙ map-append poly_of found (c ∷ []) ∙ ap (λ z. polys found ++ z ∷ []) p ∙ ap (λ z. z ++ f ∷ []) h.polynomials ∙
      sym (take_more set i f l ∙ ap (λ (z : Terms). take i set ++ z ∷ []) (sym e));
  marks = subst (Each (IsMarkedByWeight w)) (sym q) (Each-++ (IsMarkedByWeight w) found (c ∷ []) h.marks (m, tt));
}
  where
    poly_of : MarkedPolynomial → Terms
    poly_of d = d.poly

variables_by : (n : ℕ) (set : List Terms) (cs : List MarkedPolynomial) → polys cs ≡ set → All (HasVariables n) set → HaveVariables n cs
variables_by n set [] e v = tt
variables_by n [] (c ∷ cs) e v = absurd (cc)
variables_by n (f ∷ set) (c ∷ cs) e v = (
  subst (HasVariables n) (sym (first e)) (All-head (HasVariables n) f set v),
  variables_by n set cs (rest e) (All-tail (HasVariables n) f set v),
)
  where
    first : polys (c ∷ cs) ≡ f ∷ set → c.poly ≡ f
    first q = cc

    rest : polys (c ∷ cs) ≡ f ∷ set → polys cs ≡ set
    rest q = cc

pub marked-variables : (n k : ℕ) (w : List ℤ) (set : List Terms) (found : List MarkedPolynomial) (i : ℕ) → k ≡ n → All (HasVariables n) set → length set ≤ i →
    MarkedSoFar w set found i → HaveVariables k found
marked-variables n k w set found i q v l h = subst (λ (m : ℕ). HaveVariables m found) (sym q) (variables_by n set found (h.polynomials ∙ take_all i set l) v)
