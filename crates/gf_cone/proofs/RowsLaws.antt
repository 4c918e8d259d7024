-- Rows as they are made, one by one.
-- To cite: Differing, differing_next, same_row, other_row, lengths_at, rows_more, Collecting, Collecting-more, all_collected, unit_set.
use Rattle.std.proofs.Common.{◌≡◌, ◌⊎◌, if◌then◌else◌, ℕ, zero, suc, ◌+◌, ◌<◌, ◌≤◌, ◌^◌, true, List, [], ◌∷◌, ◌++◌, length, ℤ, pos, ◌-ℤ◌, All, unsigned_abs}
use Rattle.std.proofs.Common.{arith, refl, sym, ap, ◌∙◌, subst, inl, inr, get_or, take, set, append_assoc, min}
use Rattle.std.proofs.lemmas.Bool.{cases_lt}
use Rattle.std.proofs.lemmas.Int.{ints}
use Rattle.std.proofs.lemmas.List.{take_more, take_all, get_or_default, append-nil, length-take}
use Rattle.std.proofs.lemmas.List.Elements.{All-push}
use Rattle.gf_int_theory.specs.Range.{InRange}
use Rattle.gf_vec.specs.Vector.{zeros}
use Rattle.gf_exponents_theory.specs.Exponents.{Exponents, same}
use Rattle.gf_exponents_theory.proofs.ExponentsLaws.{same-refl}
use Rattle.gf_poly.specs.declared.Term.{Term}
use Rattle.gf_poly.specs.Monomial.{IsMonomial}
use Rattle.gf_poly.specs.Polynomial.{Terms, HasVariables}
use Rattle.gf_poly.specs.Marking.{MarkedPolynomial, Each, HaveVariables, HasMarkedTerm}
use Rattle.gf_poly.proofs.CoefficientLaws.{apart, term_length}
use Rattle.gf_facets_theory.proofs.ListLaws.{each_contained, contained_each}
use Rattle.gf_facets_theory.specs.Rows.{differences, row_between, rows_of_terms, rows_of_polynomials}
use Rattle.gf_facets_theory.specs.Systems.{unit}
use Rattle.gf_cone.specs.Small.{IsSmall}
use Rattle.gf_facets_theory.proofs.RowLaws.{row-is}

-- ---- one row

differences-push : (x y : Exponents) (a b : ℕ) → length x ≡ length y → differences (x ++ a ∷ []) (y ++ b ∷ []) ≡ differences x y ++ (pos a -ℤ pos b) ∷ []
differences-push [] [] a b e = refl
differences-push [] (d ∷ y) a b e = absurd (omega arith)
differences-push (c ∷ x) [] a b e = absurd (omega arith)
differences-push (c ∷ x) (d ∷ y) a b e = ap (λ z. (pos c -ℤ pos d) ∷ z) (differences-push x y a b (omega arith))

-- the first i entries of a row
pub record Differing (x y : Exponents) (entries : List ℤ) (i : ℕ) : Type 0 where
  pub items : entries ≡ differences (take i x) (take i y)
  pub range : All InRange entries
  pub small : IsSmall entries

Differing-more : (x y : Exponents) (entries new : List ℤ) (i : ℕ) (z : ℤ) → length x ≡ length y → i < length x → z ≡ pos (get_or x i 0) -ℤ pos (get_or y i 0) →
    get_or x i 0 < 2 ^ 31 → get_or y i 0 < 2 ^ 31 → new ≡ entries ++ z ∷ [] → Differing x y entries i → Differing x y new (i + 1)
Differing-more x y entries new i z e l q a b n d = record {
  items =
      n ∙ ap (λ w. w ++ z ∷ []) d.items ∙ ap (λ w. differences (take i x) (take i y) ++ w ∷ []) q
      ∙ sym (differences-push (take i x) (take i y) (get_or x i 0) (get_or y i 0) (length-take i x ∙ ap (min i) e ∙ sym (length-take i y)))
      ∙ ap (λ w. differences w (take i y ++ get_or y i 0 ∷ [])) (sym (take_more x i 0 l))
      ∙ ap (λ w. differences (take (i + 1) x) w) (sym (take_more y i 0 (omega arith)));
  range = subst (All InRange) (sym n) (All-push InRange entries z d.range (record { within = omega (arith, ints, q, a, b) }));
  small = record {
    entries = subst (All (λ w. unsigned_abs w < 2 ^ 31)) (sym n) (All-push (λ w. unsigned_abs w < 2 ^ 31) entries z d.small.entries
        (omega (arith, ints, q, a, b)));
  };
}

-- the same with the exponents as they are kept
pub differing_next : (x y left right : Exponents) (entries new : List ℤ) (i : ℕ) (z : ℤ) → left ≡ x → right ≡ y → length x ≡ length y → IsMonomial x →
    IsMonomial y → i < length left → z ≡ pos (get_or left i 0) -ℤ pos (get_or right i 0) → new ≡ entries ++ z ∷ [] → Differing left right entries i →
    Differing left right new (i + 1)
differing_next x y left right entries new i z ex ey e mx my l q n d =
    let same_length : length left ≡ length right = ap length ex ∙ e ∙ sym (ap length ey) in
    Differing-more left right entries new i z same_length l q (subst (All (λ k. k < 2 ^ 31)) (sym ex) mx.limit i 0 l)
    (subst (All (λ k. k < 2 ^ 31)) (sym ey) my.limit i 0 (omega arith)) n d

-- the rows of two monomials that are the same, and of two that aren't
row-none : (x y : Exponents) → x ≡ y → row_between x y ≡ []
row-none x y e = ap (λ b. if b then [] else (differences x y ∷ [])) (subst (λ z. same x z ≡ true) e (same-refl x))

-- rows, and one more unless the two monomials are the same
pub same_row : (x y : Exponents) (rows : List (List ℤ)) → x ≡ y → rows ≡ rows ++ row_between x y
same_row x y rows e = sym (append-nil rows) ∙ ap (λ w. rows ++ w) (sym (row-none x y e))

pub other_row : (x y : Exponents) (rows new : List (List ℤ)) (d : List ℤ) → length x ≡ length y → (x ≡ y → ⊥) → d ≡ differences x y → new ≡ rows ++ d ∷ [] →
    new ≡ rows ++ row_between x y
other_row x y rows new d l f q n = n ∙ ap (λ w. rows ++ w ∷ []) q ∙ ap (λ w. rows ++ w) (sym (row-is x y (apart x y l f)))

-- a row's two monomials have the same variables
pub lengths_at : (b : MarkedPolynomial) (x : Exponents) (f : Terms) (i : ℕ) (t : Term) → ((n : ℕ) × HasVariables n b.poly) → HasMarkedTerm b → x ≡ b.head →
    f ≡ b.poly → i < length f → t ≡ get_or f i t → length x ≡ length t.mono
lengths_at b x f i t v m ex ef l q = ap length ex ∙ term_length v.0 b.poly (record { coef = m.mark; mono = b.head }) v.1 m.term ∙
    sym (term_length v.0 f t (subst (HasVariables v.0) (sym ef) v.1) (i, l, sym q))

-- ---- all rows

rows-append : (x : Exponents) (f g : Terms) → rows_of_terms x (f ++ g) ≡ rows_of_terms x f ++ rows_of_terms x g
rows-append x [] g = refl
rows-append x (t ∷ f) g = ap (λ w. row_between x t.mono ++ w) (rows-append x f g) ∙ sym (append_assoc (row_between x t.mono) (rows_of_terms x f)
    (rows_of_terms x g))

pub rows_more : (x : Exponents) (f : Terms) (i : ℕ) (t : Term) (start now new : List (List ℤ)) → i < length f → t ≡ get_or f i t →
    new ≡ now ++ row_between x t.mono → now ≡ start ++ rows_of_terms x (take i f) → new ≡ start ++ rows_of_terms x (take (i + 1) f)
rows_more x f i t start now new l e n h =
    n ∙ ap (λ w. w ++ row_between x t.mono) h ∙ append_assoc start (rows_of_terms x (take i f)) (row_between x t.mono)
    ∙ ap (λ w. start ++ (rows_of_terms x (take i f) ++ w)) (sym (append-nil (row_between x t.mono)))
    ∙ ap (λ w. start ++ w) (sym (rows-append x (take i f) (t ∷ [])))
    ∙ ap (λ w. start ++ rows_of_terms x w) (ap (λ (s : Term). take i f ++ s ∷ []) e ∙ sym (take_more f i t l))

pub members-append : (bs cs : List MarkedPolynomial) → rows_of_polynomials (bs ++ cs) ≡ rows_of_polynomials bs ++ rows_of_polynomials cs
members-append [] cs = refl
members-append (b ∷ bs) cs = ap (λ w. rows_of_terms b.head b.poly ++ w) (members-append bs cs) ∙
    sym (append_assoc (rows_of_terms b.head b.poly) (rows_of_polynomials bs) (rows_of_polynomials cs))

-- the rows of the first i members, which are marked
pub record Collecting (bs : List MarkedPolynomial) (rows : List (List ℤ)) (i : ℕ) : Type 0 where
  pub items : rows ≡ rows_of_polynomials (take i bs)
  pub marked : (k : ℕ) (b : MarkedPolynomial) → k < i → get_or bs k b ≡ b → HasMarkedTerm b

pub Collecting-more : (bs : List MarkedPolynomial) (i : ℕ) (b : MarkedPolynomial) (rows new : List (List ℤ)) → i < length bs → b ≡ get_or bs i b →
    HasMarkedTerm b → new ≡ rows ++ rows_of_terms b.head b.poly → Collecting bs rows i → Collecting bs new (i + 1)
Collecting-more bs i b rows new l e m n h = record {
  items =
      n ∙ ap (λ w. w ++ rows_of_terms b.head b.poly) h.items ∙ ap (λ w. rows_of_polynomials (take i bs) ++ w) (sym (append-nil (rows_of_terms b.head b.poly)))
      ∙ sym (members-append (take i bs) (b ∷ [])) ∙ ap rows_of_polynomials (ap (λ (c : MarkedPolynomial). take i bs ++ c ∷ []) e ∙ sym (take_more bs i b l));
  marked = λ k c s q. at k c (cases_lt k i) s q;
}
  where
    at : (k : ℕ) (c : MarkedPolynomial) → (k < i) ⊎ (i ≤ k) → k < i + 1 → get_or bs k c ≡ c → HasMarkedTerm c
    at k c (inl s) t q = h.marked k c s q
    at k c (inr s) t q =
        let j : k ≡ i = omega arith in
        subst HasMarkedTerm (e ∙ get_or_default bs i b c l ∙ subst (λ (z : ℕ). get_or bs z c ≡ c) j q) m

pub Collecting-end : (bs : List MarkedPolynomial) (rows : List (List ℤ)) (i : ℕ) → length bs ≤ i → Collecting bs rows i →
    (rows ≡ rows_of_polynomials bs) × Each HasMarkedTerm bs
Collecting-end bs rows i l h =
    (h.items ∙ ap rows_of_polynomials (take_all i bs l), each_contained HasMarkedTerm bs (λ b c. h.marked c.0 b (omega (arith, c.1)) c.2))

pub collected_marked : (bs items : List MarkedPolynomial) (rows : List (List ℤ)) (i : ℕ) → items ≡ bs → length items ≤ i → Collecting items rows i →
    Each HasMarkedTerm bs
collected_marked bs items rows i e l h = subst (Each HasMarkedTerm) e (Collecting-end items rows i l h).1

-- ---- unit vectors

pub unit_set : (n i : ℕ) → i < n → set (zeros n) i (pos 1) ≡ unit n i
unit_set zero i l = absurd (omega arith)
unit_set (suc n) zero l = refl
unit_set (suc n) (suc i) l = ap (λ w. pos 0 ∷ w) (unit_set n i (omega arith))

-- all rows
pub all_collected : (bs items : List MarkedPolynomial) (rows : List (List ℤ)) (i : ℕ) → items ≡ bs → length items ≤ i → Collecting items rows i →
    rows ≡ rows_of_polynomials bs
all_collected bs items rows i e l h = (Collecting-end items rows i l h).0 ∙ ap rows_of_polynomials e

pub some_variables : (n : ℕ) (bs items : List MarkedPolynomial) (i : ℕ) (b : MarkedPolynomial) → items ≡ bs → HaveVariables n bs → i < length items →
    b ≡ get_or items i b → (m : ℕ) × HasVariables m b.poly
some_variables n bs items i b e v l q = (
  n,
  contained_each (λ (c : MarkedPolynomial). HasVariables n c.poly) items (subst (HaveVariables n) (sym e) v) b
      (i, l, sym q),
)

-- a row more is small
pub small_more : (rows new : List (List ℤ)) (d : List ℤ) → IsSmall d → new ≡ rows ++ d ∷ [] → All IsSmall rows → All IsSmall new
small_more rows new d h e k = subst (All IsSmall) (sym e) (All-push IsSmall rows d k h)
