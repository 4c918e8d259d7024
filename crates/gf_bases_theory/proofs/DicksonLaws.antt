-- Dickson's lemma as an induction principle: what holds of a list of monomials of n variables as soon as it holds of each
-- list with one monomial more that none of the list divides, holds of each list.
-- To cite: lists_induction, IsNew, IsDownward, dickson. The rest are steps: the monomials that no listed one divides are covered by
-- cells, in each of which some exponents are free and the others fixed; a monomial more cuts one cell into cells with
-- fewer free exponents.
use Rattle.std.proofs.Common.{◌≡◌, ◌⊎◌, ℕ, zero, suc, ◌+◌, ◌<◌, ◌≤◌, true, false, Bool, ◌==◌, List, [], ◌∷◌, ◌++◌, length, arith, refl, sym, ap, ◌∙◌, subst}
use Rattle.std.proofs.Common.{inl, inr}
use Rattle.std.proofs.lemmas.Bool.{cases_lt}
use Rattle.std.proofs.lemmas.Bool.Decides.{nat_tests}
use Rattle.gf_exponents_theory.specs.Exponents.{Exponents, entry, same, plus, IsInRing, NoMultiple}
use Rattle.gf_exponents_theory.proofs.ExponentsLaws.{plus_comm}
use Rattle.gf_poly.specs.Marking.{Each}
use Rattle.gf_poly.proofs.MonomialLaws.{divides_by_entries}
use Rattle.gf_ideal_theory.proofs.ListLaws.{Each-++, Each-weaker}

-- ---- lists of numbers

-- the first number that differs is smaller
abbrev pub IsSmaller : List ℕ → List ℕ → Type 0
IsSmaller [] y = ⊥
IsSmaller (a ∷ x) [] = ⊥
IsSmaller (a ∷ x) (b ∷ y) = (a < b) ⊎ ((a ≡ b) × IsSmaller x y)

-- what holds of a list of m numbers as soon as it holds of all smaller ones
abbrev IsInductive : ℕ → (List ℕ → Type 0) → Type 0
IsInductive m Q = (x : List ℕ) → length x ≡ m → ((y : List ℕ) → length y ≡ m → IsSmaller y x → Q y) → Q x

-- lists whose first number is below a bound, where the principle holds of the rest
below_bound : (m : ℕ) (Q : List ℕ → Type 0) →
    ((R : List ℕ → Type 0) → IsInductive m R → (x : List ℕ) → length x ≡ m → R x) → IsInductive (suc m) Q →
    (bound a : ℕ) → a < bound → (x : List ℕ) → length x ≡ m → Q (a ∷ x)
below_bound m Q rest step zero a l x e = absurd (omega arith)
below_bound m Q rest step (suc bound) a l x e =
    rest (λ z. Q (a ∷ z)) (λ z k r. step (a ∷ z) (omega (arith, k)) (λ y f s. at z r (λ b h y f. below_bound m Q rest step bound b h y f) y f s)) x e
  where
    at : (z : List ℕ) → ((y : List ℕ) → length y ≡ m → IsSmaller y z → Q (a ∷ y)) →
        ((b : ℕ) → b < bound → (y : List ℕ) → length y ≡ m → Q (b ∷ y)) → (y : List ℕ) → length y ≡ suc m →
        IsSmaller y (a ∷ z) → Q y
    at z r lower [] f s = elim s [ ]
    at z r lower (b ∷ y) f (inl s) = lower b (omega (arith, s)) y (omega (arith, f))
    at z r lower (b ∷ y) f (inr s) = subst (λ (c : ℕ). Q (c ∷ y)) (sym s.0) (r y (omega (arith, f)) s.1)

-- what holds of a list of m numbers as soon as it holds of all smaller ones holds of all
pub lists_induction : (m : ℕ) (Q : List ℕ → Type 0) → IsInductive m Q → (x : List ℕ) → length x ≡ m → Q x
lists_induction zero Q step [] e = step [] e (λ y f s. none y f s)
  where
    none : (y : List ℕ) → length y ≡ 0 → IsSmaller y [] → Q y
    none [] f s = elim s [ ]
    none (b ∷ y) f s = elim s [ ]
lists_induction zero Q step (a ∷ x) e = absurd (omega (arith, e))
lists_induction (suc m) Q step [] e = absurd (omega (arith, e))
lists_induction (suc m) Q step (a ∷ x) e = below_bound m Q (lists_induction m) step (suc a) a (omega arith) x (omega (arith, e))

-- ---- cells

-- the exponents of a variable: any, or one alone
data Column : Type 0 where
  free : Column
  fixed : ℕ → Column

-- variable by variable; past the end 0 alone
abbrev Cell : Type 0
Cell = List Column

abbrev column : Cell → ℕ → Column
column [] i = Column.fixed 0
column (k ∷ c) zero = k
column (k ∷ c) (suc i) = column c i

abbrev IsFree : Column → Type 0
IsFree Column.free = Unit {0}
IsFree (Column.fixed v) = ⊥

abbrev Allows : Column → ℕ → Type 0
Allows Column.free a = Unit {0}
Allows (Column.fixed v) a = a ≡ v

-- the exponents are those of a monomial of the cell
abbrev IsWithin : Cell → (ℕ → ℕ) → Type 0
IsWithin c e = (i : ℕ) → Allows (column c i) (e i)

-- how many are free
abbrev frees : Cell → ℕ
frees [] = 0
frees (Column.free ∷ c) = suc (frees c)
frees (Column.fixed v ∷ c) = frees c

-- the exponent of variable i fixed
abbrev put : Cell → ℕ → ℕ → Cell
put [] i v = []
put (k ∷ c) zero v = Column.fixed v ∷ c
put (k ∷ c) (suc i) v = k ∷ put c i v

within-put : (c : Cell) (e : ℕ → ℕ) (i : ℕ) → IsWithin c e → IsWithin (put c i (e i)) e
within-put [] e i h j = h j
within-put (k ∷ c) e zero h zero = refl
within-put (k ∷ c) e zero h (suc j) = h (suc j)
within-put (k ∷ c) e (suc i) h zero = h zero
within-put (k ∷ c) e (suc i) h (suc j) = within-put c (λ l. e (suc l)) i (λ l. h (suc l)) j

frees-put : (c : Cell) (i v : ℕ) → IsFree (column c i) → suc (frees (put c i v)) ≡ frees c
frees-put [] i v f = elim f [ ]
frees-put (Column.free ∷ c) zero v f = refl
frees-put (Column.fixed u ∷ c) zero v f = elim f [ ]
frees-put (Column.free ∷ c) (suc i) v f = ap suc (frees-put c i v f)
frees-put (Column.fixed u ∷ c) (suc i) v f = frees-put c i v f

past_end : (c : Cell) (e : ℕ → ℕ) (i : ℕ) → length c ≤ i → IsWithin c e → e i ≡ 0
past_end [] e i l h = h i
past_end (k ∷ c) e zero l h = absurd (omega arith)
past_end (k ∷ c) e (suc i) l h = past_end c (λ j. e (suc j)) i (omega arith) (λ j. h (suc j))

-- ---- lists of cells

-- some cell has the monomial
abbrev IsCovered : List Cell → Exponents → Type 0
IsCovered [] x = ⊥
IsCovered (c ∷ cs) x = IsWithin c (entry x) ⊎ IsCovered cs x

covered-left : (cs ds : List Cell) (x : Exponents) → IsCovered cs x → IsCovered (cs ++ ds) x
covered-left [] ds x h = elim h [ ]
covered-left (c ∷ cs) ds x (inl h) = inl h
covered-left (c ∷ cs) ds x (inr h) = inr (covered-left cs ds x h)

covered-right : (cs ds : List Cell) (x : Exponents) → IsCovered ds x → IsCovered (cs ++ ds) x
covered-right [] ds x h = h
covered-right (c ∷ cs) ds x h = inr (covered-right cs ds x h)

-- ---- a cell cut by a monomial

-- the exponent of variable i fixed below v
abbrev cut_below : Cell → ℕ → ℕ → List Cell
cut_below c i zero = []
cut_below c i (suc v) = put c i v ∷ cut_below c i v

-- where it was free
abbrev cut_free : Column → List Cell → List Cell
cut_free Column.free ds = ds
cut_free (Column.fixed u) ds = []

-- so for each of the first k variables
abbrev cut : Cell → Exponents → ℕ → List Cell
cut c t zero = []
cut c t (suc k) = cut_free (column c k) (cut_below c k (entry t k)) ++ cut c t k

covered-cut_below : (c : Cell) (i v : ℕ) (x : Exponents) → IsWithin c (entry x) → entry x i < v →
    IsCovered (cut_below c i v) x
covered-cut_below c i zero x h l = absurd (omega arith)
covered-cut_below c i (suc v) x h l = at (cases_lt (entry x i) v) (covered-cut_below c i v x h)
  where
    at : (entry x i < v) ⊎ (v ≤ entry x i) → (entry x i < v → IsCovered (cut_below c i v) x) →
        IsCovered (cut_below c i (suc v)) x
    at (inl s) r = inr (r s)
    at (inr s) r = let e : entry x i ≡ v = omega arith in inl (subst (λ (u : ℕ). IsWithin (put c i u) (entry x)) e (within-put c (entry x) i h))

-- a monomial of the cell that is less than t in one of the first k variables
covered-cut : (c : Cell) (t x : Exponents) (k i : ℕ) → i < k → IsWithin c (entry t) → IsWithin c (entry x) →
    entry x i < entry t i → IsCovered (cut c t k) x
covered-cut c t x zero i l ht hx s = absurd (omega arith)
covered-cut c t x (suc k) i l ht hx s = at (cases_lt i k) (covered-cut c t x k i)
  where
    here : (o : Column) → Allows o (entry t k) → Allows o (entry x k) → entry x k < entry t k →
        IsCovered (cut_below c k (entry t k)) x → IsCovered (cut_free o (cut_below c k (entry t k))) x
    here Column.free p q g r = r
    here (Column.fixed u) p q g r = absurd (omega arith)

    at : (i < k) ⊎ (k ≤ i) →
        (i < k → IsWithin c (entry t) → IsWithin c (entry x) → entry x i < entry t i → IsCovered (cut c t k) x) →
        IsCovered (cut c t (suc k)) x
    at (inl g) r = covered-right (cut_free (column c k) (cut_below c k (entry t k))) (cut c t k) x (r g ht hx s)
    at (inr g) r =
        let e : i ≡ k = omega arith in
        let m : entry x k < entry t k = subst (λ (j : ℕ). entry x j < entry t j) e s in
        covered-left (cut_free (column c k) (cut_below c k (entry t k))) (cut c t k) x
        (here (column c k) (ht k) (hx k) m (covered-cut_below c k (entry t k) x hx m))

-- where t doesn't divide x, x is less in one of the first k variables, or in none of them
less_or_not : (t x : Exponents) (k : ℕ) →
    ((i : ℕ) × (i < k) × (entry x i < entry t i)) ⊎ ((i : ℕ) → i < k → entry t i ≤ entry x i)
less_or_not t x zero = inr (λ i l. absurd (omega arith))
less_or_not t x (suc k) = at (less_or_not t x k) (cases_lt (entry x k) (entry t k))
  where
    at : ((i : ℕ) × (i < k) × (entry x i < entry t i)) ⊎ ((i : ℕ) → i < k → entry t i ≤ entry x i) →
        (entry x k < entry t k) ⊎ (entry t k ≤ entry x k) →
        ((i : ℕ) × (i < suc k) × (entry x i < entry t i)) ⊎ ((i : ℕ) → i < suc k → entry t i ≤ entry x i)
    at (inl r) q = inl (r.0, omega (arith, r.1), r.2)
    at (inr r) (inl s) = inl (k, omega arith, s)
    at (inr r) (inr s) = inr (λ i l. last i l (cases_lt i k))
      where
        last : (i : ℕ) → i < suc k → (i < k) ⊎ (k ≤ i) → entry t i ≤ entry x i
        last i m (inl l) = r i l
        last i m (inr l) = let e : k ≡ i = omega arith in subst (λ (j : ℕ). entry t j ≤ entry x j) e s

-- the monomials of the cell that t doesn't divide are in its parts
covered-parts : (c : Cell) (t x : Exponents) → IsWithin c (entry t) → IsWithin c (entry x) → NoMultiple t x →
    IsCovered (cut c t (length c)) x
covered-parts c t x ht hx n = at (less_or_not t x (length c))
  where
    at : ((i : ℕ) × (i < length c) × (entry x i < entry t i)) ⊎ ((i : ℕ) → i < length c → entry t i ≤ entry x i) →
        IsCovered (cut c t (length c)) x
    at (inl r) = covered-cut c t x (length c) r.0 r.1 ht hx r.2
    at (inr r) =
        let d = divides_by_entries t x (λ i. each i (cases_lt i (length c))) in
        let yes : same x (plus t d.rest) ≡ true = ap (same x) (plus_comm t d.rest) ∙ d.product in
        let no : same x (plus t d.rest) ≡ false = n d.rest in
        absurd (cc)
      where
        each : (i : ℕ) → (i < length c) ⊎ (length c ≤ i) → entry t i ≤ entry x i
        each i (inl l) = r i l
        each i (inr l) = omega (arith, past_end c (entry t) i l ht)

-- ---- how many cells have k free exponents

abbrev one_if : Bool → ℕ
one_if true = 1
one_if false = 0

abbrev tally : ℕ → List Cell → ℕ
tally k [] = 0
tally k (c ∷ cs) = one_if (frees c == k) + tally k cs

tally-++ : (k : ℕ) (cs ds : List Cell) → tally k (cs ++ ds) ≡ tally k cs + tally k ds
tally-++ k [] ds = omega arith
tally-++ k (c ∷ cs) ds = omega (arith, tally-++ k cs ds)

-- the numbers for m, then for less
abbrev tallies : ℕ → List Cell → List ℕ
tallies zero cs = tally 0 cs ∷ []
tallies (suc m) cs = tally (suc m) cs ∷ tallies m cs

length-tallies : (m : ℕ) (cs : List Cell) → length (tallies m cs) ≡ suc m
length-tallies zero cs = refl
length-tallies (suc m) cs = ap suc (length-tallies m cs)

smaller-tallies : (m j : ℕ) (ds cs : List Cell) → j ≤ m → ((k : ℕ) → j < k → tally k ds ≡ tally k cs) →
    tally j ds < tally j cs → IsSmaller (tallies m ds) (tallies m cs)
smaller-tallies zero j ds cs l h s = let e : j ≡ 0 = omega arith in inl (subst (λ (i : ℕ). tally i ds < tally i cs) e s)
smaller-tallies (suc m) j ds cs l h s = at (cases_lt j (suc m)) (smaller-tallies m j ds cs)
  where
    at : (j < suc m) ⊎ (suc m ≤ j) →
        (j ≤ m → ((k : ℕ) → j < k → tally k ds ≡ tally k cs) → tally j ds < tally j cs → IsSmaller (tallies m ds) (tallies m cs)) →
        IsSmaller (tallies (suc m) ds) (tallies (suc m) cs)
    at (inl g) r = inr (h (suc m) g, r (omega arith) h s)
    at (inr g) r = let e : j ≡ suc m = omega arith in inl (subst (λ (i : ℕ). tally i ds < tally i cs) e s)

-- ---- the parts have fewer free exponents

abbrev AreFewer : ℕ → List Cell → Type 0
AreFewer m cs = Each (λ (c : Cell). frees c < m) cs

fewer-cut_below : (c : Cell) (i v : ℕ) → IsFree (column c i) → AreFewer (frees c) (cut_below c i v)
fewer-cut_below c i zero f = tt
fewer-cut_below c i (suc v) f = (omega (arith, frees-put c i v f), fewer-cut_below c i v f)

fewer-cut : (c : Cell) (t : Exponents) (k : ℕ) → AreFewer (frees c) (cut c t k)
fewer-cut c t zero = tt
fewer-cut c t (suc k) = Each-++ (λ (d : Cell). frees d < frees c) (cut_free (column c k) (cut_below c k (entry t k))) (cut c t k)
    (here (column c k) (fewer-cut_below c k (entry t k))) (fewer-cut c t k)
  where
    here : (o : Column) → (IsFree o → AreFewer (frees c) (cut_below c k (entry t k))) →
        AreFewer (frees c) (cut_free o (cut_below c k (entry t k)))
    here Column.free r = r tt
    here (Column.fixed u) r = tt

none-fewer : (m k : ℕ) (cs : List Cell) → m ≤ k → AreFewer m cs → tally k cs ≡ 0
none-fewer m k [] l h = refl
none-fewer m k (c ∷ cs) l h = ap (λ b. one_if b + tally k cs) (other (frees c) k (omega (arith, h.0))) ∙ omega (arith, none-fewer m k cs l h.1)
  where
    other : (a b : ℕ) → a < b → (a == b) ≡ false
    other a b s = grind (arith, nat_tests)

-- ---- one cell replaced by its parts

-- the cells after t was listed
record Replaced (m : ℕ) (cs : List Cell) (t : Exponents) : Type 0 where
  cells : List Cell
  level : ℕ
  small : level < m
  above : (k : ℕ) → level < k → tally k cells ≡ tally k cs
  fewer : tally level cells < tally level cs
  fit : AreFewer m cells
  covers : (x : Exponents) → IsCovered cs x → NoMultiple t x → IsCovered cells x

replaced : (m : ℕ) (cs : List Cell) (t : Exponents) → AreFewer m cs → IsCovered cs t → Replaced m cs t
replaced m [] t f h = elim h [ ]
replaced m (c ∷ cs) t f (inl h) = record {
  cells = cut c t (length c) ++ cs;
  level = frees c;
  small = f.0;
  above = λ k l. tally-++ k (cut c t (length c)) cs ∙ ap (λ z. z + tally k cs) (none-fewer (frees c) k (cut c t (length c)) (omega arith)
      (fewer-cut c t (length c)) ∙ sym (ap one_if (other (frees c) k l)));
  fewer = omega (
    arith,
    tally-++ (frees c) (cut c t (length c)) cs,
    none-fewer (frees c) (frees c) (cut c t (length c)) (omega arith)
        (fewer-cut c t (length c)),
    ap one_if (itself (frees c)),
  );
  fit = Each-++ (λ (d : Cell). frees d < m) (cut c t (length c)) cs
      (Each-weaker (λ (d : Cell). frees d < frees c) (λ (d : Cell). frees d < m) (λ d l. omega (arith, l, f.0)) (cut c t (length c)) (fewer-cut c t (length c)))
      f.1;
  covers = λ x q n. at x q n;
}
  where
    other : (a b : ℕ) → a < b → (a == b) ≡ false
    other a b s = grind (arith, nat_tests)

    itself : (a : ℕ) → (a == a) ≡ true
    itself a = grind (arith, nat_tests)

    at : (x : Exponents) → IsCovered (c ∷ cs) x → NoMultiple t x → IsCovered (cut c t (length c) ++ cs) x
    at x (inl q) n = covered-left (cut c t (length c)) cs x (covered-parts c t x h q n)
    at x (inr q) n = covered-right (cut c t (length c)) cs x q
replaced m (c ∷ cs) t f (inr h) = at (replaced m cs t f.1 h)
  where
    at : Replaced m cs t → Replaced m (c ∷ cs) t
    at r = record {
      cells = c ∷ r.cells;
      level = r.level;
      small = r.small;
      above = λ k l. omega (arith, r.above k l);
      fewer = omega (arith, r.fewer);
      fit = (f.0, r.fit);
      covers = λ x q n. over x q n;
    }
      where
        over : (x : Exponents) → IsCovered (c ∷ cs) x → NoMultiple t x → IsCovered (c ∷ r.cells) x
        over x (inl q) n = inl q
        over x (inr q) n = inr (r.covers x q n)

-- ---- the start

-- all monomials of n variables
abbrev all_free : ℕ → Cell
all_free zero = []
all_free (suc n) = Column.free ∷ all_free n

frees-all : (n : ℕ) → frees (all_free n) ≡ n
frees-all zero = refl
frees-all (suc n) = ap suc (frees-all n)

within-all : (n : ℕ) (e : ℕ → ℕ) → ((i : ℕ) → n ≤ i → e i ≡ 0) → IsWithin (all_free n) e
within-all zero e h i = h i (omega arith)
within-all (suc n) e h zero = tt
within-all (suc n) e h (suc i) = within-all n (λ j. e (suc j)) (λ j l. h (suc j) (omega arith)) i

-- ---- the principle

-- no monomial of the list divides x
abbrev pub IsNew : List Exponents → Exponents → Type 0
IsNew ts x = Each (λ (t : Exponents). NoMultiple t x) ts

-- P holds of a list as soon as it holds of each list with one new monomial of n variables more
abbrev pub IsDownward : ℕ → (List Exponents → Type 0) → Type 0
IsDownward n P = (ts : List Exponents) → ((t : Exponents) → IsInRing n t → IsNew ts t → P (t ∷ ts)) → P ts

-- then it holds of each list
pub dickson : (n : ℕ) (P : List Exponents → Type 0) → IsDownward n P → (ts : List Exponents) → P ts
dickson n P step ts = lists_induction (suc n) Q next (tallies n (all_free n ∷ [])) (length-tallies n (all_free n ∷ [])) (all_free n ∷ []) refl
    (omega (arith, frees-all n), tt) ts (λ t r h. inl (within-all n (entry t) r))
  where
    Q : List ℕ → Type 0
    Q x = (cs : List Cell) → tallies n cs ≡ x → AreFewer (suc n) cs → (ts : List Exponents) →
        ((t : Exponents) → IsInRing n t → IsNew ts t → IsCovered cs t) → P ts

    next : IsInductive (suc n) Q
    next x e r cs q f ts covers = step ts (λ t i h. at t h (replaced (suc n) cs t f (covers t i h)))
      where
        at : (t : Exponents) → IsNew ts t → Replaced (suc n) cs t → P (t ∷ ts)
        at t h p = r (tallies n p.cells) (length-tallies n p.cells)
            (subst (λ (y : List ℕ). IsSmaller (tallies n p.cells) y) q (smaller-tallies n p.level p.cells cs (omega (arith, p.small)) p.above p.fewer))
            p.cells refl p.fit (t ∷ ts) (λ u i k. p.covers u (covers u i k.1) k.0)
