-- Tails of lifts: which stay as they are, and that the others are reduced by all of them.
-- To cite: copied_to-more, undivided-start, undivided-end, ArePassed, passed_at, passed_more, stays_at, copies_more, copies-length, copied_at,
-- undivided_along, stay_reduced.
use Rattle.std.proofs.Common.{◌≡◌, ◌⊎◌, ℕ, zero, suc, ◌+◌, ◌<◌, ◌≤◌, Bool, true, false, List, [], ◌∷◌, ◌++◌, length, take, get_or, Contains, arith, refl, sym}
use Rattle.std.proofs.Common.{ap, ◌∙◌, subst, inl, inr, eqb}
use Rattle.std.proofs.lemmas.Bool.{cases_eq, cases_lt, ne_eqb, false≢true}
use Rattle.std.proofs.lemmas.List.{take_more, take_all, get_or_default}
use Rattle.gf_exponents_theory.specs.Exponents.{Exponents, same, plus, Divides}
use Rattle.gf_exponents_theory.proofs.ExponentsLaws.{same_of, same_along, same_trans}
use Rattle.gf_poly.specs.declared.Term.{Term}
use Rattle.gf_poly.specs.Polynomial.{Terms}
use Rattle.gf_poly.specs.Marking.{MarkedPolynomial, Each, head_of, HasMarkedTerm}
use Rattle.gf_ideal_theory.specs.Settled.{IsAt}
use Rattle.gf_ideal_theory.specs.Bases.{HasReducedTails}
use Rattle.gf_ideal_theory.proofs.ListLaws.{Each-++}
use Rattle.gf_ideal_theory.proofs.ListedTerms.{listed}
use Rattle.gf_division.specs.Autoreduction.{IsKeptForm}
use Rattle.gf_division.proofs.ReducerLaws.{members_equal}
use Rattle.gf_division.proofs.StepLaws.{head_length}
use Rattle.gf_division.proofs.TailLaws.{head_at}
use Rattle.gf_initial_theory.proofs.MatchingLaws.{matched-push}
use Rattle.gf_lifts.specs.LiftTails.{IsCopy, AreCopies, AreCopiedTo, AreSparedBeside, AreUndivided, HasUndividedTail, HasUndividedTailAt}
use Rattle.gf_strands.specs.Members.{HasReducedTail}

-- ---- where the lifts are that aren't copied

pub copied_to-more : (flags : List Bool) (j : ℕ) → get_or flags j false ≡ true → AreCopiedTo flags j → AreCopiedTo flags (j + 1)
copied_to-more flags j e h k l = at (cases_lt k j)
  where
    at : (k < j) ⊎ (j ≤ k) → get_or flags k false ≡ true
    at (inl m) = h k m
    at (inr m) = subst (λ (z : ℕ). get_or flags z false ≡ true) (omega (arith, l, m)) e

-- before the first index of those that are tried nothing divides that is tried
pub undivided-start : (ls : List MarkedPolynomial) (flags : List Bool) (copied : Bool) (x : Exponents) (first end : ℕ) →
    AreSparedBeside flags copied first end → AreUndivided ls flags copied x first
undivided-start ls flags copied x first end s = record { none = λ j b l a n d. n (s.front j l).0 (s.front j l).1 }

-- nor from the end on
pub undivided-end : (ls : List MarkedPolynomial) (flags : List Bool) (copied : Bool) (x : Exponents) (first end i : ℕ) → length flags ≡ length ls →
    AreSparedBeside flags copied first end → end ≤ i → AreUndivided ls flags copied x i → AreUndivided ls flags copied x (length ls)
undivided-end ls flags copied x first end i e s l u = record { none = λ j b m a n d. at j b m a n d (cases_lt j i) }
  where
    at : (j : ℕ) (b : MarkedPolynomial) → j < length ls → IsAt ls j b → (copied ≡ true → get_or flags j false ≡ true → ⊥) → Divides b.head x →
        (j < i) ⊎ (i ≤ j) → ⊥
    at j b m a n d (inl r) = u.none j b r a n d
    at j b m a n d (inr r) = let w = s.back j (omega (arith, l, r)) (omega (arith, m, e)) in n w.0 w.1

-- ---- the terms of a lift

-- the term is at the mark, or no mark that is tried divides it
abbrev pub IsPassed : List MarkedPolynomial → List Bool → Bool → Exponents → Term → Type 0
IsPassed ls flags copied x t = (same t.mono x ≡ true) ⊎ AreUndivided ls flags copied t.mono (length ls)

-- so are the terms before the index k
abbrev pub ArePassed : List MarkedPolynomial → List Bool → Bool → Exponents → ℕ → Terms → Type 0
ArePassed ls flags copied x k f = Each (IsPassed ls flags copied x) (take k f)

pub passed_at : (ls : List MarkedPolynomial) (flags : List Bool) (copied : Bool) (b : MarkedPolynomial) (k m : ℕ) (f : Terms) (t : Term) → f ≡ b.poly →
    k < length f → t ≡ get_or f k t → head_of b.poly m ≡ b.head → (eqb k m ≡ false → AreUndivided ls flags copied t.mono (length ls)) →
    IsPassed ls flags copied b.head t
passed_at ls flags copied b k m f t q l e h n = at (cases_eq k m)
  where
    at : (k ≡ m) ⊎ (k ≡ m → ⊥) → IsPassed ls flags copied b.head t
    at (inl p) = inl (same_of t.mono b.head (sym (head_at f k t l e) ∙ ap (λ (z : Terms). head_of z k) q ∙ ap (head_of b.poly) p ∙ h))
    at (inr p) = inr (n (ne_eqb k m p))

pub passed_more : (ls : List MarkedPolynomial) (flags : List Bool) (copied : Bool) (x : Exponents) (k : ℕ) (f : Terms) (t : Term) → k < length f →
    t ≡ get_or f k t → IsPassed ls flags copied x t → ArePassed ls flags copied x k f → ArePassed ls flags copied x (k + 1) f
passed_more ls flags copied x k f t l e p h =
    subst (Each (IsPassed ls flags copied x)) (sym (take_more f k t l ∙ ap (λ (z : Term). take k f ++ z ∷ []) (sym e)))
    (Each-++ (IsPassed ls flags copied x) (take k f) (t ∷ []) h (p, tt))

-- all of them are
pub stays_at : (ls : List MarkedPolynomial) (flags : List Bool) (i : ℕ) (b : MarkedPolynomial) (k : ℕ) (f : Terms) → IsAt ls i b → HasMarkedTerm b →
    f ≡ b.poly → length f ≤ k → ArePassed ls flags (get_or flags i false) b.head k f → HasUndividedTailAt ls flags i
stays_at ls flags i b k f a m q n h = record {
  tail = λ c p. subst (HasUndividedTail ls flags (get_or flags i false)) (members_equal ls i b c a p) all;
  kept = λ c p. subst (λ (z : MarkedPolynomial). IsKeptForm z z) (members_equal ls i b c a p)
      (record { at = λ w v. record { variables = v; descending = m.descending; head = head_length w b v m } });
}
  where
    all : Each (IsPassed ls flags (get_or flags i false) b.head) b.poly
    all = subst (Each (IsPassed ls flags (get_or flags i false) b.head)) (take_all k f n ∙ q) h

-- ---- copies

pub copies_more : (bs ls new : List MarkedPolynomial) (flags more : List Bool) (l : MarkedPolynomial) (f : Bool) → IsCopy bs l f → new ≡ ls ++ l ∷ [] →
    more ≡ flags ++ f ∷ [] → AreCopies bs ls flags → AreCopies bs new more
copies_more bs ls new flags more l f k e q h = subst (λ (z : List MarkedPolynomial). AreCopies bs z more) (sym e)
    (subst (AreCopies bs (ls ++ l ∷ [])) (sym q) (matched-push (IsCopy bs) ls flags l f h k))

pub copies-length : (bs ls : List MarkedPolynomial) (flags : List Bool) → AreCopies bs ls flags → length flags ≡ length ls
copies-length bs [] [] h = refl
copies-length bs [] (f ∷ flags) h = elim h [ ]
copies-length bs (l ∷ ls) [] h = elim h [ ]
copies-length bs (l ∷ ls) (f ∷ flags) h = ap suc (copies-length bs ls flags h.1)

pub copied_at : (bs ls : List MarkedPolynomial) (flags : List Bool) (j : ℕ) (d : MarkedPolynomial) → AreCopies bs ls flags → IsAt ls j d →
    get_or flags j false ≡ true → Contains bs d
copied_at bs [] flags j d h a e = absurd (omega (arith, a.within))
copied_at bs (l ∷ ls) [] j d h a e = elim h [ ]
copied_at bs (l ∷ ls) (f ∷ flags) zero d h a e = subst (Contains bs) a.is (subst (IsCopy bs l) e h.0)
copied_at bs (l ∷ ls) (f ∷ flags) (suc j) d h a e = copied_at bs ls flags j d h.1 (record { within = omega (arith, a.within); is = a.is }) e

-- ---- lifts that stay

-- what no mark of one list divides, no mark of another with the same marks does
pub undivided_along : (ms ls : List MarkedPolynomial) (flags : List Bool) (copied : Bool) (x : Exponents) → length ms ≡ length ls →
    ((j : ℕ) (b c : MarkedPolynomial) → IsAt ls j b → IsAt ms j c → c.head ≡ b.head) → AreUndivided ms flags copied x (length ms) →
    AreUndivided ls flags copied x (length ls)
undivided_along ms ls flags copied x e h u = record {
  none = λ j b l a n d.
      let k : j < length ms = omega (arith, l, e) in
      let c : MarkedPolynomial = get_or ms j b in
      let p : IsAt ms j c = record { within = k; is = get_or_default ms j c b k } in
      u.none j c k p n (subst (λ (z : Exponents). Divides z x) (sym (h j b c a p)) d);
}

-- so a copied one, of whose marks those of copied ones aren't tried, has a reduced tail
pub stay_reduced : (bs ls : List MarkedPolynomial) (flags : List Bool) (i : ℕ) (b : MarkedPolynomial) → HasReducedTails bs → AreCopies bs ls flags →
    HasUndividedTail ls flags (get_or flags i false) b → IsAt ls i b → HasReducedTail ls b
stay_reduced bs ls flags i b r h u a x m d = at (listed (IsPassed ls flags (get_or flags i false) b.head) b.poly x u m)
  where
    index : IsAt ls d.contained.0 d.member
    index = record { within = d.contained.1; is = d.contained.2 }

    at : (t : Term) × IsPassed ls flags (get_or flags i false) b.head t × (same x t.mono ≡ true) → same x b.head ≡ true
    at t = by t.1
      where
        over : Divides d.member.head t.0.mono
        over = record { rest = d.rest; product = sym (same_along x t.0.mono (plus d.rest d.member.head) t.2) ∙ d.divides }

        both : AreUndivided ls flags (get_or flags i false) t.0.mono (length ls) → (p : Bool) → get_or flags i false ≡ p → (q : Bool) →
            get_or flags d.contained.0 false ≡ q → same x b.head ≡ true
        both n true e true f = r b (copied_at bs ls flags i b h a e) x m
            (record { member = d.member; contained = copied_at bs ls flags d.contained.0 d.member h index f; rest = d.rest; divides = d.divides })
        both n true e false f = absurd (n.none d.contained.0 d.member d.contained.1 index (λ s t. absurd (false≢true (sym f ∙ t))) over)
        both n false e q f = absurd (n.none d.contained.0 d.member d.contained.1 index (λ s t. absurd (false≢true (sym e ∙ s))) over)

        by : IsPassed ls flags (get_or flags i false) b.head t.0 → same x b.head ≡ true
        by (inl e) = same_trans x t.0.mono b.head t.2 e
        by (inr n) = both n (get_or flags i false) refl (get_or flags d.contained.0 false) refl
