-- Each polynomial has a normal form by the rule, and whatever steps by first divisors lead to is it, once no mark divides a
-- monomial. Exponents may grow on the way, since entries of the weight may be 0: but each step makes its monomial lighter, so that
-- none passes a limit, and within it `work_left` counts the steps.
-- To cite: first_divisor, normal_form-exists, normal_form-of_first.
use Rattle.std.specs.Prelude.{◌≡◌, ◌⊎◌, ℕ, zero, suc, ◌+◌, ◌*◌, ◌<◌, ◌≤◌, Bool, true, false, if◌then◌else◌, List, [], ◌∷◌, ◌++◌, length, Contains, max}
use Rattle.std.proofs.Common.{arith, refl, sym, ap, ◌∙◌, subst, inl, inr}
use Rattle.std.proofs.Math.Nat.{mul-le-mul_right, suc-mul}
use Rattle.gf_frac.specs.Fraction.{◌+ℚ◌, neg_ℚ, zero_ℚ}
use Rattle.gf_frac.proofs.FractionLaws.{zero-+ℚ}
use Rattle.gf_exponents_theory.specs.Exponents.{Exponents, entry, same, plus, weight, degree, IsInRing, NoMultiple}
use Rattle.gf_exponents_theory.specs.Orders.{lighter, IsDeglexBelow}
use Rattle.gf_exponents_theory.proofs.ExponentsLaws.{plus_comm, same_flip, same_shift, entries_same, entry-plus, entry-past, multiple_or_not}
use Rattle.gf_exponents_theory.proofs.OrderLaws.{deglex-order}
use Rattle.gf_exponents_theory.proofs.WeightLaws.{weight-plus, weight-same}
use Rattle.gf_poly.specs.declared.Term.{Term}
use Rattle.gf_poly.specs.Polynomial.{Terms, coefficient, SamePolynomial, times}
use Rattle.gf_poly.specs.Marking.{MarkedPolynomial, Each}
use Rattle.gf_ideal_theory.specs.Membership.{HasMonomial}
use Rattle.gf_ideal_theory.specs.Marks.{AreMarked}
use Rattle.gf_ideal_theory.specs.Measure.{IsInBox, work_left}
use Rattle.gf_ideal_theory.specs.Reduction.{IsDivisible, IsIrreducible, IsStep}
use Rattle.gf_ideal_theory.specs.Bases.{IsGreatest}
use Rattle.gf_ideal_theory.specs.NormalForms.{IsRuleStep, IsRuleReached, IsNormalForm}
use Rattle.gf_ideal_theory.specs.Settled.{IsAt}
use Rattle.gf_ideal_theory.proofs.ListLaws.{Contains-cases, Each-weaker, collect, contained_each}
use Rattle.gf_ideal_theory.proofs.ListedTerms.{listed, by_terms}
use Rattle.gf_ideal_theory.proofs.RingLaws.{ring-along, ring-left, ring-plus, entry-degree}
use Rattle.gf_ideal_theory.proofs.LeadingLaws.{top_greatest}
use Rattle.gf_ideal_theory.proofs.DivisionLaws.{NoMark, divisible_or_not, undivided}
use Rattle.gf_ideal_theory.proofs.MeasureLaws.{work_left-at}
use Rattle.gf_ideal_theory.proofs.StepLaws.{IsClosed, IsWithin, taken, reached-one}
use Rattle.gf_ideal_theory.proofs.NormalFormLaws.{step-of_rule, no_divisor}
use Rattle.gf_division.specs.Reducers.{IsFirstFor}
use Rattle.gf_division.proofs.RuleLaws.{divisible_along}
use Rattle.gf_division.proofs.FirstStepLaws.{IsFirstReached, first_of_rule, first_unique}

-- ---- the first member whose mark divides

pub record FirstDivisor (bs : List MarkedPolynomial) (x : Exponents) : Type 0 where
  pub member : MarkedPolynomial
  pub first : IsFirstFor bs x member
  pub rest : Exponents
  pub divides : same x (plus rest member.head) ≡ true

pub first_divisor : (bs : List MarkedPolynomial) (x : Exponents) → IsDivisible (Contains bs) x → FirstDivisor bs x
first_divisor [] x d = absurd (omega (arith, d.contained.1))
first_divisor (b ∷ bs) x d = at (multiple_or_not b.head x) (first_divisor bs x)
  where
    before : NoMultiple b.head x → (f : FirstDivisor bs x) (i : ℕ) (c : MarkedPolynomial) → i < suc f.first.index →
        IsAt (b ∷ bs) i c → NoMultiple c.head x
    before n f zero c l a = subst (λ (z : MarkedPolynomial). NoMultiple z.head x) a.is n
    before n f (suc i) c l a = f.first.before i c (omega arith) (record { within = omega (arith, a.within); is = a.is })

    at : ((y : Exponents) × (same x (plus b.head y) ≡ true)) ⊎ NoMultiple b.head x →
        (IsDivisible (Contains bs) x → FirstDivisor bs x) → FirstDivisor (b ∷ bs) x
    at (inl m) r = record {
      member = b;
      first = record { index = 0; at = record { within = omega arith; is = refl }; before = λ i c l a. absurd (omega arith) };
      rest = m.0;
      divides = ap (same x) (plus_comm m.0 b.head) ∙ m.1;
    }
    at (inr n) r = later (Contains-cases b d.member bs d.contained)
      where
        later : (b ≡ d.member) ⊎ Contains bs d.member → FirstDivisor (b ∷ bs) x
        later (inl e) = absurd (no_divisor x b.head d.rest n (subst (λ (c : MarkedPolynomial). same x (plus d.rest c.head) ≡ true) (sym e) d.divides))
        later (inr k) =
            let f = r (record { member = d.member; contained = k; rest = d.rest; divides = d.divides }) in
            record {
              member = f.member;
              first = record { index = suc f.first.index; at = record { within = omega (arith, f.first.at.within); is = f.first.at.is }; before = before n f };
              rest = f.rest;
              divides = f.divides;
            }

-- ---- the terms that a mark divides

abbrev kept_if : (bs : List MarkedPolynomial) (t : Term) → IsDivisible (Contains bs) t.mono ⊎ NoMark bs t.mono → Terms → Terms
kept_if bs t (inl d) f = t ∷ f
kept_if bs t (inr n) f = f

abbrev divisible_terms : List MarkedPolynomial → Terms → Terms
divisible_terms bs [] = []
divisible_terms bs (t ∷ f) = kept_if bs t (divisible_or_not bs t.mono) (divisible_terms bs f)

divisible_terms-each : (bs : List MarkedPolynomial) (f : Terms) → Each (λ (t : Term). IsDivisible (Contains bs) t.mono) (divisible_terms bs f)
divisible_terms-each bs [] = tt
divisible_terms-each bs (t ∷ f) = at (divisible_or_not bs t.mono) (divisible_terms-each bs f)
  where
    at : (o : IsDivisible (Contains bs) t.mono ⊎ NoMark bs t.mono) →
        Each (λ (t : Term). IsDivisible (Contains bs) t.mono) (divisible_terms bs f) →
        Each (λ (t : Term). IsDivisible (Contains bs) t.mono) (kept_if bs t o (divisible_terms bs f))
    at (inl d) r = (d, r)
    at (inr n) r = r

divisible_terms-divides : (bs : List MarkedPolynomial) (f : Terms) (x : Exponents) → HasMonomial (divisible_terms bs f) x → IsDivisible (Contains bs) x
divisible_terms-divides bs f x n =
    let r = listed (λ (t : Term). IsDivisible (Contains bs) t.mono) (divisible_terms bs f) x (divisible_terms-each bs f) n in
    divisible_along (Contains bs) r.0.mono x (same_flip x r.0.mono r.2) r.1

-- the coefficients at monomials that a mark divides
divisible_terms-at : (bs : List MarkedPolynomial) (f : Terms) (x : Exponents) → IsDivisible (Contains bs) x →
    coefficient (divisible_terms bs f) x ≡ coefficient f x
divisible_terms-at bs [] x d = refl
divisible_terms-at bs (t ∷ f) x d = at (divisible_or_not bs t.mono) ∙ ap (λ z. (if same x t.mono then t.coef else zero_ℚ) +ℚ z) (divisible_terms-at bs f x d)
  where
    at : (o : IsDivisible (Contains bs) t.mono ⊎ NoMark bs t.mono) →
        coefficient (kept_if bs t o (divisible_terms bs f)) x ≡ (if same x t.mono then t.coef else zero_ℚ) +ℚ coefficient (divisible_terms bs f) x
    at (inl k) = refl
    at (inr n) = here (same x t.mono) refl
      where
        here : (b : Bool) → same x t.mono ≡ b →
            coefficient (divisible_terms bs f) x ≡ (if b then t.coef else zero_ℚ) +ℚ coefficient (divisible_terms bs f) x
        here false s = sym (zero-+ℚ _)
        here true s = absurd (undivided bs t.mono n (divisible_along (Contains bs) x t.mono s d))

-- no mark divides a monomial, or the rule has a step
step_or_end : (bs : List MarkedPolynomial) (f : Terms) → IsIrreducible (Contains bs) f ⊎ ((g : Terms) × IsRuleStep bs f g)
step_or_end bs f = at ((top_greatest IsDeglexBelow deglex-order).some (divisible_terms bs f))
  where
    step : (x : Exponents) → IsGreatest IsDeglexBelow (divisible_terms bs f) x → IsDivisible (Contains bs) x → (g : Terms) × IsRuleStep bs f g
    step x g d =
        let k = first_divisor bs x d in (
          f ++ times (neg_ℚ (coefficient f x)) k.rest k.member.poly,
          record {
            at = x;
            index = k.first.index;
            member = k.member;
            rest = k.rest;
            contained = k.first.at;
            there = λ z. g.there (divisible_terms-at bs f x d ∙ z);
            divides = k.divides;
            first = k.first.before;
            greatest = λ y n e. g.greatest y (λ z. n (sym (divisible_terms-at bs f y e) ∙ z));
            equal = λ e. refl;
          },
        )

    at : SamePolynomial (divisible_terms bs f) [] ⊎ ((x : Exponents) × IsGreatest IsDeglexBelow (divisible_terms bs f) x) →
        IsIrreducible (Contains bs) f ⊎ ((g : Terms) × IsRuleStep bs f g)
    at (inl z) = inl (λ x n d. n (sym (divisible_terms-at bs f x d) ∙ z x))
    at (inr g) = inr (step g.0 g.1 (divisible_terms-divides bs f g.0 g.1.there))

-- ---- a number that bounds exponents and variables

record IsSmallBy (k : ℕ) (x : Exponents) : Type 0 where
  entries : (i : ℕ) → entry x i ≤ k
  ring : IsInRing k x

small-more : (x : Exponents) (k l : ℕ) → k ≤ l → IsSmallBy k x → IsSmallBy l x
small-more x k l h b = record { entries = λ i. omega (arith, h, b.entries i); ring = λ i m. b.ring i (omega arith) }

small-along : (k : ℕ) (x y : Exponents) → same x y ≡ true → IsSmallBy k x → IsSmallBy k y
small-along k x y s b = record { entries = λ i. omega (arith, entries_same x y s i, b.entries i); ring = ring-along k x y s b.ring }

-- so is each monomial of a polynomial
abbrev AreSmallBy : ℕ → Terms → Type 0
AreSmallBy k f = (x : Exponents) → HasMonomial f x → IsSmallBy k x

bound_of : (f : Terms) → (k : ℕ) × AreSmallBy k f
bound_of f = at (collect (λ (t : Term) (k : ℕ). IsSmallBy k t.mono) (λ (t : Term). small-more t.mono) f (each f))
  where
    each : (f : Terms) → Each (λ (t : Term). (k : ℕ) × IsSmallBy k t.mono) f
    each [] = tt
    each (t ∷ f) = (
      (
        degree t.mono + length t.mono,
        record {
          entries = λ i. omega (arith, entry-degree t.mono i);
          ring = λ i m. entry-past t.mono i (omega arith);
        },
      ),
      each f,
    )

    at : ((k : ℕ) × Each (λ (t : Term). IsSmallBy k t.mono) f) → (k : ℕ) × AreSmallBy k f
    at r = (r.0, by_terms (IsSmallBy r.0) f (small-along r.0) r.1)

are_small-more : (f : Terms) (k l : ℕ) → k ≤ l → AreSmallBy k f → AreSmallBy l f
are_small-more f k l h b x n = small-more x k l h (b x n)

bound_of_members : (bs : List MarkedPolynomial) → (k : ℕ) × Each (λ (b : MarkedPolynomial). AreSmallBy k b.poly) bs
bound_of_members bs = collect (λ (b : MarkedPolynomial) (k : ℕ). AreSmallBy k b.poly) (λ (b : MarkedPolynomial). are_small-more b.poly) bs (each bs)
  where
    each : (bs : List MarkedPolynomial) → Each (λ (b : MarkedPolynomial). (k : ℕ) × AreSmallBy k b.poly) bs
    each [] = tt
    each (b ∷ bs) = (bound_of b.poly, each bs)

-- ---- a limit that steps don't pass

-- in k variables, and an exponent that grows by k for each unit of weight stays up to the limit
record IsLimited (limit k : ℕ) (w : List ℕ) (x : Exponents) : Type 0 where
  ring : IsInRing k x
  entries : (i : ℕ) → entry x i + weight w x * k ≤ limit

limited-along : (limit k : ℕ) (w : List ℕ) (x y : Exponents) → same x y ≡ true → IsLimited limit k w x → IsLimited limit k w y
limited-along limit k w x y s h = record {
  ring = ring-along k x y s h.ring;
  entries = λ i. subst (λ (v : ℕ). entry y i + v * k ≤ limit) (weight-same w x y s) (subst (λ (v : ℕ). v + weight w x * k ≤ limit) (entries_same x y s i)
      (h.entries i));
}

-- a lighter monomial whose exponents are greater by k at most
lower_by : (a b v u k limit : ℕ) → b ≤ a + k → v < u → a + u * k ≤ limit → b + v * k ≤ limit
lower_by a b v u k limit p q h = let t : suc v ≤ u = omega arith in let s : suc v * k ≤ u * k = mul-le-mul_right k t in omega (arith, s, suc-mul v k)

limited-closed : (limit k : ℕ) (w : List ℕ) (bs : List MarkedPolynomial) → AreMarked (lighter w) bs →
    Each (λ (b : MarkedPolynomial). AreSmallBy k b.poly) bs → IsClosed (Contains bs) (IsLimited limit k w)
limited-closed limit k w bs m h = record { along = limited-along limit k w; lower = λ b c u t n p. at b c u t n p ((m b c).tail t n) }
  where
    at : (b : MarkedPolynomial) → Contains bs b → (u t : Exponents) → HasMonomial b.poly t →
        IsLimited limit k w (plus u b.head) → (same t b.head ≡ true) ⊎ lighter w t b.head → IsLimited limit k w (plus u t)
    at b c u t n p (inl s) = limited-along limit k w (plus u b.head) (plus u t) (same_flip (plus u t) (plus u b.head) (same_shift u t b.head s)) p
    at b c u t n p (inr l) =
        let q : IsSmallBy k t = contained_each (λ (b : MarkedPolynomial). AreSmallBy k b.poly) bs h b c t n in
        record {
          ring = ring-plus k u t (ring-left k u b.head p.ring) q.ring;
          entries = λ i. lower_by (entry (plus u b.head) i) (entry (plus u t) i) (weight w (plus u t)) (weight w (plus u b.head)) k limit
              (omega (arith, entry-plus u t i, entry-plus u b.head i, q.entries i))
              (omega (arith, weight-plus w u t, weight-plus w u b.head, l))
              (p.entries i);
        }

-- the monomials of f are up to some limit
limit_of : (k : ℕ) (w : List ℕ) (f : Terms) → AreSmallBy k f → (limit : ℕ) × IsWithin (IsLimited limit k w) f
limit_of k w f b = at (collect (λ (t : Term) (l : ℕ). (i : ℕ) → entry t.mono i + weight w t.mono * k ≤ l) (λ (t : Term) (l m : ℕ) h p i. omega (arith, h, p i))
    f (each f))
  where
    each : (f : Terms) → Each (λ (t : Term). (l : ℕ) × ((i : ℕ) → entry t.mono i + weight w t.mono * k ≤ l)) f
    each [] = tt
    each (t ∷ f) = ((degree t.mono + weight w t.mono * k, λ i. omega (arith, entry-degree t.mono i)), each f)

    at : ((l : ℕ) × Each (λ (t : Term). (i : ℕ) → entry t.mono i + weight w t.mono * k ≤ l) f) → (limit : ℕ) × IsWithin (IsLimited limit k w) f
    at r = (r.0, λ x n. record { ring = (b x n).ring; entries = by_terms (λ (x : Exponents). (i : ℕ) → entry x i + weight w x * k ≤ r.0) f along r.1 x n })
      where
        along : (x y : Exponents) → same x y ≡ true → ((i : ℕ) → entry x i + weight w x * k ≤ r.0) → (i : ℕ) → entry y i + weight w y * k ≤ r.0
        along x y s h i = subst (λ (v : ℕ). entry y i + v * k ≤ r.0) (weight-same w x y s) (subst (λ (v : ℕ). v + weight w x * k ≤ r.0) (entries_same x y s i)
            (h i))

in_box : (limit k : ℕ) (w : List ℕ) (x : Exponents) → IsLimited limit k w x → IsInBox (suc limit) k x
in_box limit k w x h = record { below = λ i. omega (arith, h.entries i); beyond = h.ring }

-- ---- the normal form

-- smaller steps by step
smaller : (a b n : ℕ) → a < b → b < suc n → a < n
smaller a b n h k = omega arith

below_next : (a : ℕ) → a < suc a
below_next a = omega arith

ends : (bs : List MarkedPolynomial) (w : List ℕ) (limit k : ℕ) (f : Terms) → AreMarked (lighter w) bs →
    IsClosed (Contains bs) (IsLimited limit k w) → (n : ℕ) (g : Terms) → work_left (suc limit) k bs g < n →
    IsWithin (IsLimited limit k w) g → IsRuleReached bs f g → (r : Terms) × IsNormalForm bs f r
ends bs w limit k f m c zero g l i r = absurd (omega arith)
ends bs w limit k f m c (suc n) g l i r = at (step_or_end bs g) (ends bs w limit k f m c n)
  where
    at : IsIrreducible (Contains bs) g ⊎ ((h : Terms) × IsRuleStep bs g h) →
        ((h : Terms) → work_left (suc limit) k bs h < n → IsWithin (IsLimited limit k w) h → IsRuleReached bs f h → (r : Terms) × IsNormalForm bs f r) →
        (r : Terms) × IsNormalForm bs f r
    at (inl d) rec = (g, record { reached = r; irreducible = d })
    at (inr s) rec =
        let q : IsStep (Contains bs) g s.0 = step-of_rule bs g s.0 s.1 in
        let less : work_left (suc limit) k bs s.0 < work_left (suc limit) k bs g =
        work_left-at (suc limit) k w bs g s.0 m q (in_box limit k w q.at (i q.at q.there)) in
        rec s.0 (smaller (work_left (suc limit) k bs s.0) (work_left (suc limit) k bs g) n less l) (taken (Contains bs) (IsLimited limit k w) g s.0 c i
        (reached-one (Contains bs) g s.0 q)).within (IsRuleReached.next g s.0 r s.1)

-- each polynomial has one
pub normal_form-exists : (bs : List MarkedPolynomial) (w : List ℕ) (f : Terms) → AreMarked (lighter w) bs → (r : Terms) × IsNormalForm bs f r
normal_form-exists bs w f m = at (bound_of f) (bound_of_members bs)
  where
    at : ((k : ℕ) × AreSmallBy k f) → ((k : ℕ) × Each (λ (b : MarkedPolynomial). AreSmallBy k b.poly) bs) → (r : Terms) × IsNormalForm bs f r
    at a b = onto (limit_of k w f (are_small-more f a.0 k (omega arith) a.1))
      where
        k : ℕ
        k = max a.0 b.0

        members : Each (λ (b : MarkedPolynomial). AreSmallBy k b.poly) bs
        members = Each-weaker (λ (c : MarkedPolynomial). AreSmallBy b.0 c.poly) (λ (c : MarkedPolynomial). AreSmallBy k c.poly)
            (λ c. are_small-more c.poly b.0 k (omega arith)) bs b.1

        onto : ((limit : ℕ) × IsWithin (IsLimited limit k w) f) → (r : Terms) × IsNormalForm bs f r
        onto l = ends bs w l.0 k f m (limited-closed l.0 k w bs m members) (suc (work_left (suc l.0) k bs f)) f (below_next (work_left (suc l.0) k bs f)) l.1
            (IsRuleReached.here f (λ x. refl))

-- an equal polynomial is reached as well
reached-equal : (bs : List MarkedPolynomial) (f g h : Terms) → SamePolynomial g h → IsRuleReached bs f g → IsRuleReached bs f h
reached-equal bs f g h e (IsRuleReached.here k d) = IsRuleReached.here h (λ x. d x ∙ e x)
reached-equal bs f g h e (IsRuleReached.next k l r s) = IsRuleReached.next k h r (record {
  at = s.at;
  index = s.index;
  member = s.member;
  rest = s.rest;
  contained = s.contained;
  there = s.there;
  divides = s.divides;
  first = s.first;
  greatest = s.greatest;
  equal = λ x. sym (e x) ∙ s.equal x;
})

-- what steps by first divisors lead to, at whichever monomials, is the normal form where no mark divides a monomial of it
pub normal_form-of_first : (bs : List MarkedPolynomial) (w : List ℕ) (f r : Terms) → AreMarked (lighter w) bs →
    IsFirstReached bs f r → IsIrreducible (Contains bs) r → IsNormalForm bs f r
normal_form-of_first bs w f r m p i = at (normal_form-exists bs w f m)
  where
    at : ((t : Terms) × IsNormalForm bs f t) → IsNormalForm bs f r
    at n = record {
      reached = reached-equal bs f n.0 r (first_unique bs w f n.0 r m (first_of_rule bs f n.0 n.1.reached) p n.1.irreducible i) n.1.reached;
      irreducible = i;
    }
