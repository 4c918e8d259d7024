-- One tail, reduced: the steps at unmarked monomials, and what they end with.
-- To cite: AreElsewhere, elsewhere_none, elsewhere_end, head_at_index, tail_reached, TailStart, tail_start, tail_refused,
-- irreducible_beside, TailFacts, tail_facts, tail_variables, tail_there, reduced_tail_at, tail_reached_at, kept_form_at.
use Rattle.std.specs.Prelude.{◌≡◌, ℕ, zero, suc, ◌<◌, ◌≤◌, Bool, true, false, List, [], ◌∷◌, length, Contains, Some, take}
use Rattle.std.specs.declared.option.Option.{Option}
use Rattle.std.specs.Ordering.{MatchOrdering}
use Rattle.std.specs.declared.cmp.Ordering.{Ordering}
use Rattle.std.specs.declared.cmp.Ordering.TheVariants.{Less, Equal, Greater}
use Rattle.std.proofs.Common.{arith, refl, sym, ap, ◌∙◌, subst, get_or}
use Rattle.std.proofs.lemmas.List.{take_all}
use Rattle.gf_exponents_theory.specs.Exponents.{Exponents, same}
use Rattle.gf_exponents_theory.specs.Orders.{deglex, lighter, IsDeglexBelow}
use Rattle.gf_exponents_theory.proofs.ExponentsLaws.{same-refl, same_flip, same_along}
use Rattle.gf_exponents_theory.proofs.OrderLaws.{deglex-compares, deglex-order, lighter-strict}
use Rattle.gf_poly.specs.declared.Term.{Term}
use Rattle.gf_poly.specs.declared.error.PolyError.{PolyError}
use Rattle.gf_poly.specs.declared.error.PolyError.TheVariants as errors
use Rattle.gf_poly.specs.Polynomial.{Terms, IsDescending, HasVariables, KeepsVariables}
use Rattle.gf_poly.specs.Marking.{MarkedPolynomial, Each, head_of, HasMarkedTerm}
use Rattle.gf_poly.proofs.DescendingLaws.{equal_same}
use Rattle.gf_ideal_theory.specs.Membership.{HasMonomial}
use Rattle.gf_ideal_theory.specs.Reduction.{IsDivisible}
use Rattle.gf_ideal_theory.specs.WorkLists.{IsTail, IsReducedTail}
use Rattle.gf_ideal_theory.proofs.ListedTerms.{listed}
use Rattle.gf_ideal_theory.proofs.MarkWeights.{mark-there}
use Rattle.gf_ideal_theory.proofs.InterreductionLaws.{tail-marked}
use Rattle.gf_division.specs.NormalForms.{HasSomeWeight}
use Rattle.gf_division.specs.Dividends.{Split, joined_terms}
use Rattle.gf_division.specs.Reducers.{IsBeside, IsSpareIn, AreIrreducible, ShareVariables}
use Rattle.gf_division.specs.Remainders.{ReachedBeside, HasTailReached, IsWorkedOn, IsWorkRefusal}
use Rattle.gf_division.specs.Autoreduction.{IsTailRefusal, ShareSomeVariables, IsKeptForm}
use Rattle.gf_division.proofs.StepLaws.{head_length}
use Rattle.gf_division.proofs.ReducerLaws.{member_variables}
use Rattle.gf_division.proofs.RuleLaws.{operation_more, exponents_more, only, divisible_along}

-- ---- the index of a monomial

-- none of the terms before the index i is at x
abbrev pub AreElsewhere : Exponents → ℕ → Terms → Type 0
AreElsewhere x i f = Each (λ (t : Term). deglex t.mono x ≡ Equal → ⊥) (take i f)

-- the same monomials of one length compare as equal
compares_equal : (x y : Exponents) → length x ≡ length y → same x y ≡ true → deglex x y ≡ Equal
compares_equal x y l s = at (deglex x y) (deglex-compares x y l)
  where
    never : IsDeglexBelow x y → ⊥
    never b = deglex-order.strict.irreflexive x x (same-refl x) (deglex-order.strict.along_right x y x (same_flip x y s) b)

    at : (o : Ordering) → MatchOrdering o (IsDeglexBelow x y) (x ≡ y) (IsDeglexBelow y x) → o ≡ Equal
    at Less h = absurd (never h)
    at Equal h = refl
    at Greater h = absurd (deglex-order.strict.irreflexive y y (same-refl y) (deglex-order.strict.along_right y x y s h))

with_lengths : (x : Exponents) (f : Terms) → HasVariables (length x) f → Each (λ (t : Term). deglex t.mono x ≡ Equal → ⊥) f →
    Each (λ (t : Term). (deglex t.mono x ≡ Equal → ⊥) × (length t.mono ≡ length x)) f
with_lengths x [] v h = tt
with_lengths x (t ∷ f) v h = ((h.0, v.0), with_lengths x f v.1 h.1)

pub elsewhere_end : (x : Exponents) (i : ℕ) (f : Terms) → HasVariables (length x) f → HasMonomial f x → length f ≤ i → AreElsewhere x i f → ⊥
elsewhere_end x i f v m l h = at (listed (λ (t : Term). (deglex t.mono x ≡ Equal → ⊥) × (length t.mono ≡ length x)) f x
    (with_lengths x f v (subst (Each (λ (t : Term). deglex t.mono x ≡ Equal → ⊥)) (take_all i f l) h)) m)
  where
    at : (t : Term) × ((deglex t.mono x ≡ Equal → ⊥) × (length t.mono ≡ length x)) × (same x t.mono ≡ true) → ⊥
    at r = r.1.0 (compares_equal r.0.mono x r.1.1 (same_flip x r.0.mono r.2))

pub head_at : (f : Terms) (i : ℕ) (t : Term) → i < length f → t ≡ get_or f i t → head_of f i ≡ t.mono
head_at [] i t l e = absurd (omega arith)
head_at (s ∷ f) zero t l e = ap (λ (u : Term). u.mono) (sym e)
head_at (s ∷ f) (suc i) t l e = head_at f i t (omega arith) e

pub head_at_index : (x : Exponents) (f : Terms) (i : ℕ) (t : Term) → i < length f → t ≡ get_or f i t → deglex t.mono x ≡ Equal → head_of f i ≡ x
head_at_index x f i t l e q = head_at f i t l e ∙ equal_same t.mono x q

-- ---- the steps

-- a polynomial that steps at other monomials than the mark of b lead to from b
pub tail_reached : (ks : List MarkedPolynomial) (b : MarkedPolynomial) (g : Terms) → Contains ks b → ReachedBeside ks (Some b.head) b.poly g →
    IsTail ks (record { poly = g; head = b.head })
tail_reached ks b _ c ReachedBeside.here = IsTail.member b c
tail_reached ks b _ c (ReachedBeside.next g h r s n d) = IsTail.step (record { poly = g; head = b.head }) (record { poly = h; head = b.head })
    (tail_reached ks b g c r) (same-refl b.head) s n

-- where the tail of b is reduced
pub record TailStart (ks : List MarkedPolynomial) (b : MarkedPolynomial) (spared : Option Exponents) (s : Split) : Type 0 where
  pub spare : spared ≡ Some b.head
  pub contained : Contains ks b
  pub same : joined_terms s ≡ b.poly
  pub variables : ShareVariables s ks spared
  pub above : AreIrreducible ks spared s.above

pub tail_start : (ks : List MarkedPolynomial) (b : MarkedPolynomial) (spared : Option Exponents) (f : Terms) (s : Split) → spared ≡ Some b.head → f ≡ b.poly →
    IsDescending f → ShareSomeVariables ks → Contains ks b → HasMarkedTerm b → s ≡ record { above = []; below = f } → TailStart ks b spared s
tail_start ks b spared f s es ef d v c m e =
    subst (TailStart ks b spared) (sym e) (subst (λ (z : Option Exponents). TailStart ks b z (record { above = []; below = f })) (sym es) (record {
      spare = refl;
      contained = c;
      same = ef;
      variables = record {
        n = v.n;
        sound = record { descending = d; variables = subst (HasVariables v.n) (sym ef) w };
        members = v.each;
        spare = head_length v.n b w m;
      };
      above = tt;
    }))
  where
    w : HasVariables v.n b.poly
    w = member_variables v.n ks b v.each c

from_tail : (ks : List MarkedPolynomial) (b : MarkedPolynomial) (spared : Option Exponents) (s : Split) (g : Terms) → TailStart ks b spared s →
    ReachedBeside ks spared (joined_terms s) g → ReachedBeside ks (Some b.head) b.poly g
from_tail ks b spared s g t r = subst (λ (f : Terms). ReachedBeside ks (Some b.head) f g) t.same
    (subst (λ (z : Option Exponents). ReachedBeside ks z (joined_terms s) g) t.spare r)

tail_from : (ks : List MarkedPolynomial) (b : MarkedPolynomial) (spared : Option Exponents) (s : Split) (g : Terms) → TailStart ks b spared s →
    ReachedBeside ks spared (joined_terms s) g → IsTail ks (record { poly = g; head = b.head })
tail_from ks b spared s g t r = tail_reached ks b g t.contained (from_tail ks b spared s g t r)

-- a refusal of a step
pub tail_refused : (ks : List MarkedPolynomial) (b : MarkedPolynomial) (spared : Option Exponents) (s : Split) (e : PolyError) → TailStart ks b spared s →
    IsWorkRefusal ks spared (joined_terms s) e → IsTailRefusal ks e
tail_refused ks b spared s e t r = at e r
  where
    at : (e : PolyError) → IsWorkRefusal ks spared (joined_terms s) e → IsTailRefusal ks e
    at (errors.Overflow o) k = (
      record {
        from = record { poly = k.from; head = b.head };
        tail = tail_from ks b spared s k.from t k.reached;
        at = k.at;
        unmarked = subst (λ (z : Option Exponents). IsBeside z k.at) t.spare k.beside;
        operation = operation_more (λ (d : MarkedPolynomial). d ≡ k.member) (Contains ks) (λ d g. only ks k.member k.contained d g)
            k.from k.at o.op o.left o.right k.refused.0;
      },
      k.refused.1,
    )
    at (errors.Exponent o) k = (
      record {
        from = record { poly = k.from; head = b.head };
        tail = tail_from ks b spared s k.from t k.reached;
        at = k.at;
        unmarked = subst (λ (z : Option Exponents). IsBeside z k.at) t.spare k.beside;
        sum = exponents_more (λ (d : MarkedPolynomial). d ≡ k.member) (Contains ks) (λ d g. only ks k.member k.contained d g)
            k.from k.at o.left o.right k.refused.0;
      },
      k.refused.1,
    )
    at errors.Memory k = tt

-- ---- the end

-- g is the polynomial of b with its tail reduced by ks
pub record TailFacts (ks : List MarkedPolynomial) (b : MarkedPolynomial) (g : Terms) : Type 0 where
  pub tail : IsTail ks (record { poly = g; head = b.head })
  pub reached : ReachedBeside ks (Some b.head) b.poly g
  pub irreducible : (x : Exponents) → HasMonomial g x → IsDivisible (Contains ks) x → same x b.head ≡ true
  pub kept : KeepsVariables b.poly g
  pub descending : IsDescending g
  pub variables : HasVariables (length b.head) g
  pub marked : HasMarkedTerm b

pub irreducible_beside : (ks : List MarkedPolynomial) (x : Exponents) (f : Terms) → AreIrreducible ks (Some x) f → (y : Exponents) → HasMonomial f y →
    IsDivisible (Contains ks) y → same y x ≡ true
irreducible_beside ks x f a y m d = at (same y x) refl
  where
    there : (same y x ≡ false) → (t : Term) × (IsBeside (Some x) t.mono → IsDivisible (Contains ks) t.mono → ⊥) × (same y t.mono ≡ true) → ⊥
    there n r = r.1 (sym (same_along y r.0.mono x r.2) ∙ n) (divisible_along (Contains ks) y r.0.mono r.2 d)

    at : (r : Bool) → same y x ≡ r → same y x ≡ true
    at true e = e
    at false e = absurd (there e (listed (λ (t : Term). IsBeside (Some x) t.mono → IsDivisible (Contains ks) t.mono → ⊥) f y a m))

pub tail_facts : (ks : List MarkedPolynomial) (b : MarkedPolynomial) (spared : Option Exponents) (old s : Split) (g : Terms) → HasMarkedTerm b →
    TailStart ks b spared old → g ≡ joined_terms s → AreIrreducible ks spared (joined_terms s) → IsWorkedOn ks spared old s → TailFacts ks b g
tail_facts ks b spared old s g m t q a h = record {
  tail = tail_from ks b spared old g t (subst (ReachedBeside ks spared (joined_terms old)) (sym q) h.reached);
  reached = from_tail ks b spared old g t (subst (ReachedBeside ks spared (joined_terms old)) (sym q) h.reached);
  irreducible = irreducible_beside ks b.head g (subst (AreIrreducible ks (Some b.head)) (sym q)
      (subst (λ (z : Option Exponents). AreIrreducible ks z (joined_terms s)) t.spare a));
  kept = record { at = λ n v. subst (HasVariables n) (sym q) (h.kept.at n (subst (HasVariables n) (sym t.same) v)) };
  descending = subst IsDescending (sym q) h.variables.sound.descending;
  variables = subst (HasVariables (length b.head)) (sym q) (subst (λ (k : ℕ). HasVariables k (joined_terms s)) (sym long) h.variables.sound.variables);
  marked = m;
}
  where
    long : length b.head ≡ h.variables.n
    long = subst (IsSpareIn h.variables.n) t.spare h.variables.spare

-- the mark is a monomial of it
pub tail_there : (ks : List MarkedPolynomial) (b : MarkedPolynomial) (g : Terms) → HasSomeWeight ks → TailFacts ks b g → HasMonomial g b.head
tail_there ks b g w t = mark-there (lighter w.0) (record { poly = g; head = b.head }) (tail-marked (lighter w.0) ks (record { poly = g; head = b.head })
    (lighter-strict w.0) w.1 t.tail)

pub reduced_tail_at : (ks : List MarkedPolynomial) (b : MarkedPolynomial) (g : Terms) (x : Exponents) (c : MarkedPolynomial) →
    ◌≡◌ {A = MarkedPolynomial} c (record { poly = g; head = x }) → x ≡ b.head → TailFacts ks b g → IsReducedTail ks b c
reduced_tail_at ks b g x c q e t = subst (IsReducedTail ks b) (sym q) (subst (λ (y : Exponents). IsReducedTail ks b (record { poly = g; head = y })) (sym e)
    (record { tail = t.tail; head = same-refl b.head; irreducible = t.irreducible }))

pub tail_reached_at : (ks : List MarkedPolynomial) (b : MarkedPolynomial) (g : Terms) (x : Exponents) (c : MarkedPolynomial) →
    ◌≡◌ {A = MarkedPolynomial} c (record { poly = g; head = x }) → x ≡ b.head → TailFacts ks b g → HasTailReached ks b c
tail_reached_at ks b g x c q e t = subst (HasTailReached ks b) (sym q) (record { head = e; reached = t.reached })

pub kept_form_at : (ks : List MarkedPolynomial) (b : MarkedPolynomial) (g : Terms) (x : Exponents) (c : MarkedPolynomial) →
    ◌≡◌ {A = MarkedPolynomial} c (record { poly = g; head = x }) → x ≡ b.head → TailFacts ks b g → IsKeptForm b c
kept_form_at ks b g x c q e t = subst (IsKeptForm b) (sym q)
    (record { at = λ n v. record { variables = t.kept.at n v; descending = t.descending; head = ap length e ∙ head_length n b v t.marked } })
