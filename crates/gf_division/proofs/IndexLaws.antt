-- The index at a monomial of the polynomial, and the step there.
-- To cite: IsPlaced, placed, placed_shares, placed_divides, placed_step, placed_gone, placed_variables, placed_descends, placed_refused.
use Rattle.std.specs.Prelude.{◌≡◌, ◌≢◌, ℕ, zero, [], ◌∷◌, ◌++◌, length}
use Rattle.std.specs.declared.cmp.Ordering.{Ordering}
use Rattle.std.specs.declared.cmp.Ordering.TheVariants.{Less, Equal, Greater}
use Rattle.std.proofs.Common.{refl, sym, ap, ◌∙◌, subst}
use Rattle.gf_frac.specs.Fraction.{◌+ℚ◌, neg_ℚ, zero_ℚ, one_ℚ}
use Rattle.gf_frac.proofs.FractionLaws.{zero-+ℚ}
use Rattle.gf_exponents_theory.specs.Exponents.{Exponents, plus, Divides}
use Rattle.gf_exponents_theory.specs.Orders.{deglex}
use Rattle.gf_exponents_theory.proofs.ExponentsLaws.{same_of}
use Rattle.gf_poly.specs.declared.Term.{Term}
use Rattle.gf_poly.specs.declared.error.PolyError.{PolyError}
use Rattle.gf_poly.specs.Polynomial.{Terms, coefficient, times, IsAbove, IsDescending, HasVariables}
use Rattle.gf_poly.specs.Marking.{MarkedPolynomial, head_of}
use Rattle.gf_poly.proofs.PolynomialLaws.{coefficient-++}
use Rattle.gf_poly.proofs.DescendingLaws.{less_greater, equal_same, IsAbove-from}
use Rattle.gf_poly.proofs.CoefficientLaws.{coefficient-above}
use Rattle.gf_ideal_theory.specs.Membership.{HasMonomial}
use Rattle.gf_ideal_theory.proofs.StepLaws.{step-gone}
use Rattle.gf_division.specs.Steps.{StepsTo, IsStepRefusal}
use Rattle.gf_division.specs.Dividends.{Split, joined_terms, IsSound, IsTermInFront, DividesFirst, AreOver, FirstIs, Descends, SharesVariables, TakesStep}
use Rattle.gf_division.proofs.DescendingParts.{descending-back, variables-front, variables-back}
use Rattle.gf_division.proofs.SubtractionLaws.{coefficient-over}
use Rattle.gf_division.proofs.DividendLaws.{first_head}

-- the first term below the index is that of f at x
pub record IsPlaced (f : Terms) (x : Exponents) (s : Split) : Type 0 where
  pub same : joined_terms s ≡ f
  pub sound : IsSound (length x) s
  pub term : Term
  pub is : IsTermInFront s.below term
  pub at : term.mono ≡ x

-- nothing at x, where the terms before are over it and the others below
nothing : (n : ℕ) (x : Exponents) (f g : Terms) → HasVariables n (f ++ g) → length x ≡ n → AreOver x f → IsAbove x g → coefficient (f ++ g) x ≡ zero_ℚ
nothing n x f g v l o a =
    coefficient-++ f g x ∙ ap (λ z. z +ℚ coefficient g x) (coefficient-over n f x (variables-front n f g v) l o) ∙ zero-+ℚ _
    ∙ coefficient-above n g x (variables-back n f g v) l a

-- a descent from above all terms ends there
pub placed : (f g : Terms) (x : Exponents) (old s : Split) (o : Ordering) → g ≡ f → old ≡ record { above = []; below = g } → IsDescending g →
    HasVariables (length x) f → HasMonomial f x → Descends x old s o → IsPlaced f x s
placed f g x old s o e q d v m w = at s.below refl w.first
  where
    whole : joined_terms s ≡ f
    whole = ap (λ (z : Terms). z ++ s.below) (w.above ∙ ap (λ (z : Split). z.above ++ w.passed) q) ∙ sym w.below ∙ ap (λ (z : Split). z.below) q ∙ e

    front : s.above ≡ w.passed
    front = w.above ∙ ap (λ (z : Split). z.above ++ w.passed) q

    h : IsSound (length x) s
    h = record { descending = subst IsDescending (sym (whole ∙ sym e)) d; variables = subst (HasVariables (length x)) (sym whole) v }

    -- it isn't past x
    never : IsAbove x s.below → ⊥
    never a = m (ap (λ (z : Terms). coefficient z x) (sym whole) ∙ nothing (length x) x s.above s.below h.variables refl (subst (AreOver x) (sym front) w.over)
        a)

    here : (t : Term) (k : Terms) (r : Ordering) → r ≡ deglex t.mono x → r ≢ Greater → s.below ≡ t ∷ k → t.mono ≡ x
    here t k Less i n b = let l = less_greater t.mono x (sym i) in
        absurd (never (subst (IsAbove x) (sym b) (l, IsAbove-from x t.mono k l (subst IsDescending b (descending-back s.above s.below h.descending)).1)))
    here t k Equal i n b = equal_same t.mono x (sym i)
    here t k Greater i n b = absurd (n refl)

    at : (k : Terms) → s.below ≡ k → FirstIs k x o → IsPlaced f x s
    at [] b i = absurd (never (subst (IsAbove x) (sym b) tt))
    at (t ∷ k) b i = record { same = whole; sound = h; term = t; is = record { rest = k; is = b }; at = here t k o i w.ends b }

pub placed_shares : (f : Terms) (x : Exponents) (s : Split) (b : MarkedPolynomial) → IsPlaced f x s → HasVariables (length x) b.poly → SharesVariables b s
placed_shares f x s b k v = record { n = length x; sound = k.sound; poly = v }

pub placed_divides : (f : Terms) (x : Exponents) (s : Split) (h : Exponents) → IsPlaced f x s → Divides h x → DividesFirst h s.below
placed_divides f x s h k d = record { term = k.term; first = k.is; divides = subst (Divides h) (sym k.at) d }

head_at : (f : Terms) (x : Exponents) (s : Split) → IsPlaced f x s → head_of s.below zero ≡ x
head_at f x s k = sym (first_head s.below k.term k.is) ∙ k.at

pub placed_step : (f : Terms) (x : Exponents) (s t : Split) (b : MarkedPolynomial) (q : Term) (g : Terms) → IsPlaced f x s → TakesStep b s q t →
    g ≡ joined_terms t → StepsTo f b x g
placed_step f x s t b q g k w e =
    let c : coefficient f x ≡ q.coef = ap (λ (z : Terms). coefficient z x) (sym k.same) ∙ ap (coefficient (joined_terms s)) (sym (head_at f x s k)) ∙
    w.coefficient_is in
    record {
      rest = q.mono;
      divides = same_of x (plus q.mono b.head) (sym (w.product ∙ head_at f x s k));
      there = λ z. w.there (sym c ∙ z);
      equal = λ y.
          ap (λ (z : Terms). coefficient z y) e ∙ w.same y
          ∙ ap (λ (z : Terms). coefficient (z ++ times (neg_ℚ q.coef) q.mono b.poly) y) k.same
          ∙ ap (λ a. coefficient (f ++ times (neg_ℚ a) q.mono b.poly) y) (sym c);
    }

-- by a monic member the term is gone
pub placed_gone : (f g : Terms) (x : Exponents) (b : MarkedPolynomial) → coefficient b.poly b.head ≡ one_ℚ → StepsTo f b x g → coefficient g x ≡ zero_ℚ
placed_gone f g x b one w = step-gone (λ (c : MarkedPolynomial). c ≡ b) f g (record {
  at = x;
  member = b;
  rest = w.rest;
  contained = refl;
  there = w.there;
  divides = w.divides;
  equal = w.equal;
}) one

pub placed_variables : (f : Terms) (x : Exponents) (s t : Split) (b : MarkedPolynomial) (q : Term) (g : Terms) → IsPlaced f x s → TakesStep b s q t →
    g ≡ joined_terms t → HasVariables (length x) g
placed_variables f x s t b q g k w e = subst (HasVariables (length x)) (sym e) (w.sound (length x) k.sound).variables

pub placed_descends : (f : Terms) (x : Exponents) (s t : Split) (b : MarkedPolynomial) (q : Term) → IsPlaced f x s → TakesStep b s q t →
    IsDescending (joined_terms t)
placed_descends f x s t b q k w = (w.sound (length x) k.sound).descending

pub placed_refused : (f : Terms) (x : Exponents) (s : Split) (b : MarkedPolynomial) (e : PolyError) → IsPlaced f x s →
    IsStepRefusal (joined_terms s) b (head_of s.below zero) e → IsStepRefusal f b x e
placed_refused f x s b e k r = subst (λ (y : Exponents). IsStepRefusal f b y e) (head_at f x s k)
    (subst (λ (z : Terms). IsStepRefusal z b (head_of s.below zero) e) k.same r)
