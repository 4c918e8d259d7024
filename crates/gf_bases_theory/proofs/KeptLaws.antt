-- Each polynomial of n variables is one as a program keeps it: nonzero terms that descend in deglex, with n exponents each.
-- To cite: padded, length-padded, same-padded; descending_form; kept_form (of a marked polynomial), marked-twin.
use Rattle.std.specs.declared.cmp.Ordering.{Ordering}
use Rattle.std.specs.declared.cmp.Ordering.TheVariants.{Greater, Less, Equal}
use Rattle.std.proofs.Common.{◌≡◌, ◌⊎◌, ◌≢◌, if◌then◌else◌, ℕ, zero, suc, Bool, true, false, [], ◌∷◌, length, arith, refl, sym, ap, ◌∙◌, inl, inr}
use Rattle.gf_frac.specs.Fraction.{◌+ℚ◌, zero_ℚ}
use Rattle.gf_frac.proofs.FractionLaws.{+ℚ_assoc, zero-+ℚ, zero_or_not}
use Rattle.gf_exponents_theory.specs.Exponents.{Exponents, entry, same, IsInRing}
use Rattle.gf_exponents_theory.specs.Orders.{deglex, IsStrict}
use Rattle.gf_exponents_theory.proofs.ExponentsLaws.{same-sym, same_along, same_flip, same_trans, same_by_entries}
use Rattle.gf_poly.specs.declared.Term.{Term}
use Rattle.gf_poly.specs.Polynomial.{Terms, coefficient, SamePolynomial, IsAbove, IsDescending, HasVariables}
use Rattle.gf_poly.specs.Marking.{MarkedPolynomial, Each}
use Rattle.gf_poly.proofs.DescendingLaws.{less_greater, equal_same, IsAbove-from}
use Rattle.gf_poly.proofs.PolynomialLaws.{coefficient-same}
use Rattle.gf_ideal_theory.specs.Membership.{HasMonomial, IsInVariables}
use Rattle.gf_ideal_theory.specs.Marks.{IsMarked}
use Rattle.gf_ideal_theory.specs.Bases.{IsTwin, IsCanonical}
use Rattle.gf_ideal_theory.proofs.ListLaws.{Each-weaker}
use Rattle.gf_ideal_theory.proofs.TermLaws.{Canonical, canonical, zero_chosen}
use Rattle.gf_poly.proofs.MergeLaws.{swap_first}

-- ---- exponents of n variables

-- the first n exponents, with zeros where there are fewer
abbrev pub padded : ℕ → Exponents → Exponents
padded zero x = []
padded (suc n) [] = 0 ∷ padded n []
padded (suc n) (a ∷ x) = a ∷ padded n x

pub length-padded : (n : ℕ) (x : Exponents) → length (padded n x) ≡ n
length-padded zero x = refl
length-padded (suc n) [] = ap suc (length-padded n [])
length-padded (suc n) (a ∷ x) = ap suc (length-padded n x)

entry-padded : (n : ℕ) (x : Exponents) (i : ℕ) → IsInRing n x → entry x i ≡ entry (padded n x) i
entry-padded zero x i h = h i (omega arith)
entry-padded (suc n) [] zero h = refl
entry-padded (suc n) [] (suc i) h = entry-padded n [] i (λ j l. refl)
entry-padded (suc n) (a ∷ x) zero h = refl
entry-padded (suc n) (a ∷ x) (suc i) h = entry-padded n x i (λ j l. h (suc j) (omega arith))

pub same-padded : (n : ℕ) (x : Exponents) → IsInRing n x → same x (padded n x) ≡ true
same-padded n x h = same_by_entries x (padded n x) (λ i. entry-padded n x i h)

-- ---- one term more

-- the polynomial with the term t more, descending
record Inserted (n : ℕ) (t : Term) (f : Terms) : Type 0 where
  terms : Terms
  variables : HasVariables n terms
  descending : IsDescending terms
  equal : SamePolynomial terms (t ∷ f)
  above : (x : Exponents) → deglex x t.mono ≡ Greater → IsAbove x f → IsAbove x terms

-- a zero term changes nothing
zero_term : (t : Term) (f : Terms) (e : Exponents) → t.coef ≡ zero_ℚ → coefficient f e ≡ coefficient (t ∷ f) e
zero_term t f e z = sym (ap (λ y. y +ℚ coefficient f e) (zero_chosen (same e t.mono) t.coef z) ∙ zero-+ℚ _)

-- like terms are one term
one_term : (t s : Term) (f : Terms) (e : Exponents) → t.mono ≡ s.mono →
    (if same e s.mono then t.coef +ℚ s.coef else zero_ℚ) +ℚ coefficient f e ≡ coefficient (t ∷ s ∷ f) e
one_term t s f e q = joins (same e s.mono) ∙ ap (λ x. (if same e x then t.coef else zero_ℚ) +ℚ ((if same e s.mono then s.coef else zero_ℚ) +ℚ coefficient f e))
    (sym q)
  where
    joins : (b : Bool) →
        (if b then t.coef +ℚ s.coef else zero_ℚ) +ℚ coefficient f e ≡ (if b then t.coef else zero_ℚ) +ℚ ((if b then s.coef else zero_ℚ) +ℚ coefficient f e)
    joins true = +ℚ_assoc t.coef s.coef (coefficient f e)
    joins false = sym (zero-+ℚ _)

inserted : (n : ℕ) (t : Term) (f : Terms) → length t.mono ≡ n → HasVariables n f → IsDescending f → Inserted n t f
inserted n t [] l v d = at (zero_or_not t.coef)
  where
    at : (t.coef ≡ zero_ℚ) ⊎ (t.coef ≢ zero_ℚ) → Inserted n t []
    at (inl z) = record { terms = []; variables = tt; descending = tt; equal = λ e. zero_term t [] e z; above = λ x h a. tt }
    at (inr k) = record { terms = t ∷ []; variables = (l, tt); descending = (k, tt, tt); equal = λ e. refl; above = λ x h a. (h, tt) }
inserted n t (s ∷ f) l v d = at (deglex t.mono s.mono) refl (zero_or_not t.coef) (zero_or_not (t.coef +ℚ s.coef)) (inserted n t f l v.1 d.2)
  where
    at : (o : Ordering) → deglex t.mono s.mono ≡ o → (t.coef ≡ zero_ℚ) ⊎ (t.coef ≢ zero_ℚ) →
        (t.coef +ℚ s.coef ≡ zero_ℚ) ⊎ (t.coef +ℚ s.coef ≢ zero_ℚ) → Inserted n t f → Inserted n t (s ∷ f)
    at Greater q (inl z) p r = record { terms = s ∷ f; variables = v; descending = d; equal = λ e. zero_term t (s ∷ f) e z; above = λ x h a. a }
    at Greater q (inr k) p r = record {
      terms = t ∷ s ∷ f;
      variables = (l, v);
      descending = (k, (q, IsAbove-from t.mono s.mono f q d.1), d);
      equal = λ e. refl;
      above = λ x h a. (h, a);
    }
    at Equal q z (inl p) r = record {
      terms = f;
      variables = v.1;
      descending = d.2;
      equal = λ e. zero_term (record { coef = t.coef +ℚ s.coef; mono = s.mono }) f e p ∙ one_term t s f e (equal_same t.mono s.mono q);
      above = λ x h a. a.1;
    }
    at Equal q z (inr p) r = record {
      terms = record { coef = t.coef +ℚ s.coef; mono = s.mono } ∷ f;
      variables = v;
      descending = (p, d.1, d.2);
      equal = λ e. one_term t s f e (equal_same t.mono s.mono q);
      above = λ x h a. a;
    }
    at Less q z p r = record {
      terms = s ∷ r.terms;
      variables = (v.0, r.variables);
      descending = (d.0, r.above s.mono (less_greater t.mono s.mono q) d.1, r.descending);
      equal = λ e. ap (λ y. (if same e s.mono then s.coef else zero_ℚ) +ℚ y) (r.equal e) ∙ swap_first _ _ _;
      above = λ x h a. (a.0, r.above x h a.1);
    }

-- ---- polynomials

-- the same polynomial as a program keeps it
pub record DescendingForm (n : ℕ) (f : Terms) : Type 0 where
  pub terms : Terms
  pub variables : HasVariables n terms
  pub descending : IsDescending terms
  pub equal : SamePolynomial f terms

of_terms : (n : ℕ) (f : Terms) → Each (λ (t : Term). IsInRing n t.mono) f → DescendingForm n f
of_terms n [] h = record { terms = []; variables = tt; descending = tt; equal = λ e. refl }
of_terms n (t ∷ f) h = at (of_terms n f h.1)
  where
    u : Term
    u = record { coef = t.coef; mono = padded n t.mono }

    alike : (e : Exponents) → same e t.mono ≡ same e u.mono
    alike e = same-sym e t.mono ∙ same_along t.mono u.mono e (same-padded n t.mono h.0) ∙ same-sym u.mono e

    at : DescendingForm n f → DescendingForm n (t ∷ f)
    at r = with_term (inserted n u r.terms (length-padded n t.mono) r.variables r.descending)
      where
        with_term : Inserted n u r.terms → DescendingForm n (t ∷ f)
        with_term i = record {
          terms = i.terms;
          variables = i.variables;
          descending = i.descending;
          equal = λ e. ap (λ z. (if same e t.mono then t.coef else zero_ℚ) +ℚ z) (r.equal e) ∙ ap (λ b. (if b then t.coef else zero_ℚ) +ℚ coefficient r.terms e)
              (alike e) ∙ sym (i.equal e);
        }

pub descending_form : (n : ℕ) (f : Terms) → IsInVariables n f → DescendingForm n f
descending_form n f v = at (canonical f)
  where
    at : Canonical f → DescendingForm n f
    at c = with_terms (of_terms n c.terms (Each-weaker (λ (t : Term). coefficient f t.mono ≢ zero_ℚ) (λ (t : Term). IsInRing n t.mono) (λ t m. v t.mono m)
        c.terms c.there))
      where
        with_terms : DescendingForm n c.terms → DescendingForm n f
        with_terms r = record { terms = r.terms; variables = r.variables; descending = r.descending; equal = λ e. c.equal e ∙ r.equal e }

-- ---- marked polynomials

-- the same marked polynomial as a program keeps it
pub kept_form : (n : ℕ) (b : MarkedPolynomial) → IsInVariables n b.poly → HasMonomial b.poly b.head →
    (c : MarkedPolynomial) × IsCanonical n c × IsTwin b c
kept_form n b v h = at (descending_form n b.poly v)
  where
    at : DescendingForm n b.poly → (c : MarkedPolynomial) × IsCanonical n c × IsTwin b c
    at d = (
      record { poly = d.terms; head = padded n b.head },
      record { variables = d.variables; descending = d.descending; head = length-padded n b.head },
      record { head = same-padded n b.head (v b.head h); poly = d.equal },
    )

-- a comparison that marks it marks its twin
pub marked-twin : (below : Exponents → Exponents → Type 0) (b c : MarkedPolynomial) → IsStrict below → IsTwin b c →
    IsMarked below b → IsMarked below c
marked-twin below b c o t m = record {
  monic = sym (t.poly c.head) ∙ coefficient-same b.poly c.head b.head (same_flip b.head c.head t.head) ∙ m.monic;
  tail = λ x k. at x (m.tail x (λ z. k (sym (t.poly x) ∙ z)));
}
  where
    at : (x : Exponents) → (same x b.head ≡ true) ⊎ below x b.head → (same x c.head ≡ true) ⊎ below x c.head
    at x (inl s) = inl (same_trans x b.head c.head s t.head)
    at x (inr l) = inr (o.along_right x b.head c.head t.head l)
