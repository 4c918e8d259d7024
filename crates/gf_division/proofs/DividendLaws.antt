-- Moves of the index in a polynomial under reduction.
-- To cite: moved, over_last, shorter, terms_up, first_coefficient, first_nonzero, first_length.
use Rattle.std.specs.Prelude.{◌≡◌, ◌≢◌, ℕ, zero, suc, ◌-◌, ◌<◌, [], ◌∷◌, ◌++◌, length, reverse}
use Rattle.std.specs.declared.cmp.Ordering.TheVariants.{Greater}
use Rattle.std.proofs.Common.{arith, refl, sym, ap, ◌∙◌, subst, get_or, append_assoc}
use Rattle.std.proofs.lemmas.List.{reverse-append, length-reverse}
use Rattle.gf_exponents_theory.specs.Exponents.{Exponents}
use Rattle.gf_exponents_theory.specs.Orders.{deglex}
use Rattle.gf_poly.specs.declared.Term.{Term}
use Rattle.gf_frac.specs.Fraction.{zero_ℚ}
use Rattle.gf_poly.specs.Polynomial.{Terms, coefficient, IsDescending, HasVariables}
use Rattle.gf_poly.specs.Marking.{head_of}
use Rattle.gf_poly.proofs.DescendingLaws.{greater_trans}
use Rattle.gf_division.proofs.DescendingParts.{descending-back, variables-back, coefficient-midst}
use Rattle.gf_division.specs.Dividends.{Split, joined_terms, IsSound, IsTermInFront, AreOver, PassesOne, MovesUp}

-- ---- one term over the index

pub moved : (a b c d : Terms) (t : Term) → b ≡ d ++ t ∷ [] → c ≡ a ++ t ∷ [] →
    PassesOne (record { above = a; below = reverse b }) (record { above = c; below = reverse d })
moved a b c d t e k = record { term = t; below = ap reverse e ∙ reverse-append d (t ∷ []); above = k }

-- ---- the last term above the index

at_last : (x : Exponents) (f : Terms) (k : ℕ) (t : Term) → length f ≡ suc k → t ≡ get_or f k t → deglex t.mono x ≡ Greater → IsDescending f → AreOver x f
at_last x [] k t l e g d = absurd (omega arith)
at_last x (s ∷ []) zero t l e g d = (ap (λ (u : Term). deglex u.mono x) (sym e) ∙ g, tt)
at_last x (s ∷ []) (suc k) t l e g d = absurd (omega arith)
at_last x (s ∷ u ∷ f) zero t l e g d = absurd (omega arith)
at_last x (s ∷ u ∷ f) (suc k) t l e g d =
    let r = at_last x (u ∷ f) k t (omega arith) e g d.2 in
    (greater_trans s.mono u.mono x d.1.0 r.0, r)

pub over_last : (x : Exponents) (f : Terms) (n : ℕ) (t : Term) → n ≡ length f → n ≢ 0 → t ≡ get_or f (n - 1) t → deglex t.mono x ≡ Greater → IsDescending f →
    AreOver x f
over_last x f zero t l z e g d = absurd (z refl)
over_last x f (suc n) t l z e g d =
    let q : suc n - 1 ≡ n = omega arith in
    at_last x f n t (sym l) (subst (λ (k : ℕ). t ≡ get_or f k t) q e) g d

-- ---- many terms down

-- old became new as terms greater than x went above the index
pub record Descending (x : Exponents) (old new : Split) : Type 0 where
  pub passed : Terms
  pub above : new.above ≡ old.above ++ passed
  pub below : old.below ≡ passed ++ new.below
  pub over : AreOver x passed

pub shorter : (old new : Split) (b d : Terms) → old.below ≡ reverse b → new.below ≡ reverse d → PassesOne old new → length d < length b
shorter old new b d e k a = omega (arith, ap length a.below, ap length e, ap length k, length-reverse b, length-reverse d)

-- ---- many terms up

-- moves keep the terms
pub terms_up : (old new : Split) → MovesUp old new → joined_terms new ≡ joined_terms old
terms_up old new m = ap (λ (z : Terms). new.above ++ z) m.below ∙ sym (append_assoc new.above m.passed old.below) ∙
    ap (λ (z : Terms). z ++ old.below) (sym m.above)

pub terms_down : (old new : Split) → PassesOne old new → joined_terms new ≡ joined_terms old
terms_down old new a = ap (λ (z : Terms). z ++ new.below) a.above ∙ append_assoc old.above (a.term ∷ []) new.below ∙
    ap (λ (z : Terms). old.above ++ z) (sym a.below)

-- ---- the first term below the index

pub first_coefficient : (n : ℕ) (s : Split) (t : Term) → IsSound n s → IsTermInFront s.below t → coefficient (joined_terms s) (head_of s.below zero) ≡ t.coef
first_coefficient n s t h f =
    subst (λ (z : Terms). coefficient (s.above ++ z) (head_of z zero) ≡ t.coef) (sym f.is)
    (coefficient-midst n s.above t f.rest (subst (λ (z : Terms). HasVariables n (s.above ++ z)) f.is h.variables)
    (subst (λ (z : Terms). IsDescending (s.above ++ z)) f.is h.descending))

pub first_nonzero : (n : ℕ) (s : Split) (t : Term) → IsSound n s → IsTermInFront s.below t → t.coef ≢ zero_ℚ
first_nonzero n s t h f = (subst IsDescending f.is (descending-back s.above s.below h.descending)).0

pub first_length : (n : ℕ) (s : Split) (t : Term) → IsSound n s → IsTermInFront s.below t → length t.mono ≡ n
first_length n s t h f = (subst (HasVariables n) f.is (variables-back n s.above s.below h.variables)).0

pub first_head : (f : Terms) (t : Term) → IsTermInFront f t → t.mono ≡ head_of f zero
first_head f t h = sym (ap (λ (z : Terms). head_of z zero) h.is)
