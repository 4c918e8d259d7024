-- The lifts, one after another.
-- To cite: AreLifting, lifting_more, lift_there, lifted_member.
use Rattle.std.proofs.Common.{◌≡◌, ℕ, ◌+◌, ◌<◌, List, [], ◌∷◌, ◌++◌, length, take, get_or, sym, ap, ◌∙◌, subst}
use Rattle.std.proofs.lemmas.List.{take_more}
use Rattle.gf_frac.specs.Fraction.{◌+ℚ◌, neg_ℚ, zero_ℚ, one_ℚ}
use Rattle.gf_poly.specs.Polynomial.{Terms, coefficient, HasVariables, KeepsBothVariables}
use Rattle.gf_poly.specs.Sums.{IsDifference}
use Rattle.gf_exponents_theory.specs.Exponents.{Exponents}
use Rattle.gf_poly.specs.Marking.{MarkedPolynomial, HaveVariables, head_of, HasMarkedTerm}
use Rattle.gf_division.proofs.StepLaws.{head_length}
use Rattle.gf_ideal_theory.specs.Membership.{HasMonomial}
use Rattle.gf_ideal_theory.specs.NormalForms.{IsNormalForm}
use Rattle.gf_ideal_theory.proofs.Identities.{one_not_zero}
use Rattle.gf_ideal_theory.proofs.NormalFormLaws.{normal_form-reached}
use Rattle.gf_ideal_theory.proofs.ListLaws.{Each-++}
use Rattle.gf_initial_theory.specs.Lifts.{IsLift, AreLifts}
use Rattle.gf_initial_theory.proofs.MatchingLaws.{matched-push}
use Rattle.gf_initial_theory.proofs.DifferenceLaws.{difference, less_zero}
use Rattle.gf_lifts.specs.Lifting.{IsLiftable}

-- ---- one

none_at_mark : (bs : List MarkedPolynomial) (h : MarkedPolynomial) (r : Terms) → IsLiftable bs h → IsNormalForm bs h.poly r → coefficient r h.head ≡ zero_ℚ
none_at_mark bs h r l f = l.none r (normal_form-reached bs h.poly r f.reached) f.irreducible

-- the mark is a monomial of the difference
pub lift_there : (bs : List MarkedPolynomial) (h : MarkedPolynomial) (r p : Terms) → IsLiftable bs h → IsNormalForm bs h.poly r →
    IsDifference h.poly r p → HasMonomial p h.head
lift_there bs h r p l f d z = one_not_zero (sym (d h.head ∙ ap (λ c. c +ℚ neg_ℚ (coefficient r h.head)) l.monic ∙ ap (λ c. one_ℚ +ℚ neg_ℚ c)
    (none_at_mark bs h r l f) ∙ less_zero one_ℚ) ∙ z)

-- which is the lift
pub lifted_member : (bs : List MarkedPolynomial) (h l : MarkedPolynomial) (r p : Terms) → IsNormalForm bs h.poly r → IsDifference h.poly r p →
    l.poly ≡ p → l.head ≡ h.head → IsLift bs h l
lifted_member bs h l r p f d e k = record {
  remainder = r;
  reached = normal_form-reached bs h.poly r f.reached;
  irreducible = f.irreducible;
  head = k;
  poly = λ x. ap (λ g. coefficient g x) e ∙ d x ∙ sym (difference h.poly r x);
}

-- ---- all

pub record AreLifting (n : ℕ) (bs hs ls : List MarkedPolynomial) : Type 0 where
  pub lifts : AreLifts bs hs ls
  pub variables : HaveVariables n ls

pub lifting_more : (n : ℕ) (bs hs : List MarkedPolynomial) (i : ℕ) (h l : MarkedPolynomial) (old new : List MarkedPolynomial) → i < length hs →
    h ≡ get_or hs i h → IsLift bs h l → HasVariables n l.poly → new ≡ old ++ l ∷ [] → AreLifting n bs (take i hs) old →
    AreLifting n bs (take (i + 1) hs) new
lifting_more n bs hs i h l old new k q t v e s = record {
  lifts = subst (λ (z : List MarkedPolynomial). AreLifts bs z new) (sym (take_more hs i h k ∙ ap (λ (z : MarkedPolynomial). take i hs ++ z ∷ []) (sym q)))
      (subst (λ (z : List MarkedPolynomial). AreLifts bs (take i hs ++ h ∷ []) z) (sym e) (matched-push (IsLift bs) (take i hs) old h l s.lifts t));
  variables = subst (HaveVariables n) (sym e) (Each-++ (λ (b : MarkedPolynomial). HasVariables n b.poly) old (l ∷ []) s.variables (v, tt));
}

-- ---- as the code has it

variables_at : (n : ℕ) (h : MarkedPolynomial) (g r p : Terms) → g ≡ h.poly → KeepsBothVariables g r p → HasVariables n h.poly → HasVariables n r →
    HasVariables n p
variables_at n h g r p e k v w = k.at n (subst (HasVariables n) (sym e) v) w

-- the difference has the variables
pub index_variables : (n : ℕ) (h : MarkedPolynomial) (g r p t : Terms) (x : Exponents) → g ≡ h.poly → KeepsBothVariables g r p → HasVariables n h.poly →
    HasVariables n r → t ≡ p → x ≡ h.head → HasMarkedTerm h → HasVariables (length x) t
index_variables n h g r p t x e k v w q f m =
    let l : n ≡ length x = sym (ap (λ (z : Exponents). length z) f ∙ head_length n h v m) in
    subst (λ (z : Terms). HasVariables (length x) z) (sym q) (subst (λ (z : ℕ). HasVariables z p) l (variables_at n h g r p e k v w))

-- the mark is one of its monomials
pub index_there : (bs : List MarkedPolynomial) (h : MarkedPolynomial) (f g r p t : Terms) (x : Exponents) → f ≡ h.poly → g ≡ h.poly → IsLiftable bs h →
    IsNormalForm bs f r → IsDifference g r p → t ≡ p → x ≡ h.head → HasMonomial t x
index_there bs h f g r p t x e d l n i q y z =
    lift_there bs h r p l (subst (λ (w : Terms). IsNormalForm bs w r) e n) (subst (λ (w : Terms). IsDifference w r p) d i)
    (ap (λ (w : Terms). coefficient w h.head) (sym q) ∙ ap (λ (w : Exponents). coefficient t w) (sym y) ∙ z)

-- so it is the lift
pub lift_at : (bs : List MarkedPolynomial) (h l : MarkedPolynomial) (f g r p t : Terms) (x : Exponents) (i : ℕ) → f ≡ h.poly → g ≡ h.poly →
    IsNormalForm bs f r → IsDifference g r p → t ≡ p → x ≡ h.head → head_of t i ≡ x → l ≡ record { poly = p; head = head_of p i } → IsLift bs h l
lift_at bs h l f g r p t x i e d n k q y m o =
    lifted_member bs h l r p (subst (λ (w : Terms). IsNormalForm bs w r) e n) (subst (λ (w : Terms). IsDifference w r p) d k)
    (ap (λ (w : MarkedPolynomial). w.poly) o) (ap (λ (w : MarkedPolynomial). w.head) o ∙ ap (λ (w : Terms). head_of w i) (sym q) ∙ m ∙ y)

-- in the variables
pub lift_variables : (n : ℕ) (h l : MarkedPolynomial) (g r p : Terms) (x : Exponents) → g ≡ h.poly → KeepsBothVariables g r p → HasVariables n h.poly →
    HasVariables n r → l ≡ record { poly = p; head = x } → HasVariables n l.poly
lift_variables n h l g r p x e k v w o = subst (HasVariables n) (sym (ap (λ (z : MarkedPolynomial). z.poly) o)) (variables_at n h g r p e k v w)
