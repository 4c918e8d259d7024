-- The loop of a division: the quotients of the steps, and what their sums are.
-- To cite: Dividing, dividing-none, dividing-more, sum_at, indices_at, variables_at, forms_at, sums_refused.
use Rattle.std.specs.Prelude.{◌≡◌, ℕ, zero, suc, List, [], ◌∷◌, ◌++◌, length, replicate, Contains, None}
use Rattle.std.proofs.Common.{arith, refl, sym, ap, ◌∙◌, subst, inr}
use Rattle.gf_frac.specs.Fraction.{◌+ℚ◌, zero_ℚ}
use Rattle.gf_frac.specs.Fits.{Fits}
use Rattle.gf_frac.specs.declared.refusal.Op.{Op}
use Rattle.gf_frac.proofs.FractionLaws.{+ℚ_assoc, +ℚ_comm, +ℚ-zero, zero-+ℚ}
use Rattle.gf_exponents_theory.specs.Exponents.{Exponents}
use Rattle.gf_poly.specs.declared.Term.{Term}
use Rattle.gf_poly.specs.declared.error.PolyError.{PolyError}
use Rattle.gf_poly.specs.declared.error.PolyError.TheVariants as errors
use Rattle.gf_poly.specs.Polynomial.{Terms, coefficient, times, SamePolynomial, IsDescending, HasVariables, KeepsVariables}
use Rattle.gf_poly.specs.Marking.{MarkedPolynomial, Each}
use Rattle.gf_poly.proofs.PolynomialLaws.{coefficient-++}
use Rattle.gf_poly.proofs.DescendingLaws.{HasVariables-push}
use Rattle.gf_ideal_theory.specs.Settled.{IsAt}
use Rattle.gf_ideal_theory.proofs.StepLaws.{step-back}
use Rattle.gf_ideal_theory.proofs.ProductLaws.{poly_product, poly_product-turned, poly_product-equal}
use Rattle.gf_division.specs.NormalForms.{HaveSameVariables}
use Rattle.gf_division.specs.Divisions.{product_of, cofactor_sum, no_quotients, with_quotient, IsDivisionByRule, AreForms, AreSums, KeepForms, HaveVariablesOf}
use Rattle.gf_division.specs.Divisions.{IsSumRefusal, IsDivisionRefusal}
use Rattle.gf_division.specs.Dividends.{Split, joined_terms, TakesStep}
use Rattle.gf_division.proofs.DividendLaws.{first_head, first_length}
use Rattle.gf_division.proofs.RuleLaws.{RuleFacts, rule_step}
use Rattle.gf_division.proofs.NormalFormLaws.{NormalForming, normal_forming-none, normal_forming-more}
use Rattle.gf_division.proofs.SubtractionLaws.{swap_last}

-- ---- lists of quotients

pub no_quotients-replicate : (bs : List MarkedPolynomial) → no_quotients bs ≡ replicate (length bs) []
no_quotients-replicate [] = refl
no_quotients-replicate (b ∷ bs) = ap (λ (z : List Terms). [] ∷ z) (no_quotients-replicate bs)

length-no_quotients : (bs : List MarkedPolynomial) → length (no_quotients bs) ≡ length bs
length-no_quotients [] = refl
length-no_quotients (b ∷ bs) = ap suc (length-no_quotients bs)

length-with_quotient : (qs : List Terms) (k : ℕ) (t : Term) → length (with_quotient qs k t) ≡ length qs
length-with_quotient [] k t = refl
length-with_quotient (q ∷ qs) zero t = refl
length-with_quotient (q ∷ qs) (suc k) t = ap suc (length-with_quotient qs k t)

none-variables : (n : ℕ) (bs : List MarkedPolynomial) → Each (HasVariables n) (no_quotients bs)
none-variables n [] = tt
none-variables n (b ∷ bs) = (tt, none-variables n bs)

with-variables : (n : ℕ) (qs : List Terms) (k : ℕ) (t : Term) → Each (HasVariables n) qs → length t.mono ≡ n → Each (HasVariables n) (with_quotient qs k t)
with-variables n [] k t h e = tt
with-variables n (q ∷ qs) zero t h e = (HasVariables-push n q t h.0 e, h.1)
with-variables n (q ∷ qs) (suc k) t h e = (h.0, with-variables n qs k t h.1 e)

-- ---- the loop

-- what holds after some steps
pub record Dividing (bs : List MarkedPolynomial) (f : Terms) (s : Split) (qs : List Terms) : Type 0 where
  pub form : NormalForming bs f s
  pub divided : IsDivisionByRule bs f qs (joined_terms s)
  pub indices : length qs ≡ length bs
  pub variables : HaveVariablesOf f qs

pub dividing-none : (bs : List MarkedPolynomial) (f : Terms) (s : Split) (qs : List Terms) (n : ℕ) → HaveSameVariables f bs → IsDescending f →
    s ≡ record { above = []; below = f } → n ≡ length bs → qs ≡ replicate n [] → Dividing bs f s qs
dividing-none bs f s qs n v d e l q = subst (Dividing bs f s) (sym (q ∙ ap (λ (m : ℕ). replicate m []) l ∙ sym (no_quotients-replicate bs))) (record {
  form = normal_forming-none bs f s v d e;
  divided = subst (IsDivisionByRule bs f (no_quotients bs)) (sym (ap joined_terms e)) IsDivisionByRule.here;
  indices = length-no_quotients bs;
  variables = record { at = λ m h. none-variables m bs };
})

pub dividing-more : (bs : List MarkedPolynomial) (f : Terms) (old s t : Split) (qs rs : List Terms) (j : ℕ) (b : MarkedPolynomial) (q : Term) →
    joined_terms s ≡ joined_terms old → RuleFacts bs None s j b → TakesStep b s q t → rs ≡ with_quotient qs j q → Dividing bs f old qs → Dividing bs f t rs
dividing-more bs f old s t qs rs j b q e k w r h = subst (Dividing bs f t) (sym r) (record {
  form = normal_forming-more bs f old s t j b q e k w h.form;
  divided = subst (λ (z : Term). IsDivisionByRule bs f (with_quotient qs j z) (joined_terms t)) quotient
      (IsDivisionByRule.next qs (joined_terms s) (joined_terms t) (subst (IsDivisionByRule bs f qs) (sym e) h.divided) (rule_step bs s t j b q k w));
  indices = length-with_quotient qs j q ∙ h.indices;
  variables = record {
    at = λ n v. with-variables n qs j q (h.variables.at n v) (w.variables ∙ k.found.head ∙ first_length n s k.found.term
        (record { descending = k.found.variables.sound.descending; variables = subst (HasVariables n) (sym e) (h.form.kept.at n v) }) k.found.is);
  };
})
  where
    quotient : record { coef = coefficient (joined_terms s) k.found.term.mono; mono = q.mono } ≡ q
    quotient = λ i. record { coef = (ap (coefficient (joined_terms s)) (first_head _ k.found.term k.found.is) ∙ w.coefficient_is) i; mono = q.mono }

-- ---- products

product-is : (h g : Terms) → product_of h g ≡ poly_product h g
product-is [] g = refl
product-is (t ∷ h) g = ap (λ (z : Terms). times t.coef t.mono g ++ z) (product-is h g)

-- equal factors have equal products
product-equal : (h k g : Terms) → SamePolynomial h k → SamePolynomial (product_of h g) (product_of k g)
product-equal h k g s y =
    ap (λ (z : Terms). coefficient z y) (product-is h g) ∙ poly_product-turned h g y ∙ poly_product-equal g h k s y ∙ poly_product-turned g k y
    ∙ ap (λ (z : Terms). coefficient z y) (sym (product-is k g))

-- one term more
product-push : (q : Terms) (t : Term) (g : Terms) (y : Exponents) →
    coefficient (product_of (q ++ t ∷ []) g) y ≡ coefficient (product_of q g) y +ℚ coefficient (times t.coef t.mono g) y
product-push [] t g y = coefficient-++ (times t.coef t.mono g) [] y ∙ +ℚ-zero _ ∙ sym (zero-+ℚ _)
product-push (s ∷ q) t g y =
    coefficient-++ (times s.coef s.mono g) (product_of (q ++ t ∷ []) g) y
    ∙ ap (λ z. coefficient (times s.coef s.mono g) y +ℚ z) (product-push q t g y) ∙ sym (+ℚ_assoc _ _ _)
    ∙ ap (λ z. z +ℚ coefficient (times t.coef t.mono g) y) (sym (coefficient-++ (times s.coef s.mono g) (product_of q g) y))

-- one quotient more of the member at k
sum-more : (qs : List Terms) (bs : List MarkedPolynomial) (k : ℕ) (b : MarkedPolynomial) (t : Term) (y : Exponents) → length qs ≡ length bs → IsAt bs k b →
    coefficient (cofactor_sum (with_quotient qs k t) bs) y ≡ coefficient (cofactor_sum qs bs) y +ℚ coefficient (times t.coef t.mono b.poly) y
sum-more [] [] k b t y l a = absurd (omega (arith, a.within))
sum-more [] (c ∷ bs) k b t y l a = absurd (omega arith)
sum-more (q ∷ qs) [] k b t y l a = absurd (omega arith)
sum-more (q ∷ qs) (c ∷ bs) zero b t y l a =
    coefficient-++ (product_of (q ++ t ∷ []) c.poly) (cofactor_sum qs bs) y
    ∙ ap (λ z. z +ℚ coefficient (cofactor_sum qs bs) y) (product-push q t c.poly y)
    ∙ swap_last _ _ _
    ∙ ap (λ z. z +ℚ coefficient (times t.coef t.mono c.poly) y) (sym (coefficient-++ (product_of q c.poly) (cofactor_sum qs bs) y))
    ∙ ap (λ (d : MarkedPolynomial). coefficient (cofactor_sum (q ∷ qs) (c ∷ bs)) y +ℚ coefficient (times t.coef t.mono d.poly) y) a.is
sum-more (q ∷ qs) (c ∷ bs) (suc k) b t y l a =
    coefficient-++ (product_of q c.poly) (cofactor_sum (with_quotient qs k t) bs) y
    ∙ ap (λ z. coefficient (product_of q c.poly) y +ℚ z) (sum-more qs bs k b t y (omega arith) (record { within = omega (arith, a.within); is = a.is }))
    ∙ sym (+ℚ_assoc _ _ _)
    ∙ ap (λ z. z +ℚ coefficient (times t.coef t.mono b.poly) y) (sym (coefficient-++ (product_of q c.poly) (cofactor_sum qs bs) y))

sum-none : (bs : List MarkedPolynomial) (y : Exponents) → coefficient (cofactor_sum (no_quotients bs) bs) y ≡ zero_ℚ
sum-none [] y = refl
sum-none (b ∷ bs) y = sum-none bs y

divided-indices : (bs : List MarkedPolynomial) (f : Terms) (qs : List Terms) (g : Terms) → IsDivisionByRule bs f qs g → length qs ≡ length bs
divided-indices bs f qs g IsDivisionByRule.here = length-no_quotients bs
divided-indices bs f qs g (IsDivisionByRule.next rs k l d s) =
    length-with_quotient rs s.index (record { coef = coefficient k s.at; mono = s.rest }) ∙ divided-indices bs f rs k d

-- f is what is left and the sum of the quotients times the members
pub divided-sum : (bs : List MarkedPolynomial) (f : Terms) (qs : List Terms) (g : Terms) → IsDivisionByRule bs f qs g →
    SamePolynomial f (g ++ cofactor_sum qs bs)
divided-sum bs f qs g IsDivisionByRule.here y = sym (coefficient-++ f (cofactor_sum (no_quotients bs) bs) y ∙ ap (λ z. coefficient f y +ℚ z) (sum-none bs y) ∙
    +ℚ-zero _)
divided-sum bs f qs g (IsDivisionByRule.next rs k l d s) y =
    let t : Term = record { coef = coefficient k s.at; mono = s.rest } in
    divided-sum bs f rs k d y ∙ coefficient-++ k (cofactor_sum rs bs) y
    ∙ ap (λ z. z +ℚ coefficient (cofactor_sum rs bs) y) (step-back (Contains bs) k g (record {
      at = s.at;
      member = s.member;
      rest = s.rest;
      contained = (s.index, s.contained.within, s.contained.is);
      there = s.there;
      divides = s.divides;
      equal = s.equal;
    }) y ∙ coefficient-++ g (times t.coef t.mono s.member.poly) y)
    ∙ +ℚ_assoc _ _ _
    ∙ ap (λ z. coefficient g y +ℚ z) (+ℚ_comm _ _ ∙ sym (sum-more rs bs s.index s.member t y (divided-indices bs f rs k d) s.contained))
    ∙ sym (coefficient-++ g (cofactor_sum (with_quotient rs s.index t) bs) y)

-- the sums in place of the quotients
sum-equal : (qs hs : List Terms) (bs : List MarkedPolynomial) → AreSums qs hs → SamePolynomial (cofactor_sum qs bs) (cofactor_sum hs bs)
sum-equal [] [] bs a y = refl
sum-equal [] (h ∷ hs) bs a y = elim a [ ]
sum-equal (q ∷ qs) [] bs a y = elim a [ ]
sum-equal (q ∷ qs) (h ∷ hs) [] a y = refl
sum-equal (q ∷ qs) (h ∷ hs) (b ∷ bs) a y =
    coefficient-++ (product_of q b.poly) (cofactor_sum qs bs) y
    ∙ ap (λ z. z +ℚ coefficient (cofactor_sum qs bs) y) (product-equal q h b.poly (λ x. sym (a.0 x)) y)
    ∙ ap (λ z. coefficient (product_of h b.poly) y +ℚ z) (sum-equal qs hs bs a.1 y)
    ∙ sym (coefficient-++ (product_of h b.poly) (cofactor_sum hs bs) y)

cofactor_sum_is : (bs : List MarkedPolynomial) (f r : Terms) (qs hs : List Terms) → IsDivisionByRule bs f qs r → AreSums qs hs →
    SamePolynomial f (r ++ cofactor_sum hs bs)
cofactor_sum_is bs f r qs hs d a y =
    divided-sum bs f qs r d y ∙ coefficient-++ r (cofactor_sum qs bs) y ∙ ap (λ z. coefficient r y +ℚ z) (sum-equal qs hs bs a y)
    ∙ sym (coefficient-++ r (cofactor_sum hs bs) y)

sums-length : (qs hs : List Terms) → AreSums qs hs → length hs ≡ length qs
sums-length [] [] a = refl
sums-length [] (h ∷ hs) a = elim a [ ]
sums-length (q ∷ qs) [] a = elim a [ ]
sums-length (q ∷ qs) (h ∷ hs) a = ap suc (sums-length qs hs a.1)

-- ---- refusals

sum_division_refused : (bs : List MarkedPolynomial) (f r : Terms) (qs : List Terms) (e : PolyError) → IsDivisionByRule bs f qs r → IsSumRefusal qs e →
    IsDivisionRefusal bs f e
sum_division_refused bs f r qs (errors.Overflow o) d h =
    let k = h.2 in (
      inr (record {
        is_op = k.operation;
        quotients = qs;
        rest = r;
        divided = d;
        of_member = h.0;
        contained = h.1;
        at = k.at;
        earlier = k.earlier;
        last = k.last;
        later = k.later;
        some = k.some;
        split = k.split;
        is_left = k.left;
        is_right = k.right;
      }),
      subst (λ (p : Op). ¬ (Fits p o.left o.right)) (sym k.operation) k.leaves,
    )
sum_division_refused bs f r qs (errors.Exponent o) d h = absurd h
sum_division_refused bs f r qs errors.Memory d h = tt

-- ---- the members of a set

divided_along : (bs cs : List MarkedPolynomial) (f g r : Terms) (qs : List Terms) → cs ≡ bs → g ≡ f → IsDivisionByRule cs g qs r → IsDivisionByRule bs f qs r
divided_along bs cs f g r qs e q d = subst (λ (h : Terms). IsDivisionByRule bs h qs r) q (subst (λ (ds : List MarkedPolynomial). IsDivisionByRule ds g qs r)
    e d)

pub sum_at : (bs cs : List MarkedPolynomial) (f g r : Terms) (qs hs ks : List Terms) → cs ≡ bs → g ≡ f → ks ≡ hs → IsDivisionByRule cs g qs r → AreSums qs hs →
    SamePolynomial f (r ++ cofactor_sum ks bs)
sum_at bs cs f g r qs hs ks e q l d a = cofactor_sum_is bs f r qs ks (divided_along bs cs f g r qs e q d) (subst (AreSums qs) (sym l) a)

pub sums_refused : (bs cs : List MarkedPolynomial) (f g r : Terms) (qs : List Terms) (x : PolyError) → cs ≡ bs → g ≡ f → IsDivisionByRule cs g qs r →
    IsSumRefusal qs x → IsDivisionRefusal bs f x
sums_refused bs cs f g r qs x e q d h = sum_division_refused bs f r qs x (divided_along bs cs f g r qs e q d) h

pub variables_at : (n : ℕ) (f g r : Terms) → g ≡ f → HasVariables n f → KeepsVariables g r → HasVariables n r
variables_at n f g r q v k = k.at n (subst (HasVariables n) (sym q) v)

pub indices_at : (bs cs : List MarkedPolynomial) (f g r : Terms) (qs hs ks : List Terms) → cs ≡ bs → g ≡ f → ks ≡ hs → IsDivisionByRule cs g qs r →
    AreSums qs hs → length ks ≡ length bs
indices_at bs cs f g r qs hs ks e q l d a = ap length l ∙ sums-length qs hs a ∙ divided-indices cs g qs r d ∙ ap length e

pub forms_at : (n : ℕ) (f g : Terms) (qs hs ks : List Terms) → g ≡ f → ks ≡ hs → HasVariables n f → HaveVariablesOf g qs → KeepForms qs hs → AreForms n ks
forms_at n f g qs hs ks q l v h k = subst (AreForms n) (sym l) (k.at n (h.at n (subst (HasVariables n) (sym q) v)))
