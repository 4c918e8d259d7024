-- Normal forms by the rule: they are remainders, and a polynomial has one at most.
-- To cite: normal_form-reached, normal_form-unique.
use Rattle.std.proofs.Common.{◌≡◌, ◌⊎◌, ℕ, true, false, List, Contains, slice_index_or, arith, refl, sym, ap, ◌∙◌, subst, inl, inr}
use Rattle.std.proofs.lemmas.Bool.{cases_lt}
use Rattle.gf_frac.specs.Fraction.{◌+ℚ◌, neg_ℚ}
use Rattle.gf_exponents_theory.specs.Exponents.{Exponents, same, plus, NoMultiple}
use Rattle.gf_exponents_theory.specs.Orders.{IsDeglexBelow}
use Rattle.gf_exponents_theory.proofs.ExponentsLaws.{plus_comm, same-refl, same_flip, same_trans, cancel}
use Rattle.gf_exponents_theory.proofs.OrderLaws.{deglex-order}
use Rattle.gf_poly.specs.Polynomial.{Terms, coefficient, SamePolynomial, times}
use Rattle.gf_poly.specs.Marking.{MarkedPolynomial}
use Rattle.gf_poly.proofs.PolynomialLaws.{coefficient-++, coefficient-same}
use Rattle.gf_ideal_theory.specs.Membership.{HasMonomial}
use Rattle.gf_ideal_theory.specs.Reduction.{IsDivisible, IsIrreducible, IsStep, Reached}
use Rattle.gf_ideal_theory.specs.NormalForms.{IsRuleStep, IsRuleReached, IsNormalForm}
use Rattle.gf_ideal_theory.proofs.SettledLaws.{times_along, default}

-- ---- the rule's steps are steps

pub step-of_rule : (bs : List MarkedPolynomial) (f g : Terms) → IsRuleStep bs f g → IsStep (Contains bs) f g
step-of_rule bs f g s = record {
  at = s.at;
  member = s.member;
  rest = s.rest;
  contained = (s.index, s.contained.within, s.contained.is);
  there = s.there;
  divides = s.divides;
  equal = s.equal;
}

-- what the rule reaches is reached
pub normal_form-reached : (bs : List MarkedPolynomial) (f g : Terms) → IsRuleReached bs f g → Reached (Contains bs) f g
normal_form-reached bs f g (IsRuleReached.here k e) = Reached.here k e
normal_form-reached bs f g (IsRuleReached.next k l r s) = Reached.next k l (normal_form-reached bs f k r) (step-of_rule bs k g s)

-- ---- one step at most

pub no_divisor : (x h u : Exponents) → NoMultiple h x → same x (plus u h) ≡ true → ⊥
no_divisor x h u n d = let f : same x (plus h u) ≡ false = n u in let t : same x (plus h u) ≡ true = ap (same x) (plus_comm h u) ∙ d in absurd (cc)

divisible : (bs : List MarkedPolynomial) (f g : Terms) (s : IsRuleStep bs f g) → IsDivisible (Contains bs) s.at
divisible bs f g s = record { member = s.member; contained = (s.index, s.contained.within, s.contained.is); rest = s.rest; divides = s.divides }

monomial-along : (f g : Terms) (x : Exponents) → SamePolynomial f g → HasMonomial f x → HasMonomial g x
monomial-along f g x e m z = m (e x ∙ z)

-- two greatest ones are the same
both_greatest : (x y : Exponents) → (same x y ≡ true) ⊎ IsDeglexBelow x y → (same y x ≡ true) ⊎ IsDeglexBelow y x →
    same x y ≡ true
both_greatest x y (inl s) q = s
both_greatest x y (inr l) (inl s) = same_flip y x s
both_greatest x y (inr l) (inr m) = absurd (deglex-order.strict.irreflexive x x (same-refl x) (deglex-order.strict.transitive x y x l m))

-- the rule takes equal polynomials to equal polynomials
rule-function : (bs : List MarkedPolynomial) (f g h k : Terms) → SamePolynomial f g → IsRuleStep bs f h →
    IsRuleStep bs g k → SamePolynomial h k
rule-function bs f g h k e s t = finish index
  where
    at : same s.at t.at ≡ true
    at = both_greatest s.at t.at (t.greatest s.at (monomial-along f g s.at e s.there) (divisible bs f h s))
        (s.greatest t.at (monomial-along g f t.at (λ x. sym (e x)) t.there) (divisible bs g k t))

    index : s.index ≡ t.index
    index = elim (cases_lt s.index t.index) [
      | inl l ↦ absurd (no_divisor t.at s.member.head s.rest (t.first s.index s.member l s.contained)
          (same_trans t.at s.at (plus s.rest s.member.head) (same_flip s.at t.at at) s.divides))
      | inr m ↦ elim (cases_lt t.index s.index) [
        | inl l ↦ absurd (no_divisor s.at t.member.head t.rest (s.first t.index t.member l t.contained)
            (same_trans s.at t.at (plus t.rest t.member.head) at t.divides))
        | inr q ↦ omega arith
      ]
    ]

    finish : s.index ≡ t.index → SamePolynomial h k
    finish p = onto member
      where
        member : s.member ≡ t.member
        member = sym s.contained.is ∙ ap (λ (i : ℕ). slice_index_or bs i s.member) p ∙ default bs t.index s.member t.member t.contained.within ∙ t.contained.is

        onto : s.member ≡ t.member → SamePolynomial h k
        onto m x =
            s.equal x ∙ coefficient-++ f (times (neg_ℚ (coefficient f s.at)) s.rest s.member.poly) x
            ∙ ap (λ z. z +ℚ coefficient (times (neg_ℚ (coefficient f s.at)) s.rest s.member.poly) x) (e x)
            ∙ ap (λ z. coefficient g x +ℚ coefficient (times (neg_ℚ z) s.rest s.member.poly) x) (e s.at ∙ coefficient-same g s.at t.at at)
            ∙ ap (λ z. coefficient g x +ℚ z) (times_along (neg_ℚ (coefficient g t.at)) s.rest t.rest s.member.poly x rest)
            ∙ ap (λ (b : MarkedPolynomial). coefficient g x +ℚ coefficient (times (neg_ℚ (coefficient g t.at)) t.rest b.poly) x) m
            ∙ sym (coefficient-++ g (times (neg_ℚ (coefficient g t.at)) t.rest t.member.poly) x) ∙ sym (t.equal x)
          where
            rest : same s.rest t.rest ≡ true
            rest = cancel t.member.head s.rest t.rest
                (same_trans (plus s.rest t.member.head) s.at (plus t.rest t.member.head)
                (same_flip s.at (plus s.rest t.member.head) (subst (λ (b : MarkedPolynomial). same s.at (plus s.rest b.head) ≡ true) m s.divides))
                (same_trans s.at t.at (plus t.rest t.member.head) at t.divides))

-- ---- chains of steps, the first one in front

data IsRuleChain (bs : List MarkedPolynomial) : Terms → Terms → Type 0 where
  stop : (f g : Terms) → SamePolynomial f g → IsRuleChain bs f g
  go : (f g h : Terms) → IsRuleStep bs f g → IsRuleChain bs g h → IsRuleChain bs f h

chain-more : (bs : List MarkedPolynomial) (f g h : Terms) → IsRuleChain bs f g → IsRuleStep bs g h → IsRuleChain bs f h
chain-more bs f g h (IsRuleChain.stop k l e) s = IsRuleChain.go f h h (along s) (IsRuleChain.stop h h (λ x. refl))
  where
    -- the same step from an equal polynomial
    along : IsRuleStep bs g h → IsRuleStep bs f h
    along s = record {
      at = s.at;
      index = s.index;
      member = s.member;
      rest = s.rest;
      contained = s.contained;
      there = monomial-along g f s.at (λ x. sym (e x)) s.there;
      divides = s.divides;
      first = s.first;
      greatest = λ x m d. s.greatest x (monomial-along f g x e m) d;
      equal = λ x.
          s.equal x ∙ coefficient-++ g (times (neg_ℚ (coefficient g s.at)) s.rest s.member.poly) x
          ∙ ap (λ z. z +ℚ coefficient (times (neg_ℚ (coefficient g s.at)) s.rest s.member.poly) x) (sym (e x))
          ∙ ap (λ z. coefficient f x +ℚ coefficient (times (neg_ℚ z) s.rest s.member.poly) x) (sym (e s.at))
          ∙ sym (coefficient-++ f (times (neg_ℚ (coefficient f s.at)) s.rest s.member.poly) x);
    }
chain-more bs f g h (IsRuleChain.go k l m t c) s = IsRuleChain.go f l h t (chain-more bs l g h c s)

chain-of : (bs : List MarkedPolynomial) (f g : Terms) → IsRuleReached bs f g → IsRuleChain bs f g
chain-of bs f g (IsRuleReached.here k e) = IsRuleChain.stop f g e
chain-of bs f g (IsRuleReached.next k l r s) = chain-more bs f k g (chain-of bs f k r) s

-- an irreducible polynomial has no step
no_step : (bs : List MarkedPolynomial) (f g h : Terms) → SamePolynomial f g → IsIrreducible (Contains bs) g →
    IsRuleStep bs f h → ⊥
no_step bs f g h e i s = i s.at (monomial-along f g s.at e s.there) (divisible bs f h s)

chains-meet : (bs : List MarkedPolynomial) (f g r t : Terms) → SamePolynomial f g → IsRuleChain bs f r →
    IsRuleChain bs g t → IsIrreducible (Contains bs) r → IsIrreducible (Contains bs) t → SamePolynomial r t
chains-meet bs f g r t e (IsRuleChain.stop k l d) (IsRuleChain.stop m n c) i j = λ x. sym (d x) ∙ e x ∙ c x
chains-meet bs f g r t e (IsRuleChain.stop k l d) (IsRuleChain.go m n o s c) i j = absurd (no_step bs g r n (λ x. sym (e x) ∙ d x) i s)
chains-meet bs f g r t e (IsRuleChain.go k l m s c) (IsRuleChain.stop n o d) i j = absurd (no_step bs f t l (λ x. e x ∙ d x) j s)
chains-meet bs f g r t e (IsRuleChain.go k l m s c) (IsRuleChain.go n o p q d) i j = chains-meet bs l o r t (rule-function bs f g l o e s q) c d i j

-- equal polynomials have equal normal forms
pub normal_form-unique : (bs : List MarkedPolynomial) (f g r t : Terms) → SamePolynomial f g → IsNormalForm bs f r →
    IsNormalForm bs g t → SamePolynomial r t
normal_form-unique bs f g r t e p q = chains-meet bs f g r t e (chain-of bs f r p.reached) (chain-of bs g t q.reached) p.irreducible q.irreducible
