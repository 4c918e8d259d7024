-- The search for the first member whose mark divides a monomial, and for a term that a member reduces.
-- To cite: NoneDivides, divisor_at, divides-degree, beside_by_test, not_beside_by_test, Seeking, seeking-more.
use Rattle.std.specs.Prelude.{◌≡◌, ℕ, ◌<◌, ◌≤◌, Bool, true, false, List, [], ◌∷◌, length, Contains, Some, IsTrue, not}
use Rattle.std.specs.declared.option.Option.{Option}
use Rattle.std.proofs.Common.{arith, refl, sym, ap, ◌∙◌, subst, get_or}
use Rattle.std.proofs.lemmas.List.{get_or_default}
use Rattle.std.proofs.lemmas.Slice.Eq.{slice_eq-Decides}
use Rattle.std.proofs.lemmas.Bool.Decides.{Decides-eqb}
use Rattle.std.specs.Bool.{Decides}
use lib.Pointwise.{pointwise}
use lib.Dec.{eqb}
use Rattle.gf_exponents_theory.specs.Exponents.{Exponents, same, plus, Divides, degree}
use Rattle.gf_exponents_theory.proofs.WeightLaws.{degree-plus, degree-same}
use Rattle.gf_exponents_theory.proofs.ExponentsLaws.{same-refl}
use Rattle.gf_poly.specs.declared.Term.{Term}
use Rattle.gf_poly.specs.Polynomial.{Terms, IsDescending, HasVariables}
use Rattle.gf_poly.specs.Marking.{MarkedPolynomial, HaveVariables, HasMarkedTerm}
use Rattle.gf_poly.proofs.CoefficientLaws.{apart}
use Rattle.gf_ideal_theory.specs.Reduction.{IsDivisible}
use Rattle.gf_ideal_theory.specs.Settled.{IsAt}
use Rattle.gf_ideal_theory.proofs.ListLaws.{Each-++, contained_each}
use Rattle.gf_division.specs.Dividends.{Split, joined_terms, IsTermInFront, PassesOne}
use Rattle.gf_division.specs.Reducers.{IsDivisorAt, IsBeside, IsSpareIn, AreIrreducible, ShareVariables}
use Rattle.gf_division.specs.MonicForms.{HasSomeVariables}
use Rattle.gf_division.proofs.DividendLaws.{terms_down, first_length}
use Rattle.gf_division.proofs.StepLaws.{head_length}
pub use Rattle.gf_ideal_theory.proofs.DividingLaws.{member_contained}

-- ---- members

-- no mark of the members before j divides x
pub record NoneDivides (bs : List MarkedPolynomial) (j : ℕ) (x : Exponents) : Type 0 where
  pub none : (i : ℕ) (b : MarkedPolynomial) → i < j → IsAt bs i b → Divides b.head x → ⊥

-- the member at an index
pub member_at : (bs : List MarkedPolynomial) (j : ℕ) (b : MarkedPolynomial) → j < length bs → b ≡ get_or bs j b → IsAt bs j b
member_at bs j b l e = record { within = l; is = sym e }

pub members_equal : (bs : List MarkedPolynomial) (j : ℕ) (b c : MarkedPolynomial) → IsAt bs j b → IsAt bs j c → b ≡ c
members_equal bs j b c h k = sym h.is ∙ get_or_default bs j b c h.within ∙ k.is

pub member_variables : (n : ℕ) (bs : List MarkedPolynomial) (b : MarkedPolynomial) → HaveVariables n bs → Contains bs b → HasVariables n b.poly
member_variables n bs b v c = contained_each (λ (b : MarkedPolynomial). HasVariables n b.poly) bs v b c

-- it has some, as one of a list that is read
pub some_variables : (n : ℕ) (bs items : List MarkedPolynomial) (i : ℕ) (b : MarkedPolynomial) → items ≡ bs → HaveVariables n bs → i < length items →
    b ≡ get_or items i b → HasSomeVariables b
some_variables n bs items i b e v l q = record {
  n = n;
  each = member_variables n items b (subst (HaveVariables n) (sym e) v) (member_contained items i b (record { within = l; is = sym q }));
}

pub member_length : (n j : ℕ) (bs : List MarkedPolynomial) (b : MarkedPolynomial) → HaveVariables n bs → IsAt bs j b → HasMarkedTerm b → length b.head ≡ n
member_length n j bs b v h m = head_length n b (member_variables n bs b v (member_contained bs j b h)) m

pub divisor_at : (bs : List MarkedPolynomial) (x h : Exponents) (j : ℕ) (b : MarkedPolynomial) → HaveVariables (length x) bs → IsAt bs j b → HasMarkedTerm b →
    h ≡ b.head → Divides h x → NoneDivides bs j x → IsDivisorAt bs x j
divisor_at bs x h j b v a m e d k = record {
  member = b;
  at = a;
  divides = subst (λ y. Divides y x) e d;
  first = k.none;
  head = member_length (length x) j bs b v a m;
  poly = member_variables (length x) bs b v (member_contained bs j b a);
}

-- a mark of greater degree doesn't divide
pub divides-degree : (h x : Exponents) → Divides h x → degree h ≤ degree x
divides-degree h x d = omega (arith, degree-same x (plus d.rest h) d.product, degree-plus d.rest h)

-- ---- the spared monomial, by a test of lists

pub beside_by_test : (spared : Option Exponents) (x y a b : Exponents) (r : Bool) → spared ≡ Some y → IsSpareIn (length x) spared → a ≡ y → b ≡ x →
    r ≡ not (pointwise eqb a b) → IsTrue r → IsBeside spared x
beside_by_test spared x y a b r e l ea eb er t =
    let m : length y ≡ length x = subst (IsSpareIn (length x)) e l in
    subst (λ z. IsBeside z x) (sym e) (apart x y (sym m) (λ q. differ (sym er ∙ t) (slice_eq-Decides Decides-eqb a b (pointwise eqb a b) refl)
    (ea ∙ sym q ∙ sym eb)))
  where
    differ : not (pointwise eqb a b) ≡ true → Decides (pointwise eqb a b) (a ≡ b) → a ≡ b → ⊥
    differ n d q = let m : not (pointwise eqb a b) ≡ false = ap not (d.1 q) in cc

pub not_beside_by_test : (spared : Option Exponents) (x y a b : Exponents) (r : Bool) → spared ≡ Some y → a ≡ y → b ≡ x → r ≡ not (pointwise eqb a b) →
    r ≡ false → IsBeside spared x → ⊥
not_beside_by_test spared x y a b r e ea eb er f h = differ (here (pointwise eqb a b) refl (sym er ∙ f)) (subst (λ z. IsBeside z x) e h)
  where
    here : (p : Bool) → pointwise eqb a b ≡ p → not p ≡ false → a ≡ b
    here true q n = (slice_eq-Decides Decides-eqb a b (pointwise eqb a b) refl).0 q
    here false q n = absurd (cc)

    differ : a ≡ b → same x y ≡ false → ⊥
    differ q n = let m : same x y ≡ true = ap (same x) (sym ea ∙ q ∙ eb) ∙ same-refl x in cc

-- ---- the search

-- old became new as irreducible terms went above the index
pub record Seeking (bs : List MarkedPolynomial) (spared : Option Exponents) (old new : Split) : Type 0 where
  pub same : joined_terms new ≡ joined_terms old
  pub variables : ShareVariables new bs spared
  pub above : AreIrreducible bs spared new.above

pub seeking-more : (bs : List MarkedPolynomial) (spared : Option Exponents) (old now new : Split) (t : Term) → IsTermInFront now.below t →
    (IsBeside spared t.mono → IsDivisible (Contains bs) t.mono → ⊥) → PassesOne now new → Seeking bs spared old now → Seeking bs spared old new
seeking-more bs spared old now new t f n a k =
    let e : joined_terms new ≡ joined_terms now = terms_down now new a in
    let q : t ≡ a.term = first_equal (sym f.is ∙ a.below) in
    record {
      same = e ∙ k.same;
      variables = record {
        n = k.variables.n;
        sound = record {
          descending = subst IsDescending (sym e) k.variables.sound.descending;
          variables = subst (HasVariables k.variables.n) (sym e) k.variables.sound.variables;
        };
        members = k.variables.members;
        spare = k.variables.spare;
      };
      above = subst (AreIrreducible bs spared) (sym a.above) (Each-++ (λ (t : Term). IsBeside spared t.mono → IsDivisible (Contains bs) t.mono → ⊥) now.above
          (a.term ∷ []) k.above (subst (λ (s : Term). IsBeside spared s.mono → IsDivisible (Contains bs) s.mono → ⊥) q n, tt));
    }
  where
    first_equal : {f g : Terms} {s t : Term} → ◌≡◌ {A = Terms} (s ∷ f) (t ∷ g) → s ≡ t
    first_equal e = cc

-- the first term below the index has the variables of the members and of the spared monomial
pub first_members : (s : Split) (bs : List MarkedPolynomial) (spared : Option Exponents) (t : Term) → ShareVariables s bs spared → IsTermInFront s.below t →
    HaveVariables (length t.mono) bs
first_members s bs spared t v f = subst (λ (n : ℕ). HaveVariables n bs) (sym (first_length v.n s t v.sound f)) v.members

pub first_spare : (s : Split) (bs : List MarkedPolynomial) (spared : Option Exponents) (t : Term) → ShareVariables s bs spared → IsTermInFront s.below t →
    IsSpareIn (length t.mono) spared
first_spare s bs spared t v f = subst (λ (n : ℕ). IsSpareIn n spared) (sym (first_length v.n s t v.sound f)) v.spare
