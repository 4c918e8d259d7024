-- What is left by a reduction in whole numbers: the monic form of a remainder is that of its multiple.
-- To cite: pair_comparable, pair_left, entry_left, multiples_more.
use Rattle.std.specs.Prelude.{◌≡◌, ◌≢◌, ℕ, suc, ◌+◌, ◌<◌, List, [], ◌∷◌, ◌++◌, length, None, Some}
use Rattle.std.specs.declared.option.Option.{Option}
use Rattle.std.proofs.Common.{arith, refl, sym, ap, ◌∙◌, get_or, take}
use Rattle.std.proofs.lemmas.List.{take_more}
use Rattle.gf_frac.specs.Fraction.{Fraction, ◌*ℚ◌, zero_ℚ}
use Rattle.gf_frac.proofs.FractionLaws.{*ℚ_assoc}
use Rattle.gf_exponents_theory.specs.SixOrders.{MonomialOrder}
use Rattle.gf_order.specs.Comparisons.{HasEntries}
use Rattle.gf_poly.specs.Polynomial.{Terms, coefficient, times, HasVariables, KeepsVariables}
use Rattle.gf_poly.specs.Marking.{MarkedPolynomial}
use Rattle.gf_poly.proofs.ProductLaws.{nonzero_product, HasVariables-scale}
use Rattle.gf_ideal_theory.specs.Reduction.{IsMonicForm}
use Rattle.gf_division.specs.NormalForms.{HasSomeWeight}
use Rattle.gf_division.specs.SPolynomials.{KeepsPairVariables}
use Rattle.gf_whole_division.specs.Reductions.{IsRemainderMultiple, IsPairRemainderMultiple}
use Rattle.gf_whole_division.proofs.FactorLaws.{times-coefficient}
use Rattle.gf_buchberger.specs.Generators.{IsLeftByMembers}
use Rattle.gf_buchberger.specs.Leading.{IsComparable}
use Rattle.gf_buchberger.specs.Runs.{MembersHaveVariables, IsLeftMember, IsLeftOfMembers}
use Rattle.gf_buchberger.proofs.ReducedPairLaws.{AreRead, s_polynomial_variables}

-- ---- a multiple

not_empty : (k : Fraction) (p : Terms) → p ≢ [] → times k [] p ≢ []
not_empty k [] n z = n refl
not_empty k (t ∷ p) n z = let e : suc (length (times k [] p)) ≡ 0 = ap length z in absurd (omega (arith, e))

variables_of_multiple : (n : ℕ) (k : Fraction) (p : Terms) → HasVariables n (times k [] p) → HasVariables n p
variables_of_multiple n k [] h = tt
variables_of_multiple n k (t ∷ p) h = (h.0, variables_of_multiple n k p h.1)

monic_of_multiple : (k : Fraction) (p : Terms) (b : MarkedPolynomial) → k ≢ zero_ℚ → IsMonicForm p b → IsMonicForm (times k [] p) b
monic_of_multiple k p b n m = record {
  there = λ z. nonzero_product k (coefficient p b.head) n m.there (sym (times-coefficient k p b.head) ∙ z);
  equation = λ x.
      ap (λ z. z *ℚ coefficient b.poly x) (times-coefficient k p b.head) ∙ *ℚ_assoc k (coefficient p b.head) (coefficient b.poly x)
      ∙ ap (λ z. k *ℚ z) (m.equation x) ∙ sym (times-coefficient k p x);
}

-- what is left of a polynomial is left of its multiple
left_of_multiple : (order : MonomialOrder) (k : Fraction) (p : Terms) (o : Option MarkedPolynomial) → k ≢ zero_ℚ → IsLeftMember order p o →
    IsLeftMember order (times k [] p) o
left_of_multiple order k p None n h = ap (times k []) h
left_of_multiple order k p (Some b) n h = (
  not_empty k p h.0,
  record {
    monic = monic_of_multiple k p b n h.1.monic;
    marked = h.1.marked;
    poly = λ m v. h.1.poly m (variables_of_multiple m k p v);
    head = λ m v. h.1.head m (variables_of_multiple m k p v);
  },
)

-- ---- an S-polynomial

pub pair_comparable : (order : MonomialOrder) (n : ℕ) (bs : List MarkedPolynomial) (i j : ℕ) (b c : MarkedPolynomial) (p : Terms) → MembersHaveVariables n bs →
    AreRead bs i j b c → HasEntries n order → KeepsPairVariables b c p → IsComparable order p
pair_comparable order n bs i j b c p v r e k = record { n = n; each = s_polynomial_variables n bs i j b c p v r k; entries = e }

pub pair_left : (order : MonomialOrder) (bs : List MarkedPolynomial) (i j : ℕ) (b c : MarkedPolynomial) (p : Terms) (o : Option MarkedPolynomial) →
    AreRead bs i j b c → HasSomeWeight bs → IsPairRemainderMultiple bs b c p → KeepsPairVariables b c p → IsLeftMember order p o →
    IsLeftOfMembers order bs i j o
pair_left order bs i j b c p o r w h k l = record {
  b = b;
  c = c;
  at_i = r.at_i;
  at_j = r.at_j;
  s = h.s;
  is_s = h.is_s;
  r = times h.remainder.factor [] p;
  normal = h.remainder.is;
  rule = h.remainder.normal_form w;
  variables = λ n v. HasVariables-scale n h.remainder.factor p (s_polynomial_variables n bs i j b c p v r k);
  is_left = left_of_multiple order h.remainder.factor p o h.remainder.nonzero l;
}

-- ---- a generator

pub entry_left : (order : MonomialOrder) (bs : List MarkedPolynomial) (f p : Terms) (o : Option MarkedPolynomial) → HasSomeWeight bs →
    IsRemainderMultiple bs f p → KeepsVariables f p → IsLeftMember order p o → IsLeftByMembers order bs f o
entry_left order bs f p o w h k l = record {
  r = times h.factor [] p;
  normal = h.is;
  rule = h.normal_form w;
  variables = record { at = λ n v. HasVariables-scale n h.factor p (k.at n v) };
  is_left = left_of_multiple order h.factor p o h.nonzero l;
}

-- ---- the list of the multiples

pub multiples_more : (new old all : List MarkedPolynomial) (i : ℕ) (b m : MarkedPolynomial) → new ≡ old ++ m ∷ [] → m ≡ b → i < length all →
    b ≡ get_or all i b → old ≡ take i all → new ≡ take (i + 1) all
multiples_more new old all i b m e q l is h =
    e ∙ ap (λ (z : List MarkedPolynomial). z ++ m ∷ []) h ∙ ap (λ (z : MarkedPolynomial). take i all ++ z ∷ []) (q ∙ is) ∙ sym (take_more all i b l)
