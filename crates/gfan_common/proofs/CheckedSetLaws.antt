-- Why a marked set isn't taken: each reason is told in one way, with the ring of the set.
-- To cite: lent_terms, printed_length, failing_once, offending_once; of_this_ring, named_test, named_check, named_numbers;
-- check_work, check_not_listed, poly_numbers, poly_untested, test_cause_untested, paired_once, paired_refutes;
-- reduced_refutes, reduced_once, named_reduced. The rest are steps.
use Rattle.std.specs.Prelude.{◌≡◌, ◌≢◌, ◌⊎◌, ℕ, ◌<◌, ◌≤◌, Bool, true, false, if◌then◌else◌, List, [], ◌∷◌, ◌++◌, length, map, Option, None, Some}
use Rattle.std.specs.Borrow.{Bor}
use Rattle.std.specs.Option.{option_copied}
use Rattle.std.proofs.Common.{arith, sym, ap, ◌∙◌, subst, inl, inr}
use Rattle.std.proofs.lemmas.Bool.{cases_lt}
use Rattle.gf_frac.specs.Fraction.{one_ℚ, neg_ℚ, ◌+ℚ◌}
use Rattle.gf_exponents_theory.specs.Exponents.{Exponents, same, plus, join}
use Rattle.gf_exponents_theory.proofs.ExponentsLaws.{cancel, same_trans, same_flip}
use Rattle.gf_poly.specs.declared.error.PolyError.{PolyError}
use Rattle.gf_poly.specs.declared.error.PolyError.TheVariants as errors
use Rattle.gf_poly.specs.Polynomial.{Terms, coefficient, times, SamePolynomial, HasVariables}
use Rattle.gf_poly.specs.Marking.{MarkedPolynomial, MarkedPolynomials, Each, HaveVariables}
use Rattle.gf_poly.proofs.PolynomialLaws.{coefficient-++}
use Rattle.gf_poly.proofs.CoefficientLaws.{descending_unique}
use Rattle.gf_ideal_theory.specs.Reduction.{IsSPolynomial}
use Rattle.gf_ideal_theory.proofs.ListLaws.{contained_each}
use Rattle.gf_ideal_theory.proofs.SettledLaws.{times_along}
use Rattle.gf_ideal_theory.proofs.NormalFormLaws.{normal_form-unique}
use Rattle.gf_division.proofs.ReducerLaws.{members_equal, member_contained}
use Rattle.gf_reduced.specs.declared.error.CheckError.{CheckError}
use Rattle.gf_reduced.specs.declared.error.CheckError.TheVariants as check_errors
use Rattle.gf_reduced.specs.Forms.{monic_of}
use Rattle.gf_reduced.specs.Markings.{IsMarkedGroebnerBasis}
use Rattle.gf_reduced.specs.Pairs.{IsRemainderAt, Vanishes, IsFirstFailingWith, IsFirstFailing}
use Rattle.gf_reduced.specs.Terms.{all_but, printed_monomials, IsOffending, NoneOffends, IsFirstOffendingOf, IsFirstOffending, AreReduced}
use Rattle.gf_reduced.specs.Refusals.{of_poly, IsTestRefusal, IsPairedRefusal, IsReducedRefusal}
use Rattle.gf_reduced.proofs.FormLaws.{forms-variables}
use Rattle.gf_reduced.proofs.GroebnerLaws.{s_at, failing_refutes}
use Rattle.gf_reduced.proofs.RefusalLaws.{not_excluded, no_first}
use Rattle.gf_front.specs.declared.refusal.Refusal.{Refusal}
use Rattle.gf_front.specs.declared.refusal.Refusal.TheVariants as refusals
use Rattle.gf_front.specs.Lines.{AreNamed}
use Rattle.gf_items.specs.Items.{IsTextOf}
use Rattle.gf_items.specs.Kinds.{ItemKind, ItemValues, ring_and}
use Rattle.gf_items.specs.Refusals.{IsOfTest, IsOfNumbers, TellsSame, IsOfWork}
use Rattle.gfan_common.specs.declared.refused.Refused.{Refused}
use Rattle.gfan_common.specs.CheckedSets.{of_check}
use Rattle.gfan_common.specs.Refused.{IsNamedBy, IsOfSource}
use Rattle.gfan_common.proofs.ReadSetLaws.{IsKeptMember, IsSetKept, set_variables}
use Rattle.gfan_common.proofs.WrittenSetLaws.{lent_names}

-- ---- the names of the ring

-- a refusal that is told with the ring of the source
pub of_this_ring : (k : ItemKind) (ks : List ItemKind) (source : List ℕ) (ring : List (List ℕ)) (v : ItemValues k ks) (e : Refused) (r : Refusal) →
    IsTextOf (ring_and k ks) source (ring, v) → e.refusal ≡ r → e.ring ≡ Some ring → IsNamedBy (Some ring) r → IsOfSource source e
of_this_ring k ks source ring v e r read p q h =
    let told : IsOfSource source (record { refusal = r; ring = Some ring }) = record { named = h; ring = (read.read.behind, read.read.one) } in
    subst (IsOfSource source) (λ i. record { refusal = sym p i; ring = sym q i }) told

pub lent_terms : (ring : List (List ℕ)) (f : Terms) (lent : Option (Bor (List (List ℕ)))) → option_copied lent ≡ Some ring → HasVariables (length ring) f →
    AreNamed lent f
lent_terms ring f None e h = let p : None ≡ Some ring = e in cc
lent_terms ring f (Some b) e h = let p : Some b.now ≡ Some ring = e in let q : b.now ≡ ring =
    cc in subst (λ (names : List (List ℕ)). HasVariables (length names) f) (sym q) h

-- the test names no polynomial
pub named_test : (ring : List (List ℕ)) (s : MarkedPolynomials) (e : CheckError) → IsTestRefusal s e → IsNamedBy (Some ring) (of_check e)
named_test ring s (check_errors.Overflow o) h = λ lent is. tt
named_test ring s (check_errors.Exponent o) h = λ lent is. tt
named_test ring s (check_errors.NotReduced set i x) h = absurd h
named_test ring s (check_errors.NotBasis set i j r) h = absurd h
named_test ring s (check_errors.Inconsistent set ms) h = λ lent is. tt
named_test ring s (check_errors.Cone o) h = λ lent is. tt
named_test ring s check_errors.Memory h = λ lent is. tt

-- a check names a remainder that has the variables of the ring
pub named_check : (P : Type 0) (k : ℕ) (ring : List (List ℕ)) (s : MarkedPolynomials) (e : CheckError) → s.variables ≡ length ring →
    HaveVariables s.variables s.items → IsPairedRefusal P k s e → IsNamedBy (Some ring) (of_check e)
named_check P k ring s (check_errors.Overflow o) q v h = λ lent is. tt
named_check P k ring s (check_errors.Exponent o) q v h = λ lent is. tt
named_check P k ring s (check_errors.NotReduced set i x) q v h = absurd h
named_check P k ring s (check_errors.NotBasis set i j r) q v h = λ lent is.
    lent_terms ring r lent is (subst (λ n. HasVariables n r) q (h.3.first.remainder.variables s.variables (forms-variables s.variables s.items v)))
named_check P k ring s (check_errors.Inconsistent set ms) q v h = λ lent is. tt
named_check P k ring s (check_errors.Cone o) q v h = λ lent is. tt
named_check P k ring s check_errors.Memory q v h = λ lent is. tt

pub named_numbers : (ring : List (List ℕ)) (d : PolyError) → IsNamedBy (Some ring) (of_check (of_poly d))
named_numbers ring (errors.Overflow o) = λ lent is. tt
named_numbers ring (errors.Exponent o) = λ lent is. tt
named_numbers ring errors.Memory = λ lent is. tt

-- ---- a refusal of a check is of the work

pub check_work : (e : CheckError) → IsOfWork (of_check e)
check_work (check_errors.Overflow o) = tt
check_work (check_errors.Exponent o) = tt
check_work (check_errors.NotReduced set i x) = tt
check_work (check_errors.NotBasis set i j r) = tt
check_work (check_errors.Inconsistent set ms) = tt
check_work (check_errors.Cone o) = tt
check_work check_errors.Memory = tt

pub check_not_listed : (e : CheckError) (most : ℕ) → refusals.ListLimit most ≡ of_check e → ⊥
check_not_listed (check_errors.Overflow o) most q = cc
check_not_listed (check_errors.Exponent o) most q = cc
check_not_listed (check_errors.NotReduced set i x) most q = cc
check_not_listed (check_errors.NotBasis set i j r) most q = cc
check_not_listed (check_errors.Inconsistent set ms) most q = cc
check_not_listed (check_errors.Cone o) most q = cc
check_not_listed check_errors.Memory most q = cc

-- numbers that don't fit
pub poly_numbers : (d : PolyError) → IsOfNumbers (of_check (of_poly d))
poly_numbers (errors.Overflow o) = tt
poly_numbers (errors.Exponent o) = tt
poly_numbers errors.Memory = tt

pub poly_untested : (d : PolyError) → IsOfTest (of_check (of_poly d)) → ⊥
poly_untested (errors.Overflow o) t = t
poly_untested (errors.Exponent o) t = t
poly_untested errors.Memory t = t

-- the test isn't refused for what it finds
test_untested : (s : MarkedPolynomials) (e : CheckError) → IsTestRefusal s e → IsOfTest (of_check e) → ⊥
test_untested s (check_errors.Overflow o) h t = t
test_untested s (check_errors.Exponent o) h t = t
test_untested s (check_errors.NotReduced set i x) h t = h
test_untested s (check_errors.NotBasis set i j r) h t = h
test_untested s (check_errors.Inconsistent set ms) h t = h
test_untested s (check_errors.Cone o) h t = t
test_untested s check_errors.Memory h t = t

pub test_cause_untested : (s : MarkedPolynomials) (r : Refusal) → IsOfTest r → (e : CheckError) × (r ≡ of_check e) × IsTestRefusal s e → ⊥
test_cause_untested s r t h = test_untested s h.0 h.2 (subst IsOfTest h.1 t)

-- ---- a check finds one thing

s_polynomial_once : (b c : MarkedPolynomial) (s t : Terms) → IsSPolynomial b c s → IsSPolynomial b c t → SamePolynomial s t
s_polynomial_once b c s t p q = λ e.
    p.equal e ∙ coefficient-++ (times one_ℚ p.left b.poly) (times (neg_ℚ one_ℚ) p.right c.poly) e
    ∙ ap (λ z. z +ℚ coefficient (times (neg_ℚ one_ℚ) p.right c.poly) e) (times_along one_ℚ p.left q.left b.poly e left)
    ∙ ap (λ z. coefficient (times one_ℚ q.left b.poly) e +ℚ z) (times_along (neg_ℚ one_ℚ) p.right q.right c.poly e right)
    ∙ sym (coefficient-++ (times one_ℚ q.left b.poly) (times (neg_ℚ one_ℚ) q.right c.poly) e) ∙ sym (q.equal e)
  where
    left : same p.left q.left ≡ true
    left = cancel b.head p.left q.left (same_trans (plus p.left b.head) (join b.head c.head) (plus q.left b.head) p.of_left
        (same_flip (plus q.left b.head) (join b.head c.head) q.of_left))

    right : same p.right q.right ≡ true
    right = cancel c.head p.right q.right (same_trans (plus p.right c.head) (join b.head c.head) (plus q.right c.head) p.of_right
        (same_flip (plus q.right c.head) (join b.head c.head) q.of_right))

module _ (n : ℕ) (bs : List MarkedPolynomial) (v : HaveVariables n bs) where
  remainder_once : (i j : ℕ) (r t : Terms) → IsRemainderAt bs i j r → IsRemainderAt bs i j t → r ≡ t
  remainder_once i j r t p q =
      descending_unique n r t (p.variables n v) (q.variables n v) p.descending q.descending
      (normal_form-unique bs p.s q.s r t (s_polynomial_once p.first p.second p.s q.s p.is_s (s_at bs i j p.first p.second t q p.at_first p.at_second))
      p.normal_form q.normal_form)

  vanish_apart : (i j : ℕ) (r : Terms) → IsRemainderAt bs i j r → r ≢ [] → Vanishes bs i j → ⊥
  vanish_apart i j r p z w = z (remainder_once i j r [] p w)

  first_once : (i j k l : ℕ) (r t : Terms) → IsFirstFailing bs i j r → IsFirstFailing bs k l t → k ≡ i
  first_once i j k l r t p q = at (cases_lt i k) (cases_lt k i)
    where
      at : (i < k) ⊎ (k ≤ i) → (k < i) ⊎ (i ≤ k) → k ≡ i
      at (inl m) y = absurd (vanish_apart i j r p.first.remainder p.first.nonzero (q.before i m j p.first.later p.first.within))
      at (inr m) (inl o) = absurd (vanish_apart k l t q.first.remainder q.first.nonzero (p.before k o l q.first.later q.first.within))
      at (inr m) (inr o) = omega arith

  second_once : (i j l : ℕ) (r t : Terms) → IsFirstFailingWith bs i j r → IsFirstFailingWith bs i l t → l ≡ j
  second_once i j l r t p q = at (cases_lt j l) (cases_lt l j)
    where
      at : (j < l) ⊎ (l ≤ j) → (l < j) ⊎ (j ≤ l) → l ≡ j
      at (inl m) y = absurd (vanish_apart i j r p.remainder p.nonzero (q.before j p.later m))
      at (inr m) (inl o) = absurd (vanish_apart i l t q.remainder q.nonzero (p.before l q.later o))
      at (inr m) (inr o) = omega arith

  pub failing_once : (i j k l : ℕ) (r t : Terms) → IsFirstFailing bs i j r → IsFirstFailing bs k l t → (k ≡ i) × (l ≡ j) × (t ≡ r)
  failing_once i j k l r t p q =
      let first = first_once i j k l r t p q in
      let other = subst (λ z. IsFirstFailingWith bs z l t) first q.first in
      let second = second_once i j l r t p.first other in
      (first, second, sym (remainder_once i j r t p.first.remainder (subst (λ z. IsRemainderAt bs i z t) second other.remainder)))

-- what is refused where no positive weight gives the marking, or where a pair fails, is refused so, unless numbers of the work don't fit
pub paired_once : (P Q : Type 0) (k : ℕ) (s : MarkedPolynomials) (e d : CheckError) → HaveVariables s.variables s.items → IsOfTest (of_check e) →
    IsPairedRefusal P k s e → IsPairedRefusal Q k s d → TellsSame (of_check e) (of_check d) ⊎ IsOfNumbers (of_check d)
paired_once P Q k s (check_errors.Overflow o) d v t h g = absurd t
paired_once P Q k s (check_errors.Exponent o) d v t h g = absurd t
paired_once P Q k s (check_errors.NotReduced set i x) d v t h g = absurd h
paired_once P Q k s (check_errors.NotBasis set i j r) (check_errors.Overflow o) v t h g = inr tt
paired_once P Q k s (check_errors.NotBasis set i j r) (check_errors.Exponent o) v t h g = inr tt
paired_once P Q k s (check_errors.NotBasis set i j r) (check_errors.NotReduced other l x) v t h g = absurd g
paired_once P Q k s (check_errors.NotBasis set i j r) (check_errors.NotBasis other l m z) v t h g =
    let one = failing_once s.variables (map monic_of s.items) (forms-variables s.variables s.items v) i j l m r z h.3 g.3 in
    let sets : other ≡ set = g.0 ∙ sym h.0 in
    inl (λ w. refusals.NotBasis (sets w) (one.0 w) (one.1 w) (one.2 w))
paired_once P Q k s (check_errors.NotBasis set i j r) (check_errors.Inconsistent other ms) v t h g = absurd (g.1.none h.1)
paired_once P Q k s (check_errors.NotBasis set i j r) (check_errors.Cone o) v t h g = inr tt
paired_once P Q k s (check_errors.NotBasis set i j r) check_errors.Memory v t h g = inr tt
paired_once P Q k s (check_errors.Inconsistent set ms) (check_errors.Overflow o) v t h g = inr tt
paired_once P Q k s (check_errors.Inconsistent set ms) (check_errors.Exponent o) v t h g = inr tt
paired_once P Q k s (check_errors.Inconsistent set ms) (check_errors.NotReduced other l x) v t h g = absurd g
paired_once P Q k s (check_errors.Inconsistent set ms) (check_errors.NotBasis other l m z) v t h g = absurd (h.1.none g.1)
paired_once P Q k s (check_errors.Inconsistent set ms) (check_errors.Inconsistent other ns) v t h g = inl (g.0 ∙ sym h.0)
paired_once P Q k s (check_errors.Inconsistent set ms) (check_errors.Cone o) v t h g = inr tt
paired_once P Q k s (check_errors.Inconsistent set ms) check_errors.Memory v t h g = inr tt
paired_once P Q k s (check_errors.Cone o) d v t h g = absurd t
paired_once P Q k s check_errors.Memory d v t h g = absurd t

-- a set that isn't a basis isn't one
pub paired_refutes : (P : Type 0) (k : ℕ) (s : MarkedPolynomials) (e : CheckError) → HaveVariables s.variables s.items → IsOfTest (of_check e) →
    IsPairedRefusal P k s e → IsMarkedGroebnerBasis s.variables s.items → ⊥
paired_refutes P k s (check_errors.Overflow o) v t h g = t
paired_refutes P k s (check_errors.Exponent o) v t h g = t
paired_refutes P k s (check_errors.NotReduced set i x) v t h g = h
paired_refutes P k s (check_errors.NotBasis set i j r) v t h g = failing_refutes s.variables s.items i j r v h.3.first.remainder h.3.first.nonzero g
paired_refutes P k s (check_errors.Inconsistent set ms) v t h g = h.1.none (g.weight, g.positive, g.marks)
paired_refutes P k s (check_errors.Cone o) v t h g = t
paired_refutes P k s check_errors.Memory v t h g = t

-- ---- a reduced basis is read

-- what holds of each holds of one in the middle
each_middle : {A : Type 0} (P : A → Type 0) (front back : List A) (x : A) → Each P (front ++ x ∷ back) → P x
each_middle P [] back x h = h.0
each_middle P (y ∷ front) back x h = each_middle P front back x h.1

-- the first of a list that offends is one monomial
same_offending : (bs : List MarkedPolynomial) (i : ℕ) (b : MarkedPolynomial) (x y : Exponents) (front back others rest : List Exponents) →
    front ++ x ∷ back ≡ others ++ y ∷ rest → NoneOffends bs i b front → NoneOffends bs i b others → IsOffending bs i b x → IsOffending bs i b y → y ≡ x
same_offending bs i b x y [] back [] rest e n m o p = cc
same_offending bs i b x y [] back (z ∷ others) rest e n m o p = let q : x ≡ z = cc in absurd (m.0 (subst (IsOffending bs i b) q o))
same_offending bs i b x y (z ∷ front) back [] rest e n m o p = let q : y ≡ z = cc in absurd (n.0 (subst (IsOffending bs i b) q p))
same_offending bs i b x y (z ∷ front) back (w ∷ others) rest e n m o p = let q : front ++ x ∷ back ≡ others ++ y ∷ rest =
    cc in same_offending bs i b x y front back others rest q n.1 m.1 o p

offending_first : (bs : List MarkedPolynomial) (i k : ℕ) (x y : Exponents) → IsFirstOffending bs i x → IsFirstOffending bs k y → k ≡ i
offending_first bs i k x y p q = at (cases_lt i k) (cases_lt k i)
  where
    before : (i k : ℕ) (x y : Exponents) → IsFirstOffending bs i x → IsFirstOffending bs k y → i < k → ⊥
    before i k x y p q l = not_excluded bs i p.first.member x p.first.earlier p.first.later (printed_monomials p.first.member) p.first.printed
        (q.before i l p.first.member p.first.at) p.first.offends

    at : (i < k) ⊎ (k ≤ i) → (k < i) ⊎ (i ≤ k) → k ≡ i
    at (inl m) z = absurd (before i k x y p q m)
    at (inr m) (inl o) = absurd (before k i y x q p o)
    at (inr m) (inr o) = omega arith

pub offending_once : (bs : List MarkedPolynomial) (i k : ℕ) (x y : Exponents) → IsFirstOffending bs i x → IsFirstOffending bs k y → (k ≡ i) × (y ≡ x)
offending_once bs i k x y p q = (e, along p.first other)
  where
    e : k ≡ i
    e = offending_first bs i k x y p q

    other : IsFirstOffendingOf bs i y
    other = subst (λ (j : ℕ). IsFirstOffendingOf bs j y) e q.first

    along : (p : IsFirstOffendingOf bs i x) (q : IsFirstOffendingOf bs i y) → y ≡ x
    along p q =
        let b : q.member ≡ p.member = members_equal bs i q.member p.member q.at p.at in
        let printed : printed_monomials p.member ≡ q.earlier ++ y ∷ q.later = ap printed_monomials (sym b) ∙ q.printed in
        same_offending bs i p.member x y p.earlier p.later q.earlier q.later (sym p.printed ∙ printed) p.none_earlier
        (subst (λ (c : MarkedPolynomial). NoneOffends bs i c q.earlier) b q.none_earlier) p.offends (subst (λ (c : MarkedPolynomial). IsOffending bs i c y)
        b q.offends)

-- a set that is refused isn't a reduced basis
pub reduced_refutes : (k : ℕ) (s : MarkedPolynomials) (e : CheckError) → HaveVariables s.variables s.items → IsOfTest (of_check e) → IsReducedRefusal k s e →
    AreReduced s.items → IsMarkedGroebnerBasis s.variables s.items → ⊥
reduced_refutes k s (check_errors.Overflow o) v t h a g = t
reduced_refutes k s (check_errors.Exponent o) v t h a g = t
reduced_refutes k s (check_errors.NotReduced set i x) v t h a g = no_first s.items i x a h.2
reduced_refutes k s (check_errors.NotBasis set i j r) v t h a g = paired_refutes (AreReduced s.items) k s (check_errors.NotBasis set i j r) v t h g
reduced_refutes k s (check_errors.Inconsistent set ms) v t h a g = paired_refutes (AreReduced s.items) k s (check_errors.Inconsistent set ms) v t h g
reduced_refutes k s (check_errors.Cone o) v t h a g = t
reduced_refutes k s check_errors.Memory v t h a g = t

-- and it is refused in one way, unless numbers of the work don't fit
pub reduced_once : (k : ℕ) (s : MarkedPolynomials) (e d : CheckError) → HaveVariables s.variables s.items → IsOfTest (of_check e) → IsReducedRefusal k s e →
    IsReducedRefusal k s d → TellsSame (of_check e) (of_check d) ⊎ IsOfNumbers (of_check d)
reduced_once k s (check_errors.Overflow o) d v t h g = absurd t
reduced_once k s (check_errors.Exponent o) d v t h g = absurd t
reduced_once k s (check_errors.NotReduced set i x) (check_errors.Overflow o) v t h g = inr tt
reduced_once k s (check_errors.NotReduced set i x) (check_errors.Exponent o) v t h g = inr tt
reduced_once k s (check_errors.NotReduced set i x) (check_errors.NotReduced other l y) v t h g =
    let one = offending_once s.items i l x y h.2 g.2 in
    let sets : other ≡ set = g.0 ∙ sym h.0 in
    inl (λ w. refusals.NotReduced (sets w) (one.0 w) (one.1 w))
reduced_once k s (check_errors.NotReduced set i x) (check_errors.NotBasis other l m z) v t h g = absurd (no_first s.items i x g.2 h.2)
reduced_once k s (check_errors.NotReduced set i x) (check_errors.Inconsistent other ms) v t h g = absurd (g.1.none h.1)
reduced_once k s (check_errors.NotReduced set i x) (check_errors.Cone o) v t h g = inr tt
reduced_once k s (check_errors.NotReduced set i x) check_errors.Memory v t h g = inr tt
reduced_once k s (check_errors.NotBasis set i j r) (check_errors.NotReduced other l y) v t h g = absurd (no_first s.items l y h.2 g.2)
reduced_once k s (check_errors.NotBasis set i j r) (check_errors.Overflow o) v t h g = inr tt
reduced_once k s (check_errors.NotBasis set i j r) (check_errors.Exponent o) v t h g = inr tt
reduced_once k s (check_errors.NotBasis set i j r) (check_errors.NotBasis other l m z) v t h g =
    paired_once (AreReduced s.items) (AreReduced s.items) k s (check_errors.NotBasis set i j r) (check_errors.NotBasis other l m z) v t h g
reduced_once k s (check_errors.NotBasis set i j r) (check_errors.Inconsistent other ms) v t h g = absurd (g.1.none h.1)
reduced_once k s (check_errors.NotBasis set i j r) (check_errors.Cone o) v t h g = inr tt
reduced_once k s (check_errors.NotBasis set i j r) check_errors.Memory v t h g = inr tt
reduced_once k s (check_errors.Inconsistent set ms) (check_errors.NotReduced other l y) v t h g = absurd (h.1.none g.1)
reduced_once k s (check_errors.Inconsistent set ms) (check_errors.Overflow o) v t h g = inr tt
reduced_once k s (check_errors.Inconsistent set ms) (check_errors.Exponent o) v t h g = inr tt
reduced_once k s (check_errors.Inconsistent set ms) (check_errors.NotBasis other l m z) v t h g = absurd (h.1.none g.1)
reduced_once k s (check_errors.Inconsistent set ms) (check_errors.Inconsistent other ns) v t h g = inl (g.0 ∙ sym h.0)
reduced_once k s (check_errors.Inconsistent set ms) (check_errors.Cone o) v t h g = inr tt
reduced_once k s (check_errors.Inconsistent set ms) check_errors.Memory v t h g = inr tt
reduced_once k s (check_errors.Cone o) d v t h g = absurd t
reduced_once k s check_errors.Memory d v t h g = absurd t

-- the monomials of a member have the variables of the ring
other_lengths : (n : ℕ) (h : Exponents) (f : Terms) → HasVariables n f → Each (λ (x : Exponents). length x ≡ n) (all_but h f)
other_lengths n h [] v = tt
other_lengths n h (t ∷ f) v = at (same t.mono h) (other_lengths n h f v.1)
  where
    at : (b : Bool) → Each (λ (x : Exponents). length x ≡ n) (all_but h f) →
        Each (λ (x : Exponents). length x ≡ n) (if b then all_but h f else (t.mono ∷ all_but h f))
    at true r = r
    at false r = (v.0, r)

pub printed_length : (n : ℕ) (b : MarkedPolynomial) (earlier later : List Exponents) (x : Exponents) → IsKeptMember n b →
    printed_monomials b ≡ earlier ++ x ∷ later → length x ≡ n
printed_length n b earlier later x v e = each_middle (λ (y : Exponents). length y ≡ n) earlier later x
    (subst (Each (λ (y : Exponents). length y ≡ n)) e (v.1, other_lengths n b.head b.poly v.0))

-- a check names a term, or a remainder, that has them
pub named_reduced : (k : ℕ) (ring : List (List ℕ)) (s : MarkedPolynomials) (e : CheckError) → IsSetKept (length ring) s → IsReducedRefusal k s e →
    IsNamedBy (Some ring) (of_check e)
named_reduced k ring s (check_errors.NotReduced set i x) v h = λ lent is.
    let f = h.2.first in
    lent_names ring x lent is (printed_length (length ring) f.member f.earlier f.later x (contained_each (IsKeptMember (length ring)) s.items v.1 f.member
    (member_contained s.items i f.member f.at)) f.printed)
named_reduced k ring s (check_errors.Overflow o) v h = λ lent is. tt
named_reduced k ring s (check_errors.Exponent o) v h = λ lent is. tt
named_reduced k ring s (check_errors.NotBasis set i j r) v h =
    named_check (AreReduced s.items) k ring s (check_errors.NotBasis set i j r) v.0 (set_variables (length ring) s v) h
named_reduced k ring s (check_errors.Inconsistent set ms) v h = λ lent is. tt
named_reduced k ring s (check_errors.Cone o) v h = λ lent is. tt
named_reduced k ring s check_errors.Memory v h = λ lent is. tt
