-- The form of what is read fails in one way at most, and not where it holds.
-- To cite: AreKept, form_once, length_check, degree_check. The rest are steps.
use Rattle.std.specs.Prelude.{◌≡◌, ◌⊎◌, ℕ, ◌<◌, ◌≤◌, Bool, true, false, List, length, Contains, slice_index_or, All, Option, None, Some, ℤ, pos, ◌≤ℤ◌}
use Rattle.std.proofs.Common.{arith, sym, ap, ◌∙◌, subst, inl, inr}
use Rattle.std.proofs.lemmas.Int.{ints}
use Rattle.std.proofs.lemmas.Bool.{cases_lt}
use Rattle.std.proofs.lemmas.List.{get_or_default}
use Rattle.gf_exponents_theory.specs.Exponents.{Exponents}
use Rattle.gf_order.specs.Weights.{IsFirstBelow}
use Rattle.gf_poly.specs.declared.Term.{Term}
use Rattle.gf_poly.specs.Polynomial.{Terms, HasVariables, IsDescending}
use Rattle.gf_ideal_theory.specs.Membership.{HasMonomial}
use Rattle.gf_division.proofs.StepLaws.{term_there}
use Rattle.gf_buchberger.specs.declared.homogeneity.NotHomogeneous.{NotHomogeneous}
use Rattle.gf_buchberger.specs.Homogeneity.{IsOfOneDegree, IsFirstOther, IsFirstInhomogeneous}
use Rattle.gf_front.specs.declared.refusal.Refusal.{Refusal}
use Rattle.gf_front.specs.declared.refusal.Refusal.TheVariants as refusals
use Rattle.gf_items.specs.Refusals.{IsExactRefusal}
use Rattle.gf_items.proofs.CheckLaws.{IsCheckedOnce, AreCheckedOnce}
use Rattle.gfan_common.specs.Forms.{FitsVariables, least_entry, IsTermWeight, AreTaken, HasOtherLength, IsFirstSmall, IsFirstNotTaken, IsLengthRefusal}
use Rattle.gfan_common.specs.Forms.{IsDegreeRefusal, IsWeightRefusal, form}

-- ---- the length of a weight

other_length_apart : (n left right : ℕ) (weight : Option (List ℤ)) → FitsVariables n weight → HasOtherLength n weight left right → ⊥
other_length_apart n left right None a h = h
other_length_apart n left right (Some w) a h = h.2 (h.0 ∙ a ∙ sym h.1)

other_length_once : (n left right other last : ℕ) (weight : Option (List ℤ)) → HasOtherLength n weight left right → HasOtherLength n weight other last →
    (other ≡ left) × (last ≡ right)
other_length_once n left right other last None h k = absurd h
other_length_once n left right other last (Some w) h k = (k.0 ∙ sym h.0, k.1 ∙ sym h.1)

-- ---- its entries

below_apart : (limit : ℤ) (w : List ℤ) (i : ℕ) → All (λ k. limit ≤ℤ k) w → IsFirstBelow limit w i → ⊥
below_apart limit w i a h = let all = a i (pos 0) h.inside in omega (arith, ints, all, h.below)

first_small_apart : (revlex : Bool) (weight : Option (List ℤ)) (i : ℕ) → IsTermWeight revlex weight → IsFirstSmall revlex weight i → ⊥
first_small_apart revlex None i a h = h
first_small_apart revlex (Some w) i a h = below_apart (least_entry revlex) w i a h

first_below_once : (limit : ℤ) (w : List ℤ) (i j : ℕ) → IsFirstBelow limit w i → IsFirstBelow limit w j → j ≡ i
first_below_once limit w i j h k = at (cases_lt i j) (cases_lt j i)
  where
    at : (i < j) ⊎ (j ≤ i) → (j < i) ⊎ (i ≤ j) → j ≡ i
    at (inl l) b = absurd (let above = k.before i l in omega (arith, ints, above, h.below))
    at (inr l) (inl m) = absurd (let above = h.before j m in omega (arith, ints, above, k.below))
    at (inr l) (inr m) = omega arith

first_small_once : (revlex : Bool) (weight : Option (List ℤ)) (i j : ℕ) → IsFirstSmall revlex weight i → IsFirstSmall revlex weight j → j ≡ i
first_small_once revlex None i j h k = absurd h
first_small_once revlex (Some w) i j h k = first_below_once (least_entry revlex) w i j h k

-- ---- degrees

one_element : {A : Type 0} (xs : List A) (i : ℕ) (s t : A) → i < length xs → slice_index_or xs i s ≡ s → slice_index_or xs i t ≡ t → s ≡ t
one_element xs i s t l a b = sym a ∙ get_or_default xs i s t l ∙ b

of_one_degree_apart : (f : Terms) (i : ℕ) → IsOfOneDegree f → IsFirstOther f i → ⊥
of_one_degree_apart f i a h = h.apart (a h.other h.first (i, h.inside, h.is_other) (0, omega (arith, h.inside), h.is_first))

first_other_once : (f : Terms) (i j : ℕ) → IsFirstOther f i → IsFirstOther f j → j ≡ i
first_other_once f i j h k = at (cases_lt i j) (cases_lt j i)
  where
    at : (i < j) ⊎ (j ≤ i) → (j < i) ⊎ (i ≤ j) → j ≡ i
    at (inl l) b = absurd (h.apart (k.before.alike i h.first h.other l h.is_first h.is_other))
    at (inr l) (inl m) = absurd (k.apart (h.before.alike j k.first k.other m k.is_first k.is_other))
    at (inr l) (inr m) = omega arith

-- the polynomial that is named isn't of one degree, and those before it are
inhomogeneous_before : (fs : List Terms) (e d : NotHomogeneous) → IsFirstInhomogeneous fs e → IsFirstInhomogeneous fs d → d.polynomial < e.polynomial → ⊥
inhomogeneous_before fs e d h k l = of_one_degree_apart k.poly k.index (h.before.each d.polynomial k.poly l k.is) k.other

inhomogeneous_place : (fs : List Terms) (e d : NotHomogeneous) → IsFirstInhomogeneous fs e → IsFirstInhomogeneous fs d → d.polynomial ≡ e.polynomial
inhomogeneous_place fs e d h k = at (cases_lt e.polynomial d.polynomial) (cases_lt d.polynomial e.polynomial)
  where
    at : (e.polynomial < d.polynomial) ⊎ (d.polynomial ≤ e.polynomial) → (d.polynomial < e.polynomial) ⊎ (e.polynomial ≤ d.polynomial) →
        d.polynomial ≡ e.polynomial
    at (inl l) b = absurd (inhomogeneous_before fs d e k h l)
    at (inr l) (inl m) = absurd (inhomogeneous_before fs e d h k m)
    at (inr l) (inr m) = omega arith

-- of one polynomial, the same monomials are named
named_once : (f g : Terms) (i j : ℕ) (a : IsFirstOther f i) (b : IsFirstOther g j) → g ≡ f → (b.first.mono ≡ a.first.mono) × (b.other.mono ≡ a.other.mono)
named_once f g i j a b e =
    let c : IsFirstOther f j = subst (λ (h : Terms). IsFirstOther h j) e b in
    let place : j ≡ i = first_other_once f i j a c in
    let firsts : slice_index_or f 0 b.first ≡ b.first = subst (λ (h : Terms). slice_index_or h 0 b.first ≡ b.first) e b.is_first in
    let others : slice_index_or f i b.other ≡ b.other =
    subst (λ k. slice_index_or f k b.other ≡ b.other) place (subst (λ (h : Terms). slice_index_or h j b.other ≡ b.other) e b.is_other) in (
      ap (λ (t : Term). t.mono) (one_element f 0 b.first a.first (omega (arith, a.inside)) firsts a.is_first),
      ap (λ (t : Term). t.mono) (one_element f i b.other a.other a.inside others a.is_other),
    )

inhomogeneous_once : (fs : List Terms) (e d : NotHomogeneous) → IsFirstInhomogeneous fs e → IsFirstInhomogeneous fs d → d ≡ e
inhomogeneous_once fs e d h k =
    let place = inhomogeneous_place fs e d h k in
    let here : slice_index_or fs e.polynomial k.poly ≡ k.poly = subst (λ n. slice_index_or fs n k.poly ≡ k.poly) place k.is in
    let poly : k.poly ≡ h.poly = one_element fs e.polynomial k.poly h.poly h.inside here h.is in
    let named = named_once h.poly k.poly h.index k.index h.other k.other poly in
    let first : d.first ≡ e.first = k.first ∙ named.0 ∙ sym h.first in
    let second : d.second ≡ e.second = k.second ∙ named.1 ∙ sym h.second in
    λ i. record { polynomial = place i; first = first i; second = second i }

not_taken_once : (revlex : Bool) (weight : Option (List ℤ)) (fs : List Terms) (e d : NotHomogeneous) → IsFirstNotTaken revlex weight fs e →
    IsFirstNotTaken revlex weight fs d → d ≡ e
not_taken_once false weight fs e d h k = absurd h
not_taken_once true None fs e d h k = inhomogeneous_once fs e d h k
not_taken_once true (Some w) fs e d h k = absurd h

-- the polynomials are kept as descending lists of terms in n variables
abbrev pub AreKept : ℕ → List Terms → Type 0
AreKept n fs = (f : Terms) → Contains fs f → HasVariables n f × IsDescending f

first_there : (n : ℕ) (f : Terms) (i : ℕ) (a : IsFirstOther f i) → HasVariables n f × IsDescending f → HasMonomial f a.first.mono
first_there n f i a k = term_there n f a.first k.0 k.1 (0, omega (arith, a.inside), a.is_first)

other_there : (n : ℕ) (f : Terms) (i : ℕ) (a : IsFirstOther f i) → HasVariables n f × IsDescending f → HasMonomial f a.other.mono
other_there n f i a k = term_there n f a.other k.0 k.1 (i, a.inside, a.is_other)

not_taken_apart : (n : ℕ) (revlex : Bool) (weight : Option (List ℤ)) (fs : List Terms) (e : NotHomogeneous) → AreKept n fs → AreTaken revlex weight fs →
    IsFirstNotTaken revlex weight fs e → ⊥
not_taken_apart n false weight fs e kept a h = h
not_taken_apart n true None fs e kept a h =
    let here : Contains fs h.poly = (e.polynomial, h.inside, h.is) in
    let o = h.other in
    o.apart (a h.poly here o.other.mono o.first.mono (other_there n h.poly h.index o (kept h.poly here)) (first_there n h.poly h.index o (kept h.poly here)))
not_taken_apart n true (Some w) fs e kept a h = h

-- ---- all of the form

abbrev named : ℕ → Exponents → Exponents → NotHomogeneous
named polynomial first second = record { polynomial = polynomial; first = first; second = second }

pub length_check : (n : ℕ) (weight : Option (List ℤ)) → IsCheckedOnce (record { Holds = FitsVariables n weight; Fails = IsLengthRefusal n weight })
length_check n weight = record { once = once; apart = apart; kind = kind }
  where
    once : (r d : Refusal) → IsLengthRefusal n weight r → IsLengthRefusal n weight d → d ≡ r
    once (refusals.Dimensions left right) (refusals.Dimensions a b) h k =
        let same = other_length_once n left right a b weight h k in ap (λ z. refusals.Dimensions z b) same.0 ∙ ap (λ z. refusals.Dimensions left z) same.1
    once (refusals.Dimensions left right) _ h k = absurd k
    once _ d h k = absurd h

    apart : (r : Refusal) → FitsVariables n weight → IsLengthRefusal n weight r → ⊥
    apart (refusals.Dimensions left right) l h = other_length_apart n left right weight l h
    apart _ l h = h

    kind : (r : Refusal) → IsLengthRefusal n weight r → IsExactRefusal r
    kind (refusals.Dimensions left right) h = inr tt
    kind _ h = absurd h

pub degree_check : (n : ℕ) (revlex : Bool) (weight : Option (List ℤ)) (fs : List Terms) → AreKept n fs →
    IsCheckedOnce (record { Holds = AreTaken revlex weight fs; Fails = IsDegreeRefusal revlex weight fs })
degree_check n revlex weight fs kept = record { once = once; apart = apart; kind = kind }
  where
    once : (r d : Refusal) → IsDegreeRefusal revlex weight fs r → IsDegreeRefusal revlex weight fs d → d ≡ r
    once (refusals.NotHomogeneous p x y) (refusals.NotHomogeneous q v w) h k =
        ap (λ (e : NotHomogeneous). refusals.NotHomogeneous e.polynomial e.first e.second) (not_taken_once revlex weight fs (named p x y) (named q v w) h k)
    once (refusals.NotHomogeneous p x y) _ h k = absurd k
    once _ d h k = absurd h

    apart : (r : Refusal) → AreTaken revlex weight fs → IsDegreeRefusal revlex weight fs r → ⊥
    apart (refusals.NotHomogeneous p x y) a h = not_taken_apart n revlex weight fs (named p x y) kept a h
    apart _ a h = h

    kind : (r : Refusal) → IsDegreeRefusal revlex weight fs r → IsExactRefusal r
    kind (refusals.NotHomogeneous p x y) h = inr tt
    kind _ h = absurd h

weight_check : (revlex : Bool) (weight : Option (List ℤ)) → IsCheckedOnce (record { Holds = IsTermWeight revlex weight; Fails = IsWeightRefusal revlex weight })
weight_check revlex weight = record { once = once; apart = apart; kind = kind }
  where
    once : (r d : Refusal) → IsWeightRefusal revlex weight r → IsWeightRefusal revlex weight d → d ≡ r
    once (refusals.NotTermOrder i) (refusals.NotTermOrder j) h k = ap (λ z. refusals.NotTermOrder z) (first_small_once revlex weight i j h k)
    once (refusals.NotTermOrder i) _ h k = absurd k
    once _ d h k = absurd h

    apart : (r : Refusal) → IsTermWeight revlex weight → IsWeightRefusal revlex weight r → ⊥
    apart (refusals.NotTermOrder i) a h = first_small_apart revlex weight i a h
    apart _ a h = h

    kind : (r : Refusal) → IsWeightRefusal revlex weight r → IsExactRefusal r
    kind (refusals.NotTermOrder i) h = inr tt
    kind _ h = absurd h

pub form_once : (revlex : Bool) (n : ℕ) (weight : Option (List ℤ)) (fs : List Terms) → AreKept n fs → AreCheckedOnce (form revlex n weight fs)
form_once revlex n weight fs kept = (length_check n weight, (degree_check n revlex weight fs kept, (weight_check revlex weight, tt)))
