-- The reading number falls where a facet with a negative normal is crossed.
-- To cite: leading_number_falls.
use Rattle.std.proofs.Common.{◌≡◌, ◌⊎◌, ℕ, ◌<◌, ◌≤◌, Bool, true, false, List, [], ◌∷◌, length, Contains, get_or, All, ℤ, pos, ◌*ℤ◌, ◌<ℤ◌, ◌≤ℤ◌, arith, refl}
use Rattle.std.proofs.Common.{sym, ap, ◌∙◌, subst, inl, inr}
use Rattle.std.proofs.lemmas.Int.{ints}
use Rattle.std.proofs.Math.IntN.{*ℤ-zero}
use Rattle.std.proofs.lemmas.List.{get_or_past}
use Rattle.gf_exponents_theory.specs.Exponents.{Exponents, same, plus, minus, IsInRing, weight}
use Rattle.gf_exponents_theory.specs.Orders.{IsStrict, IsWeightedBelow, gains}
use Rattle.gf_exponents_theory.proofs.WholeWeightLaws.{length-gains, positive-gains}
use Rattle.gf_exponents_theory.proofs.ExponentsLaws.{entry-plus, entry-minus, entry-past, entries_same, same_by_entries, same_flip, same-refl}
use Rattle.gf_exponents_theory.proofs.WeightLaws.{weight-same}
use Rattle.gf_exponents_theory.proofs.OrderLaws.{weighted-order}
use Rattle.gf_poly.specs.Marking.{MarkedPolynomial}
use Rattle.gf_bases_theory.proofs.KeptLaws.{padded, length-padded, same-padded}
use Rattle.gf_facets_theory.proofs.VectorLaws.{IsNonzero}
use Rattle.gf_ideal_theory.specs.Membership.{HasMonomial}
use Rattle.gf_ideal_theory.specs.Marks.{IsPositive}
use Rattle.gf_ideal_theory.specs.Reduction.{IsDivisible}
use Rattle.gf_ideal_theory.proofs.ListLaws.{Contains-there, Contains-cases}
use Rattle.gf_ideal_theory.proofs.DividingLaws.{divisible_along}
use Rattle.gf_reverse_search.specs.Listing.{Among}
use Rattle.gf_facets_theory.specs.LexPositive.{IsNegative}
use Rattle.gf_facets_theory.specs.Beyond.{IsStepsFrom}
use Rattle.gf_initial_theory.specs.Crossings.{HaveParts}
use Rattle.gf_reverse_theory.specs.LeadingNumber.{below_weight, is_led, leading_number}
use Rattle.gf_reverse_theory.proofs.StepsLaws.{below_by_negative}
use Rattle.gf_reverse_theory.proofs.CrossingLaws.{IsPulledOut, Enters, what_enters_pulls, something_enters}
use Rattle.gf_reverse_theory.proofs.NumberLaws.{Turns, binary_falls}
use Rattle.gf_reverse_theory.proofs.WeightListLaws.{below-is, among_below, below-ascends}
use Rattle.std.proofs.lemmas.Bool.{or_right, or_left, or_cases}
use Rattle.gf_int_theory.proofs.ListLaws.{Contains-here}

-- ---- the test of a mark
led-divisible : (bs : List MarkedPolynomial) (x : Exponents) → is_led bs x ≡ true → IsDivisible (Contains bs) x
led-divisible [] x e = absurd (cc)
led-divisible (b ∷ bs) x e = at (or_cases (same x (plus (minus x b.head) b.head)) (is_led bs x) e) (led-divisible bs x)
  where
    at : (same x (plus (minus x b.head) b.head) ≡ true) ⊎ (is_led bs x ≡ true) → (is_led bs x ≡ true → IsDivisible (Contains bs) x) →
        IsDivisible (Contains (b ∷ bs)) x
    at (inl s) rec = record { member = b; contained = Contains-here b bs; rest = minus x b.head; divides = s }
    at (inr l) rec = let d = rec l in record { member = d.member; contained = Contains-there b d.member bs d.contained; rest = d.rest; divides = d.divides }

divisible-led : (bs : List MarkedPolynomial) (x : Exponents) → IsDivisible (Contains bs) x → is_led bs x ≡ true
divisible-led [] x d = absurd (let l = d.contained.1 in omega arith)
divisible-led (b ∷ bs) x d = at (Contains-cases b d.member bs d.contained) (divisible-led bs x)
  where
    quotient : (u h : Exponents) → same x (plus u h) ≡ true → same x (plus (minus x h) h) ≡ true
    quotient u h s = same_by_entries x (plus (minus x h) h) (λ i. omega (
      arith,
      entries_same x (plus u h) s i,
      entry-plus u h i,
      entry-plus (minus x h) h i,
      entry-minus x h i,
    ))

    at : (b ≡ d.member) ⊎ Contains bs d.member → (IsDivisible (Contains bs) x → is_led bs x ≡ true) → is_led (b ∷ bs) x ≡ true
    at (inl e) rec = or_left _ _ (quotient d.rest b.head (subst (λ (c : MarkedPolynomial). same x (plus d.rest c.head) ≡ true) (sym e) d.divides))
    at (inr k) rec = or_right _ _ (rec (record { member = d.member; contained = k; rest = d.rest; divides = d.divides }))

undivided-led : (bs : List MarkedPolynomial) (x : Exponents) → (IsDivisible (Contains bs) x → ⊥) → is_led bs x ≡ false
undivided-led bs x n = at (is_led bs x) refl
  where
    at : (b : Bool) → is_led bs x ≡ b → is_led bs x ≡ false
    at true e = absurd (n (led-divisible bs x e))
    at false e = e

-- ---- the fall
steps_in_ring : (n k : ℕ) (a : List ℤ) (x y : Exponents) → length a ≡ n → IsInRing n x → IsStepsFrom k a x y → IsInRing n y
steps_in_ring n k a x y e r h i l =
    let z : get_or a i (pos 0) ≡ pos 0 = get_or_past a i (pos 0) (omega arith) in
    let m : pos k *ℤ get_or a i (pos 0) ≡ pos 0 = ap (λ c. pos k *ℤ c) z ∙ *ℤ-zero (pos k) in
    omega (arith, ints, h i, r i l, m)

at_least_one : (r : List ℤ) → All (λ c. pos 0 <ℤ c) r → All (λ c. pos 1 ≤ℤ c) r
at_least_one r p = λ i d h. omega (arith, ints, p i d h)

not_negative : (r : List ℤ) → All (λ c. pos 0 <ℤ c) r → All (λ c. pos 0 ≤ℤ c) r
not_negative r p = λ i d h. omega (arith, ints, p i d h)

not_above : (r : List ℕ) (x y : Exponents) → IsWeightedBelow r y x → weight r y ≤ weight r x
not_above r x y (inl l) = omega arith
not_above r x y (inr e) = omega (arith, e.0)

-- crossing a facet with a negative normal makes the number of leading monomials smaller, wherever it counts the monomials of the first basis
pub leading_number_falls : (n : ℕ) (root : List ℤ) (d : ℕ) (a : List ℤ) (bs cs : List MarkedPolynomial) → length root ≡ n → All (λ c. pos 0 <ℤ c) root →
    length a ≡ n → IsNonzero a → IsNegative root a → HaveParts n a bs cs → ((b : MarkedPolynomial) → Contains bs b → (x : Exponents) → HasMonomial b.poly x →
    IsInRing n x × (weight (gains root) x < d)) → leading_number (gains root) d cs < leading_number (gains root) d bs
unfolding leading_number
leading_number_falls n root d a bs cs lr p la nz neg h small =
    binary_falls (IsWeightedBelow r) (λ x l. o.irreflexive x x (same-refl x) l) o.transitive (is_led bs) (is_led cs) (below_weight r d) (below-ascends r d)
    (padded n e.at) (listed e.at s.0 s.1)
    (λ q. let f : is_led bs (padded n e.at) ≡ false = undivided-led bs (padded n e.at) (λ v. e.not_led (back (Contains bs) e.at s.0 v)) in
    let g : is_led cs (padded n e.at) ≡ true = divisible-led cs (padded n e.at) (onto (Contains cs) e.at s.0 e.led) in absurd (cc))
    (λ x j f g. leaves x (below-is r d x j) f g)
  where
    r : List ℕ
    r = gains root

    wide : length r ≡ n
    wide = length-gains root ∙ lr

    o : IsStrict (IsWeightedBelow r)
    o = (weighted-order r).strict

    e : Enters bs cs
    e = something_enters n a bs cs nz h

    s : IsInRing n e.at × (weight r e.at < d)
    s = small e.member e.contained e.at e.there

    onto : (by : MarkedPolynomial → Type 0) (x : Exponents) → IsInRing n x → IsDivisible by x → IsDivisible by (padded n x)
    onto by x i v = divisible_along by x (padded n x) (same-padded n x i) v

    back : (by : MarkedPolynomial → Type 0) (x : Exponents) → IsInRing n x → IsDivisible by (padded n x) → IsDivisible by x
    back by x i v = divisible_along by (padded n x) x (same_flip x (padded n x) (same-padded n x i)) v

    listed : (x : Exponents) → IsInRing n x → weight r x < d → Among (below_weight r d) (padded n x)
    listed x i l = among_below r d (padded n x) (subst (λ k. IsPositive k r) (sym (length-gains root)) (positive-gains root (at_least_one root p)))
        (length-padded n x ∙ sym wide) (omega (arith, weight-same r x (padded n x) (same-padded n x i)))

    leaves : (x : Exponents) → (weight r x < d) × (length x ≡ length r) → is_led bs x ≡ false → is_led cs x ≡ true →
        Turns (IsWeightedBelow r) (is_led bs) (is_led cs) (below_weight r d) x
    leaves x m f g =
        turned (what_enters_pulls n a bs cs x h ring (λ v. let t : is_led bs x ≡ true = divisible-led bs x v in absurd (cc)) (led-divisible cs x g))
      where
        ring : IsInRing n x
        ring i l = entry-past x i (let u = m.1 in let v = wide in omega arith)

        turned : IsPulledOut a bs cs x → Turns (IsWeightedBelow r) (is_led bs) (is_led cs) (below_weight r d) x
        turned v = record {
          at = padded n v.at;
          among = listed v.at inside (let u = not_above r x v.at lower in let w = m.0 in omega arith);
          first = o.along_left v.at (padded n v.at) x (same-padded n v.at inside) lower;
          was = divisible-led bs (padded n v.at) (onto (Contains bs) v.at inside v.led);
          is = undivided-led cs (padded n v.at) (λ q. v.not_led (back (Contains cs) v.at inside q));
        }
          where
            inside : IsInRing n v.at
            inside = steps_in_ring n v.steps a x v.at la ring v.apart

            lower : IsWeightedBelow r v.at x
            lower = below_by_negative root v.steps a x v.at (not_negative root p) v.some v.apart neg
