-- A variable that divides no mark of a Gröbner basis: saturating by it adds nothing.
-- To cite: adds_nothing, left_over_spared. The rest are steps.
-- A remainder times a power of the variable is irreducible too; where it is in the ideal it is zero, and so is the remainder.
use Rattle.std.proofs.Common.{◌≡◌, ◌⊎◌, ◌≢◌, ℕ, zero, suc, ◌<◌, ◌≤◌, true, List, [], ◌++◌, Contains, arith, refl, sym, ap, ◌∙◌, inl, inr}
use Rattle.std.proofs.lemmas.Bool.{cases_lt}
use Rattle.gf_frac.specs.Fraction.{◌+ℚ◌, ◌*ℚ◌, neg_ℚ, zero_ℚ, one_ℚ}
use Rattle.gf_frac.proofs.FractionLaws.{zero-+ℚ, one-*ℚ}
use Rattle.gf_exponents_theory.specs.Exponents.{Exponents, entry, same, plus, minus, IsInRing}
use Rattle.gf_exponents_theory.specs.Orders.{IsWeightedBelow}
use Rattle.gf_exponents_theory.proofs.ExponentsLaws.{same_flip, same_trans, same_by_entries, entries_same, entry-plus, entry-minus}
use Rattle.gf_exponents_theory.proofs.OrderLaws.{weighted-order}
use Rattle.gf_poly.specs.Polynomial.{Terms, coefficient, SamePolynomial, times}
use Rattle.gf_poly.specs.Marking.{MarkedPolynomial}
use Rattle.gf_poly.proofs.PolynomialLaws.{coefficient-++, coefficient-times, coefficient-factor, SamePolynomial-times, times-++, times-plain}
use Rattle.gf_ideal_theory.specs.Membership.{IsInVariables, AreInVariables, IsMember, Spans}
use Rattle.gf_ideal_theory.specs.Marks.{Piece, value}
use Rattle.gf_ideal_theory.specs.Reduction.{IsDivisible, IsIrreducible}
use Rattle.gf_ideal_theory.specs.Bases.{IsBasis, IsReducedBasisFor}
use Rattle.gf_ideal_theory.proofs.Identities.{away}
use Rattle.gf_ideal_theory.proofs.ListLaws.{Each-weaker}
use Rattle.gf_ideal_theory.proofs.RingLaws.{ring-along, ring-left, ring-plus}
use Rattle.gf_ideal_theory.proofs.TermLaws.{found}
use Rattle.gf_ideal_theory.proofs.ListedTerms.{by_terms}
use Rattle.gf_ideal_theory.proofs.SpanLaws.{Spans-equal, Spans-++, Spans-times}
use Rattle.gf_ideal_theory.proofs.MembershipLaws.{variables-times, variables_of_member, spans_of_member, member_of_spans}
use Rattle.gf_ideal_theory.proofs.PieceLaws.{spans_value}
use Rattle.gf_ideal_theory.proofs.StepLaws.{IsClosed, IsPieceIn, IsWithin, closed-ring}
use Rattle.gf_ideal_theory.proofs.DivisionLaws.{Divided, divided, irreducible_terms}
use Rattle.gf_ideal_theory.proofs.BasisLaws.{basis_of_groebner_for}
use Rattle.gf_ideal_theory.proofs.LawsHold.{marks_have_weights}
use Rattle.gf_saturation_theory.specs.Saturations.{powered, next_variable, last_weight, AreLeftOver}
use Rattle.gf_saturation_theory.proofs.SubstitutionLaws.{next-below, ring-next, ring-powered}
use Rattle.gf_saturation_theory.proofs.SaturationLaws.{variables_of_saturated}
use Rattle.gf_saturation_theory.proofs.EliminationLaws.{free_by_head, left_over_variables, member_of_left_over, left_over_of_member}
use Rattle.gf_saturate.specs.Saturating.{AddsNothing}

-- ---- a monomial that keeps irreducible polynomials irreducible

-- where u takes no monomial of a set that steps don't leave to a multiple of a mark that wasn't one before: with u f, f is in the ideal
pub divided_out : (m : ℕ) (gs : List Terms) (bs : List MarkedPolynomial) (B : Exponents → Type 0) (u : Exponents) (f : Terms) →
    AreInVariables m gs → IsBasis m gs bs → IsClosed (Contains bs) B → ((x : Exponents) → B x → IsInRing m x) → IsInRing m u →
    ((y : Exponents) → B y → IsDivisible (Contains bs) (plus u y) → IsDivisible (Contains bs) y) →
    IsWithin B f → IsMember m gs (times one_ℚ u f) → IsMember m gs f
divided_out m gs bs B u f v b closed inside ring still within member = at (divided bs b.marked.0 B f b.marked.2 closed within)
  where
    at : Divided bs B f → IsMember m gs f
    at d = member_of_spans m gs f v (λ x h. inside x (within x h))
        (Spans-equal gs p f (λ e. sym (d.equal e ∙ ap (λ z. z +ℚ coefficient p e) (none e) ∙ zero-+ℚ _)) spans_p)
      where
        r : Terms
        r = d.remainder

        p : Terms
        p = value d.pieces

        spans_p : Spans gs p
        spans_p = spans_value gs (Contains bs) (λ c k. spans_of_member m gs c.poly (b.members c k)) d.pieces
            (Each-weaker (IsPieceIn (Contains bs) B) (λ (q : Piece). Contains bs q.of) (λ q k. k.member) d.pieces d.inside)

        taken : SamePolynomial r (f ++ times (neg_ℚ one_ℚ) [] p)
        taken e =
            away (coefficient f e) (coefficient r e) one_ℚ (coefficient p e) (d.equal e ∙ ap (λ z. coefficient r e +ℚ z) (sym (one-*ℚ _)))
            ∙ ap (λ z. coefficient f e +ℚ z) (sym (coefficient-factor (neg_ℚ one_ℚ) [] p e ∙ ap (λ g. neg_ℚ one_ℚ *ℚ coefficient g e) (times-plain p)))
            ∙ sym (coefficient-++ f (times (neg_ℚ one_ℚ) [] p) e)

        multiple : Spans gs (times one_ℚ u r)
        multiple = Spans-equal gs (times one_ℚ u f ++ times one_ℚ u (times (neg_ℚ one_ℚ) [] p)) (times one_ℚ u r)
            (λ e. ap (λ g. coefficient g e) (sym (times-++ one_ℚ u f (times (neg_ℚ one_ℚ) [] p))) ∙
            sym (SamePolynomial-times one_ℚ u r (f ++ times (neg_ℚ one_ℚ) [] p) taken e))
            (Spans-++ gs (times one_ℚ u f) (times one_ℚ u (times (neg_ℚ one_ℚ) [] p)) (spans_of_member m gs (times one_ℚ u f) member)
            (Spans-times gs (times (neg_ℚ one_ℚ) [] p) one_ℚ u (Spans-times gs p (neg_ℚ one_ℚ) [] spans_p)))

        r_within : IsWithin B r
        r_within = by_terms B r closed.along d.kept

        irreducible : IsIrreducible (Contains bs) (times one_ℚ u r)
        irreducible x h k = by (found one_ℚ u r x h)
          where
            by : ((y : Exponents) × (coefficient r y ≢ zero_ℚ) × (same x (plus u y) ≡ true)) → ⊥
            by q = irreducible_terms bs r d.irreducible q.0 q.1 (still q.0 (r_within q.0 q.1) (record {
              member = k.member;
              contained = k.contained;
              rest = k.rest;
              divides = same_trans (plus u q.0) x (plus k.rest k.member.head) (same_flip x (plus u q.0) q.2) k.divides;
            }))

        vanishes : SamePolynomial (times one_ℚ u r) []
        vanishes = b.decides (times one_ℚ u r) (member_of_spans m gs (times one_ℚ u r) v (variables-times m one_ℚ u r ring (λ x h. inside x (r_within x h)))
            multiple) irreducible

        none : SamePolynomial r []
        none y = sym (one-*ℚ _) ∙ sym (coefficient-times one_ℚ u r y) ∙ vanishes (plus u y)

-- ---- powers of a variable

zero-powered : (p : ℕ) (v : Exponents) (i : ℕ) → entry v i ≡ 0 → entry (powered p v) i ≡ 0
zero-powered zero v i z = refl
zero-powered (suc p) v i z = omega (arith, entry-plus v (powered p v) i, z, zero-powered p v i z)

-- what has nothing of the variable at index k divides y where it divides y times a monomial of this variable alone
divides_still : (k : ℕ) (c u w y : Exponents) → ((i : ℕ) → i < k → entry u i ≡ 0) → ((i : ℕ) → k < i → entry u i ≡ 0) → entry c k ≡ 0 →
    same (plus u y) (plus w c) ≡ true → same y (plus (minus y c) c) ≡ true
divides_still k c u w y below above none s = same_by_entries y (plus (minus y c) c) (λ i. at i (cases_lt i k))
  where
    apart : (i : ℕ) → entry u i ≡ 0 → entry y i ≡ entry (plus (minus y c) c) i
    apart i z = omega (arith, entry-plus (minus y c) c i, entry-minus y c i, entries_same (plus u y) (plus w c) s i, entry-plus u y i, entry-plus w c i, z)

    here : (i : ℕ) → i ≡ k → entry y i ≡ entry (plus (minus y c) c) i
    here i e = let z : entry c i ≡ 0 = ap (entry c) e ∙ none in omega (arith, entry-plus (minus y c) c i, entry-minus y c i, z)

    from : (i : ℕ) → k ≤ i → (k < i) ⊎ (i ≤ k) → entry y i ≡ entry (plus (minus y c) c) i
    from i g (inl l) = apart i (above i l)
    from i g (inr l) = here i (omega (arith, g, l))

    at : (i : ℕ) → (i < k) ⊎ (k ≤ i) → entry y i ≡ entry (plus (minus y c) c) i
    at i (inl l) = apart i (below i l)
    at i (inr g) = from i g (cases_lt k i)

still_divisible : (k p : ℕ) (bs : List MarkedPolynomial) (y : Exponents) →
    ((b : MarkedPolynomial) → Contains bs b → (w : Exponents) → same (plus (powered p (next_variable k)) y) (plus w b.head) ≡ true → entry b.head k ≡ 0) →
    IsDivisible (Contains bs) (plus (powered p (next_variable k)) y) → IsDivisible (Contains bs) y
still_divisible k p bs y none d = record {
  member = d.member;
  contained = d.contained;
  rest = minus y d.member.head;
  divides = divides_still k d.member.head (powered p (next_variable k)) d.rest y
      (λ i l. zero-powered p (next_variable k) i (next-below k i l))
      (λ i l. zero-powered p (next_variable k) i (ring-next k i (omega (arith, l))))
      (none d.member d.contained d.rest d.divides) d.divides;
}

-- ---- a variable that divides no mark

-- of a basis
pub adds_nothing : (n k : ℕ) (gs : List Terms) (bs : List MarkedPolynomial) → k < n → AreInVariables n gs → IsBasis n gs bs →
    ((b : MarkedPolynomial) → Contains bs b → entry b.head k ≡ 0) → AddsNothing n k gs
adds_nothing n k gs bs l v b none f s =
    divided_out n gs bs (IsInRing n) (powered s.power (next_variable k)) f v b
    (closed-ring n (Contains bs) (λ c m. variables_of_member n gs c.poly v (b.members c m)))
    (λ x h. h)
    (ring-powered n s.power (next_variable k) (λ i g. ring-next k i (omega (arith, l, g))))
    (λ y h d. still_divisible k s.power bs y (λ c m w e. none c m) d)
    (variables_of_saturated n gs (next_variable k) f v s) s.member

-- of those that are left over
pub left_over_spared : (n k : ℕ) (gs hs : List Terms) (bs : List MarkedPolynomial) → k < n → AreInVariables (suc n) gs →
    IsReducedBasisFor (suc n) gs (IsWeightedBelow (last_weight n)) bs → AreLeftOver n bs hs →
    ((b : MarkedPolynomial) → Contains bs b → entry b.head n ≡ 0 → entry b.head k ≡ 0) → AddsNothing n k hs
left_over_spared n k gs hs bs l v r o none f s =
    left_over_of_member n gs hs bs f v r o w
    (divided_out (suc n) gs bs (IsInRing n) u f v b closed
    (λ x h i g. h i (omega (arith, g)))
    (ring-powered (suc n) s.power (next_variable k) (λ i g. ring-next k i (omega (arith, l, g))))
    (λ y h d. still_divisible k s.power bs y (λ c m z e. none c m (free y h c z e)) d)
    w (member_of_left_over n gs hs bs (times one_ℚ u f) v r o s.member).1)
  where
    u : Exponents
    u = powered s.power (next_variable k)

    w : IsInVariables n f
    w = variables_of_saturated n hs (next_variable k) f (left_over_variables n bs hs o) s

    b : IsBasis (suc n) gs bs
    b = basis_of_groebner_for (suc n) gs bs (IsWeightedBelow (last_weight n)) (weighted-order (last_weight n))
        (marks_have_weights.by_weighted (suc n) (last_weight n) bs r.basis.marked) r.basis

    without_last : (c : MarkedPolynomial) → Contains bs c → IsInRing n c.head → IsInVariables n c.poly
    without_last c m h = free_by_head n c (variables_of_member (suc n) gs c.poly v (r.basis.members c m)) (r.basis.marked c m) (h n (omega arith))

    right : (x y : Exponents) → IsInRing n (plus x y) → IsInRing n y
    right x y h i g = omega (arith, h i g, entry-plus x y i)

    closed : IsClosed (Contains bs) (IsInRing n)
    closed = record { along = ring-along n; lower = λ c m x t q h. ring-plus n x t (ring-left n x c.head h) (without_last c m (right x c.head h) t q) }

    free : (y : Exponents) → IsInRing n y → (c : MarkedPolynomial) (z : Exponents) → same (plus u y) (plus z c.head) ≡ true → entry c.head n ≡ 0
    free y h c z e = omega (
      arith,
      entries_same (plus u y) (plus z c.head) e n,
      entry-plus u y n,
      entry-plus z c.head n,
      zero-powered s.power (next_variable k) n (ring-next k n (omega (arith, l))),
      h n (omega arith),
    )
