-- Differences of monomials as vectors.
-- To cite: saturated_vectors.
use Rattle.std.proofs.Common.{◌≡◌, ◌⊎◌, ℕ, Bool, true, false, if◌then◌else◌, List, [], ◌∷◌, ◌++◌, Contains, arith, sym, ap, ◌∙◌, subst, inl, inr}
use Rattle.gf_frac.specs.Fraction.{Fraction, ◌+ℚ◌, ◌*ℚ◌, neg_ℚ, zero_ℚ, one_ℚ}
use Rattle.gf_frac.proofs.FractionLaws.{zero-+ℚ, one-*ℚ, +ℚ-neg_ℚ, +ℚ_comm, +ℚ_assoc}
use Rattle.gf_exponents_theory.specs.Exponents.{Exponents, same, plus, IsInRing}
use Rattle.gf_exponents_theory.proofs.ExponentsLaws.{plus_comm}
use Rattle.gf_poly.specs.declared.Term.{Term}
use Rattle.gf_poly.specs.Polynomial.{Terms, coefficient, SamePolynomial, times}
use Rattle.gf_ideal_theory.specs.Membership.{IsInVariables, AreInVariables}
use Rattle.gf_int_theory.proofs.ListLaws.{Contains-here}
use Rattle.gf_ideal_theory.proofs.ListLaws.{Contains-there, Contains-cases}
use Rattle.gf_ideal_theory.proofs.RingLaws.{ring-along, ring-plus}
use Rattle.gf_ideal_theory.proofs.ListedTerms.{by_terms}
use Rattle.gf_ideal_theory.proofs.SpanLaws.{Spans-equal, Spans-generator, Spans-++, Spans-times}
use Rattle.gf_ideal_theory.proofs.MembershipLaws.{member_of_spans}
use Rattle.gf_saturation_theory.specs.Saturations.{IsSaturated}
use Rattle.gf_quotients_theory.specs.Ways.{difference}
use Rattle.gf_quotients_theory.proofs.WayLaws.{saturated_combined}

cancelling : (v : Bool) (x : Fraction) → (if v then neg_ℚ one_ℚ else zero_ℚ) +ℚ ((if v then one_ℚ else zero_ℚ) +ℚ x) ≡ x
cancelling true x = sym (+ℚ_assoc (neg_ℚ one_ℚ) one_ℚ x) ∙ ap (λ z. z +ℚ x) (+ℚ_comm (neg_ℚ one_ℚ) one_ℚ ∙ +ℚ-neg_ℚ one_ℚ) ∙ zero-+ℚ x
cancelling false x = zero-+ℚ _ ∙ zero-+ℚ x

abbrev at : Fraction → Exponents → Term
at c x = record { coef = c; mono = x }

vectors : (a b c d : Exponents) → SamePolynomial (times one_ℚ c (difference a b) ++ times one_ℚ b (difference c d)) (difference (plus c a) (plus b d))
vectors a b c d e = ap (λ z. coefficient z e) lists ∙ ap (λ z. (if same e (plus c a) then one_ℚ else zero_ℚ) +ℚ z) (cancelling (same e (plus c b)) _)
  where
    lists : times one_ℚ c (difference a b) ++ times one_ℚ b (difference c d) ≡ at one_ℚ (plus c a) ∷ at (neg_ℚ one_ℚ) (plus c b) ∷ at one_ℚ (plus c b) ∷ at
        (neg_ℚ one_ℚ) (plus b d) ∷ []
    lists =
        ap (λ z. at z (plus c a) ∷ at (one_ℚ *ℚ neg_ℚ one_ℚ) (plus c b) ∷ at z (plus b c) ∷ at (one_ℚ *ℚ neg_ℚ one_ℚ) (plus b d) ∷ []) (one-*ℚ one_ℚ)
        ∙ ap (λ z. at one_ℚ (plus c a) ∷ at z (plus c b) ∷ at one_ℚ (plus b c) ∷ at z (plus b d) ∷ []) (one-*ℚ (neg_ℚ one_ℚ))
        ∙ ap (λ z. at one_ℚ (plus c a) ∷ at (neg_ℚ one_ℚ) (plus c b) ∷ at one_ℚ z ∷ at (neg_ℚ one_ℚ) (plus b d) ∷ []) (plus_comm b c)

difference_variables : (n : ℕ) (a b : Exponents) → IsInRing n a → IsInRing n b → IsInVariables n (difference a b)
difference_variables n a b ra rb = by_terms (IsInRing n) (difference a b) (ring-along n) (ra, (rb, tt))

pub saturated_vectors : (n : ℕ) (fs : List Terms) (a b c d : Exponents) → AreInVariables n fs → IsInRing n a → IsInRing n b → IsInRing n c → IsInRing n d →
    IsSaturated n fs (difference a b) → IsSaturated n fs (difference c d) → IsSaturated n fs (difference (plus c a) (plus b d))
saturated_vectors n fs a b c d v ra rb rc rd s t = saturated_combined n fs hs (difference (plus c a) (plus b d)) v ring each
    (member_of_spans n hs (difference (plus c a) (plus b d)) ring (difference_variables n (plus c a) (plus b d) (ring-plus n c a rc ra) (ring-plus n b d rb rd))
    (Spans-equal hs (times one_ℚ c (difference a b) ++ times one_ℚ b (difference c d)) (difference (plus c a) (plus b d)) (vectors a b c d)
    (Spans-++ hs (times one_ℚ c (difference a b)) (times one_ℚ b (difference c d))
    (Spans-times hs (difference a b) one_ℚ c (Spans-generator hs (difference a b) (Contains-here (difference a b) (difference c d ∷ []))))
    (Spans-times hs (difference c d) one_ℚ b
    (Spans-generator hs (difference c d) (Contains-there (difference a b) (difference c d) (difference c d ∷ []) (Contains-here (difference c d) [])))))))
  where
    hs : List Terms
    hs = difference a b ∷ difference c d ∷ []

    of : (P : Terms → Type 0) → P (difference a b) → P (difference c d) → (h : Terms) → Contains hs h → P h
    of P p q h k = first (Contains-cases (difference a b) h (difference c d ∷ []) k)
      where
        second : (difference c d ≡ h) ⊎ Contains [] h → P h
        second (inl e) = subst P e q
        second (inr z) = absurd (omega (arith, z.1))

        first : (difference a b ≡ h) ⊎ Contains (difference c d ∷ []) h → P h
        first (inl e) = subst P e p
        first (inr z) = second (Contains-cases (difference c d) h [] z)

    ring : AreInVariables n hs
    ring = of (IsInVariables n) (difference_variables n a b ra rb) (difference_variables n c d rc rd)

    each : (h : Terms) → Contains hs h → IsSaturated n fs h
    each = of (IsSaturated n fs) s t
