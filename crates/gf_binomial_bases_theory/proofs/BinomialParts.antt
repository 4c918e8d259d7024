-- The part of a marked difference of two monomials, of the weight of its mark: itself, or the mark alone.
-- To cite: off_monomial, none_left; IsPartOf, part_of, binomial-part, parts_binomials.
use Rattle.std.proofs.Common.{◌≡◌, ◌⊎◌, Bool, true, false, if◌then◌else◌, List, Contains, ℤ, Option, Some, None, refl, ap, sym, ◌∙◌, subst, inl, inr}
use Rattle.gf_frac.specs.Fraction.{◌+ℚ◌, neg_ℚ, zero_ℚ, one_ℚ}
use Rattle.gf_frac.proofs.FractionLaws.{+ℚ-neg_ℚ}
use Rattle.gf_exponents_theory.specs.Exponents.{Exponents, same, whole_weight}
use Rattle.gf_exponents_theory.proofs.WholeWeightLaws.{whole_weight-same}
use Rattle.gf_int_theory.proofs.SignLaws.{equal_or_not}
use Rattle.gf_poly.specs.Polynomial.{Terms}
use Rattle.gf_poly.specs.Marking.{MarkedPolynomial, polys}
use Rattle.gf_ideal_theory.proofs.PieceLaws.{Contains-marked}
use Rattle.gf_initial_theory.specs.Parts.{Matching}
use Rattle.gf_initial_theory.proofs.MatchingLaws.{matched-from}
use Rattle.gf_initial_theory.proofs.PartLaws.{IsLevelPart}
use Rattle.gf_binomials_theory.specs.Binomials.{indicator, IsBinomialOf, IsBinomial, AreBinomials, IsMarkedBinomial, AreMarkedBinomials}

-- with the tail, or without
pub data IsPartOf (h : Exponents) (t : Option Exponents) (p : Terms) : Type 0 where
  whole : (y : Exponents) → t ≡ Some y → IsBinomialOf (Some h) (Some y) p → IsPartOf h t p
  mark : IsBinomialOf (Some h) None p → IsPartOf h t p

-- ---- monomials of another weight

-- the indicator of a monomial vanishes at each other monomial
pub off_monomial : (x e : Exponents) → (same e x ≡ true → ⊥) → indicator (Some x) e ≡ zero_ℚ
off_monomial x e n = at (same e x) refl
  where
    at : (b : Bool) → same e x ≡ b → indicator (Some x) e ≡ zero_ℚ
    at true h = absurd (n h)
    at false h = ap (λ b. if b then one_ℚ else zero_ℚ) h

-- a monomial of weight d is nowhere else
off_weight : (v : List ℤ) (d : ℤ) (x e : Exponents) → whole_weight v x ≡ d → (whole_weight v e ≡ d → ⊥) → indicator (Some x) e ≡ zero_ℚ
off_weight v d x e h n = off_monomial x e (λ s. n (whole_weight-same v e x s ∙ h))

-- where two indicators vanish, so does their difference
pub none_left : (p q : Option Exponents) (e : Exponents) → indicator p e ≡ zero_ℚ → indicator q e ≡ zero_ℚ → indicator p e +ℚ neg_ℚ (indicator q e) ≡ zero_ℚ
none_left p q e a b = ap (λ z. z +ℚ neg_ℚ (indicator q e)) a ∙ ap (λ z. zero_ℚ +ℚ neg_ℚ z) b ∙ +ℚ-neg_ℚ zero_ℚ

-- ---- the part

pub part_of : (v : List ℤ) (b p : MarkedPolynomial) (m : IsMarkedBinomial b) → IsLevelPart v b p → IsPartOf b.head m.tail p.poly
part_of v b p m i = at m.tail m.binomial
  where
    h : Option Exponents
    h = Some b.head

    d : ℤ
    d = whole_weight v b.head

    at : (t : Option Exponents) → IsBinomialOf h t b.poly → IsPartOf b.head t p.poly
    at None l = IsPartOf.mark (record {
      equation = λ e. elim (equal_or_not (whole_weight v e) d) [
        | inl q ↦ i.level e q ∙ l.equation e
        | inr n ↦ i.off e n ∙ sym (none_left h None e (off_weight v d b.head e refl n) refl)
      ];
    })
    at (Some y) l = by (equal_or_not (whole_weight v y) d)
      where
        by : (whole_weight v y ≡ d) ⊎ (whole_weight v y ≡ d → ⊥) → IsPartOf b.head (Some y) p.poly
        by (inl w) = IsPartOf.whole y refl (record {
          equation = λ e. elim (equal_or_not (whole_weight v e) d) [
            | inl q ↦ i.level e q ∙ l.equation e
            | inr n ↦ i.off e n ∙ sym (none_left h (Some y) e (off_weight v d b.head e refl n) (off_weight v d y e w n))
          ];
        })
        by (inr o) = IsPartOf.mark (record {
          equation = λ e. elim (equal_or_not (whole_weight v e) d) [
            | inl q ↦ i.level e q ∙ l.equation e ∙ ap (λ z. indicator h e +ℚ neg_ℚ z) (off_monomial y e (λ s. o (sym (whole_weight-same v e y s) ∙ q)))
            | inr n ↦ i.off e n ∙ sym (none_left h None e (off_weight v d b.head e refl n) refl)
          ];
        })

binomial_of_part : (h : Exponents) (t : Option Exponents) (p : Terms) → IsPartOf h t p → IsBinomial p
binomial_of_part h t p (IsPartOf.whole y e l) = record { first = Some h; second = Some y; binomial = l }
binomial_of_part h t p (IsPartOf.mark l) = record { first = Some h; second = None; binomial = l }

pub parts_binomials : (v : List ℤ) (bs ps : List MarkedPolynomial) → AreMarkedBinomials (Contains bs) → Matching (IsLevelPart v) bs ps → AreBinomials (polys ps)
parts_binomials v bs ps two h f c = at (Contains-marked ps f c)
  where
    at : ((p : MarkedPolynomial) × Contains ps p × (p.poly ≡ f)) → IsBinomial f
    at p = let b = matched-from (IsLevelPart v) bs ps h p.0 p.1 in
        subst IsBinomial p.2 (binomial_of_part b.0.head (two b.0 b.1).tail p.0.poly (part_of v b.0 p.0 (two b.0 b.1) b.2))
