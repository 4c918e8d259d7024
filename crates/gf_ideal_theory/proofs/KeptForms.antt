-- From what a program keeps to what the theory speaks of: marks, monic forms and arranged lists of `gf_poly`.
-- To cite: term_there, marked_there, monic_form, arranged_list. The rest are steps.
use Rattle.std.specs.Prelude.{◌≡◌, ◌≢◌, ℕ, suc, ◌+◌, ◌<◌, ◌≤◌, true, false, List, [], ◌∷◌, length, Contains, IsSortedByKey, slice_index_or}
use Rattle.std.specs.Ordering.{MatchOrdering, is_lt}
use Rattle.std.specs.declared.cmp.Ordering.{Ordering}
use Rattle.std.specs.declared.cmp.Ordering.TheVariants.{Less, Equal, Greater}
use Rattle.std.proofs.Common.{arith, sym, ap, ◌∙◌, subst}
use Rattle.std.proofs.lemmas.List.Sorted.{Contains-permutation, IsPermutation-sym}
use Rattle.gf_frac.specs.Fraction.{Fraction, ◌*ℚ◌, reciprocal_ℚ, zero_ℚ}
use Rattle.gf_frac.proofs.FractionLaws.{*ℚ_assoc, *ℚ-reciprocal_ℚ, one-*ℚ}
use Rattle.gf_exponents_theory.specs.Exponents.{same, plus}
use Rattle.gf_exponents_theory.specs.Orders.{lex, IsLexBelow}
use Rattle.gf_exponents_theory.proofs.ExponentsLaws.{plus-nil, same_of}
use Rattle.gf_exponents_theory.proofs.OrderLaws.{lex-compares, lex-strict}
use Rattle.gf_poly.specs.declared.Term.{Term}
use Rattle.gf_poly.specs.Polynomial.{Terms, coefficient, HasVariables, IsDescending}
use Rattle.gf_poly.specs.Marking.{MarkedPolynomial, MarkedPolynomials, Each, HasMark, HasMarkedTerm, IsMonicOf, IsArranged}
use Rattle.gf_poly.proofs.CoefficientLaws.{term_length, term_nonzero, term_coefficient}
use Rattle.gf_ideal_theory.specs.Membership.{HasMonomial}
use Rattle.gf_ideal_theory.specs.Reduction.{IsMonicForm}
use Rattle.gf_ideal_theory.specs.Bases.{AreApart, IsCanonical, HaveAscendingMarks, AreArranged}
use Rattle.gf_ideal_theory.proofs.ListLaws.{Each-weaker, each_contained}
use Rattle.gf_ideal_theory.proofs.ArrangementLaws.{apart-arranged}

-- ---- terms of a descending list

pub term_there : (n : ℕ) (f : Terms) (t : Term) → HasVariables n f → IsDescending f → Contains f t → HasMonomial f t.mono
term_there n f t v d c z = term_nonzero f t d c (sym (term_coefficient n f t v d c) ∙ z)

-- the coefficient at the mark is that of the marked term
mark-coefficient : (n : ℕ) (b : MarkedPolynomial) (c : Fraction) → HasVariables n b.poly → IsDescending b.poly →
    HasMark b c → coefficient b.poly b.head ≡ c
mark-coefficient n b c v d m = term_coefficient n b.poly (record { coef = c; mono = b.head }) v d m

-- a marked monomial is one of the polynomial
pub marked_there : (n : ℕ) (b : MarkedPolynomial) → HasVariables n b.poly → HasMarkedTerm b → HasMonomial b.poly b.head
marked_there n b v m = term_there n b.poly (record { coef = m.mark; mono = b.head }) v m.descending m.term

-- ---- monic forms

-- what a program makes monic is the monic form
pub monic_form : (n : ℕ) (f g : MarkedPolynomial) → HasVariables n f.poly → IsDescending f.poly → IsMonicOf f g →
    IsMonicForm f.poly g
monic_form n f g v d q = record {
  there = λ z. nonzero (sym at_head ∙ z);
  equation = λ x. ap (λ z. z *ℚ coefficient g.poly x) at_head ∙ ap (λ z. q.mark *ℚ z) (q.quotients x) ∙
      sym (*ℚ_assoc q.mark (reciprocal_ℚ q.mark) (coefficient f.poly x)) ∙ ap (λ z. z *ℚ coefficient f.poly x) (*ℚ-reciprocal_ℚ q.mark nonzero) ∙ one-*ℚ _;
}
  where
    nonzero : q.mark ≢ zero_ℚ
    nonzero = term_nonzero f.poly (record { coef = q.mark; mono = f.head }) d q.term

    at_head : coefficient f.poly g.head ≡ q.mark
    at_head = ap (coefficient f.poly) q.head ∙ mark-coefficient n f q.mark v d q.term

-- ---- arranged lists

-- sorted marks of one length that are apart ascend
ascending_from : (n : ℕ) (bs : List MarkedPolynomial) → Each (λ (b : MarkedPolynomial). length b.head ≡ n) bs →
    AreApart bs → IsSortedByKey (λ (b : MarkedPolynomial). b.head) lex bs → HaveAscendingMarks bs
ascending_from n [] l a s = tt
ascending_from n (b ∷ []) l a s = (tt, tt)
ascending_from n (b ∷ c ∷ cs) l a s = at (ascending_from n (c ∷ cs) l.1 a.1 (λ k d p q. later k d p q))
  where
    later : (k : ℕ) (d : MarkedPolynomial) → 0 ≤ k → k + 1 < length (c ∷ cs) →
        is_lt (lex (slice_index_or (c ∷ cs) (k + 1) d).head (slice_index_or (c ∷ cs) k d).head) ≡ false
    later k d p q =
        let e : suc k + 1 ≡ suc (k + 1) = omega arith in
        subst (λ (i : ℕ). is_lt (lex (slice_index_or (b ∷ c ∷ cs) i d).head (slice_index_or (b ∷ c ∷ cs) (suc k) d).head) ≡ false) e
        (s (suc k) d (omega arith) (omega (arith, q)))

    next : (o : Ordering) → MatchOrdering o (IsLexBelow c.head b.head) (c.head ≡ b.head) (IsLexBelow b.head c.head) →
        is_lt o ≡ false → IsLexBelow b.head c.head
    next Less m f = absurd (cc)
    next Equal m f =
        let n : same c.head (plus b.head []) ≡ false = a.0.0.0 [] in
        let t : same c.head (plus b.head []) ≡ true = same_of c.head (plus b.head []) (m ∙ sym (plus-nil b.head)) in
        absurd (cc)
    next Greater m f = m

    at : HaveAscendingMarks (c ∷ cs) → HaveAscendingMarks (b ∷ c ∷ cs)
    at r =
        let first = next (lex c.head b.head) (lex-compares c.head b.head (l.1.0 ∙ sym l.0)) (s 0 b (omega arith) (omega arith)) in (
          (
            first,
            Each-weaker (λ (d : MarkedPolynomial). IsLexBelow c.head d.head) (λ (d : MarkedPolynomial). IsLexBelow b.head d.head)
                (λ d m. lex-strict.transitive b.head c.head d.head first m) cs r.0,
          ),
          r,
        )

-- an arranged list of members as a program keeps them, that are apart
pub arranged_list : (n : ℕ) (s t : MarkedPolynomials) → IsArranged s t →
    ((b : MarkedPolynomial) → Contains s.items b → IsCanonical n b) → AreApart s.items → AreArranged n t.items
arranged_list n s t r c a = record {
  canonical = kept;
  ascending = ascending_from n t.items (each_contained (λ (b : MarkedPolynomial). length b.head ≡ n) t.items (λ b q. (kept b q).head))
      (apart-arranged s.items t.items r.members a) r.ascending;
}
  where
    kept : (b : MarkedPolynomial) → Contains t.items b → IsCanonical n b
    kept b q = c b (Contains-permutation t.items s.items b (IsPermutation-sym s.items t.items r.members) q)

-- a marked polynomial as a program keeps it
pub canonical_marked : (n : ℕ) (b : MarkedPolynomial) → HasVariables n b.poly → HasMarkedTerm b → IsCanonical n b
canonical_marked n b v m = record { variables = v; descending = m.descending; head = term_length n b.poly (record { coef = m.mark; mono = b.head }) v m.term }
