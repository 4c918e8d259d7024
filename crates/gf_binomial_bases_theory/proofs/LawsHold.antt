-- The theorems of specs/Laws.antt.
use Rattle.std.proofs.Common.{◌≡◌, ◌⊎◌, Bool, true, false, Contains, Some, None, refl, sym, ap, ◌∙◌, inl, inr}
use Rattle.gf_frac.specs.Fraction.{◌+ℚ◌, neg_ℚ}
use Rattle.gf_exponents_theory.specs.Exponents.{Exponents, same}
use Rattle.gf_exponents_theory.specs.Orders.{lighter}
use Rattle.gf_exponents_theory.proofs.ExponentsLaws.{same_flip, same_trans, same_shift}
use Rattle.gf_poly.specs.Marking.{MarkedPolynomial}
use Rattle.gf_ideal_theory.proofs.MarkWeights.{mark-there}
use Rattle.gf_ideal_theory.proofs.OrderWeights.{IsGrading}
use Rattle.gf_bases_theory.proofs.GradedBasisLaws.{basis-graded}
use Rattle.gf_initial_theory.specs.Parts.{IsInitialPart}
use Rattle.gf_initial_theory.proofs.MatchingLaws.{matched-from}
use Rattle.gf_initial_theory.proofs.PartLaws.{level_of_initial}
use Rattle.gf_binomials_theory.specs.Binomials.{indicator, IsMarkedBinomial, AreMarkedBinomials}
use Rattle.gf_binomial_bases_theory.specs.Laws.{BasesAreOfBinomials, InitialFormsAreOfBinomials, MonomialIdealsHaveMonomialBases}
use Rattle.gf_binomial_bases_theory.proofs.DecidedLaws.{decided_by_basis}
use Rattle.gf_binomial_bases_theory.proofs.ReducedLaws.{reduced_binomials}
use Rattle.gf_binomial_bases_theory.proofs.BinomialParts.{IsPartOf, part_of}

pub bases_of_binomials : BasesAreOfBinomials
bases_of_binomials n fs bs v two b = reduced_binomials n fs bs v two (decided_by_basis n fs bs v b.basis) b.basis.members b.basis.decides b.tails
    (λ c k. (b.basis.marked.2 c k).monic)

marked_part : (b p : MarkedPolynomial) (m : IsMarkedBinomial b) → p.head ≡ b.head → IsPartOf b.head m.tail p.poly → IsMarkedBinomial p
marked_part b p m h (IsPartOf.whole y e l) = record {
  tail = Some y;
  binomial = record { equation = λ x. l.equation x ∙ ap (λ z. indicator (Some z) x +ℚ neg_ℚ (indicator (Some y) x)) (sym h) };
}
marked_part b p m h (IsPartOf.mark l) = record {
  tail = None;
  binomial = record { equation = λ x. l.equation x ∙ ap (λ z. indicator (Some z) x +ℚ neg_ℚ (indicator None x)) (sym h) };
}

pub initial_forms_of_binomials : InitialFormsAreOfBinomials
initial_forms_of_binomials n fs w bs ps v two r k i p c = at (matched-from (IsInitialPart w) bs ps i p c)
  where
    marked : AreMarkedBinomials (Contains bs)
    marked = bases_of_binomials n fs bs v two r

    at : ((b : MarkedPolynomial) × Contains bs b × IsInitialPart w b p) → IsMarkedBinomial p
    at b = marked_part b.0 p (marked b.0 b.1) b.2.head
        (part_of w b.0 p (marked b.0 b.1) (level_of_initial w b.0 p (k b.0 b.1) (mark-there (lighter r.basis.marked.0) b.0 (r.basis.marked.2 b.0 b.1)) b.2))

-- monomials as their own classes
each_alone : IsGrading (λ x y. same x y ≡ true)
each_alone = record {
  decide = λ x y. at x y (same x y) refl;
  along = λ x y s. s;
  symmetric = λ x y s. same_flip x y s;
  transitive = λ x y z s t. same_trans x y z s t;
  invariant = λ z x y s. same_shift z x y s;
}
  where
    at : (x y : Exponents) (b : Bool) → same x y ≡ b → (same x y ≡ true) ⊎ (same x y ≡ true → ⊥)
    at x y true h = inl h
    at x y false h = inr (λ s. absurd (cc))

pub monomial_bases : MonomialIdealsHaveMonomialBases
monomial_bases n fs bs v one r b c x h = basis-graded n fs (λ x y. same x y ≡ true) bs b each_alone v one r.basis.members r.basis.decides r.tails c x h
