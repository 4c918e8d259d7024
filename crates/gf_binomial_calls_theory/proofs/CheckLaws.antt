-- Tests of a marked set of pure difference binomials, as it is read: no operation on coefficients is refused.
-- To cite: head_there, member_fits, forms_binomial, pairs_fit, polys_binomial, autoreduction_fits, paired_fits, test_fits, monic_forms_fit.
use Rattle.std.proofs.Common.{◌≡◌, ℕ, List, Contains, map, arith, subst, inl, inr}
use Rattle.std.proofs.lemmas.List.Sorted.{Contains-permutation, IsPermutation-sym}
use Rattle.gf_frac.specs.Fits.{Fits}
use Rattle.gf_frac.specs.declared.refusal.Overflow.{Overflow}
use Rattle.gf_poly.specs.declared.error.PolyError.TheVariants as errors
use Rattle.gf_poly.specs.Polynomial.{HasVariables, coefficient}
use Rattle.gf_poly.specs.Marking.{MarkedPolynomial, MarkedPolynomials, polys, IsMonicCause, IsArranged}
use Rattle.gf_poly.proofs.CoefficientLaws.{term_coefficient}
use Rattle.gf_ideal_theory.specs.Membership.{HasMonomial}
use Rattle.gf_ideal_theory.proofs.ListLaws.{contained_each}
use Rattle.gf_ideal_theory.proofs.KeptForms.{marked_there}
use Rattle.gf_ideal_theory.proofs.PieceLaws.{Contains-marked}
use Rattle.gf_division.specs.SPolynomials.{IsPairOperation}
use Rattle.gf_division.specs.Autoreduction.{IsAutoreductionRefusal}
use Rattle.gf_reduced.specs.declared.error.CheckError.TheVariants as check_errors
use Rattle.gf_reduced.specs.Forms.{monic_of, monic_set}
use Rattle.gf_reduced.specs.Refusals.{IsPairCause, IsRequireCause, IsTestCause, IsPairedRefusal, IsTestRefusal}
use Rattle.gf_reduced.proofs.FormLaws.{is_form, form_of}
use Rattle.gf_binomials_theory.specs.Binomials.{IsBinomial, AreBinomials, IsMarkedBinomial, AreMarkedBinomials}
use Rattle.gf_binomials_theory.proofs.WholeLaws.{IsSmallWhole, IsPlusMinusOne, fits-div}
use Rattle.gf_binomials_theory.proofs.BinomialLaws.{binomial-s_polynomial, binomial-monic, binomial-marked, coefficient-small, coefficient-plus_minus}
use Rattle.gf_binomials_theory.proofs.BinomialLaws.{reduction_fits, s_polynomial_fits, monic_fits}
use Rattle.gf_binomials_theory.proofs.RunLaws.{tail_fits}
use Rattle.gf_binomial_calls_theory.specs.Sets.{IsBinomialSet}
use Rattle.gf_binomial_calls_theory.proofs.FlipLaws.{forms_binomials}

-- ---- one member

member_variables : (s : MarkedPolynomials) → IsBinomialSet s → (b : MarkedPolynomial) → Contains s.items b → HasVariables s.variables b.poly
member_variables s p b c = contained_each (λ (d : MarkedPolynomial). HasVariables s.variables d.poly) s.items p.variables b c

pub head_there : (s : MarkedPolynomials) → IsBinomialSet s → (b : MarkedPolynomial) → Contains s.items b → HasMonomial b.poly b.head
head_there s p b c = marked_there s.variables b (member_variables s p b c) (p.marked b c)

-- it is made monic
pub member_fits : (s : MarkedPolynomials) → IsBinomialSet s → (b : MarkedPolynomial) (o : Overflow) → Contains s.items b → IsMonicCause b (errors.Overflow o) →
    ⊥
member_fits s p b o c k =
    let d = (p.marked b c).descending in
    let v = member_variables s p b c in
    let top : coefficient b.poly b.head ≡ k.mark = term_coefficient s.variables b.poly (record { coef = k.mark; mono = b.head }) v d k.term in
    let own : coefficient b.poly k.cause.term.mono ≡ k.cause.term.coef = term_coefficient s.variables b.poly k.cause.term v d k.cause.inside in
    k.cause.leaves (fits-div 2 k.cause.term.coef k.mark (omega arith)
    (subst (IsSmallWhole 2) own (coefficient-small b.poly k.cause.term.mono (p.binomials b c)))
    (subst IsPlusMinusOne top (coefficient-plus_minus b.poly b.head (p.binomials b c) (head_there s p b c))))

-- its polynomials, as generators
pub polys_binomial : (s : MarkedPolynomials) → IsBinomialSet s → AreBinomials (polys s.items)
polys_binomial s p f c = at (Contains-marked s.items f c)
  where
    at : ((b : MarkedPolynomial) × Contains s.items b × (b.poly ≡ f)) → IsBinomial f
    at b = subst IsBinomial b.2 (p.binomials b.0 b.1)

-- ---- the monic forms

pub forms_binomial : (s : MarkedPolynomials) → IsBinomialSet s → AreMarkedBinomials (Contains (map monic_of s.items))
forms_binomial s p d c = at (form_of s.items d c)
  where
    at : ((b : MarkedPolynomial) × Contains s.items b × (monic_of b ≡ d)) → IsMarkedBinomial d
    at b = subst IsMarkedBinomial b.2 (binomial-monic b.0.poly (monic_of b.0) (p.binomials b.0 b.1) (is_form b.0 (head_there s p b.0 b.1)))

pair_fits : (b c : MarkedPolynomial) (o : Overflow) → IsMarkedBinomial b → IsMarkedBinomial c → IsPairOperation b c o.op o.left o.right →
    Fits o.op o.left o.right
pair_fits b c o hb hc k = elim k [
  | inl d ↦ monic_fits b.poly b.head o.op o.left o.right (binomial-marked b hb) d.operation
  | inr l ↦ elim l [
    | inl d ↦ monic_fits c.poly c.head o.op o.left o.right (binomial-marked c hc) d.operation
    | inr q ↦ s_polynomial_fits q.0 q.1 o.op o.left o.right (binomial-monic b.poly q.0 (binomial-marked b hb) q.2.left.form)
        (binomial-monic c.poly q.1 (binomial-marked c hc) q.2.right.form) q.3
  ]
]

pub pairs_fit : (bs : List MarkedPolynomial) (o : Overflow) → AreMarkedBinomials (Contains bs) → IsPairCause bs (errors.Overflow o) → ⊥
pairs_fit bs o two (IsPairCause.s_polynomial b c hb hc r) = r.1 (pair_fits b c o (two b hb) (two c hc) r.0)
pairs_fit bs o two (IsPairCause.reduction b c s hb hc q r) =
    r.1 (reduction_fits (Contains bs) s o.op o.left o.right two (binomial-s_polynomial b c s (two b hb) (two c hc) q) r.0)

-- ---- the checks

-- that the set is a basis for its marking, or the reduced one
pub paired_fits : (P : Type 0) (k : ℕ) (s : MarkedPolynomials) (o : Overflow) → IsBinomialSet s → IsPairedRefusal P k s (check_errors.Overflow o) → ⊥
paired_fits P k s o p (IsRequireCause.monic f) = member_fits s p f.member o f.contained f.cause
paired_fits P k s o p (IsRequireCause.pairs r u q) = pairs_fit (map monic_of s.items) o (forms_binomial s p) q

-- whether it is one
pub test_fits : (s : MarkedPolynomials) (o : Overflow) → IsBinomialSet s → IsTestRefusal s (check_errors.Overflow o) → ⊥
test_fits s o p (IsTestCause.monic r f) = member_fits s p f.member o f.contained f.cause
test_fits s o p (IsTestCause.pairs r q) = pairs_fit (map monic_of s.items) o (forms_binomial s p) q

-- ---- autoreduction

pub autoreduction_fits : (bs : List MarkedPolynomial) (o : Overflow) → AreMarkedBinomials (Contains bs) → IsAutoreductionRefusal bs (errors.Overflow o) → ⊥
autoreduction_fits bs o two r = elim r [
  | inl k ↦ k.1 (monic_fits k.0.member.poly k.0.member.head o.op o.left o.right
      (binomial-marked k.0.member (two k.0.member (k.0.index, k.0.needed.at.within, k.0.needed.at.is))) k.0.operation.operation)
  | inr q ↦ q.2.1 (tail_fits q.0 q.2.0.from q.2.0.at o.op o.left o.right (forms_binomials bs q.0 two q.1) q.2.0.tail q.2.0.operation)
]

-- of the members made monic and arranged
pub monic_forms_fit : (s t : MarkedPolynomials) (o : Overflow) → IsBinomialSet s → IsArranged (monic_set s) t →
    IsAutoreductionRefusal t.items (errors.Overflow o) → ⊥
monic_forms_fit s t o p m r = autoreduction_fits t.items o (λ b c. forms_binomial s p b (Contains-permutation t.items (map monic_of s.items) b
    (IsPermutation-sym (map monic_of s.items) t.items m.members) c)) r
