-- The theorems on calls with pure difference binomials that functions of this crate name.
use Rattle.std.specs.Prelude.{ℕ, List, Contains, ℤ}
use Rattle.gf_frac.specs.Fraction.{Fraction}
use Rattle.gf_frac.specs.Fits.{Fits}
use Rattle.gf_frac.specs.declared.refusal.Op.{Op}
use Rattle.gf_frac.specs.declared.refusal.Overflow.{Overflow}
use Rattle.gf_exponents_theory.specs.SixOrders.{MonomialOrder}
use Rattle.gf_poly.specs.declared.error.PolyError.TheVariants as errors
use Rattle.gf_poly.specs.Polynomial.{Terms}
use Rattle.gf_poly.specs.Marking.{MarkedPolynomial, MarkedPolynomials, polys, IsArranged}
use Rattle.gf_ideal_theory.specs.Membership.{IsInVariables, AreInVariables}
use Rattle.gf_division.specs.Steps.{IsReductionRefusal}
use Rattle.gf_division.specs.Autoreduction.{IsAutoreductionRefusal}
use Rattle.gf_buchberger.specs.declared.bases.BasisError.TheVariants as basis_errors
use Rattle.gf_buchberger.specs.Bases.{IsBasisRefusal}
use Rattle.gf_duality_theory.specs.Faces.{Rows}
use Rattle.gf_saturate.specs.Saturating.{IsSaturateRefusal}
use Rattle.gf_initial_monomials.specs.declared.error.InitialError.TheVariants as initial
use Rattle.gf_initial_monomials.specs.Refusals.{IsConeRefusal}
use Rattle.gf_facets_theory.specs.Regions.{Region}
use Rattle.gf_facets_theory.specs.Facets.{IsFlippable}
use Rattle.gf_facets_theory.specs.MarkedBases.{IsBasisInRegion}
use Rattle.gf_tree.specs.Operations.{IsFlipOperation, IsFlipRefusal}
use Rattle.gf_reverse_theory.specs.Upward.{Fan}
use Rattle.gf_tree.specs.TreeError.TheVariants as tree_errors
use Rattle.gf_tree.specs.Ideals.{ideal_by}
use Rattle.gf_tree.specs.Refusals.{IsTreeRefusal}
use Rattle.gf_reduced.specs.declared.error.CheckError.TheVariants as check_errors
use Rattle.gf_reduced.specs.Forms.{monic_set}
use Rattle.gf_reduced.specs.Refusals.{IsReducedBasisRefusal, IsReducedRefusal, IsTestRefusal}
use Rattle.gf_text.specs.declared.error.TextError.TheVariants as text_errors
use Rattle.gf_text.specs.declared.tree.WrittenTerm.{WrittenTerm}
use Rattle.gf_text.specs.declared.written.Written.{Written}
use Rattle.gf_text.specs.Sets.{IsWhatRemains, IsCombiningCause}
use Rattle.gf_binomials_theory.specs.Binomials.{IsBinomial, AreBinomials, AreMarkedBinomials}
use Rattle.gf_binomial_calls_theory.specs.Sets.{IsBinomialSet}
use Rattle.gf_binomial_calls_theory.specs.Written.{ArePlainlyWritten, written_polynomials}

-- for a basis, in any region, of an ideal that pure difference binomials generate, and a normal that a flip may cross there: the operands
-- of each operation of the flip fit
abbrev pub FlipsOfBinomialsFit : Type 0
FlipsOfBinomialsFit = (n : ℕ) (fs : List Terms) (k : Region) (bs : List MarkedPolynomial) (a : List ℤ) (op : Op) (left right : Fraction) →
    AreInVariables n fs → AreBinomials fs → IsBasisInRegion n fs k bs → IsFlippable n k bs a → IsFlipOperation n bs a op left right →
    Fits op left right

-- No refusal names two fractions: of a reduction, of autoreduction, of a basis for an order, of a flip, of a search over the bases, of a
-- saturation, or of the question at which vectors of a cone the initial ideal has a monomial. Nor, of a marked set as it is read, one of the
-- tests whether it is a Gröbner basis or the reduced one, of the autoreduction of its monic forms, or of a search over the bases of its ideal.
pub record RefusalsTellNoOverflow : Type 0 where
  pub reduction : (bs : List MarkedPolynomial) (f : Terms) (o : Overflow) → AreMarkedBinomials (Contains bs) → IsBinomial f →
      IsReductionRefusal bs f (errors.Overflow o) → ⊥
  pub autoreduction : (bs : List MarkedPolynomial) (o : Overflow) → AreMarkedBinomials (Contains bs) →
      IsAutoreductionRefusal bs (errors.Overflow o) → ⊥
  pub basis : (order : MonomialOrder) (n : ℕ) (fs : List Terms) (budget : ℕ) (o : Overflow) → AreBinomials fs →
      IsBasisRefusal order n fs budget (basis_errors.Overflow o) → ⊥
  pub flip : (n : ℕ) (fs : List Terms) (k : Region) (bs : List MarkedPolynomial) (a : List ℤ) (budget : ℕ) (o : Overflow) →
      AreInVariables n fs → AreBinomials fs → IsBasisInRegion n fs k bs → IsFlippable n k bs a →
      IsFlipRefusal n bs a budget (basis_errors.Overflow o) → ⊥
  pub search : (F : Fan) (pairs : ℕ) (o : Overflow) → AreBinomials F.ideal → IsTreeRefusal F pairs (tree_errors.Overflow o) → ⊥
  pub saturation : (n : ℕ) (fs : List Terms) (budget : ℕ) (o : Overflow) → AreInVariables n fs → AreBinomials fs →
      IsSaturateRefusal n fs budget (basis_errors.Overflow o) → ⊥
  pub initial_ideals : (n : ℕ) (bs : List MarkedPolynomial) (rows : List (List ℤ)) (c : Rows) (pairs : ℕ) (o : Overflow) → AreMarkedBinomials (Contains bs) →
      ((b : MarkedPolynomial) → Contains bs b → IsInVariables n b.poly) → IsConeRefusal n bs rows c pairs (initial.Saturation (basis_errors.Overflow o)) → ⊥
  pub marked_basis : (k : ℕ) (s : MarkedPolynomials) (o : Overflow) → IsBinomialSet s → IsReducedBasisRefusal k s (check_errors.Overflow o) → ⊥
  pub reduced_basis : (k : ℕ) (s : MarkedPolynomials) (o : Overflow) → IsBinomialSet s → IsReducedRefusal k s (check_errors.Overflow o) → ⊥
  pub test : (s : MarkedPolynomials) (o : Overflow) → IsBinomialSet s → IsTestRefusal s (check_errors.Overflow o) → ⊥
  pub monic_forms : (s t : MarkedPolynomials) (o : Overflow) → IsBinomialSet s → IsArranged (monic_set s) t →
      IsAutoreductionRefusal t.items (errors.Overflow o) → ⊥
  pub given_search : (n pairs : ℕ) (s : MarkedPolynomials) (o : Overflow) → IsBinomialSet s →
      IsTreeRefusal (ideal_by n (polys s.items)) pairs (tree_errors.Overflow o) → ⊥

-- polynomials that are written plainly are read as pure difference binomials, and no sum of like terms leaves the range
pub record PlainSetsAreBinomials : Type 0 where
  pub meaning : (n : ℕ) (qs : List (List WrittenTerm)) (ws : List Written) → ArePlainlyWritten qs → IsWhatRemains n qs ws →
      AreBinomials (written_polynomials ws)
  pub sums : (n : ℕ) (qs : List (List WrittenTerm)) (o : Overflow) → ArePlainlyWritten qs → IsCombiningCause n qs (text_errors.Overflow o) → ⊥
