-- Marked polynomials made monic.
-- To cite: mark_one, mark_not_one, monic_already, monic_made, monic_refused, made_variables.
use Rattle.std.specs.Prelude.{◌≡◌, ◌≢◌, Bool, true, false, Result, Ok, Err, IfOk, IfErr}
use Rattle.std.proofs.Common.{refl, sym, ap, ◌∙◌, subst}
use Rattle.gf_frac.specs.Fraction.{Fraction, ◌*ℚ◌, one_ℚ}
use Rattle.gf_frac.specs.Fits.{Fits}
use Rattle.gf_frac.specs.Equality.{fraction_eq}
use Rattle.gf_frac.specs.declared.refusal.Overflow.{Overflow}
use Rattle.gf_frac.proofs.FractionLaws.{one-*ℚ, Decides-fraction_eq}
use Rattle.gf_poly.specs.declared.error.PolyError.{PolyError}
use Rattle.gf_poly.specs.declared.error.PolyError.TheVariants as errors
use Rattle.gf_poly.specs.declared.products.Scaling.TheVariants.{Over}
use Rattle.gf_poly.specs.Polynomial.{coefficient}
use Rattle.gf_poly.specs.Products.{IsScaleOverflow}
use Rattle.gf_poly.specs.Marking.{MarkedPolynomial, HasMark, HasMarkedTerm, IsMonicOf, IsMonicCause}
use Rattle.gf_poly.proofs.CoefficientLaws.{term_coefficient}
use Rattle.gf_ideal_theory.specs.Membership.{HasMonomial}
use Rattle.gf_ideal_theory.proofs.KeptForms.{monic_form, term_there}
use Rattle.gf_division.specs.MonicForms.{IsMadeMonic, IsDivisionByMark, IsMonicRefusal, HasSomeVariables}

pub mark_one : (b : MarkedPolynomial) (k l : Fraction) (r : Bool) → HasMark b k → l ≡ one_ℚ → r ≡ fraction_eq k l → r ≡ true → HasMark b one_ℚ
mark_one b k l r h o e t = subst (HasMark b) ((Decides-fraction_eq k l).0 (sym e ∙ t) ∙ o) h

-- the coefficient at the mark
mark-coefficient : (b : MarkedPolynomial) (k : Fraction) → HasSomeVariables b → HasMarkedTerm b → HasMark b k → coefficient b.poly b.head ≡ k
mark-coefficient b k v m h = term_coefficient v.n b.poly (record { coef = k; mono = b.head }) v.each m.descending h

mark-there : (b : MarkedPolynomial) (k : Fraction) → HasSomeVariables b → HasMarkedTerm b → HasMark b k → HasMonomial b.poly b.head
mark-there b k v m h = term_there v.n b.poly (record { coef = k; mono = b.head }) v.each m.descending h

-- a mark that isn't 1
pub mark_not_one : (b : MarkedPolynomial) (k l : Fraction) (r : Bool) → HasSomeVariables b → HasMarkedTerm b → HasMark b k → l ≡ one_ℚ → r ≡ fraction_eq k l →
    r ≡ false → coefficient b.poly b.head ≢ one_ℚ
mark_not_one b k l r v m h o e t z = let d : fraction_eq k l ≡ true = (Decides-fraction_eq k l).1 (sym (mark-coefficient b k v m h) ∙ z ∙ sym o) in absurd (cc)

-- a monic polynomial is its own monic form
pub monic_already : (b : MarkedPolynomial) → HasSomeVariables b → HasMarkedTerm b → HasMark b one_ℚ → IsMadeMonic b b
monic_already b v m h = record {
  form = record {
    there = mark-there b one_ℚ v m h;
    equation = λ x. ap (λ z. z *ℚ coefficient b.poly x) (mark-coefficient b one_ℚ v m h) ∙ one-*ℚ (coefficient b.poly x);
  };
  head = refl;
  kept = λ o. refl;
}

pub monic_made : (f g : MarkedPolynomial) → HasSomeVariables f → HasMarkedTerm f → coefficient f.poly f.head ≢ one_ℚ → IsMonicOf f g → IsMadeMonic f g
monic_made f g v m n h = record { form = monic_form v.n f g v.each m.descending h; head = h.head; kept = λ o. absurd (n o) }

refused : (f : MarkedPolynomial) (e : PolyError) → HasSomeVariables f → HasMarkedTerm f → coefficient f.poly f.head ≢ one_ℚ → IsMonicCause f e →
    IsMonicRefusal f e
refused f (errors.Overflow o) v m n h = at h.cause
  where
    at : IsScaleOverflow Over h.mark f.poly o → IsMonicRefusal f (errors.Overflow o)
    at k = subst (λ (p : Overflow). IsDivisionByMark f p.op p.left p.right × ¬ (Fits p.op p.left p.right)) (sym k.operands) (
      record {
        needed = n;
        operation = record {
          is_op = refl;
          there = mark-there f h.mark v m h.term;
          exponents = k.term.mono;
          is_left = sym (term_coefficient v.n f.poly k.term v.each m.descending k.inside);
          is_right = sym (mark-coefficient f h.mark v m h.term);
        };
      },
      k.leaves,
    )
refused f (errors.Exponent o) v m n h = absurd h.cause
refused f errors.Memory v m n h = tt

-- the same of results
pub if_monic_made : (f : MarkedPolynomial) (r : Result MarkedPolynomial PolyError) → HasSomeVariables f → HasMarkedTerm f → coefficient f.poly f.head ≢ one_ℚ →
    IfOk r (IsMonicOf f) → IfOk r (IsMadeMonic f)
if_monic_made f (Ok g) v m n h = monic_made f g v m n h
if_monic_made f (Err e) v m n h = tt

pub if_monic_refused : (f : MarkedPolynomial) (r : Result MarkedPolynomial PolyError) → HasSomeVariables f → HasMarkedTerm f →
    coefficient f.poly f.head ≢ one_ℚ → IfErr r (IsMonicCause f) → IfErr r (IsMonicRefusal f)
if_monic_refused f (Ok g) v m n h = tt
if_monic_refused f (Err e) v m n h = refused f e v m n h

pub copy_made : (b c : MarkedPolynomial) → c ≡ b → IsMadeMonic b b → IsMadeMonic b c
copy_made b c e h = subst (IsMadeMonic b) (sym e) h
