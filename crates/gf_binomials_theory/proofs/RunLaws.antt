-- Runs of Buchberger's algorithm on differences of two monomials: their lists, and their operations.
-- To cite: list_binomials, origin-binomial, tail-binomial, run_fits, tail_fits.
use Rattle.std.proofs.Common.{◌≡◌, ◌⊎◌, List, [], ◌∷◌, ◌++◌, Contains, arith, sym, subst, inl, inr}
use Rattle.gf_frac.specs.Fraction.{Fraction}
use Rattle.gf_frac.specs.Fits.{Fits}
use Rattle.gf_frac.specs.declared.refusal.Op.{Op}
use Rattle.gf_exponents_theory.specs.Exponents.{Exponents}
use Rattle.gf_int_theory.proofs.ListLaws.{Contains-last}
use Rattle.gf_poly.specs.Polynomial.{Terms}
use Rattle.gf_poly.specs.Marking.{MarkedPolynomial}
use Rattle.gf_ideal_theory.specs.Operands.{IsStepOperation}
use Rattle.gf_ideal_theory.specs.WorkLists.{IsOrigin, IsWorkList, IsTail, IsRunOperation}
use Rattle.gf_binomials_theory.specs.Binomials.{IsBinomial, AreBinomials, IsMarkedBinomial, AreMarkedBinomials}
use Rattle.gf_binomials_theory.proofs.BinomialLaws.{binomial_step, binomial-reached, binomial-s_polynomial, binomial-monic, binomial-marked, step_fits}
use Rattle.gf_binomials_theory.proofs.BinomialLaws.{reduction_fits, s_polynomial_fits, monic_fits}

pub origin-binomial : (fs : List Terms) (bs : List MarkedPolynomial) (f : Terms) → AreBinomials fs → AreMarkedBinomials (Contains bs) →
    IsOrigin fs bs f → IsBinomial f
origin-binomial fs bs f h m (inl c) = h f c
origin-binomial fs bs f h m (inr s) = binomial-s_polynomial s.0 s.1 f (m s.0 s.2) (m s.1 s.3) s.4

pub list_binomials : (fs : List Terms) (below : Exponents → Exponents → Type 0) (bs : List MarkedPolynomial) → AreBinomials fs →
    IsWorkList fs below bs → AreMarkedBinomials (Contains bs)
list_binomials fs below bs h IsWorkList.start = λ b c. absurd (omega (arith, c.1))
list_binomials fs below bs h (IsWorkList.more cs f g d w o r m k n) = grown (list_binomials fs below cs h w)
  where
    grown : AreMarkedBinomials (Contains cs) → AreMarkedBinomials (Contains (cs ++ d ∷ []))
    grown old b c = at (Contains-last cs d b c)
      where
        new : IsMarkedBinomial d
        new = binomial-monic g d (binomial-reached (Contains cs) f g old (origin-binomial fs cs f h old o) r) m

        at : Contains cs b ⊎ (b ≡ d) → IsMarkedBinomial b
        at (inl c) = old b c
        at (inr e) = subst IsMarkedBinomial (sym e) new

pub tail-binomial : (bs : List MarkedPolynomial) (b : MarkedPolynomial) → AreMarkedBinomials (Contains bs) → IsTail bs b → IsBinomial b.poly
tail-binomial bs b m (IsTail.member d c) = binomial-marked b (m b c)
tail-binomial bs b m (IsTail.step d e t k s n) = binomial_step (Contains bs) d.poly b.poly s (m s.member s.contained) (tail-binomial bs d m t)

pub tail_fits : (bs : List MarkedPolynomial) (b : MarkedPolynomial) (at : Exponents) (op : Op) (left right : Fraction) → AreMarkedBinomials (Contains bs) →
    IsTail bs b → IsStepOperation (Contains bs) b.poly at op left right → Fits op left right
tail_fits bs b at op left right m t o = step_fits (Contains bs) b.poly at op left right m (tail-binomial bs b m t) o

-- no operation of a run leaves its range
pub run_fits : (fs : List Terms) (below : Exponents → Exponents → Type 0) (op : Op) (left right : Fraction) → AreBinomials fs →
    IsRunOperation fs below op left right → Fits op left right
run_fits fs below op left right h (IsRunOperation.step bs f w o r) =
    let m = list_binomials fs below bs h w in
    reduction_fits (Contains bs) f op left right m (origin-binomial fs bs f h m o) r
run_fits fs below op left right h (IsRunOperation.s_polynomial bs b c w kb kc o) =
    let m = list_binomials fs below bs h w in
    s_polynomial_fits b c op left right (m b kb) (m c kc) o
run_fits fs below op left right h (IsRunOperation.monic bs f g at w o r t d q) =
    let m = list_binomials fs below bs h w in
    monic_fits g at op left right (binomial-reached (Contains bs) f g m (origin-binomial fs bs f h m o) r) q
run_fits fs below op left right h (IsRunOperation.tail bs b at w t n o) = tail_fits bs b at op left right (list_binomials fs below bs h w) t o
