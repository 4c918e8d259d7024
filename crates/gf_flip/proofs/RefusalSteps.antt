-- Refusals of a flip are operations of the flip.
-- To cite: parts_refused, lifts_refused, tails_refused, flip_within.
use Rattle.std.proofs.Common.{ℕ, List, ℤ, Result, Ok, Err, IfErr, arith, refl, inl, inr}
use Rattle.gf_exponents_theory.specs.Orders.{negated_row_of}
use Rattle.gf_exponents_theory.specs.SixOrders.{MonomialOrder}
use Rattle.gf_poly.specs.declared.error.PolyError.{PolyError}
use Rattle.gf_poly.specs.declared.error.PolyError.TheVariants as errors
use Rattle.gf_poly.specs.Polynomial.{Terms}
use Rattle.gf_poly.specs.Marking.{MarkedPolynomial}
use Rattle.gf_division.specs.Autoreduction.{IsAutoreductionRefusal}
use Rattle.gf_buchberger.specs.declared.bases.BasisError.{BasisError}
use Rattle.gf_buchberger.specs.declared.bases.BasisError.TheVariants as basis_errors
use Rattle.gf_buchberger.specs.Bases.{IsBasisRefusal, IsWantOfMemory, of_poly_error}
use Rattle.gf_initial_theory.specs.Lifts.{AreLifts}
use Rattle.gf_strands.specs.Along.{AreAlong, IsBasisOfParts}
use Rattle.gf_lifts.specs.LiftRefusals.{IsLiftsRefusal}
use Rattle.gf_flip.specs.Operations.{IsFlipOperation, IsFlipExponents, IsFlipRefusal, IsFlipWithinLimits}

-- the basis of the parts
pub parts_refused : (n : ℕ) (bs : List MarkedPolynomial) (a : List ℤ) (fs : List Terms) (budget : ℕ) (e : BasisError) → AreAlong a bs fs →
    IsBasisRefusal (MonomialOrder.facet (negated_row_of a)) n fs budget e → IsFlipRefusal n bs a budget e
parts_refused n bs a fs budget (basis_errors.Overflow o) h k = (IsFlipOperation.parts fs h k.0, k.1)
parts_refused n bs a fs budget (basis_errors.Exponent o) h k = (IsFlipExponents.parts fs h k.0, k.1)
parts_refused n bs a fs budget (basis_errors.PairBudget s unsettled) h k = record { generators = fs; along = h; spent = k }
parts_refused n bs a fs budget basis_errors.Memory h k = tt

-- a lift
pub lifts_refused : (n : ℕ) (bs : List MarkedPolynomial) (a : List ℤ) (hs : List MarkedPolynomial) (budget : ℕ) (e : PolyError) → IsBasisOfParts n bs a hs →
    IsLiftsRefusal bs hs e → IsFlipRefusal n bs a budget (of_poly_error e)
lifts_refused n bs a hs budget (errors.Overflow o) p k = (IsFlipOperation.lift hs p k.0, k.1)
lifts_refused n bs a hs budget (errors.Exponent o) p k = (IsFlipExponents.lift hs p k.0, k.1)
lifts_refused n bs a hs budget errors.Memory p k = tt

-- the autoreduction of the lifts
pub tails_refused : (n : ℕ) (bs : List MarkedPolynomial) (a : List ℤ) (hs ls : List MarkedPolynomial) (budget : ℕ) (e : PolyError) → IsBasisOfParts n bs a hs →
    AreLifts bs hs ls → IsAutoreductionRefusal ls e → IsFlipRefusal n bs a budget (of_poly_error e)
tails_refused n bs a hs ls budget (errors.Overflow o) p l (inl k) = (IsFlipOperation.monic hs ls p l k.0, k.1)
tails_refused n bs a hs ls budget (errors.Overflow o) p l (inr (ks, m, k)) = (IsFlipOperation.tail hs ls ks p l m k.0, k.1)
tails_refused n bs a hs ls budget (errors.Exponent o) p l (inl k) = absurd k.0
tails_refused n bs a hs ls budget (errors.Exponent o) p l (inr (ks, m, k)) = (IsFlipExponents.tail hs ls ks p l m k.0, k.1)
tails_refused n bs a hs ls budget errors.Memory p l k = tt

-- where nothing leaves its range only memory may be wanting
pub flip_refusal_within : (n : ℕ) (bs : List MarkedPolynomial) (a : List ℤ) (budget : ℕ) (e : BasisError) → IsFlipWithinLimits n bs a budget →
    IsFlipRefusal n bs a budget e → IsWantOfMemory e
flip_refusal_within n bs a budget (basis_errors.Overflow o) w h = absurd (h.1 (w.operations o.op o.left o.right h.0))
flip_refusal_within n bs a budget (basis_errors.Exponent o) w h = absurd (omega (arith, w.exponents o.left o.right h.0, h.1))
flip_refusal_within n bs a budget (basis_errors.PairBudget s unsettled) w h =
    absurd (omega (arith, w.pairs h.generators s.items h.along h.spent.work, h.spent.count, h.spent.some.1.1))
flip_refusal_within n bs a budget basis_errors.Memory w h = refl

pub flip_within : {A : Type 0} (n : ℕ) (bs : List MarkedPolynomial) (a : List ℤ) (budget : ℕ) (r : Result A BasisError) → IsFlipWithinLimits n bs a budget →
    IfErr r (IsFlipRefusal n bs a budget) → IfErr r IsWantOfMemory
flip_within n bs a budget (Ok x) w h = tt
flip_within n bs a budget (Err e) w h = flip_refusal_within n bs a budget e w h
