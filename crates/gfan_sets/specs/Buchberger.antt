-- `_buchberger`: its output, and why it is refused.
use Rattle.std.specs.Prelude.{◌≡◌, ℕ, Bool, true, false, List, [], ◌∷◌, length, Option, None, Some, ℤ}
use Rattle.gf_exponents_theory.specs.Orders.{gains}
use Rattle.gf_exponents_theory.specs.SixOrders.{MonomialOrder}
use Rattle.gf_poly.specs.Polynomial.{Terms}
use Rattle.gf_poly.specs.Marking.{MarkedPolynomials}
use Rattle.gf_text.specs.declared.written.Written.{Written}
use Rattle.gf_buchberger.specs.declared.bases.BasisError.{BasisError}
use Rattle.gf_buchberger.specs.declared.queue.Strategy.TheVariants as strategies
use Rattle.gf_buchberger.specs.Ruled.{AreRuledRunsWithinLimits}
use Rattle.gf_buchberger.specs.Bases.{IsArrangedBasis, IsBasisRefusal, IsWantOfMemory}
use Rattle.gf_front.specs.declared.options.BuchbergerOptions.{BuchbergerOptions}
use Rattle.gf_items.specs.Sources.{ring_set_vector}
use Rattle.gf_frame.specs.Loading.{Origin}
use Rattle.gf_frame.specs.Readings.{of_one}
use Rattle.gf_frame.specs.Commands.{Writing, Command}
use Rattle.gfan_common.specs.Printing.{IsPrinted}
use Rattle.gfan_common.specs.Forms.{form, generators_of}
use Rattle.gfan_common.specs.Causes.{of_basis}

-- ---- the order

-- lex or revlex; with a weight, the weight, ties broken by lex or revlex
abbrev pub asked_order : Bool → Option (List ℤ) → MonomialOrder
asked_order false None = MonomialOrder.lex
asked_order true None = MonomialOrder.revlex
asked_order false (Some weight) = MonomialOrder.weighted (gains weight)
asked_order true (Some weight) = MonomialOrder.weighted_revlex (gains weight)

-- ---- what is written

-- the text is the ring in a line, and the reduced Gröbner basis of these polynomials by the order
pub record IsBasisText (order : MonomialOrder) (ring : List (List ℕ)) (fs : List Terms) (text : List ℕ) : Type 0 where
  pub basis : MarkedPolynomials
  pub is_basis : IsArrangedBasis order (length ring) fs basis
  pub is_text : IsPrinted ring basis text

-- ---- the command

-- The command `_buchberger`. It is refused for the operands of an operation of a run of Buchberger's algorithm, or for a spent budget; where the run by
-- the rule of the program stays within its limits, for want of memory alone.
abbrev pub buchberger_command : BuchbergerOptions → Command
buchberger_command o = record {
  Value = List (List ℕ) × (List Written × Option (List ℤ));
  reads = Origin.the_input ∷ [];
  reading = of_one (ring_set_vector o.weighted);
  checks = λ v. form o.revlex (length v.0) v.1.1 (generators_of v.1.0);
  IsAnswer = λ v text. IsBasisText (asked_order o.revlex v.1.1) v.0 (generators_of v.1.0) text;
  IsCause = λ v r. (e : BasisError) × (r ≡ of_basis e) × IsBasisRefusal (asked_order o.revlex v.1.1) (length v.0) (generators_of v.1.0) o.pairs e
      × (AreRuledRunsWithinLimits strategies.Degree (asked_order o.revlex v.1.1) (generators_of v.1.0) o.pairs → IsWantOfMemory e);
  IsWithin = λ v. AreRuledRunsWithinLimits strategies.Degree (asked_order o.revlex v.1.1) (generators_of v.1.0) o.pairs;
  writing = Writing.at_end;
}
