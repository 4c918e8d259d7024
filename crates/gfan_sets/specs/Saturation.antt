-- `_saturation`: its output, and why it is refused.
use Rattle.std.specs.Prelude.{◌≡◌, ℕ, false, List, [], ◌∷◌, length, Option, ℤ}
use Rattle.gf_poly.specs.Polynomial.{Terms}
use Rattle.gf_poly.specs.Marking.{MarkedPolynomials}
use Rattle.gf_buchberger.specs.declared.bases.BasisError.{BasisError}
use Rattle.gf_saturate.specs.Saturating.{IsSaturation, IsSaturateRefusal, AreStepsWithinLimits}
use Rattle.gf_text.specs.declared.written.Written.{Written}
use Rattle.gf_front.specs.declared.options.SaturationOptions.{SaturationOptions}
use Rattle.gf_items.specs.Sources.{ring_set_vector}
use Rattle.gf_frame.specs.Loading.{Origin}
use Rattle.gf_frame.specs.Readings.{of_one}
use Rattle.gf_frame.specs.Commands.{Writing, Command}
use Rattle.gfan_common.specs.Forms.{generators_of}
use Rattle.gfan_common.specs.Causes.{of_basis}
use Rattle.gfan_common.specs.Printing.{IsPrinted}

-- the text is the ring in a line, and the reduced basis by deglex of the saturation of these polynomials' ideal by the product of the
-- variables
pub record IsSaturationText (ring : List (List ℕ)) (fs : List Terms) (text : List ℕ) : Type 0 where
  pub saturation : MarkedPolynomials
  pub is_saturation : IsSaturation (length ring) fs saturation
  pub is_text : IsPrinted ring saturation text

-- the command `_saturation`, with this budget of pairs for each run
abbrev pub saturation_command : SaturationOptions → Command
saturation_command o = record {
  Value = List (List ℕ) × (List Written × Option (List ℤ));
  reads = Origin.the_input ∷ [];
  reading = of_one (ring_set_vector false);
  checks = λ v. [];
  IsAnswer = λ v text. IsSaturationText v.0 (generators_of v.1.0) text;
  IsCause = λ v r. (e : BasisError) × (r ≡ of_basis e) × IsSaturateRefusal (length v.0) (generators_of v.1.0) o.pairs e;
  IsWithin = λ v. AreStepsWithinLimits (length v.0) (generators_of v.1.0) o.pairs;
  writing = Writing.at_end;
}
