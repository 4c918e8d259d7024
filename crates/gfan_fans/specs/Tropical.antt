-- `_tropicalhypersurface`, `_tropicalintersection` and `_minkowskisum`: their input and output, and why they are refused.
use Rattle.std.specs.Prelude.{◌≡◌, ◌≢◌, ℕ, false, List, [], ◌∷◌, map, length, Option, ℤ}
use Rattle.gf_vec.specs.declared.error.WideVector.{WideVector}
use Rattle.gf_gordan.specs.declared.error.ConeOverflow.{ConeOverflow}
use Rattle.gf_duality_theory.specs.Faces.{Rows}
use Rattle.gf_poly.specs.Polynomial.{Terms}
use Rattle.gf_patterns_theory.specs.Patterns.{points}
use Rattle.gf_fan.specs.FanLists.{FanLists}
use Rattle.gf_fan_files.specs.FanWords.{fan_text}
use Rattle.gf_fan_files.specs.FanTexts.{parts_of_fan, IsWritingStep}
use Rattle.gf_tropical.specs.declared.error.TropicalError.{TropicalError}
use Rattle.gf_tropical.specs.declared.error.TropicalError.TheVariants as tropical_errors
use Rattle.gf_tropical.specs.TropicalFans.{IsPrevarietyFan, IsMinkowskiFanOf}
use Rattle.gf_tropical.specs.Systems.{IsPairSystem, IsSingleSystem}
use Rattle.gf_tropical.specs.Refusals.{IsSystemStep}
use Rattle.gf_text.specs.declared.written.Written.{Written}
use Rattle.gf_front.specs.declared.refusal.Refusal.{Refusal}
use Rattle.gf_front.specs.declared.refusal.Refusal.TheVariants as refusals
use Rattle.gf_items.specs.Sources.{ring_set_vector}
use Rattle.gf_items.specs.Checks.{Check}
use Rattle.gf_frame.specs.Loading.{Origin}
use Rattle.gf_frame.specs.Readings.{of_one}
use Rattle.gf_frame.specs.Commands.{Writing, Command}
use Rattle.gfan_fans.specs.declared.tropical.TropicalFan.{TropicalFan}
use Rattle.gfan_fans.specs.declared.tropical.TropicalFan.TheVariants as fans
use Rattle.gfan_common.specs.Forms.{generators_of}
use Rattle.gfan_fans.specs.FanTexts.{IsWritingWithin}
use Rattle.gfan_common.specs.ToolForms.{without_zero}

-- ---- the number of polynomials

-- a hypersurface is that of a single polynomial; there is no condition for the other fans
abbrev pub HasNumber : TropicalFan → ℕ → Type 0
HasNumber fans.Hypersurface count = count ≡ 1
HasNumber fans.Intersection count = Unit {0}
HasNumber fans.MinkowskiSum count = Unit {0}

-- the refusal for another number of polynomials: it has this number and 1
abbrev pub IsNumberRefusal : TropicalFan → ℕ → Refusal → Type 0
IsNumberRefusal fans.Hypersurface count (refusals.Dimensions left right) = (left ≡ count) × (right ≡ 1) × (count ≢ 1)
IsNumberRefusal fans.Hypersurface count _ = ⊥
IsNumberRefusal fans.Intersection count r = ⊥
IsNumberRefusal fans.MinkowskiSum count r = ⊥

-- the check that the number of polynomials is one that the fan may have
abbrev pub for_number : TropicalFan → ℕ → Check
for_number which count = record { Holds = HasNumber which count; Fails = IsNumberRefusal which count }

-- ---- the fan

-- the exponents of each polynomial of a set, as integer vectors
abbrev pub points_of_each : List Terms → List (List (List ℤ))
points_of_each fs = map points fs

-- h is the fan of the prevariety of the polynomials, which for a single one is its hypersurface; or their Minkowski fan
abbrev pub IsFanOfPolynomials : TropicalFan → ℕ → List Terms → FanLists → Type 0
IsFanOfPolynomials fans.Hypersurface n fs h = IsPrevarietyFan n (points_of_each fs) h
IsFanOfPolynomials fans.Intersection n fs h = IsPrevarietyFan n (points_of_each fs) h
IsFanOfPolynomials fans.MinkowskiSum n fs h = IsMinkowskiFanOf n (points_of_each fs) h

-- the text is that of the fan of the polynomials
pub record IsTropicalText (which : TropicalFan) (n : ℕ) (fs : List Terms) (text : List ℕ) : Type 0 where
  pub fan : FanLists
  pub is_fan : IsFanOfPolynomials which n fs fan
  pub is_text : text ≡ fan_text (parts_of_fan fan)

-- ---- why it is refused

-- the systems of rows whose cones make up the fan
abbrev pub systems_of : TropicalFan → ℕ → List (List (List ℤ)) → Rows → Type 0
systems_of fans.Hypersurface = IsPairSystem
systems_of fans.Intersection = IsPairSystem
systems_of fans.MinkowskiSum = IsSingleSystem

-- s is an operation of finding the rays of one of these systems, and it leaves its range
abbrev pub IsTropicalStep : TropicalFan → ℕ → List Terms → ConeOverflow → Type 0
IsTropicalStep which n fs s = IsSystemStep (systems_of which n (points_of_each fs)) n s

-- an operation of finding the rays of one of these systems leaves its range; or the fan is found, and the sum of the rays of one of its
-- maximal cones leaves the range; or memory runs out
pub data IsNoTropicalText (which : TropicalFan) (n : ℕ) (fs : List Terms) (r : Refusal) : Type 0 where
  in_system : (o : ConeOverflow) → IsTropicalStep which n fs o → r ≡ refusals.ConeOverflow o.row o.op o.left o.right → IsNoTropicalText which n fs r
  too_wide : (h : FanLists) (w : WideVector) → IsFanOfPolynomials which n fs h → IsWritingStep h w → r ≡ refusals.WideVector w → IsNoTropicalText which n fs r
  no_memory : r ≡ refusals.Memory → IsNoTropicalText which n fs r

-- no operation of finding the fan, or of writing it, leaves its range
pub record IsTropicalWithin (which : TropicalFan) (n : ℕ) (fs : List Terms) : Type 0 where
  pub systems : (o : ConeOverflow) → IsTropicalStep which n fs o → ⊥
  pub writing : (h : FanLists) → IsFanOfPolynomials which n fs h → IsWritingWithin h

-- the refusal of the fan, as one of the run
abbrev pub of_tropical : TropicalError → Refusal
of_tropical (tropical_errors.Cone o) = refusals.ConeOverflow o.row o.op o.left o.right
of_tropical (tropical_errors.ZeroPolynomial set index) = refusals.ZeroPolynomial set index
of_tropical tropical_errors.Memory = refusals.Memory

-- ---- the commands

-- the command for the tropical hypersurface of a single polynomial, for the intersection of the hypersurfaces of all polynomials of a set,
-- or for their Minkowski fan
abbrev pub tropical_command : TropicalFan → Command
tropical_command which = record {
  Value = List (List ℕ) × (List Written × Option (List ℤ));
  reads = Origin.the_input ∷ [];
  reading = of_one (ring_set_vector false);
  checks = λ v. for_number which (length v.1.0) ∷ without_zero v.1.0 ∷ [];
  IsAnswer = λ v text. IsTropicalText which (length v.0) (generators_of v.1.0) text;
  IsCause = λ v r. IsNoTropicalText which (length v.0) (generators_of v.1.0) r;
  IsWithin = λ v. IsTropicalWithin which (length v.0) (generators_of v.1.0);
  writing = Writing.at_end;
}
