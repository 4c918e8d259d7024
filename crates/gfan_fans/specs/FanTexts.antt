-- The text of the fan of cones: why there is none, as a refusal of the run.
use Rattle.std.specs.Prelude.{◌≡◌, ℕ, List}
use Rattle.gf_vec.specs.declared.error.WideVector.{WideVector}
use Rattle.gf_vec.specs.declared.error.VecError.{VecError}
use Rattle.gf_vec.specs.declared.error.VecError.TheVariants as vec_errors
use Rattle.gf_rays.specs.Cones.{RowsAndRays}
use Rattle.gf_fan.specs.declared.error.FanError.{FanError}
use Rattle.gf_fan.specs.declared.error.FanError.TheVariants as fan_errors
use Rattle.gf_fan.specs.FanLists.{FanLists}
use Rattle.gf_fan.specs.FansOfCones.{IsFanOf}
use Rattle.gf_fan.specs.Refusals.{IsFanRefusal, IsFanWithinLimits}
use Rattle.gf_fan_files.specs.FanTexts.{IsWritingStep}
use Rattle.gf_front.specs.declared.refusal.Refusal.{Refusal}
use Rattle.gf_front.specs.declared.refusal.Refusal.TheVariants as refusals

-- the refusal of a fan of cones, as one of the run
abbrev pub of_fan : FanError → Refusal
of_fan (fan_errors.Cone o) = refusals.ConeOverflow o.row o.op o.left o.right
of_fan (fan_errors.NotAFan first second) = refusals.NotAFan first second
of_fan fan_errors.Memory = refusals.Memory

-- the refusal of writing a fan, as one of the run
abbrev pub of_writing : VecError → Refusal
of_writing (vec_errors.Wide w) = refusals.WideVector w
of_writing vec_errors.Memory = refusals.Memory

-- the cones have no fan, or finding it is refused; or they have one, and the sum of the rays of one of its maximal cones leaves the range;
-- or memory runs out
pub data IsNoFanText (n : ℕ) (cones : List RowsAndRays) (r : Refusal) : Type 0 where
  no_fan : (e : FanError) → IsFanRefusal n cones e → r ≡ of_fan e → IsNoFanText n cones r
  too_wide : (f : FanLists) (w : WideVector) → IsFanOf n cones f → IsWritingStep f w → r ≡ refusals.WideVector w → IsNoFanText n cones r
  no_memory : r ≡ refusals.Memory → IsNoFanText n cones r

-- for no maximal cone of the fan the sum of its rays leaves the range
abbrev pub IsWritingWithin : FanLists → Type 0
IsWritingWithin f = (w : WideVector) → IsWritingStep f w → ⊥

-- no operation of finding the fan of the cones leaves its range, nor does one of writing it
pub record IsFanOfConesWithin (n : ℕ) (cones : List RowsAndRays) : Type 0 where
  pub finding : IsFanWithinLimits n cones
  pub writing : (f : FanLists) → IsFanOf n cones f → IsWritingWithin f
