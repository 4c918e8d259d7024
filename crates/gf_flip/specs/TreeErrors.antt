-- The refusal of a search over the bases of an ideal that tells the same as one of a flip, or of a system.
use Rattle.gf_gordan.specs.declared.error.GordanError.{GordanError}
use Rattle.gf_gordan.specs.declared.error.GordanError.TheVariants as cones
use Rattle.gf_buchberger.specs.declared.bases.BasisError.{BasisError}
use Rattle.gf_buchberger.specs.declared.bases.BasisError.TheVariants as flips
use Rattle.gf_flip.specs.declared.error.TreeError.{TreeError}
use Rattle.gf_flip.specs.declared.error.TreeError.TheVariants.{Overflow, Exponent, PairBudget, Cone, Memory}

-- where a flip is refused
abbrev pub of_flip_error : BasisError → TreeError
of_flip_error (flips.Overflow o) = Overflow o
of_flip_error (flips.Exponent o) = Exponent o
of_flip_error (flips.PairBudget s unsettled) = PairBudget s unsettled
of_flip_error flips.Memory = Memory

-- where the system of a normal is
abbrev pub of_cone_error : GordanError → TreeError
of_cone_error (cones.Cone s) = Cone s
of_cone_error cones.Memory = Memory
