-- What a fault of a text is refused as.
use Rattle.std.specs.Prelude.{ℕ}
use Rattle.gf_text.specs.declared.error.Cause.{Cause}
use Rattle.gf_text.specs.declared.error.Cause.TheVariants as causes
use Rattle.gf_text.specs.declared.error.Kind.TheVariants as kinds
use Rattle.gf_text.specs.declared.error.TextError.{TextError}
use Rattle.gf_text.specs.declared.error.TextError.TheVariants as errors
use Rattle.gf_text.specs.Machine.{Fault}

-- the refusal of what begins at a place, by its cause
abbrev pub refusal_at : ℕ → Cause → TextError
refusal_at place causes.Ended = errors.Syntax (record { at = place; kind = kinds.Ended })
refusal_at place causes.Unexpected = errors.Syntax (record { at = place; kind = kinds.Unexpected })
refusal_at place causes.RepeatedName = errors.Syntax (record { at = place; kind = kinds.RepeatedName })
refusal_at place causes.ZeroDenominator = errors.Syntax (record { at = place; kind = kinds.ZeroDenominator })
refusal_at place causes.TooWide = errors.TooWide place
refusal_at place causes.UnknownName = errors.UnknownName place

-- the refusal names the place of the fault
abbrev pub refusal : Fault → TextError
refusal f = refusal_at f.at f.cause
