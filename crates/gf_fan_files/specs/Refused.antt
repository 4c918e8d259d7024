-- What a fault of a fan file's text is refused as.
use Rattle.std.specs.Prelude.{ℕ, nat_eq, if◌then◌else◌}
use Rattle.gf_text.specs.declared.error.Cause.{Cause}
use Rattle.gf_text.specs.declared.error.Cause.TheVariants as causes
use Rattle.gf_text.specs.declared.error.Kind.TheVariants as kinds
use Rattle.gf_text.specs.Machine.{Fault}
use Rattle.gf_fan_files.specs.declared.error.FanFileError.{FanFileError}
use Rattle.gf_fan_files.specs.declared.error.Reason.{Reason}
use Rattle.gf_fan_files.specs.declared.error.Reason.TheVariants as reasons
use Rattle.gf_fan_files.specs.declared.error.FanFileError.TheVariants as errors

-- the refusal of what begins at a place, by its cause; no name of a fan file is unknown
abbrev pub refused_at : ℕ → Cause → FanFileError
refused_at place causes.Ended = errors.Syntax (record { at = place; kind = kinds.Ended })
refused_at place causes.Unexpected = errors.Syntax (record { at = place; kind = kinds.Unexpected })
refused_at place causes.RepeatedName = errors.Syntax (record { at = place; kind = kinds.RepeatedName })
refused_at place causes.ZeroDenominator = errors.Syntax (record { at = place; kind = kinds.ZeroDenominator })
refused_at place causes.TooWide = errors.TooWide place
refused_at place causes.UnknownName = errors.Syntax (record { at = place; kind = kinds.Unexpected })

-- the refusal of a fault in a text of this length: behind the last token the text has ended
abbrev pub refused_before : ℕ → Fault → FanFileError
refused_before length f = if nat_eq f.at length then refused_at f.at causes.Ended else refused_at f.at f.cause

-- why the program doesn't take a token
abbrev pub cause_of : Reason → Cause
cause_of reasons.Unexpected = causes.Unexpected
cause_of reasons.TooWide = causes.TooWide
