-- Refusals of a text as ones of the run, and kinds of refusals.
use Rattle.std.specs.Prelude.{◌≡◌, ◌⊎◌}
use Rattle.gf_text.specs.declared.error.TextError.{TextError}
use Rattle.gf_text.specs.declared.error.TextError.TheVariants as text_errors
use Rattle.gf_front.specs.declared.refusal.Refusal.{Refusal}
use Rattle.gf_front.specs.declared.refusal.Refusal.TheVariants as refusals
use Rattle.gf_front.specs.Kinds.{kind_of_refusal, IsTextKind, IsFormKind, IsNumbersKind, IsTestKind, IsWorkKind}

-- a refusal of a text as one of the run
abbrev pub of_text : TextError → Refusal
of_text (text_errors.Overflow x) = refusals.Overflow x
of_text (text_errors.Exponent x) = refusals.ExponentOverflow x
of_text (text_errors.Syntax s) = refusals.Syntax s
of_text (text_errors.TooWide at) = refusals.TooWide at
of_text (text_errors.UnknownName at) = refusals.UnknownName at
of_text (text_errors.TooManyVariables count) = refusals.TooManyVariables count
of_text (text_errors.ZeroPolynomial set index) = refusals.ZeroPolynomial set index
of_text text_errors.Memory = refusals.Memory

-- ---- kinds of refusals

-- the text of the input has a first offending place
abbrev pub IsOfText : Refusal → Type 0
IsOfText r = IsTextKind (kind_of_refusal r)

-- what is read isn't of the form that the job needs
abbrev pub IsOfForm : Refusal → Type 0
IsOfForm r = IsFormKind (kind_of_refusal r)

-- it is one of these, so where its condition holds there is no other
abbrev pub IsExactRefusal : Refusal → Type 0
IsExactRefusal r = IsOfText r ⊎ IsOfForm r

-- two numbers don't fit, or a budget is spent, or there is no memory
abbrev pub IsOfNumbers : Refusal → Type 0
IsOfNumbers r = IsNumbersKind (kind_of_refusal r)

-- what is read fails a test that takes work: where its condition holds there is no other, unless the numbers of the work before it
-- don't fit
abbrev pub IsOfTest : Refusal → Type 0
IsOfTest r = IsTestKind (kind_of_refusal r)

-- the second is the first; or both say that no positive weight gives the marking of a set, or that a region is empty, which different
-- multipliers may show
abbrev pub TellsSame : Refusal → Refusal → Type 0
TellsSame (refusals.Inconsistent set multipliers) (refusals.Inconsistent same others) = same ≡ set
TellsSame (refusals.EmptyRegion multipliers) (refusals.EmptyRegion others) = Unit {0}
TellsSame r d = d ≡ r

-- it comes of the work on what is read
abbrev pub IsOfWork : Refusal → Type 0
IsOfWork r = IsWorkKind (kind_of_refusal r)
