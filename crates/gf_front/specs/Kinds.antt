-- Kinds of refusals: one line for each refusal, from which all that is said of kinds follows.
use Rattle.gf_front.specs.declared.refusal.Refusal.{Refusal}
use Rattle.gf_front.specs.declared.refusal.Refusal.TheVariants as refusals

-- a refusal is of the words; of the outside, which reads and writes; of a text, at its first offending place; of the form of what is read;
-- of a test of it that takes work; of numbers that don't fit, or a budget that is spent; of a list that comes to its limit; or for want of
-- memory
pub data RefusalKind : Type 0 where
  words : RefusalKind
  outside : RefusalKind
  text : RefusalKind
  form : RefusalKind
  test : RefusalKind
  numbers : RefusalKind
  limit : RefusalKind
  memory : RefusalKind

-- the kind of each refusal
abbrev pub kind_of_refusal : Refusal → RefusalKind
kind_of_refusal refusals.Usage = RefusalKind.words
kind_of_refusal refusals.ReadFault = RefusalKind.outside
kind_of_refusal refusals.WriteFault = RefusalKind.outside
kind_of_refusal refusals.OpenFault = RefusalKind.outside
kind_of_refusal refusals.InputTooLong = RefusalKind.outside
kind_of_refusal (refusals.Syntax s) = RefusalKind.text
kind_of_refusal (refusals.TooWide at) = RefusalKind.text
kind_of_refusal (refusals.UnknownName at) = RefusalKind.text
kind_of_refusal (refusals.TooManyVariables count) = RefusalKind.text
kind_of_refusal (refusals.NotTermOrder index) = RefusalKind.form
kind_of_refusal (refusals.Missing section) = RefusalKind.form
kind_of_refusal (refusals.BadVersion number) = RefusalKind.form
kind_of_refusal (refusals.Dimensions left right) = RefusalKind.form
kind_of_refusal (refusals.ZeroPolynomial set index) = RefusalKind.form
kind_of_refusal (refusals.NotHomogeneous polynomial first second) = RefusalKind.form
kind_of_refusal (refusals.OtherRing index) = RefusalKind.form
kind_of_refusal (refusals.NotReduced set polynomial term) = RefusalKind.test
kind_of_refusal (refusals.NotBasis set first second remainder) = RefusalKind.test
kind_of_refusal (refusals.Inconsistent set multipliers) = RefusalKind.test
kind_of_refusal (refusals.NotAFan first second) = RefusalKind.test
kind_of_refusal (refusals.BadRay number) = RefusalKind.test
kind_of_refusal (refusals.BadCertificate cone) = RefusalKind.test
kind_of_refusal (refusals.EmptyRegion multipliers) = RefusalKind.test
kind_of_refusal (refusals.NotListed side index remainder) = RefusalKind.test
kind_of_refusal (refusals.WideVector w) = RefusalKind.numbers
kind_of_refusal (refusals.Overflow o) = RefusalKind.numbers
kind_of_refusal (refusals.ExponentOverflow o) = RefusalKind.numbers
kind_of_refusal (refusals.ConeOverflow row op left right) = RefusalKind.numbers
kind_of_refusal (refusals.PairBudget basis unsettled) = RefusalKind.numbers
kind_of_refusal (refusals.WideRoot index value) = RefusalKind.numbers
kind_of_refusal (refusals.ListLimit written) = RefusalKind.limit
kind_of_refusal refusals.Memory = RefusalKind.memory

-- ---- what is said of kinds

-- a text has a first offending place
abbrev pub IsTextKind : RefusalKind → Type 0
IsTextKind RefusalKind.text = Unit {0}
IsTextKind _ = ⊥

-- what is read isn't of the form that is needed
abbrev pub IsFormKind : RefusalKind → Type 0
IsFormKind RefusalKind.form = Unit {0}
IsFormKind _ = ⊥

-- it fails a test that takes work
abbrev pub IsTestKind : RefusalKind → Type 0
IsTestKind RefusalKind.test = Unit {0}
IsTestKind _ = ⊥

-- numbers don't fit, or there is no memory
abbrev pub IsNumbersKind : RefusalKind → Type 0
IsNumbersKind RefusalKind.numbers = Unit {0}
IsNumbersKind RefusalKind.memory = Unit {0}
IsNumbersKind _ = ⊥

-- the work on what is read is refused so
abbrev pub IsWorkKind : RefusalKind → Type 0
IsWorkKind RefusalKind.test = Unit {0}
IsWorkKind RefusalKind.numbers = Unit {0}
IsWorkKind RefusalKind.limit = Unit {0}
IsWorkKind RefusalKind.memory = Unit {0}
IsWorkKind _ = ⊥

-- it is of the words or of the outside, or there is no memory
abbrev pub IsOutsideKind : RefusalKind → Type 0
IsOutsideKind RefusalKind.words = Unit {0}
IsOutsideKind RefusalKind.outside = Unit {0}
IsOutsideKind RefusalKind.memory = Unit {0}
IsOutsideKind _ = ⊥
