-- What is read for a list, as the code has it. Laws: proofs/AskedLaws.antt.
use Rattle.std.specs.Prelude.{◌≡◌, ℕ, Bool, true, false, List, length, Option, None, Some, is_some, ℤ}
use Rattle.std.specs.Borrow.{Bor}
use Rattle.std.specs.Option.{option_copied}
use Rattle.gf_poly.specs.Polynomial.{Terms}
use Rattle.gf_text.specs.declared.error.TextError.{TextError}
use Rattle.gf_text.specs.Sets.{AreIn}
use Rattle.gf_front.specs.declared.refusal.Refusal.{Refusal}
use Rattle.gf_items.specs.Items.{IsTextOf, IsTextRefused}
use Rattle.gf_items.specs.Refusals.{of_text}
use Rattle.gf_items.specs.Sources.{ring_marked_set}
use Rattle.gf_items.specs.declared.sources.RingAndMarked.{RingAndMarked}
use Rattle.gfan_lists.specs.declared.list.Asked.{Asked}
use Rattle.gfan_lists.specs.declared.list.Asked.TheVariants as asks
use Rattle.gfan_lists.specs.declared.list.ListJob.{ListJob}
use Rattle.gfan_lists.specs.Ways.{Ways, ways_by}
use Rattle.gfan_lists.specs.After.{Given, names_given, generators_given}
use Rattle.gfan_lists.specs.ListCommand.{Behind, ListValue, list_texts}

-- ---- the job

-- the ways in which its list is asked for
abbrev pub ways_asked : ListJob → Ways
ways_asked job = ways_by job.from_basis (is_some (option_copied job.region)) (is_some (option_copied job.after))

-- its texts
abbrev pub texts_asked : ListJob → List (List ℕ)
texts_asked job = list_texts (option_copied job.region) (option_copied job.after) job.input.now

-- ---- the input

-- it has a marked Gröbner basis, not generators
abbrev pub is_from_basis : Asked → Bool
is_from_basis (asks.Generators ring set) = false
is_from_basis (asks.Basis ring set) = true

-- what it says
abbrev pub given_by : (asked : Asked) → Given (is_from_basis asked)
given_by (asks.Generators ring set) = (ring, (set.items, None))
given_by (asks.Basis ring set) = (ring, set)

-- the names of its ring
abbrev pub names_asked : Asked → List (List ℕ)
names_asked asked = names_given (is_from_basis asked) (given_by asked)

-- the polynomials that generate the ideal
abbrev pub generators_asked : Asked → List Terms
generators_asked asked = generators_given (is_from_basis asked) (given_by asked)

-- its polynomials are in the variables of its ring
abbrev pub IsAskedInRing : Asked → Type 0
IsAskedInRing (asks.Generators ring set) = AreIn (length ring) set.items
IsAskedInRing (asks.Basis ring set) = set.variables ≡ length ring

-- ---- the file of the basis

-- what the list continues after, if there is such a file
abbrev pub behind_by : (found : Option RingAndMarked) → Behind (is_some found)
behind_by None = tt
behind_by (Some a) = (a.ring, a.set)

-- this is what the file says; nothing if there is no such file
abbrev pub IsOfBasisFile : Option (Bor (List ℕ)) → Option RingAndMarked → Type 0
IsOfBasisFile None None = Unit {0}
IsOfBasisFile None (Some a) = ⊥
IsOfBasisFile (Some file) None = ⊥
IsOfBasisFile (Some file) (Some a) = IsTextOf ring_marked_set file.now (a.ring, a.set)

-- why the file is refused
abbrev pub IsBasisFileRefused : Option (Bor (List ℕ)) → Refusal → Type 0
IsBasisFileRefused None r = ⊥
IsBasisFileRefused (Some file) r = (e : TextError) × IsTextRefused ring_marked_set file.now e × (r ≡ of_text e)

-- the set of the file has the variables of its ring
abbrev pub IsFoundInRing : Option RingAndMarked → Type 0
IsFoundInRing None = Unit {0}
IsFoundInRing (Some a) = a.set.variables ≡ length a.ring

-- ---- all of it

-- the ways in which a list is asked for, as they are known once the texts are read
abbrev pub ways_read : Asked → Bool → Option RingAndMarked → Ways
ways_read asked in_region found = ways_by (is_from_basis asked) in_region (is_some found)

-- what the texts say: the vectors of the region, what the list continues after, and the input
abbrev pub value_read : (asked : Asked) (in_region : Bool) (found : Option RingAndMarked) → List (List ℤ) → ListValue (ways_read asked in_region found)
value_read asked in_region found rows = (rows, (behind_by found, given_by asked))
