-- What the texts of a list say, as the code has it, and what is done with it.
-- To cite: ways_same, going_as, unbegun_as, unstarted_as, told_as, done_as, stopped_as. The rest are steps.
use Rattle.std.specs.Prelude.{◌≡◌, ◌⊎◌, ℕ, Bool, List, [], ◌∷◌, length, Option, Some, is_some, ℤ}
use Rattle.std.specs.Option.{option_copied}
use Rattle.std.proofs.Common.{sym, subst}
use Rattle.gf_poly.specs.Marking.{MarkedPolynomials}
use Rattle.gf_facets_theory.specs.Regions.{Region}
use Rattle.gf_subtree.specs.Rows.{Row}
use Rattle.gf_front.specs.declared.refusal.Refusal.{Refusal}
use Rattle.gf_front.specs.declared.refusal.Refusal.TheVariants as refusals
use Rattle.gf_items.specs.declared.sources.RingAndMarked.{RingAndMarked}
use Rattle.gf_frame.specs.Seen.{output_seen}
use Rattle.gf_frame.specs.Loading.{Origin}
use Rattle.gf_frame.specs.Runs.{IsDoneOn, IsStoppedOn}
use Rattle.gfan_common.specs.Refused.{IsNamedBy, IsRingOf, IsOfSource}
use Rattle.gfan_lists.specs.declared.list.Asked.{Asked}
use Rattle.gfan_lists.specs.declared.list.Asked.TheVariants as asks
use Rattle.gfan_lists.specs.declared.list.ListJob.{ListJob}
use Rattle.gfan_lists.specs.Ways.{Ways, ways_by}
use Rattle.gfan_lists.specs.BasesWriting.{GoesOnBehind, IsListWrittenBehind, IsListStoppedBehind}
use Rattle.gfan_lists.specs.After.{reading_given, IsBasisGiven, IsRegionCut, IsOfCutFile}
use Rattle.gfan_lists.specs.ListCommand.{AreSameNames, IsFront, ListValue, reading_list, list_command, IsUnstarted, IsUnbegun}
use Rattle.gfan_lists.specs.Asked.{ways_asked, texts_asked, is_from_basis, given_by, names_asked, generators_asked, behind_by, IsOfBasisFile, ways_read}
use Rattle.gfan_lists.specs.Asked.{value_read}
use Rattle.gfan_lists.proofs.ListCommandLaws.{said_kept, unstarted_told}
use Rattle.gfan_lists.proofs.ListWritingLaws.{found_same, found_kept, read_texts, unbegun_stopped, start_stopped, list_done, list_stopped}

-- ways are the same if they are so one by one
pub ways_same : (a b c d e f : Bool) → a ≡ d → b ≡ e → c ≡ f → ways_by a b c ≡ ways_by d e f
ways_same a b c d e f p q r = λ i. ways_by (p i) (q i) (r i)

-- the input begins with the text of its ring
ring_first : (source : List ℕ) (asked : Asked) → (reading_given (is_from_basis asked)).IsRead (source ∷ []) (given_by asked) →
    IsRingOf source (names_asked asked)
ring_first source (asks.Generators ring set) read = (read.read.behind, read.read.one)
ring_first source (asks.Basis ring set) read = (read.read.behind, read.read.one)

-- so a refusal is told with it
ring_asked : (source : List ℕ) (asked : Asked) (r : Refusal) (names : List (List ℕ)) → names ≡ names_asked asked →
    (reading_given (is_from_basis asked)).IsRead (source ∷ []) (given_by asked) → IsNamedBy (Some (names_asked asked)) r →
    IsOfSource source (record { refusal = r; ring = Some names })
ring_asked source asked r names e read named = record {
  named = subst (λ (x : List (List ℕ)). IsNamedBy (Some x) r) (sym e) named;
  ring = subst (λ (x : List (List ℕ)). IsRingOf source x) (sym e) (ring_first source asked read);
}

-- the list goes on, in the variables of the ring that is printed
pub going_as : (asked : Asked) (ring : List (List ℕ)) (before : List MarkedPolynomials) (k : Region) (pairs : ℕ) (row : Row) → ring ≡ names_asked asked →
    GoesOnBehind before (length (names_asked asked)) k (generators_asked asked) pairs row →
    GoesOnBehind before (length ring) k (generators_asked asked) pairs row
going_as asked ring before k pairs row e h =
    subst (λ (z : List (List ℕ)). GoesOnBehind before (length z) k (generators_asked asked) pairs row) (sym e) h

-- of a job whose texts are read: what they say, also as the code has it at hand
module _ (job : ListJob) (asked : Asked) (found : Option RingAndMarked) (rows : List (List ℤ)) (file : IsOfCutFile job.region rows)
    (behind : IsOfBasisFile job.after found) (way : is_from_basis asked ≡ job.from_basis)
    (input : (reading_given (is_from_basis asked)).IsRead (job.input.now ∷ []) (given_by asked)) (in_region : Bool) (ring : List (List ℕ))
    (vectors : List (List ℤ)) (cut : in_region ≡ is_some (option_copied job.region)) (names : ring ≡ names_asked asked) (same : vectors ≡ rows) where
  abbrev ways : Ways
  ways = ways_read asked (is_some (option_copied job.region)) found

  abbrev value : ListValue ways
  value = value_read asked (is_some (option_copied job.region)) found rows

  read : (reading_list ways).IsRead (texts_asked job) value
  read = read_texts (is_from_basis asked) job.input.now job.region job.after found rows (given_by asked) file behind input

  -- what holds of the ways that were read holds of those that are asked for
  as_asked : (P : Ways → Type 0) → P ways → P (ways_asked job)
  as_asked P h = subst P (ways_same _ _ _ _ _ _ way (λ i. is_some (option_copied job.region)) (found_same job.after found behind)) h

  -- the list isn't begun
  pub unbegun_as : (sources : List Origin) (held : Option (List ℕ)) (n : ℕ) (r : Refusal) →
      IsUnbegun in_region (is_some found) (length ring) vectors (behind_by found) ring r →
      IsStoppedOn (list_command (ways_asked job) sources job.options) (texts_asked job) (output_seen held n) (output_seen held n) r
  unbegun_as sources held n r h =
      let cause = subst (λ (z : List (List ℕ)). IsUnbegun ways.in_region (is_some found) (length z) rows (behind_by found) z r) names
      (subst (λ (z : List (List ℤ)). IsUnbegun ways.in_region (is_some found) (length ring) z (behind_by found) ring r) same
      (subst (λ z. IsUnbegun z (is_some found) (length ring) vectors (behind_by found) ring r) cut h)) in
      as_asked (λ z. IsStoppedOn (list_command z sources job.options) (texts_asked job) (output_seen held n) (output_seen held n) r)
      (unbegun_stopped (is_from_basis asked) sources job.options (texts_asked job) held n r ways.in_region (is_some found) value read cause)

  module _ (k : Region) (region : IsRegionCut in_region (length ring) vectors k) (rings : AreSameNames (is_some found) (behind_by found) ring) where
    is_cut : IsRegionCut ways.in_region (length (names_asked asked)) rows k
    is_cut =
        subst (λ (z : List (List ℕ)). IsRegionCut ways.in_region (length z) rows k) names
        (subst (λ (z : List (List ℤ)). IsRegionCut ways.in_region (length ring) z k) same (subst (λ z. IsRegionCut z (length ring) vectors k) cut region))

    are_same : AreSameNames (is_some found) (behind_by found) (names_asked asked)
    are_same = subst (λ (z : List (List ℕ)). AreSameNames (is_some found) (behind_by found) z) names rings

    -- it isn't started
    pub unstarted_as : (sources : List Origin) (held : Option (List ℕ)) (n : ℕ) (r : Refusal) →
        IsUnstarted (ways_read asked in_region found) job.options.pairs k (given_by asked) (behind_by found) r ⊎ (r ≡ refusals.Memory) →
        IsStoppedOn (list_command (ways_asked job) sources job.options) (texts_asked job) (output_seen held n) (output_seen held n) r
    unstarted_as sources held n r h =
        as_asked (λ z. IsStoppedOn (list_command z sources job.options) (texts_asked job) (output_seen held n) (output_seen held n) r)
        (start_stopped ways sources job.options (texts_asked job) value read k is_cut are_same held n r
        (subst (λ z. IsUnstarted (ways_read asked z found) job.options.pairs k (given_by asked) (behind_by found) r ⊎ (r ≡ refusals.Memory)) cut h))

    -- and a refusal for that is told with the ring of the input
    pub told_as : (r : Refusal) (own : List (List ℕ)) → own ≡ names_asked asked →
        IsUnstarted (ways_read asked in_region found) job.options.pairs k (given_by asked) (behind_by found) r ⊎ (r ≡ refusals.Memory) →
        IsOfSource job.input.now (record { refusal = r; ring = Some own })
    told_as r own e h =
        ring_asked job.input.now asked r own e input
        (unstarted_told (ways_read asked in_region found) k (given_by asked) job.options.pairs
        (said_kept (is_from_basis asked) job.input.now (given_by asked) input) (is_some found) (behind_by found) r (found_kept job.after found behind)
        are_same h)

    module _ (given : IsBasisGiven (is_from_basis asked) (given_by asked)) (front : List MarkedPolynomials) (before : IsFront (is_some found) (behind_by found)
        k front)
        (printed : List (List ℕ)) (print : printed ≡ names_asked asked) (sources : List Origin) (held holds : Option (List ℕ)) (n m : ℕ) where
      -- it is written
      pub done_as : IsListWrittenBehind front job.options printed k (generators_asked asked) held holds → m ≡ n →
          IsDoneOn (list_command (ways_asked job) sources job.options) (texts_asked job) (output_seen held n) (output_seen holds m)
      done_as h calm =
          as_asked (λ z. IsDoneOn (list_command z sources job.options) (texts_asked job) (output_seen held n) (output_seen holds m))
          (list_done ways sources job.options (texts_asked job) value read k is_cut are_same given front before held holds n m
          (subst (λ (z : List (List ℕ)). IsListWrittenBehind front job.options z k (generators_asked asked) held holds) print h) calm)

      -- or stopped
      pub stopped_as : (r : Refusal) → IsListStoppedBehind front job.options printed k (generators_asked asked) held holds n m r →
          ((r ≡ refusals.WriteFault → ⊥) → m ≡ n) →
          IsStoppedOn (list_command (ways_asked job) sources job.options) (texts_asked job) (output_seen held n) (output_seen holds m) r
      stopped_as r h calm =
          as_asked (λ z. IsStoppedOn (list_command z sources job.options) (texts_asked job) (output_seen held n) (output_seen holds m) r)
          (list_stopped ways sources job.options (texts_asked job) value read k is_cut are_same given front before held holds n m r
          (subst (λ (z : List (List ℕ)). IsListStoppedBehind front job.options z k (generators_asked asked) held holds n m r) print h) calm)
