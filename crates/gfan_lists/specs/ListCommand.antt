-- `_bases`: its list is that of an ideal, given by generators or by a marked Gröbner basis (`-g`), in the region of a file (`--within`) or for all positive
-- weights, from its first basis on or after the basis of a file (`--after`). Its output, and why it is refused.
use Rattle.std.specs.Prelude.{◌≡◌, ◌⊎◌, ℕ, ◌≤◌, ◌<◌, Bool, true, false, List, [], ◌∷◌, ◌++◌, length, Option, None, Some, ℤ}
use Rattle.gf_exponents_theory.specs.Orders.{gains}
use Rattle.gf_exponents_theory.specs.SixOrders.{MonomialOrder}
use Rattle.gf_poly.specs.declared.error.PolyError.{PolyError}
use Rattle.gf_poly.specs.declared.error.PolyError.TheVariants as errors
use Rattle.gf_poly.specs.Polynomial.{Terms}
use Rattle.gf_poly.specs.Marking.{MarkedPolynomials, polys, IsArranged}
use Rattle.gf_division.specs.Autoreduction.{IsAutoreductionRefusal}
use Rattle.gf_buchberger.specs.declared.queue.Strategy.TheVariants as strategies
use Rattle.gf_buchberger.specs.Ruled.{AreRuledRunsWithinLimits}
use Rattle.gf_reduced.specs.Forms.{monic_set}
use Rattle.gf_reduced.specs.Markings.{IsMarkedGroebnerBasis}
use Rattle.gf_reduced.specs.Refusals.{AreChecksWithinLimits}
use Rattle.gf_facets_theory.specs.Regions.{Region, all_positive}
use Rattle.gf_tree.specs.TreeError.{TreeError}
use Rattle.gf_tree.specs.TreeError.TheVariants as tree_errors
use Rattle.gf_tree.specs.Ideals.{ideal_within}
use Rattle.gf_tree.specs.Refusals.{IsWayRefused, IsTreeWithinLimits}
use Rattle.gf_subtree.specs.Answers.{IsRefusedEarly}
use Rattle.gf_gordan.specs.Alternative.{AreRows}
use Rattle.gf_weights.specs.declared.region.RegionError.{RegionError}
use Rattle.gf_weights.specs.declared.region.RegionError.TheVariants as region_errors
use Rattle.gf_weights.specs.Roots.{IsRegionOf, IsRegionRefusal, IsRegionWithinLimits}
use Rattle.gf_weights.specs.Refusals.{AreCertificatesFittingIn}
use Rattle.gf_front.specs.declared.refusal.Refusal.{Refusal}
use Rattle.gf_front.specs.declared.refusal.Refusal.TheVariants as refusals
use Rattle.gf_items.specs.Checks.{Check, FirstFails}
use Rattle.gf_items.specs.Sources.{ring_marked_set}
use Rattle.gf_frame.specs.Loading.{Origin}
use Rattle.gf_frame.specs.Readings.{Reading, of_more}
use Rattle.gf_frame.specs.Commands.{Writing, Command, IsAnswerFor, IsUnanswered}
use Rattle.gfan_common.specs.Forms.{generators_of}
use Rattle.gfan_common.specs.ToolForms.{for_each}
use Rattle.gf_front.specs.declared.options.BasesOptions.{BasesOptions}
use Rattle.gfan_lists.specs.declared.bases.ListOptions.{ListOptions}
use Rattle.gfan_lists.specs.Ways.{Ways, ways_by, ways_of, list_options}
use Rattle.gf_lists_theory.specs.BasesList.{AreAllBasesIn}
use Rattle.gfan_lists.specs.Bases.{IsWithinLimit, IsTextBehind, IsFullTextBehind, IsBegunWhereBehind, IsPastLimitBehind, IsGoingCauseBehind}
use Rattle.gfan_lists.specs.Bases.{AreCertifiedWithinIn}
use Rattle.gfan_lists.specs.GivenBasis.{IsReducedFrom}
use Rattle.gfan_lists.specs.Within.{of_region, IsNoRegion}
use Rattle.gfan_lists.specs.After.{IsOtherRing, same_names, IsBasisTaken, Given, names_given, generators_given, reading_given, IsBasisGiven, IsUnrooted}
use Rattle.gfan_lists.specs.After.{reading_cut, IsRegionCut, IsStartRefused, IsStartWithin}

-- ---- after a basis, or from the first one on

-- what the list continues after: the basis of a file, with the names of its ring; or nothing
abbrev pub Behind : Bool → Type 0
Behind false = Unit {0}
Behind true = List (List ℕ) × MarkedPolynomials

-- the names of the ring of the file are these
abbrev pub AreSameNames : (after_basis : Bool) → Behind after_basis → List (List ℕ) → Type 0
AreSameNames false s names = Unit {0}
AreSameNames true s names = s.0 ≡ names

-- they aren't, and r is the refusal for that
abbrev pub IsOtherNames : (after_basis : Bool) → Behind after_basis → List (List ℕ) → Refusal → Type 0
IsOtherNames false s names r = ⊥
IsOtherNames true s names r = IsOtherRing s.0 names r

-- the bases up to the one that the list continues after: some, and last that of the file, made monic and arranged; or none
abbrev pub IsFront : (after_basis : Bool) → Behind after_basis → Region → List MarkedPolynomials → Type 0
IsFront false s k front = front ≡ []
IsFront true s k front = (b : MarkedPolynomials) × (before : List MarkedPolynomials) × IsBasisTaken k s.1 b × (front ≡ before ++ b ∷ [])

-- the basis of the file is read before the other texts
abbrev pub reading_behind : {A : Type 0} → (after_basis : Bool) → Reading A → Reading (Behind after_basis × A)
reading_behind false others = record { IsRead = λ texts v. others.IsRead texts v.1; IsRefused = others.IsRefused }
reading_behind true others = of_more ring_marked_set others

-- ---- what is read

-- the vectors of the region, if any; the basis that the list continues after, if any; and the input
abbrev pub ListValue : Ways → Type 0
ListValue ways = List (List ℤ) × (Behind ways.after_basis × Given ways.from_basis)

-- the names of the ring of the input
abbrev pub names_in : (ways : Ways) → ListValue ways → List (List ℕ)
names_in ways v = names_given ways.from_basis v.1.1

-- the polynomials that generate the ideal
abbrev pub ideal_in : (ways : Ways) → ListValue ways → List Terms
ideal_in ways v = generators_given ways.from_basis v.1.1

-- the reading of the files and of the input
abbrev pub reading_list : (ways : Ways) → Reading (ListValue ways)
reading_list ways = reading_cut ways.in_region (reading_behind ways.after_basis (reading_given ways.from_basis))

-- the sources with a file before them, if one is named
abbrev pub file_first : Option (List ℕ) → List Origin → List Origin
file_first None sources = sources
file_first (Some name) sources = Origin.a_file name ∷ sources

-- the sources of a list: the file of its region, if one is named, then that of the basis, if one is named, and then the input
abbrev pub list_sources : Option (List ℕ) → Option (List ℕ) → List Origin
list_sources within after = file_first within (file_first after (Origin.the_input ∷ []))

-- the texts with that of a file before them, if there is one
abbrev pub text_first : Option (List ℕ) → List (List ℕ) → List (List ℕ)
text_first None texts = texts
text_first (Some text) texts = text ∷ texts

-- the texts of these sources
abbrev pub list_texts : Option (List ℕ) → Option (List ℕ) → List ℕ → List (List ℕ)
list_texts within after source = text_first within (text_first after (source ∷ []))

-- What is checked of these vectors, of what the list continues after, and of the names of the ring of the input. If there is a region, each vector has an
-- entry for each variable. The names of the rings are checked after the region; so without one they are a check of what is read
abbrev pub checks_for : (in_region after_basis : Bool) → List (List ℤ) → Behind after_basis → List (List ℕ) → List Check
checks_for true after_basis rows s names = for_each (length names) rows
checks_for false true rows s names = same_names s.0 names ∷ []
checks_for false false rows s names = []

-- the checks of what is read for a list
abbrev pub checks_list : (ways : Ways) → ListValue ways → List Check
checks_list ways v = checks_for ways.in_region ways.after_basis v.0 v.1.0 (names_in ways v)

-- ---- the output

-- for the region, the basis that is given and the bases before the list, this holds of the region and these bases
abbrev pub IsOfList : (ways : Ways) → ListValue ways → (Region → List MarkedPolynomials → Type 0) → Type 0
IsOfList ways v Holds =
    (k : Region) × IsRegionCut ways.in_region (length (names_in ways v)) v.0 k × AreSameNames ways.after_basis v.1.0 (names_in ways v) ×
    IsBasisGiven ways.from_basis v.1.1
    × ((front : List MarkedPolynomials) × IsFront ways.after_basis v.1.0 k front × Holds k front)

-- the text is the output
abbrev pub IsListAnswer : (ways : Ways) → ListOptions → ListValue ways → List ℕ → Type 0
IsListAnswer ways o v text =
    IsOfList ways v (λ k front. IsTextBehind front o.certified o.limit (names_in ways v) k (ideal_in ways v) text)

-- the text is all that is written if nothing stops the list: the output, or as much of it as the limit allows
abbrev pub IsListWhole : (ways : Ways) → ListOptions → ListValue ways → List ℕ → Type 0
IsListWhole ways o v text =
    IsOfList ways v (λ k front. IsFullTextBehind front o (names_in ways v) k (ideal_in ways v) text)

-- the text may have been written when the list is refused with r. So nothing is written if it isn't started
abbrev pub IsListPart : (ways : Ways) → ListOptions → ListValue ways → List ℕ → Refusal → Type 0
IsListPart ways o v text r =
    IsOfList ways v (λ k front. IsBegunWhereBehind front o (names_in ways v) k (ideal_in ways v) text r)

-- ---- why it is refused

-- why the list isn't started in the region, from its first basis on or after a basis: the first one isn't found; or the other isn't taken, or isn't in the
-- list below the first one, or the way up from it is refused
abbrev pub IsUnstartedFrom : (ways : Ways) (after_basis : Bool) → ℕ → Region → Given ways.from_basis → Behind after_basis → Refusal → Type 0
IsUnstartedFrom ways false pairs k v s r = IsUnrooted ways.from_basis ways.in_region v k pairs r
IsUnstartedFrom ways true pairs k v s r = IsStartRefused ways pairs k v s.1 r

-- why the list that is asked for in these ways isn't started in the region
abbrev pub IsUnstarted : (ways : Ways) → ℕ → Region → Given ways.from_basis → Behind ways.after_basis → Refusal → Type 0
IsUnstarted ways pairs k v s r = IsUnstartedFrom ways ways.after_basis pairs k v s r

-- why it is refused before anything is written: there is no region; or there is one, and the names of the rings differ, if they are checked after the
-- region; or the list isn't started in the region
pub data IsEarlyCause (ways : Ways) (o : ListOptions) (v : ListValue ways) (r : Refusal) : Type 0 where
  at_region : ways.in_region ≡ true → IsNoRegion (length (names_in ways v)) v.0 r → IsEarlyCause ways o v r
  at_names : (k : Region) → ways.in_region ≡ true → IsRegionOf (length (names_in ways v)) v.0 k →
      IsOtherNames ways.after_basis v.1.0 (names_in ways v) r → IsEarlyCause ways o v r
  at_start : (k : Region) → IsRegionCut ways.in_region (length (names_in ways v)) v.0 k → AreSameNames ways.after_basis v.1.0 (names_in ways v) →
      IsUnstarted ways o.pairs k v.1.1 v.1.0 r → IsEarlyCause ways o v r

-- it is refused before anything is written; or the list is refused from there on
pub data IsListCause (ways : Ways) (o : ListOptions) (v : ListValue ways) (r : Refusal) : Type 0 where
  early : IsEarlyCause ways o v r → IsListCause ways o v r
  going : (k : Region) (front : List MarkedPolynomials) → IsRegionCut ways.in_region (length (names_in ways v)) v.0 k →
      AreSameNames ways.after_basis v.1.0 (names_in ways v) → IsBasisGiven ways.from_basis v.1.1 → IsFront ways.after_basis v.1.0 k front →
      IsGoingCauseBehind front o (length (names_in ways v)) k (ideal_in ways v) r → IsListCause ways o v r

-- ---- within limits

-- the set is a Gröbner basis for its marking, and no operation of its checks or of its reduction leaves its limits
pub record IsReducedWithin (s : MarkedPolynomials) : Type 0 where
  pub basis : IsMarkedGroebnerBasis s.variables s.items
  pub checks : AreChecksWithinLimits s
  pub tails : (t : MarkedPolynomials) (d : PolyError) → IsArranged (monic_set s) t → IsAutoreductionRefusal t.items d → d ≡ errors.Memory

-- no operation on the way to the first basis leaves its limits: of the run by the rule of the program; or, from a marked Gröbner basis for all positive
-- weights, of a call at a basis on the way up from the reduced basis
abbrev pub IsRootWithin : (from_basis in_region : Bool) → ℕ → Region → Given from_basis → Type 0
IsRootWithin false false pairs k v = AreRuledRunsWithinLimits strategies.Degree MonomialOrder.deglex (generators_of v.1.0) pairs
IsRootWithin false true pairs k v = AreRuledRunsWithinLimits strategies.Degree (MonomialOrder.weighted (gains k.root)) (generators_of v.1.0) pairs
IsRootWithin true false pairs k v =
    IsReducedWithin v.1 × ((u : MarkedPolynomials) (e : TreeError) → IsReducedFrom v.1 u → IsWayRefused (all_positive v.1.variables) pairs u e →
    e ≡ tree_errors.Memory)
IsRootWithin true true pairs k v =
    IsReducedWithin v.1 × ((u : MarkedPolynomials) → IsReducedFrom v.1 u →
    AreRuledRunsWithinLimits strategies.Degree (MonomialOrder.weighted (gains k.root)) (polys u.items) pairs)

-- no operation until the list is started, from its first basis on or after a basis, leaves its limits
abbrev pub IsStartedWithin : (ways : Ways) (after_basis : Bool) → ℕ → Region → Given ways.from_basis → Behind after_basis → Type 0
IsStartedWithin ways false pairs k v s = IsRootWithin ways.from_basis ways.in_region pairs k v
IsStartedWithin ways true pairs k v s = IsStartWithin ways pairs k v s.1

-- in the region: no operation until the list is started leaves its limits, nor does one of the search at a basis of the ideal, or one of its certificates
-- if there are any. The list isn't longer than its limit
pub record IsWithinIn (ways : Ways) (o : ListOptions) (k : Region) (v : ListValue ways) : Type 0 where
  pub start : IsStartedWithin ways ways.after_basis o.pairs k v.1.1 v.1.0
  pub tree : IsTreeWithinLimits (ideal_within (length (names_in ways v)) (ideal_in ways v) k) o.pairs
  pub few : (front list : List MarkedPolynomials) → IsFront ways.after_basis v.1.0 k front →
      AreAllBasesIn (length (names_in ways v)) k (ideal_in ways v) (front ++ list) → IsWithinLimit o.limit list
  pub certificates : AreCertifiedWithinIn o (length (names_in ways v)) k (ideal_in ways v)

-- no operation of finding the region leaves its limits, the names are equal, and the list is within its limits in each region that the vectors cut out
pub record IsListWithin (ways : Ways) (o : ListOptions) (v : ListValue ways) : Type 0 where
  pub region : ways.in_region ≡ true → IsRegionWithinLimits (length (names_in ways v)) v.0
  pub names : AreSameNames ways.after_basis v.1.0 (names_in ways v)
  pub list : (k : Region) → IsRegionCut ways.in_region (length (names_in ways v)) v.0 k → IsWithinIn ways o k v

-- more bases than the limit follow these, and no operation before that leaves its limits: none of a call at a basis up to the limit or at the next one, and,
-- if there are certificates, none of those of a basis up to the limit
pub record IsGoingPast (before : List MarkedPolynomials) (o : ListOptions) (n : ℕ) (k : Region) (fs : List Terms) (most : ℕ) : Type 0 where
  pub past : IsPastLimitBehind before o.limit n k fs most
  pub calls : (written rest : List MarkedPolynomials) (e : TreeError) → past.list ≡ written ++ rest → length written ≤ most →
      IsRefusedEarly (ideal_within n fs k) o.pairs rest e → e ≡ tree_errors.Memory
  pub certificates : (written rest : List MarkedPolynomials) (b : MarkedPolynomials) → past.list ≡ written ++ b ∷ rest → length written < most →
      o.certified ≡ true → AreCertificatesFittingIn b.variables k b.items

-- the names are equal, there is a region, and the list is started in it; there it continues after its limit, and no operation before that leaves its limits
pub record IsListPast (ways : Ways) (o : ListOptions) (v : ListValue ways) (most : ℕ) : Type 0 where
  pub limits : ways.in_region ≡ true → IsRegionWithinLimits (length (names_in ways v)) v.0
  pub names : AreSameNames ways.after_basis v.1.0 (names_in ways v)
  pub region : Region
  pub is_region : IsRegionCut ways.in_region (length (names_in ways v)) v.0 region
  pub given : IsBasisGiven ways.from_basis v.1.1
  pub start : IsStartedWithin ways ways.after_basis o.pairs region v.1.1 v.1.0
  pub front : List MarkedPolynomials
  pub is_front : IsFront ways.after_basis v.1.0 region front
  pub going : IsGoingPast front o (length (names_in ways v)) region (ideal_in ways v) most

-- the texts are the sources of such a list
abbrev pub AreTextsPast : (ways : Ways) → ListOptions → List (List ℕ) → ℕ → Type 0
AreTextsPast ways o texts most = (v : ListValue ways) × (reading_list ways).IsRead texts v × IsListPast ways o v most

-- ---- the command

-- the command `_bases`, asked for in these ways, on these sources
abbrev pub list_command : (ways : Ways) → List Origin → ListOptions → Command
list_command ways sources o = record {
  Value = ListValue ways;
  reads = sources;
  reading = reading_list ways;
  checks = checks_list ways;
  IsAnswer = IsListAnswer ways o;
  IsCause = IsListCause ways o;
  IsWithin = IsListWithin ways o;
  writing = Writing.as_it_goes (IsListWhole ways o) (IsListPart ways o) (IsEarlyCause ways o);
}

-- the command `_bases` with these options
abbrev pub bases_command : BasesOptions → Command
bases_command o = list_command (ways_of o) (list_sources o.within o.after) (list_options o)

-- ---- as the list is started

-- why there is no region in which it is started: a vector has another length, or there is no region, or there is one and the names differ; or memory runs out
abbrev pub IsUnbegun : (in_region after_basis : Bool) → ℕ → List (List ℤ) → Behind after_basis → List (List ℕ) → Refusal → Type 0
IsUnbegun in_region after_basis n rows s names r =
    ((in_region ≡ true) × (FirstFails (for_each n rows) r ⊎ IsNoRegion n rows r))
    ⊎ (((k : Region) × IsRegionCut in_region n rows k × IsOtherNames after_basis s names r) ⊎ (r ≡ refusals.Memory))

-- ---- roots with an entry that is too great

-- an operation of finding the region and its root leaves its limits, or memory runs out
abbrev pub IsUnfinished : RegionError → Type 0
IsUnfinished (region_errors.Cone o) = Unit {0}
IsUnfinished (region_errors.Wide w) = Unit {0}
IsUnfinished region_errors.Memory = Unit {0}
IsUnfinished _ = ⊥

-- r is the refusal wide; or finding the region stops before it
abbrev pub IsToldUnlessUnfinished : ℕ → List (List ℤ) → Refusal → Refusal → Type 0
IsToldUnlessUnfinished n rows wide r =
    (r ≡ wide) ⊎ (((e : RegionError) × IsRegionRefusal n rows e × IsUnfinished e × (r ≡ of_region e)) ⊎ (r ≡ refusals.Memory))

-- if vectors, each with an entry for each variable, cut out a region with an entry of its root that is too great, there is no output, and
-- the refusal has the first such entry, unless finding the region stops before it
abbrev pub WideRootsAreTold : Type 0
WideRootsAreTold = (from_basis after_basis : Bool) (sources : List Origin) (o : ListOptions) (v : ListValue (ways_by from_basis true after_basis))
    (index : ℕ) (value : ℤ) → AreRows (length (names_given from_basis v.1.1)) v.0 →
    IsRegionRefusal (length (names_given from_basis v.1.1)) v.0 (region_errors.WideRoot index value) →
    ((text : List ℕ) → IsAnswerFor (list_command (ways_by from_basis true after_basis) sources o) v text → ⊥)
    × ((r : Refusal) → IsUnanswered (list_command (ways_by from_basis true after_basis) sources o) v r →
    IsToldUnlessUnfinished (length (names_given from_basis v.1.1)) v.0 (refusals.WideRoot index value) r)
