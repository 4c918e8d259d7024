-- `_bases --after`: the list continues after the basis of a file. Its output, and why it is refused.
use Rattle.std.specs.Prelude.{◌≡◌, ◌≢◌, ◌⊎◌, ℕ, ◌<◌, Bool, true, false, List, [], length, slice_index_or, Contains, Option, None, Some, ℤ}
use Rattle.gf_poly.specs.declared.error.PolyError.{PolyError}
use Rattle.gf_poly.specs.Polynomial.{Terms, IsDescending, HasVariables}
use Rattle.gf_poly.specs.Marking.{MarkedPolynomial, MarkedPolynomials, polys, IsArranged}
use Rattle.gf_ideal_theory.specs.NormalForms.{IsNormalForm}
use Rattle.gf_reduced.specs.declared.error.CheckError.{CheckError}
use Rattle.gf_reduced.specs.Forms.{monic_set}
use Rattle.gf_reduced.specs.Markings.{IsMarkedGroebnerBasis, IsReducedBasisOf, IsRealisableBeside}
use Rattle.gf_reduced.specs.Terms.{AreReduced}
use Rattle.gf_reduced.specs.Refusals.{of_poly, IsReducedRefusalBeside, AreChecksWithinLimitsBeside}
use Rattle.gf_facets_theory.specs.Regions.{Region, all_positive}
use Rattle.gf_tree.specs.TreeError.{TreeError}
use Rattle.gf_tree.specs.Ideals.{ideal_within}
use Rattle.gf_tree.specs.Refusals.{IsTreeRefusal, IsTreeWithinLimits}
use Rattle.gf_weights.specs.Roots.{IsRegionOf}
use Rattle.gf_text.specs.declared.written.Written.{Written}
use Rattle.gf_text.specs.declared.error.TextError.{TextError}
use Rattle.gf_front.specs.declared.refusal.Refusal.{Refusal}
use Rattle.gf_front.specs.declared.refusal.Refusal.TheVariants as refusals
use Rattle.gf_items.specs.Checks.{Check}
use Rattle.gf_items.specs.Items.{IsTextOf, IsTextRefused}
use Rattle.gf_items.specs.Refusals.{of_text}
use Rattle.std.specs.Borrow.{Bor}
use Rattle.gf_items.specs.Sources.{vectors_alone, ring_set_vector, ring_marked_set}
use Rattle.gf_frame.specs.Readings.{Reading, of_one, of_more}
use Rattle.gfan_common.specs.Forms.{generators_of}
use Rattle.gfan_common.specs.CheckedSets.{of_check, IsSomeReductionRefusal}
use Rattle.gfan_lists.specs.Ways.{Ways}
use Rattle.gfan_lists.specs.Bases.{IsRootRefusal}
use Rattle.gfan_common.specs.Causes.{of_tree}
use Rattle.gf_lists_theory.specs.Starts.{StartsIn}
use Rattle.gfan_lists.specs.GivenBasis.{IsGivenRootRefusal}
use Rattle.gfan_lists.specs.Within.{IsRegionRootRefusal, IsGivenRegionRootRefusal}

-- ---- the ring

-- i is the first index at which two lists of names differ, or at which one of them ends and the other continues
pub record IsFirstDifference (found names : List (List ℕ)) (i : ℕ) : Type 0 where
  pub before : (j : ℕ) → j < i → slice_index_or found j [] ≡ slice_index_or names j []
  pub differ : ((i < length found) × (i < length names) × (slice_index_or found i [] ≢ slice_index_or names i []))
      ⊎ (((i ≡ length found) × (i < length names)) ⊎ ((i ≡ length names) × (i < length found)))

-- the refusal for other names: it has the first index at which they differ
abbrev pub IsOtherRing : List (List ℕ) → List (List ℕ) → Refusal → Type 0
IsOtherRing found names (refusals.OtherRing i) = IsFirstDifference found names i
IsOtherRing found names _ = ⊥

-- the check that a ring has these names
abbrev pub same_names : List (List ℕ) → List (List ℕ) → Check
same_names found names = record { Holds = found ≡ names; Fails = IsOtherRing found names }

-- ---- the basis

-- b has the members of s made monic and arranged. It is the reduced basis of the ideal of s for the marking of s, which some weight of the
-- region gives
pub record IsBasisTaken (k : Region) (s b : MarkedPolynomials) : Type 0 where
  pub arranged : IsArranged (monic_set s) b
  pub basis : IsReducedBasisOf s b
  pub terms : AreReduced s.items
  pub weight : IsRealisableBeside s.variables k.rows s.items

-- the normal form by bs of each of these polynomials is zero
abbrev pub LeaveZero : List MarkedPolynomial → List Terms → Type 0
LeaveZero bs fs = (f : Terms) → Contains fs f → IsNormalForm bs f []

-- the polynomial at i is the first one with a nonzero normal form by this set, and r is this normal form, with its terms in descending
-- order and no zero coefficient
pub record IsFirstOutside (by : MarkedPolynomials) (fs : List Terms) (i : ℕ) (r : Terms) : Type 0 where
  pub inside : i < length fs
  pub remainder : IsNormalForm by.items (slice_index_or fs i []) r
  pub descending : IsDescending r
  pub variables : HasVariables by.variables r
  pub nonzero : r ≢ []
  pub before : (j : ℕ) → j < i → IsNormalForm by.items (slice_index_or fs j []) []

-- some polynomial has a nonzero normal form by this set, and r has the first one, with the number of the side; or an operation of a
-- reduction leaves its range, or memory runs out
abbrev pub IsSomeOutside : ℕ → MarkedPolynomials → List Terms → Refusal → Type 0
IsSomeOutside side by fs r = ((i : ℕ) × (f : Terms) × IsFirstOutside by fs i f × (r ≡ refusals.NotListed side i f)) ⊎
    ((d : PolyError) × IsSomeReductionRefusal by.items fs d × (r ≡ of_check (of_poly d)))

-- each polynomial of s has the normal form zero by the root, and each generator has it by the basis of s
pub record IsListedBy (fs : List Terms) (s root b : MarkedPolynomials) : Type 0 where
  pub basis : LeaveZero root.items (polys s.items)
  pub generators : LeaveZero b.items fs

-- r has the first polynomial of s with a nonzero normal form by the root; or there is none, and r has the first generator with a nonzero
-- normal form by the basis of s; or an operation of these reductions leaves its range, or memory runs out
pub data IsUnlisted (fs : List Terms) (s root b : MarkedPolynomials) (r : Refusal) : Type 0 where
  at_basis : (i : ℕ) (f : Terms) → IsFirstOutside root (polys s.items) i f → r ≡ refusals.NotListed 0 i f → IsUnlisted fs s root b r
  at_generator : (i : ℕ) (f : Terms) → LeaveZero root.items (polys s.items) → IsFirstOutside b fs i f → r ≡ refusals.NotListed 1 i f → IsUnlisted fs s root b r
  in_basis : (d : PolyError) → IsSomeReductionRefusal root.items (polys s.items) d → r ≡ of_check (of_poly d) → IsUnlisted fs s root b r
  in_generators : (d : PolyError) → IsSomeReductionRefusal b.items fs d → r ≡ of_check (of_poly d) → IsUnlisted fs s root b r

-- ---- generators, or a marked Gröbner basis in their place

-- what is read from the input: a ring with a set of generators, or with a marked Gröbner basis
abbrev pub Given : Bool → Type 0
Given false = List (List ℕ) × (List Written × Option (List ℤ))
Given true = List (List ℕ) × MarkedPolynomials

-- the names of the ring of the input
abbrev pub names_given : (from_basis : Bool) → Given from_basis → List (List ℕ)
names_given false v = v.0
names_given true v = v.0

-- the polynomials that generate the ideal: those of the set, or those of the basis
abbrev pub generators_given : (from_basis : Bool) → Given from_basis → List Terms
generators_given false v = generators_of v.1.0
generators_given true v = polys v.1.items

-- the reading of the input
abbrev pub reading_given : (from_basis : Bool) → Reading (Given from_basis)
reading_given false = of_one (ring_set_vector false)
reading_given true = of_one ring_marked_set

-- a set that is read as a marked Gröbner basis is one for its marking
abbrev pub IsBasisGiven : (from_basis : Bool) → Given from_basis → Type 0
IsBasisGiven false v = Unit {0}
IsBasisGiven true v = IsMarkedGroebnerBasis v.1.variables v.1.items

-- why the root of the list isn't found: in the region of a file, or for all positive weights
abbrev pub IsUnrooted : (from_basis in_region : Bool) → Given from_basis → Region → ℕ → Refusal → Type 0
IsUnrooted false false v k pairs r = IsRootRefusal (length v.0) (generators_of v.1.0) pairs r
IsUnrooted false true v k pairs r = IsRegionRootRefusal (length v.0) k (generators_of v.1.0) pairs r
IsUnrooted true false v k pairs r = IsGivenRootRefusal v.1 pairs r
IsUnrooted true true v k pairs r = IsGivenRegionRootRefusal k v.1 pairs r

-- ---- the region

-- the reading of the other texts, without vectors
abbrev pub with_none : {A : Type 0} → Reading A → Reading (List (List ℤ) × A)
with_none others = record { IsRead = λ texts v. (v.0 ≡ []) × others.IsRead texts v.1; IsRefused = others.IsRefused }

-- the vectors of the file of a region are read first if one is named
abbrev pub reading_cut : {A : Type 0} → Bool → Reading A → Reading (List (List ℤ) × A)
reading_cut false others = with_none others
reading_cut true others = of_more vectors_alone others

-- k is the region that the vectors cut out; without such a file it consists of all positive weights
abbrev pub IsRegionCut : Bool → ℕ → List (List ℤ) → Region → Type 0
IsRegionCut false n rows k = k ≡ all_positive n
IsRegionCut true n rows k = IsRegionOf n rows k

-- rows are the vectors of the file of a region; there are none if there is no such file
abbrev pub IsOfCutFile : Option (Bor (List ℕ)) → List (List ℤ) → Type 0
IsOfCutFile None rows = rows ≡ []
IsOfCutFile (Some file) rows = IsTextOf vectors_alone file.now rows

-- why the file of a region is refused
abbrev pub IsCutFileRefused : Option (Bor (List ℕ)) → Refusal → Type 0
IsCutFileRefused None r = ⊥
IsCutFileRefused (Some file) r = (e : TextError) × IsTextRefused vectors_alone file.now e × (r ≡ of_text e)

-- ---- why it is refused

-- why the list isn't started in the region, if the names are equal. The set is refused as a reduced basis. Or the root isn't found. Or the
-- basis isn't in the list below the root. Or it is, and a call of the search is refused on the way up from it
pub data IsStartRefused (ways : Ways) (pairs : ℕ) (k : Region) (v : Given ways.from_basis) (s : MarkedPolynomials) (r : Refusal) : Type 0 where
  at_basis : (e : CheckError) → IsReducedRefusalBeside k.rows 0 s e → r ≡ of_check e → IsStartRefused ways pairs k v s r
  at_root : (b : MarkedPolynomials) → IsBasisTaken k s b → IsUnrooted ways.from_basis ways.in_region v k pairs r → IsStartRefused ways pairs k v s r
  unlisted : (b root : MarkedPolynomials) → IsBasisTaken k s b → IsBasisGiven ways.from_basis v →
      StartsIn (length (names_given ways.from_basis v)) k (generators_given ways.from_basis v) root → IsUnlisted (generators_given ways.from_basis v)
      s root b r → IsStartRefused ways pairs k v s r
  on_the_way : (b root : MarkedPolynomials) (e : TreeError) → IsBasisTaken k s b → IsBasisGiven ways.from_basis v →
      StartsIn (length (names_given ways.from_basis v)) k (generators_given ways.from_basis v) root → IsListedBy (generators_given ways.from_basis v) s root b →
      IsTreeRefusal (ideal_within (length (names_given ways.from_basis v)) (generators_given ways.from_basis v) k) pairs e → r ≡ of_tree e →
      IsStartRefused ways pairs k v s r

-- ---- within limits

-- in the region: the set is the reduced basis of its ideal, and some weight of the region gives it. No operation of its checks leaves its
-- limits, nor does one on the way to the root, of the reductions by the root and by the basis, whose normal forms are zero, or of the
-- search at a basis of the ideal
pub record IsStartWithin (ways : Ways) (pairs : ℕ) (k : Region) (v : Given ways.from_basis) (s : MarkedPolynomials) : Type 0 where
  pub weight : IsRealisableBeside s.variables k.rows s.items
  pub basis : IsMarkedGroebnerBasis s.variables s.items
  pub reduced : AreReduced s.items
  pub checks : AreChecksWithinLimitsBeside k.rows s
  pub root : (r : Refusal) → IsUnrooted ways.from_basis ways.in_region v k pairs r → r ≡ refusals.Memory
  pub listed : (b root : MarkedPolynomials) (r : Refusal) → IsBasisTaken k s b →
      StartsIn (length (names_given ways.from_basis v)) k (generators_given ways.from_basis v) root → IsUnlisted (generators_given ways.from_basis v)
      s root b r → r ≡ refusals.Memory
  pub tree : IsTreeWithinLimits (ideal_within (length (names_given ways.from_basis v)) (generators_given ways.from_basis v) k) pairs
