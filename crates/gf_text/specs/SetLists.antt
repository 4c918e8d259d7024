-- Lists of sets as they are read. A list is combined as a whole: first the exponents of all its sets, then the sums.
use Rattle.std.specs.Prelude.{◌≡◌, ℕ, ◌-◌, ◌^◌, min, List, [], ◌∷◌, ◌++◌, length, map, flat_map, Result, Ok, Err, Vec}
use Rattle.std.specs.Global.{Global}
use Rattle.gf_frac.specs.declared.refusal.Overflow.{Overflow}
use Rattle.gf_poly.specs.declared.monomial.ExponentOverflow.{ExponentOverflow}
use Rattle.gf_poly.specs.Polynomial.{Terms}
use Rattle.gf_poly.specs.Marking.{MarkedPolynomials}
use Rattle.gf_text.specs.declared.error.TextError.{TextError}
use Rattle.gf_text.specs.declared.error.TextError.TheVariants as errors
use Rattle.gf_text.specs.declared.combine.Sums.{Sums}
use Rattle.gf_text.specs.declared.tree.WrittenTerm.{WrittenTerm}
use Rattle.gf_text.specs.declared.written.Written.{Written}
use Rattle.gf_text.specs.declared.set_lists.SetSums.{SetSums}
use Rattle.gf_text.specs.declared.set_lists.SetSums.TheVariants as came
use Rattle.gf_text.specs.declared.set_reader.SetPlace.TheVariants as at
use Rattle.gf_text.specs.Machine.{Fault, run, Reads}
use Rattle.gf_text.specs.Tokens.{lexemes, ring_more, Position}
use Rattle.gf_text.specs.RingText.{IsRing}
use Rattle.gf_text.specs.Kinds.{IsTokenKind}
use Rattle.gf_text.specs.ListText.{IsListText, ListState, opening, first_item, inside, list_step}
use Rattle.gf_text.specs.SetText.{IsSetText, SetState, set_step, empty}
use Rattle.gf_text.specs.Combining.{sums_of}
use Rattle.gf_text.specs.Sets.{IsWhatRemains, IsFirstSumOverflow, IsCombiningCause, HasSums, AreIn, AreNonzero, IsFirstZero}
use Rattle.gf_text.specs.Given.{IsNoText}

-- ---- what comes of sets

-- all polynomials of these sets
abbrev pub polynomials_of : List (List (List WrittenTerm)) → List (List WrittenTerm)
polynomials_of qs = flat_map (λ q. q) qs

-- these sets are what is left of these
abbrev pub AreWhatRemain : ℕ → List (List (List WrittenTerm)) → List (List Written) → Type 0
AreWhatRemain n [] [] = Unit {0}
AreWhatRemain n [] (ws ∷ sets) = ⊥
AreWhatRemain n (q ∷ qs) [] = ⊥
AreWhatRemain n (q ∷ qs) (ws ∷ sets) = IsWhatRemains n q ws × AreWhatRemain n qs sets

-- the polynomials in these vectors
abbrev pub sets_in : List (Vec Written Global) → List (List Written)
sets_in vs = map (λ v. v.items) vs

-- what came of these sets: what is left of each, or why they are refused
abbrev pub HasSetSums : ℕ → List (List (List WrittenTerm)) → SetSums → Type 0
HasSetSums n qs (came.Fit sets) = AreWhatRemain n qs (sets_in sets.items)
HasSetSums n qs (came.Overflow o) = IsCombiningCause n (polynomials_of qs) (errors.Overflow o)
HasSetSums n qs (came.Exponent o) = IsCombiningCause n (polynomials_of qs) (errors.Exponent o)

-- whatever sets stand before it, what came of them comes to this with what came of a set
abbrev pub AddsSet : Sums → SetSums → SetSums → Type 0
AddsSet next old new = (n : ℕ) (qs : List (List (List WrittenTerm))) (q : List (List WrittenTerm)) → HasSetSums n qs old → HasSums n q next →
    HasSetSums n (qs ++ q ∷ []) new

-- each polynomial of each of these sets has n variables
abbrev pub AreAllIn : ℕ → List (List Written) → Type 0
AreAllIn n [] = Unit {0}
AreAllIn n (ws ∷ sets) = AreIn n ws × AreAllIn n sets

-- ---- the machine

-- what is read of a list of sets from a state on, in the tokens from this place of the source
abbrev pub sets_from : List (List ℕ) → ListState SetState (List (List WrittenTerm)) → List ℕ → ℕ → Result (List (List (List WrittenTerm)) × ℕ) Fault
sets_from ring s source from = run (list_step (set_step ring) (at.Brace, empty)) s (length source) (lexemes (ring_more ring) source from)

-- the list of sets that stands in the source from this place on, and the place behind it
abbrev pub sets_at : List (List ℕ) → List ℕ → ℕ → Result (List (List (List WrittenTerm)) × ℕ) Fault
sets_at ring source from = sets_from ring (opening, []) source from

-- behind its first brace, and where its first item begins
abbrev pub sets_first : ListState SetState (List (List WrittenTerm))
sets_first = (first_item, [])

-- inside its first item, of which nothing is read
abbrev pub sets_inside : ListState SetState (List (List WrittenTerm))
sets_inside = (inside (at.Brace, empty), [])

-- this came of the sets that are read from a state on, and the reader goes to this place
pub record AreListSums (ring : List (List ℕ)) (s : ListState SetState (List (List WrittenTerm))) (old : Position) (place : ℕ) (sums : SetSums) : Type 0 where
  pub said : List (List (List WrittenTerm))
  pub read : sets_from ring s old.source old.at ≡ Ok (said, place)
  pub come : HasSetSums (length ring) said sums

-- ---- a list of sets that stands in a source

-- these sets are read, and the reader goes to this place
pub record AreSetsRead (ring : List (List ℕ)) (old : Position) (place : ℕ) (sets : List (List Written)) : Type 0 where
  pub names : IsRing ring
  pub said : List (List (List WrittenTerm))
  pub text : Reads (IsListText (IsSetText ring)) (lexemes (ring_more ring) old.source old.at) said place
  pub remain : AreWhatRemain (length ring) said sets

-- the text says this, and an exponent passes its limit: the first one of the list that does
pub record HaveExponentOverflow (ring : List (List ℕ)) (old : Position) (o : ExponentOverflow) : Type 0 where
  pub said : List (List (List WrittenTerm))
  pub place : ℕ
  pub text : Reads (IsListText (IsSetText ring)) (lexemes (ring_more ring) old.source old.at) said place
  pub exponents : sums_of (length ring) (polynomials_of said) ≡ Err o

-- the text says this, and a sum of like terms leaves its range: the first one of the list that does
pub record HaveSumOverflow (ring : List (List ℕ)) (old : Position) (o : Overflow) : Type 0 where
  pub said : List (List (List WrittenTerm))
  pub place : ℕ
  pub text : Reads (IsListText (IsSetText ring)) (lexemes (ring_more ring) old.source old.at) said place
  pub sums : List Terms
  pub exponents : sums_of (length ring) (polynomials_of said) ≡ Ok sums
  pub overflow : IsFirstSumOverflow sums o

-- no text of a list of sets stands there, and the fault is of this kind
abbrev pub HasNoSets : List (List ℕ) → Position → TextError → Type 0
HasNoSets ring old e = IsNoText (IsListText (IsSetText ring)) (IsTokenKind ring (IsListText (IsSetText ring))) (lexemes (ring_more ring) old.source old.at)
    (length old.source) e

-- why a list of sets is refused
abbrev pub IsSetsCause : List (List ℕ) → Position → TextError → Type 0
IsSetsCause ring old (errors.Overflow o) = HaveSumOverflow ring old o
IsSetsCause ring old (errors.Exponent o) = HaveExponentOverflow ring old o
IsSetsCause ring old (errors.Syntax s) = HasNoSets ring old (errors.Syntax s)
IsSetsCause ring old (errors.TooWide place) = HasNoSets ring old (errors.TooWide place)
IsSetsCause ring old (errors.UnknownName place) = HasNoSets ring old (errors.UnknownName place)
IsSetsCause ring old (errors.TooManyVariables count) = ⊥
IsSetsCause ring old (errors.ZeroPolynomial set index) = ⊥
IsSetsCause ring old errors.Memory = Unit {0}

-- ---- lists of marked sets

-- these are the marked sets in n variables of these polynomials, of which none is zero
abbrev pub AreMarkedSets : ℕ → List (List Written) → List MarkedPolynomials → Type 0
AreMarkedSets n [] [] = Unit {0}
AreMarkedSets n [] (s ∷ ss) = ⊥
AreMarkedSets n (ws ∷ sets) [] = ⊥
AreMarkedSets n (ws ∷ sets) (s ∷ ss) = AreNonzero ws s.items × (s.variables ≡ n) × AreMarkedSets n sets ss

-- The first set with a zero polynomial has this number, and the first zero polynomial of it this index; what passes
-- 2^32 - 1 is that.
pub record IsFirstZeroOf (n : ℕ) (sets : List (List Written)) (set index : ℕ) : Type 0 where
  pub front : List (List Written)
  pub marked : List MarkedPolynomials
  pub written : List Written
  pub back : List (List Written)
  pub whole : sets ≡ front ++ written ∷ back
  pub before : AreMarkedSets n front marked
  pub number : set ≡ min (length front) (2 ^ 32 - 1)
  pub first : IsFirstZero written index

-- why these sets aren't marked ones: a polynomial is zero
abbrev pub IsZeroCauseOf : ℕ → List (List Written) → TextError → Type 0
IsZeroCauseOf n sets (errors.Overflow o) = ⊥
IsZeroCauseOf n sets (errors.Exponent o) = ⊥
IsZeroCauseOf n sets (errors.Syntax s) = ⊥
IsZeroCauseOf n sets (errors.TooWide place) = ⊥
IsZeroCauseOf n sets (errors.UnknownName place) = ⊥
IsZeroCauseOf n sets (errors.TooManyVariables count) = ⊥
IsZeroCauseOf n sets (errors.ZeroPolynomial set index) = IsFirstZeroOf n sets set index
IsZeroCauseOf n sets errors.Memory = Unit {0}

-- these marked sets are read, and the reader goes to this place
pub record AreMarkedSetsRead (ring : List (List ℕ)) (old : Position) (place : ℕ) (ss : List MarkedPolynomials) : Type 0 where
  pub written : List (List Written)
  pub read : AreSetsRead ring old place written
  pub marked : AreMarkedSets (length ring) written ss

-- sets are read, and a polynomial of one is zero
pub record HaveZeroPolynomial (ring : List (List ℕ)) (old : Position) (set index : ℕ) : Type 0 where
  pub written : List (List Written)
  pub place : ℕ
  pub read : AreSetsRead ring old place written
  pub first : IsFirstZeroOf (length ring) written set index

-- why a list of marked sets is refused
abbrev pub IsMarkedSetsCause : List (List ℕ) → Position → TextError → Type 0
IsMarkedSetsCause ring old (errors.Overflow o) = HaveSumOverflow ring old o
IsMarkedSetsCause ring old (errors.Exponent o) = HaveExponentOverflow ring old o
IsMarkedSetsCause ring old (errors.Syntax s) = HasNoSets ring old (errors.Syntax s)
IsMarkedSetsCause ring old (errors.TooWide place) = HasNoSets ring old (errors.TooWide place)
IsMarkedSetsCause ring old (errors.UnknownName place) = HasNoSets ring old (errors.UnknownName place)
IsMarkedSetsCause ring old (errors.TooManyVariables count) = ⊥
IsMarkedSetsCause ring old (errors.ZeroPolynomial set index) = HaveZeroPolynomial ring old set index
IsMarkedSetsCause ring old errors.Memory = Unit {0}
