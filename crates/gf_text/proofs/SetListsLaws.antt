-- Lists of sets: what comes of them, set by set, and that they are read as the grammar of lists says.
-- To cite: sets_fit, sets_overflow, sets_exponent, exponents_fit, AllFit, all_fit, keeps_overflow, overflow_exponent, keeps_exponent, remain_variables;
-- sets_reads, sets_refused, one_list_of_sets, no_sets_same; in_middle, marked_push, zero_of. The rest are steps.
use Rattle.std.proofs.Common.{◌≡◌, ◌-◌, ◌^◌, ℕ, suc, min, Ok, Err, Vec, Global, List, [], ◌∷◌, ◌++◌, length, refl, sym, ap, subst, ◌∙◌, append_assoc}
use Rattle.std.proofs.Common.{append-nil}
use Rattle.std.proofs.lemmas.List.{map-append}
use Rattle.gf_frac.specs.declared.refusal.Overflow.{Overflow}
use Rattle.gf_poly.specs.declared.monomial.ExponentOverflow.{ExponentOverflow}
use Rattle.gf_poly.specs.Polynomial.{Terms}
use Rattle.gf_poly.specs.Marking.{MarkedPolynomials}
use Rattle.gf_text.specs.declared.error.Cause.TheVariants.{Unexpected}
use Rattle.gf_text.specs.declared.error.TextError.{TextError}
use Rattle.gf_text.specs.declared.error.TextError.TheVariants as errors
use Rattle.gf_text.specs.declared.combine.Sums.{Sums}
use Rattle.gf_text.specs.declared.combine.Sums.TheVariants as came
use Rattle.gf_text.specs.declared.tree.WrittenTerm.{WrittenTerm}
use Rattle.gf_text.specs.declared.written.Written.{Written}
use Rattle.gf_text.specs.declared.set_reader.SetPlace.TheVariants as at
use Rattle.gf_text.specs.Machine.{Reads, HasOneMeaning}
use Rattle.gf_text.specs.Tokens.{lexemes, ring_more, Position}
use Rattle.gf_text.specs.RingText.{IsRing}
use Rattle.gf_text.specs.Kinds.{IsTokenKind}
use Rattle.gf_text.specs.ListText.{IsListText, opening, list_step}
use Rattle.gf_text.specs.SetText.{IsSetText, set_step, empty}
use Rattle.gf_text.specs.Combining.{sums_of}
use Rattle.gf_text.specs.Sets.{AllSumsFit, IsWhatRemains, IsCombiningCause, HasSums, AreIn, AreNonzero, IsZeroCause}
use Rattle.gf_text.specs.SetLists.{polynomials_of, AreWhatRemain, AreAllIn, AreMarkedSets, IsZeroCauseOf, sets_in, sets_at, HasNoSets, IsSetsCause}
use Rattle.gf_text.specs.Given.{IsRefusedAs, Fails}
use Rattle.gf_text.proofs.MachineLaws.{reads, one_meaning, IsMachineOf, no_text}
use Rattle.gf_text.proofs.KindsLaws.{gate_kind}
use Rattle.gf_text.proofs.FaultsLaws.{token_kind_once, no_text_once}
use Rattle.gf_text.proofs.ListTextLaws.{list_machine, list_gate}
use Rattle.gf_text.proofs.CombiningLaws.{sums_append_ok, sums_append_refused, sums_append_after, sums_variables}
use Rattle.gf_text.proofs.SetsLaws.{written_variables}
use Rattle.gf_text.proofs.SetTokensLaws.{named_word}
use Rattle.gf_text.proofs.SetMachineLaws.{set_machine}
use Rattle.gf_text.proofs.SetKindsLaws.{set_gate}

abbrev Sets : Type 0
Sets = List (List (List WrittenTerm))

-- ---- what comes of sets, one after another

last_of : (qs : Sets) (q : List (List WrittenTerm)) → polynomials_of (qs ++ q ∷ []) ≡ polynomials_of qs ++ q
last_of [] q = append-nil q
last_of (p ∷ qs) q = ap (λ l. p ++ l) (last_of qs q) ∙ sym (append_assoc p (polynomials_of qs) q)

fits_append : (fs gs : List Terms) → AllSumsFit fs → AllSumsFit gs → AllSumsFit (fs ++ gs)
fits_append [] gs h k = k
fits_append (f ∷ fs) gs h k = (h.0, fits_append fs gs h.1 k)

-- where no exponent is refused, none passes its limit
pub exponents_fit : (n : ℕ) (q : List (List WrittenTerm)) (next : Sums) → ((o : ExponentOverflow) → next ≡ came.Exponent o → ⊥) → HasSums n q next →
    (fs : List Terms) × (sums_of n q ≡ Ok fs)
exponents_fit n q (came.Fit ws) none h = (h.sums, h.exponents)
exponents_fit n q (came.Overflow o) none h = (h.0, h.1)
exponents_fit n q (came.Exponent o) none h = absurd (none o refl)

-- what remains of sets, as what remains of all their polynomials
pub record AllFit (n : ℕ) (qs : Sets) : Type 0 where
  pub sums : List Terms
  pub exponents : sums_of n (polynomials_of qs) ≡ Ok sums
  pub fits : AllSumsFit sums

pub all_fit : (n : ℕ) (qs : Sets) (sets : List (List Written)) → AreWhatRemain n qs sets → AllFit n qs
all_fit n [] [] h = record { sums = []; exponents = refl; fits = tt }
all_fit n [] (ws ∷ sets) h = absurd h
all_fit n (q ∷ qs) [] h = absurd h
all_fit n (q ∷ qs) (ws ∷ sets) h =
    let rest = all_fit n qs sets h.1 in
    record {
      sums = h.0.sums ++ rest.sums;
      exponents = sums_append_ok n q (polynomials_of qs) h.0.sums rest.sums h.0.exponents rest.exponents;
      fits = fits_append h.0.sums rest.sums h.0.fits rest.fits;
    }

remain_push : (n : ℕ) (qs : Sets) (sets : List (List Written)) (q : List (List WrittenTerm)) (ws : List Written) → AreWhatRemain n qs sets →
    IsWhatRemains n q ws → AreWhatRemain n (qs ++ q ∷ []) (sets ++ ws ∷ [])
remain_push n [] [] q ws h k = (k, tt)
remain_push n [] (vs ∷ sets) q ws h k = absurd h
remain_push n (p ∷ qs) [] q ws h k = absurd h
remain_push n (p ∷ qs) (vs ∷ sets) q ws h k = (h.0, remain_push n qs sets q ws h.1 k)

module _ (n : ℕ) (qs : Sets) (q : List (List WrittenTerm)) where
  -- the set that is added fits
  pub sets_fit : (old new : List (Vec Written Global)) (w : Vec Written Global) → new ≡ old ++ w ∷ [] → AreWhatRemain n qs (sets_in old) →
      IsWhatRemains n q w.items → AreWhatRemain n (qs ++ q ∷ []) (sets_in new)
  sets_fit old new w is h k =
      subst (λ vs. AreWhatRemain n (qs ++ q ∷ []) vs) (sym (ap sets_in is ∙ map-append (λ (v : Vec Written Global). v.items) old (w ∷ [])))
      (remain_push n qs (sets_in old) q w.items h k)

  -- a sum of it leaves its range
  pub sets_overflow : (old : List (List Written)) (o : Overflow) → AreWhatRemain n qs old → IsCombiningCause n q (errors.Overflow o) →
      IsCombiningCause n (polynomials_of (qs ++ q ∷ [])) (errors.Overflow o)
  sets_overflow old o h k =
      let all = all_fit n qs old h in
      let first = k.2 in (
        all.sums ++ k.0,
        ap (sums_of n) (last_of qs q) ∙ sums_append_ok n (polynomials_of qs) q all.sums (k.0) all.exponents (k.1),
        record {
          front = all.sums ++ first.front;
          sum = first.sum;
          back = first.back;
          whole = ap (λ l. all.sums ++ l) first.whole ∙ sym (append_assoc all.sums first.front (first.sum ∷ first.back));
          before = fits_append all.sums first.front all.fits first.before;
          overflow = first.overflow;
        },
      )

  -- an exponent of it passes its limit
  pub sets_exponent : (old : List (List Written)) (o : ExponentOverflow) → AreWhatRemain n qs old → IsCombiningCause n q (errors.Exponent o) →
      IsCombiningCause n (polynomials_of (qs ++ q ∷ [])) (errors.Exponent o)
  sets_exponent old o h k = let all = all_fit n qs old h in ap (sums_of n) (last_of qs q) ∙ sums_append_refused n (polynomials_of qs)
      q all.sums o all.exponents k

  -- a sum before it leaves its range, and its exponents fit
  pub keeps_overflow : (o : Overflow) (fs : List Terms) → sums_of n q ≡ Ok fs → IsCombiningCause n (polynomials_of qs) (errors.Overflow o) →
      IsCombiningCause n (polynomials_of (qs ++ q ∷ [])) (errors.Overflow o)
  keeps_overflow o fs fit h =
      let first = h.2 in (
        h.0 ++ fs,
        ap (sums_of n) (last_of qs q) ∙ sums_append_ok n (polynomials_of qs) q (h.0) fs (h.1) fit,
        record {
          front = first.front;
          sum = first.sum;
          back = first.back ++ fs;
          whole = ap (λ l. l ++ fs) first.whole ∙ append_assoc first.front (first.sum ∷ first.back) fs;
          before = first.before;
          overflow = first.overflow;
        },
      )

  -- a sum before it leaves its range, and an exponent of it passes its limit
  pub overflow_exponent : (o : Overflow) (x : ExponentOverflow) → sums_of n q ≡ Err x → IsCombiningCause n (polynomials_of qs) (errors.Overflow o) →
      IsCombiningCause n (polynomials_of (qs ++ q ∷ [])) (errors.Exponent x)
  overflow_exponent o x k h = ap (sums_of n) (last_of qs q) ∙ sums_append_refused n (polynomials_of qs) q (h.0) x (h.1) k

  -- an exponent before it passes its limit
  pub keeps_exponent : (x : ExponentOverflow) → IsCombiningCause n (polynomials_of qs) (errors.Exponent x) →
      IsCombiningCause n (polynomials_of (qs ++ q ∷ [])) (errors.Exponent x)
  keeps_exponent x h = ap (sums_of n) (last_of qs q) ∙ sums_append_after n (polynomials_of qs) q x h

pub remain_variables : (n : ℕ) (qs : Sets) (sets : List (List Written)) → AreWhatRemain n qs sets → AreAllIn n sets
remain_variables n [] [] h = tt
remain_variables n [] (ws ∷ sets) h = absurd h
remain_variables n (q ∷ qs) [] h = absurd h
remain_variables n (q ∷ qs) (ws ∷ sets) h = (
  written_variables n h.0.sums ws (sums_variables n q h.0.sums h.0.exponents) h.0.written,
  remain_variables n qs sets h.1,
)

-- ---- what is read is what the grammar says

module _ (ring : List (List ℕ)) (is_ring : IsRing ring) where
  sets_machine : IsMachineOf (list_step (set_step ring) (at.Brace, empty)) (opening, []) (IsListText (IsSetText ring))
  sets_machine = list_machine (set_machine ring is_ring) (Unexpected, refl)

  pub sets_reads : (source : List ℕ) (from : ℕ) (qs : Sets) (place : ℕ) → sets_at ring source from ≡ Ok (qs, place) →
      Reads (IsListText (IsSetText ring)) (lexemes (ring_more ring) source from) qs place
  sets_reads source from qs place e = reads (list_step (set_step ring) (at.Brace, empty)) (IsListText (IsSetText ring)) (opening, []) (length source)
      (lexemes (ring_more ring) source from) qs place (λ ts. sets_machine.said ts qs) e

  pub one_list_of_sets : HasOneMeaning (IsListText (IsSetText ring))
  one_list_of_sets = one_meaning (list_step (set_step ring) (at.Brace, empty)) (IsListText (IsSetText ring)) (opening, []) sets_machine.given

  no_sets : (source : List ℕ) (from : ℕ) (e : TextError) → IsRefusedAs e (sets_at ring source from) → HasNoSets ring (record { source = source; at = from }) e
  no_sets source from e r =
      no_text sets_machine (IsTokenKind ring (IsListText (IsSetText ring)))
      (gate_kind sets_machine ring (named_word ring is_ring) (list_gate (set_step ring) (at.Brace, empty) ring (named_word ring is_ring)
      (set_gate ring is_ring)))
      (length source) (lexemes (ring_more ring) source from) e r

  pub sets_refused : (source : List ℕ) (from : ℕ) (e : TextError) → Fails e (sets_at ring source from) →
      IsSetsCause ring (record { source = source; at = from }) e
  sets_refused source from (errors.Overflow o) h = absurd h
  sets_refused source from (errors.Exponent o) h = absurd h
  sets_refused source from (errors.Syntax s) h = no_sets source from (errors.Syntax s) h
  sets_refused source from (errors.TooWide place) h = no_sets source from (errors.TooWide place) h
  sets_refused source from (errors.UnknownName place) h = no_sets source from (errors.UnknownName place) h
  sets_refused source from (errors.TooManyVariables count) h = h
  sets_refused source from (errors.ZeroPolynomial set index) h = h
  sets_refused source from errors.Memory h = tt

-- where none is read the refusal is one
pub no_sets_same : (ring : List (List ℕ)) (old : Position) (e d : TextError) → HasNoSets ring old e → HasNoSets ring old d → d ≡ e
no_sets_same ring old e d h k =
    no_text_once (IsListText (IsSetText ring)) (IsTokenKind ring (IsListText (IsSetText ring))) (token_kind_once (IsListText (IsSetText ring)) ring)
    (lexemes (ring_more ring) old.source old.at) (length old.source) d e k h

-- ---- lists of marked sets

pub in_middle : (n : ℕ) (taken : List (List Written)) (ws : List Written) (back : List (List Written)) → AreAllIn n (taken ++ ws ∷ back) → AreIn n ws
in_middle n [] ws back h = h.0
in_middle n (vs ∷ taken) ws back h = in_middle n taken ws back h.1

pub marked_push : (n : ℕ) (sets : List (List Written)) (ss : List MarkedPolynomials) (ws : List Written) (s : MarkedPolynomials) → AreMarkedSets n sets ss →
    AreNonzero ws s.items → s.variables ≡ n → AreMarkedSets n (sets ++ ws ∷ []) (ss ++ s ∷ [])
marked_push n [] [] ws s h items variables = (items, variables, tt)
marked_push n [] (r ∷ ss) ws s h items variables = absurd h
marked_push n (vs ∷ sets) [] ws s h items variables = absurd h
marked_push n (vs ∷ sets) (r ∷ ss) ws s h items variables = (h.0, h.1, marked_push n sets ss ws s h.2 items variables)

marked_length : (n : ℕ) (sets : List (List Written)) (ss : List MarkedPolynomials) → AreMarkedSets n sets ss → length ss ≡ length sets
marked_length n [] [] h = refl
marked_length n [] (s ∷ ss) h = absurd h
marked_length n (ws ∷ sets) [] h = absurd h
marked_length n (ws ∷ sets) (s ∷ ss) h = ap (λ (k : ℕ). suc k) (marked_length n sets ss h.2)

-- behind marked sets one has a zero polynomial
pub zero_of : (n : ℕ) (all taken : List (List Written)) (ws : List Written) (back : List (List Written)) (ss : List MarkedPolynomials) (set : ℕ) (e : TextError)
    → all ≡ taken ++ ws ∷ back → AreMarkedSets n taken ss → set ≡ min (length ss) (2 ^ 32 - 1) → IsZeroCause set ws e → IsZeroCauseOf n all e
zero_of n all taken ws back ss set (errors.Overflow o) whole marked number h = h
zero_of n all taken ws back ss set (errors.Exponent o) whole marked number h = h
zero_of n all taken ws back ss set (errors.Syntax s) whole marked number h = h
zero_of n all taken ws back ss set (errors.TooWide place) whole marked number h = h
zero_of n all taken ws back ss set (errors.UnknownName place) whole marked number h = h
zero_of n all taken ws back ss set (errors.TooManyVariables count) whole marked number h = h
zero_of n all taken ws back ss set (errors.ZeroPolynomial which index) whole marked number h = record {
  front = taken;
  marked = ss;
  written = ws;
  back = back;
  whole = whole;
  before = marked;
  number = h.0 ∙ number ∙ ap (λ k. min k (2 ^ 32 - 1)) (marked_length n taken ss marked);
  first = h.1;
}
zero_of n all taken ws back ss set errors.Memory whole marked number h = tt
