-- The machine of rings reads exactly what the grammar of rings says, and a printed ring is read again.
-- To cite: ring_machine, ring_reads, ring_read, ring_halts, long_name, long_is_name, long_is_new, long_stops, one_ring, rings_again. The rest are steps.
use Rattle.std.proofs.Common.{◌≡◌, ◌<◌, ◌≤◌, ℕ, zero, suc, ◌+◌, Bool, true, false, ◌||◌, List, [], ◌∷◌, ◌++◌, length, flat_map, Ok, refl, sym, ap, ◌∙◌, subst}
use Rattle.std.proofs.Common.{inl, inr, append_assoc, append-nil, bytes_eq, arith, if◌then◌else◌, replicate}
use Rattle.std.proofs.lemmas.List.{length-replicate}
use Rattle.std.specs.List.{list_all}
use Rattle.gf_text.specs.declared.TheConstants.{MOST_VARIABLES}
use Rattle.gf_text.specs.declared.error.Cause.{Cause}
use Rattle.gf_text.specs.declared.error.Cause.TheVariants.{Ended, Unexpected, RepeatedName, ZeroDenominator, TooWide, UnknownName}
use Rattle.gf_text.specs.declared.error.TextError.{TextError}
use Rattle.gf_text.specs.declared.error.TextError.TheVariants as errors
use Rattle.gf_text.specs.declared.ring_reader.RingPlace.TheVariants as at
use Rattle.gf_text.specs.Machine.{Lexeme, Move, go, done, halt, after, Reads, HasOneMeaning}
use Rattle.gf_text.specs.Rings.{IsRingRead, IsRingCause, HasTooMany, IsReadAsRing, RingsAreReadAgain}
use Rattle.gf_text.specs.RingText.{is_name, has, AreNew, IsRingText, ring_tokens, more_names, letter_q, RingState, ring_step, ring_at, ring_words}
use Rattle.gf_text.specs.Marks.{bracket, comma, bracket_end}
use Rattle.gf_text.specs.Tokens.{is_name_byte, lexemes, word_more, Position}
use Rattle.gf_text.proofs.MachineLaws.{after-go, after-done, first, not_yet, reads, one_meaning, IsMachineOf}
use Rattle.gf_text.proofs.SpelledLaws.{IsSpelled, goes_on, spelled-none, spelled-token, spelled-++, spelled-read, mark_token, word_token}
use Rattle.gf_text.proofs.SetTokensLaws.{is_mark}

-- ---- what the machine does at a token

abbrev pub Names : Type 0
Names = List (List ℕ)

abbrev pub goes : RingState → Move RingState Names
goes s = go s

abbrev pub stops : Cause → Move RingState Names
stops cause = halt cause

abbrev pub ends : Names → Move RingState Names
ends names = done names

pub is_letter_q : (before : Names) (t : List ℕ) (v : Bool) → bytes_eq t letter_q ≡ v → (u : RingState) →
    (if v then goes (at.Bracket, before) else stops Unexpected) ≡ goes u → (t ≡ letter_q) × (u ≡ (at.Bracket, before))
is_letter_q before t true is u e = (is_mark t letter_q is, cc)
is_letter_q before t false is u e = cc

pub is_bracket : (before : Names) (t : List ℕ) (v : Bool) → bytes_eq t bracket ≡ v → (u : RingState) →
    (if v then goes (at.Variable, before) else stops Unexpected) ≡ goes u → (t ≡ bracket) × (u ≡ (at.Variable, before))
is_bracket before t true is u e = (is_mark t bracket is, cc)
is_bracket before t false is u e = cc

pub is_variable : (before : Names) (t : List ℕ) (v w : Bool) → is_name t ≡ v → has before t ≡ w → (u : RingState)
    → (if v then (if w then stops RepeatedName else goes (at.Behind, before ++ t ∷ [])) else stops Unexpected) ≡ goes u
    → (is_name t ≡ true) × (has before t ≡ false) × (u ≡ (at.Behind, before ++ t ∷ []))
is_variable before t true true named new u e = cc
is_variable before t true false named new u e = (named, new, cc)
is_variable before t false w named new u e = cc

pub is_comma : (before : Names) (t : List ℕ) (v w : Bool) → bytes_eq t comma ≡ v → (u : RingState) →
    (if v then goes (at.Variable, before) else if w then ends before else stops Unexpected) ≡ goes u → (t ≡ comma) × (u ≡ (at.Variable, before))
is_comma before t true w is u e = (is_mark t comma is, cc)
is_comma before t false true is u e = cc
is_comma before t false false is u e = cc

is_end : (before names : Names) (t : List ℕ) (v w : Bool) → bytes_eq t bracket_end ≡ w →
    (if v then goes (at.Variable, before) else if w then ends before else stops Unexpected) ≡ ends names → (t ≡ bracket_end) × (before ≡ names)
is_end before names t true w is e = cc
is_end before names t false true is e = (is_mark t bracket_end is, cc)
is_end before names t false false is e = cc

-- at a token it is done behind names alone
never_first : {X : Type 0} (u : RingState) (v : Bool) (names : Names) → (if v then goes u else stops Unexpected) ≡ ends names → X
never_first u true names e = cc
never_first u false names e = cc

never_name : {X : Type 0} (u : RingState) (v w : Bool) (names : Names) →
    (if v then (if w then stops RepeatedName else goes u) else stops Unexpected) ≡ ends names → X
never_name u true true names e = cc
never_name u true false names e = cc
never_name u false w names e = cc

-- ---- what is read is a ring's text

-- behind a name: more names, each new, and the bracket
record More (before names : Names) (ts : Names) : Type 0 where
  later : Names
  all : names ≡ before ++ later
  tokens : ts ≡ more_names later ++ bracket_end ∷ []
  new : AreNew before later

-- where a name is expected: one, and what follows it
record Named (before names : Names) (ts : Names) : Type 0 where
  name : List ℕ
  rest : Names
  tokens : ts ≡ name ∷ rest
  named : is_name name ≡ true
  new : has before name ≡ false
  more : More (before ++ name ∷ []) names rest

with_comma : (before names : Names) (t : List ℕ) (ts : Names) → t ≡ comma → Named before names ts → More before names (t ∷ ts)
with_comma before names t ts is n = record {
  later = n.name ∷ n.more.later;
  all = n.more.all ∙ append_assoc before (n.name ∷ []) n.more.later;
  tokens = ap (λ x. x ∷ ts) is ∙ ap (λ l. comma ∷ l) (n.tokens ∙ ap (λ l. n.name ∷ l) n.more.tokens);
  new = (n.named, n.new, n.more.new);
}

named_said : (t : List ℕ) (ts before names : Names) → ((u : Names) → after ring_step (at.Behind, u) ts ≡ done names → More u names ts) →
    after ring_step (at.Variable, before) (t ∷ ts) ≡ done names → Named before names (t ∷ ts)
named_said t ts before names later e = elim (first ring_step (at.Variable, before) t ts names e) [
  | inr d ↦ never_name (at.Behind, before ++ t ∷ []) (is_name t) (has before t) names d.0
  | inl g ↦
      let is = is_variable before t (is_name t) (has before t) refl refl g.0 g.1 in
      record { name = t; rest = ts; tokens = refl; named = is.0; new = is.1; more = later (before ++ t ∷ []) (ap (λ u. after ring_step u ts) (sym is.2) ∙ g.2) }
]

comma_said : (t : List ℕ) (before names ts : Names) → (after ring_step (at.Variable, before) ts ≡ done names → Named before names ts) →
    after ring_step (at.Behind, before) (t ∷ ts) ≡ done names → More before names (t ∷ ts)
comma_said t before names ts later e = elim (first ring_step (at.Behind, before) t ts names e) [
  | inr d ↦
      let is = is_end before names t (bytes_eq t comma) (bytes_eq t bracket_end) refl d.0 in
      record { later = []; all = sym is.1 ∙ sym (append-nil before); tokens = ap (λ x. x ∷ ts) is.0 ∙ ap (λ l. bracket_end ∷ l) d.1; new = tt }
  | inl g ↦
      let is = is_comma before t (bytes_eq t comma) (bytes_eq t bracket_end) refl g.0 g.1 in
      with_comma before names t ts is.0 (later (ap (λ u. after ring_step u ts) (sym is.1) ∙ g.2))
]

more_said : (ts before names : Names) → after ring_step (at.Behind, before) ts ≡ done names → More before names ts
more_said [] before names e = absurd (not_yet ring_step (at.Behind, before) names e)
more_said (t ∷ []) before names e = comma_said t before names [] (λ f. absurd (not_yet ring_step (at.Variable, before) names f)) e
more_said (t ∷ u ∷ ts) before names e = comma_said t before names (u ∷ ts) (λ f. named_said u ts before names (λ v. more_said ts v names) f) e

name_said : (ts before names : Names) → after ring_step (at.Variable, before) ts ≡ done names → Named before names ts
name_said [] before names e = absurd (not_yet ring_step (at.Variable, before) names e)
name_said (t ∷ ts) before names e = named_said t ts before names (λ u. more_said ts u names) e

bracket_said : (ts names : Names) → after ring_step (at.Bracket, []) ts ≡ done names → (rest : Names) × (ts ≡ bracket ∷ rest) × Named [] names rest
bracket_said [] names e = absurd (not_yet ring_step (at.Bracket, []) names e)
bracket_said (t ∷ ts) names e = elim (first ring_step (at.Bracket, []) t ts names e) [
  | inr d ↦ never_first (at.Variable, []) (bytes_eq t bracket) names d.0
  | inl g ↦
      let is = is_bracket [] t (bytes_eq t bracket) refl g.0 g.1 in
      (ts, ap (λ x. x ∷ ts) is.0, name_said ts [] names (ap (λ u. after ring_step u ts) (sym is.1) ∙ g.2))
]

ring_by : (names ts : Names) → (rest : Names) × (ts ≡ letter_q ∷ bracket ∷ rest) × Named [] names rest → IsRingText ts names
ring_by names ts (rest, is, n) =
    let whole : names ≡ n.name ∷ n.more.later = n.more.all in
    let said : IsRingText ts (n.name ∷ n.more.later) = record {
      tokens = is ∙ ap (λ l. letter_q ∷ bracket ∷ l) (n.tokens ∙ ap (λ l. n.name ∷ l) n.more.tokens);
      some = omega arith;
      different = (n.named, n.new, n.more.new);
    } in
    rw whole said

ring_said : (ts names : Names) → after ring_step (at.Letter, []) ts ≡ done names → IsRingText ts names
ring_said [] names e = absurd (not_yet ring_step (at.Letter, []) names e)
ring_said (t ∷ ts) names e = elim (first ring_step (at.Letter, []) t ts names e) [
  | inr d ↦ never_first (at.Bracket, []) (bytes_eq t letter_q) names d.0
  | inl g ↦
      let is = is_letter_q [] t (bytes_eq t letter_q) refl g.0 g.1 in
      let r = bracket_said ts names (ap (λ u. after ring_step u ts) (sym is.1) ∙ g.2) in
      ring_by names (t ∷ ts) (r.0, ap (λ x. x ∷ ts) is.0 ∙ ap (λ l. letter_q ∷ l) r.1, r.2)
]

-- ---- a ring's text is read

variable_go : (before : Names) (n : List ℕ) (ts : Names) → is_name n ≡ true → has before n ≡ false →
    after ring_step (at.Variable, before) (n ∷ ts) ≡ after ring_step (at.Behind, before ++ n ∷ []) ts
variable_go before n ts named new = after-go ring_step (at.Variable, before) (at.Behind, before ++ n ∷ []) n ts (rw (named, new) refl)

more_given : (ns before : Names) → AreNew before ns → after ring_step (at.Behind, before) (more_names ns ++ bracket_end ∷ []) ≡ done (before ++ ns)
more_given [] before new = after-done ring_step (at.Behind, before) before bracket_end refl ∙ ap (λ l. done l) (sym (append-nil before))
more_given (n ∷ ns) before new =
    after-go ring_step (at.Behind, before) (at.Variable, before) comma (n ∷ (more_names ns ++ bracket_end ∷ [])) refl
    ∙ variable_go before n (more_names ns ++ bracket_end ∷ []) new.0 new.1
    ∙ more_given ns (before ++ n ∷ []) new.2
    ∙ ap (λ l. done l) (append_assoc before (n ∷ []) ns)

ring_given_by : (names : Names) → 0 < length names → AreNew [] names → after ring_step (at.Letter, []) (ring_tokens names) ≡ done names
ring_given_by [] some new = absurd (omega arith)
ring_given_by (n ∷ ns) some new =
    let rest = more_names ns ++ bracket_end ∷ [] in
    after-go ring_step (at.Letter, []) (at.Bracket, []) letter_q (bracket ∷ n ∷ rest) refl
    ∙ after-go ring_step (at.Bracket, []) (at.Variable, []) bracket (n ∷ rest) refl
    ∙ variable_go [] n rest new.0 new.1
    ∙ more_given ns (n ∷ []) new.2

ring_given : (ts names : Names) → IsRingText ts names → after ring_step (at.Letter, []) ts ≡ done names
ring_given ts names h = ap (after ring_step (at.Letter, [])) h.tokens ∙ ring_given_by names h.some h.different

-- ---- from each state a ring is read to its end: a new name can always follow

lengths : Names → ℕ
lengths [] = 0
lengths (n ∷ ns) = length n + lengths ns

-- a name longer than all of these
pub long_name : Names → List ℕ
long_name names = 97 ∷ replicate (lengths names) 97

letters : (k : ℕ) → list_all is_name_byte (replicate k 97) ≡ true
letters zero = refl
letters (suc k) = letters k

pub long_is_name : (names : Names) → is_name (long_name names) ≡ true
unfolding long_name
long_is_name names = letters (lengths names)

longer_is_new : (names : Names) (n : List ℕ) → lengths names < length n → has names n ≡ false
unfolding lengths
longer_is_new [] n h = refl
longer_is_new (m ∷ ms) n h = by (bytes_eq m n) refl (longer_is_new ms n (omega arith))
  where
    by : (v : Bool) → bytes_eq m n ≡ v → has ms n ≡ false → (v || has ms n) ≡ false
    by true is later = let same = is_mark m n is in absurd (omega (arith, ap (λ (l : List ℕ). length l) same))
    by false is later = later

pub long_is_new : (names : Names) → has names (long_name names) ≡ false
unfolding long_name
long_is_new names = longer_is_new names (long_name names) (omega (arith, length-replicate {A = ℕ} (lengths names) 97))

-- where a name can't stand, this one can't
pub record LongStops (others names : Names) : Type 0 where
  pub letter : ring_step (at.Letter, names) (long_name others) ≡ stops Unexpected
  pub bracket : ring_step (at.Bracket, names) (long_name others) ≡ stops Unexpected
  pub behind : ring_step (at.Behind, names) (long_name others) ≡ stops Unexpected

pub long_stops : (others names : Names) → LongStops others names
unfolding long_name
long_stops others names = record { letter = refl; bracket = refl; behind = refl }

Live : RingState → Type 0
Live s = (ts : Names) × (names : Names) × (after ring_step s ts ≡ done names)

live-go : (s u : RingState) (t : List ℕ) → ring_step s t ≡ go u → Live u → Live s
unfolding Live
live-go s u t e l = (t ∷ l.0, l.1, after-go ring_step s u t l.0 e ∙ l.2)

live_behind : (names : Names) → Live (at.Behind, names)
unfolding Live
live_behind names = (bracket_end ∷ [], names, after-done ring_step (at.Behind, names) names bracket_end refl)

live_variable : (names : Names) → Live (at.Variable, names)
live_variable names =
    let n = long_name names in
    live-go (at.Variable, names) (at.Behind, names ++ n ∷ []) n (rw (long_is_name names, long_is_new names) refl) (live_behind (names ++ n ∷ []))

live_bracket : (names : Names) → Live (at.Bracket, names)
live_bracket names = live-go (at.Bracket, names) (at.Variable, names) bracket refl (live_variable names)

is_live : (s : RingState) → Live s
is_live (at.Letter, names) = live-go (at.Letter, names) (at.Bracket, names) letter_q refl (live_bracket names)
is_live (at.Bracket, names) = live_bracket names
is_live (at.Variable, names) = live_variable names
is_live (at.Behind, names) = live_behind names

-- ---- it halts at what can't stand there, and at a name that was there

abbrev pub IsRingHalt : Cause → Type 0
IsRingHalt Ended = ⊥
IsRingHalt Unexpected = Unit {0}
IsRingHalt RepeatedName = Unit {0}
IsRingHalt ZeroDenominator = ⊥
IsRingHalt TooWide = ⊥
IsRingHalt UnknownName = ⊥

halts_with : (here cause : Cause) → stops here ≡ stops cause → IsRingHalt here → IsRingHalt cause
halts_with here cause e h = let same : here ≡ cause = cc in subst IsRingHalt same h

pub ring_halts : (s : RingState) (t : List ℕ) (cause : Cause) → ring_step s t ≡ halt cause → IsRingHalt cause
ring_halts (at.Letter, names) t cause e = by (bytes_eq t letter_q) e
  where
    by : (v : Bool) → (if v then goes (at.Bracket, names) else stops Unexpected) ≡ stops cause → IsRingHalt cause
    by true e = cc
    by false e = halts_with Unexpected cause e tt
ring_halts (at.Bracket, names) t cause e = by (bytes_eq t bracket) e
  where
    by : (v : Bool) → (if v then goes (at.Variable, names) else stops Unexpected) ≡ stops cause → IsRingHalt cause
    by true e = cc
    by false e = halts_with Unexpected cause e tt
ring_halts (at.Variable, names) t cause e = by (is_name t) (has names t) e
  where
    by : (v w : Bool) → (if v then (if w then stops RepeatedName else goes (at.Behind, names ++ t ∷ [])) else stops Unexpected) ≡ stops cause → IsRingHalt cause
    by true true e = halts_with RepeatedName cause e tt
    by true false e = cc
    by false w e = halts_with Unexpected cause e tt
ring_halts (at.Behind, names) t cause e = by (bytes_eq t comma) (bytes_eq t bracket_end) e
  where
    by : (v w : Bool) → (if v then goes (at.Variable, names) else if w then ends names else stops Unexpected) ≡ stops cause → IsRingHalt cause
    by true w e = cc
    by false true e = cc
    by false false e = halts_with Unexpected cause e tt

-- ---- what is read is what the grammar says

-- the machine reads exactly the grammar
pub ring_machine : IsMachineOf ring_step (at.Letter, []) IsRingText
unfolding Live
ring_machine = record {
  said = ring_said;
  given = ring_given;
  live = is_live;
  tells = λ s t e. ring_halts s t Ended e;
}

pub ring_reads : (source : List ℕ) (from : ℕ) (names : Names) (place : ℕ) → ring_at source from ≡ Ok (names, place) →
    Reads IsRingText (lexemes word_more source from) names place
ring_reads source from names place e = reads ring_step IsRingText (at.Letter, []) (length source) (lexemes word_more source from) names place
    (λ ts. ring_said ts names) e

pub ring_read : (source : List ℕ) (from : ℕ) (names : Names) (place : ℕ) → ring_at source from ≡ Ok (names, place) → length names ≤ MOST_VARIABLES →
    IsRingRead (record { source = source; at = from }) place names
ring_read source from names place e few =
    let r = ring_reads source from names place e in
    record { text = r; ring = record { some = r.text.some; few = few; different = r.text.different } }

pub one_ring : HasOneMeaning IsRingText
one_ring = one_meaning ring_step IsRingText (at.Letter, []) ring_given

-- ---- a printed ring is read again

-- behind a name no name goes on
name_stops : (ns : Names) (text : List ℕ) → goes_on (flat_map (λ m. 44 ∷ m) ns ++ 93 ∷ text) ≡ false
name_stops [] text = refl
name_stops (n ∷ ns) text = refl

names_spelled : (before ns : Names) (text : List ℕ) → AreNew before ns → IsSpelled word_more (flat_map (λ m. 44 ∷ m) ns) (93 ∷ text) (more_names ns)
names_spelled before [] text new = spelled-none word_more (93 ∷ text)
names_spelled before (n ∷ ns) text new =
    let more = flat_map (λ m. 44 ∷ m) ns in
    let rest = more ++ 93 ∷ text in
    let name : IsSpelled word_more n rest (n ∷ []) = spelled-token word_more n rest (word_token n rest new.0 (name_stops ns text)) in
    let later = names_spelled (before ++ n ∷ []) ns text new.2 in
    let names : IsSpelled word_more (n ++ more) (93 ∷ text) (n ∷ more_names ns) = spelled-++ word_more n more (93 ∷ text) (n ∷ []) (more_names ns) name later in
    let mark = spelled-token word_more comma ((n ++ more) ++ 93 ∷ text) (mark_token 44 ((n ++ more) ++ 93 ∷ text) refl refl) in
    spelled-++ word_more comma (n ++ more) (93 ∷ text) (comma ∷ []) (n ∷ more_names ns) mark names

-- a ring that is read is the only one, and isn't refused
read_as : (old : Position) (place : ℕ) (names : Names) → IsRingRead old place names → IsReadAsRing old place names
read_as old place names a = record { read = a; only = only; taken = taken }
  where
    xs : List Lexeme
    xs = lexemes word_more old.source old.at

    only : (end : ℕ) (ns : Names) → IsRingRead old end ns → (end ≡ place) × (ns ≡ names)
    only end ns b = let same = one_ring xs ns names end place b.text a.text in (same.1, same.0)

    not_many : (count : ℕ) → HasTooMany old count → ⊥
    not_many count h = let same = one_ring xs names h.names place h.place a.text h.text in omega (
      arith,
      ap (λ (l : Names). length l) same.0,
      a.ring.few,
      h.number,
      h.many,
    )

    taken : (e : TextError) → IsRingCause old e → e ≡ errors.Memory
    taken (errors.Overflow o) h = absurd h
    taken (errors.Exponent o) h = absurd h
    taken (errors.Syntax s) h = absurd (h.none names place a.text)
    taken (errors.TooWide at) h = absurd h
    taken (errors.UnknownName at) h = absurd h
    taken (errors.TooManyVariables count) h = absurd (not_many count h)
    taken (errors.ZeroPolynomial set index) h = absurd h
    taken errors.Memory h = refl

pub rings_again : RingsAreReadAgain
rings_again [] before text ring = absurd (omega (arith, ring.some))
rings_again (n ∷ ns) before text ring =
    let more = flat_map (λ m. 44 ∷ m) ns in
    let end = 93 ∷ text in
    let name : IsSpelled word_more n (more ++ end) (n ∷ []) =
    spelled-token word_more n (more ++ end) (word_token n (more ++ end) ring.different.0 (name_stops ns text)) in
    let later = names_spelled (n ∷ []) ns text ring.different.2 in
    let names : IsSpelled word_more (n ++ more) end (n ∷ more_names ns) = spelled-++ word_more n more end (n ∷ []) (more_names ns) name later in
    let opened : IsSpelled word_more (91 ∷ (n ++ more)) end (bracket ∷ n ∷ more_names ns) =
    spelled-++ word_more bracket (n ++ more) end (bracket ∷ []) (n ∷ more_names ns)
    (spelled-token word_more bracket ((n ++ more) ++ end) (mark_token 91 ((n ++ more) ++ end) refl refl)) names in
    let whole : IsSpelled word_more (81 ∷ 91 ∷ (n ++ more)) end (letter_q ∷ bracket ∷ n ∷ more_names ns) =
    spelled-++ word_more letter_q (91 ∷ (n ++ more)) end (letter_q ∷ []) (bracket ∷ n ∷ more_names ns)
    (spelled-token word_more letter_q (91 ∷ ((n ++ more) ++ end)) (mark_token 81 (91 ∷ ((n ++ more) ++ end)) refl refl)) opened in
    let said : IsRingText ((letter_q ∷ bracket ∷ n ∷ more_names ns) ++ bracket_end ∷ []) (n ∷ ns) = record {
      tokens = refl;
      some = ring.some;
      different = ring.different;
    } in
    read_as (record { source = before ++ (ring_words (n ∷ ns) ++ text); at = length before }) (length before + length (ring_words (n ∷ ns))) (n ∷ ns) (record {
      text = spelled-read word_more IsRingText (n ∷ ns) before (81 ∷ 91 ∷ (n ++ more)) bracket_end text (letter_q ∷ bracket ∷ n ∷ more_names ns) whole
          (mark_token 93 text refl refl) said;
      ring = ring;
    })
