-- The machine of vectors reads exactly what the grammar of vectors says.
-- To cite: vector_machine, vector_read, vector_within, within_in_range, one_vector; takes_number, Reason, reason, one_goes, number_stops, word_stops,
-- number_wide, number_taken. The rest are steps.
use Rattle.std.proofs.Common.{◌≡◌, ◌<◌, ℕ, zero, suc, Bool, true, false, nat_le, List, [], ◌∷◌, ◌++◌, length, Ok, refl, sym, ap, subst, ◌∙◌, ◌⊎◌, inl, inr}
use Rattle.std.proofs.Common.{append_assoc, append-nil, bytes_eq, arith, if◌then◌else◌, ℤ, unsigned_abs, All}
use Rattle.std.proofs.lemmas.List.Elements.{All-from_recursion}
use Rattle.std.specs.List.{AllByRecursion}
use Rattle.gf_int_theory.specs.Range.{InRange}
use Rattle.gf_text.specs.declared.error.Cause.{Cause}
use Rattle.gf_text.specs.declared.error.Cause.TheVariants.{Ended, Unexpected, RepeatedName, ZeroDenominator, TooWide, UnknownName}
use Rattle.gf_text.specs.declared.vector_reader.VectorPlace.{VectorPlace}
use Rattle.gf_text.specs.declared.vector_reader.VectorPlace.TheVariants as at
use Rattle.gf_text.specs.Machine.{go, done, halt, after, HasOneMeaning}
use Rattle.gf_text.specs.Tokens.{is_number, decimal_value, lexemes, word_more}
use Rattle.gf_text.specs.SetText.{is_word}
use Rattle.gf_text.specs.VectorText.{most_entry, signed_entry, IsSizeText, IsEntryText, AreMoreEntries, IsVectorText, IsEntryWithin, VectorState, VectorMove}
use Rattle.gf_text.specs.VectorText.{size_step, entry_step, vector_step, vector_at}
use Rattle.gf_text.specs.Marks.{parenthesis, parenthesis_end, comma, minus_mark}
use Rattle.gf_text.specs.Vectors.{IsVectorRead, AreEntriesWithin}
use Rattle.gf_text.proofs.MachineLaws.{after-go, after-done, not_yet, reads, one_meaning, IsMachineOf, Then, From, move, chosen, halted, ended}
use Rattle.gf_text.proofs.KindsLaws.{one}
use Rattle.gf_text.proofs.SetTokensLaws.{word_no_mark, word_no_number, number_no_mark, number_within, is_mark, le_from, not_le, le_false}

abbrev Texts : Type 0
Texts = List (List ℕ)

abbrev Entries : Type 0
Entries = List ℤ

abbrev goes : VectorState → VectorMove
goes s = go s

abbrev stops : Cause → VectorMove
stops cause = halt cause

abbrev ends : Entries → VectorMove
ends zs = done zs

-- ---- what is read from each place on

-- behind an entry: more entries, the parenthesis
record More (before : Entries) (ts : Texts) (all : Entries) : Type 0 where
  entries : Texts
  later : Entries
  tokens : ts ≡ entries ++ parenthesis_end ∷ []
  are_entries : AreMoreEntries entries later
  whole : all ≡ before ++ later

-- where a number is expected, with this sign before it
record Sized (m : Bool) (before : Entries) (ts : Texts) (all : Entries) : Type 0 where
  t : List ℕ
  rest : Texts
  tokens : ts ≡ t ∷ rest
  size : IsSizeText t (decimal_value t)
  more : More (before ++ signed_entry m (decimal_value t) ∷ []) rest all

-- where an entry is expected: one, and what follows it
record Entered (before : Entries) (ts : Texts) (all : Entries) : Type 0 where
  first : Texts
  z : ℤ
  rest : Texts
  tokens : ts ≡ first ++ rest
  is_entry : IsEntryText first z
  more : More (before ++ z ∷ []) rest all

-- behind the first parenthesis: the other one, or an entry
abbrev First : Entries → Texts → Entries → Type 0
First before ts all = ((ts ≡ parenthesis_end ∷ []) × (all ≡ before)) ⊎ Entered before ts all

-- an entry without a sign, and one with it
bare : (before : Entries) (ts : Texts) (all : Entries) → Sized false before ts all → Entered before ts all
bare before ts all s = record {
  first = s.t ∷ [];
  z = signed_entry false (decimal_value s.t);
  rest = s.rest;
  tokens = s.tokens;
  is_entry = (s.t, decimal_value s.t, s.size, inl (refl, refl));
  more = s.more;
}

negative : (before : Entries) (t : List ℕ) (ts : Texts) (all : Entries) → t ≡ minus_mark → Sized true before ts all → Entered before (t ∷ ts) all
negative before t ts all is s = record {
  first = minus_mark ∷ s.t ∷ [];
  z = signed_entry true (decimal_value s.t);
  rest = s.rest;
  tokens = ap (λ x. x ∷ ts) is ∙ ap (λ l. minus_mark ∷ l) s.tokens;
  is_entry = (s.t, decimal_value s.t, s.size, inr (refl, refl));
  more = s.more;
}

one_more : (before : Entries) (t : List ℕ) (ts : Texts) (all : Entries) → t ≡ comma → Entered before ts all → More before (t ∷ ts) all
one_more before t ts all is n = record {
  entries = comma ∷ (n.first ++ n.more.entries);
  later = n.z ∷ n.more.later;
  tokens = ap (λ x. x ∷ ts) is ∙ ap (λ l. comma ∷ l) (n.tokens ∙ ap (λ l. n.first ++ l) n.more.tokens ∙
      sym (append_assoc n.first n.more.entries (parenthesis_end ∷ [])));
  are_entries = (n.first, n.more.entries, refl, n.is_entry, n.more.are_entries);
  whole = n.more.whole ∙ append_assoc before (n.z ∷ []) n.more.later;
}

at_end : (before : Entries) (t : List ℕ) (ts : Texts) (all : Entries) → t ≡ parenthesis_end → ts ≡ [] → all ≡ before → More before (t ∷ ts) all
at_end before t ts all is none e = record {
  entries = [];
  later = [];
  tokens = ap (λ x. x ∷ ts) is ∙ ap (λ l. parenthesis_end ∷ l) none;
  are_entries = refl;
  whole = e ∙ sym (append-nil before);
}

-- ---- what is read, token by token

Said : VectorPlace → Entries → Texts → Entries → Type 0
Said at.Parenthesis before ts all = (rest : Texts) × (ts ≡ parenthesis ∷ rest) × First before rest all
Said at.First before ts all = First before ts all
Said at.Entry before ts all = Entered before ts all
Said at.Negative before ts all = Sized true before ts all
Said at.Behind before ts all = More before ts all

-- what follows a token
Later : Texts → Type 0
Later ts = (place : VectorPlace) (before all : Entries) → From vector_step (place, before) ts all → Said place before ts all

module _ (t : List ℕ) (ts : Texts) (later : Later ts) where
  size_on : (m : Bool) (before all : Entries) → Then vector_step (size_step m before t) ts all → Sized m before (t ∷ ts) all
  unfolding Said Later
  size_on m before all e = elim (chosen vector_step (is_number t) (if nat_le (decimal_value t) most_entry then goes (
    at.Behind,
    before ++ signed_entry m (decimal_value t) ∷ [],
  ) else stops TooWide) (stops Unexpected) ts all e) [
    | inr h ↦ halted vector_step Unexpected ts all h.1
    | inl h ↦ elim (chosen vector_step (nat_le (decimal_value t) most_entry) (goes (at.Behind, before ++ signed_entry m (decimal_value t) ∷ [])) (stops TooWide)
        ts all h.1) [
          | inr k ↦ halted vector_step TooWide ts all k.1
          | inl k ↦ record {
            t = t;
            rest = ts;
            tokens = refl;
            size = (h.0, refl, le_from (decimal_value t) most_entry k.0);
            more = later at.Behind (before ++ signed_entry m (decimal_value t) ∷ []) all k.1;
          }
        ]
  ]

  entry_on : (before all : Entries) → Then vector_step (entry_step before t) ts all → Entered before (t ∷ ts) all
  unfolding Said Later
  entry_on before all e = elim (chosen vector_step (bytes_eq t minus_mark) (goes (at.Negative, before)) (size_step false before t) ts all e) [
    | inl h ↦ negative before t ts all (is_mark t minus_mark h.0) (later at.Negative before all h.1)
    | inr h ↦ bare before (t ∷ ts) all (size_on false before all h.1)
  ]

  on_token : (place : VectorPlace) (before all : Entries) → Then vector_step (vector_step (place, before) t) ts all → Said place before (t ∷ ts) all
  unfolding Said Later
  on_token at.Parenthesis before all e = elim (chosen vector_step (bytes_eq t parenthesis) (goes (at.First, before)) (stops Unexpected) ts all e) [
    | inl h ↦ (ts, ap (λ x. x ∷ ts) (is_mark t parenthesis h.0), later at.First before all h.1)
    | inr h ↦ halted vector_step Unexpected ts all h.1
  ]
  on_token at.First before all e = elim (chosen vector_step (bytes_eq t parenthesis_end) (ends before) (entry_step before t) ts all e) [
    | inl h ↦ (let end = ended vector_step before ts all h.1 in inl (
      ap (λ x. x ∷ ts) (is_mark t parenthesis_end h.0) ∙ ap (λ l. parenthesis_end ∷ l) end.0,
      end.1,
    ))
    | inr h ↦ inr (entry_on before all h.1)
  ]
  on_token at.Entry before all e = entry_on before all e
  on_token at.Negative before all e = size_on true before all e
  on_token at.Behind before all e =
      elim (chosen vector_step (bytes_eq t comma) (goes (at.Entry, before)) (if bytes_eq t parenthesis_end then ends before else stops Unexpected) ts all e) [
        | inl h ↦ one_more before t ts all (is_mark t comma h.0) (later at.Entry before all h.1)
        | inr h ↦ elim (chosen vector_step (bytes_eq t parenthesis_end) (ends before) (stops Unexpected) ts all h.1) [
          | inl k ↦ (let end = ended vector_step before ts all k.1 in at_end before t ts all (is_mark t parenthesis_end k.0) end.0 end.1)
          | inr k ↦ halted vector_step Unexpected ts all k.1
        ]
      ]

said : (ts : Texts) → Later ts
unfolding Later
said [] place before all e = absurd (not_yet vector_step (place, before) all e)
said (t ∷ ts) place before all e = on_token t ts (λ q b a f. said ts q b a f) place before all (move vector_step (place, before) t ts all e)

vector_by : (ts rest : Texts) (all : Entries) → ts ≡ parenthesis ∷ rest → First [] rest all → IsVectorText ts all
vector_by ts rest all is (inl h) = subst (λ (zs : Entries). IsVectorText ts zs) (sym h.1) (is ∙ ap (λ l. parenthesis ∷ l) h.0)
vector_by ts rest all is (inr n) = subst (λ (zs : Entries). IsVectorText ts zs) (sym n.more.whole) (
  n.first,
  n.more.entries,
  is ∙ ap (λ l. parenthesis ∷ l) (n.tokens ∙ ap (λ l. n.first ++ l) n.more.tokens),
  n.is_entry,
  n.more.are_entries,
)

vector_said : (ts : Texts) (all : Entries) → From vector_step (at.Parenthesis, []) ts all → IsVectorText ts all
unfolding Said Later
vector_said ts all e = let s = said ts at.Parenthesis [] all e in vector_by ts s.0 all s.1 s.2

-- ---- a vector's text is read

-- a state where an entry may begin
record Begins (s : VectorState) (before : Entries) : Type 0 where
  number_on : (t : List ℕ) → is_number t ≡ true → vector_step s t ≡ size_step false before t
  minus_on : vector_step s minus_mark ≡ goes (at.Negative, before)

first_begins : (before : Entries) → Begins (at.First, before) before
first_begins before = record { number_on = λ t digits. rw (number_no_mark t 41 digits refl, number_no_mark t 45 digits refl) refl; minus_on = refl }

entry_begins : (before : Entries) → Begins (at.Entry, before) before
entry_begins before = record { number_on = λ t digits. rw (number_no_mark t 45 digits refl) refl; minus_on = refl }

size_goes : (m : Bool) (before : Entries) (t : List ℕ) (n : ℕ) → IsSizeText t n → size_step m before t ≡ goes (at.Behind, before ++ signed_entry m n ∷ [])
size_goes m before t n h =
    let digits = h.0 in
    let within = number_within t n most_entry h in
    let here : size_step m before t ≡ goes (at.Behind, before ++ signed_entry m (decimal_value t) ∷ []) = rw (digits, within) refl in
    here ∙ ap (λ k. goes (at.Behind, before ++ signed_entry m k ∷ [])) h.1

entry_read : (z : ℤ) (first : Texts) → IsEntryText first z → (s : VectorState) (before : Entries) → Begins s before → (rest : Texts)
    → after vector_step s (first ++ rest) ≡ after vector_step (at.Behind, before ++ z ∷ []) rest
entry_read z first (t, n, size, inl (is, e)) s before begins rest =
    ap (λ l. after vector_step s (l ++ rest)) is
    ∙ after-go vector_step s (at.Behind, before ++ signed_entry false n ∷ []) t rest (begins.number_on t size.0 ∙ size_goes false before t n size)
    ∙ ap (λ k. after vector_step (at.Behind, before ++ k ∷ []) rest) (sym e)
entry_read z first (t, n, size, inr (is, e)) s before begins rest =
    ap (λ l. after vector_step s (l ++ rest)) is
    ∙ after-go vector_step s (at.Negative, before) minus_mark (t ∷ rest) begins.minus_on
    ∙ after-go vector_step (at.Negative, before) (at.Behind, before ++ signed_entry true n ∷ []) t rest (size_goes true before t n size)
    ∙ ap (λ k. after vector_step (at.Behind, before ++ k ∷ []) rest) (sym e)

more_given : (zs : Entries) (ts : Texts) → AreMoreEntries ts zs → (before : Entries) →
    From vector_step (at.Behind, before) (ts ++ parenthesis_end ∷ []) (before ++ zs)
more_given [] ts is before =
    ap (λ l. after vector_step (at.Behind, before) (l ++ parenthesis_end ∷ [])) is
    ∙ after-done vector_step (at.Behind, before) before parenthesis_end refl
    ∙ ap ends (sym (append-nil before))
more_given (z ∷ zs) ts (first, rest, is, entry, more) before =
    let end = parenthesis_end ∷ [] in
    ap (λ l. after vector_step (at.Behind, before) (l ++ end)) is
    ∙ after-go vector_step (at.Behind, before) (at.Entry, before) comma ((first ++ rest) ++ end) refl
    ∙ ap (after vector_step (at.Entry, before)) (append_assoc first rest end)
    ∙ entry_read z first entry (at.Entry, before) before (entry_begins before) (rest ++ end)
    ∙ more_given zs rest more (before ++ z ∷ [])
    ∙ ap ends (append_assoc before (z ∷ []) zs)

vector_given : (ts : Texts) (zs : Entries) → IsVectorText ts zs → From vector_step (at.Parenthesis, []) ts zs
vector_given ts [] is =
    ap (after vector_step (at.Parenthesis, [])) is
    ∙ after-go vector_step (at.Parenthesis, []) (at.First, []) parenthesis (parenthesis_end ∷ []) refl
    ∙ after-done vector_step (at.First, []) [] parenthesis_end refl
vector_given ts (z ∷ zs) (first, rest, is, entry, more) =
    let end = parenthesis_end ∷ [] in
    ap (after vector_step (at.Parenthesis, [])) is
    ∙ after-go vector_step (at.Parenthesis, []) (at.First, []) parenthesis (first ++ (rest ++ end)) refl
    ∙ entry_read z first entry (at.First, []) [] (first_begins []) (rest ++ end)
    ∙ more_given zs rest more (z ∷ [])

-- ---- from each state some tokens lead to a vector

abbrev Live : VectorState → Type 0
Live s = (ts : Texts) × (zs : Entries) × From vector_step s ts zs

by_token : (s u : VectorState) (t : List ℕ) → vector_step s t ≡ goes u → Live u → Live s
by_token s u t on l = (t ∷ l.0, l.1, after-go vector_step s u t l.0 on ∙ l.2)

behind_live : (zs : Entries) → Live (at.Behind, zs)
behind_live zs = (parenthesis_end ∷ [], zs, after-done vector_step (at.Behind, zs) zs parenthesis_end refl)

first_live : (zs : Entries) → Live (at.First, zs)
first_live zs = (parenthesis_end ∷ [], zs, after-done vector_step (at.First, zs) zs parenthesis_end refl)

is_live : (s : VectorState) → Live s
is_live (at.Parenthesis, zs) = by_token (at.Parenthesis, zs) (at.First, zs) parenthesis refl (first_live zs)
is_live (at.First, zs) = first_live zs
is_live (at.Entry, zs) = by_token (at.Entry, zs) (at.Behind, zs ++ signed_entry false 1 ∷ []) one refl (behind_live (zs ++ signed_entry false 1 ∷ []))
is_live (at.Negative, zs) = by_token (at.Negative, zs) (at.Behind, zs ++ signed_entry true 1 ∷ []) one refl (behind_live (zs ++ signed_entry true 1 ∷ []))
is_live (at.Behind, zs) = behind_live zs

-- ---- why the machine can't take a token

-- a number may stand here
abbrev pub takes_number : VectorPlace → Bool
takes_number at.Parenthesis = false
takes_number at.First = true
takes_number at.Entry = true
takes_number at.Negative = true
takes_number at.Behind = false

-- what a cause says of the token and the place
abbrev pub Reason : VectorPlace → List ℕ → Cause → Type 0
Reason place t Ended = ⊥
Reason place t Unexpected = Unit {0}
Reason place t RepeatedName = ⊥
Reason place t ZeroDenominator = ⊥
Reason place t TooWide = (takes_number place ≡ true) × (is_number t ≡ true) × (most_entry < decimal_value t)
Reason place t UnknownName = ⊥

-- where the move can't take the token, its cause says so
abbrev Says : VectorPlace → List ℕ → VectorMove → Type 0
Says place t m = (cause : Cause) → m ≡ halt cause → Reason place t cause

says_go : (place : VectorPlace) (t : List ℕ) (u : VectorState) → Says place t (go u)
says_go place t u cause e = cc

says_done : (place : VectorPlace) (t : List ℕ) (zs : Entries) → Says place t (done zs)
says_done place t zs cause e = cc

says : (place : VectorPlace) (t : List ℕ) (cause : Cause) → Reason place t cause → Says place t (halt cause)
says place t cause r other e = let same : cause ≡ other = cc in subst (Reason place t) same r

either : (place : VectorPlace) (t : List ℕ) (b : Bool) (x y : VectorMove) → (b ≡ true → Says place t x) → (b ≡ false → Says place t y) →
    Says place t (if b then x else y)
either place t true x y h k = h refl
either place t false x y h k = k refl

size_says : (place : VectorPlace) (m : Bool) (zs : Entries) (t : List ℕ) → takes_number place ≡ true → Says place t (size_step m zs t)
size_says place m zs t takes =
    let u : VectorState = (at.Behind, zs ++ signed_entry m (decimal_value t) ∷ []) in
    either place t (is_number t) (if nat_le (decimal_value t) most_entry then goes u else stops TooWide) (stops Unexpected)
    (λ digits. either place t (nat_le (decimal_value t) most_entry) (goes u) (stops TooWide) (λ small. says_go place t u)
    (λ wide. says place t TooWide (takes, digits, not_le (decimal_value t) most_entry wide)))
    (λ no. says place t Unexpected tt)

entry_says : (place : VectorPlace) (zs : Entries) (t : List ℕ) → takes_number place ≡ true → Says place t (entry_step zs t)
entry_says place zs t takes = either place t (bytes_eq t minus_mark) (goes (at.Negative, zs)) (size_step false zs t)
    (λ h. says_go place t (at.Negative, zs)) (λ h. size_says place false zs t takes)

token_says : (place : VectorPlace) (zs : Entries) (t : List ℕ) → Says place t (vector_step (place, zs) t)
token_says at.Parenthesis zs t = either at.Parenthesis t (bytes_eq t parenthesis) (goes (at.First, zs)) (stops Unexpected)
    (λ h. says_go at.Parenthesis t (at.First, zs)) (λ h. says at.Parenthesis t Unexpected tt)
token_says at.First zs t = either at.First t (bytes_eq t parenthesis_end) (ends zs) (entry_step zs t) (λ h. says_done at.First t zs)
    (λ h. entry_says at.First zs t refl)
token_says at.Entry zs t = entry_says at.Entry zs t refl
token_says at.Negative zs t = size_says at.Negative true zs t refl
token_says at.Behind zs t = either at.Behind t (bytes_eq t comma) (goes (at.Entry, zs)) (if bytes_eq t parenthesis_end then ends zs else stops Unexpected)
    (λ h. says_go at.Behind t (at.Entry, zs))
    (λ h. either at.Behind t (bytes_eq t parenthesis_end) (ends zs) (stops Unexpected) (λ k. says_done at.Behind t zs) (λ k. says at.Behind t Unexpected tt))

pub reason : (place : VectorPlace) (zs : Entries) (t : List ℕ) (cause : Cause) → vector_step (place, zs) t ≡ halt cause → Reason place t cause
reason place zs t cause e = token_says place zs t cause e

-- the number 1 is taken where a number may stand
pub one_goes : (place : VectorPlace) → takes_number place ≡ true → (zs : Entries) → (u : VectorState) × (vector_step (place, zs) one ≡ go u)
one_goes at.Parenthesis h zs = cc
one_goes at.First h zs = ((at.Behind, zs ++ signed_entry false 1 ∷ []), refl)
one_goes at.Entry h zs = ((at.Behind, zs ++ signed_entry false 1 ∷ []), refl)
one_goes at.Negative h zs = ((at.Behind, zs ++ signed_entry true 1 ∷ []), refl)
one_goes at.Behind h zs = cc

-- a number is unexpected where none may stand
pub number_stops : (place : VectorPlace) → takes_number place ≡ false → (zs : Entries) (t : List ℕ) → is_number t ≡ true →
    vector_step (place, zs) t ≡ halt Unexpected
number_stops at.Parenthesis h zs t digits = rw (number_no_mark t 40 digits refl) refl
number_stops at.First h zs t digits = cc
number_stops at.Entry h zs t digits = cc
number_stops at.Negative h zs t digits = cc
number_stops at.Behind h zs t digits = rw (number_no_mark t 44 digits refl, number_no_mark t 41 digits refl) refl

-- a letter is unexpected
pub word_stops : (place : VectorPlace) (zs : Entries) (t : List ℕ) → is_word t ≡ true → vector_step (place, zs) t ≡ halt Unexpected
word_stops at.Parenthesis zs t word = rw (word_no_mark t 40 word refl) refl
word_stops at.First zs t word = rw (word_no_mark t 41 word refl, word_no_mark t 45 word refl, word_no_number t word) refl
word_stops at.Entry zs t word = rw (word_no_mark t 45 word refl, word_no_number t word) refl
word_stops at.Negative zs t word = rw (word_no_number t word) refl
word_stops at.Behind zs t word = rw (word_no_mark t 44 word refl, word_no_mark t 41 word refl) refl

-- where a number may stand it does what a size does
sized : (place : VectorPlace) → takes_number place ≡ true → (zs : Entries) (t : List ℕ) → is_number t ≡ true →
    (m : Bool) × (vector_step (place, zs) t ≡ size_step m zs t)
sized at.Parenthesis h zs t digits = cc
sized at.First h zs t digits = (false, rw (number_no_mark t 41 digits refl, number_no_mark t 45 digits refl) refl)
sized at.Entry h zs t digits = (false, rw (number_no_mark t 45 digits refl) refl)
sized at.Negative h zs t digits = (true, refl)
sized at.Behind h zs t digits = cc

-- past the limit it is too wide
pub number_wide : (place : VectorPlace) → takes_number place ≡ true → (zs : Entries) (t : List ℕ) → is_number t ≡ true → most_entry < decimal_value t →
    vector_step (place, zs) t ≡ halt TooWide
number_wide place h zs t digits above =
    let s = sized place h zs t digits in
    let wide = le_false (decimal_value t) most_entry above in
    let here : size_step s.0 zs t ≡ stops TooWide = rw (digits, wide) refl in
    s.1 ∙ here

-- and it is never unexpected
pub number_taken : (place : VectorPlace) → takes_number place ≡ true → (zs : Entries) (t : List ℕ) → is_number t ≡ true →
    vector_step (place, zs) t ≡ halt Unexpected → ⊥
number_taken place h zs t digits e =
    let s = sized place h zs t digits in
    let here : (if nat_le (decimal_value t) most_entry then goes (at.Behind, zs ++ signed_entry s.0 (decimal_value t) ∷ []) else stops TooWide) ≡
    stops Unexpected = rw digits at (sym s.1 ∙ e) in
    expected (nat_le (decimal_value t) most_entry) (at.Behind, zs ++ signed_entry s.0 (decimal_value t) ∷ []) here
  where
    expected : (b : Bool) (u : VectorState) → (if b then goes u else stops TooWide) ≡ stops Unexpected → ⊥
    expected true u e = cc
    expected false u e = cc

-- ---- what is read is what the grammar says

-- the machine reads exactly the grammar
pub vector_machine : IsMachineOf vector_step (at.Parenthesis, []) IsVectorText
vector_machine = record {
  said = vector_said;
  given = vector_given;
  live = is_live;
  tells = λ s t e. reason s.0 s.1 t Ended e;
}

pub vector_read : (source : List ℕ) (from : ℕ) (zs : Entries) (place : ℕ) → vector_at source from ≡ Ok (zs, place) →
    IsVectorRead (record { source = source; at = from }) place zs
vector_read source from zs place e = reads vector_step IsVectorText (at.Parenthesis, []) (length source) (lexemes word_more source from) zs place
    (λ ts. vector_said ts zs) e

pub one_vector : HasOneMeaning IsVectorText
one_vector = one_meaning vector_step IsVectorText (at.Parenthesis, []) vector_given

-- ---- the entries are within their limit

size_is : (m : Bool) (n : ℕ) → unsigned_abs (signed_entry m n) ≡ n
size_is false n = refl
size_is true zero = refl
size_is true (suc n) = refl

entry_within : (ts : Texts) (z : ℤ) → IsEntryText ts z → IsEntryWithin z
entry_within ts z (t, n, size, inl (is, e)) = let same = ap unsigned_abs e ∙ size_is false n in let h = size.2 in omega arith
entry_within ts z (t, n, size, inr (is, e)) = let same = ap unsigned_abs e ∙ size_is true n in let h = size.2 in omega arith

more_within : (ts : Texts) (zs : Entries) → AreMoreEntries ts zs → AllByRecursion IsEntryWithin zs
more_within ts [] h = tt
more_within ts (z ∷ zs) (first, rest, is, entry, more) = (entry_within first z entry, more_within rest zs more)

all_within : (ts : Texts) (zs : Entries) → IsVectorText ts zs → AllByRecursion IsEntryWithin zs
all_within ts [] h = tt
all_within ts (z ∷ zs) (first, rest, is, entry, more) = (entry_within first z entry, more_within rest zs more)

pub vector_within : (ts : Texts) (zs : Entries) → IsVectorText ts zs → AreEntriesWithin zs
vector_within ts zs h = All-from_recursion IsEntryWithin zs (all_within ts zs h)

-- and in the range of a vector's entries
pub within_in_range : (zs : Entries) → AreEntriesWithin zs → All InRange zs
within_in_range zs h = λ k d below. record { within = let small = h k d below in omega arith }
