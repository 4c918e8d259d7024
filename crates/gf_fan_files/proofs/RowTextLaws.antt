-- The machine of rows reads exactly what the grammar of rows says.
-- To cite: row_machine, number_some, number_on. The rest are steps.
use Rattle.std.proofs.Common.{◌≡◌, ℕ, Bool, true, false, nat_le, List, [], ◌∷◌, ◌++◌, refl, sym, ap, subst, ◌∙◌, ◌⊎◌, inl, inr, append_assoc, append-nil}
use Rattle.std.proofs.Common.{bytes_eq, arith, if◌then◌else◌, ℤ}
use Rattle.gf_text.specs.declared.error.Cause.{Cause}
use Rattle.gf_text.specs.declared.error.Cause.TheVariants.{Ended, Unexpected, TooWide}
use Rattle.gf_text.specs.Machine.{go, done, halt, after, followed}
use Rattle.gf_text.specs.Tokens.{is_number, decimal_value}
use Rattle.gf_text.specs.VectorText.{signed_entry}
use Rattle.gf_text.proofs.MachineLaws.{after-go, after-done, not_yet, IsMachineOf}
use Rattle.gf_text.proofs.SetTokensLaws.{number_no_mark, is_mark, le_from, le_test}
use Rattle.gf_text.specs.Marks.{minus_mark}
use Rattle.gf_text.specs.SetText.{IsNumberText}
use Rattle.gf_fan_files.specs.Lines.{line_end, section_end}
use Rattle.gf_fan_files.specs.RowText.{most_row_entry, IsRowEntryText, AreRowEntryTexts, IsRowText, AreRowTexts, RowState, RowMove, row_state, row_size_step}
use Rattle.gf_fan_files.specs.RowText.{row_entry_step, row_step_at, row_step, row_start}

abbrev Texts : Type 0
Texts = List (List ℕ)

abbrev Entries : Type 0
Entries = List ℤ

abbrev Rows : Type 0
Rows = List (List ℤ)

abbrev goes : RowState → RowMove
goes s = go s

abbrev stops : Cause → RowMove
stops cause = halt cause

abbrev ends : Rows → RowMove
ends rs = done rs

-- ---- a move, and what follows it

abbrev Then : RowMove → Texts → Rows → Type 0
Then m ts all = followed m ts (λ u. after row_step u ts) ≡ done all

abbrev From : RowState → Texts → Rows → Type 0
From s ts all = after row_step s ts ≡ done all

move : (s : RowState) (t : List ℕ) (ts : Texts) (all : Rows) → From s (t ∷ ts) all → Then (row_step s t) ts all
unfolding after
move s t ts all e = e

chosen : (b : Bool) (x y : RowMove) (ts : Texts) (all : Rows) → Then (if b then x else y) ts all → ((b ≡ true) × Then x ts all) ⊎ ((b ≡ false) × Then y ts all)
chosen true x y ts all e = inl (refl, e)
chosen false x y ts all e = inr (refl, e)

halted : {X : Type 0} (cause : Cause) (ts : Texts) (all : Rows) → Then (halt cause) ts all → X
halted cause ts all e = cc

ended : (rs : Rows) (ts : Texts) (all : Rows) → Then (done rs) ts all → (ts ≡ []) × (all ≡ rs)
ended rs [] all e = (refl, cc)
ended rs (t ∷ ts) all e = cc

-- ---- what is read from each state on

-- in a row behind an entry: the other entries, and the rows behind it
record Opened (rs : Rows) (zs : Entries) (ts : Texts) (all : Rows) : Type 0 where
  es : Entries
  first : Texts
  rest : Texts
  later : Rows
  tokens : ts ≡ first ++ rest
  are : AreRowEntryTexts first es
  rows : AreRowTexts rest later
  whole : all ≡ rs ++ (zs ++ es) ∷ later

-- at the front of a line: more rows
record Begun (rs : Rows) (ts : Texts) (all : Rows) : Type 0 where
  later : Rows
  rows : AreRowTexts ts later
  whole : all ≡ rs ++ later

-- where a number is expected, with this sign before it
record Sized (m : Bool) (rs : Rows) (zs : Entries) (ts : Texts) (all : Rows) : Type 0 where
  t : List ℕ
  rest : Texts
  tokens : ts ≡ t ∷ rest
  size : IsNumberText t (decimal_value t) most_row_entry
  more : Opened rs (zs ++ signed_entry m (decimal_value t) ∷ []) rest all

-- where an entry stands: it, and what follows it
record Entered (rs : Rows) (zs : Entries) (ts : Texts) (all : Rows) : Type 0 where
  first : Texts
  z : ℤ
  rest : Texts
  tokens : ts ≡ first ++ rest
  is_entry : IsRowEntryText first z
  more : Opened rs (zs ++ z ∷ []) rest all

bare : (rs : Rows) (zs : Entries) (ts : Texts) (all : Rows) → Sized false rs zs ts all → Entered rs zs ts all
bare rs zs ts all s = record {
  first = s.t ∷ [];
  z = signed_entry false (decimal_value s.t);
  rest = s.rest;
  tokens = s.tokens;
  is_entry = (s.t, decimal_value s.t, s.size, inl (refl, refl));
  more = s.more;
}

negative : (rs : Rows) (zs : Entries) (t : List ℕ) (ts : Texts) (all : Rows) → t ≡ minus_mark → Sized true rs zs ts all → Entered rs zs (t ∷ ts) all
negative rs zs t ts all is s = record {
  first = minus_mark ∷ s.t ∷ [];
  z = signed_entry true (decimal_value s.t);
  rest = s.rest;
  tokens = ap (λ x. x ∷ ts) is ∙ ap (λ l. minus_mark ∷ l) s.tokens;
  is_entry = (s.t, decimal_value s.t, s.size, inr (refl, refl));
  more = s.more;
}

one_more : (rs : Rows) (zs : Entries) (ts : Texts) (all : Rows) → Entered rs zs ts all → Opened rs zs ts all
one_more rs zs ts all n = record {
  es = n.z ∷ n.more.es;
  first = n.first ++ n.more.first;
  rest = n.more.rest;
  later = n.more.later;
  tokens = n.tokens ∙ ap (λ l. n.first ++ l) n.more.tokens ∙ sym (append_assoc n.first n.more.first n.more.rest);
  are = (n.first, n.more.first, refl, n.is_entry, n.more.are);
  rows = n.more.rows;
  whole = n.more.whole ∙ ap (λ l. rs ++ l ∷ n.more.later) (append_assoc zs (n.z ∷ []) n.more.es);
}

one_row : (rs : Rows) (ts : Texts) (all : Rows) → Entered rs [] ts all → Begun rs ts all
one_row rs ts all n = record {
  later = (n.z ∷ n.more.es) ∷ n.more.later;
  rows = (
    n.first ++ n.more.first,
    n.more.rest,
    n.tokens ∙ ap (λ l. n.first ++ l) n.more.tokens ∙ sym (append_assoc n.first n.more.first n.more.rest),
    (n.first, n.more.first, refl, n.is_entry, n.more.are),
    n.more.rows,
  );
  whole = n.more.whole;
}

-- the end of a line
row_ended : (rs : Rows) (zs : Entries) (t : List ℕ) (ts : Texts) (all : Rows) → t ≡ line_end → Begun (rs ++ zs ∷ []) ts all → Opened rs zs (t ∷ ts) all
row_ended rs zs t ts all is b = record {
  es = [];
  first = line_end ∷ [];
  rest = ts;
  later = b.later;
  tokens = ap (λ x. x ∷ ts) is;
  are = refl;
  rows = b.rows;
  whole = b.whole ∙ append_assoc rs (zs ∷ []) b.later ∙ ap (λ l. rs ++ l ∷ b.later) (sym (append-nil zs));
}

-- the end of the section
all_ended : (rs : Rows) (t : List ℕ) (ts : Texts) (all : Rows) → t ≡ section_end → ts ≡ [] → all ≡ rs → Begun rs (t ∷ ts) all
all_ended rs t ts all is none e = record { later = []; rows = ap (λ x. x ∷ ts) is ∙ ap (λ l. section_end ∷ l) none; whole = e ∙ sym (append-nil rs) }

-- ---- what is read, token by token

Said : Rows → Entries → Bool → Texts → Rows → Type 0
Said rs zs true ts all = Sized true rs zs ts all
Said rs [] false ts all = Begun rs ts all
Said rs (z ∷ zs) false ts all = Opened rs (z ∷ zs) ts all

Later : Texts → Type 0
Later ts = (rs : Rows) (zs : Entries) (m : Bool) (all : Rows) → From (row_state rs zs m) ts all → Said rs zs m ts all

-- behind an entry
pushed : (rs : Rows) (zs : Entries) (z : ℤ) (ts : Texts) (all : Rows) → Said rs (zs ++ z ∷ []) false ts all → Opened rs (zs ++ z ∷ []) ts all
unfolding Said
pushed rs [] z ts all s = s
pushed rs (y ∷ ys) z ts all s = s

module _ (t : List ℕ) (ts : Texts) (later : Later ts) where
  size_on : (m : Bool) (rs : Rows) (zs : Entries) (all : Rows) → Then (row_size_step rs zs m t) ts all → Sized m rs zs (t ∷ ts) all
  unfolding Later
  size_on m rs zs all e = let u = row_state rs (zs ++ signed_entry m (decimal_value t) ∷ []) false in
      elim (chosen (is_number t) (if nat_le (decimal_value t) most_row_entry then goes u else stops TooWide) (stops Unexpected) ts all e) [
        | inr h ↦ halted Unexpected ts all h.1
        | inl h ↦ elim (chosen (nat_le (decimal_value t) most_row_entry) (goes u) (stops TooWide) ts all h.1) [
          | inr k ↦ halted TooWide ts all k.1
          | inl k ↦ record {
            t = t;
            rest = ts;
            tokens = refl;
            size = (h.0, refl, le_from (decimal_value t) most_row_entry k.0);
            more = pushed rs zs (signed_entry m (decimal_value t)) ts all (later rs (zs ++ signed_entry m (decimal_value t) ∷ []) false all k.1);
          }
        ]
      ]

  entry_on : (rs : Rows) (zs : Entries) (all : Rows) → Then (row_entry_step rs zs t) ts all → Entered rs zs (t ∷ ts) all
  unfolding Said Later
  entry_on rs zs all e = elim (chosen (bytes_eq t minus_mark) (goes (row_state rs zs true)) (row_size_step rs zs false t) ts all e) [
    | inl h ↦ negative rs zs t ts all (is_mark t minus_mark h.0) (later rs zs true all h.1)
    | inr h ↦ bare rs zs (t ∷ ts) all (size_on false rs zs all h.1)
  ]

  on_token : (rs : Rows) (zs : Entries) (m : Bool) (all : Rows) → Then (row_step_at rs zs m t) ts all → Said rs zs m (t ∷ ts) all
  unfolding Said Later
  on_token rs zs true all e = size_on true rs zs all e
  on_token rs [] false all e = elim (chosen (bytes_eq t section_end) (ends rs) (row_entry_step rs [] t) ts all e) [
    | inl h ↦ (let end = ended rs ts all h.1 in all_ended rs t ts all (is_mark t section_end h.0) end.0 end.1)
    | inr h ↦ one_row rs (t ∷ ts) all (entry_on rs [] all h.1)
  ]
  on_token rs (z ∷ zs) false all e = elim (chosen (bytes_eq t line_end) (goes (row_state (rs ++ (z ∷ zs) ∷ []) [] false)) (row_entry_step rs (z ∷ zs) t)
      ts all e) [
        | inl h ↦ row_ended rs (z ∷ zs) t ts all (is_mark t line_end h.0) (later (rs ++ (z ∷ zs) ∷ []) [] false all h.1)
        | inr h ↦ one_more rs (z ∷ zs) (t ∷ ts) all (entry_on rs (z ∷ zs) all h.1)
      ]

said : (ts : Texts) → Later ts
unfolding Later
said [] rs zs m all e = absurd (not_yet row_step (row_state rs zs m) all e)
said (t ∷ ts) rs zs m all e = on_token t ts (λ qs ys k a f. said ts qs ys k a f) rs zs m all (move (row_state rs zs m) t ts all e)

rows_said : (ts : Texts) (all : Rows) → From row_start ts all → AreRowTexts ts all
unfolding Said Later
rows_said ts all e = let s = said ts [] [] false all e in subst (λ l. AreRowTexts ts l) (sym s.whole) s.rows

-- ---- the text of rows is read

pub number_some : (t : List ℕ) → is_number t ≡ true → bytes_eq t section_end ≡ false
number_some [] h = cc
number_some (b ∷ bs) h = refl

pub number_on : (rs : Rows) (zs : Entries) (t : List ℕ) → is_number t ≡ true → row_step (row_state rs zs false) t ≡ row_size_step rs zs false t
number_on rs [] t digits = rw (number_some t digits, number_no_mark t 45 digits refl) refl
number_on rs (z ∷ zs) t digits = rw (number_no_mark t 10 digits refl, number_no_mark t 45 digits refl) refl

minus_on : (rs : Rows) (zs : Entries) → row_step (row_state rs zs false) minus_mark ≡ goes (row_state rs zs true)
minus_on rs [] = refl
minus_on rs (z ∷ zs) = refl

size_goes : (m : Bool) (rs : Rows) (zs : Entries) (t : List ℕ) (n : ℕ) → IsNumberText t n most_row_entry →
    row_size_step rs zs m t ≡ goes (row_state rs (zs ++ signed_entry m n ∷ []) false)
size_goes m rs zs t n h =
    let digits = h.0 in
    let is = h.1 in
    let small = h.2 in
    let within = le_test (decimal_value t) most_row_entry (omega arith) in
    let here : row_size_step rs zs m t ≡ goes (row_state rs (zs ++ signed_entry m (decimal_value t) ∷ []) false) = rw (digits, within) refl in
    here ∙ ap (λ k. goes (row_state rs (zs ++ signed_entry m k ∷ []) false)) h.1

entry_read : (z : ℤ) (first : Texts) → IsRowEntryText first z → (rs : Rows) (zs : Entries) (rest : Texts)
    → after row_step (row_state rs zs false) (first ++ rest) ≡ after row_step (row_state rs (zs ++ z ∷ []) false) rest
entry_read z first (t, n, size, inl (is, e)) rs zs rest =
    ap (λ l. after row_step (row_state rs zs false) (l ++ rest)) is
    ∙ after-go row_step (row_state rs zs false) (row_state rs (zs ++ signed_entry false n ∷ []) false) t rest
    (number_on rs zs t size.0 ∙ size_goes false rs zs t n size)
    ∙ ap (λ k. after row_step (row_state rs (zs ++ k ∷ []) false) rest) (sym e)
entry_read z first (t, n, size, inr (is, e)) rs zs rest =
    ap (λ l. after row_step (row_state rs zs false) (l ++ rest)) is
    ∙ after-go row_step (row_state rs zs false) (row_state rs zs true) minus_mark (t ∷ rest) (minus_on rs zs)
    ∙ after-go row_step (row_state rs zs true) (row_state rs (zs ++ signed_entry true n ∷ []) false) t rest (size_goes true rs zs t n size)
    ∙ ap (λ k. after row_step (row_state rs (zs ++ k ∷ []) false) rest) (sym e)

entries_given : (es : Entries) (first : Texts) → AreRowEntryTexts first es → (rs : Rows) (z : ℤ) (zs : Entries) (rest : Texts)
    → after row_step (row_state rs (z ∷ zs) false) (first ++ rest) ≡ after row_step (row_state (rs ++ ((z ∷ zs) ++ es) ∷ []) [] false) rest
entries_given [] first is rs z zs rest =
    ap (λ l. after row_step (row_state rs (z ∷ zs) false) (l ++ rest)) is
    ∙ after-go row_step (row_state rs (z ∷ zs) false) (row_state (rs ++ (z ∷ zs) ∷ []) [] false) line_end rest refl
    ∙ ap (λ l. after row_step (row_state (rs ++ (z ∷ l) ∷ []) [] false) rest) (sym (append-nil zs))
entries_given (e ∷ es) first (one, more, is, entry, are) rs z zs rest =
    ap (λ l. after row_step (row_state rs (z ∷ zs) false) (l ++ rest)) is
    ∙ ap (after row_step (row_state rs (z ∷ zs) false)) (append_assoc one more rest)
    ∙ entry_read e one entry rs (z ∷ zs) (more ++ rest)
    ∙ entries_given es more are rs z (zs ++ e ∷ []) rest
    ∙ ap (λ l. after row_step (row_state (rs ++ (z ∷ l) ∷ []) [] false) rest) (append_assoc zs (e ∷ []) es)

row_given : (r : Entries) (first : Texts) → IsRowText first r → (rs : Rows) (rest : Texts) →
    after row_step (row_state rs [] false) (first ++ rest) ≡ after row_step (row_state (rs ++ r ∷ []) [] false) rest
row_given [] first is rs rest = absurd is
row_given (z ∷ zs) first (one, more, is, entry, are) rs rest =
    ap (λ l. after row_step (row_state rs [] false) (l ++ rest)) is
    ∙ ap (after row_step (row_state rs [] false)) (append_assoc one more rest)
    ∙ entry_read z one entry rs [] (more ++ rest)
    ∙ entries_given zs more are rs z [] rest

rows_from : (later : Rows) (ts : Texts) → AreRowTexts ts later → (rs : Rows) → From (row_state rs [] false) ts (rs ++ later)
rows_from [] ts is rs =
    ap (after row_step (row_state rs [] false)) is
    ∙ after-done row_step (row_state rs [] false) rs section_end refl
    ∙ ap ends (sym (append-nil rs))
rows_from (r ∷ later) ts (first, rest, is, row, more) rs =
    ap (after row_step (row_state rs [] false)) is
    ∙ row_given r first row rs rest
    ∙ rows_from later rest more (rs ++ r ∷ [])
    ∙ ap ends (append_assoc rs (r ∷ []) later)

-- ---- from each state some tokens lead to the end

abbrev one : List ℕ
one = 49 ∷ []

abbrev Live : RowState → Type 0
Live s = (ts : Texts) × (all : Rows) × From s ts all

by_token : (s u : RowState) (t : List ℕ) → row_step s t ≡ goes u → Live u → Live s
by_token s u t on l = (t ∷ l.0, l.1, after-go row_step s u t l.0 on ∙ l.2)

begun_live : (rs : Rows) → Live (row_state rs [] false)
begun_live rs = (section_end ∷ [], rs, after-done row_step (row_state rs [] false) rs section_end refl)

entries_live : (rs : Rows) (zs : Entries) → Live (row_state rs zs false)
entries_live rs [] = begun_live rs
entries_live rs (z ∷ zs) = by_token (row_state rs (z ∷ zs) false) (row_state (rs ++ (z ∷ zs) ∷ []) [] false) line_end refl (begun_live (rs ++ (z ∷ zs) ∷ []))

all_live : (rs : Rows) (zs : Entries) (m : Bool) → Live (row_state rs zs m)
all_live rs zs true = by_token (row_state rs zs true) (row_state rs (zs ++ signed_entry true 1 ∷ []) false) one refl
    (entries_live rs (zs ++ signed_entry true 1 ∷ []))
all_live rs zs false = entries_live rs zs

-- ---- at no token the text has ended

abbrev IsNoEnd : RowMove → Type 0
IsNoEnd m = m ≡ halt Ended → ⊥

either : (b : Bool) (x y : RowMove) → IsNoEnd x → IsNoEnd y → IsNoEnd (if b then x else y)
either true x y h k = h
either false x y h k = k

size_no_end : (rs : Rows) (zs : Entries) (m : Bool) (t : List ℕ) → IsNoEnd (row_size_step rs zs m t)
size_no_end rs zs m t =
    let u = row_state rs (zs ++ signed_entry m (decimal_value t) ∷ []) false in
    either (is_number t) (if nat_le (decimal_value t) most_row_entry then goes u else stops TooWide) (stops Unexpected)
    (either (nat_le (decimal_value t) most_row_entry) (goes u) (stops TooWide) (λ e. cc) (λ e. cc)) (λ e. cc)

entry_no_end : (rs : Rows) (zs : Entries) (t : List ℕ) → IsNoEnd (row_entry_step rs zs t)
entry_no_end rs zs t = either (bytes_eq t minus_mark) (goes (row_state rs zs true)) (row_size_step rs zs false t) (λ e. cc) (size_no_end rs zs false t)

no_end : (rs : Rows) (zs : Entries) (m : Bool) (t : List ℕ) → IsNoEnd (row_step_at rs zs m t)
no_end rs zs true t = size_no_end rs zs true t
no_end rs [] false t = either (bytes_eq t section_end) (ends rs) (row_entry_step rs [] t) (λ e. cc) (entry_no_end rs [] t)
no_end rs (z ∷ zs) false t = either (bytes_eq t line_end) (goes (row_state (rs ++ (z ∷ zs) ∷ []) [] false)) (row_entry_step rs (z ∷ zs) t) (λ e. cc)
    (entry_no_end rs (z ∷ zs) t)

-- the machine reads exactly the grammar
pub row_machine : IsMachineOf row_step row_start AreRowTexts
row_machine = record {
  said = rows_said;
  given = λ ts all h. rows_from all ts h [];
  live = λ s. all_live s.rows s.entries s.negative;
  tells = λ s t. no_end s.rows s.entries s.negative t;
}
