-- Sections are read as the grammar says, and the first fault is what is refused.
-- To cite: text_said, text_given, text_fault, text_sound, content_given. The rest are steps.
use Rattle.std.proofs.Common.{◌≡◌, ◌≤◌, ℕ, ◌+◌, Bool, true, false, ◌&&◌, nat_le, List, [], ◌∷◌, ◌++◌, length, Result, Ok, Err, refl, sym, ap, subst, ◌∙◌, inl}
use Rattle.std.proofs.Common.{inr, append-nil, bytes_eq, arith, if◌then◌else◌, ℤ}
use Rattle.gf_text.specs.declared.error.Cause.{Cause}
use Rattle.gf_text.specs.declared.error.Cause.TheVariants.{Unexpected, TooWide, RepeatedName}
use Rattle.gf_fan_files.specs.declared.error.FanFileError.{FanFileError}
use Rattle.gf_fan_files.specs.declared.error.FanFileError.TheVariants as errors
use Rattle.gf_fan_files.specs.Refused.{refused_at}
use Rattle.gf_text.specs.Machine.{Lexeme, texts, Move, go, done, halt, after, Fault, run}
use Rattle.gf_text.specs.Tokens.{is_number, decimal_value}
use Rattle.gf_text.specs.RingText.{has}
use Rattle.gf_text.specs.VectorText.{signed_entry}
use Rattle.gf_text.proofs.MachineLaws.{read, fault, IsMachineOf}
use Rattle.gf_text.proofs.SetTokensLaws.{is_mark, le_from, not_le, le_test, le_false}
use Rattle.gf_text.specs.Marks.{minus_mark, brace, brace_end}
use Rattle.gf_fan_files.specs.Lines.{line_end, section_end, Section, sections, content_tokens, end_before}
use Rattle.gf_fan_files.specs.RowText.{most_row_entry, RowMove, row_state, row_size_step, row_entry_step, row_step_at, row_step}
use Rattle.gf_fan_files.specs.ConeText.{most_number, before, inside, closed, ConeState, ConeMove, cone_step}
use Rattle.gf_fan_files.specs.declared.numbers.NumberState.{NumberState}
use Rattle.gf_fan_files.specs.declared.numbers.NumberState.TheVariants.{Unread, Read, Finished}
use Rattle.gf_fan_files.specs.NumberText as one
use Rattle.gf_fan_files.specs.FanText.{ContentKind, number_to, rows, cones, any, Content, the_number, the_rows, the_cones, passed, IsContentText, held}
use Rattle.gf_fan_files.specs.FanText.{is_above, first_value, content_read, Table, kind_in, Named, then_content, sections_read, text_read, AreHeld, IsFaultOf}
use Rattle.gf_fan_files.specs.FanText.{IsContentFault, IsFirstFault}
use Rattle.gf_text.specs.Kinds.{IsNumberKind}
use Rattle.gf_fan_files.proofs.KindsLaws.{row_kind, cone_kind, number_kind}
use Rattle.gf_fan_files.proofs.RowTextLaws.{row_machine}
use Rattle.gf_fan_files.proofs.ConeTextLaws.{cone_machine}
use Rattle.gf_fan_files.proofs.NumberTextLaws.{number_machine}
use Rattle.gf_fan_files.proofs.ContentLaws.{SectionsSome, sections_some, EndsOnce, ends_once, whole_read}

-- ---- the machines are done at the end of a section alone

module _ {S A : Type 0} (t : List ℕ) where
  -- the move is done at the end of a section alone
  abbrev Only : Move S A → Type 0
  Only m = (a : A) → m ≡ done a → t ≡ section_end

  only_go : (s : S) → Only (go s)
  only_go s a e = cc

  only_halt : (m : Move S A) → ((a : A) → m ≡ done a → ⊥) → Only m
  only_halt m none a e = absurd (none a e)

  only_by : (v : Bool) (x y : Move S A) → (v ≡ true → Only x) → Only y → Only (if v then x else y)
  only_by true x y h k = h refl
  only_by false x y h k = k

  only_done : (v : Bool) (b : A) (y : Move S A) → (v ≡ true → t ≡ section_end) → Only y → Only (if v then done b else y)
  only_done true b y h k = λ a e. h refl
  only_done false b y h k = k

  only_is : (m : Move S A) → Only m → (a : A) → m ≡ done a → t ≡ section_end
  only_is m h = h

size_only : (rs : List (List ℤ)) (zs : List ℤ) (m : Bool) (t : List ℕ) → Only t (row_size_step rs zs m t)
size_only rs zs m t =
    let u : RowMove = go (row_state rs (zs ++ signed_entry m (decimal_value t) ∷ []) false) in
    let wide : RowMove = halt TooWide in
    let unexpected : RowMove = halt Unexpected in
    only_by t (is_number t) (if nat_le (decimal_value t) most_row_entry then u else wide) unexpected (λ d. only_by t (nat_le (decimal_value t) most_row_entry)
    u wide (λ w. only_go t (row_state rs (zs ++ signed_entry m (decimal_value t) ∷ []) false)) (only_halt t wide (λ a e. cc)))
    (only_halt t unexpected (λ a e. cc))

entry_only : (rs : List (List ℤ)) (zs : List ℤ) (t : List ℕ) → Only t (row_entry_step rs zs t)
entry_only rs zs t = only_by t (bytes_eq t minus_mark) (go (row_state rs zs true)) (row_size_step rs zs false t) (λ h. only_go t (row_state rs zs true))
    (size_only rs zs false t)

row_only : (rs : List (List ℤ)) (zs : List ℤ) (m : Bool) (t : List ℕ) → Only t (row_step_at rs zs m t)
row_only rs zs true t = size_only rs zs true t
row_only rs [] false t = only_done t (bytes_eq t section_end) rs (row_entry_step rs [] t) (λ h. is_mark t section_end h) (entry_only rs [] t)
row_only rs (z ∷ zs) false t = only_by t (bytes_eq t line_end) (go (row_state (rs ++ (z ∷ zs) ∷ []) [] false)) (row_entry_step rs (z ∷ zs) t)
    (λ h. only_go t (row_state (rs ++ (z ∷ zs) ∷ []) [] false)) (entry_only rs (z ∷ zs) t)

cone_only : (s : ConeState) (t : List ℕ) → Only t (cone_step s t)
cone_only (cs, before) t =
    let u : ConeMove = go (cs, inside []) in
    let unexpected : ConeMove = halt Unexpected in
    only_done t (bytes_eq t section_end) cs (if bytes_eq t brace then u else unexpected) (λ h. is_mark t section_end h)
    (only_by t (bytes_eq t brace) u unexpected (λ h. only_go t (cs, inside [])) (only_halt t unexpected (λ a e. cc)))
cone_only (cs, inside ns) t =
    let u : ConeMove = go (cs, inside (ns ++ decimal_value t ∷ [])) in
    let wide : ConeMove = halt TooWide in
    let unexpected : ConeMove = halt Unexpected in
    let number = if nat_le (decimal_value t) most_number then u else wide in
    only_by t (bytes_eq t brace_end) (go (cs, closed ns)) (if is_number t then number else unexpected) (λ h. only_go t (cs, closed ns))
    (only_by t (is_number t) number unexpected (λ d. only_by t (nat_le (decimal_value t) most_number) u wide
    (λ h. only_go t (cs, inside (ns ++ decimal_value t ∷ []))) (only_halt t wide (λ a e. cc))) (only_halt t unexpected (λ a e. cc)))
cone_only (cs, closed ns) t =
    let unexpected : ConeMove = halt Unexpected in
    only_by t (bytes_eq t line_end) (go (cs ++ ns ∷ [], before)) unexpected (λ h. only_go t (cs ++ ns ∷ [], before)) (only_halt t unexpected (λ a e. cc))

abbrev NumberMove : Type 0
NumberMove = Move NumberState ℕ

number_only : (s : NumberState) (t : List ℕ) → Only t (one.number_step s t)
number_only Unread t =
    let u : NumberMove = go (Read (decimal_value t)) in
    let wide : NumberMove = halt TooWide in
    let unexpected : NumberMove = halt Unexpected in
    only_by t (is_number t) (if nat_le (decimal_value t) most_number then u else wide) unexpected (λ d. only_by t (nat_le (decimal_value t) most_number) u wide
    (λ h. only_go t (Read (decimal_value t))) (only_halt t wide (λ a e. cc))) (only_halt t unexpected (λ a e. cc))
number_only (Read n) t =
    let unexpected : NumberMove = halt Unexpected in
    only_by t (bytes_eq t line_end) (go (Finished n)) unexpected (λ h. only_go t (Finished n)) (only_halt t unexpected (λ a e. cc))
number_only (Finished n) t =
    let unexpected : NumberMove = halt Unexpected in
    only_done t (bytes_eq t section_end) n unexpected (λ h. is_mark t section_end h) (only_halt t unexpected (λ a e. cc))

-- ---- what a machine reads of a content

result_apart : {A E : Type 0} (a : A) (e : E) → Ok a ≡ Err e → ⊥
result_apart a e is = cc

module _ {S A : Type 0} {step : S → List ℕ → Move S A} {start : S} {grammar : List (List ℕ) → A → Type 0} (is : IsMachineOf step start grammar) (make : A →
    Content) where
  held_said : ((s : S) (t : List ℕ) (a : A) → step s t ≡ done a → t ≡ section_end) → (end : ℕ) (xs : List Lexeme) (c : Content) → EndsOnce xs →
      held make end (run step start end xs) ≡ Ok c → (a : A) × grammar (texts xs) a × (c ≡ make a)
  held_said only end xs c once e = by (run step start end xs) refl e
    where
      by : (r : Result (A × ℕ) Fault) → run step start end xs ≡ r → held make end r ≡ Ok c → (a : A) × grammar (texts xs) a × (c ≡ make a)
      by (Ok (a, place)) is_read f = (a, is.said (texts xs) a (whole_read step only start end xs a place once is_read), cc)
      by (Err g) is_read f = cc

  held_given : (end : ℕ) (xs : List Lexeme) (a : A) → grammar (texts xs) a → held make end (run step start end xs) ≡ Ok (make a)
  held_given end xs a g = ap (held make end) (ap (run step start end) (sym (append-nil xs)) ∙ read step start 0 end xs [] a (is.given (texts xs) a g))

  held_fault : ((ts : List (List ℕ)) (s : S) (t : List ℕ) (cause : Cause) → after step start ts ≡ go s → step s t ≡ halt cause →
      IsNumberKind grammar ts t cause) → (end : ℕ) (xs : List Lexeme) (e : FanFileError) → held make end (run step start end xs) ≡ Err e →
      IsFaultOf grammar end xs e
  held_fault kind end xs e h = by (run step start end xs) refl h
    where
      by : (r : Result (A × ℕ) Fault) → run step start end xs ≡ r → held make end r ≡ Err e → IsFaultOf grammar end xs e
      by (Ok a) is_read f = cc
      by (Err g) is_read f = (
        g,
        (λ a text. result_apart (make a) e (sym (held_given end xs a text) ∙ h)),
        fault is (IsNumberKind grammar) kind end xs g is_read,
        cc,
      )

-- ---- a number up to a limit

above_by : (limit : ℕ) (t : List ℕ) → is_number t ≡ true → decimal_value t ≤ most_number →
    (is_number t && (nat_le (decimal_value t) most_number && nat_le (limit + 1) (decimal_value t))) ≡ false → nat_le (decimal_value t) limit ≡ true
above_by limit t digits small none =
    let within = le_test (decimal_value t) most_number small in
    let here : nat_le (limit + 1) (decimal_value t) ≡ false = rw (digits, within) at none in
    let above = not_le (limit + 1) (decimal_value t) here in
    le_test (decimal_value t) limit (omega arith)

limit_said : (limit n : ℕ) (xs : List Lexeme) → one.IsOneNumberText (texts xs) n → is_above limit xs ≡ false → nat_le n limit ≡ true
limit_said limit n [] (t, is, number) none = cc
limit_said limit n (x ∷ xs) (t, is, (digits, same, small)) none =
    let first : x.text ≡ t = cc in
    let size : decimal_value x.text ≡ n = ap decimal_value first ∙ same in
    let number : is_number x.text ≡ true = ap is_number first ∙ digits in
    ap (λ k. nat_le k limit) (sym size) ∙ above_by limit x.text number (omega arith) none

below_by : (limit : ℕ) (t : List ℕ) (v w : Bool) → decimal_value t ≤ limit → (v && (w && nat_le (limit + 1) (decimal_value t))) ≡ false
below_by limit t v w h = let no = le_false (limit + 1) (decimal_value t) (omega arith) in rw no (by v w)
  where
    by : (v w : Bool) → (v && (w && false)) ≡ false
    by true true = refl
    by true false = refl
    by false w = refl

limit_given : (limit n : ℕ) (xs : List Lexeme) → one.IsOneNumberText (texts xs) n → nat_le n limit ≡ true → is_above limit xs ≡ false
limit_given limit n [] (t, is, number) h = refl
limit_given limit n (x ∷ xs) (t, is, (digits, same, small)) h =
    let first : x.text ≡ t = cc in
    let size : decimal_value x.text ≡ n = ap decimal_value first ∙ same in
    let below = le_from n limit h in
    below_by limit x.text (is_number x.text) (nat_le (decimal_value x.text) most_number) (omega arith)

-- ---- contents

number_said : (end limit : ℕ) (xs : List Lexeme) (c : Content) (v : Bool) → is_above limit xs ≡ v → EndsOnce xs
    → (if v then Err (errors.TooManyVariables (first_value xs)) else held (λ n. the_number n) end (run one.number_step Unread end xs)) ≡ Ok c →
    IsContentText (number_to limit) (texts xs) c
number_said end limit xs c true is once e = cc
number_said end limit xs c false is once e =
    let h = held_said number_machine (λ n. the_number n) (λ s t. only_is t (one.number_step s t) (number_only s t)) end xs c once e in
    subst (λ d. IsContentText (number_to limit) (texts xs) d) (sym h.2) (limit, refl, h.1, limit_said limit h.0 xs h.1 is)

content_said : (end : ℕ) (k : ContentKind) (xs : List Lexeme) (c : Content) → EndsOnce xs → content_read end k xs ≡ Ok c → IsContentText k (texts xs) c
content_said end (number_to limit) xs c once e = number_said end limit xs c (is_above limit xs) refl once e
content_said end rows xs c once e =
    let h = held_said row_machine (λ rs. the_rows rs) (λ s t. only_is t (row_step s t) (row_only s.rows s.entries s.negative t)) end xs c once e in
    subst (λ d. IsContentText rows (texts xs) d) (sym h.2) (refl, h.1)
content_said end cones xs c once e =
    let h = held_said cone_machine (λ cs. the_cones cs) (λ s t. only_is t (cone_step s t) (cone_only s t)) end xs c once e in
    subst (λ d. IsContentText cones (texts xs) d) (sym h.2) (refl, h.1)
content_said end any xs c once e = (let same : passed ≡ c = cc in subst (λ d. IsContentText any (texts xs) d) same refl)

pub content_given : (end : ℕ) (k : ContentKind) (xs : List Lexeme) (c : Content) → IsContentText k (texts xs) c → content_read end k xs ≡ Ok c
content_given end k xs (the_number n) (limit, is, text, small) =
    let none = limit_given limit n xs text small in
    let here : content_read end (number_to limit) xs ≡ Ok (the_number n) = rw none (held_given number_machine (λ m. the_number m) end xs n text) in
    ap (λ j. content_read end j xs) is ∙ here
content_given end k xs (the_rows rs) (is, text) = ap (λ j. content_read end j xs) is ∙ held_given row_machine (λ qs. the_rows qs) end xs rs text
content_given end k xs (the_cones cs) (is, text) = ap (λ j. content_read end j xs) is ∙ held_given cone_machine (λ ds. the_cones ds) end xs cs text
content_given end k xs passed is = ap (λ j. content_read end j xs) is

number_fault : (end limit : ℕ) (xs : List Lexeme) (e : FanFileError) (v : Bool) → is_above limit xs ≡ v
    → (if v then Err (errors.TooManyVariables (first_value xs)) else held (λ n. the_number n) end (run one.number_step Unread end xs)) ≡ Err e →
    IsContentFault end (number_to limit) xs e
number_fault end limit xs e true is h = inl (is, cc)
number_fault end limit xs e false is h = inr (is, held_fault number_machine (λ n. the_number n) number_kind end xs e h)

content_fault : (end : ℕ) (k : ContentKind) (xs : List Lexeme) (e : FanFileError) → content_read end k xs ≡ Err e → IsContentFault end k xs e
content_fault end (number_to limit) xs e h = number_fault end limit xs e (is_above limit xs) refl h
content_fault end rows xs e h = held_fault row_machine (λ rs. the_rows rs) row_kind end xs e h
content_fault end cones xs e h = held_fault cone_machine (λ cs. the_cones cs) cone_kind end xs e h
content_fault end any xs e h = cc

-- a content of its kind isn't refused
pub content_sound : (end : ℕ) (k : ContentKind) (xs : List Lexeme) (c : Content) (e : FanFileError) → IsContentText k (texts xs) c → IsContentFault end k xs e →
    ⊥
content_sound end (number_to limit) xs (the_number n) e (most, is, text, small) (inl h) =
    let same : limit ≡ most = cc in
    let none : is_above limit xs ≡ false = ap (λ l. is_above l xs) same ∙ limit_given most n xs text small in
    cc
content_sound end (number_to limit) xs (the_number n) e (most, is, text, small) (inr h) = h.1.1 n text
content_sound end (number_to limit) xs (the_rows rs) e (is, text) h = cc
content_sound end (number_to limit) xs (the_cones cs) e (is, text) h = cc
content_sound end (number_to limit) xs passed e is h = cc
content_sound end rows xs (the_number n) e (most, is, text, small) h = cc
content_sound end rows xs (the_rows rs) e (is, text) h = h.1 rs text
content_sound end rows xs (the_cones cs) e (is, text) h = cc
content_sound end rows xs passed e is h = cc
content_sound end cones xs (the_number n) e (most, is, text, small) h = cc
content_sound end cones xs (the_rows rs) e (is, text) h = cc
content_sound end cones xs (the_cones cs) e (is, text) h = h.1 cs text
content_sound end cones xs passed e is h = cc
content_sound end any xs c e is h = h

-- ---- sections, from left to right

module _ (table : Table) (end : ℕ) where
  abbrev Reading : List (List ℕ) → List Section → Result Named FanFileError
  Reading seen ss = sections_read table end seen ss

  abbrev Holding : Section → List Section → Result Content FanFileError
  Holding s ss = content_read end (kind_in table s.name) (content_tokens (end_before end ss) s.content)

  said_by : (seen : List (List ℕ)) (s : Section) (ss : List Section) (all : Named) (v : Bool) (c : Result Content FanFileError)
      (l : Result Named FanFileError) → has seen s.name ≡ v → Holding s ss ≡ c → Reading (seen ++ s.name ∷ []) ss ≡ l
      → EndsOnce (content_tokens (end_before end ss) s.content)
      → ((hs : Named) → Reading (seen ++ s.name ∷ []) ss ≡ Ok hs → AreHeld table end (seen ++ s.name ∷ []) ss hs)
      → (if v then Err (refused_at s.at RepeatedName) else then_content c s.name l) ≡ Ok all → AreHeld table end seen (s ∷ ss) all
  said_by seen s ss all true c l new one more once later e = cc
  said_by seen s ss all false (Err g) l new one more once later e = cc
  said_by seen s ss all false (Ok c) (Err g) new one more once later e = cc
  said_by seen s ss all false (Ok c) (Ok hs) new one more once later e =
      let whole : (s.name, c) ∷ hs ≡ all = cc in
      subst (λ l. AreHeld table end seen (s ∷ ss) l) whole (
        new,
        refl,
        content_said end (kind_in table s.name) (content_tokens (end_before end ss) s.content)
            c once one,
        later hs more,
      )

  sections_said : (seen : List (List ℕ)) (ss : List Section) (all : Named) → SectionsSome ss → Reading seen ss ≡ Ok all → AreHeld table end seen ss all
  sections_said seen [] all some e = cc
  sections_said seen (s ∷ ss) all some e =
      said_by seen s ss all (has seen s.name) (Holding s ss) (Reading (seen ++ s.name ∷ []) ss) refl refl refl (ends_once (end_before end ss) s.content some.0)
      (λ hs f. sections_said (seen ++ s.name ∷ []) ss hs some.1 f) e

  sections_given : (seen : List (List ℕ)) (ss : List Section) (all : Named) → AreHeld table end seen ss all → Reading seen ss ≡ Ok all
  sections_given seen [] all h = ap (λ l. Ok l) (sym h)
  sections_given seen (s ∷ ss) [] h = absurd h
  sections_given seen (s ∷ ss) (k ∷ ks) (new, name, content, later) =
      let one = content_given end (kind_in table s.name) (content_tokens (end_before end ss) s.content) k.1 content in
      let more = sections_given (seen ++ s.name ∷ []) ss ks later in
      let here : Reading seen (s ∷ ss) ≡ Ok ((s.name, k.1) ∷ ks) = rw (new, one, more) refl in
      here ∙ ap (λ n. Ok ((n, k.1) ∷ ks)) (sym name)

  fault_by : (seen : List (List ℕ)) (s : Section) (ss : List Section) (g : FanFileError) (v : Bool) (c : Result Content FanFileError)
      (l : Result Named FanFileError) → has seen s.name ≡ v → Holding s ss ≡ c → Reading (seen ++ s.name ∷ []) ss ≡ l
      → EndsOnce (content_tokens (end_before end ss) s.content)
      → ((f : FanFileError) → Reading (seen ++ s.name ∷ []) ss ≡ Err f → IsFirstFault table end (seen ++ s.name ∷ []) ss f)
      → (if v then Err (refused_at s.at RepeatedName) else then_content c s.name l) ≡ Err g → IsFirstFault table end seen (s ∷ ss) g
  fault_by seen s ss g true c l new one more once later e = inl (new, cc)
  fault_by seen s ss g false (Err f) l new one more once later e =
      (let same : f ≡ g = cc in inr (inl (
        new,
        content_fault end (kind_in table s.name) (content_tokens (end_before end ss) s.content) g
            (one ∙ ap (λ x. Err x) same),
      )))
  fault_by seen s ss g false (Ok c) (Err f) new one more once later e = (
      let same : f ≡ g = cc in
      inr (inr (
        new,
        (c, content_said end (kind_in table s.name) (content_tokens (end_before end ss) s.content) c once one),
        later g (more ∙ ap (λ x. Err x) same),
      ))
      )
  fault_by seen s ss g false (Ok c) (Ok hs) new one more once later e = cc

  sections_fault : (seen : List (List ℕ)) (ss : List Section) (g : FanFileError) → SectionsSome ss → Reading seen ss ≡ Err g → IsFirstFault table end seen ss g
  sections_fault seen [] g some e = cc
  sections_fault seen (s ∷ ss) g some e =
      fault_by seen s ss g (has seen s.name) (Holding s ss) (Reading (seen ++ s.name ∷ []) ss) refl refl refl (ends_once (end_before end ss) s.content some.0)
      (λ f h. sections_fault (seen ++ s.name ∷ []) ss f some.1 h) e

  sections_sound : (seen : List (List ℕ)) (ss : List Section) (all : Named) (e : FanFileError) → AreHeld table end seen ss all →
      IsFirstFault table end seen ss e → ⊥
  sections_sound seen [] all e held f = f
  sections_sound seen (s ∷ ss) [] e held f = held
  sections_sound seen (s ∷ ss) (k ∷ ks) e (new, name, content, later) (inl f) = cc
  sections_sound seen (s ∷ ss) (k ∷ ks) e (new, name, content, later) (inr (inl f)) =
      content_sound end (kind_in table s.name) (content_tokens (end_before end ss) s.content) k.1 e content f.1
  sections_sound seen (s ∷ ss) (k ∷ ks) e (new, name, content, later) (inr (inr f)) = sections_sound (seen ++ s.name ∷ []) ss ks e later f.2

-- ---- texts

-- what is read is what the sections of the text hold
pub text_said : (table : Table) (source : List ℕ) (all : Named) → text_read table source ≡ Ok all → AreHeld table (length source) [] (sections source) all
text_said table source all e = sections_said table (length source) [] (sections source) all (sections_some source) e

pub text_given : (table : Table) (source : List ℕ) (all : Named) → AreHeld table (length source) [] (sections source) all → text_read table source ≡ Ok all
text_given table source all h = sections_given table (length source) [] (sections source) all h

-- what is refused is the first fault
pub text_fault : (table : Table) (source : List ℕ) (e : FanFileError) → text_read table source ≡ Err e →
    IsFirstFault table (length source) [] (sections source) e
text_fault table source e h = sections_fault table (length source) [] (sections source) e (sections_some source) h

-- a text whose sections hold what they should has no fault
pub text_sound : (table : Table) (source : List ℕ) (all : Named) (e : FanFileError) → AreHeld table (length source) [] (sections source) all →
    IsFirstFault table (length source) [] (sections source) e → ⊥
text_sound table source all e held f = sections_sound table (length source) [] (sections source) all e held f
