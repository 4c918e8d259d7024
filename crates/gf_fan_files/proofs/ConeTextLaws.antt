-- The machine of lists of ray numbers reads exactly what their grammar says.
-- To cite: cone_machine. The rest are steps.
use Rattle.std.proofs.Common.{◌≡◌, ℕ, Bool, true, false, nat_le, List, [], ◌∷◌, ◌++◌, refl, sym, ap, subst, ◌∙◌, ◌⊎◌, inl, inr, append_assoc, append-nil}
use Rattle.std.proofs.Common.{bytes_eq, arith, if◌then◌else◌}
use Rattle.gf_text.specs.declared.error.Cause.{Cause}
use Rattle.gf_text.specs.declared.error.Cause.TheVariants.{Ended, Unexpected, TooWide}
use Rattle.gf_text.specs.Machine.{go, done, halt, after, followed}
use Rattle.gf_text.specs.Tokens.{is_number, decimal_value}
use Rattle.gf_text.proofs.MachineLaws.{after-go, after-done, not_yet, IsMachineOf}
use Rattle.gf_text.proofs.SetTokensLaws.{number_no_mark, is_mark, le_from, le_test}
use Rattle.gf_text.specs.Marks.{brace, brace_end}
use Rattle.gf_text.specs.SetText.{IsNumberText}
use Rattle.gf_fan_files.specs.Lines.{line_end, section_end}
use Rattle.gf_fan_files.specs.ConeText.{most_number, AreNumberTexts, IsConeNumbersText, AreConeTexts, ConePlace, before, inside, closed, ConeState, ConeMove}
use Rattle.gf_fan_files.specs.ConeText.{cone_step, cone_start}

abbrev Texts : Type 0
Texts = List (List ℕ)

abbrev Cones : Type 0
Cones = List (List ℕ)

abbrev goes : ConeState → ConeMove
goes s = go s

abbrev stops : Cause → ConeMove
stops cause = halt cause

abbrev ends : Cones → ConeMove
ends cs = done cs

-- ---- a move, and what follows it

abbrev Then : ConeMove → Texts → Cones → Type 0
Then m ts all = followed m ts (λ u. after cone_step u ts) ≡ done all

abbrev From : ConeState → Texts → Cones → Type 0
From s ts all = after cone_step s ts ≡ done all

move : (s : ConeState) (t : List ℕ) (ts : Texts) (all : Cones) → From s (t ∷ ts) all → Then (cone_step s t) ts all
unfolding after
move s t ts all e = e

chosen : (b : Bool) (x y : ConeMove) (ts : Texts) (all : Cones) → Then (if b then x else y) ts all →
    ((b ≡ true) × Then x ts all) ⊎ ((b ≡ false) × Then y ts all)
chosen true x y ts all e = inl (refl, e)
chosen false x y ts all e = inr (refl, e)

halted : {X : Type 0} (cause : Cause) (ts : Texts) (all : Cones) → Then (halt cause) ts all → X
halted cause ts all e = cc

ended : (cs : Cones) (ts : Texts) (all : Cones) → Then (done cs) ts all → (ts ≡ []) × (all ≡ cs)
ended cs [] all e = (refl, cc)
ended cs (t ∷ ts) all e = cc

-- ---- what is read from each place on

-- at the front of a line: more lists
record Begun (cs : Cones) (ts : Texts) (all : Cones) : Type 0 where
  later : Cones
  lists : AreConeTexts ts later
  whole : all ≡ cs ++ later

-- in a list: the other numbers, and the lists behind it
record Opened (cs : Cones) (ns : List ℕ) (ts : Texts) (all : Cones) : Type 0 where
  ms : List ℕ
  first : Texts
  rest : Texts
  later : Cones
  tokens : ts ≡ first ++ rest
  are : AreNumberTexts first ms
  lists : AreConeTexts rest later
  whole : all ≡ cs ++ (ns ++ ms) ∷ later

-- behind the brace: the end of the line
record Closed (cs : Cones) (ns : List ℕ) (ts : Texts) (all : Cones) : Type 0 where
  rest : Texts
  tokens : ts ≡ line_end ∷ rest
  more : Begun (cs ++ ns ∷ []) rest all

Said : Cones → ConePlace → Texts → Cones → Type 0
Said cs before ts all = Begun cs ts all
Said cs (inside ns) ts all = Opened cs ns ts all
Said cs (closed ns) ts all = Closed cs ns ts all

Later : Texts → Type 0
Later ts = (cs : Cones) (place : ConePlace) (all : Cones) → From (cs, place) ts all → Said cs place ts all

all_ended : (cs : Cones) (t : List ℕ) (ts : Texts) (all : Cones) → t ≡ section_end → ts ≡ [] → all ≡ cs → Begun cs (t ∷ ts) all
all_ended cs t ts all is none e = record { later = []; lists = ap (λ x. x ∷ ts) is ∙ ap (λ l. section_end ∷ l) none; whole = e ∙ sym (append-nil cs) }

one_list : (cs : Cones) (t : List ℕ) (ts : Texts) (all : Cones) → t ≡ brace → Opened cs [] ts all → Begun cs (t ∷ ts) all
one_list cs t ts all is o = record {
  later = o.ms ∷ o.later;
  lists = (brace ∷ o.first, o.rest, ap (λ x. x ∷ ts) is ∙ ap (λ l. brace ∷ l) o.tokens, (o.first, refl, o.are), o.lists);
  whole = o.whole;
}

list_ended : (cs : Cones) (ns : List ℕ) (t : List ℕ) (ts : Texts) (all : Cones) → t ≡ brace_end → Closed cs ns ts all → Opened cs ns (t ∷ ts) all
list_ended cs ns t ts all is c = record {
  ms = [];
  first = brace_end ∷ line_end ∷ [];
  rest = c.rest;
  later = c.more.later;
  tokens = ap (λ x. x ∷ ts) is ∙ ap (λ l. brace_end ∷ l) c.tokens;
  are = refl;
  lists = c.more.lists;
  whole = c.more.whole ∙ append_assoc cs (ns ∷ []) c.more.later ∙ ap (λ l. cs ++ l ∷ c.more.later) (sym (append-nil ns));
}

one_number : (cs : Cones) (ns : List ℕ) (t : List ℕ) (ts : Texts) (all : Cones) → IsNumberText t (decimal_value t) most_number →
    Opened cs (ns ++ decimal_value t ∷ []) ts all → Opened cs ns (t ∷ ts) all
one_number cs ns t ts all is o = record {
  ms = decimal_value t ∷ o.ms;
  first = t ∷ o.first;
  rest = o.rest;
  later = o.later;
  tokens = ap (λ l. t ∷ l) o.tokens;
  are = (t, o.first, refl, is, o.are);
  lists = o.lists;
  whole = o.whole ∙ ap (λ l. cs ++ l ∷ o.later) (append_assoc ns (decimal_value t ∷ []) o.ms);
}

module _ (t : List ℕ) (ts : Texts) (later : Later ts) where
  number_on : (cs : Cones) (ns : List ℕ) (all : Cones) → Then (if nat_le (decimal_value t) most_number then goes (cs, inside (ns ++ decimal_value t ∷ [])) else
      stops TooWide) ts all → is_number t ≡ true → Opened cs ns (t ∷ ts) all
  unfolding Said Later
  number_on cs ns all e digits = elim (chosen (nat_le (decimal_value t) most_number) (goes (cs, inside (ns ++ decimal_value t ∷ [])))
      (stops TooWide) ts all e) [
        | inl h ↦ one_number cs ns t ts all (digits, refl, le_from (decimal_value t) most_number h.0) (later cs (inside (ns ++ decimal_value t ∷ [])) all h.1)
        | inr h ↦ halted TooWide ts all h.1
      ]

  on_token : (cs : Cones) (place : ConePlace) (all : Cones) → Then (cone_step (cs, place) t) ts all → Said cs place (t ∷ ts) all
  unfolding Said Later
  on_token cs before all e = elim (chosen (bytes_eq t section_end) (ends cs) (if bytes_eq t brace then goes (cs, inside []) else stops Unexpected) ts all e) [
    | inl h ↦ (let end = ended cs ts all h.1 in all_ended cs t ts all (is_mark t section_end h.0) end.0 end.1)
    | inr h ↦ elim (chosen (bytes_eq t brace) (goes (cs, inside [])) (stops Unexpected) ts all h.1) [
      | inl k ↦ one_list cs t ts all (is_mark t brace k.0) (later cs (inside []) all k.1)
      | inr k ↦ halted Unexpected ts all k.1
    ]
  ]
  on_token cs (inside ns) all e =
      let number = if nat_le (decimal_value t) most_number then goes (cs, inside (ns ++ decimal_value t ∷ [])) else stops TooWide in
      elim (chosen (bytes_eq t brace_end) (goes (cs, closed ns)) (if is_number t then number else stops Unexpected) ts all e) [
        | inl h ↦ list_ended cs ns t ts all (is_mark t brace_end h.0) (later cs (closed ns) all h.1)
        | inr h ↦ elim (chosen (is_number t) number (stops Unexpected) ts all h.1) [
          | inl k ↦ number_on cs ns all k.1 k.0
          | inr k ↦ halted Unexpected ts all k.1
        ]
      ]
  on_token cs (closed ns) all e = elim (chosen (bytes_eq t line_end) (goes (cs ++ ns ∷ [], before)) (stops Unexpected) ts all e) [
    | inl h ↦ record { rest = ts; tokens = ap (λ x. x ∷ ts) (is_mark t line_end h.0); more = later (cs ++ ns ∷ []) before all h.1 }
    | inr h ↦ halted Unexpected ts all h.1
  ]

said : (ts : Texts) → Later ts
unfolding Later
said [] cs place all e = absurd (not_yet cone_step (cs, place) all e)
said (t ∷ ts) cs place all e = on_token t ts (λ ds q a f. said ts ds q a f) cs place all (move (cs, place) t ts all e)

cones_said : (ts : Texts) (all : Cones) → From cone_start ts all → AreConeTexts ts all
unfolding Said Later
cones_said ts all e = let s = said ts [] before all e in subst (λ l. AreConeTexts ts l) (sym s.whole) s.lists

-- ---- the text of lists is read

number_goes : (cs : Cones) (ns : List ℕ) (t : List ℕ) (n : ℕ) → IsNumberText t n most_number → cone_step (cs, inside ns) t ≡ goes (cs, inside (ns ++ n ∷ []))
number_goes cs ns t n h =
    let digits = h.0 in
    let is = h.1 in
    let small = h.2 in
    let within = le_test (decimal_value t) most_number (omega arith) in
    let here : cone_step (cs, inside ns) t ≡ goes (cs, inside (ns ++ decimal_value t ∷ [])) = rw (number_no_mark t 125 digits refl, digits, within) refl in
    here ∙ ap (λ k. goes (cs, inside (ns ++ k ∷ []))) h.1

numbers_given : (ms : List ℕ) (first : Texts) → AreNumberTexts first ms → (cs : Cones) (ns : List ℕ) (rest : Texts)
    → after cone_step (cs, inside ns) (first ++ rest) ≡ after cone_step (cs ++ (ns ++ ms) ∷ [], before) rest
numbers_given [] first is cs ns rest =
    ap (λ l. after cone_step (cs, inside ns) (l ++ rest)) is
    ∙ after-go cone_step (cs, inside ns) (cs, closed ns) brace_end (line_end ∷ rest) refl
    ∙ after-go cone_step (cs, closed ns) (cs ++ ns ∷ [], before) line_end rest refl
    ∙ ap (λ l. after cone_step (cs ++ l ∷ [], before) rest) (sym (append-nil ns))
numbers_given (m ∷ ms) first (t, more, is, number, are) cs ns rest =
    ap (λ l. after cone_step (cs, inside ns) (l ++ rest)) is
    ∙ after-go cone_step (cs, inside ns) (cs, inside (ns ++ m ∷ [])) t (more ++ rest) (number_goes cs ns t m number)
    ∙ numbers_given ms more are cs (ns ++ m ∷ []) rest
    ∙ ap (λ l. after cone_step (cs ++ l ∷ [], before) rest) (append_assoc ns (m ∷ []) ms)

cone_given : (c : List ℕ) (first : Texts) → IsConeNumbersText first c → (cs : Cones) (rest : Texts) →
    after cone_step (cs, before) (first ++ rest) ≡ after cone_step (cs ++ c ∷ [], before) rest
cone_given c first (more, is, are) cs rest =
    ap (λ l. after cone_step (cs, before) (l ++ rest)) is
    ∙ after-go cone_step (cs, before) (cs, inside []) brace (more ++ rest) refl
    ∙ numbers_given c more are cs [] rest

cones_from : (later : Cones) (ts : Texts) → AreConeTexts ts later → (cs : Cones) → From (cs, before) ts (cs ++ later)
cones_from [] ts is cs =
    ap (after cone_step (cs, before)) is
    ∙ after-done cone_step (cs, before) cs section_end refl
    ∙ ap ends (sym (append-nil cs))
cones_from (c ∷ later) ts (first, rest, is, cone, more) cs =
    ap (after cone_step (cs, before)) is
    ∙ cone_given c first cone cs rest
    ∙ cones_from later rest more (cs ++ c ∷ [])
    ∙ ap ends (append_assoc cs (c ∷ []) later)

-- ---- from each state some tokens lead to the end

abbrev Live : ConeState → Type 0
Live s = (ts : Texts) × (all : Cones) × From s ts all

by_token : (s u : ConeState) (t : List ℕ) → cone_step s t ≡ goes u → Live u → Live s
by_token s u t on l = (t ∷ l.0, l.1, after-go cone_step s u t l.0 on ∙ l.2)

before_live : (cs : Cones) → Live (cs, before)
before_live cs = (section_end ∷ [], cs, after-done cone_step (cs, before) cs section_end refl)

closed_live : (cs : Cones) (ns : List ℕ) → Live (cs, closed ns)
closed_live cs ns = by_token (cs, closed ns) (cs ++ ns ∷ [], before) line_end refl (before_live (cs ++ ns ∷ []))

is_live : (s : ConeState) → Live s
is_live (cs, before) = before_live cs
is_live (cs, inside ns) = by_token (cs, inside ns) (cs, closed ns) brace_end refl (closed_live cs ns)
is_live (cs, closed ns) = closed_live cs ns

-- ---- at no token the text has ended

abbrev IsNoEnd : ConeMove → Type 0
IsNoEnd m = m ≡ halt Ended → ⊥

either : (b : Bool) (x y : ConeMove) → IsNoEnd x → IsNoEnd y → IsNoEnd (if b then x else y)
either true x y h k = h
either false x y h k = k

no_end : (s : ConeState) (t : List ℕ) → IsNoEnd (cone_step s t)
no_end (cs, before) t = either (bytes_eq t section_end) (ends cs) (if bytes_eq t brace then goes (cs, inside []) else stops Unexpected) (λ e. cc)
    (either (bytes_eq t brace) (goes (cs, inside [])) (stops Unexpected) (λ e. cc) (λ e. cc))
no_end (cs, inside ns) t =
    let number = if nat_le (decimal_value t) most_number then goes (cs, inside (ns ++ decimal_value t ∷ [])) else stops TooWide in
    either (bytes_eq t brace_end) (goes (cs, closed ns)) (if is_number t then number else stops Unexpected) (λ e. cc)
    (either (is_number t) number (stops Unexpected) (either (nat_le (decimal_value t) most_number)
    (goes (cs, inside (ns ++ decimal_value t ∷ []))) (stops TooWide) (λ e. cc) (λ e. cc)) (λ e. cc))
no_end (cs, closed ns) t = either (bytes_eq t line_end) (goes (cs ++ ns ∷ [], before)) (stops Unexpected) (λ e. cc) (λ e. cc)

-- the machine reads exactly the grammar
pub cone_machine : IsMachineOf cone_step cone_start AreConeTexts
cone_machine = record {
  said = cones_said;
  given = λ ts all h. cones_from all ts h [];
  live = is_live;
  tells = no_end;
}
