-- The machine of lists reads exactly what the grammar of lists says, where that of the items does so.
-- To cite: list_machine, list_gate, list_causes. The rest are steps.
use Rattle.std.proofs.Common.{◌≡◌, ℕ, Bool, true, false, List, [], ◌∷◌, ◌++◌, Option, Some, refl, sym, ap, subst, ◌∙◌, ◌⊎◌, inl, inr, append_assoc, append-nil}
use Rattle.std.proofs.Common.{bytes_eq, if◌then◌else◌}
use Rattle.gf_text.specs.declared.error.Cause.{Cause}
use Rattle.gf_text.specs.declared.error.Cause.TheVariants.{Ended, Unexpected, RepeatedName, ZeroDenominator, TooWide, UnknownName}
use Rattle.gf_text.specs.Machine.{Move, go, done, halt, after, followed}
use Rattle.gf_text.specs.Marks.{comma, brace, brace_end}
use Rattle.gf_text.specs.Tokens.{is_number}
use Rattle.gf_text.specs.SetText.{variable, is_word}
use Rattle.gf_text.specs.ListText.{AreMoreItems, IsListText, ListPlace, opening, first_item, inside, behind_item, ListState, in_item, list_step}
use Rattle.gf_text.proofs.MachineLaws.{after-go, after-done, first, not_yet, IsMachineOf, Then, From, move, chosen, halted, ended}
use Rattle.gf_text.proofs.KindsLaws.{refused_by, NoNumbers, Numbers, NoWords, Words, Reason, IsGate, IsNumberCause, one}
use Rattle.gf_text.proofs.SetTokensLaws.{is_mark, number_no_mark, word_no_mark}

abbrev Texts : Type 0
Texts = List (List ℕ)

module _ {S A : Type 0} (step : S → List ℕ → Move S A) (start : S) where
  abbrev At : Type 0
  At = ListState S A

  abbrev goes : At → Move At (List A)
  goes s = go s

  abbrev ends : List A → Move At (List A)
  ends xs = done xs

  abbrev stops : Cause → Move At (List A)
  stops cause = halt cause

module _ {S A : Type 0} {step : S → List ℕ → Move S A} {start : S} {item : Texts → A → Type 0} (is : IsMachineOf step start item) where
  -- ---- what is read from each place on

  -- behind an item: more items, the brace
  record More (before : List A) (ts : Texts) (all : List A) : Type 0 where
    items : Texts
    later : List A
    tokens : ts ≡ items ++ brace_end ∷ []
    are_items : AreMoreItems item items later
    whole : all ≡ before ++ later

  -- in an item, from this state on: the rest of it, and what follows it
  record Within (s : S) (before : List A) (ts : Texts) (all : List A) : Type 0 where
    front : Texts
    x : A
    rest : Texts
    tokens : ts ≡ front ++ rest
    read : after step s front ≡ done x
    more : More (before ++ x ∷ []) rest all

  -- behind the first brace: the other one, or an item
  abbrev First : List A → Texts → List A → Type 0
  First before ts all = ((ts ≡ brace_end ∷ []) × (all ≡ before)) ⊎ Within start before ts all

  Said : ListPlace S → List A → Texts → List A → Type 0
  Said opening before ts all = (rest : Texts) × (ts ≡ brace ∷ rest) × First before rest all
  Said first_item before ts all = First before ts all
  Said (inside s) before ts all = Within s before ts all
  Said behind_item before ts all = More before ts all

  -- what follows a token
  Later : Texts → Type 0
  Later ts = (place : ListPlace S) (before all : List A) → From (list_step step start) (place, before) ts all → Said place before ts all

  one_more : (before : List A) (t : List ℕ) (ts : Texts) (all : List A) → t ≡ comma → Within start before ts all → More before (t ∷ ts) all
  one_more before t ts all mark n = record {
    items = comma ∷ (n.front ++ n.more.items);
    later = n.x ∷ n.more.later;
    tokens = ap (λ y. y ∷ ts) mark ∙ ap (λ l. comma ∷ l) (n.tokens ∙ ap (λ l. n.front ++ l) n.more.tokens ∙
        sym (append_assoc n.front n.more.items (brace_end ∷ [])));
    are_items = (n.front, n.more.items, refl, is.said n.front n.x n.read, n.more.are_items);
    whole = n.more.whole ∙ append_assoc before (n.x ∷ []) n.more.later;
  }

  at_end : (before : List A) (t : List ℕ) (ts : Texts) (all : List A) → t ≡ brace_end → ts ≡ [] → all ≡ before → More before (t ∷ ts) all
  at_end before t ts all mark none e = record {
    items = [];
    later = [];
    tokens = ap (λ y. y ∷ ts) mark ∙ ap (λ l. brace_end ∷ l) none;
    are_items = refl;
    whole = e ∙ sym (append-nil before);
  }

  -- ---- what is read, token by token

  module _ (t : List ℕ) (ts : Texts) (later : Later ts) where
    item_by : (s : S) (m : Move S A) → step s t ≡ m → (before all : List A) → Then (list_step step start) (in_item before m) ts all →
        Within s before (t ∷ ts) all
    unfolding Said Later
    item_by s (go u) on before all e =
        let w = later (inside u) before all e in
        record {
          front = t ∷ w.front;
          x = w.x;
          rest = w.rest;
          tokens = ap (λ l. t ∷ l) w.tokens;
          read = after-go step s u t w.front on ∙ w.read;
          more = w.more;
        }
    item_by s (done x) on before all e = record {
      front = t ∷ [];
      x = x;
      rest = ts;
      tokens = refl;
      read = after-done step s x t on;
      more = later behind_item (before ++ x ∷ []) all e;
    }
    item_by s (halt cause) on before all e = cc

    on_token : (place : ListPlace S) (before all : List A) → Then (list_step step start) (list_step step start (place, before) t) ts all →
        Said place before (t ∷ ts) all
    unfolding Said Later
    on_token opening before all e = elim (chosen (list_step step start) (bytes_eq t brace) (go (first_item, before)) (halt Unexpected) ts all e) [
      | inl h ↦ (ts, ap (λ y. y ∷ ts) (is_mark t brace h.0), later first_item before all h.1)
      | inr h ↦ halted (list_step step start) Unexpected ts all h.1
    ]
    on_token first_item before all e = elim (chosen (list_step step start) (bytes_eq t brace_end) (done before) (in_item before (step start t)) ts all e) [
      | inl h ↦ (let end = ended (list_step step start) before ts all h.1 in inl (
        ap (λ y. y ∷ ts) (is_mark t brace_end h.0) ∙ ap (λ l. brace_end ∷ l) end.0,
        end.1,
      ))
      | inr h ↦ inr (item_by start (step start t) refl before all h.1)
    ]
    on_token (inside s) before all e = item_by s (step s t) refl before all e
    on_token behind_item before all e = elim (chosen (list_step step start) (bytes_eq t comma)
        (go (inside start, before)) (if bytes_eq t brace_end then done before else halt Unexpected) ts all e) [
          | inl h ↦ one_more before t ts all (is_mark t comma h.0) (later (inside start) before all h.1)
          | inr h ↦ elim (chosen (list_step step start) (bytes_eq t brace_end) (done before) (halt Unexpected) ts all h.1) [
            | inl k ↦ (let end = ended (list_step step start) before ts all k.1 in at_end before t ts all (is_mark t brace_end k.0) end.0 end.1)
            | inr k ↦ halted (list_step step start) Unexpected ts all k.1
          ]
        ]

  said : (ts : Texts) → Later ts
  unfolding Later
  said [] place before all e = absurd (not_yet (list_step step start) (place, before) all e)
  said (t ∷ ts) place before all e = on_token t ts (λ q b a f. said ts q b a f) place before all (move (list_step step start) (place, before) t ts all e)

  list_by : (ts rest : Texts) (all : List A) → ts ≡ brace ∷ rest → First [] rest all → IsListText item ts all
  list_by ts rest all mark (inl h) = subst (λ (xs : List A). IsListText item ts xs) (sym h.1) (mark ∙ ap (λ l. brace ∷ l) h.0)
  list_by ts rest all mark (inr n) = subst (λ (xs : List A). IsListText item ts xs) (sym n.more.whole) (
    n.front,
    n.more.items,
    mark ∙ ap (λ l. brace ∷ l) (n.tokens ∙ ap (λ l. n.front ++ l) n.more.tokens),
    is.said n.front n.x n.read,
    n.more.are_items,
  )

  list_said : (ts : Texts) (all : List A) → From (list_step step start) (opening, []) ts all → IsListText item ts all
  unfolding Said Later
  list_said ts all e = let s = said ts opening [] all e in list_by ts s.0 all s.1 s.2

  -- ---- a list's text is read

  in_read : (s : S) (front : Texts) (x : A) → after step s front ≡ done x → (before : List A) (rest : Texts) →
      after (list_step step start) (inside s, before) (front ++ rest) ≡ after (list_step step start) (behind_item, before ++ x ∷ []) rest
  in_read s [] x e before rest = absurd (not_yet step s x e)
  in_read s (t ∷ front) x e before rest = elim (first step s t front x e) [
    | inl g ↦ after-go (list_step step start) (inside s, before) (inside g.0, before) t (front ++ rest) (ap (in_item before) g.1) ∙
        in_read g.0 front x g.2 before rest
    | inr d ↦ after-go (list_step step start) (inside s, before) (behind_item, before ++ x ∷ []) t (front ++ rest) (ap (in_item before) d.0) ∙
        ap (λ l. after (list_step step start) (behind_item, before ++ x ∷ []) (l ++ rest)) d.1
  ]

  same_after : (s u : ListState S A) (t : List ℕ) (ts : Texts) → list_step step start s t ≡ list_step step start u t →
      after (list_step step start) s (t ∷ ts) ≡ after (list_step step start) u (t ∷ ts)
  unfolding after
  same_after s u t ts e = ap (λ m. followed m ts (λ v. after (list_step step start) v ts)) e

  module _ (refuses_end : (cause : Cause) × (step start brace_end ≡ halt cause)) where
    -- an item doesn't begin with the brace that ends a list
    no_end : (t : List ℕ) (front : Texts) (x : A) → after step start (t ∷ front) ≡ done x → bytes_eq t brace_end ≡ false
    no_end t front x e = by (bytes_eq t brace_end) refl
      where
        by : (b : Bool) → bytes_eq t brace_end ≡ b → b ≡ false
        by false h = refl
        by true h =
            let stop : step start t ≡ halt (refuses_end.0) = ap (step start) (is_mark t brace_end h) ∙ refuses_end.1 in
            elim (first step start t front x e) [
              | inl g ↦ (let on = g.1 in absurd (let none : ⊥ = cc in none))
              | inr d ↦ (let on = d.0 in absurd (let none : ⊥ = cc in none))
            ]

    first_read : (front : Texts) (x : A) → after step start front ≡ done x → (before : List A) (rest : Texts) →
        after (list_step step start) (first_item, before) (front ++ rest) ≡ after (list_step step start) (behind_item, before ++ x ∷ []) rest
    first_read [] x e before rest = absurd (not_yet step start x e)
    first_read (t ∷ front) x e before rest =
        let other = no_end t front x e in
        let same : list_step step start (first_item, before) t ≡ list_step step start (inside start, before) t = rw other refl in
        same_after (first_item, before) (inside start, before) t (front ++ rest) same ∙ in_read start (t ∷ front) x e before rest

    more_given : (xs : List A) (ts : Texts) → AreMoreItems item ts xs → (before : List A) →
        From (list_step step start) (behind_item, before) (ts ++ brace_end ∷ []) (before ++ xs)
    more_given [] ts none before =
        ap (λ l. after (list_step step start) (behind_item, before) (l ++ brace_end ∷ [])) none
        ∙ after-done (list_step step start) (behind_item, before) before brace_end refl
        ∙ ap (ends step start) (sym (append-nil before))
    more_given (x ∷ xs) ts (front, rest, shape, one_item, more) before =
        let end = brace_end ∷ [] in
        ap (λ l. after (list_step step start) (behind_item, before) (l ++ end)) shape
        ∙ after-go (list_step step start) (behind_item, before) (inside start, before) comma ((front ++ rest) ++ end) refl
        ∙ ap (after (list_step step start) (inside start, before)) (append_assoc front rest end)
        ∙ in_read start front x (is.given front x one_item) before (rest ++ end)
        ∙ more_given xs rest more (before ++ x ∷ [])
        ∙ ap (ends step start) (append_assoc before (x ∷ []) xs)

    list_given : (ts : Texts) (xs : List A) → IsListText item ts xs → From (list_step step start) (opening, []) ts xs
    list_given ts [] shape =
        ap (after (list_step step start) (opening, [])) shape
        ∙ after-go (list_step step start) (opening, []) (first_item, []) brace (brace_end ∷ []) refl
        ∙ after-done (list_step step start) (first_item, []) [] brace_end refl
    list_given ts (x ∷ xs) (front, rest, shape, one_item, more) =
        let end = brace_end ∷ [] in
        ap (after (list_step step start) (opening, [])) shape
        ∙ after-go (list_step step start) (opening, []) (first_item, []) brace (front ++ (rest ++ end)) refl
        ∙ first_read front x (is.given front x one_item) [] (rest ++ end)
        ∙ more_given xs rest more (x ∷ [])

    -- ---- from each state some tokens lead to a list

    abbrev Live : ListState S A → Type 0
    Live s = (ts : Texts) × (xs : List A) × From (list_step step start) s ts xs

    behind_live : (xs : List A) → From (list_step step start) (behind_item, xs) (brace_end ∷ []) xs
    behind_live xs = after-done (list_step step start) (behind_item, xs) xs brace_end refl

    is_live : (s : ListState S A) → Live s
    is_live (opening, xs) = (
      brace ∷ brace_end ∷ [],
      xs,
      after-go (list_step step start) (opening, xs) (first_item, xs) brace (brace_end ∷ []) refl ∙
          after-done (list_step step start) (first_item, xs) xs brace_end refl,
    )
    is_live (first_item, xs) = (brace_end ∷ [], xs, after-done (list_step step start) (first_item, xs) xs brace_end refl)
    is_live (inside s, xs) =
        let l = is.live s in
        (l.0 ++ brace_end ∷ [], xs ++ l.1 ∷ [], in_read s l.0 l.1 l.2 xs (brace_end ∷ []) ∙ behind_live (xs ++ l.1 ∷ []))
    is_live (behind_item, xs) = (brace_end ∷ [], xs, behind_live xs)

    -- ---- causes

    item_halts : (xs : List A) (m : Move S A) (cause : Cause) → in_item xs m ≡ halt cause → m ≡ halt cause
    item_halts xs (go s) cause e = cc
    item_halts xs (done x) cause e = cc
    item_halts xs (halt other) cause e = let same : other ≡ cause = cc in ap (λ c. halt c) same

    -- the cause is that nothing can stand there, or that of an item
    item_cause : (s : ListState S A) (t : List ℕ) (cause : Cause) → list_step step start s t ≡ halt cause →
        (cause ≡ Unexpected) ⊎ ((u : S) × (step u t ≡ halt cause))
    item_cause (opening, xs) t cause e = by (bytes_eq t brace) e
      where
        by : (b : Bool) → (if b then goes step start (first_item, xs) else stops step start Unexpected) ≡ stops step start cause →
            (cause ≡ Unexpected) ⊎ ((u : S) × (step u t ≡ halt cause))
        by true f = cc
        by false f = inl cc
    item_cause (first_item, xs) t cause e = by (bytes_eq t brace_end) e
      where
        by : (b : Bool) → (if b then ends step start xs else in_item xs (step start t)) ≡ stops step start cause →
            (cause ≡ Unexpected) ⊎ ((u : S) × (step u t ≡ halt cause))
        by true f = cc
        by false f = inr (start, item_halts xs (step start t) cause f)
    item_cause (inside s, xs) t cause e = inr (s, item_halts xs (step s t) cause e)
    item_cause (behind_item, xs) t cause e = by (bytes_eq t comma) (bytes_eq t brace_end) e
      where
        by : (b c : Bool) → (if b then goes step start (inside start, xs) else if c then ends step start xs else stops step start Unexpected) ≡
            stops step start cause → (cause ≡ Unexpected) ⊎ ((u : S) × (step u t ≡ halt cause))
        by true c f = cc
        by false true f = cc
        by false false f = inl cc

    list_tells : (s : ListState S A) (t : List ℕ) → list_step step start s t ≡ halt Ended → ⊥
    list_tells s t e = elim (item_cause s t Ended e) [
      | inl h ↦ (let no = h in let none : ⊥ = cc in none)
      | inr h ↦ is.tells h.0 t h.1
    ]

    -- the machine of lists reads exactly the grammar of lists
    pub list_machine : IsMachineOf (list_step step start) (opening, []) (IsListText item)
    list_machine = record { said = list_said; given = list_given; live = is_live; tells = list_tells }

    -- where numbers alone are told apart in the items, they are in a list
    pub list_causes : ((s : S) (t : List ℕ) (cause : Cause) → step s t ≡ halt cause → IsNumberCause cause) → (s : ListState S A) (t : List ℕ) (cause : Cause) →
        list_step step start s t ≡ halt cause → IsNumberCause cause
    list_causes causes s t cause e = elim (item_cause s t cause e) [
      | inl h ↦ subst IsNumberCause (sym h) tt
      | inr h ↦ causes h.0 t cause h.1
    ]

-- ---- what is taken in each state of a list

module _ (ring : Texts) (named : (t : List ℕ) (v : ℕ) → variable ring t ≡ Some v → is_word t ≡ true) (old new : List ℕ → Option Cause)
    (numbers_same : (t : List ℕ) → is_number t ≡ true → new t ≡ old t) (words_same : (t : List ℕ) → is_word t ≡ true → new t ≡ old t) where
  new_numbers : Numbers old → Numbers new
  new_numbers n = record {
    limit = n.limit;
    takes = numbers_same one refl ∙ n.takes;
    wide = λ t digits above. numbers_same t digits ∙ n.wide t digits above;
    small = λ t digits e. n.small t digits (sym (numbers_same t digits) ∙ e);
    expected = λ t digits e. n.expected t digits (sym (numbers_same t digits) ∙ e);
  }

  new_words : Words ring old → Words ring new
  new_words w = record {
    name = w.name;
    number = w.number;
    is = w.is;
    takes = words_same w.name (named w.name w.number w.is) ∙ w.takes;
    expected = λ t word e. w.expected t word (sym (words_same t word) ∙ e);
  }

  either_numbers : NoNumbers old ⊎ Numbers old → NoNumbers new ⊎ Numbers new
  either_numbers (inl none) = inl (λ t digits. numbers_same t digits ∙ none t digits)
  either_numbers (inr n) = inr (new_numbers n)

  either_words : NoWords old ⊎ Words ring old → NoWords new ⊎ Words ring new
  either_words (inl none) = inl (λ t word. words_same t word ∙ none t word)
  either_words (inr w) = inr (new_words w)

  new_reason : (t : List ℕ) (cause : Cause) → Reason ring old t cause → Reason ring new t cause
  new_reason t Ended r = r
  new_reason t Unexpected r = r
  new_reason t RepeatedName r = r
  new_reason t ZeroDenominator r = (new_numbers r.0, r.1, r.2)
  new_reason t TooWide r = (new_numbers r.0, r.1)
  new_reason t UnknownName r = (new_words r.0, r.1)

  -- what agrees on numbers and letters, and refuses nothing else for another cause, takes them as the other does
  like_gate : ((t : List ℕ) (cause : Cause) → new t ≡ Some cause → old t ≡ Some cause) → IsGate ring old → IsGate ring new
  like_gate causes g = record {
    numbers = either_numbers g.numbers;
    words = either_words g.words;
    reason = λ t cause e. new_reason t cause (g.reason t cause (causes t cause e));
  }

-- what takes marks alone
marks_gate : (ring : Texts) (refuses : List ℕ → Option Cause) → ((t : List ℕ) → is_number t ≡ true → refuses t ≡ Some Unexpected) →
    ((t : List ℕ) → is_word t ≡ true → refuses t ≡ Some Unexpected) → ((t : List ℕ) (cause : Cause) → refuses t ≡ Some cause → cause ≡ Unexpected) →
    IsGate ring refuses
marks_gate ring refuses numbers words causes = record {
  numbers = inl numbers;
  words = inl words;
  reason = λ t cause e. subst (Reason ring refuses t) (sym (causes t cause e)) tt;
}

module _ {S A : Type 0} (step : S → List ℕ → Move S A) (start : S) (ring : Texts) (named : (t : List ℕ) (v : ℕ) → variable ring t ≡ Some v →
    is_word t ≡ true) (gates : (s : S) → IsGate ring (λ t. refused_by (step s t))) where
  abbrev list_gate_of : ListState S A → List ℕ → Option Cause
  list_gate_of s t = refused_by (list_step step start s t)

  item_refuses : (xs : List A) (m : Move S A) → refused_by (in_item xs m) ≡ refused_by m
  item_refuses xs (go s) = refl
  item_refuses xs (done x) = refl
  item_refuses xs (halt cause) = refl

  first_causes : (xs : List A) (t : List ℕ) (cause : Cause) → list_gate_of (first_item, xs) t ≡ Some cause → refused_by (step start t) ≡ Some cause
  first_causes xs t cause e = by (bytes_eq t brace_end) e
    where
      by : (b : Bool) → refused_by (if b then ends step start xs else in_item xs (step start t)) ≡ Some cause → refused_by (step start t) ≡ Some cause
      by true f = cc
      by false f = sym (item_refuses xs (step start t)) ∙ f

  opening_causes : (xs : List A) (t : List ℕ) (cause : Cause) → list_gate_of (opening, xs) t ≡ Some cause → cause ≡ Unexpected
  opening_causes xs t cause e = by (bytes_eq t brace) e
    where
      by : (b : Bool) → refused_by (if b then goes step start (first_item, xs) else stops step start Unexpected) ≡ Some cause → cause ≡ Unexpected
      by true f = cc
      by false f = cc

  behind_causes : (xs : List A) (t : List ℕ) (cause : Cause) → list_gate_of (behind_item, xs) t ≡ Some cause → cause ≡ Unexpected
  behind_causes xs t cause e = by (bytes_eq t comma) (bytes_eq t brace_end) e
    where
      by : (b c : Bool) → refused_by (if b then goes step start (inside start, xs) else if c then ends step start xs else stops step start Unexpected) ≡
          Some cause → cause ≡ Unexpected
      by true c f = cc
      by false true f = cc
      by false false f = cc

  -- in each state of a list numbers and letters are taken as the kinds of faults say
  pub list_gate : (s : ListState S A) → IsGate ring (λ t. refused_by (list_step step start s t))
  list_gate (opening, xs) = marks_gate ring (list_gate_of (opening, xs)) (λ t digits. rw (number_no_mark t 123 digits refl) refl)
      (λ t word. rw (word_no_mark t 123 word refl) refl) (opening_causes xs)
  list_gate (first_item, xs) =
      like_gate ring named (λ t. refused_by (step start t)) (list_gate_of (first_item, xs))
      (λ t digits. rw (number_no_mark t 125 digits refl) (item_refuses xs (step start t)))
      (λ t word. rw (word_no_mark t 125 word refl) (item_refuses xs (step start t)))
      (first_causes xs) (gates start)
  list_gate (inside s, xs) =
      like_gate ring named (λ t. refused_by (step s t)) (list_gate_of (inside s, xs)) (λ t digits. item_refuses xs (step s t))
      (λ t word. item_refuses xs (step s t))
      (λ t cause e. sym (item_refuses xs (step s t)) ∙ e) (gates s)
  list_gate (behind_item, xs) =
      marks_gate ring (list_gate_of (behind_item, xs)) (λ t digits. rw (number_no_mark t 44 digits refl, number_no_mark t 125 digits refl) refl)
      (λ t word. rw (word_no_mark t 44 word refl, word_no_mark t 125 word refl) refl) (behind_causes xs)
