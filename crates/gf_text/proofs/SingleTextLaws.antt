-- Items of a single token: each is read as its grammar says.
-- To cite: dimension_read, dimension_fault, dimension_once, no_dimension_same; name_read, name_fault, new_name_once, no_name_same. The rest are steps.
use Rattle.std.proofs.Common.{◌≡◌, ◌≤◌, ◌<◌, ℕ, nat_le, Bool, true, false, Err, List, [], ◌∷◌, length, refl, sym, ap, subst, ◌∙◌, ◌⊎◌, inl, inr, arith}
use Rattle.std.proofs.Common.{if◌then◌else◌}
use Rattle.gf_text.specs.declared.error.Cause.{Cause}
use Rattle.gf_text.specs.declared.error.Cause.TheVariants.{Ended, Unexpected, RepeatedName, ZeroDenominator, TooWide, UnknownName}
use Rattle.gf_text.specs.declared.error.TextError.{TextError}
use Rattle.gf_text.specs.Machine.{Lexeme, behind, Move, go, done, halt, Fault, run, after, Reads, HasOneMeaning}
use Rattle.gf_text.specs.Tokens.{is_number, decimal_value, lexemes, word_more, Position}
use Rattle.gf_text.specs.RingText.{is_name, has}
use Rattle.gf_text.specs.SetText.{IsNumberText}
use Rattle.gf_text.specs.VectorText.{most_entry}
use Rattle.gf_text.specs.Kinds.{IsNumberKind}
use Rattle.gf_text.specs.Refusing.{refusal}
use Rattle.gf_text.specs.SingleText.{IsDimensionText, IsNewNameText, IsNewNameKind}
use Rattle.gf_text.specs.Singles.{HasNoDimension, HasNoName}
use Rattle.gf_text.proofs.MachineLaws.{after-done, first, not_yet, run_done, reads, one_meaning, IsMachineOf, no_text}
use Rattle.gf_text.proofs.KindsLaws.{refused_by, halts, Numbers, Reason, IsGate, IsNumberCause, gate_number_kind, one}
use Rattle.gf_text.proofs.FaultsLaws.{IsOneKind, number_kind_once, no_text_once}
use Rattle.gf_text.proofs.SetTokensLaws.{word_no_number, number_within, le_from, not_le, le_false}
use Rattle.gf_text.proofs.RingTextLaws.{long_name, long_is_name, long_is_new}

-- ---- machines that are done with a single token

abbrev pub Nothing : Type 0
Nothing = Unit {0}

module _ {A : Type 0} (takes : List ℕ → Move Nothing A) where
  abbrev pub single_step : Nothing → List ℕ → Move Nothing A
  single_step u t = takes t

  -- each token is all of an item, or can't stand there
  record IsSingle (grammar : List (List ℕ) → A → Type 0) : Type 0 where
    said : (t : List ℕ) (a : A) → takes t ≡ done a → grammar (t ∷ []) a
    given : (ts : List (List ℕ)) (a : A) → grammar ts a → (t : List ℕ) × (ts ≡ t ∷ []) × (takes t ≡ done a)
    some : (t : List ℕ) × (a : A) × (takes t ≡ done a)
    tells : (t : List ℕ) → takes t ≡ halt Ended → ⊥
    never : (t : List ℕ) (u : Nothing) → takes t ≡ go u → ⊥

  module _ (grammar : List (List ℕ) → A → Type 0) (is : IsSingle grammar) where
    single_said : (ts : List (List ℕ)) (a : A) → after single_step tt ts ≡ done a → grammar ts a
    single_said [] a e = absurd (not_yet single_step tt a e)
    single_said (t ∷ ts) a e = elim (first single_step tt t ts a e) [
      | inl g ↦ absurd (is.never t g.0 g.1)
      | inr d ↦ subst (λ l. grammar (t ∷ l) a) (sym d.1) (is.said t a d.0)
    ]

    single_given : (ts : List (List ℕ)) (a : A) → grammar ts a → after single_step tt ts ≡ done a
    single_given ts a g = let x = is.given ts a g in ap (after single_step tt) x.1 ∙ after-done single_step tt a x.0 x.2

    single_machine : IsMachineOf single_step tt grammar
    single_machine = record {
      said = single_said;
      given = single_given;
      live = λ s. (is.some.0 ∷ [], is.some.1, after-done single_step s is.some.1 is.some.0 is.some.2);
      tells = λ s t e. is.tells t e;
    }

    -- a token that is an item is read
    single_read : (end : ℕ) (xs ys : List Lexeme) (x : Lexeme) (a : A) → xs ≡ x ∷ ys → takes x.text ≡ done a → Reads grammar xs a (behind x)
    single_read end xs ys x a tokens e = reads single_step grammar tt end xs a (behind x) (λ ts. single_said ts a)
        (run_done single_step tt a end xs x ys tokens e)

-- ---- dimensions

abbrev pub takes_dimension : List ℕ → Move Nothing ℕ
takes_dimension t = if is_number t then (if nat_le (decimal_value t) most_entry then done (decimal_value t) else halt TooWide) else halt Unexpected

dimension_by : (t : List ℕ) (m : Move Nothing ℕ) (b c : Bool) → is_number t ≡ b → nat_le (decimal_value t) most_entry ≡ c
    → (if b then (if c then done (decimal_value t) else halt TooWide) else halt Unexpected) ≡ m → (n : ℕ) → m ≡ done n → IsDimensionText (t ∷ []) n
dimension_by t m true true digits small is n e =
    let got : done (decimal_value t) ≡ done n = is ∙ e in
    let same : decimal_value t ≡ n = cc in
    (t, refl, (digits, same, (let le = le_from (decimal_value t) most_entry small in omega arith)))
dimension_by t m true false digits small is n e = let no : halt TooWide ≡ done n = is ∙ e in cc
dimension_by t m false c digits small is n e = let no : halt Unexpected ≡ done n = is ∙ e in cc

dimension_given : (ts : List (List ℕ)) (n : ℕ) → IsDimensionText ts n → (t : List ℕ) × (ts ≡ t ∷ []) × (takes_dimension t ≡ done n)
dimension_given ts n (t, shape, number) =
    let digits = number.0 in
    let within = number_within t n most_entry number in
    let here : takes_dimension t ≡ done (decimal_value t) = rw (digits, within) refl in
    (t, shape, here ∙ ap (λ k. done k) number.1)

abbrev stops : Cause → Move Nothing ℕ
stops cause = halt cause

abbrev ends : ℕ → Move Nothing ℕ
ends n = done n

-- what a cause says of the token
dimension_cause : (t : List ℕ) (cause : Cause) → takes_dimension t ≡ halt cause →
    (cause ≡ Unexpected) ⊎ ((cause ≡ TooWide) × (is_number t ≡ true) × (most_entry < decimal_value t))
dimension_cause t cause e = by (is_number t) (nat_le (decimal_value t) most_entry) refl refl e
  where
    by : (b c : Bool) → is_number t ≡ b → nat_le (decimal_value t) most_entry ≡ c →
        (if b then (if c then done (decimal_value t) else stops TooWide) else stops Unexpected) ≡ stops cause
        → (cause ≡ Unexpected) ⊎ ((cause ≡ TooWide) × (is_number t ≡ true) × (most_entry < decimal_value t))
    by true true digits small f = cc
    by true false digits small f = inr (cc, digits, not_le (decimal_value t) most_entry small)
    by false c digits small f = inl cc

never_goes : (t : List ℕ) (u : Nothing) → takes_dimension t ≡ go u → ⊥
never_goes t u e = by (is_number t) (nat_le (decimal_value t) most_entry) e
  where
    by : (b c : Bool) → (if b then (if c then done (decimal_value t) else halt TooWide) else halt Unexpected) ≡ go u → ⊥
    by true true f = cc
    by true false f = cc
    by false c f = cc

wide_stops : (t : List ℕ) → is_number t ≡ true → most_entry < decimal_value t → takes_dimension t ≡ halt TooWide
wide_stops t digits above = let wide = le_false (decimal_value t) most_entry above in rw (digits, wide) refl

past_limit : (t : List ℕ) → takes_dimension t ≡ halt TooWide → most_entry < decimal_value t
past_limit t e = elim (dimension_cause t TooWide e) [
  | inl h ↦ cc
  | inr h ↦ h.2
]

not_ended : (t : List ℕ) → takes_dimension t ≡ halt Ended → ⊥
not_ended t e = elim (dimension_cause t Ended e) [
  | inl h ↦ cc
  | inr h ↦ (let no = h.0 in cc)
]

dimension_single : IsSingle takes_dimension IsDimensionText
dimension_single = record {
  said = λ t n e. dimension_by t (takes_dimension t) (is_number t) (nat_le (decimal_value t) most_entry) refl refl refl n e;
  given = dimension_given;
  some = (one, 1, refl);
  tells = not_ended;
  never = never_goes;
}

dimension_machine : IsMachineOf (single_step takes_dimension) tt IsDimensionText
dimension_machine = single_machine takes_dimension IsDimensionText dimension_single

dimension_numbers : Numbers (λ t. refused_by (takes_dimension t))
dimension_numbers = record {
  limit = most_entry;
  takes = refl;
  wide = λ n digits above. ap (λ m. refused_by m) (wide_stops n digits above);
  small = λ n digits e. past_limit n (halts (takes_dimension n) TooWide e);
  expected = λ n digits e. not_unexpected n digits (halts (takes_dimension n) Unexpected e);
}
  where
    not_unexpected : (n : List ℕ) → is_number n ≡ true → takes_dimension n ≡ halt Unexpected → ⊥
    not_unexpected n digits e = by (nat_le (decimal_value n) most_entry) (rw digits at e)
      where
        by : (c : Bool) → (if c then ends (decimal_value n) else stops TooWide) ≡ stops Unexpected → ⊥
        by true f = cc
        by false f = cc

dimension_gate : (s : Nothing) → IsGate [] (λ t. refused_by (takes_dimension t))
dimension_gate s = record {
  numbers = inr dimension_numbers;
  words = inl (λ t word. (let no = word_no_number t word in rw no refl));
  reason = λ t cause e. (elim (dimension_cause t cause (halts (takes_dimension t) cause e)) [
    | inl h ↦ subst (Reason [] (λ u. refused_by (takes_dimension u)) t) (sym h) tt
    | inr h ↦ subst (Reason [] (λ u. refused_by (takes_dimension u)) t) (sym h.0) (dimension_numbers, h.1)
  ]);
}

dimension_causes : (s : Nothing) (t : List ℕ) (cause : Cause) → takes_dimension t ≡ halt cause → IsNumberCause cause
dimension_causes s t cause e = elim (dimension_cause t cause e) [ inl h ↦ subst IsNumberCause (sym h) tt | inr h ↦ subst IsNumberCause (sym h.0) tt ]

pub dimension_once : HasOneMeaning IsDimensionText
dimension_once = one_meaning (single_step takes_dimension) IsDimensionText tt dimension_machine.given

pub dimension_read : (end : ℕ) (xs ys : List Lexeme) (x : Lexeme) (n : ℕ) → xs ≡ x ∷ ys → is_number x.text ≡ true → decimal_value x.text ≡ n → n ≤ most_entry →
    Reads IsDimensionText xs n (behind x)
dimension_read end xs ys x n tokens digits is small =
    let number : IsNumberText x.text n most_entry = (digits, is, small) in
    let within = number_within x.text n most_entry number in
    let here : takes_dimension x.text ≡ done (decimal_value x.text) = rw (digits, within) refl in
    single_read takes_dimension IsDimensionText dimension_single end xs ys x n tokens (here ∙ ap (λ k. done k) is)

pub dimension_fault : (old : Position) (f : Fault) → run (single_step takes_dimension) tt (length old.source) (lexemes word_more old.source old.at) ≡ Err f →
    HasNoDimension old (refusal f)
dimension_fault old f e =
    no_text dimension_machine (IsNumberKind IsDimensionText) (gate_number_kind dimension_machine dimension_gate dimension_causes) (length old.source)
    (lexemes word_more old.source old.at) (refusal f) (f, e, refl)

-- where none is read the refusal is one
pub no_dimension_same : (old : Position) (e d : TextError) → HasNoDimension old e → HasNoDimension old d → d ≡ e
no_dimension_same old e d h k = no_text_once IsDimensionText (IsNumberKind IsDimensionText) (number_kind_once IsDimensionText)
    (lexemes word_more old.source old.at) (length old.source) d e k h

-- ---- names of new variables

module _ (names : List (List ℕ)) where
  abbrev pub takes_name : List ℕ → Move Nothing (List ℕ)
  takes_name t = if is_name t then (if has names t then halt RepeatedName else done t) else halt Unexpected

  abbrev name_stops : Cause → Move Nothing (List ℕ)
  name_stops cause = halt cause

  abbrev name_done : List ℕ → Move Nothing (List ℕ)
  name_done t = done t

  name_said : (t n : List ℕ) → takes_name t ≡ done n → IsNewNameText names (t ∷ []) n
  name_said t n e = by (is_name t) (has names t) refl refl e
    where
      by : (b c : Bool) → is_name t ≡ b → has names t ≡ c → (if b then (if c then name_stops RepeatedName else name_done t) else name_stops Unexpected) ≡
          name_done n → IsNewNameText names (t ∷ []) n
      by true true named there f = cc
      by true false named new f = let same : t ≡ n = cc in (
        ap (λ x. x ∷ []) same,
        subst (λ x. is_name x ≡ true) same named,
        subst (λ x. has names x ≡ false) same new,
      )
      by false c named there f = cc

  name_given : (ts : List (List ℕ)) (n : List ℕ) → IsNewNameText names ts n → (t : List ℕ) × (ts ≡ t ∷ []) × (takes_name t ≡ done n)
  name_given ts n (shape, named, new) = (n, shape, rw (named, new) refl)

  name_kind : (ts : List (List ℕ)) (t : List ℕ) (cause : Cause) → takes_name t ≡ halt cause → IsNewNameKind names ts t cause
  name_kind ts t cause e = by (is_name t) (has names t) refl refl e
    where
      by : (b c : Bool) → is_name t ≡ b → has names t ≡ c → (if b then (if c then name_stops RepeatedName else name_done t) else name_stops Unexpected) ≡
          name_stops cause → IsNewNameKind names ts t cause
      by true true named there f = let same : RepeatedName ≡ cause = cc in subst (IsNewNameKind names ts t) same (named, there)
      by true false named new f = cc
      by false c named there f = let same : Unexpected ≡ cause = cc in subst (IsNewNameKind names ts t) same named

  name_never : (t : List ℕ) (u : Nothing) → takes_name t ≡ go u → ⊥
  name_never t u e = by (is_name t) (has names t) e
    where
      by : (b c : Bool) → (if b then (if c then name_stops RepeatedName else name_done t) else name_stops Unexpected) ≡ go u → ⊥
      by true true f = cc
      by true false f = cc
      by false c f = cc

  name_single : IsSingle takes_name (IsNewNameText names)
  name_single = record {
    said = name_said;
    given = name_given;
    some = (long_name names, long_name names, rw (long_is_name names, long_is_new names) refl);
    tells = λ t e. name_kind [] t Ended e;
    never = name_never;
  }

  name_machine : IsMachineOf (single_step takes_name) tt (IsNewNameText names)
  name_machine = single_machine takes_name (IsNewNameText names) name_single

  pub new_name_once : HasOneMeaning (IsNewNameText names)
  new_name_once = one_meaning (single_step takes_name) (IsNewNameText names) tt name_machine.given

  pub name_read : (end : ℕ) (xs ys : List Lexeme) (x : Lexeme) → xs ≡ x ∷ ys → is_name x.text ≡ true → has names x.text ≡ false →
      Reads (IsNewNameText names) xs x.text (behind x)
  name_read end xs ys x tokens named new = single_read takes_name (IsNewNameText names) name_single end xs ys x x.text tokens (rw (named, new) refl)

  pub name_fault : (old : Position) (f : Fault) → run (single_step takes_name) tt (length old.source) (lexemes word_more old.source old.at) ≡ Err f →
      HasNoName names old (refusal f)
  name_fault old f e = no_text name_machine (IsNewNameKind names) (λ ts s t cause reached h. name_kind ts t cause h) (length old.source)
      (lexemes word_more old.source old.at) (refusal f) (f, e, refl)

  new_name_kind_once : IsOneKind (IsNewNameKind names)
  new_name_kind_once ts t Unexpected Unexpected h k = refl
  new_name_kind_once ts t Unexpected RepeatedName h k = cc
  new_name_kind_once ts t RepeatedName Unexpected h k = cc
  new_name_kind_once ts t RepeatedName RepeatedName h k = refl
  new_name_kind_once ts t Ended d h k = absurd h
  new_name_kind_once ts t ZeroDenominator d h k = absurd h
  new_name_kind_once ts t TooWide d h k = absurd h
  new_name_kind_once ts t UnknownName d h k = absurd h
  new_name_kind_once ts t c Ended h k = absurd k
  new_name_kind_once ts t c ZeroDenominator h k = absurd k
  new_name_kind_once ts t c TooWide h k = absurd k
  new_name_kind_once ts t c UnknownName h k = absurd k

  -- where none is read the refusal is one
  pub no_name_same : (old : Position) (e d : TextError) → HasNoName names old e → HasNoName names old d → d ≡ e
  no_name_same old e d h k = no_text_once (IsNewNameText names) (IsNewNameKind names) new_name_kind_once (lexemes word_more old.source old.at)
      (length old.source) d e k h
