-- Of which kind a fault is where numbers are taken up to a limit.
-- To cite: row_kind, cone_kind, number_kind. The rest are steps.
use Rattle.std.proofs.Common.{◌≡◌, ℕ, ℤ, Bool, true, false, nat_le, List, [], ◌∷◌, ◌++◌, Option, Some, refl, sym, ap, ◌∙◌, subst, ◌⊎◌, inl, inr, bytes_eq}
use Rattle.std.proofs.Common.{if◌then◌else◌}
use Rattle.gf_text.specs.declared.error.Cause.{Cause}
use Rattle.gf_text.specs.declared.error.Cause.TheVariants.{Unexpected, TooWide}
use Rattle.gf_text.specs.Machine.{Move, go, done, halt, after}
use Rattle.gf_text.specs.Marks.{minus_mark, brace, brace_end}
use Rattle.gf_text.specs.Tokens.{is_number, decimal_value}
use Rattle.gf_text.specs.SetText.{is_word}
use Rattle.gf_text.specs.VectorText.{signed_entry}
use Rattle.gf_text.specs.Kinds.{IsNumberKind}
use Rattle.gf_text.proofs.KindsLaws.{refused_by, one, halts, NoNumbers, Numbers, Reason, IsGate, IsNumberCause, gate_number_kind}
use Rattle.gf_text.proofs.SetTokensLaws.{word_no_number, word_no_mark, number_no_mark, not_le, le_false}
use Rattle.gf_text.proofs.MachineLaws.{IsMachineOf}
use Rattle.gf_fan_files.specs.Lines.{line_end, section_end}
use Rattle.gf_fan_files.specs.RowText.{most_row_entry, RowState, row_state, row_size_step, row_entry_step, row_step_at, row_step, row_start, AreRowTexts}
use Rattle.gf_fan_files.specs.ConeText.{most_number, before, inside, closed, ConeState, cone_step, cone_start, AreConeTexts}
use Rattle.gf_fan_files.proofs.RowTextLaws.{row_machine, number_some, number_on}
use Rattle.gf_fan_files.proofs.ConeTextLaws.{cone_machine}
use Rattle.gf_fan_files.specs.declared.numbers.NumberState.{NumberState}
use Rattle.gf_fan_files.specs.declared.numbers.NumberState.TheVariants.{Unread, Read, Finished}
use Rattle.gf_fan_files.specs.NumberText.{number_step, IsOneNumberText}
use Rattle.gf_fan_files.proofs.NumberTextLaws.{number_machine}

same_cause : (c d : Cause) → Some c ≡ Some d → c ≡ d
same_cause c d e = cc

module _ {S A : Type 0} (step : List ℕ → Move S A) where
  abbrev pub gate : List ℕ → Option Cause
  gate t = refused_by (step t)

  -- numbers are taken up to a limit
  pub record Takes : Type 0 where
    pub limit : ℕ
    pub next : List ℕ → S
    pub one_fits : nat_le 1 limit ≡ true
    pub number : (t : List ℕ) → is_number t ≡ true → step t ≡ (if nat_le (decimal_value t) limit then go (next t) else halt TooWide)

  -- no number is taken
  abbrev pub TakesNone : Type 0
  TakesNone = (t : List ℕ) → is_number t ≡ true → step t ≡ halt Unexpected

  -- what is no number is taken or unexpected
  abbrev pub Others : Type 0
  Others = (t : List ℕ) → is_number t ≡ false → (cause : Cause) → step t ≡ halt cause → cause ≡ Unexpected

  -- no word is taken
  abbrev pub Words : Type 0
  Words = (t : List ℕ) → is_word t ≡ true → step t ≡ halt Unexpected

  abbrev Chosen : Bool → S → Move S A
  Chosen b u = if b then go u else halt TooWide

  not_within : (u : S) (b : Bool) → refused_by (Chosen b u) ≡ Some TooWide → b ≡ false
  not_within u true e = cc
  not_within u false e = refl

  not_unexpected : (u : S) (b : Bool) → refused_by (Chosen b u) ≡ Some Unexpected → ⊥
  not_unexpected u true e = cc
  not_unexpected u false e = let same = same_cause TooWide Unexpected e in cc

  too_wide : (u : S) (b : Bool) (cause : Cause) → refused_by (Chosen b u) ≡ Some cause → cause ≡ TooWide
  too_wide u true cause e = cc
  too_wide u false cause e = sym (same_cause TooWide cause e)

  numbers : Takes → Numbers gate
  numbers k = record {
    limit = k.limit;
    takes = ap (λ m. refused_by m) (k.number one refl ∙ ap (λ b. Chosen b (k.next one)) k.one_fits);
    wide = λ n digits above. ap (λ m. refused_by m) (k.number n digits ∙ ap (λ b. Chosen b (k.next n)) (le_false (decimal_value n) k.limit above));
    small = λ n digits e. not_le (decimal_value n) k.limit (not_within (k.next n) (nat_le (decimal_value n) k.limit)
        (ap (λ m. refused_by m) (sym (k.number n digits)) ∙ e));
    expected = λ n digits e. not_unexpected (k.next n) (nat_le (decimal_value n) k.limit) (ap (λ m. refused_by m) (sym (k.number n digits)) ∙ e);
  }

  -- a token that isn't taken is a number past the limit, or unexpected
  abbrev Which : List ℕ → Cause → Type 0
  Which t cause = (cause ≡ Unexpected) ⊎ ((cause ≡ TooWide) × (is_number t ≡ true) × Takes)

  which : Takes ⊎ TakesNone → Others → (t : List ℕ) (cause : Cause) (b : Bool) → is_number t ≡ b → gate t ≡ Some cause → Which t cause
  which (inl k) others t cause true digits e =
      inr (too_wide (k.next t) (nat_le (decimal_value t) k.limit) cause (ap (λ m. refused_by m) (sym (k.number t digits)) ∙ e), digits, k)
  which (inr none) others t cause true digits e = inl (sym (same_cause Unexpected cause (ap (λ m. refused_by m) (sym (none t digits)) ∙ e)))
  which k others t cause false digits e = inl (others t digits cause (halts (step t) cause e))

  reason : (t : List ℕ) (cause : Cause) → Which t cause → Reason [] gate t cause
  reason t cause (inl e) = subst (λ c. Reason [] gate t c) (sym e) tt
  reason t cause (inr (e, digits, k)) = subst (λ c. Reason [] gate t c) (sym e) (numbers k, digits)

  cause_by : (t : List ℕ) (cause : Cause) → Which t cause → IsNumberCause cause
  cause_by t cause (inl e) = subst IsNumberCause (sym e) tt
  cause_by t cause (inr (e, digits, k)) = subst IsNumberCause (sym e) tt

  some_numbers : Takes ⊎ TakesNone → NoNumbers gate ⊎ Numbers gate
  some_numbers (inl k) = inr (numbers k)
  some_numbers (inr none) = inl (λ n digits. ap (λ m. refused_by m) (none n digits))

  -- why tokens aren't taken
  pub record Refuses : Type 0 where
    pub numbers : Takes ⊎ TakesNone
    pub others : Others
    pub words : Words

  pub is_gate : Refuses → IsGate [] gate
  is_gate r = record {
    numbers = some_numbers r.numbers;
    words = inl (λ t word. ap (λ m. refused_by m) (r.words t word));
    reason = λ t cause e. reason t cause (which r.numbers r.others t cause (is_number t) refl e);
  }

  pub is_cause : Refuses → (t : List ℕ) (cause : Cause) → step t ≡ halt cause → IsNumberCause cause
  is_cause r t cause e = cause_by t cause (which r.numbers r.others t cause (is_number t) refl (ap (λ m. refused_by m) e))

module _ {S A : Type 0} {step : S → List ℕ → Move S A} {start : S} {grammar : List (List ℕ) → A → Type 0} (is : IsMachineOf step start grammar)
    (refuses : (s : S) → Refuses (step s)) where
  -- so the faults of a machine are of these kinds
  kind_of : (ts : List (List ℕ)) (s : S) (t : List ℕ) (cause : Cause) → after step start ts ≡ go s → step s t ≡ halt cause → IsNumberKind grammar ts t cause
  kind_of = gate_number_kind is (λ s. is_gate (step s) (refuses s)) (λ s t cause e. is_cause (step s) (refuses s) t cause e)

-- ---- choices among moves

module _ {S A : Type 0} where
  -- where this move refuses its token, the token is unexpected
  abbrev IsOnlyUnexpected : Move S A → Type 0
  IsOnlyUnexpected m = (cause : Cause) → m ≡ halt cause → cause ≡ Unexpected

  goes_on : (s : S) → IsOnlyUnexpected (go s)
  goes_on s cause e = cc

  is_done : (a : A) → IsOnlyUnexpected (done a)
  is_done a cause e = cc

  refuses_it : IsOnlyUnexpected (halt Unexpected)
  refuses_it cause e = sym (same_cause Unexpected cause (ap (λ m. refused_by m) e))

  either : (b : Bool) (x y : Move S A) → IsOnlyUnexpected x → IsOnlyUnexpected y → IsOnlyUnexpected (if b then x else y)
  either true x y h k = h
  either false x y h k = k

-- a word is no end of a section
word_some : (t : List ℕ) → is_word t ≡ true → bytes_eq t section_end ≡ false
word_some [] h = cc
word_some (b ∷ bs) h = refl

-- ---- rows

module _ (rs : List (List ℤ)) (zs : List ℤ) where
  size_number : (m : Bool) (t : List ℕ) → is_number t ≡ true →
      row_size_step rs zs m t ≡ (if nat_le (decimal_value t) most_row_entry then go (row_state rs (zs ++ signed_entry m (decimal_value t) ∷ []) false)
      else halt TooWide)
  size_number m t digits = rw digits refl

  size_other : (m : Bool) (t : List ℕ) → is_number t ≡ false → IsOnlyUnexpected (row_size_step rs zs m t)
  size_other m t none = let m_is : row_size_step rs zs m t ≡ halt Unexpected = rw none refl in subst (λ x. IsOnlyUnexpected x) (sym m_is) refuses_it

  size_word : (m : Bool) (t : List ℕ) → is_word t ≡ true → row_size_step rs zs m t ≡ halt Unexpected
  size_word m t word = let none = word_no_number t word in rw none refl

  entry_other : (t : List ℕ) → is_number t ≡ false → IsOnlyUnexpected (row_entry_step rs zs t)
  entry_other t none = either (bytes_eq t minus_mark) (go (row_state rs zs true)) (row_size_step rs zs false t) (goes_on (row_state rs zs true))
      (size_other false t none)

  entry_word : (t : List ℕ) → is_word t ≡ true → row_entry_step rs zs t ≡ halt Unexpected
  entry_word t word = let mark = word_no_mark t 45 word refl in rw mark (size_word false t word)

row_takes : (rs : List (List ℤ)) (zs : List ℤ) (m : Bool) → Takes (row_step (row_state rs zs m))
row_takes rs zs true = record {
  limit = most_row_entry;
  next = λ t. row_state rs (zs ++ signed_entry true (decimal_value t) ∷ []) false;
  one_fits = refl;
  number = size_number rs zs true;
}
row_takes rs zs false = record {
  limit = most_row_entry;
  next = λ t. row_state rs (zs ++ signed_entry false (decimal_value t) ∷ []) false;
  one_fits = refl;
  number = λ t digits. number_on rs zs t digits ∙ size_number rs zs false t digits;
}

row_others : (rs : List (List ℤ)) (zs : List ℤ) (m : Bool) (t : List ℕ) → is_number t ≡ false → IsOnlyUnexpected (row_step_at rs zs m t)
row_others rs zs true t none = size_other rs zs true t none
row_others rs [] false t none = either (bytes_eq t section_end) (done rs) (row_entry_step rs [] t) (is_done rs) (entry_other rs [] t none)
row_others rs (z ∷ zs) false t none = either (bytes_eq t line_end) (go (row_state (rs ++ (z ∷ zs) ∷ []) [] false)) (row_entry_step rs (z ∷ zs) t)
    (goes_on (row_state (rs ++ (z ∷ zs) ∷ []) [] false)) (entry_other rs (z ∷ zs) t none)

row_words : (rs : List (List ℤ)) (zs : List ℤ) (m : Bool) (t : List ℕ) → is_word t ≡ true → row_step_at rs zs m t ≡ halt Unexpected
row_words rs zs true t word = size_word rs zs true t word
row_words rs [] false t word = let some = word_some t word in rw some (entry_word rs [] t word)
row_words rs (z ∷ zs) false t word = let mark = word_no_mark t 10 word refl in rw mark (entry_word rs (z ∷ zs) t word)

row_refuses : (s : RowState) → Refuses (row_step s)
row_refuses s = record {
  numbers = inl (row_takes s.rows s.entries s.negative);
  others = λ t none. row_others s.rows s.entries s.negative t none;
  words = λ t word. row_words s.rows s.entries s.negative t word;
}

pub row_kind : (ts : List (List ℕ)) (s : RowState) (t : List ℕ) (cause : Cause) → after row_step row_start ts ≡ go s → row_step s t ≡ halt cause →
    IsNumberKind AreRowTexts ts t cause
row_kind = kind_of row_machine row_refuses

-- ---- lists of ray numbers

cone_refuses : (s : ConeState) → Refuses (cone_step s)
cone_refuses (cs, before) = record {
  numbers = inr (λ t digits. let some = number_some t digits in let mark = number_no_mark t 123 digits refl in rw (some, mark) refl);
  others = λ t none. either (bytes_eq t section_end) (done cs) (if bytes_eq t brace then go (cs, inside []) else halt Unexpected) (is_done cs)
      (either (bytes_eq t brace) (go (cs, inside [])) (halt Unexpected) (goes_on (cs, inside [])) refuses_it);
  words = λ t word. let some = word_some t word in let mark = word_no_mark t 123 word refl in rw (some, mark) refl;
}
cone_refuses (cs, inside ns) = record {
  numbers = inl (record {
    limit = most_number;
    next = λ t. (cs, inside (ns ++ decimal_value t ∷ []));
    one_fits = refl;
    number = λ t digits. let mark = number_no_mark t 125 digits refl in rw (mark, digits) refl;
  });
  others = λ t none. (
      let unexpected : (if is_number t then (if nat_le (decimal_value t) most_number then go (cs, inside (ns ++ decimal_value t ∷ [])) else halt TooWide)
      else halt Unexpected) ≡ halt Unexpected = rw none refl in
      either (bytes_eq t brace_end) (go (cs, closed ns)) (if is_number t then
      (if nat_le (decimal_value t) most_number then go (cs, inside (ns ++ decimal_value t ∷ [])) else halt TooWide) else halt Unexpected)
      (goes_on (cs, closed ns)) (subst (λ m. IsOnlyUnexpected m) (sym unexpected) refuses_it)
      );
  words = λ t word. let mark = word_no_mark t 125 word refl in let none = word_no_number t word in rw (mark, none) refl;
}
cone_refuses (cs, closed ns) = record {
  numbers = inr (λ t digits. let mark = number_no_mark t 10 digits refl in rw mark refl);
  others = λ t none. either (bytes_eq t line_end) (go (cs ++ ns ∷ [], before)) (halt Unexpected) (goes_on (cs ++ ns ∷ [], before)) refuses_it;
  words = λ t word. let mark = word_no_mark t 10 word refl in rw mark refl;
}

pub cone_kind : (ts : List (List ℕ)) (s : ConeState) (t : List ℕ) (cause : Cause) → after cone_step cone_start ts ≡ go s → cone_step s t ≡ halt cause →
    IsNumberKind AreConeTexts ts t cause
cone_kind = kind_of cone_machine cone_refuses

-- ---- a number

number_refuses : (s : NumberState) → Refuses (number_step s)
number_refuses Unread = record {
  numbers = inl (record { limit = most_number; next = λ t. Read (decimal_value t); one_fits = refl; number = λ t digits. rw digits refl });
  others = λ t none. (
      let unexpected : number_step Unread t ≡ halt Unexpected = rw none refl in
      subst (λ m. IsOnlyUnexpected m) (sym unexpected) refuses_it
      );
  words = λ t word. let none = word_no_number t word in rw none refl;
}
number_refuses (Read n) = record {
  numbers = inr (λ t digits. let mark = number_no_mark t 10 digits refl in rw mark refl);
  others = λ t none. either (bytes_eq t line_end) (go (Finished n)) (halt Unexpected) (goes_on (Finished n)) refuses_it;
  words = λ t word. let mark = word_no_mark t 10 word refl in rw mark refl;
}
number_refuses (Finished n) = record {
  numbers = inr (λ t digits. let some = number_some t digits in rw some refl);
  others = λ t none. either (bytes_eq t section_end) (done n) (halt Unexpected) (is_done n) refuses_it;
  words = λ t word. let some = word_some t word in rw some refl;
}

pub number_kind : (ts : List (List ℕ)) (s : NumberState) (t : List ℕ) (cause : Cause) → after number_step Unread ts ≡ go s → number_step s t ≡ halt cause →
    IsNumberKind IsOneNumberText ts t cause
number_kind = kind_of number_machine number_refuses
