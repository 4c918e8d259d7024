-- Why the machine of sets can't take a token: what may stand at each place, and which cause it names.
-- To cite: takes_number, takes_name, limit, Reason, reason; one_goes, name_goes, number_stops, number_wide, number_taken, word_stops, word_taken. The rest are
-- steps.
use Rattle.std.proofs.Common.{◌≡◌, ◌<◌, ℕ, ◌==◌, nat_le, Bool, true, false, ◌&&◌, List, Option, Some, None, refl, sym, ap, subst, ◌∙◌, bytes_eq, arith}
use Rattle.std.proofs.Common.{if◌then◌else◌}
use Rattle.gf_text.specs.declared.error.Cause.{Cause}
use Rattle.gf_text.specs.declared.error.Cause.TheVariants.{Ended, Unexpected, RepeatedName, ZeroDenominator, TooWide, UnknownName}
use Rattle.gf_text.specs.declared.tree.WrittenTerm.{WrittenTerm}
use Rattle.gf_text.specs.declared.set_reader.SetPlace.{SetPlace}
use Rattle.gf_text.specs.declared.set_reader.SetPlace.TheVariants as at
use Rattle.gf_text.specs.declared.set_reader.Part.{Part}
use Rattle.gf_text.specs.Machine.{go, done, halt}
use Rattle.gf_text.specs.Tokens.{is_number, decimal_value}
use Rattle.gf_text.specs.RingText.{IsRing}
use Rattle.gf_text.specs.SetText.{variable, most, most_exponent, SetState, SetMove, with_variable, with_factor, with_sign, with_numer, with_denom, next_term}
use Rattle.gf_text.specs.SetText.{all_of, next_polynomial, is_word, name_or_by, number_or, term_or, front_step, end_step, behind_step, token_step}
use Rattle.gf_text.specs.Marks.{plus_mark, minus_mark, comma, star, slash, caret, brace, brace_end}
use Rattle.gf_text.proofs.KindsLaws.{one}
use Rattle.gf_text.proofs.SetTokensLaws.{named_word, no_name, word_no_number, word_no_mark, number_no_word, number_no_mark, le_false, not_le, not_zero}
use Rattle.gf_text.proofs.SetTokensLaws.{zero_number}

-- ---- places

-- a number may stand here
abbrev pub takes_number : SetPlace → Bool
takes_number at.Brace = false
takes_number at.First = true
takes_number at.Polynomial = true
takes_number at.Term = true
takes_number at.Number = false
takes_number at.Denominator = true
takes_number at.Star = false
takes_number at.Name = false
takes_number at.Exponent = true
takes_number at.Behind = false

-- a name may stand here
abbrev pub takes_name : SetPlace → Bool
takes_name at.Brace = false
takes_name at.First = true
takes_name at.Polynomial = true
takes_name at.Term = true
takes_name at.Number = true
takes_name at.Denominator = false
takes_name at.Star = true
takes_name at.Name = true
takes_name at.Exponent = false
takes_name at.Behind = true

-- the greatest number that may stand here, if any may
abbrev pub limit : SetPlace → ℕ
limit at.Brace = most
limit at.First = most
limit at.Polynomial = most
limit at.Term = most
limit at.Number = most
limit at.Denominator = most
limit at.Star = most
limit at.Name = most
limit at.Exponent = most_exponent
limit at.Behind = most

-- ---- the cause that is named

-- what a cause says of the token and the place
abbrev pub Reason : SetPlace → List ℕ → Cause → Type 0
Reason place t Ended = ⊥
Reason place t RepeatedName = ⊥
Reason place t Unexpected = Unit {0}
Reason place t ZeroDenominator = (takes_number place ≡ true) × (is_number t ≡ true) × (decimal_value t ≡ 0)
Reason place t TooWide = (takes_number place ≡ true) × (is_number t ≡ true) × (limit place < decimal_value t)
Reason place t UnknownName = (takes_name place ≡ true) × (is_word t ≡ true)

module _ (ring : List (List ℕ)) where
  -- where the move can't take the token, its cause says so
  abbrev Says : SetPlace → List ℕ → SetMove → Type 0
  Says place t m = (cause : Cause) → m ≡ halt cause → Reason place t cause

  says_go : (place : SetPlace) (t : List ℕ) (u : SetState) → Says place t (go u)
  says_go place t u cause e = cc

  says_done : (place : SetPlace) (t : List ℕ) (ps : List (List WrittenTerm)) → Says place t (done ps)
  says_done place t ps cause e = cc

  says : (place : SetPlace) (t : List ℕ) (cause : Cause) → Reason place t cause → Says place t (halt cause)
  says place t cause r other e = let same : cause ≡ other = cc in subst (Reason place t) same r

  either : (place : SetPlace) (t : List ℕ) (b : Bool) (x y : SetMove) → (b ≡ true → Says place t x) → (b ≡ false → Says place t y) →
      Says place t (if b then x else y)
  either place t true x y h k = h refl
  either place t false x y h k = k refl

  named : (place : SetPlace) (t : List ℕ) (o : Option ℕ) (p : Part) (other : SetMove) → takes_name place ≡ true → Says place t other →
      Says place t (name_or_by o p t other)
  named place t (Some v) p other takes h = says_go place t (at.Name, with_variable p v)
  named place t None p other takes h = either place t (is_word t) (halt UnknownName) other (λ word. says place t UnknownName (takes, word)) (λ no. h)

  numbered : (place : SetPlace) (t : List ℕ) (most_here : ℕ) (u : SetState) (other : SetMove) → takes_number place ≡ true → limit place ≡ most_here →
      Says place t other → Says place t (number_or t most_here (go u) other)
  numbered place t most_here u other takes is h =
      either place t (is_number t) (if nat_le (decimal_value t) most_here then go u else halt TooWide) other
      (λ digits. either place t (nat_le (decimal_value t) most_here) (go u) (halt TooWide) (λ small. says_go place t u) (λ wide. let above =
      not_le (decimal_value t) most_here wide in says place t TooWide (takes, digits, omega arith)))
      (λ no. h)

  term_says : (place : SetPlace) (p : Part) (t : List ℕ) → takes_number place ≡ true → takes_name place ≡ true → limit place ≡ most →
      Says place t (term_or ring p t (halt Unexpected))
  term_says place p t numbers names is = numbered place t most (at.Number, with_numer p (decimal_value t)) _ numbers is
      (named place t (variable ring t) p (halt Unexpected) names (says place t Unexpected tt))

  front_says : (place : SetPlace) (p : Part) (t : List ℕ) → takes_number place ≡ true → takes_name place ≡ true → limit place ≡ most →
      Says place t (front_step ring p t)
  front_says place p t numbers names is =
      either place t (bytes_eq t plus_mark) (go (at.Term, with_sign p false)) _ (λ h. says_go place t (at.Term, with_sign p false))
      (λ h. either place t (bytes_eq t minus_mark) (go (at.Term, with_sign p true)) _ (λ k. says_go place t (at.Term, with_sign p true))
      (λ k. term_says place p t numbers names is))

  end_says : (place : SetPlace) (p : Part) (t : List ℕ) → Says place t (end_step p t)
  end_says place p t =
      either place t (bytes_eq t plus_mark) (go (at.Term, next_term p false)) _ (λ h. says_go place t (at.Term, next_term p false))
      (λ h. either place t (bytes_eq t minus_mark) (go (at.Term, next_term p true)) _ (λ k. says_go place t (at.Term, next_term p true))
      (λ k. either place t (bytes_eq t comma) (go (at.Polynomial, next_polynomial p)) _ (λ l. says_go place t (at.Polynomial, next_polynomial p))
      (λ l. either place t (bytes_eq t brace_end) (done (all_of p)) (halt Unexpected) (λ d. says_done place t (all_of p)) (λ d. says place t Unexpected tt))))

  behind_says : (place : SetPlace) (p : Part) (t : List ℕ) → takes_name place ≡ true → Says place t (behind_step ring p t)
  behind_says place p t names =
      either place t (bytes_eq t star) (go (at.Star, p)) _ (λ h. says_go place t (at.Star, p)) (λ h. named place t (variable ring t) p (end_step p t) names
      (end_says place p t))

  token_says : (place : SetPlace) (p : Part) (t : List ℕ) → Says place t (token_step ring place p t)
  token_says at.Brace p t = either at.Brace t (bytes_eq t brace) (go (at.First, p)) (halt Unexpected) (λ h. says_go at.Brace t (at.First, p)) (λ h.
      says at.Brace t Unexpected tt)
  token_says at.First p t = either at.First t (bytes_eq t brace_end) (done p.polynomials) (front_step ring p t) (λ h. says_done at.First t p.polynomials)
      (λ h. front_says at.First p t refl refl refl)
  token_says at.Polynomial p t = front_says at.Polynomial p t refl refl refl
  token_says at.Term p t = term_says at.Term p t refl refl refl
  token_says at.Number p t = either at.Number t (bytes_eq t slash) (go (at.Denominator, p)) (behind_step ring p t)
      (λ h. says_go at.Number t (at.Denominator, p)) (λ h. behind_says at.Number p t refl)
  token_says at.Denominator p t =
      either at.Denominator t (is_number t && decimal_value t == 0) (halt ZeroDenominator) _
      (λ h. says at.Denominator t ZeroDenominator (let both = zero_number t h in (refl, both.0, both.1)))
      (λ h. numbered at.Denominator t most (at.Behind, with_denom p (decimal_value t)) (halt Unexpected) refl refl (says at.Denominator t Unexpected tt))
  token_says at.Star p t = named at.Star t (variable ring t) p (halt Unexpected) refl (says at.Star t Unexpected tt)
  token_says at.Name p t = either at.Name t (bytes_eq t caret) (go (at.Exponent, p)) (behind_step ring (with_factor p 1) t)
      (λ h. says_go at.Name t (at.Exponent, p)) (λ h. behind_says at.Name (with_factor p 1) t refl)
  token_says at.Exponent p t = numbered at.Exponent t most_exponent (at.Behind, with_factor p (decimal_value t)) (halt Unexpected) refl refl
      (says at.Exponent t Unexpected tt)
  token_says at.Behind p t = behind_says at.Behind p t refl

  pub reason : (place : SetPlace) (p : Part) (t : List ℕ) (cause : Cause) → token_step ring place p t ≡ halt cause → Reason place t cause
  reason place p t cause e = token_says place p t cause e

module _ (ring : List (List ℕ)) where
  -- the number 1 is taken where a number may stand
  pub one_goes : (place : SetPlace) → takes_number place ≡ true → (p : Part) → (u : SetState) × (token_step ring place p one ≡ go u)
  one_goes at.Brace h p = cc
  one_goes at.First h p = ((at.Number, with_numer p 1), refl)
  one_goes at.Polynomial h p = ((at.Number, with_numer p 1), refl)
  one_goes at.Term h p = ((at.Number, with_numer p 1), refl)
  one_goes at.Number h p = cc
  one_goes at.Denominator h p = ((at.Behind, with_denom p 1), refl)
  one_goes at.Star h p = cc
  one_goes at.Name h p = cc
  one_goes at.Exponent h p = ((at.Behind, with_factor p 1), refl)
  one_goes at.Behind h p = cc

  -- a number past the limit is too wide
  wide_term : (p : Part) (t : List ℕ) → is_number t ≡ true → nat_le (decimal_value t) most ≡ false → term_or ring p t (halt Unexpected) ≡ halt TooWide
  wide_term p t digits wide = rw (digits, wide) refl

  wide_front : (p : Part) (t : List ℕ) → is_number t ≡ true → nat_le (decimal_value t) most ≡ false → front_step ring p t ≡ halt TooWide
  wide_front p t digits wide = rw (number_no_mark t 43 digits refl, number_no_mark t 45 digits refl, digits, wide) refl

  pub number_wide : (place : SetPlace) → takes_number place ≡ true → (p : Part) (t : List ℕ) → is_number t ≡ true → limit place < decimal_value t →
      token_step ring place p t ≡ halt TooWide
  number_wide at.Brace h p t digits above = cc
  number_wide at.First h p t digits above =
      let no_end = number_no_mark t 125 digits refl in
      let wide = le_false (decimal_value t) most above in
      let here : token_step ring at.First p t ≡ front_step ring p t = rw no_end refl in
      here ∙ wide_front p t digits wide
  number_wide at.Polynomial h p t digits above = wide_front p t digits (le_false (decimal_value t) most above)
  number_wide at.Term h p t digits above = wide_term p t digits (le_false (decimal_value t) most above)
  number_wide at.Number h p t digits above = cc
  number_wide at.Denominator h p t digits above =
      let wide = le_false (decimal_value t) most above in
      let zero = not_zero (decimal_value t) (omega arith) in
      rw (digits, zero, wide) refl
  number_wide at.Star h p t digits above = cc
  number_wide at.Name h p t digits above = cc
  number_wide at.Exponent h p t digits above =
      let wide = le_false (decimal_value t) most_exponent above in
      rw (digits, wide) refl
  number_wide at.Behind h p t digits above = cc

  -- a number is never unexpected where one may stand
  expected : (b : Bool) (x y : SetMove) → (x ≡ halt Unexpected → ⊥) → (y ≡ halt Unexpected → ⊥) → (if b then x else y) ≡ halt Unexpected → ⊥
  expected true x y h k = h
  expected false x y h k = k

  number_or_expected : (t : List ℕ) (most_here : ℕ) (u : SetState) (other : SetMove) → is_number t ≡ true →
      number_or t most_here (go u) other ≡ halt Unexpected → ⊥
  number_or_expected t most_here u other digits e = expected (nat_le (decimal_value t) most_here) (go u) (halt TooWide) (λ f. cc) (λ f. cc) (rw digits at e)

  front_expected : (p : Part) (t : List ℕ) → is_number t ≡ true → front_step ring p t ≡ halt Unexpected → ⊥
  front_expected p t digits e =
      let here : term_or ring p t (halt Unexpected) ≡ halt Unexpected = rw (number_no_mark t 43 digits refl, number_no_mark t 45 digits refl) at e in
      number_or_expected t most (at.Number, with_numer p (decimal_value t)) _ digits here

  pub number_taken : (place : SetPlace) → takes_number place ≡ true → (p : Part) (t : List ℕ) → is_number t ≡ true →
      token_step ring place p t ≡ halt Unexpected → ⊥
  number_taken at.Brace h p t digits e = cc
  number_taken at.First h p t digits e = front_expected p t digits (rw (number_no_mark t 125 digits refl) at e)
  number_taken at.Polynomial h p t digits e = front_expected p t digits e
  number_taken at.Term h p t digits e = number_or_expected t most (at.Number, with_numer p (decimal_value t)) _ digits e
  number_taken at.Number h p t digits e = cc
  number_taken at.Denominator h p t digits e =
      expected (is_number t && decimal_value t == 0) (halt ZeroDenominator) (number_or t most (go (at.Behind, with_denom p (decimal_value t)))
      (halt Unexpected)) (λ f. cc)
      (λ f. number_or_expected t most (at.Behind, with_denom p (decimal_value t)) (halt Unexpected) digits f) e
  number_taken at.Star h p t digits e = cc
  number_taken at.Name h p t digits e = cc
  number_taken at.Exponent h p t digits e = number_or_expected t most_exponent (at.Behind, with_factor p (decimal_value t)) (halt Unexpected) digits e
  number_taken at.Behind h p t digits e = cc

  -- a word is unexpected where no name may stand
  pub word_stops : (place : SetPlace) → takes_name place ≡ false → (p : Part) (t : List ℕ) → is_word t ≡ true → token_step ring place p t ≡ halt Unexpected
  word_stops at.Brace h p t word = rw (word_no_mark t 123 word refl) refl
  word_stops at.First h p t word = cc
  word_stops at.Polynomial h p t word = cc
  word_stops at.Term h p t word = cc
  word_stops at.Number h p t word = cc
  word_stops at.Denominator h p t word = rw (word_no_number t word) refl
  word_stops at.Star h p t word = cc
  word_stops at.Name h p t word = cc
  word_stops at.Exponent h p t word = rw (word_no_number t word) refl
  word_stops at.Behind h p t word = cc

  -- where a name may stand a word does what is done for a name, or is unknown
  front_word : (p : Part) (t : List ℕ) → is_word t ≡ true → front_step ring p t ≡ name_or_by (variable ring t) p t (halt Unexpected)
  front_word p t word = rw (word_no_mark t 43 word refl, word_no_mark t 45 word refl, word_no_number t word) refl

  behind_word : (p : Part) (t : List ℕ) → is_word t ≡ true → behind_step ring p t ≡ name_or_by (variable ring t) p t (end_step p t)
  behind_word p t word = rw (word_no_mark t 42 word refl) refl

  -- what is done for a word where a name may stand
  record WordStep (place : SetPlace) (p : Part) (t : List ℕ) : Type 0 where
    part : Part
    other : SetMove
    is : token_step ring place p t ≡ name_or_by (variable ring t) part t other

  word_step : (place : SetPlace) → takes_name place ≡ true → (p : Part) (t : List ℕ) → is_word t ≡ true → WordStep place p t
  word_step at.Brace h p t word = cc
  word_step at.First h p t word =
      let no_end = word_no_mark t 125 word refl in
      let here : token_step ring at.First p t ≡ front_step ring p t = rw no_end refl in
      record { part = p; other = halt Unexpected; is = here ∙ front_word p t word }
  word_step at.Polynomial h p t word = record { part = p; other = halt Unexpected; is = front_word p t word }
  word_step at.Term h p t word = record { part = p; other = halt Unexpected; is = rw (word_no_number t word) refl }
  word_step at.Number h p t word =
      let no_slash = word_no_mark t 47 word refl in
      let here : token_step ring at.Number p t ≡ behind_step ring p t = rw no_slash refl in
      record { part = p; other = end_step p t; is = here ∙ behind_word p t word }
  word_step at.Denominator h p t word = cc
  word_step at.Star h p t word = record { part = p; other = halt Unexpected; is = refl }
  word_step at.Name h p t word =
      let no_caret = word_no_mark t 94 word refl in
      let here : token_step ring at.Name p t ≡ behind_step ring (with_factor p 1) t = rw no_caret refl in
      record { part = with_factor p 1; other = end_step (with_factor p 1) t; is = here ∙ behind_word (with_factor p 1) t word }
  word_step at.Exponent h p t word = cc
  word_step at.Behind h p t word = record { part = p; other = end_step p t; is = behind_word p t word }

  -- so a word isn't unexpected there
  name_expected : (o : Option ℕ) (p : Part) (t : List ℕ) (other : SetMove) → is_word t ≡ true → name_or_by o p t other ≡ halt Unexpected → ⊥
  name_expected (Some v) p t other word e = cc
  name_expected None p t other word e =
      let here : halt UnknownName ≡ halt Unexpected = rw word at e in
      cc

  pub word_taken : (place : SetPlace) → takes_name place ≡ true → (p : Part) (t : List ℕ) → is_word t ≡ true → token_step ring place p t ≡ halt Unexpected → ⊥
  word_taken place h p t word e =
      let s = word_step place h p t word in
      name_expected (variable ring t) s.part t s.other word (sym s.is ∙ e)

  -- and a name is taken
  pub name_goes : IsRing ring → (place : SetPlace) → takes_name place ≡ true → (p : Part) (t : List ℕ) (v : ℕ) → variable ring t ≡ Some v →
      (u : SetState) × (token_step ring place p t ≡ go u)
  name_goes is_ring place h p t v name =
      let s = word_step place h p t (named_word ring is_ring t v name) in
      ((at.Name, with_variable s.part v), s.is ∙ ap (λ o. name_or_by o s.part t s.other) name)

  -- a number is unexpected where none may stand
  behind_number : IsRing ring → (p : Part) (t : List ℕ) → is_number t ≡ true → behind_step ring p t ≡ halt Unexpected
  behind_number is_ring p t digits =
      let no_word = number_no_word t digits in
      let none = no_name ring is_ring t no_word in
      rw (
        number_no_mark t 42 digits refl,
        none,
        no_word,
        number_no_mark t 43 digits refl,
        number_no_mark t 45 digits refl,
        number_no_mark t 44 digits refl,
        number_no_mark t 125 digits refl,
      ) refl

  pub number_stops : IsRing ring → (place : SetPlace) → takes_number place ≡ false → (p : Part) (t : List ℕ) → is_number t ≡ true →
      token_step ring place p t ≡ halt Unexpected
  number_stops is_ring at.Brace h p t digits = rw (number_no_mark t 123 digits refl) refl
  number_stops is_ring at.First h p t digits = cc
  number_stops is_ring at.Polynomial h p t digits = cc
  number_stops is_ring at.Term h p t digits = cc
  number_stops is_ring at.Number h p t digits = let no_slash = number_no_mark t 47 digits refl in let here : token_step ring at.Number p t ≡
      behind_step ring p t = rw no_slash refl in here ∙ behind_number is_ring p t digits
  number_stops is_ring at.Denominator h p t digits = cc
  number_stops is_ring at.Star h p t digits = let no_word = number_no_word t digits in rw (no_name ring is_ring t no_word, no_word) refl
  number_stops is_ring at.Name h p t digits =
      let no_caret = number_no_mark t 94 digits refl in
      let here : token_step ring at.Name p t ≡ behind_step ring (with_factor p 1) t = rw no_caret refl in
      here ∙ behind_number is_ring (with_factor p 1) t digits
  number_stops is_ring at.Exponent h p t digits = cc
  number_stops is_ring at.Behind h p t digits = behind_number is_ring p t digits
