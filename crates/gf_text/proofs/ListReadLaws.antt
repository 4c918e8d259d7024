-- A list that stands in a source is read item by item, each by its own reader.
-- To cite: item_read, item_fails, first_inside; from_state, opening_ended, opening_none, opening_brace, first_end, behind_ended, behind_end, behind_none,
-- behind_more. The rest are steps.
use Rattle.std.proofs.Common.{◌≡◌, ◌≤◌, ◌<◌, ℕ, false, Result, Ok, Err, List, [], ◌∷◌, ◌++◌, length, refl, sym, ap, ◌∙◌, bytes_eq, if◌then◌else◌, true, subst}
use Rattle.gf_text.specs.declared.error.Cause.TheVariants.{Ended, Unexpected}
use Rattle.gf_text.specs.declared.error.TextError.{TextError}
use Rattle.gf_text.specs.declared.error.TextError.TheVariants as errors
use Rattle.gf_text.specs.Machine.{Lexeme, texts, Move, go, done, halt, Fault, moved, run, followed, after}
use Rattle.gf_text.specs.Marks.{comma, brace, brace_end}
use Rattle.gf_text.specs.Tokens.{lexemes, lexeme}
use Rattle.gf_text.specs.Given.{Fails}
use Rattle.gf_text.specs.ListText.{opening, first_item, inside, behind_item, ListState, in_item, list_step}
use Rattle.gf_text.proofs.MachineLaws.{taken, run_go, run_done, run_halt, run_ended}
use Rattle.gf_text.proofs.TokensLaws.{lexemes-behind, behind-lexeme}

module _ {S A : Type 0} (step : S → List ℕ → Move S A) (start : S) where
  -- what is read of a list from a state on
  abbrev pub runs : ListState S A → ℕ → List Lexeme → Result (List A × ℕ) Fault
  runs s end xs = run (list_step step start) s end xs

  -- ---- an item that is read

  item_by : (before : List A) (m : Move S A) (x : Lexeme) (front back : List Lexeme) (a : A) (end : ℕ)
      → ((u : S) → after step u (texts front) ≡ done a → runs (inside u, before) end (front ++ back) ≡ runs (behind_item, before ++ a ∷ []) end back)
      → followed m (texts front) (λ u. after step u (texts front)) ≡ done a
      → moved (in_item before m) x (λ v. runs v end (front ++ back)) ≡ runs (behind_item, before ++ a ∷ []) end back
  item_by before (go u) x front back a end later e = later u e
  item_by before (done b) x [] back a end later e = let same : b ≡ a = cc in ap (λ c. runs (behind_item, before ++ c ∷ []) end back) same
  item_by before (done b) x (y ∷ front) back a end later e = cc
  item_by before (halt cause) x front back a end later e = cc

  over_item : (before : List A) (s : S) (front back : List Lexeme) (a : A) (end : ℕ) → after step s (texts front) ≡ done a →
      runs (inside s, before) end (front ++ back) ≡ runs (behind_item, before ++ a ∷ []) end back
  unfolding run after
  over_item before s [] back a end e = cc
  over_item before s (x ∷ front) back a end e = item_by before (step s x.text) x front back a end (λ u f. over_item before u front back a end f) e

  -- where an item is read, the list is read on behind it
  pub item_read : (more : List ℕ → ℕ) → ((text : List ℕ) → 0 < length text → more text < length text) →
      (source : List ℕ) (at : ℕ) (before : List A) (s : S) (a : A) (place : ℕ) → at ≤ length source
      → run step s (length source) (lexemes more source at) ≡ Ok (a, place)
      → runs (inside s, before) (length source) (lexemes more source at) ≡ runs (behind_item, before ++ a ∷ []) (length source) (lexemes more source place)
  item_read more fits source at before s a place within e =
      let t = taken step s at (length source) (lexemes more source at) a place e in
      ap (runs (inside s, before) (length source)) t.whole
      ∙ over_item before s t.front t.back a (length source) t.text
      ∙ ap (runs (behind_item, before ++ a ∷ []) (length source)) (lexemes-behind more fits source at t.front t.back within t.whole ∙ ap (lexemes more source)
      t.end)

  -- ---- an item that isn't

  fault_by : (before : List A) (m : Move S A) (x : Lexeme) (xs : List Lexeme) (end : ℕ) (f : Fault)
      → ((u : S) → run step u end xs ≡ Err f → runs (inside u, before) end xs ≡ Err f)
      → moved m x (λ u. run step u end xs) ≡ Err f → moved (in_item before m) x (λ v. runs v end xs) ≡ Err f
  fault_by before (go u) x xs end f later e = later u e
  fault_by before (done b) x xs end f later e = cc
  fault_by before (halt cause) x xs end f later e = cc

  over_fault : (before : List A) (s : S) (xs : List Lexeme) (end : ℕ) (f : Fault) → run step s end xs ≡ Err f → runs (inside s, before) end xs ≡ Err f
  unfolding run
  over_fault before s [] end f e = cc
  over_fault before s (x ∷ xs) end f e = fault_by before (step s x.text) x xs end f (λ u g. over_fault before u xs end f g) e

  -- where an item isn't read, neither is the list
  pub item_fails : (before : List A) (s : S) (xs : List Lexeme) (end : ℕ) (e : TextError) → Fails e (run step s end xs) →
      Fails e (runs (inside s, before) end xs)
  item_fails before s xs end (errors.Overflow o) h = h
  item_fails before s xs end (errors.Exponent o) h = h
  item_fails before s xs end (errors.Syntax t) h = (h.0, over_fault before s xs end h.0 h.1, h.2)
  item_fails before s xs end (errors.TooWide at) h = (h.0, over_fault before s xs end h.0 h.1, h.2)
  item_fails before s xs end (errors.UnknownName at) h = (h.0, over_fault before s xs end h.0 h.1, h.2)
  item_fails before s xs end (errors.TooManyVariables count) h = h
  item_fails before s xs end (errors.ZeroPolynomial set index) h = h
  item_fails before s xs end errors.Memory h = tt

  -- behind the first brace an item is read, unless the other brace follows
  pub first_inside : (before : List A) (xs : List Lexeme) (end : ℕ) → ((x : Lexeme) (ys : List Lexeme) → xs ≡ x ∷ ys → bytes_eq x.text brace_end ≡ false) →
      runs (first_item, before) end xs ≡ runs (inside start, before) end xs
  unfolding run
  first_inside before [] end other = refl
  first_inside before (x ∷ xs) end other = ap (λ b. moved (if b then done before else in_item before (step start x.text)) x (λ v. runs v end xs))
      (other x xs refl)

-- ---- what is read of a list from a place of a source on

module _ {S A : Type 0} (step : S → List ℕ → Move S A) (start : S) (more : List ℕ → ℕ) (source : List ℕ) where
  abbrev pub from_state : ListState S A → ℕ → Result (List A × ℕ) Fault
  from_state s at = run (list_step step start) s (length source) (lexemes more source at)

  -- no token follows
  pub opening_ended : (xs : List A) (at : ℕ) → lexemes more source at ≡ [] → from_state (opening, xs) at ≡ Err (record { at = length source; cause = Ended })
  opening_ended xs at none = run_ended (list_step step start) (opening, xs) (length source) (lexemes more source at) none

  pub first_ended : (xs : List A) (at : ℕ) → lexemes more source at ≡ [] → from_state (first_item, xs) at ≡ Err (record { at = length source; cause = Ended })
  first_ended xs at none = run_ended (list_step step start) (first_item, xs) (length source) (lexemes more source at) none

  pub behind_ended : (xs : List A) (at : ℕ) → lexemes more source at ≡ [] → from_state (behind_item, xs) at ≡ Err (record { at = length source; cause = Ended })
  behind_ended xs at none = run_ended (list_step step start) (behind_item, xs) (length source) (lexemes more source at) none

  module _ (xs : List A) (at begin end : ℕ) (token : lexemes more source at ≡ lexeme source begin end ∷ lexemes more source end) where
    abbrev bytes : List ℕ
    bytes = (lexeme source begin end).text

    pub opening_none : bytes_eq bytes brace ≡ false → from_state (opening, xs) at ≡ Err (record { at = begin; cause = Unexpected })
    opening_none other = run_halt (list_step step start) (opening, xs) Unexpected (length source) (lexemes more source at)
        (lexeme source begin end) (lexemes more source end) token (rw other refl)

    pub opening_brace : bytes_eq bytes brace ≡ true → from_state (opening, xs) at ≡ from_state (first_item, xs) end
    opening_brace is = run_go (list_step step start) (opening, xs) (first_item, xs) (length source) (lexemes more source at)
        (lexeme source begin end) (lexemes more source end) token (rw is refl)

    pub first_other : bytes_eq bytes brace_end ≡ false → from_state (first_item, xs) at ≡ from_state (inside start, xs) at
    first_other other = first_inside step start xs (lexemes more source at) (length source) (λ x ys is. same x ys (sym token ∙ is))
      where
        same : (x : Lexeme) (ys : List Lexeme) → lexeme source begin end ∷ lexemes more source end ≡ x ∷ ys → bytes_eq x.text brace_end ≡ false
        same x ys is = let one : lexeme source begin end ≡ x = cc in subst (λ (y : Lexeme). bytes_eq y.text brace_end ≡ false) one other

    pub behind_more : bytes_eq bytes comma ≡ true → from_state (behind_item, xs) at ≡ from_state (inside start, xs) end
    behind_more is = run_go (list_step step start) (behind_item, xs) (inside start, xs) (length source) (lexemes more source at)
        (lexeme source begin end) (lexemes more source end) token (rw is refl)

    pub behind_none : bytes_eq bytes comma ≡ false → bytes_eq bytes brace_end ≡ false →
        from_state (behind_item, xs) at ≡ Err (record { at = begin; cause = Unexpected })
    behind_none other last = run_halt (list_step step start) (behind_item, xs) Unexpected (length source) (lexemes more source at)
        (lexeme source begin end) (lexemes more source end) token (rw (other, last) refl)

    module _ (rises : begin < end) (within : end ≤ length source) where
      pub first_end : bytes_eq bytes brace_end ≡ true → from_state (first_item, xs) at ≡ Ok (xs, end)
      first_end is =
          run_done (list_step step start) (first_item, xs) xs (length source) (lexemes more source at) (lexeme source begin end) (lexemes more source end) token
          (rw is refl)
          ∙ ap (λ n. Ok (xs, n)) (behind-lexeme source begin end rises within)

      pub behind_end : bytes_eq bytes comma ≡ false → bytes_eq bytes brace_end ≡ true → from_state (behind_item, xs) at ≡ Ok (xs, end)
      behind_end other is =
          run_done (list_step step start) (behind_item, xs) xs (length source) (lexemes more source at) (lexeme source begin end) (lexemes more source end)
          token (rw (other, is) refl)
          ∙ ap (λ n. Ok (xs, n)) (behind-lexeme source begin end rises within)
