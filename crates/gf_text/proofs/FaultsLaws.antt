-- The same tokens have one fault at most.
-- To cite: IsOneKind, number_kind_once, token_kind_once, fault_once, no_text_once. The rest are steps.
use Rattle.std.proofs.Common.{◌≡◌, ℕ, true, List, [], ◌∷◌, ◌++◌, refl, sym, ap, ◌∙◌, subst, ◌⊎◌, inl, inr, arith}
use Rattle.std.proofs.lemmas.List.{map-append}
use Rattle.gf_text.specs.declared.error.Cause.{Cause}
use Rattle.gf_text.specs.declared.error.Cause.TheVariants.{Ended, Unexpected, RepeatedName, ZeroDenominator, TooWide, UnknownName}
use Rattle.gf_text.specs.declared.error.TextError.{TextError}
use Rattle.gf_text.specs.Machine.{Lexeme, texts, Fault, GoesOnToText, StandsAt, IsFaultAt, IsFault}
use Rattle.gf_text.specs.Tokens.{is_number}
use Rattle.gf_text.specs.SetText.{is_word}
use Rattle.gf_text.specs.Kinds.{IsNumberKind, IsTokenKind}
use Rattle.gf_text.specs.Refusing.{refusal}
use Rattle.gf_text.specs.Given.{IsNoText}
use Rattle.gf_text.proofs.SetTokensLaws.{number_no_word}

-- at a token a fault is of one kind
abbrev pub IsOneKind : (List (List ℕ) → List ℕ → Cause → Type 0) → Type 0
IsOneKind kind = (ts : List (List ℕ)) (t : List ℕ) (c d : Cause) → kind ts t c → kind ts t d → c ≡ d

-- ---- where a fault stands

module _ {A : Type 0} where
  -- of two tokens after which nothing goes on, where it did before, neither stands before the other
  stands_once : (grammar : List (List ℕ) → A → Type 0) (kind : List (List ℕ) → List ℕ → Cause → Type 0) → IsOneKind kind →
      (f g : List Lexeme) (x y : Lexeme) (b e : List Lexeme) (c d : Cause)
      → f ++ x ∷ b ≡ g ++ y ∷ e → GoesOnToText grammar (texts f) → GoesOnToText grammar (texts g) → (GoesOnToText grammar (texts f ++ x.text ∷ []) → ⊥) →
      (GoesOnToText grammar (texts g ++ y.text ∷ []) → ⊥)
      → kind (texts f) x.text c → kind (texts g) y.text d → (x.at ≡ y.at) × (c ≡ d)
  stands_once grammar kind once [] [] x y b e c d whole p q m n k l =
      let same : x ≡ y = cc in
      (ap (λ (z : Lexeme). z.at) same, once [] y.text c d (subst (λ (z : Lexeme). kind [] z.text c) same k) l)
  stands_once grammar kind once [] (z ∷ g) x y b e c d whole p q m n k l =
      let same : x ≡ z = cc in
      absurd (m (subst (λ (w : Lexeme). GoesOnToText grammar (w.text ∷ [])) (sym same) (texts g ++ q.0, q.1, q.2)))
  stands_once grammar kind once (w ∷ f) [] x y b e c d whole p q m n k l =
      let same : w ≡ y = cc in
      absurd (n (subst (λ (z : Lexeme). GoesOnToText grammar (z.text ∷ [])) same (texts f ++ p.0, p.1, p.2)))
  stands_once grammar kind once (w ∷ f) (z ∷ g) x y b e c d whole p q m n k l =
      let same : z ≡ w = cc in
      let tails : f ++ x ∷ b ≡ g ++ y ∷ e = cc in
      stands_once (λ ts a. grammar (w.text ∷ ts) a) (λ ts t cause. kind (w.text ∷ ts) t cause) (λ ts t i j h u. once (w.text ∷ ts) t i j h u)
      f g x y b e c d tails p
      (subst (λ (v : Lexeme). GoesOnToText grammar (v.text ∷ texts g)) same q) m
      (subst (λ (v : Lexeme). GoesOnToText grammar (v.text ∷ (texts g ++ y.text ∷ [])) → ⊥) same n) k
      (subst (λ (v : Lexeme). kind (v.text ∷ texts g) y.text d) same l)

  module _ (grammar : List (List ℕ) → A → Type 0) (kind : List (List ℕ) → List ℕ → Cause → Type 0) (once : IsOneKind kind) (xs : List Lexeme) (end : ℕ) where
    -- where all tokens go on, no fault stands at one of them
    never_stands : (place : ℕ) (cause : Cause) → GoesOnToText grammar (texts xs) → StandsAt grammar kind xs place cause → ⊥
    never_stands place cause p h =
        let all : texts xs ≡ texts h.front ++ (h.token.text ∷ texts h.back) =
        ap texts h.whole ∙ map-append (λ (x : Lexeme). x.text) h.front (h.token ∷ h.back) in
        let whole : texts xs ++ p.0 ≡ (texts h.front ++ h.token.text ∷ []) ++ (texts h.back ++ p.0) =
        ap (λ l. l ++ p.0) all ∙ regroup (texts h.front) h.token.text (texts h.back) p.0 in
        h.never (texts h.back ++ p.0, p.1, subst (λ ts. grammar ts p.1) whole p.2)
      where
        regroup : (a : List (List ℕ)) (t : List ℕ) (b l : List (List ℕ)) → (a ++ t ∷ b) ++ l ≡ (a ++ t ∷ []) ++ (b ++ l)
        regroup [] t b l = refl
        regroup (x ∷ a) t b l = ap (λ y. x ∷ y) (regroup a t b l)

    -- the text has ended, or the fault stands at a token
    abbrev Parted : ℕ → Cause → Type 0
    Parted place cause = ((cause ≡ Ended) × (place ≡ end) × GoesOnToText grammar (texts xs)) ⊎ StandsAt grammar kind xs place cause

    parted : (place : ℕ) (cause : Cause) → IsFaultAt grammar kind xs end place cause → Parted place cause
    parted place Ended h = inl (refl, h.0, h.1)
    parted place Unexpected h = inr h
    parted place RepeatedName h = inr h
    parted place ZeroDenominator h = inr h
    parted place TooWide h = inr h
    parted place UnknownName h = inr h

    parted_once : (p q : ℕ) (c d : Cause) → Parted p c → Parted q d → (p ≡ q) × (c ≡ d)
    parted_once p q c d (inl h) (inl k) = (h.1 ∙ sym k.1, h.0 ∙ sym k.0)
    parted_once p q c d (inl h) (inr k) = absurd (never_stands q d h.2 k)
    parted_once p q c d (inr h) (inl k) = absurd (never_stands p c k.2 h)
    parted_once p q c d (inr h) (inr k) =
        let same = stands_once grammar kind once h.front k.front h.token k.token h.back k.back c d (sym h.whole ∙ k.whole) h.before k.before h.never k.never
        h.of_kind k.of_kind in
        (sym h.at ∙ same.0 ∙ k.at, same.1)

    pub fault_once : (f g : Fault) → IsFault grammar kind xs end f → IsFault grammar kind xs end g → f ≡ g
    fault_once f g h k =
        let same = parted_once f.at g.at f.cause g.cause (parted f.at f.cause h) (parted g.at g.cause k) in
        let places = same.0 in
        let causes = same.1 in
        λ i. record { at = places i; cause = causes i }

    -- where no text stands there is one refusal
    pub no_text_once : (e d : TextError) → IsNoText grammar kind xs end e → IsNoText grammar kind xs end d → e ≡ d
    no_text_once e d h k = sym h.refused ∙ ap refusal (fault_once h.fault k.fault h.place k.place) ∙ k.refused

-- ---- kinds

module _ {A : Type 0} (grammar : List (List ℕ) → A → Type 0) where
  pub number_kind_once : IsOneKind (IsNumberKind grammar)
  number_kind_once ts t Unexpected Unexpected h k = refl
  number_kind_once ts t Unexpected TooWide h k = absurd (h k.0 k.1)
  number_kind_once ts t TooWide Unexpected h k = absurd (k h.0 h.1)
  number_kind_once ts t TooWide TooWide h k = refl
  number_kind_once ts t Ended d h k = absurd h
  number_kind_once ts t RepeatedName d h k = absurd h
  number_kind_once ts t ZeroDenominator d h k = absurd h
  number_kind_once ts t UnknownName d h k = absurd h
  number_kind_once ts t c Ended h k = absurd k
  number_kind_once ts t c RepeatedName h k = absurd k
  number_kind_once ts t c ZeroDenominator h k = absurd k
  number_kind_once ts t c UnknownName h k = absurd k

  zero_not_wide : (ring ts : List (List ℕ)) (t : List ℕ) → IsTokenKind ring grammar ts t ZeroDenominator → IsTokenKind ring grammar ts t TooWide → ⊥
  zero_not_wide ring ts t h k = let n = k.1 in let small = k.2 n.0 n.1 n.2 in let zero = h.1 in omega arith

  number_not_word : (t : List ℕ) → is_number t ≡ true → is_word t ≡ true → ⊥
  number_not_word t digits word = let other = number_no_word t digits in cc

  pub token_kind_once : (ring : List (List ℕ)) → IsOneKind (IsTokenKind ring grammar)
  token_kind_once ring ts t Unexpected Unexpected h k = refl
  token_kind_once ring ts t Unexpected ZeroDenominator h k = absurd (h.0 k.0 k.2)
  token_kind_once ring ts t Unexpected TooWide h k = absurd (h.0 k.0 k.1)
  token_kind_once ring ts t Unexpected UnknownName h k = absurd (h.1 k.0 k.1)
  token_kind_once ring ts t ZeroDenominator Unexpected h k = absurd (k.0 h.0 h.2)
  token_kind_once ring ts t ZeroDenominator ZeroDenominator h k = refl
  token_kind_once ring ts t ZeroDenominator TooWide h k = absurd (zero_not_wide ring ts t h k)
  token_kind_once ring ts t ZeroDenominator UnknownName h k = absurd (number_not_word t h.0 k.0)
  token_kind_once ring ts t TooWide Unexpected h k = absurd (k.0 h.0 h.1)
  token_kind_once ring ts t TooWide ZeroDenominator h k = absurd (zero_not_wide ring ts t k h)
  token_kind_once ring ts t TooWide TooWide h k = refl
  token_kind_once ring ts t TooWide UnknownName h k = absurd (number_not_word t h.0 k.0)
  token_kind_once ring ts t UnknownName Unexpected h k = absurd (k.1 h.0 h.1)
  token_kind_once ring ts t UnknownName ZeroDenominator h k = absurd (number_not_word t k.0 h.0)
  token_kind_once ring ts t UnknownName TooWide h k = absurd (number_not_word t k.0 h.0)
  token_kind_once ring ts t UnknownName UnknownName h k = refl
  token_kind_once ring ts t Ended d h k = absurd h
  token_kind_once ring ts t RepeatedName d h k = absurd h
  token_kind_once ring ts t c Ended h k = absurd k
  token_kind_once ring ts t c RepeatedName h k = absurd k
