-- The machine of sets reads no more than the grammar of sets says.
-- To cite: set_said, name_read, number_read. The rest are steps: a move and what follows it, what is read at each place, token by token.
use Rattle.std.proofs.Common.{◌≡◌, ℕ, ◌==◌, nat_le, true, false, ◌&&◌, List, [], ◌∷◌, Option, Some, None, refl, sym, ap, subst, ◌∙◌, ◌⊎◌, inl, inr, bytes_eq}
use Rattle.std.proofs.Common.{if◌then◌else◌}
use Rattle.gf_text.specs.declared.error.Cause.TheVariants.{Unexpected, UnknownName, TooWide, ZeroDenominator}
use Rattle.gf_text.specs.declared.tree.WrittenTerm.{WrittenTerm}
use Rattle.gf_text.specs.declared.set_reader.SetPlace.{SetPlace}
use Rattle.gf_text.specs.declared.set_reader.SetPlace.TheVariants as at
use Rattle.gf_text.specs.declared.set_reader.Part.{Part}
use Rattle.gf_text.specs.Machine.{go, done, halt, after}
use Rattle.gf_text.specs.Tokens.{is_number, decimal_value}
use Rattle.gf_text.specs.SetText.{variable, most, most_exponent, IsNumberText, IsSetText, SetMove, with_variable, with_factor, with_sign, with_numer}
use Rattle.gf_text.specs.SetText.{with_denom, next_term, all_of, next_polynomial, is_word, name_or_by, number_or, term_or, front_step, end_step, behind_step}
use Rattle.gf_text.specs.SetText.{token_step, set_step, empty}
use Rattle.gf_text.specs.Marks.{plus_mark, minus_mark, comma, star, slash, caret, brace, brace_end}
use Rattle.gf_text.proofs.MachineLaws.{not_yet, Then, From, move, chosen, halted, ended}
use Rattle.gf_text.proofs.SetPartsLaws.{Behind, Factored, Named, Powered, Numbered, Divided, FreshTerm, Term, Fresh, Polynomial, First, one_factor}
use Rattle.gf_text.proofs.SetPartsLaws.{more_factors, more_terms, more_polynomials, at_end, factor_term, number_term, signed, bare}
use Rattle.gf_text.proofs.SetTokensLaws.{is_mark, le_from, positive}

abbrev Texts : Type 0
Texts = List (List ℕ)

abbrev Sets : Type 0
Sets = List (List WrittenTerm)

module _ (ring : List (List ℕ)) where
  -- a name, or what another token does
  named_by : (o : Option ℕ) (p : Part) (t : List ℕ) (other : SetMove) (ts : Texts) (ps : Sets) → Then (set_step ring) (name_or_by o p t other) ts ps
      → ((v : ℕ) × (o ≡ Some v) × From (set_step ring) (at.Name, with_variable p v) ts ps) ⊎ Then (set_step ring) other ts ps
  named_by (Some v) p t other ts ps e = inl (v, refl, e)
  named_by None p t other ts ps e = elim (chosen (set_step ring) (is_word t) (halt UnknownName) other ts ps e) [
    | inl h ↦ halted (set_step ring) UnknownName ts ps h.1
    | inr h ↦ inr h.1
  ]

  -- a number, or what another token does
  numbered : (t : List ℕ) (limit : ℕ) (taken other : SetMove) (ts : Texts) (ps : Sets) → Then (set_step ring) (number_or t limit taken other) ts ps
      → (IsNumberText t (decimal_value t) limit × Then (set_step ring) taken ts ps) ⊎ Then (set_step ring) other ts ps
  numbered t limit taken other ts ps e =
      elim (chosen (set_step ring) (is_number t) (if nat_le (decimal_value t) limit then taken else halt TooWide) other ts ps e) [
        | inr h ↦ inr h.1
        | inl h ↦ elim (chosen (set_step ring) (nat_le (decimal_value t) limit) taken (halt TooWide) ts ps h.1) [
          | inr k ↦ halted (set_step ring) TooWide ts ps k.1
          | inl k ↦ inl ((h.0, refl, le_from (decimal_value t) limit k.0), k.1)
        ]
      ]

  -- ---- what is read from each place on

  Said : SetPlace → Part → Texts → Sets → Type 0
  Said at.Brace p ts ps = (rest : Texts) × (ts ≡ brace ∷ rest) × First ring p rest ps
  Said at.First p ts ps = First ring p ts ps
  Said at.Polynomial p ts ps = Fresh p → Polynomial ring p ts ps
  Said at.Term p ts ps = FreshTerm p → Term ring p ts ps
  Said at.Number p ts ps = Numbered ring p ts ps
  Said at.Denominator p ts ps = Divided ring p ts ps
  Said at.Star p ts ps = Factored ring p ts ps
  Said at.Name p ts ps = Named ring p ts ps
  Said at.Exponent p ts ps = Powered ring p ts ps
  Said at.Behind p ts ps = Behind ring p ts ps

  -- what follows a token
  Later : Texts → Type 0
  Later ts = (place : SetPlace) (p : Part) (ps : Sets) → From (set_step ring) (place, p) ts ps → Said place p ts ps

  -- ---- what is read, token by token

  module _ (t : List ℕ) (ts : Texts) (later : Later ts) where
    name_on : (p : Part) (ps : Sets) (v : ℕ) → variable ring t ≡ Some v → From (set_step ring) (at.Name, with_variable p v) ts ps → Factored ring p (t ∷ ts) ps
    unfolding Said Later
    name_on p ps v named e = one_factor ring p t v ts ps named (later at.Name (with_variable p v) ps e)

    -- behind a whole term
    end_on : (p : Part) (ps : Sets) → Then (set_step ring) (end_step p t) ts ps → Behind ring p (t ∷ ts) ps
    unfolding Said Later
    end_on p ps e = elim (chosen (set_step ring) (bytes_eq t plus_mark) (go (at.Term, next_term p false)) _ ts ps e) [
      | inl h ↦ more_terms ring p false t ts ps (is_mark t plus_mark h.0)
          (later at.Term (next_term p false) ps h.1 (record { numer = refl; denom = refl; factors = refl }))
      | inr h ↦ elim (chosen (set_step ring) (bytes_eq t minus_mark) (go (at.Term, next_term p true)) _ ts ps h.1) [
        | inl k ↦ more_terms ring p true t ts ps (is_mark t minus_mark k.0)
            (later at.Term (next_term p true) ps k.1 (record { numer = refl; denom = refl; factors = refl }))
        | inr k ↦ elim (chosen (set_step ring) (bytes_eq t comma) (go (at.Polynomial, next_polynomial p)) _ ts ps k.1) [
          | inl l ↦ more_polynomials ring p t ts ps (is_mark t comma l.0)
              (later at.Polynomial (next_polynomial p) ps l.1
              (record { terms = refl; plus_sign = refl; term = record { numer = refl; denom = refl; factors = refl } }))
          | inr l ↦ elim (chosen (set_step ring) (bytes_eq t brace_end) (done (all_of p)) (halt Unexpected) ts ps l.1) [
            | inl d ↦ let end = ended (set_step ring) (all_of p) ts ps d.1 in at_end ring p t ts ps (is_mark t brace_end d.0) end.0 end.1
            | inr d ↦ halted (set_step ring) Unexpected ts ps d.1
          ]
        ]
      ]
    ]

    -- behind a factor
    behind_on : (p : Part) (ps : Sets) → Then (set_step ring) (behind_step ring p t) ts ps → Behind ring p (t ∷ ts) ps
    unfolding Said Later
    behind_on p ps e = elim (chosen (set_step ring) (bytes_eq t star) (go (at.Star, p)) _ ts ps e) [
      | inl h ↦ more_factors ring p (t ∷ []) ts ps (inr (ap (λ x. x ∷ []) (is_mark t star h.0))) (later at.Star p ps h.1)
      | inr h ↦ elim (named_by (variable ring t) p t (end_step p t) ts ps h.1) [
        | inl n ↦ more_factors ring p [] (t ∷ ts) ps (inl refl) (name_on p ps n.0 n.1 n.2)
        | inr k ↦ end_on p ps k
      ]
    ]

    -- where a term is expected
    term_on : (p : Part) (ps : Sets) → Then (set_step ring) (term_or ring p t (halt Unexpected)) ts ps → FreshTerm p → Term ring p (t ∷ ts) ps
    unfolding Said Later
    term_on p ps e fresh = elim (numbered t most (go (at.Number, with_numer p (decimal_value t))) _ ts ps e) [
      | inl h ↦ number_term ring p t ts ps h.0 (later at.Number (with_numer p (decimal_value t)) ps h.1) fresh
      | inr h ↦ elim (named_by (variable ring t) p t (halt Unexpected) ts ps h) [
        | inl n ↦ factor_term ring p (t ∷ ts) ps (name_on p ps n.0 n.1 n.2) fresh
        | inr k ↦ halted (set_step ring) Unexpected ts ps k
      ]
    ]

    -- where a polynomial is expected
    front_on : (p : Part) (ps : Sets) → Then (set_step ring) (front_step ring p t) ts ps → Fresh p → Polynomial ring p (t ∷ ts) ps
    unfolding Said Later
    front_on p ps e fresh = elim (chosen (set_step ring) (bytes_eq t plus_mark) (go (at.Term, with_sign p false)) _ ts ps e) [
      | inl h ↦ signed ring p false t ts ps (is_mark t plus_mark h.0)
          (later at.Term (with_sign p false) ps h.1 (record { numer = fresh.term.numer; denom = fresh.term.denom; factors = fresh.term.factors })) fresh
      | inr h ↦ elim (chosen (set_step ring) (bytes_eq t minus_mark) (go (at.Term, with_sign p true)) _ ts ps h.1) [
        | inl k ↦ signed ring p true t ts ps (is_mark t minus_mark k.0)
            (later at.Term (with_sign p true) ps k.1 (record { numer = fresh.term.numer; denom = fresh.term.denom; factors = fresh.term.factors })) fresh
        | inr k ↦ bare ring p (t ∷ ts) ps (term_on p ps k.1 fresh.term) fresh
      ]
    ]

    on_token : (place : SetPlace) (p : Part) (ps : Sets) → Then (set_step ring) (token_step ring place p t) ts ps → Said place p (t ∷ ts) ps
    unfolding Said Later
    on_token at.Brace p ps e = elim (chosen (set_step ring) (bytes_eq t brace) (go (at.First, p)) (halt Unexpected) ts ps e) [
      | inl h ↦ (ts, ap (λ x. x ∷ ts) (is_mark t brace h.0), later at.First p ps h.1)
      | inr h ↦ halted (set_step ring) Unexpected ts ps h.1
    ]
    on_token at.First p ps e = elim (chosen (set_step ring) (bytes_eq t brace_end) (done p.polynomials) (front_step ring p t) ts ps e) [
      | inl h ↦ let end = ended (set_step ring) p.polynomials ts ps h.1 in inl (
        ap (λ x. x ∷ ts) (is_mark t brace_end h.0) ∙ ap (λ l. brace_end ∷ l) end.0,
        end.1,
      )
      | inr h ↦ inr (front_on p ps h.1)
    ]
    on_token at.Polynomial p ps e = front_on p ps e
    on_token at.Term p ps e = term_on p ps e
    on_token at.Number p ps e = elim (chosen (set_step ring) (bytes_eq t slash) (go (at.Denominator, p)) (behind_step ring p t) ts ps e) [
      | inl h ↦ let n = later at.Denominator p ps h.1 in record {
        over = slash ∷ n.t ∷ [];
        d = decimal_value n.t;
        rest = n.rest;
        tokens = ap (λ x. x ∷ ts) (is_mark t slash h.0) ∙ ap (λ l. slash ∷ l) n.tokens;
        which = inr (n.t, refl, n.number, n.nonzero);
        behind = n.behind;
      }
      | inr h ↦ record { over = []; d = p.denom; rest = t ∷ ts; tokens = refl; which = inl (refl, refl); behind = behind_on p ps h.1 }
    ]
    on_token at.Denominator p ps e = elim (chosen (set_step ring) (is_number t && decimal_value t == 0) (halt ZeroDenominator) _ ts ps e) [
      | inl h ↦ halted (set_step ring) ZeroDenominator ts ps h.1
      | inr h ↦ elim (numbered t most (go (at.Behind, with_denom p (decimal_value t))) (halt Unexpected) ts ps h.1) [
        | inl k ↦ record {
          t = t;
          rest = ts;
          tokens = refl;
          number = k.0;
          nonzero = positive t (k.0.0) h.0;
          behind = later at.Behind (with_denom p (decimal_value t)) ps k.1;
        }
        | inr k ↦ halted (set_step ring) Unexpected ts ps k
      ]
    ]
    on_token at.Star p ps e = elim (named_by (variable ring t) p t (halt Unexpected) ts ps e) [
      | inl n ↦ name_on p ps n.0 n.1 n.2
      | inr k ↦ halted (set_step ring) Unexpected ts ps k
    ]
    on_token at.Name p ps e = elim (chosen (set_step ring) (bytes_eq t caret) (go (at.Exponent, p)) (behind_step ring (with_factor p 1) t) ts ps e) [
      | inl h ↦ let n = later at.Exponent p ps h.1 in record {
        power = caret ∷ n.t ∷ [];
        k = decimal_value n.t;
        rest = n.rest;
        tokens = ap (λ x. x ∷ ts) (is_mark t caret h.0) ∙ ap (λ l. caret ∷ l) n.tokens;
        which = inr (n.t, refl, n.number);
        behind = n.behind;
      }
      | inr h ↦ record { power = []; k = 1; rest = t ∷ ts; tokens = refl; which = inl (refl, refl); behind = behind_on (with_factor p 1) ps h.1 }
    ]
    on_token at.Exponent p ps e = elim (numbered t most_exponent (go (at.Behind, with_factor p (decimal_value t))) (halt Unexpected) ts ps e) [
      | inl h ↦ record { t = t; rest = ts; tokens = refl; number = h.0; behind = later at.Behind (with_factor p (decimal_value t)) ps h.1 }
      | inr h ↦ halted (set_step ring) Unexpected ts ps h
    ]
    on_token at.Behind p ps e = behind_on p ps e

  said : (ts : Texts) → Later ts
  unfolding Later
  said [] place p ps e = absurd (not_yet (set_step ring) (place, p) ps e)
  said (t ∷ ts) place p ps e = on_token t ts (λ q r qs f. said ts q r qs f) place p ps (move (set_step ring) (place, p) t ts ps e)

  set_by : (ts rest : Texts) (ps : Sets) → ts ≡ brace ∷ rest → First ring empty rest ps → IsSetText ring ts ps
  set_by ts rest ps is (inl h) =
      let P : Sets → Type 0 = λ qs. IsSetText ring ts qs in
      subst P (sym h.1) (is ∙ ap (λ l. brace ∷ l) h.0)
  set_by ts rest ps is (inr f) =
      let P : Sets → Type 0 = λ qs. IsSetText ring ts qs in
      let n = f (record { terms = refl; plus_sign = refl; term = record { numer = refl; denom = refl; factors = refl } }) in
      subst P (sym n.all) (n.first_texts, n.polynomials, is ∙ ap (λ l. brace ∷ l) n.tokens, n.is_polynomial, n.are_polynomials)

  pub set_said : (ts : Texts) (ps : Sets) → after (set_step ring) (at.Brace, empty) ts ≡ done ps → IsSetText ring ts ps
  unfolding Said Later
  set_said ts ps e = let s = said ts at.Brace empty ps e in set_by ts s.0 ps s.1 s.2

  -- what is read behind a name, and behind a numerator
  pub name_read : (ts : Texts) (p : Part) (ps : Sets) → after (set_step ring) (at.Name, p) ts ≡ done ps → Named ring p ts ps
  unfolding Said Later
  name_read ts p ps e = said ts at.Name p ps e

  pub number_read : (ts : Texts) (p : Part) (ps : Sets) → after (set_step ring) (at.Number, p) ts ≡ done ps → Numbered ring p ts ps
  unfolding Said Later
  number_read ts p ps e = said ts at.Number p ps e
