-- The machine of sets reads what the grammar of sets says.
-- To cite: set_given. The rest are steps: terms, polynomials.
use Rattle.std.proofs.Common.{◌≡◌, ℕ, ◌==◌, Bool, true, false, List, [], ◌∷◌, ◌++◌, refl, sym, ap, ◌∙◌, inl, inr, append_assoc, append-nil}
use Rattle.gf_text.specs.declared.tree.WrittenTerm.{WrittenTerm}
use Rattle.gf_text.specs.declared.set_reader.SetPlace.TheVariants as at
use Rattle.gf_text.specs.declared.set_reader.Part.{Part}
use Rattle.gf_text.specs.Machine.{done, after}
use Rattle.gf_text.specs.Tokens.{decimal_value}
use Rattle.gf_text.specs.RingText.{IsRing}
use Rattle.gf_text.specs.SetText.{sign, most, IsNumberText, IsRationalText, IsTermText, AreMoreTerms, IsFrontSign, IsPolynomialText, AreMorePolynomials}
use Rattle.gf_text.specs.SetText.{IsSetText, SetState, with_variable, with_sign, with_numer, with_denom, part_terms, next_term, all_of, next_polynomial}
use Rattle.gf_text.specs.SetText.{set_step, empty}
use Rattle.gf_text.specs.Marks.{plus_mark, minus_mark, slash, brace, brace_end}
use Rattle.gf_text.proofs.MachineLaws.{after-go, after-done}
use Rattle.gf_text.proofs.SetFactorsLaws.{Leads, Like, Takes, behind_like, number_like, like_sign, like_comma, like_end, Behind, then_factors, behind_at}
use Rattle.gf_text.proofs.SetFactorsLaws.{factors_read, monomial_read}
use Rattle.gf_text.proofs.SetTokensLaws.{named_word, word_no_number, word_no_mark, number_no_mark, number_within, not_zero}

abbrev Texts : Type 0
Texts = List (List ℕ)

abbrev Sets : Type 0
Sets = List (List WrittenTerm)

module _ (ring : List (List ℕ)) (is_ring : IsRing ring) where
  -- ---- terms

  -- a state where a term may begin
  record Begins (s : SetState) (p : Part) : Type 0 where
    number_on : (t : List ℕ) (n : ℕ) (ts : Texts) → IsNumberText t n most → Leads ring s (t ∷ ts) (at.Number, with_numer p (decimal_value t)) ts
    name_on : Takes ring s p

  -- nothing of a term was read
  record Fresh (p : Part) : Type 0 where
    numer : p.numer ≡ 1
    denom : p.denom ≡ 1
    factors : p.factors ≡ []

  rational_read : (a b : ℕ) (ts : Texts) → IsRationalText ts a b → (rest : Texts) (s : SetState) (p : Part) → Begins s p → p.denom ≡ 1 →
      Behind ring s ts rest (record p { numer = a; denom = b })
  rational_read a b ts (inl (t, is, number, one)) rest s p begins fresh = record {
    state = (at.Number, with_numer p (decimal_value t));
    part = with_numer p (decimal_value t);
    like = number_like ring (with_numer p (decimal_value t));
    same = ap (with_numer p) number.1 ∙ ap (λ d. record p { numer = a; denom = d }) (fresh ∙ sym one);
    on = ap (λ l. after (set_step ring) s (l ++ rest)) is ∙ begins.number_on t a rest number;
  }
  rational_read a b ts (inr (t, u, is, number, denom, positive)) rest s p begins fresh =
      let q = with_numer p (decimal_value t) in
      let digits = denom.0 in
      let within = number_within u b most denom in
      let zero = ap (λ n. n == 0) denom.1 ∙ not_zero b positive in
      record {
        state = (at.Behind, with_denom q (decimal_value u));
        part = with_denom q (decimal_value u);
        like = behind_like ring (with_denom q (decimal_value u));
        same = ap (λ n. record p { numer = n; denom = decimal_value u }) number.1 ∙ ap (λ n. record p { numer = a; denom = n }) denom.1;
        on = ap (λ l. after (set_step ring) s (l ++ rest)) is
            ∙ begins.number_on t a (slash ∷ u ∷ rest) number
            ∙ after-go (set_step ring) (at.Number, q) (at.Denominator, q) slash (u ∷ rest) refl
            ∙ after-go (set_step ring) (at.Denominator, q) (at.Behind, with_denom q (decimal_value u)) u rest (rw (digits, zero, within) refl);
      }

  term_read : (u : WrittenTerm) (ts : Texts) → IsTermText ring ts u → (rest : Texts) (s : SetState) (p : Part) → Begins s p → Fresh p →
      Behind ring s ts rest (record p { numer = u.numer; denom = u.denom; factors = u.factors })
  term_read u ts (inl (rational, others, is, number, later)) rest s p begins fresh =
      let b = rational_read u.numer u.denom rational number (others ++ rest) s p begins fresh.denom in
      let r = factors_read ring is_ring u.factors others later rest b.state b.part b.like in
      behind_at ring is_ring s ts (rational ++ others) rest (record p { numer = u.numer; denom = u.denom; factors = p.factors ++ u.factors })
      (record p { numer = u.numer; denom = u.denom; factors = u.factors }) is
      (ap (λ l. record p { numer = u.numer; denom = u.denom; factors = l ++ u.factors }) fresh.factors)
      (then_factors ring is_ring s rational others rest (record p { numer = u.numer; denom = u.denom }) u.factors b r)
  term_read u ts (inr (one, whole, monomial)) rest s p begins fresh =
      behind_at ring is_ring s ts ts rest (record p { factors = p.factors ++ u.factors }) (record p { numer = u.numer; denom = u.denom; factors = u.factors })
      refl
      (ap (λ l. record p { factors = l ++ u.factors }) fresh.factors
      ∙ ap (λ n. record p { numer = n; factors = u.factors }) (fresh.numer ∙ sym one)
      ∙ ap (λ n. record p { numer = u.numer; denom = n; factors = u.factors }) (fresh.denom ∙ sym whole))
      (monomial_read ring is_ring u.factors ts monomial rest s p begins.name_on)

  -- behind a sign
  term_begins : (p : Part) → Begins (at.Term, p) p
  term_begins p = record { number_on = number; name_on = named }
    where
      number : (t : List ℕ) (n : ℕ) (ts : Texts) → IsNumberText t n most → Leads ring (at.Term, p) (t ∷ ts) (at.Number, with_numer p (decimal_value t)) ts
      number t n ts h =
          let digits = h.0 in
          let within = number_within t n most h in
          after-go (set_step ring) (at.Term, p) (at.Number, with_numer p (decimal_value t)) t ts (rw (digits, within) refl)

      named : Takes ring (at.Term, p) p
      named t v ts h = after-go (set_step ring) (at.Term, p) (at.Name, with_variable p v) t ts (rw (word_no_number t (named_word ring is_ring t v h), h) refl)

  -- terms behind a term

  -- Behind ring these tokens these terms are read, and these polynomials before.
  record Through (s : SetState) (ts rest : Texts) (polynomials : Sets) (terms : List WrittenTerm) : Type 0 where
    state : SetState
    part : Part
    like : Like ring state part
    terms_are : part_terms part ≡ terms
    same : part.polynomials ≡ polynomials
    on : Leads ring s (ts ++ rest) state rest

  terms_read : (us : List WrittenTerm) (ts : Texts) → AreMoreTerms ring ts us → (rest : Texts) (s : SetState) (p : Part) → Like ring s p →
      Through s ts rest p.polynomials (part_terms p ++ us)
  terms_read [] ts h rest s p like = record {
    state = s;
    part = p;
    like = like;
    terms_are = sym (append-nil (part_terms p));
    same = refl;
    on = ap (λ l. after (set_step ring) s (l ++ rest)) h;
  }
  terms_read (u ∷ us) ts (term, more, is, said, later) rest s p like =
      let q = next_term p u.minus in
      let b = term_read u term said (more ++ rest) (at.Term, q) q (term_begins q) (record { numer = refl; denom = refl; factors = refl }) in
      let r = terms_read us more later rest b.state b.part b.like in
      record {
        state = r.state;
        part = r.part;
        like = r.like;
        terms_are = r.terms_are ∙ ap (λ (x : Part). part_terms x ++ us) b.same ∙ append_assoc (part_terms p) (u ∷ []) us;
        same = r.same ∙ ap (λ (x : Part). x.polynomials) b.same;
        on = ap (λ l. after (set_step ring) s (l ++ rest)) is
            ∙ like_sign ring is_ring s p like u.minus ((term ++ more) ++ rest)
            ∙ ap (after (set_step ring) (at.Term, q)) (append_assoc term more rest)
            ∙ b.on
            ∙ r.on;
      }

  -- ---- polynomials

  -- a state where a polynomial may begin
  record Opens (s : SetState) (p : Part) : Type 0 where
    sign_on : (m : Bool) (ts : Texts) → Leads ring s (sign m ∷ ts) (at.Term, with_sign p m) ts
    begins : Begins s p

  polynomial_opens : (p : Part) → Opens (at.Polynomial, p) p
  polynomial_opens p = record { sign_on = signed; begins = record { number_on = number; name_on = named } }
    where
      signed : (m : Bool) (ts : Texts) → Leads ring (at.Polynomial, p) (sign m ∷ ts) (at.Term, with_sign p m) ts
      signed true ts = after-go (set_step ring) (at.Polynomial, p) (at.Term, with_sign p true) minus_mark ts refl
      signed false ts = after-go (set_step ring) (at.Polynomial, p) (at.Term, with_sign p false) plus_mark ts refl

      number : (t : List ℕ) (n : ℕ) (ts : Texts) → IsNumberText t n most → Leads ring (at.Polynomial, p) (t ∷ ts) (at.Number, with_numer p (decimal_value t)) ts
      number t n ts h =
          let digits = h.0 in
          let within = number_within t n most h in
          after-go (set_step ring) (at.Polynomial, p) (at.Number, with_numer p (decimal_value t)) t ts
          (rw (number_no_mark t 43 digits refl, number_no_mark t 45 digits refl, digits, within) refl)

      named : Takes ring (at.Polynomial, p) p
      named t v ts h =
          let word = named_word ring is_ring t v h in
          after-go (set_step ring) (at.Polynomial, p) (at.Name, with_variable p v) t ts (rw (
            word_no_mark t 43 word refl,
            word_no_mark t 45 word refl,
            word_no_number t word,
            h,
          ) refl)

  first_opens : (p : Part) → Opens (at.First, p) p
  first_opens p = record { sign_on = signed; begins = record { number_on = number; name_on = named } }
    where
      signed : (m : Bool) (ts : Texts) → Leads ring (at.First, p) (sign m ∷ ts) (at.Term, with_sign p m) ts
      signed true ts = after-go (set_step ring) (at.First, p) (at.Term, with_sign p true) minus_mark ts refl
      signed false ts = after-go (set_step ring) (at.First, p) (at.Term, with_sign p false) plus_mark ts refl

      number : (t : List ℕ) (n : ℕ) (ts : Texts) → IsNumberText t n most → Leads ring (at.First, p) (t ∷ ts) (at.Number, with_numer p (decimal_value t)) ts
      number t n ts h =
          let digits = h.0 in
          let within = number_within t n most h in
          after-go (set_step ring) (at.First, p) (at.Number, with_numer p (decimal_value t)) t ts
          (rw (number_no_mark t 125 digits refl, number_no_mark t 43 digits refl, number_no_mark t 45 digits refl, digits, within) refl)

      named : Takes ring (at.First, p) p
      named t v ts h =
          let word = named_word ring is_ring t v h in
          after-go (set_step ring) (at.First, p) (at.Name, with_variable p v) t ts
          (rw (word_no_mark t 125 word refl, word_no_mark t 43 word refl, word_no_mark t 45 word refl, word_no_number t word, h) refl)

  -- the sign at the front, or none, and the term behind it
  front_read : (u : WrittenTerm) (front term : Texts) → IsFrontSign front u.minus → IsTermText ring term u → (rest : Texts) (s : SetState) (p : Part) →
      Opens s p → Fresh p → p.minus ≡ false
      → Behind ring s (front ++ term) rest (record p { minus = u.minus; numer = u.numer; denom = u.denom; factors = u.factors })
  front_read u front term (inl h) said rest s p opens fresh plus_sign =
      let b = term_read u term said rest (at.Term, with_sign p u.minus) (with_sign p u.minus) (term_begins (with_sign p u.minus))
      (record { numer = fresh.numer; denom = fresh.denom; factors = fresh.factors }) in
      record {
        state = b.state;
        part = b.part;
        like = b.like;
        same = b.same;
        on = ap (λ l. after (set_step ring) s ((l ++ term) ++ rest)) h ∙ opens.sign_on u.minus (term ++ rest) ∙ b.on;
      }
  front_read u front term (inr h) said rest s p opens fresh plus_sign =
      let b = term_read u term said rest s p opens.begins fresh in
      record {
        state = b.state;
        part = b.part;
        like = b.like;
        same = b.same ∙ ap (λ m. record p { minus = m; numer = u.numer; denom = u.denom; factors = u.factors; variable = b.part.variable })
            (plus_sign ∙ sym h.1);
        on = ap (λ l. after (set_step ring) s ((l ++ term) ++ rest)) h.0 ∙ b.on;
      }

  polynomial_read : (us : List WrittenTerm) (ts : Texts) → IsPolynomialText ring ts us → (rest : Texts) (s : SetState) (p : Part) → Opens s p → Fresh p →
      p.minus ≡ false → p.terms ≡ [] → Through s ts rest p.polynomials us
  polynomial_read [] ts h rest s p opens fresh plus_sign none = absurd h
  polynomial_read (u ∷ us) ts (front, term, more, is, signed, said, later) rest s p opens fresh plus_sign none =
      let b = front_read u front term signed said (more ++ rest) s p opens fresh plus_sign in
      let r = terms_read us more later rest b.state b.part b.like in
      let regrouped : (front ++ (term ++ more)) ++ rest ≡ (front ++ term) ++ (more ++ rest) = simp append_assoc in
      record {
        state = r.state;
        part = r.part;
        like = r.like;
        terms_are = r.terms_are ∙ ap (λ (x : Part). part_terms x ++ us) b.same ∙ ap (λ l. (l ++ u ∷ []) ++ us) none;
        same = r.same ∙ ap (λ (x : Part). x.polynomials) b.same;
        on = ap (λ l. after (set_step ring) s (l ++ rest)) is ∙ ap (after (set_step ring) s) regrouped ∙ b.on ∙ r.on;
      }

  polynomials_read : (qs : Sets) (ts : Texts) → AreMorePolynomials ring ts qs → (s : SetState) (p : Part) → Like ring s p →
      after (set_step ring) s (ts ++ brace_end ∷ []) ≡ done (all_of p ++ qs)
  polynomials_read [] ts h s p like = ap (λ l. after (set_step ring) s (l ++ brace_end ∷ [])) h ∙ like_end ring is_ring s p like ∙ ap (λ l. done l)
      (sym (append-nil (all_of p)))
  polynomials_read (q ∷ qs) ts (first, more, is, polynomial, later) s p like =
      let n = next_polynomial p in
      let r = polynomial_read q first polynomial (more ++ brace_end ∷ []) (at.Polynomial, n) n (polynomial_opens n)
      (record { numer = refl; denom = refl; factors = refl }) refl refl in
      ap (λ l. after (set_step ring) s (l ++ brace_end ∷ [])) is
      ∙ like_comma ring is_ring s p like ((first ++ more) ++ brace_end ∷ [])
      ∙ ap (after (set_step ring) (at.Polynomial, n)) (append_assoc first more (brace_end ∷ []))
      ∙ r.on
      ∙ polynomials_read qs more later r.state r.part r.like
      ∙ ap (λ l. done ((l ++ part_terms r.part ∷ []) ++ qs)) r.same
      ∙ ap (λ l. done ((all_of p ++ l ∷ []) ++ qs)) r.terms_are
      ∙ ap (λ l. done l) (append_assoc (all_of p) (q ∷ []) qs)

  pub set_given : (ts : Texts) (ps : Sets) → IsSetText ring ts ps → after (set_step ring) (at.Brace, empty) ts ≡ done ps
  set_given ts [] h =
      ap (after (set_step ring) (at.Brace, empty)) h
      ∙ after-go (set_step ring) (at.Brace, empty) (at.First, empty) brace (brace_end ∷ []) refl
      ∙ after-done (set_step ring) (at.First, empty) [] brace_end refl
  set_given ts (q ∷ qs) (first, more, is, polynomial, later) =
      let r = polynomial_read q first polynomial (more ++ brace_end ∷ []) (at.First, empty) empty (first_opens empty)
      (record { numer = refl; denom = refl; factors = refl }) refl refl in
      ap (after (set_step ring) (at.Brace, empty)) is
      ∙ after-go (set_step ring) (at.Brace, empty) (at.First, empty) brace (first ++ (more ++ brace_end ∷ [])) refl
      ∙ r.on
      ∙ polynomials_read qs more later r.state r.part r.like
      ∙ ap (λ l. done ((l ++ part_terms r.part ∷ []) ++ qs)) r.same
      ∙ ap (λ l. done ((l ∷ []) ++ qs)) r.terms_are
