-- The machine of sets at powers of variables, and at what may follow them.
-- A name or a number is read before it is known what it belongs to: behind a number a / may follow, behind a name a ^. At
-- any other token the machine does what it does behind a whole factor (`Like`).
-- To cite: Leads, Like, Takes; behind_like, number_like; like_sign, like_comma, like_end; Behind, then_factors, behind_at, factors_read, monomial_read. The
-- rest are steps.
use Rattle.std.proofs.Common.{◌≡◌, ℕ, Bool, true, false, List, [], ◌∷◌, ◌++◌, Some, refl, sym, ap, ◌∙◌, inl, inr, append_assoc, append-nil, bytes_eq}
use Rattle.gf_text.specs.declared.tree.Factor.{Factor}
use Rattle.gf_text.specs.declared.set_reader.SetPlace.TheVariants as at
use Rattle.gf_text.specs.declared.set_reader.Part.{Part}
use Rattle.gf_text.specs.Machine.{go, done, after}
use Rattle.gf_text.specs.Tokens.{decimal_value}
use Rattle.gf_text.specs.RingText.{IsRing}
use Rattle.gf_text.specs.SetText.{variable, sign, most_exponent, IsFactorText, IsStar, AreMoreFactors, IsMonomialText, SetState, with_variable, with_factor}
use Rattle.gf_text.specs.SetText.{next_term, all_of, next_polynomial, behind_step, set_step}
use Rattle.gf_text.specs.Marks.{plus_mark, minus_mark, comma, star, slash, caret, brace_end}
use Rattle.gf_text.proofs.MachineLaws.{after-go, after-done}
use Rattle.gf_text.proofs.SetTokensLaws.{named_word, no_name, word_no_mark, number_within}

abbrev Texts : Type 0
Texts = List (List ℕ)

module _ (ring : List (List ℕ)) where
  -- from a state, some tokens lead to another
  abbrev pub Leads : SetState → Texts → SetState → Texts → Type 0
  Leads s ts u rest = after (set_step ring) s ts ≡ after (set_step ring) u rest

  -- At each token but / and ^ the state does what is done behind a factor.
  abbrev pub Like : SetState → Part → Type 0
  Like s p = (t : List ℕ) → bytes_eq t slash ≡ false → bytes_eq t caret ≡ false → set_step ring s t ≡ behind_step ring p t

  -- a name is taken
  abbrev pub Takes : SetState → Part → Type 0
  Takes s p = (t : List ℕ) (v : ℕ) (ts : Texts) → variable ring t ≡ Some v → Leads s (t ∷ ts) (at.Name, with_variable p v) ts

  -- Behind these tokens this part is read, and maybe a name whose exponent is open.
  pub record Behind (s : SetState) (ts rest : Texts) (p : Part) : Type 0 where
    pub state : SetState
    pub part : Part
    pub like : Like state part
    pub same : part ≡ record p { variable = part.variable }
    pub on : Leads s (ts ++ rest) state rest

  -- a * or nothing, where a name may follow
  record Open (s : SetState) (between : Texts) (p : Part) : Type 0 where
    state : SetState
    takes : Takes state p
    on : (ts : Texts) → Leads s (between ++ ts) state ts

  -- ---- what the machine does at a token

  pub behind_like : (p : Part) → Like (at.Behind, p) p
  behind_like p t a b = refl

  pub number_like : (p : Part) → Like (at.Number, p) p
  number_like p t a b = rw a refl

  name_like : (p : Part) → Like (at.Name, p) (with_factor p 1)
  name_like p t a b = rw b refl

module _ (ring : List (List ℕ)) (is_ring : IsRing ring) where
  like_takes : (s : SetState) (p : Part) → Like ring s p → Takes ring s p
  like_takes s p like t v ts named =
      let word = named_word ring is_ring t v named in
      let no_star = word_no_mark t 42 word refl in
      let here : behind_step ring p t ≡ go (at.Name, with_variable p v) = rw (no_star, named) refl in
      after-go (set_step ring) s (at.Name, with_variable p v) t ts (like t (word_no_mark t 47 word refl) (word_no_mark t 94 word refl) ∙ here)

  star_takes : (p : Part) → Takes ring (at.Star, p) p
  star_takes p t v ts named = after-go (set_step ring) (at.Star, p) (at.Name, with_variable p v) t ts (rw named refl)

  like_star : (s : SetState) (p : Part) → Like ring s p → (ts : Texts) → Leads ring s (star ∷ ts) (at.Star, p) ts
  like_star s p like ts = after-go (set_step ring) s (at.Star, p) star ts (like star refl refl)

  pub like_sign : (s : SetState) (p : Part) → Like ring s p → (m : Bool) (ts : Texts) → Leads ring s (sign m ∷ ts) (at.Term, next_term p m) ts
  like_sign s p like true ts =
      let none = no_name ring is_ring minus_mark refl in
      let here : behind_step ring p minus_mark ≡ go (at.Term, next_term p true) = rw none refl in
      after-go (set_step ring) s (at.Term, next_term p true) minus_mark ts (like minus_mark refl refl ∙ here)
  like_sign s p like false ts =
      let none = no_name ring is_ring plus_mark refl in
      let here : behind_step ring p plus_mark ≡ go (at.Term, next_term p false) = rw none refl in
      after-go (set_step ring) s (at.Term, next_term p false) plus_mark ts (like plus_mark refl refl ∙ here)

  pub like_comma : (s : SetState) (p : Part) → Like ring s p → (ts : Texts) → Leads ring s (comma ∷ ts) (at.Polynomial, next_polynomial p) ts
  like_comma s p like ts =
      let none = no_name ring is_ring comma refl in
      let here : behind_step ring p comma ≡ go (at.Polynomial, next_polynomial p) = rw none refl in
      after-go (set_step ring) s (at.Polynomial, next_polynomial p) comma ts (like comma refl refl ∙ here)

  pub like_end : (s : SetState) (p : Part) → Like ring s p → after (set_step ring) s (brace_end ∷ []) ≡ done (all_of p)
  like_end s p like =
      let none = no_name ring is_ring brace_end refl in
      let here : behind_step ring p brace_end ≡ done (all_of p) = rw none refl in
      after-done (set_step ring) s (all_of p) brace_end (like brace_end refl refl ∙ here)

  -- ---- factors

  factor_read : (f : Factor) (ts : Texts) → IsFactorText ring ts f → (s : SetState) (p : Part) → Takes ring s p → (rest : Texts) →
      Behind ring s ts rest (record p { factors = p.factors ++ f ∷ [] })
  factor_read f ts (name, named, inl h) s p takes rest =
      let q = with_variable p f.variable in
      record {
        state = (at.Name, q);
        part = with_factor q 1;
        like = name_like ring q;
        same = ap (with_factor q) (sym h.1);
        on = ap (λ l. after (set_step ring) s (l ++ rest)) h.0 ∙ takes name f.variable rest named;
      }
  factor_read f ts (name, named, inr (k, is, number)) s p takes rest =
      let q = with_variable p f.variable in
      let digits = number.0 in
      let within = number_within k f.exponent most_exponent number in
      record {
        state = (at.Behind, with_factor q (decimal_value k));
        part = with_factor q (decimal_value k);
        like = behind_like ring (with_factor q (decimal_value k));
        same = ap (with_factor q) number.1;
        on = ap (λ l. after (set_step ring) s (l ++ rest)) is
            ∙ takes name f.variable (caret ∷ k ∷ rest) named
            ∙ after-go (set_step ring) (at.Name, q) (at.Exponent, q) caret (k ∷ rest) refl
            ∙ after-go (set_step ring) (at.Exponent, q) (at.Behind, with_factor q (decimal_value k)) k rest (rw (digits, within) refl);
      }

  -- tokens, and then factors
  pub then_factors : (s : SetState) (ts others rest : Texts) (p : Part) (fs : List Factor) (b : Behind ring s ts (others ++ rest) p) →
      Behind ring b.state others rest (record b.part { factors = b.part.factors ++ fs })
      → Behind ring s (ts ++ others) rest (record p { factors = p.factors ++ fs })
  then_factors s ts others rest p fs b r = record {
    state = r.state;
    part = r.part;
    like = r.like;
    same = r.same ∙ ap (λ (x : Part). record x { factors = x.factors ++ fs; variable = r.part.variable }) b.same;
    on = ap (after (set_step ring) s) (append_assoc ts others rest) ∙ b.on ∙ r.on;
  }

  -- the same of an equal part, and of equal tokens
  pub behind_at : (s : SetState) (ts us rest : Texts) (p q : Part) → ts ≡ us → p ≡ q → Behind ring s us rest p → Behind ring s ts rest q
  behind_at s ts us rest p q tokens parts b = record {
    state = b.state;
    part = b.part;
    like = b.like;
    same = b.same ∙ ap (λ (x : Part). record x { variable = b.part.variable }) parts;
    on = ap (λ l. after (set_step ring) s (l ++ rest)) tokens ∙ b.on;
  }

  star_read : (between : Texts) → IsStar between → (s : SetState) (p : Part) → Like ring s p → Open ring s between p
  star_read between (inl h) s p like = record {
    state = s;
    takes = like_takes s p like;
    on = λ ts. ap (λ l. after (set_step ring) s (l ++ ts)) h;
  }
  star_read between (inr h) s p like = record {
    state = (at.Star, p);
    takes = star_takes p;
    on = λ ts. ap (λ l. after (set_step ring) s (l ++ ts)) h ∙ like_star s p like ts;
  }

  -- behind a factor another, and what follows it
  next_read : (f : Factor) (fs : List Factor) (first others rest : Texts) → IsFactorText ring first f
      → ((s : SetState) (p : Part) → Like ring s p → Behind ring s others rest (record p { factors = p.factors ++ fs }))
      → (s : SetState) (p : Part) → Takes ring s p → Behind ring s (first ++ others) rest (record p { factors = p.factors ++ f ∷ fs })
  next_read f fs first others rest factor later s p takes =
      let b = factor_read f first factor s p takes (others ++ rest) in
      behind_at s (first ++ others) (first ++ others) rest (record p { factors = (p.factors ++ f ∷ []) ++ fs }) (record p { factors = p.factors ++ f ∷ fs })
      refl
      (ap (λ l. record p { factors = l }) (append_assoc p.factors (f ∷ []) fs))
      (then_factors s first others rest (record p { factors = p.factors ++ f ∷ [] }) fs b (later b.state b.part b.like))

  pub factors_read : (fs : List Factor) (ts : Texts) → AreMoreFactors ring ts fs → (rest : Texts) (s : SetState) (p : Part) → Like ring s p →
      Behind ring s ts rest (record p { factors = p.factors ++ fs })
  factors_read [] ts h rest s p like = record {
    state = s;
    part = p;
    like = like;
    same = ap (λ l. record p { factors = l }) (sym (append-nil p.factors));
    on = ap (λ l. after (set_step ring) s (l ++ rest)) h;
  }
  factors_read (f ∷ fs) ts (between, first, others, is, stars, factor, later) rest s p like =
      let o = star_read between stars s p like in
      let r = next_read f fs first others rest factor (factors_read fs others later rest) o.state p o.takes in
      record {
        state = r.state;
        part = r.part;
        like = r.like;
        same = r.same;
        on = ap (λ l. after (set_step ring) s (l ++ rest)) is
            ∙ ap (after (set_step ring) s) (append_assoc between (first ++ others) rest)
            ∙ o.on ((first ++ others) ++ rest)
            ∙ r.on;
      }

  pub monomial_read : (fs : List Factor) (ts : Texts) → IsMonomialText ring ts fs → (rest : Texts) (s : SetState) (p : Part) → Takes ring s p →
      Behind ring s ts rest (record p { factors = p.factors ++ fs })
  monomial_read [] ts h rest s p takes = absurd h
  monomial_read (f ∷ fs) ts (first, others, is, factor, later) rest s p takes =
      behind_at s ts (first ++ others) rest (record p { factors = p.factors ++ f ∷ fs }) (record p { factors = p.factors ++ f ∷ fs }) is refl
      (next_read f fs first others rest factor (factors_read fs others later rest) s p takes)
