-- A set is read polynomial by polynomial: the machine only adds to the polynomials that were read before.
-- To cite: following, Reading, reading_start, reading_go, reading_done, reading_halt, reading_ended, go_within, done_within,
-- open_within. The rest are steps.
use Rattle.std.proofs.Common.{◌≡◌, ℕ, Bool, true, false, nat_le, ◌&&◌, ◌==◌, Ok, Err, List, [], ◌∷◌, ◌++◌, length, Option, Some, None, refl, sym, ap, subst}
use Rattle.std.proofs.Common.{◌∙◌, bytes_eq, append_assoc, append-nil, if◌then◌else◌}
use Rattle.gf_text.specs.declared.error.Cause.{Cause}
use Rattle.gf_text.specs.declared.error.Cause.TheVariants.{Ended, Unexpected, ZeroDenominator, TooWide, UnknownName}
use Rattle.gf_text.specs.declared.tree.WrittenTerm.{WrittenTerm}
use Rattle.gf_text.specs.declared.set_reader.SetPlace.{SetPlace}
use Rattle.gf_text.specs.declared.set_reader.SetPlace.TheVariants as at
use Rattle.gf_text.specs.declared.set_reader.Part.{Part}
use Rattle.gf_text.specs.Machine.{Lexeme, behind, texts, go, done, halt, run, followed, after}
use Rattle.gf_text.specs.Tokens.{is_number, decimal_value, lexemes, ring_more}
use Rattle.gf_text.specs.RingText.{IsRing}
use Rattle.gf_text.specs.SetText.{variable, most, most_exponent, SetState, SetMove, with_factor, with_numer, with_denom, part_terms, next_term, all_of}
use Rattle.gf_text.specs.SetText.{next_polynomial, is_word, name_or_by, number_or, term_or, front_step, end_step, behind_step, denominator_step, exponent_step}
use Rattle.gf_text.specs.SetText.{token_step, set_step, empty, set_at}
use Rattle.gf_text.specs.Marks.{plus_mark, minus_mark, comma, star, slash, caret, brace, brace_end}
use Rattle.gf_text.specs.Limits.{AreTermsWithin, ArePolynomialsWithin}
use Rattle.gf_text.specs.Pieces.{IsBegun}
use Rattle.gf_text.proofs.LimitsLaws.{set_within}
use Rattle.gf_text.proofs.MachineLaws.{run_go, run_done, run_halt, run_ended, after-go, after-none, after-++}
use Rattle.gf_text.proofs.SetReadLaws.{set_said, name_read, number_read}
use Rattle.gf_text.proofs.SetPartsLaws.{Behind}
use Rattle.gf_text.proofs.SetMachineLaws.{set_machine, set_reads}

abbrev Texts : Type 0
Texts = List (List ℕ)

abbrev Sets : Type 0
Sets = List (List WrittenTerm)

-- what is read where these polynomials were read before
abbrev pub following : Sets → Part → Part
following qs p = record p { polynomials = qs ++ p.polynomials }

-- a move where these polynomials were read before
abbrev follows : Sets → SetMove → SetMove
follows qs (go s) = go (s.0, following qs s.1)
follows qs (done ps) = done (qs ++ ps)
follows qs (halt cause) = halt cause

-- ---- one token

module _ (ring : List (List ℕ)) (qs : Sets) where
  either : (b : Bool) (x y v w : SetMove) → v ≡ follows qs x → w ≡ follows qs y → (if b then v else w) ≡ follows qs (if b then x else y)
  either true x y v w h k = h
  either false x y v w h k = k

  name_follows : (o : Option ℕ) (p : Part) (t : List ℕ) (x v : SetMove) → v ≡ follows qs x → name_or_by o (following qs p) t v ≡ follows qs (name_or_by o p t x)
  name_follows (Some n) p t x v h = refl
  name_follows None p t x v h = either (is_word t) (halt UnknownName) x (halt UnknownName) v refl h

  number_follows : (t : List ℕ) (limit : ℕ) (x y v w : SetMove) → v ≡ follows qs x → w ≡ follows qs y →
      number_or t limit v w ≡ follows qs (number_or t limit x y)
  number_follows t limit x y v w h k =
      either (is_number t) (if nat_le (decimal_value t) limit then x else halt TooWide) y (if nat_le (decimal_value t) limit then v else halt TooWide) w
      (either (nat_le (decimal_value t) limit) x (halt TooWide) v (halt TooWide) h refl) k

  term_follows : (p : Part) (t : List ℕ) → term_or ring (following qs p) t (halt Unexpected) ≡ follows qs (term_or ring p t (halt Unexpected))
  term_follows p t =
      number_follows t most (go (at.Number, with_numer p (decimal_value t))) (name_or_by (variable ring t) p t (halt Unexpected))
      (go (at.Number, with_numer (following qs p) (decimal_value t))) (name_or_by (variable ring t) (following qs p) t (halt Unexpected))
      refl (name_follows (variable ring t) p t (halt Unexpected) (halt Unexpected) refl)

  front_follows : (p : Part) (t : List ℕ) → front_step ring (following qs p) t ≡ follows qs (front_step ring p t)
  front_follows p t =
      either (bytes_eq t plus_mark) _ _ _ _ refl (either (bytes_eq t minus_mark) _ _ _ _ refl (term_follows p t))

  polynomial_follows : (p : Part) → all_of (following qs p) ≡ qs ++ all_of p
  polynomial_follows p = append_assoc qs p.polynomials (part_terms p ∷ [])

  -- the polynomial is read
  next_follows : (p : Part) → next_polynomial (following qs p) ≡ following qs (next_polynomial p)
  next_follows p = ap (λ ps. record (next_polynomial p) { polynomials = ps }) (polynomial_follows p)

  end_follows : (p : Part) (t : List ℕ) → end_step (following qs p) t ≡ follows qs (end_step p t)
  end_follows p t =
      either (bytes_eq t plus_mark) (go (at.Term, next_term p false)) _ _ _ refl
      (either (bytes_eq t minus_mark) (go (at.Term, next_term p true)) _ _ _ refl
      (either (bytes_eq t comma) (go (at.Polynomial, next_polynomial p)) _ _ _ (ap (λ q. go (at.Polynomial, q)) (next_follows p))
      (either (bytes_eq t brace_end) (done (all_of p)) (halt Unexpected) _ (halt Unexpected) (ap (λ ps. done ps) (polynomial_follows p)) refl)))

  behind_follows : (p : Part) (t : List ℕ) → behind_step ring (following qs p) t ≡ follows qs (behind_step ring p t)
  behind_follows p t =
      either (bytes_eq t star) (go (at.Star, p)) _ (go (at.Star, following qs p)) _ refl
      (name_follows (variable ring t) p t (end_step p t) (end_step (following qs p) t) (end_follows p t))

  denominator_follows : (p : Part) (t : List ℕ) → denominator_step (following qs p) t ≡ follows qs (denominator_step p t)
  denominator_follows p t =
      either (is_number t && decimal_value t == 0) (halt ZeroDenominator) _ (halt ZeroDenominator) _ refl
      (number_follows t most (go (at.Behind, with_denom p (decimal_value t))) (halt Unexpected) (go (at.Behind, with_denom (following qs p) (decimal_value t)))
      (halt Unexpected) refl refl)

  exponent_follows : (p : Part) (t : List ℕ) → exponent_step (following qs p) t ≡ follows qs (exponent_step p t)
  exponent_follows p t =
      number_follows t most_exponent (go (at.Behind, with_factor p (decimal_value t))) (halt Unexpected)
      (go (at.Behind, with_factor (following qs p) (decimal_value t))) (halt Unexpected) refl refl

  token_follows : (place : SetPlace) (p : Part) (t : List ℕ) → token_step ring place (following qs p) t ≡ follows qs (token_step ring place p t)
  token_follows at.Brace p t = either (bytes_eq t brace) (go (at.First, p)) (halt Unexpected) (go (at.First, following qs p)) (halt Unexpected) refl refl
  token_follows at.First p t = either (bytes_eq t brace_end) (done p.polynomials) (front_step ring p t)
      (done (qs ++ p.polynomials)) (front_step ring (following qs p) t) refl (front_follows p t)
  token_follows at.Polynomial p t = front_follows p t
  token_follows at.Term p t = term_follows p t
  token_follows at.Number p t = either (bytes_eq t slash) (go (at.Denominator, p)) (behind_step ring p t) (go (at.Denominator, following qs p))
      (behind_step ring (following qs p) t) refl (behind_follows p t)
  token_follows at.Denominator p t = denominator_follows p t
  token_follows at.Star p t = name_follows (variable ring t) p t (halt Unexpected) (halt Unexpected) refl
  token_follows at.Name p t =
      either (bytes_eq t caret) (go (at.Exponent, p)) (behind_step ring (with_factor p 1) t) (go (at.Exponent, following qs p))
      (behind_step ring (following qs (with_factor p 1)) t) refl (behind_follows (with_factor p 1) t)
  token_follows at.Exponent p t = exponent_follows p t
  token_follows at.Behind p t = behind_follows p t

  -- ---- tokens, one after another

  followed_by : (m : SetMove) (ts : Texts) → ((s : SetState) → after (set_step ring) (s.0, following qs s.1) ts ≡ follows qs (after (set_step ring) s ts))
      → followed (follows qs m) ts (λ u. after (set_step ring) u ts) ≡ follows qs (followed m ts (λ u. after (set_step ring) u ts))
  followed_by (go s) ts later = later s
  followed_by (done ps) [] later = refl
  followed_by (done ps) (t ∷ ts) later = refl
  followed_by (halt cause) ts later = refl

  after_follows : (ts : Texts) (s : SetState) → after (set_step ring) (s.0, following qs s.1) ts ≡ follows qs (after (set_step ring) s ts)
  unfolding after
  after_follows [] s = refl
  after_follows (t ∷ ts) s =
      ap (λ m. followed m ts (λ u. after (set_step ring) u ts)) (token_follows s.0 s.1 t) ∙ followed_by (set_step ring s t) ts (λ u. after_follows ts u)

-- ---- what was read is within its limits

module _ (ring : List (List ℕ)) where
  -- behind these tokens the machine is in this state
  abbrev Reaches : Texts → SetState → Type 0
  Reaches ts s = after (set_step ring) (at.Brace, empty) ts ≡ go s

  -- what is read in the end begins with what was read before
  begins_by : (qs ps : Sets) (m : SetMove) → follows qs m ≡ done ps → (rest : Sets) × (ps ≡ qs ++ rest)
  begins_by qs ps (go s) e = cc
  begins_by qs ps (done rest) e = (rest, cc)
  begins_by qs ps (halt cause) e = cc

  begins : (s : SetState) (ts : Texts) (ps : Sets) → after (set_step ring) s ts ≡ done ps → (rest : Sets) × (ps ≡ s.1.polynomials ++ rest)
  begins s ts ps e =
      let qs = s.1.polynomials in
      let none : Part = record (s.1) { polynomials = [] } in
      let same : following qs none ≡ s.1 = ap (λ l. record (s.1) { polynomials = l }) (append-nil qs) in
      begins_by qs ps (after (set_step ring) (s.0, none) ts)
      (sym (after_follows ring qs ts (s.0, none)) ∙ ap (λ (p : Part). after (set_step ring) (s.0, p) ts) same ∙ e)

within_front : (n : ℕ) (qs ps : Sets) → ArePolynomialsWithin n (qs ++ ps) → ArePolynomialsWithin n qs
within_front n [] ps h = tt
within_front n (q ∷ qs) ps h = (h.0, within_front n qs ps h.1)

within_back : (n : ℕ) (qs ps : Sets) → ArePolynomialsWithin n (qs ++ ps) → ArePolynomialsWithin n ps
within_back n [] ps h = h
within_back n (q ∷ qs) ps h = within_back n qs ps h.1

terms_front : (n : ℕ) (us vs : List WrittenTerm) → AreTermsWithin n (us ++ vs) → AreTermsWithin n us
terms_front n [] vs h = tt
terms_front n (u ∷ us) vs h = (h.0, terms_front n us vs h.1)

-- ---- a loop over the tokens

module _ (ring : List (List ℕ)) where
  -- The source was read from one place up to another one: these polynomials were read before what is kept, and the set
  -- is what the machine reads on from there.
  pub record Reading (source : List ℕ) (from place : ℕ) (s : SetState) (said : Sets) : Type 0 where
    pub front : Texts
    pub reached : after (set_step ring) (at.Brace, empty) front ≡ go (s.0, following said s.1)
    pub same : run (set_step ring) (s.0, following said s.1) (length source) (lexemes (ring_more ring) source place) ≡ set_at ring source from

  pub reading_start : (source : List ℕ) (from : ℕ) → Reading source from from (at.Brace, empty) []
  reading_start source from = record { front = []; reached = after-none (set_step ring) (at.Brace, empty); same = refl }

module _ (ring : List (List ℕ)) (is_ring : IsRing ring) where
  -- what was read where some tokens lead to is within
  reached_within : (ts : Texts) (s : SetState) → Reaches ring ts s → ArePolynomialsWithin (length ring) s.1.polynomials
  reached_within ts s reached =
      let l = (set_machine ring is_ring).live s in
      let whole = after-++ (set_step ring) (at.Brace, empty) s ts l.0 reached ∙ l.2 in
      let b = begins ring s l.0 l.1 l.2 in
      within_front (length ring) s.1.polynomials b.0 (subst (ArePolynomialsWithin (length ring)) b.1
      (set_within ring (ts ++ l.0) l.1 (set_said ring (ts ++ l.0) l.1 whole)))

  module _ (source : List ℕ) (from place next : ℕ) (x : Lexeme) (s : SetState) (said : Sets) (r : Reading ring source from place s said)
      (tokens : lexemes (ring_more ring) source place ≡ x ∷ lexemes (ring_more ring) source next) where
    moves : (m : SetMove) → set_step ring s x.text ≡ m → set_step ring (s.0, following said s.1) x.text ≡ follows said m
    moves m is = token_follows ring said s.0 s.1 x.text ∙ ap (follows said) is

    -- the machine goes on, and what it has read is kept
    reading_on : (u : SetState) → set_step ring s x.text ≡ go u → Reading ring source from next u said
    reading_on u is = record {
      front = r.front ++ x.text ∷ [];
      reached = after-++ (set_step ring) (at.Brace, empty) (s.0, following said s.1) r.front (x.text ∷ []) r.reached
          ∙ after-go (set_step ring) (s.0, following said s.1) (u.0, following said u.1) x.text [] (moves (go u) is)
          ∙ after-none (set_step ring) (u.0, following said u.1);
      same = sym (run_go (set_step ring) (s.0, following said s.1) (u.0, following said u.1) (length source) _ x _ tokens (moves (go u) is)) ∙ r.same;
    }

    pub go_within : (u : SetState) → set_step ring s x.text ≡ go u → ArePolynomialsWithin (length ring) u.1.polynomials
    go_within u is =
        let n = reading_on u is in
        within_back (length ring) said u.1.polynomials (reached_within n.front (u.0, following said u.1) n.reached)

    -- the machine goes on, and what it has read is kept elsewhere
    pub reading_go : (u : SetState) → set_step ring s x.text ≡ go u →
        Reading ring source from next (u.0, record (u.1) { polynomials = [] }) (said ++ u.1.polynomials)
    reading_go u is =
        let n = reading_on u is in
        let same : following said u.1 ≡ following (said ++ u.1.polynomials) (record (u.1) { polynomials = [] }) =
        ap (λ l. record (u.1) { polynomials = l }) (sym (append-nil (said ++ u.1.polynomials))) in
        record {
          front = n.front;
          reached = n.reached ∙ ap (λ (p : Part). go (u.0, p)) same;
          same = ap (λ (p : Part). run (set_step ring) (u.0, p) (length source) (lexemes (ring_more ring) source next)) (sym same) ∙ n.same;
        }

    -- the set is read
    pub reading_done : (ps : Sets) → set_step ring s x.text ≡ done ps → set_at ring source from ≡ Ok (said ++ ps, behind x)
    reading_done ps is = sym r.same ∙ run_done (set_step ring) (s.0, following said s.1) (said ++ ps) (length source) _ x _ tokens (moves (done ps) is)

    pub done_within : (ps : Sets) → set_step ring s x.text ≡ done ps → ArePolynomialsWithin (length ring) ps
    done_within ps is =
        let text = set_reads ring source from (said ++ ps) (behind x) (reading_done ps is) in
        within_back (length ring) said ps (set_within ring (texts text.front) (said ++ ps) text.text)

    -- a token that can't stand there
    pub reading_halt : (cause : Cause) → set_step ring s x.text ≡ halt cause → set_at ring source from ≡ Err (record { at = x.at; cause = cause })
    reading_halt cause is = sym r.same ∙ run_halt (set_step ring) (s.0, following said s.1) cause (length source) _ x _ tokens (moves (halt cause) is)

  pub reading_ended : (source : List ℕ) (from place : ℕ) (s : SetState) (said : Sets) → Reading ring source from place s said →
      lexemes (ring_more ring) source place ≡ [] → set_at ring source from ≡ Err (record { at = length source; cause = Ended })
  reading_ended source from place s said r none = sym r.same ∙ run_ended (set_step ring) (s.0, following said s.1) (length source) _ none

  -- the terms that were read are within, where the next one is begun
  behind_within : (p : Part) (ts : Texts) (ps : Sets) → Behind ring p ts ps → ArePolynomialsWithin (length ring) ps → AreTermsWithin (length ring) p.terms
  behind_within p ts ps b h =
      let u : WrittenTerm = record { minus = p.minus; numer = p.numer; denom = p.denom; factors = p.factors ++ b.fs } in
      terms_front (length ring) p.terms (u ∷ b.us)
      (within_back (length ring) p.polynomials ((p.terms ++ u ∷ b.us) ∷ b.qs) (subst (ArePolynomialsWithin (length ring)) b.all h)).0

  begun_within : (place : SetPlace) (p : Part) (ts : Texts) (ps : Sets) → IsBegun place → after (set_step ring) (place, p) ts ≡ done ps →
      ArePolynomialsWithin (length ring) ps → AreTermsWithin (length ring) p.terms
  begun_within at.Name p ts ps begun e h = let t = name_read ring ts p ps e in behind_within (with_factor p t.k) t.rest ps t.behind h
  begun_within at.Number p ts ps begun e h = let t = number_read ring ts p ps e in behind_within (with_denom p t.d) t.rest ps t.behind h
  begun_within at.Brace p ts ps begun e h = absurd begun
  begun_within at.First p ts ps begun e h = absurd begun
  begun_within at.Polynomial p ts ps begun e h = absurd begun
  begun_within at.Term p ts ps begun e h = absurd begun
  begun_within at.Denominator p ts ps begun e h = absurd begun
  begun_within at.Star p ts ps begun e h = absurd begun
  begun_within at.Exponent p ts ps begun e h = absurd begun
  begun_within at.Behind p ts ps begun e h = absurd begun

  pub open_within : (source : List ℕ) (from place : ℕ) (to : SetPlace) (p : Part) (said : Sets) → IsBegun to → Reading ring source from place (to, p) said →
      AreTermsWithin (length ring) p.terms
  open_within source from place to p said begun r =
      let s = following said p in
      let l = (set_machine ring is_ring).live (to, s) in
      let whole = after-++ (set_step ring) (at.Brace, empty) (to, s) r.front l.0 r.reached ∙ l.2 in
      begun_within to s l.0 l.1 begun l.2 (set_within ring (r.front ++ l.0) l.1 (set_said ring (r.front ++ l.0) l.1 whole))
