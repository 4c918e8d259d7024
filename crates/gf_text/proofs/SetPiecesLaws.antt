-- A set is read piece by piece: the machine only adds to the terms of a polynomial that were read before.
-- To cite: plain, joined_start, joined_go, joined_done, joined_halt, joined_ended, pieces_go_within, pieces_done_within, terms_within. The rest are steps.
use Rattle.std.proofs.Common.{◌≡◌, ℕ, Bool, true, false, nat_le, ◌&&◌, ◌==◌, Ok, Err, List, [], ◌∷◌, ◌++◌, length, Option, Some, None, refl, sym, ap}
use Rattle.std.proofs.Common.{◌∙◌, bytes_eq, append_assoc, if◌then◌else◌}
use Rattle.gf_text.specs.declared.error.Cause.{Cause}
use Rattle.gf_text.specs.declared.error.Cause.TheVariants.{Unexpected, ZeroDenominator, TooWide, UnknownName}
use Rattle.gf_text.specs.declared.tree.WrittenTerm.{WrittenTerm}
use Rattle.gf_text.specs.declared.set_reader.SetPlace.{SetPlace}
use Rattle.gf_text.specs.declared.set_reader.SetPlace.TheVariants as at
use Rattle.gf_text.specs.declared.set_reader.Part.{Part}
use Rattle.gf_text.specs.Machine.{Lexeme, behind, go, done, halt}
use Rattle.gf_text.specs.Tokens.{is_number, decimal_value, lexemes, ring_more}
use Rattle.gf_text.specs.RingText.{IsRing}
use Rattle.gf_text.specs.SetText.{variable, most, most_exponent, SetMove, with_factor, with_numer, with_denom, part_term, part_terms, next_term, all_of}
use Rattle.gf_text.specs.SetText.{next_polynomial, is_word, name_or_by, number_or, term_or, front_step, end_step, behind_step, denominator_step, exponent_step}
use Rattle.gf_text.specs.SetText.{token_step, set_step, empty, set_at}
use Rattle.gf_text.specs.Marks.{plus_mark, minus_mark, comma, star, slash, caret, brace, brace_end}
use Rattle.gf_text.specs.Limits.{AreTermsWithin, ArePolynomialsWithin}
use Rattle.gf_text.specs.Pieces.{IsBegun, fronted, waiting, joined}
use Rattle.gf_text.proofs.SetGrowsLaws.{Reading, reading_go, reading_done, reading_halt, go_within, done_within, open_within}

abbrev Sets : Type 0
Sets = List (List WrittenTerm)

-- a move where these first terms of the polynomial were read before
abbrev pub joins : List WrittenTerm → SetMove → SetMove
joins us (go s) = go (s.0, joined us s.1)
joins us (done ps) = done (fronted us ps)
joins us (halt cause) = halt cause

-- what is read, without polynomials
abbrev pub plain : Part → Part
plain p = record p { polynomials = [] }

pub plain_is : (p : Part) → p.polynomials ≡ [] → p ≡ plain p
plain_is p none = ap (λ l. record p { polynomials = l }) none

-- ---- one token

module _ (ring : List (List ℕ)) (us : List WrittenTerm) where
  either : (b : Bool) (x y v w : SetMove) → v ≡ joins us x → w ≡ joins us y → (if b then v else w) ≡ joins us (if b then x else y)
  either true x y v w h k = h
  either false x y v w h k = k

  name_joins : (o : Option ℕ) (p : Part) (t : List ℕ) (x v : SetMove) → v ≡ joins us x →
      name_or_by o (joined us (plain p)) t v ≡ joins us (name_or_by o (plain p) t x)
  name_joins (Some n) p t x v h = refl
  name_joins None p t x v h = either (is_word t) (halt UnknownName) x (halt UnknownName) v refl h

  number_joins : (t : List ℕ) (limit : ℕ) (x y v w : SetMove) → v ≡ joins us x → w ≡ joins us y →
      number_or t limit v w ≡ joins us (number_or t limit x y)
  number_joins t limit x y v w h k =
      either (is_number t) (if nat_le (decimal_value t) limit then x else halt TooWide) y (if nat_le (decimal_value t) limit then v else halt TooWide) w
      (either (nat_le (decimal_value t) limit) x (halt TooWide) v (halt TooWide) h refl) k

  term_joins : (p : Part) (t : List ℕ) → term_or ring (joined us (plain p)) t (halt Unexpected) ≡ joins us (term_or ring (plain p) t (halt Unexpected))
  term_joins p t =
      number_joins t most (go (at.Number, with_numer (plain p) (decimal_value t))) (name_or_by (variable ring t) (plain p) t (halt Unexpected))
      (go (at.Number, with_numer (joined us (plain p)) (decimal_value t))) (name_or_by (variable ring t) (joined us (plain p)) t (halt Unexpected))
      refl (name_joins (variable ring t) p t (halt Unexpected) (halt Unexpected) refl)

  front_joins : (p : Part) (t : List ℕ) → front_step ring (joined us (plain p)) t ≡ joins us (front_step ring (plain p) t)
  front_joins p t =
      either (bytes_eq t plus_mark) _ _ _ _ refl (either (bytes_eq t minus_mark) _ _ _ _ refl (term_joins p t))

  terms_join : (p : Part) → part_terms (joined us (plain p)) ≡ us ++ part_terms (plain p)
  terms_join p = append_assoc us p.terms (part_term p ∷ [])

  -- the term is read
  next_term_joins : (p : Part) (m : Bool) → next_term (joined us (plain p)) m ≡ joined us (next_term (plain p) m)
  next_term_joins p m = ap (λ l. record (next_term (plain p) m) { terms = l }) (terms_join p)

  polynomial_joins : (p : Part) → all_of (joined us (plain p)) ≡ fronted us (all_of (plain p))
  polynomial_joins p = ap (λ l. l ∷ []) (terms_join p)

  -- the polynomial is read
  next_joins : (p : Part) → next_polynomial (joined us (plain p)) ≡ joined us (next_polynomial (plain p))
  next_joins p = ap (λ ps. record (next_polynomial (plain p)) { polynomials = ps }) (polynomial_joins p)

  end_joins : (p : Part) (t : List ℕ) → end_step (joined us (plain p)) t ≡ joins us (end_step (plain p) t)
  end_joins p t =
      either (bytes_eq t plus_mark) (go (at.Term, next_term (plain p) false)) _ _ _ (ap (λ q. go (at.Term, q)) (next_term_joins p false))
      (either (bytes_eq t minus_mark) (go (at.Term, next_term (plain p) true)) _ _ _ (ap (λ q. go (at.Term, q)) (next_term_joins p true))
      (either (bytes_eq t comma) (go (at.Polynomial, next_polynomial (plain p))) _ _ _ (ap (λ q. go (at.Polynomial, q)) (next_joins p))
      (either (bytes_eq t brace_end) (done (all_of (plain p))) (halt Unexpected) _ (halt Unexpected) (ap (λ ps. done ps) (polynomial_joins p)) refl)))

  behind_joins : (p : Part) (t : List ℕ) → behind_step ring (joined us (plain p)) t ≡ joins us (behind_step ring (plain p) t)
  behind_joins p t =
      either (bytes_eq t star) (go (at.Star, plain p)) _ (go (at.Star, joined us (plain p))) _ refl
      (name_joins (variable ring t) p t (end_step (plain p) t) (end_step (joined us (plain p)) t) (end_joins p t))

  denominator_joins : (p : Part) (t : List ℕ) → denominator_step (joined us (plain p)) t ≡ joins us (denominator_step (plain p) t)
  denominator_joins p t =
      either (is_number t && decimal_value t == 0) (halt ZeroDenominator) _ (halt ZeroDenominator) _ refl
      (number_joins t most (go (at.Behind, with_denom (plain p) (decimal_value t))) (halt Unexpected)
      (go (at.Behind, with_denom (joined us (plain p)) (decimal_value t))) (halt Unexpected) refl refl)

  exponent_joins : (p : Part) (t : List ℕ) → exponent_step (joined us (plain p)) t ≡ joins us (exponent_step (plain p) t)
  exponent_joins p t =
      number_joins t most_exponent (go (at.Behind, with_factor (plain p) (decimal_value t))) (halt Unexpected)
      (go (at.Behind, with_factor (joined us (plain p)) (decimal_value t))) (halt Unexpected) refl refl

  token_joins : (place : SetPlace) (p : Part) (t : List ℕ) → token_step ring place (joined us (plain p)) t ≡ joins us (token_step ring place (plain p) t)
  token_joins at.Brace p t =
      either (bytes_eq t brace) (go (at.First, plain p)) (halt Unexpected) (go (at.First, joined us (plain p))) (halt Unexpected) refl refl
  token_joins at.First p t = either (bytes_eq t brace_end) (done []) (front_step ring (plain p) t)
      (done []) (front_step ring (joined us (plain p)) t) refl (front_joins p t)
  token_joins at.Polynomial p t = front_joins p t
  token_joins at.Term p t = term_joins p t
  token_joins at.Number p t = either (bytes_eq t slash) (go (at.Denominator, plain p)) (behind_step ring (plain p) t)
      (go (at.Denominator, joined us (plain p))) (behind_step ring (joined us (plain p)) t) refl (behind_joins p t)
  token_joins at.Denominator p t = denominator_joins p t
  token_joins at.Star p t = name_joins (variable ring t) p t (halt Unexpected) (halt Unexpected) refl
  token_joins at.Name p t =
      either (bytes_eq t caret) (go (at.Exponent, plain p)) (behind_step ring (with_factor (plain p) 1) t) (go (at.Exponent, joined us (plain p)))
      (behind_step ring (joined us (with_factor (plain p) 1)) t) refl (behind_joins (with_factor p 1) t)
  token_joins at.Exponent p t = exponent_joins p t
  token_joins at.Behind p t = behind_joins p t

  -- the move of the code, which keeps the other terms alone
  pub moves : (place : SetPlace) (p : Part) (t : List ℕ) (m : SetMove) → p.polynomials ≡ [] → set_step ring (place, p) t ≡ m →
      set_step ring (place, joined us p) t ≡ joins us m
  moves place p t m none is =
      let plainly : p ≡ plain p = plain_is p none in
      ap (λ q. token_step ring place (joined us q) t) plainly ∙ token_joins place p t ∙ ap (λ q. joins us (token_step ring place q t)) (sym plainly)
      ∙ ap (joins us) is

-- ---- a loop over the tokens

pub joined_start : joined [] empty ≡ empty
joined_start = refl

module _ (ring : List (List ℕ)) (is_ring : IsRing ring) (source : List ℕ) (from place next : ℕ) (x : Lexeme) (at_place : SetPlace) (p : Part)
    (us : List WrittenTerm) (said : Sets) (none : p.polynomials ≡ []) (r : Reading ring source from place (at_place, joined us p) said)
    (tokens : lexemes (ring_more ring) source place ≡ x ∷ lexemes (ring_more ring) source next) where
  pub joined_go : (to : SetPlace) (q : Part) → set_step ring (at_place, p) x.text ≡ go (to, q) →
      Reading ring source from next (to, record (joined us q) { polynomials = [] }) (said ++ fronted us q.polynomials)
  joined_go to q is =
      reading_go ring is_ring source from place next x (at_place, joined us p) said r tokens (to, joined us q)
      (moves ring us at_place p x.text (go (to, q)) none is)

  pub pieces_go_within : (to : SetPlace) (q : Part) → set_step ring (at_place, p) x.text ≡ go (to, q) →
      ArePolynomialsWithin (length ring) (fronted us q.polynomials)
  pieces_go_within to q is =
      go_within ring is_ring source from place next x (at_place, joined us p) said r tokens (to, joined us q)
      (moves ring us at_place p x.text (go (to, q)) none is)

  pub joined_done : (ps : Sets) → set_step ring (at_place, p) x.text ≡ done ps → set_at ring source from ≡ Ok (said ++ fronted us ps, behind x)
  joined_done ps is =
      reading_done ring is_ring source from place next x (at_place, joined us p) said r tokens (fronted us ps)
      (moves ring us at_place p x.text (done ps) none is)

  pub pieces_done_within : (ps : Sets) → set_step ring (at_place, p) x.text ≡ done ps → ArePolynomialsWithin (length ring) (fronted us ps)
  pieces_done_within ps is =
      done_within ring is_ring source from place next x (at_place, joined us p) said r tokens (fronted us ps)
      (moves ring us at_place p x.text (done ps) none is)

  pub joined_halt : (cause : Cause) → set_step ring (at_place, p) x.text ≡ halt cause → set_at ring source from ≡ Err (record { at = x.at; cause = cause })
  joined_halt cause is =
      reading_halt ring is_ring source from place next x (at_place, joined us p) said r tokens cause
      (moves ring us at_place p x.text (halt cause) none is)

-- ---- limits

terms_back : (n : ℕ) (us vs : List WrittenTerm) → AreTermsWithin n (us ++ vs) → AreTermsWithin n vs
terms_back n [] vs h = h
terms_back n (u ∷ us) vs h = terms_back n us vs h.1

-- the polynomials without the first terms
pub others_within : (n : ℕ) (us : List WrittenTerm) (ps : Sets) → ArePolynomialsWithin n (fronted us ps) → ArePolynomialsWithin n ps
others_within n us [] h = tt
others_within n us (q ∷ qs) h = (terms_back n us q h.0, h.1)

-- the terms behind the first ones, where the next one is begun
pub terms_within : (ring : List (List ℕ)) → IsRing ring → (source : List ℕ) (from place : ℕ) (to : SetPlace) (us : List WrittenTerm) (q : Part) (said : Sets) →
    Reading ring source from place (to, record (joined us q) { polynomials = [] }) said → IsBegun to → AreTermsWithin (length ring) q.terms
terms_within ring is_ring source from place to us q said r begun =
    terms_back (length ring) (waiting us q.polynomials) q.terms
    (open_within ring is_ring source from place to (record (joined us q) { polynomials = [] }) said begun r)

-- ---- what is settled

pub settled : (us xs : List WrittenTerm) (old : Part) (ps : Sets) (ts : List WrittenTerm) → ps ≡ [] → xs ++ ts ≡ waiting us old.polynomials ++ old.terms →
    joined xs (record old { polynomials = ps; terms = ts }) ≡ record (joined us old) { polynomials = [] }
settled us xs old ps ts none same =
    ap (λ l. record old { polynomials = fronted xs l; terms = waiting xs l ++ ts }) none ∙ ap (λ l. record old { polynomials = []; terms = l }) same
