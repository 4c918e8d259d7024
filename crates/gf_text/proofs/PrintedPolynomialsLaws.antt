-- What printed polynomials and sets say: their tokens, and that these are the text of a set.
-- To cite: said, all_said, set_again; IsFine, fine_at, mark_fine. The rest are steps.
use Rattle.std.proofs.Common.{◌≡◌, ◌<◌, ◌^◌, ◌+◌, ℕ, suc, Bool, true, false, ◌&&◌, All, List, [], ◌∷◌, ◌++◌, length, flat_map, bytes_eq, refl, sym, ap, subst}
use Rattle.std.proofs.Common.{◌∙◌, inl, inr, arith, append_assoc, if◌then◌else◌}
use Rattle.std.specs.List.{list_all}
use Rattle.std.specs.Prelude.{Contains}
use Rattle.std.specs.Int.RustNames.{unsigned_abs}
use Rattle.gf_frac.specs.Fraction.{Fraction}
use Rattle.gf_exponents_theory.specs.Exponents.{Exponents}
use Rattle.gf_poly.specs.declared.Term.{Term}
use Rattle.gf_poly.specs.Polynomial.{Terms, HasVariables, coefficient}
use Rattle.gf_poly.specs.Marking.{MarkedPolynomial}
use Rattle.gf_poly.proofs.DescendingLaws.{Contains-cons, Contains-none}
use Rattle.gf_poly.proofs.CoefficientLaws.{coefficient-contains}
use Rattle.gf_text.specs.declared.tree.WrittenTerm.{WrittenTerm}
use Rattle.gf_text.specs.declared.written.Written.{Written}
use Rattle.gf_text.specs.declared.written.Written.TheVariants as written
use Rattle.gf_text.specs.Machine.{Reads}
use Rattle.gf_text.specs.Tokens.{is_space, ring_more, lexemes}
use Rattle.gf_text.specs.RingText.{IsRing}
use Rattle.gf_text.specs.SetText.{sign, IsTermText, AreMoreTerms, IsFrontSign, IsPolynomialText, AreMorePolynomials, IsSetText}
use Rattle.gf_text.specs.Marks.{minus_mark, comma, brace, brace_end}
use Rattle.gf_text.specs.PrintedText.{is_below_zero, unsigned_text, inner_sign, first_text, later_text}
use Rattle.gf_text.specs.PrintedSets.{other_text, polynomial_text}
use Rattle.gf_text.specs.WrittenText.{IsTermInRange, AreInRange, IsKeptMarked, IsWrittenKept, AreWrittenKept, polynomials_text, set_text}
use Rattle.gf_text.proofs.SpelledLaws.{IsToken, IsSpelled, goes_on, spelled-none, spelled-space, spelled-++, spelled-read}
use Rattle.gf_text.proofs.PrintedTokensLaws.{IsPiece, piece-none, piece-token, piece-++, mark_spelled, number_token, AreNamesFrom, names_of_ring}
use Rattle.gf_text.proofs.PrintedTermsLaws.{AreSmall, term_said, unsigned_tokens, unsigned_piece, unsigned_said}

-- ---- terms that can be printed and read

-- a term in n variables whose numbers are in range
pub record IsFine (n : ℕ) (t : Term) : Type 0 where
  pub variables : length t.mono ≡ n
  pub size : unsigned_abs t.coef.num < 2 ^ 127
  pub denominator : t.coef.den < 2 ^ 127
  pub exponents : AreSmall t.mono

small_from : (es : List ℕ) → All (λ e. e < 2 ^ 31) es → AreSmall es
small_from [] all = tt
small_from (e ∷ es) all = (all 0 e (omega arith), small_from es (λ k d h. all (suc k) d (omega arith)))

pub fine_from : (n : ℕ) (t : Term) → length t.mono ≡ n → IsTermInRange t → IsFine n t
fine_from n t same range = record {
  variables = same;
  size = range.numerator.within;
  denominator = range.denominator;
  exponents = small_from t.mono range.exponents;
}

-- each term of a polynomial is
abbrev pub AreFine : ℕ → Terms → Type 0
AreFine n [] = Unit {0}
AreFine n (t ∷ f) = IsFine n t × AreFine n f

pub all_fine : (n : ℕ) (f : Terms) → HasVariables n f → AreInRange f → AreFine n f
all_fine n [] variables range = tt
all_fine n (t ∷ f) variables range = (fine_from n t variables.0 range.0, all_fine n f variables.1 range.1)

pub fine_at : (n : ℕ) (f : Terms) (t : Term) → AreFine n f → Contains f t → IsFine n t
fine_at n [] t fine h = absurd (Contains-none t h)
fine_at n (s ∷ f) t fine h = elim (Contains-cons f t s h) [
  | inl is ↦ subst (IsFine n) (sym is) fine.0
  | inr there ↦ fine_at n f t fine.1 there
]

-- the marked term
abbrev pub head_term : MarkedPolynomial → Term
head_term m = record { coef = coefficient m.poly m.head; mono = m.head }

pub head_is : (n : ℕ) (m : MarkedPolynomial) → IsKeptMarked n m → Contains m.poly (head_term m)
head_is n m kept =
    let t : Term = record { coef = kept.marked.mark; mono = m.head } in
    let fine = fine_at n m.poly t (all_fine n m.poly kept.variables kept.range) kept.marked.term in
    let coef : coefficient m.poly m.head ≡ kept.marked.mark =
    coefficient-contains n m.poly t kept.variables kept.marked.descending kept.marked.term fine.variables in
    subst (λ (c : Fraction). Contains m.poly (record { coef = c; mono = m.head })) (sym coef) kept.marked.term

-- ---- what is said

-- the terms that aren't at the marked monomial
abbrev pub others_said : Exponents → Terms → List WrittenTerm
others_said head [] = []
others_said head (t ∷ f) = if bytes_eq t.mono head then others_said head f else term_said t.coef t.mono ∷ others_said head f

-- a polynomial: the marked term first; the zero polynomial is 0
abbrev pub said : Written → List WrittenTerm
said written.Zero = record { minus = false; numer = 0; denom = 1; factors = [] } ∷ []
said (written.Nonzero m) = term_said (coefficient m.poly m.head) m.head ∷ others_said m.head m.poly

abbrev pub all_said : List Written → List (List WrittenTerm)
all_said [] = []
all_said (w ∷ ws) = said w ∷ all_said ws

-- ---- tokens

abbrev other_tokens : List (List ℕ) → Exponents → Term → List (List ℕ)
other_tokens names head t = if bytes_eq t.mono head then [] else sign (is_below_zero t.coef.num) ∷ unsigned_tokens names t.coef t.mono

abbrev others_tokens : List (List ℕ) → Exponents → Terms → List (List ℕ)
others_tokens names head f = flat_map (other_tokens names head) f

abbrev front_tokens : Bool → List (List ℕ)
front_tokens true = minus_mark ∷ []
front_tokens false = []

abbrev tokens_of : List (List ℕ) → Written → List (List ℕ)
tokens_of names written.Zero = (48 ∷ []) ∷ []
tokens_of names (written.Nonzero m) = (front_tokens (is_below_zero (coefficient m.poly m.head).num) ++ unsigned_tokens names (coefficient m.poly m.head)
    m.head) ++ others_tokens names m.head m.poly

abbrev more_tokens : List (List ℕ) → List Written → List (List ℕ)
more_tokens names ws = flat_map (λ w. comma ∷ tokens_of names w) ws

abbrev all_tokens : List (List ℕ) → List Written → List (List ℕ)
all_tokens names [] = []
all_tokens names (w ∷ ws) = tokens_of names w ++ more_tokens names ws

module _ (ring : List (List ℕ)) (is : IsRing ring) where
  names : AreNamesFrom ring 0 ring
  names = names_of_ring ring is

  -- ---- pieces

  term_piece : (t : Term) → IsFine (length ring) t → IsPiece ring (unsigned_text ring t.coef t.mono) (unsigned_tokens ring t.coef t.mono)
  term_piece t fine = unsigned_piece ring ring t.coef t.mono names fine.size fine.denominator fine.exponents

  first_piece : (t : Term) → IsFine (length ring) t → IsPiece ring (first_text ring t.coef t.mono) (front_tokens (is_below_zero t.coef.num) ++
      unsigned_tokens ring t.coef t.mono)
  first_piece t fine = by (is_below_zero t.coef.num)
    where
      by : (v : Bool) → IsPiece ring ((if v then 45 ∷ [] else []) ++ unsigned_text ring t.coef t.mono) (front_tokens v ++ unsigned_tokens ring t.coef t.mono)
      by true = record {
        spelled = λ rest stops. mark_spelled ring 45 (unsigned_text ring t.coef t.mono) rest (unsigned_tokens ring t.coef t.mono) refl refl
            ((term_piece t fine).spelled rest stops);
      }
      by false = term_piece t fine

  later_piece : (t : Term) → IsFine (length ring) t → IsPiece ring (later_text ring t.coef t.mono) (sign (is_below_zero t.coef.num) ∷
      unsigned_tokens ring t.coef t.mono)
  later_piece t fine = by (is_below_zero t.coef.num)
    where
      by : (v : Bool) → IsPiece ring ((if v then 45 ∷ [] else 43 ∷ []) ++ unsigned_text ring t.coef t.mono) (sign v ∷ unsigned_tokens ring t.coef t.mono)
      by true = record {
        spelled = λ rest stops. mark_spelled ring 45 (unsigned_text ring t.coef t.mono) rest (unsigned_tokens ring t.coef t.mono) refl refl
            ((term_piece t fine).spelled rest stops);
      }
      by false = record {
        spelled = λ rest stops. mark_spelled ring 43 (unsigned_text ring t.coef t.mono) rest (unsigned_tokens ring t.coef t.mono) refl refl
            ((term_piece t fine).spelled rest stops);
      }

  sign_stops : (c : Fraction) (text rest : List ℕ) → goes_on ((inner_sign c ++ text) ++ rest) ≡ false
  sign_stops c text rest = by (is_below_zero c.num)
    where
      by : (v : Bool) → goes_on (((if v then 45 ∷ [] else 43 ∷ []) ++ text) ++ rest) ≡ false
      by true = refl
      by false = refl

  others_stop : (head : Exponents) (f : Terms) (rest : List ℕ) → goes_on rest ≡ false → goes_on (flat_map (other_text ring head) f ++ rest) ≡ false
  others_stop head [] rest stops = stops
  others_stop head (t ∷ f) rest stops = by (bytes_eq t.mono head) (others_stop head f rest stops)
    where
      by : (v : Bool) → goes_on (flat_map (other_text ring head) f ++ rest) ≡ false →
          goes_on (((if v then [] else later_text ring t.coef t.mono) ++ flat_map (other_text ring head) f) ++ rest) ≡ false
      by true later = later
      by false later = ap goes_on (append_assoc (later_text ring t.coef t.mono) (flat_map (other_text ring head) f) rest) ∙ sign_stops t.coef
          (unsigned_text ring t.coef t.mono) (flat_map (other_text ring head) f ++ rest)

  others_piece : (head : Exponents) (f : Terms) → AreFine (length ring) f → IsPiece ring (flat_map (other_text ring head) f) (others_tokens ring head f)
  others_piece head [] fine = piece-none ring
  others_piece head (t ∷ f) fine = by (bytes_eq t.mono head) (others_piece head f fine.1)
    where
      by : (v : Bool) → IsPiece ring (flat_map (other_text ring head) f) (others_tokens ring head f)
          → IsPiece ring ((if v then [] else later_text ring t.coef t.mono) ++ flat_map (other_text ring head) f)
          ((if v then [] else sign (is_below_zero t.coef.num) ∷ unsigned_tokens ring t.coef t.mono) ++ others_tokens ring head f)
      by true later = later
      by false later =
          piece-++ ring (later_text ring t.coef t.mono) (flat_map (other_text ring head) f)
          (sign (is_below_zero t.coef.num) ∷ unsigned_tokens ring t.coef t.mono) (others_tokens ring head f)
          (later_piece t fine.0) (λ rest stops. others_stop head f rest stops) later

  -- a polynomial
  polynomial_piece : (w : Written) → IsWrittenKept (length ring) w → IsPiece ring (polynomial_text ring w) (tokens_of ring w)
  polynomial_piece written.Zero kept = piece-token ring (48 ∷ []) (λ rest stops. number_token ring (48 ∷ []) rest refl stops)
  polynomial_piece (written.Nonzero m) kept =
      let all = all_fine (length ring) m.poly kept.variables kept.range in
      let head = head_term m in
      let fine = fine_at (length ring) m.poly head all (head_is (length ring) m kept) in
      piece-++ ring (first_text ring head.coef m.head) (flat_map (other_text ring m.head) m.poly)
      (front_tokens (is_below_zero head.coef.num) ++ unsigned_tokens ring head.coef m.head) (others_tokens ring m.head m.poly)
      (first_piece head fine) (λ rest stops. others_stop m.head m.poly rest stops) (others_piece m.head m.poly all)

  -- white space
  gap_spelled : (gap rest : List ℕ) → list_all is_space gap ≡ true → IsSpelled (ring_more ring) gap rest []
  gap_spelled [] rest all = spelled-none (ring_more ring) rest
  gap_spelled (b ∷ gap) rest all =
      let both = and_both (is_space b) (list_all is_space gap) all in
      spelled-++ (ring_more ring) (b ∷ []) gap rest [] [] (spelled-space (ring_more ring) b (gap ++ rest) both.0) (gap_spelled gap rest both.1)
    where
      and_both : (a c : Bool) → (a && c) ≡ true → (a ≡ true) × (c ≡ true)
      and_both true true e = (refl, refl)
      and_both true false e = cc
      and_both false c e = cc

  more_stops : (gap : List ℕ) (ws : List Written) (rest : List ℕ) → goes_on rest ≡ false →
      goes_on (flat_map (λ v. 44 ∷ (gap ++ polynomial_text ring v)) ws ++ rest) ≡ false
  more_stops gap [] rest stops = stops
  more_stops gap (w ∷ ws) rest stops = refl

  more_piece : (gap : List ℕ) (ws : List Written) → list_all is_space gap ≡ true → AreWrittenKept (length ring) ws →
      IsPiece ring (flat_map (λ v. 44 ∷ (gap ++ polynomial_text ring v)) ws) (more_tokens ring ws)
  more_piece gap [] space kept = piece-none ring
  more_piece gap (w ∷ ws) space kept =
      let text = polynomial_text ring w in
      let others = flat_map (λ v. 44 ∷ (gap ++ polynomial_text ring v)) ws in
      let one = piece-++ ring text others (tokens_of ring w) (more_tokens ring ws) (polynomial_piece w kept.0) (λ rest stops. more_stops gap ws rest stops)
      (more_piece gap ws space kept.1) in
      let behind : (rest : List ℕ) → goes_on rest ≡ false → IsSpelled (ring_more ring) (gap ++ (text ++ others)) rest
      (tokens_of ring w ++ more_tokens ring ws) =
      λ rest stops. spelled-++ (ring_more ring) gap (text ++ others) rest [] (tokens_of ring w ++ more_tokens ring ws)
      (gap_spelled gap ((text ++ others) ++ rest) space) (one.spelled rest stops) in
      let same : gap ++ (text ++ others) ≡ (gap ++ text) ++ others = sym (append_assoc gap text others) in
      record {
        spelled = λ rest stops. mark_spelled ring 44 ((gap ++ text) ++ others) rest (tokens_of ring w ++ more_tokens ring ws) refl refl
            (subst (λ bs. IsSpelled (ring_more ring) bs rest (tokens_of ring w ++ more_tokens ring ws)) same (behind rest stops));
      }

  all_piece : (gap : List ℕ) (ws : List Written) → list_all is_space gap ≡ true → AreWrittenKept (length ring) ws →
      IsPiece ring (polynomials_text gap ring ws) (all_tokens ring ws)
  all_piece gap [] space kept = piece-none ring
  all_piece gap (w ∷ ws) space kept =
      piece-++ ring (polynomial_text ring w) (flat_map (λ v. 44 ∷ (gap ++ polynomial_text ring v)) ws) (tokens_of ring w) (more_tokens ring ws)
      (polynomial_piece w kept.0) (λ rest stops. more_stops gap ws rest stops) (more_piece gap ws space kept.1)

  -- ---- the grammar

  term_text : (t : Term) → IsFine (length ring) t → IsTermText ring (unsigned_tokens ring t.coef t.mono) (term_said t.coef t.mono)
  term_text t fine = unsigned_said ring ring t.coef t.mono names fine.variables fine.size fine.denominator fine.exponents

  others_text : (head : Exponents) (f : Terms) → AreFine (length ring) f → AreMoreTerms ring (others_tokens ring head f) (others_said head f)
  others_text head [] fine = refl
  others_text head (t ∷ f) fine = by (bytes_eq t.mono head) (others_text head f fine.1)
    where
      by : (v : Bool) → AreMoreTerms ring (others_tokens ring head f) (others_said head f)
          → AreMoreTerms ring ((if v then [] else sign (is_below_zero t.coef.num) ∷ unsigned_tokens ring t.coef t.mono) ++ others_tokens ring head f)
          (if v then others_said head f else term_said t.coef t.mono ∷ others_said head f)
      by true later = later
      by false later = (unsigned_tokens ring t.coef t.mono, others_tokens ring head f, refl, term_text t fine.0, later)

  front_text : (v : Bool) → IsFrontSign (front_tokens v) v
  front_text true = inl refl
  front_text false = inr (refl, refl)

  polynomial_is : (w : Written) → IsWrittenKept (length ring) w → IsPolynomialText ring (tokens_of ring w) (said w)
  polynomial_is written.Zero kept =
      ([], (48 ∷ []) ∷ [], [], refl, inr (refl, refl), inl ((48 ∷ []) ∷ [], [], refl, inl (48 ∷ [], refl, (refl, refl, omega arith), refl), refl), refl)
  polynomial_is (written.Nonzero m) kept =
      let all = all_fine (length ring) m.poly kept.variables kept.range in
      let head = head_term m in
      let fine = fine_at (length ring) m.poly head all (head_is (length ring) m kept) in
      let front = front_tokens (is_below_zero head.coef.num) in
      let term = unsigned_tokens ring head.coef m.head in
      let rest = others_tokens ring m.head m.poly in
      (front, term, rest, append_assoc front term rest, front_text (is_below_zero head.coef.num), term_text head fine, others_text m.head m.poly all)

  more_text : (ws : List Written) → AreWrittenKept (length ring) ws → AreMorePolynomials ring (more_tokens ring ws) (all_said ws)
  more_text [] kept = refl
  more_text (w ∷ ws) kept = (tokens_of ring w, more_tokens ring ws, refl, polynomial_is w kept.0, more_text ws kept.1)

  set_is : (ws : List Written) → AreWrittenKept (length ring) ws → IsSetText ring ((brace ∷ all_tokens ring ws) ++ brace_end ∷ []) (all_said ws)
  set_is [] kept = refl
  set_is (w ∷ ws) kept = (
    tokens_of ring w,
    more_tokens ring ws,
    ap (λ l. brace ∷ l) (append_assoc (tokens_of ring w) (more_tokens ring ws) (brace_end ∷ [])),
    polynomial_is w kept.0,
    more_text ws kept.1,
  )

  -- a printed set is the text of what is said
  pub set_again : (gap : List ℕ) (ws : List Written) (before text : List ℕ) → list_all is_space gap ≡ true → AreWrittenKept (length ring) ws
      → Reads (IsSetText ring) (lexemes (ring_more ring) (before ++ (set_text gap ring ws ++ text)) (length before)) (all_said ws)
      (length before + length (set_text gap ring ws))
  set_again gap ws before text space kept =
      let all = polynomials_text gap ring ws in
      let rest = 125 ∷ text in
      let inside : IsSpelled (ring_more ring) (gap ++ all) rest (all_tokens ring ws) =
      spelled-++ (ring_more ring) gap all rest [] (all_tokens ring ws) (gap_spelled gap (all ++ rest) space)
      ((all_piece gap ws space kept).spelled rest refl) in
      let whole = mark_spelled ring 123 (gap ++ all) rest (all_tokens ring ws) refl refl inside in
      let end : IsToken (ring_more ring) brace_end text = record { first = 125; others = []; shape = refl; visible = refl; whole = refl } in
      spelled-read (ring_more ring) (IsSetText ring) (all_said ws) before (123 ∷ (gap ++ all)) brace_end text (brace ∷ all_tokens ring ws) whole end
      (set_is ws kept)
