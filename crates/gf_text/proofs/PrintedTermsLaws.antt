-- What printed terms say: their tokens, and that these are the text of a term.
-- To cite: term_said, unsigned_tokens, unsigned_piece, unsigned_said. The rest are steps.
use Rattle.std.proofs.Common.{◌≡◌, ◌≤◌, ◌<◌, ◌^◌, ◌+◌, ℕ, Bool, true, false, ◌==◌, List, [], ◌∷◌, ◌++◌, length, flat_map, decimal, refl, inl, inr, arith}
use Rattle.std.proofs.Common.{if◌then◌else◌}
use Rattle.std.proofs.lemmas.Bool.Decides.{eqb_tells}
use Rattle.std.specs.Int.RustNames.{unsigned_abs}
use Rattle.gf_frac.specs.Fraction.{Fraction}
use Rattle.gf_text.specs.declared.tree.Factor.{Factor}
use Rattle.gf_text.specs.declared.tree.WrittenTerm.{WrittenTerm}
use Rattle.gf_text.specs.SetText.{most, most_exponent, IsNumberText, IsFactorText, AreMoreFactors, IsRationalText, IsTermText}
use Rattle.gf_text.specs.Marks.{star, slash, caret}
use Rattle.gf_text.specs.PrintedText.{joined, power_text, powers, is_below_zero, size_text, is_unit, pieces, unsigned_text}
use Rattle.gf_text.proofs.SpelledLaws.{goes_on}
use Rattle.gf_text.proofs.PrintedTokensLaws.{IsPiece, ArePieces, piece-none, piece-token, piece-++, mark_spelled, number_piece, decimal_number, IsNameOf}
use Rattle.gf_text.proofs.PrintedTokensLaws.{AreNamesFrom}

-- each number is below 2^31
abbrev pub AreSmall : List ℕ → Type 0
AreSmall [] = Unit {0}
AreSmall (e ∷ es) = (e < 2 ^ 31) × AreSmall es

-- ---- what is said

-- the powers of a monomial, less those with exponent 0; the variables are counted from i on
abbrev pub factors_from : ℕ → List ℕ → List Factor
factors_from i [] = []
factors_from i (e ∷ es) = if e == 0 then factors_from (i + 1) es else record { variable = i; exponent = e } ∷ factors_from (i + 1) es

-- the term of this coefficient and monomial
abbrev pub term_said : Fraction → List ℕ → WrittenTerm
term_said c es = record { minus = is_below_zero c.num; numer = unsigned_abs c.num; denom = c.den; factors = factors_from 0 es }

-- ---- tokens

abbrev pub power_tokens : List ℕ → ℕ → List (List ℕ)
power_tokens n e = if e == 1 then n ∷ [] else n ∷ caret ∷ decimal e ∷ []

abbrev pub powers_tokens : List (List ℕ) → List ℕ → List (List (List ℕ))
powers_tokens [] es = []
powers_tokens (n ∷ ns) [] = []
powers_tokens (n ∷ ns) (e ∷ es) = if e == 0 then powers_tokens ns es else power_tokens n e ∷ powers_tokens ns es

abbrev pub size_tokens : Fraction → List (List ℕ)
size_tokens c = if c.den == 1 then decimal (unsigned_abs c.num) ∷ [] else decimal (unsigned_abs c.num) ∷ slash ∷ decimal c.den ∷ []

-- tokens with a star before each group
abbrev pub behind_tokens : List (List (List ℕ)) → List (List ℕ)
behind_tokens tss = flat_map (λ ts. star ∷ ts) tss

abbrev pub joined_tokens : List (List (List ℕ)) → List (List ℕ)
joined_tokens [] = []
joined_tokens (ts ∷ tss) = ts ++ behind_tokens tss

abbrev pub groups : Bool → List (List ℕ) → List (List (List ℕ)) → List (List (List ℕ))
groups unit size [] = size ∷ []
groups true size (ts ∷ tss) = ts ∷ tss
groups false size (ts ∷ tss) = size ∷ ts ∷ tss

abbrev pub unsigned_tokens : List (List ℕ) → Fraction → List ℕ → List (List ℕ)
unsigned_tokens names c es = joined_tokens (groups (is_unit c) (size_tokens c) (powers_tokens names es))

-- ---- pieces

module _ (ring : List (List ℕ)) where
  -- a star before each piece
  behind_stops : (ps : List (List ℕ)) (rest : List ℕ) → goes_on rest ≡ false → goes_on (flat_map (λ p. 42 ∷ p) ps ++ rest) ≡ false
  behind_stops [] rest stops = stops
  behind_stops (p ∷ ps) rest stops = refl

  behind_piece : (ps : List (List ℕ)) (tss : List (List (List ℕ))) → ArePieces ring ps tss → IsPiece ring (flat_map (λ p. 42 ∷ p) ps) (behind_tokens tss)
  behind_piece [] [] h = piece-none ring
  behind_piece [] (ts ∷ tss) h = absurd h
  behind_piece (p ∷ ps) [] h = absurd h
  behind_piece (p ∷ ps) (ts ∷ tss) h =
      let more = flat_map (λ p. 42 ∷ p) ps in
      let both = piece-++ ring p more ts (behind_tokens tss) h.0 (behind_stops ps) (behind_piece ps tss h.1) in
      record { spelled = λ rest stops. mark_spelled ring 42 (p ++ more) rest (ts ++ behind_tokens tss) refl refl (both.spelled rest stops) }

  joined_piece : (ps : List (List ℕ)) (tss : List (List (List ℕ))) → ArePieces ring ps tss → IsPiece ring (joined (42 ∷ []) ps) (joined_tokens tss)
  joined_piece [] [] h = piece-none ring
  joined_piece [] (ts ∷ tss) h = absurd h
  joined_piece (p ∷ ps) [] h = absurd h
  joined_piece (p ∷ ps) (ts ∷ tss) h = piece-++ ring p (flat_map (λ q. 42 ∷ q) ps) ts (behind_tokens tss) h.0 (behind_stops ps) (behind_piece ps tss h.1)

  -- a power
  power_piece : (i : ℕ) (n : List ℕ) (e : ℕ) → IsNameOf ring i n → e < 2 ^ 31 → IsPiece ring (power_text n e) (power_tokens n e)
  power_piece i n e name small = by (e == 1)
    where
      raised : IsPiece ring (94 ∷ decimal e) (caret ∷ decimal e ∷ [])
      raised = record {
        spelled = λ rest stops. mark_spelled ring 94 (decimal e) rest (decimal e ∷ []) refl refl ((number_piece ring e (omega arith)).spelled rest stops);
      }

      by : (v : Bool) → IsPiece ring (if v then n else n ++ (94 ∷ decimal e)) (if v then n ∷ [] else n ∷ caret ∷ decimal e ∷ [])
      by true = piece-token ring n name.token
      by false = piece-++ ring n (94 ∷ decimal e) (n ∷ []) (caret ∷ decimal e ∷ []) (piece-token ring n name.token) (λ rest stops. refl) raised

  powers_pieces : (i : ℕ) (ns : List (List ℕ)) (es : List ℕ) → AreNamesFrom ring i ns → AreSmall es → ArePieces ring (powers ns es) (powers_tokens ns es)
  powers_pieces i [] es names small = tt
  powers_pieces i (n ∷ ns) [] names small = tt
  powers_pieces i (n ∷ ns) (e ∷ es) names small = by (e == 0) (powers_pieces (i + 1) ns es names.1 small.1)
    where
      by : (v : Bool) → ArePieces ring (powers ns es) (powers_tokens ns es) →
          ArePieces ring (if v then powers ns es else power_text n e ∷ powers ns es) (if v then powers_tokens ns es else power_tokens n e ∷ powers_tokens ns es)
      by true later = later
      by false later = (power_piece i n e names.0 small.0, later)

  size_piece : (c : Fraction) → unsigned_abs c.num < 2 ^ 127 → c.den < 2 ^ 127 → IsPiece ring (size_text c) (size_tokens c)
  size_piece c small below = by (c.den == 1)
    where
      numerator : IsPiece ring (decimal (unsigned_abs c.num)) (decimal (unsigned_abs c.num) ∷ [])
      numerator = number_piece ring (unsigned_abs c.num) small

      denominator : IsPiece ring (47 ∷ decimal c.den) (slash ∷ decimal c.den ∷ [])
      denominator = record {
        spelled = λ rest stops. mark_spelled ring 47 (decimal c.den) rest (decimal c.den ∷ []) refl refl ((number_piece ring c.den below).spelled rest stops);
      }

      by : (v : Bool) → IsPiece ring (if v then decimal (unsigned_abs c.num) else decimal (unsigned_abs c.num) ++ (47 ∷ decimal c.den)) (if v then decimal
          (unsigned_abs c.num) ∷ [] else decimal (unsigned_abs c.num) ∷ slash ∷ decimal c.den ∷ [])
      by true = numerator
      by false = piece-++ ring (decimal (unsigned_abs c.num)) (47 ∷ decimal c.den) (decimal (unsigned_abs c.num) ∷ []) (slash ∷ decimal c.den ∷ []) numerator
          (λ rest stops. refl) denominator

  grouped : (unit : Bool) (size : List ℕ) (ss : List (List ℕ)) (ps : List (List ℕ)) (tss : List (List (List ℕ))) → IsPiece ring size ss →
      ArePieces ring ps tss → ArePieces ring (pieces unit size ps) (groups unit ss tss)
  grouped unit size ss [] [] one others = (one, tt)
  grouped unit size ss [] (ts ∷ tss) one others = absurd others
  grouped unit size ss (p ∷ ps) [] one others = absurd others
  grouped true size ss (p ∷ ps) (ts ∷ tss) one others = others
  grouped false size ss (p ∷ ps) (ts ∷ tss) one others = (one, others)

  -- a term without its sign
  pub unsigned_piece : (ns : List (List ℕ)) (c : Fraction) (es : List ℕ) → AreNamesFrom ring 0 ns → unsigned_abs c.num < 2 ^ 127 → c.den < 2 ^ 127 →
      AreSmall es → IsPiece ring (unsigned_text ns c es) (unsigned_tokens ns c es)
  unsigned_piece ns c es names small below exponents =
      joined_piece (pieces (is_unit c) (size_text c) (powers ns es)) (groups (is_unit c) (size_tokens c) (powers_tokens ns es))
      (grouped (is_unit c) (size_text c) (size_tokens c) (powers ns es) (powers_tokens ns es) (size_piece c small below)
      (powers_pieces 0 ns es names exponents))

  -- ---- the grammar

  number_text : (n limit : ℕ) → n < 2 ^ 127 → n ≤ limit → IsNumberText (decimal n) n limit
  number_text n limit small within = let d = decimal_number n small in (d.0, d.1, within)

  -- each group is the text of its power
  ArePowers : List (List (List ℕ)) → List Factor → Type 0
  ArePowers [] [] = Unit {0}
  ArePowers [] (f ∷ fs) = ⊥
  ArePowers (ts ∷ tss) [] = ⊥
  ArePowers (ts ∷ tss) (f ∷ fs) = IsFactorText ring ts f × ArePowers tss fs

  power_said : (i : ℕ) (n : List ℕ) (e : ℕ) → IsNameOf ring i n → e < 2 ^ 31 → IsFactorText ring (power_tokens n e) (record { variable = i; exponent = e })
  power_said i n e name small = elim (eqb_tells e 1) [
    | inl h ↦ rw h.0 (n, name.variable_is, inl (refl, h.1))
    | inr h ↦ rw h.0 (n, name.variable_is, inr (decimal e, refl, number_text e most_exponent (omega arith) (omega arith)))
  ]

  powers_said : (i : ℕ) (ns : List (List ℕ)) (es : List ℕ) → AreNamesFrom ring i ns → length es ≡ length ns → AreSmall es →
      ArePowers (powers_tokens ns es) (factors_from i es)
  unfolding ArePowers
  powers_said i [] [] names same small = tt
  powers_said i [] (e ∷ es) names same small = absurd (omega arith)
  powers_said i (n ∷ ns) [] names same small = absurd (omega arith)
  powers_said i (n ∷ ns) (e ∷ es) names same small = by (e == 0) (powers_said (i + 1) ns es names.1 (omega arith) small.1)
    where
      by : (v : Bool) → ArePowers (powers_tokens ns es) (factors_from (i + 1) es)
          → ArePowers (if v then powers_tokens ns es else power_tokens n e ∷ powers_tokens ns es) (if v then factors_from (i + 1) es else record {
            variable = i;
            exponent = e;
          } ∷ factors_from (i + 1) es)
      by true later = later
      by false later = (power_said i n e names.0 small.0, later)

  more_said : (tss : List (List (List ℕ))) (fs : List Factor) → ArePowers tss fs → AreMoreFactors ring (behind_tokens tss) fs
  unfolding ArePowers
  more_said [] [] h = refl
  more_said [] (f ∷ fs) h = absurd h
  more_said (ts ∷ tss) [] h = absurd h
  more_said (ts ∷ tss) (f ∷ fs) h = (star ∷ [], ts, behind_tokens tss, refl, inr refl, h.0, more_said tss fs h.1)

  rational_said : (c : Fraction) → unsigned_abs c.num < 2 ^ 127 → c.den < 2 ^ 127 → IsRationalText (size_tokens c) (unsigned_abs c.num) c.den
  rational_said c small below = elim (eqb_tells c.den 1) [
    | inl h ↦ rw h.0 (inl (decimal (unsigned_abs c.num), refl, number_text (unsigned_abs c.num) most small (omega arith), h.1))
    | inr h ↦ rw h.0 (inr (
      decimal (unsigned_abs c.num),
      decimal c.den,
      refl,
      number_text (unsigned_abs c.num) most small (omega arith),
      number_text c.den most below (omega arith),
      c.positive,
    ))
  ]

  unit_parts : (c : Fraction) → is_unit c ≡ true → (unsigned_abs c.num ≡ 1) × (c.den ≡ 1)
  unit_parts c h = elim (eqb_tells (unsigned_abs c.num) 1) [
    | inl a ↦ elim (eqb_tells c.den 1) [ inl b ↦ (a.1, b.1) | inr b ↦ let no : is_unit c ≡ false = rw (a.0, b.0) refl in cc ]
    | inr a ↦ let no : is_unit c ≡ false = rw a.0 refl in cc
  ]

  said_by : (unit : Bool) (c : Fraction) (tss : List (List (List ℕ))) (fs : List Factor) (m : Bool) → is_unit c ≡ unit → unsigned_abs c.num < 2 ^ 127 →
      c.den < 2 ^ 127 → ArePowers tss fs
      → IsTermText ring (joined_tokens (groups unit (size_tokens c) tss)) (record { minus = m; numer = unsigned_abs c.num; denom = c.den; factors = fs })
  unfolding ArePowers
  said_by unit c [] [] m is small below h = inl (size_tokens c, [], refl, rational_said c small below, refl)
  said_by unit c [] (f ∷ fs) m is small below h = absurd h
  said_by unit c (ts ∷ tss) [] m is small below h = absurd h
  said_by true c (ts ∷ tss) (f ∷ fs) m is small below h = let parts =
      unit_parts c is in inr (parts.0, parts.1, (ts, behind_tokens tss, refl, h.0, more_said tss fs h.1))
  said_by false c (ts ∷ tss) (f ∷ fs) m is small below h = inl (
    size_tokens c,
    behind_tokens (ts ∷ tss),
    refl,
    rational_said c small below,
    more_said (ts ∷ tss) (f ∷ fs) h,
  )

  -- the tokens of a term are the text of it
  pub unsigned_said : (ns : List (List ℕ)) (c : Fraction) (es : List ℕ) → AreNamesFrom ring 0 ns → length es ≡ length ns → unsigned_abs c.num < 2 ^ 127 →
      c.den < 2 ^ 127 → AreSmall es → IsTermText ring (unsigned_tokens ns c es) (term_said c es)
  unsigned_said ns c es names same small below exponents = said_by (is_unit c) c (powers_tokens ns es) (factors_from 0 es) (is_below_zero c.num)
      refl small below (powers_said 0 ns es names same exponents)
