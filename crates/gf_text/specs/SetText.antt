-- Sets of polynomials: what a text of a set says, and the machine that reads it.
-- What a text says keeps each term as it is written, in the order in which it is written: a sign, a rational number (1
-- where none is written), powers of variables (each exponent 1 where none is written).
-- `IsSetText` is the grammar, `set_step` the machine.
-- Laws: proofs/SetTextLaws.antt, proofs/SetReadLaws.antt.
use Rattle.std.specs.Prelude.{◌≡◌, ◌⊎◌, ℕ, ◌<◌, ◌≤◌, ◌-◌, ◌^◌, ◌==◌, ◌&&◌, nat_le, Bool, true, false, List, [], ◌∷◌, ◌++◌, length, Option, Some, None, bytes_eq}
use Rattle.std.specs.Prelude.{if◌then◌else◌, Result}
use Rattle.std.specs.List.{position_from}
use Rattle.gf_text.specs.Machine.{Move, go, done, halt, Fault, run}
use Rattle.gf_text.specs.Marks.{plus_mark, minus_mark, comma, star, slash, caret, brace, brace_end}
use Rattle.gf_text.specs.Tokens.{is_letter, is_number, decimal_value, lexemes, ring_more}
use Rattle.gf_text.specs.declared.error.Cause.TheVariants as cause
use Rattle.gf_text.specs.declared.tree.Factor.{Factor}
use Rattle.gf_text.specs.declared.tree.WrittenTerm.{WrittenTerm}
use Rattle.gf_text.specs.declared.set_reader.SetPlace.{SetPlace}
use Rattle.gf_text.specs.declared.set_reader.SetPlace.TheVariants as at
use Rattle.gf_text.specs.declared.set_reader.Part.{Part}

-- the number of the variable of this name
abbrev pub variable : List (List ℕ) → List ℕ → Option ℕ
variable ring t = position_from (λ n. bytes_eq n t) 0 ring

-- ---- tokens

-- the token of a sign, by whether it is a minus
abbrev pub sign : Bool → List ℕ
sign true = minus_mark
sign false = plus_mark

-- the greatest numerator and denominator
abbrev pub most : ℕ
most = 2 ^ 127 - 1

-- the greatest exponent
abbrev pub most_exponent : ℕ
most_exponent = 2 ^ 31 - 1

-- the token is a number, n, within its limit
abbrev pub IsNumberText : List ℕ → ℕ → ℕ → Type 0
IsNumberText t n limit = (is_number t ≡ true) × (decimal_value t ≡ n) × (n ≤ limit)

-- ---- the grammar

-- a power: a name, or a name, ^ and a number
abbrev pub IsFactorText : List (List ℕ) → List (List ℕ) → Factor → Type 0
IsFactorText ring ts f = (name : List ℕ) × (variable ring name ≡ Some f.variable)
    × (((ts ≡ name ∷ []) × (f.exponent ≡ 1)) ⊎ ((k : List ℕ) × (ts ≡ name ∷ caret ∷ k ∷ []) × IsNumberText k f.exponent most_exponent))

-- a * or nothing
abbrev pub IsStar : List (List ℕ) → Type 0
IsStar ts = (ts ≡ []) ⊎ (ts ≡ star ∷ [])

-- powers behind something, each with or without a * before it
abbrev pub AreMoreFactors : List (List ℕ) → List (List ℕ) → List Factor → Type 0
AreMoreFactors ring ts [] = ts ≡ []
AreMoreFactors ring ts (f ∷ fs) = (between : List (List ℕ)) × (first : List (List ℕ)) × (rest : List (List ℕ)) × (ts ≡ between ++ (first ++ rest)) ×
    IsStar between × IsFactorText ring first f × AreMoreFactors ring rest fs

-- powers, at least one
abbrev pub IsMonomialText : List (List ℕ) → List (List ℕ) → List Factor → Type 0
IsMonomialText ring ts [] = ⊥
IsMonomialText ring ts (f ∷ fs) = (first : List (List ℕ)) × (rest : List (List ℕ)) × (ts ≡ first ++ rest) × IsFactorText ring first f ×
    AreMoreFactors ring rest fs

-- a rational number p/q: a number, or two with a / between them, the second not zero
abbrev pub IsRationalText : List (List ℕ) → ℕ → ℕ → Type 0
IsRationalText ts p q = ((t : List ℕ) × (ts ≡ t ∷ []) × IsNumberText t p most × (q ≡ 1))
    ⊎ ((t : List ℕ) × (u : List ℕ) × (ts ≡ t ∷ slash ∷ u ∷ []) × IsNumberText t p most × IsNumberText u q most × (0 < q))

-- a term: a rational number and powers behind it, if any; or powers alone
abbrev pub IsTermText : List (List ℕ) → List (List ℕ) → WrittenTerm → Type 0
IsTermText ring ts u = ((rational : List (List ℕ)) × (rest : List (List ℕ)) × (ts ≡ rational ++ rest) × IsRationalText rational u.numer u.denom ×
    AreMoreFactors ring rest u.factors)
    ⊎ ((u.numer ≡ 1) × (u.denom ≡ 1) × IsMonomialText ring ts u.factors)

-- terms, each behind a sign
abbrev pub AreMoreTerms : List (List ℕ) → List (List ℕ) → List WrittenTerm → Type 0
AreMoreTerms ring ts [] = ts ≡ []
AreMoreTerms ring ts (u ∷ us) = (term : List (List ℕ)) × (rest : List (List ℕ)) × (ts ≡ sign u.minus ∷ (term ++ rest)) × IsTermText ring term u ×
    AreMoreTerms ring rest us

-- a sign at the front of a polynomial, or none for a plus
abbrev pub IsFrontSign : List (List ℕ) → Bool → Type 0
IsFrontSign ts m = (ts ≡ sign m ∷ []) ⊎ ((ts ≡ []) × (m ≡ false))

-- a polynomial: an optional sign, a term, more terms
abbrev pub IsPolynomialText : List (List ℕ) → List (List ℕ) → List WrittenTerm → Type 0
IsPolynomialText ring ts [] = ⊥
IsPolynomialText ring ts (u ∷ us) = (front : List (List ℕ)) × (term : List (List ℕ)) × (rest : List (List ℕ)) × (ts ≡ front ++ (term ++ rest)) ×
    IsFrontSign front u.minus × IsTermText ring term u × AreMoreTerms ring rest us

-- polynomials, each behind a comma
abbrev pub AreMorePolynomials : List (List ℕ) → List (List ℕ) → List (List WrittenTerm) → Type 0
AreMorePolynomials ring ts [] = ts ≡ []
AreMorePolynomials ring ts (q ∷ qs) = (first : List (List ℕ)) × (rest : List (List ℕ)) × (ts ≡ comma ∷ (first ++ rest)) × IsPolynomialText ring first q ×
    AreMorePolynomials ring rest qs

-- a set: polynomials joined by commas between braces
abbrev pub IsSetText : List (List ℕ) → List (List ℕ) → List (List WrittenTerm) → Type 0
IsSetText ring ts [] = ts ≡ brace ∷ brace_end ∷ []
IsSetText ring ts (q ∷ qs) = (first : List (List ℕ)) × (rest : List (List ℕ)) × (ts ≡ brace ∷ (first ++ (rest ++ brace_end ∷ []))) ×
    IsPolynomialText ring first q × AreMorePolynomials ring rest qs

-- ---- the machine

-- what is expected, and what was read
abbrev pub SetState : Type 0
SetState = SetPlace × Part

-- what a token does to what is read of a set
abbrev pub SetMove : Type 0
SetMove = Move SetState (List (List WrittenTerm))

-- the name of this variable is read, its exponent isn't yet
abbrev pub with_variable : Part → ℕ → Part
with_variable p v = record p { variable = v }

-- the power of the variable whose name is read
abbrev pub with_factor : Part → ℕ → Part
with_factor p k = record p { factors = p.factors ++ record { variable = p.variable; exponent = k } ∷ [] }

-- the sign of the term is read
abbrev pub with_sign : Part → Bool → Part
with_sign p m = record p { minus = m }

-- its numerator is read
abbrev pub with_numer : Part → ℕ → Part
with_numer p n = record p { numer = n }

-- its denominator is read
abbrev pub with_denom : Part → ℕ → Part
with_denom p n = record p { denom = n }

-- the term that is read
abbrev pub part_term : Part → WrittenTerm
part_term p = record { minus = p.minus; numer = p.numer; denom = p.denom; factors = p.factors }

-- the terms with the one that is read
abbrev pub part_terms : Part → List WrittenTerm
part_terms p = p.terms ++ part_term p ∷ []

-- the term is read, and one with this sign begins
abbrev pub next_term : Part → Bool → Part
next_term p m = record p { terms = part_terms p; minus = m; numer = 1; denom = 1; factors = [] }

-- the polynomials with the one that is read
abbrev pub all_of : Part → List (List WrittenTerm)
all_of p = p.polynomials ++ part_terms p ∷ []

-- the polynomial is read
abbrev pub next_polynomial : Part → Part
next_polynomial p = record p { polynomials = all_of p; terms = []; minus = false; numer = 1; denom = 1; factors = [] }

-- the token begins with a letter
abbrev pub is_word : List ℕ → Bool
is_word [] = false
is_word (b ∷ bs) = is_letter b

-- a name of the ring is taken; another letter can't stand where a name may; another token does something else
abbrev pub name_or_by : Option ℕ → Part → List ℕ → SetMove → SetMove
name_or_by (Some v) p t other = go (at.Name, with_variable p v)
name_or_by None p t other = if is_word t then halt cause.UnknownName else other

-- the same, by the names of the ring
abbrev pub name_or : List (List ℕ) → Part → List ℕ → SetMove → SetMove
name_or ring p t other = name_or_by (variable ring t) p t other

-- a number within its limit does this, and another token something else
abbrev pub number_or : List ℕ → ℕ → SetMove → SetMove → SetMove
number_or t limit taken other = if is_number t then (if nat_le (decimal_value t) limit then taken else halt cause.TooWide) else other

-- a number or a name at the front of a term
abbrev pub term_or : List (List ℕ) → Part → List ℕ → SetMove → SetMove
term_or ring p t other = number_or t most (go (at.Number, with_numer p (decimal_value t))) (name_or ring p t other)

-- a sign or a term at the front of a polynomial
abbrev pub front_step : List (List ℕ) → Part → List ℕ → SetMove
front_step ring p t = if bytes_eq t plus_mark then go (at.Term, with_sign p false)
    else if bytes_eq t minus_mark then go (at.Term, with_sign p true)
    else term_or ring p t (halt cause.Unexpected)

-- what follows a term
abbrev pub end_step : Part → List ℕ → SetMove
end_step p t = if bytes_eq t plus_mark then go (at.Term, next_term p false)
    else if bytes_eq t minus_mark then go (at.Term, next_term p true)
    else if bytes_eq t comma then go (at.Polynomial, next_polynomial p)
    else if bytes_eq t brace_end then done (all_of p)
    else halt cause.Unexpected

-- what follows a rational number or a power: *, a name, or the end of the term
abbrev pub behind_step : List (List ℕ) → Part → List ℕ → SetMove
behind_step ring p t = if bytes_eq t star then go (at.Star, p) else name_or ring p t (end_step p t)

-- a denominator
abbrev pub denominator_step : Part → List ℕ → SetMove
denominator_step p t = if is_number t && decimal_value t == 0 then halt cause.ZeroDenominator
    else number_or t most (go (at.Behind, with_denom p (decimal_value t))) (halt cause.Unexpected)

-- an exponent
abbrev pub exponent_step : Part → List ℕ → SetMove
exponent_step p t = number_or t most_exponent (go (at.Behind, with_factor p (decimal_value t))) (halt cause.Unexpected)

-- what the next token does, by what is expected
abbrev pub token_step : List (List ℕ) → SetPlace → Part → List ℕ → SetMove
token_step ring at.Brace p t = if bytes_eq t brace then go (at.First, p) else halt cause.Unexpected
token_step ring at.First p t = if bytes_eq t brace_end then done p.polynomials else front_step ring p t
token_step ring at.Polynomial p t = front_step ring p t
token_step ring at.Term p t = term_or ring p t (halt cause.Unexpected)
token_step ring at.Number p t = if bytes_eq t slash then go (at.Denominator, p) else behind_step ring p t
token_step ring at.Denominator p t = denominator_step p t
token_step ring at.Star p t = name_or ring p t (halt cause.Unexpected)
token_step ring at.Name p t = if bytes_eq t caret then go (at.Exponent, p) else behind_step ring (with_factor p 1) t
token_step ring at.Exponent p t = exponent_step p t
token_step ring at.Behind p t = behind_step ring p t

-- the same, of a state
abbrev pub set_step : List (List ℕ) → SetState → List ℕ → SetMove
set_step ring s t = token_step ring s.0 s.1 t

-- nothing was read
abbrev pub empty : Part
empty = record { polynomials = []; terms = []; minus = false; numer = 1; denom = 1; factors = []; variable = 0 }

-- what the set says that stands in the source from this place on, and the place behind it
abbrev pub set_at : List (List ℕ) → List ℕ → ℕ → Result (List (List WrittenTerm) × ℕ) Fault
set_at ring source from = run (set_step ring) (at.Brace, empty) (length source) (lexemes (ring_more ring) source from)
