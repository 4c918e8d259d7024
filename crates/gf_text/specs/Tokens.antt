-- The tokens of a text: what white space parts, and places.
-- Which bytes are one token depends on what is read. A function `more` says, of a text that begins with a token, how
-- many bytes of the token follow its first one.
-- Laws: proofs/TokensLaws.antt.
use Rattle.std.specs.Prelude.{◌≡◌, ℕ, zero, suc, ◌+◌, ◌*◌, ◌-◌, Bool, false, ◌&&◌, ◌||◌, ◌==◌, nat_le, nat_eq, max, List, [], ◌∷◌, take, drop, take_while}
use Rattle.std.specs.Prelude.{length, if◌then◌else◌}
use Rattle.std.specs.List.{starts_with, list_all, list_any}
use Rattle.gf_text.specs.declared.error.Syntax.{Syntax}
use Rattle.gf_text.specs.declared.error.Kind.TheVariants as kinds
use Rattle.gf_text.specs.Machine.{Lexeme}

-- space, tab, carriage return or line feed
abbrev pub is_space : ℕ → Bool
is_space b = b == 32 || (b == 9 || (b == 13 || b == 10))

-- the white space that a text begins with
abbrev pub spaces : List ℕ → List ℕ
spaces text = take_while is_space text

-- 0 to 9
abbrev pub is_digit : ℕ → Bool
is_digit b = nat_le 48 b && nat_le b 57

-- a to z or A to Z
abbrev pub is_letter : ℕ → Bool
is_letter b = (nat_le 65 b && nat_le b 90) || (nat_le 97 b && nat_le b 122)

-- a letter, a digit or _
abbrev pub is_name_byte : ℕ → Bool
is_name_byte b = is_letter b || (is_digit b || b == 95)

-- decimal digits, at least one
abbrev pub is_number : List ℕ → Bool
is_number [] = false
is_number (b ∷ bs) = is_digit b && list_all is_digit bs

-- the number of these decimal digits, behind those of n
abbrev pub value_from : ℕ → List ℕ → ℕ
value_from n [] = n
value_from n (d ∷ ds) = value_from (10 * n + (d - 48)) ds

-- the number that decimal digits stand for
abbrev pub decimal_value : List ℕ → ℕ
decimal_value ds = value_from 0 ds

-- Where names of any length stand, as in a ring: a token is a number, a name or a single byte; how much of it follows
-- its first byte.
abbrev pub word_more : List ℕ → ℕ
word_more [] = 0
word_more (b ∷ bs) = if is_digit b then length (take_while is_digit bs)
    else if is_letter b then length (take_while is_name_byte bs)
    else 0

-- the length of the longest of these names that the text begins with, 0 where it begins with none
abbrev pub longest : List (List ℕ) → List ℕ → ℕ
longest [] text = 0
longest (n ∷ ns) text = max (if starts_with nat_eq text n then length n else 0) (longest ns text)

-- Where the names of a ring stand, as in a set: a token is a number, the longest name of the ring or a single byte.
abbrev pub ring_more : List (List ℕ) → List ℕ → ℕ
ring_more ring [] = 0
ring_more ring (b ∷ bs) = if is_digit b then length (take_while is_digit bs)
    else if is_letter b then longest ring (b ∷ bs) - 1
    else 0

-- the tokens of a text that begins at this place, where its first k bytes belong to a token before
unfoldable pub lex_tokens : (List ℕ → ℕ) → ℕ → ℕ → List ℕ → List Lexeme
lex_tokens more k at [] = []
lex_tokens more zero at (b ∷ bs) = if is_space b then lex_tokens more 0 (at + 1) bs
    else record { text = b ∷ take (more (b ∷ bs)) bs; at = at } ∷ lex_tokens more (more (b ∷ bs)) (at + 1) bs
lex_tokens more (suc k) at (b ∷ bs) = lex_tokens more k (at + 1) bs

-- the tokens from a place of the source on
abbrev pub lexemes : (List ℕ → ℕ) → List ℕ → ℕ → List Lexeme
lexemes more source at = lex_tokens more 0 at (drop at source)

-- the token between two places of the source
abbrev pub lexeme : List ℕ → ℕ → ℕ → Lexeme
lexeme source at end = record { text = take (end - at) (drop at source); at = at }

-- a source, and the place up to which it was read
pub record Position : Type 0 where
  pub source : List ℕ
  pub at : ℕ

-- what is left of the source
abbrev pub rest : Position → List ℕ
rest p = drop p.at p.source

-- nothing but white space
abbrev pub IsBlank : List ℕ → Type 0
IsBlank text = spaces text ≡ text

-- Something other than white space follows, and the refusal stands at its first byte.
abbrev pub HasMoreText : Position → Syntax → Type 0
HasMoreText p s = (IsBlank (rest p) → ⊥) × (s ≡ record { at = p.at + length (spaces (rest p)); kind = kinds.Unexpected })

-- the marks: brackets, braces, parentheses, comma, signs, *, /, ^
abbrev pub marks : List ℕ
marks = 91 ∷ 93 ∷ 123 ∷ 125 ∷ 40 ∷ 41 ∷ 44 ∷ 43 ∷ 45 ∷ 42 ∷ 47 ∷ 94 ∷ []

-- a token begins with a letter, a digit or a mark
abbrev pub begins_token : List ℕ → Bool
begins_token [] = false
begins_token (b ∷ bs) = is_letter b || (is_digit b || list_any (λ m. m == b) marks)
