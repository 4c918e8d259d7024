-- The tokens of a single byte that stand between names and numbers.
use Rattle.std.specs.Prelude.{ℕ, List, [], ◌∷◌}

-- an opening parenthesis
abbrev pub parenthesis : List ℕ
parenthesis = 40 ∷ []

-- a closing parenthesis
abbrev pub parenthesis_end : List ℕ
parenthesis_end = 41 ∷ []

-- the sign of a product
abbrev pub star : List ℕ
star = 42 ∷ []

-- a plus
abbrev pub plus_mark : List ℕ
plus_mark = 43 ∷ []

-- a comma
abbrev pub comma : List ℕ
comma = 44 ∷ []

-- a minus
abbrev pub minus_mark : List ℕ
minus_mark = 45 ∷ []

-- the stroke of a fraction
abbrev pub slash : List ℕ
slash = 47 ∷ []

-- an opening square bracket
abbrev pub bracket : List ℕ
bracket = 91 ∷ []

-- a closing square bracket
abbrev pub bracket_end : List ℕ
bracket_end = 93 ∷ []

-- the sign of a power
abbrev pub caret : List ℕ
caret = 94 ∷ []

-- an opening brace
abbrev pub brace : List ℕ
brace = 123 ∷ []

-- a closing brace
abbrev pub brace_end : List ℕ
brace_end = 125 ∷ []
