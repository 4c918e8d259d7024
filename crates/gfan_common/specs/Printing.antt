-- Texts that several commands print.
use Rattle.std.specs.Prelude.{◌≡◌, ◌⊎◌, ℕ, Bool, true, false, List, [], ◌∷◌, ◌++◌, flat_map, decimal}
use Rattle.gf_poly.specs.Marking.{MarkedPolynomials}
use Rattle.gf_text.specs.RingText.{ring_text}
use Rattle.gf_text.specs.declared.written.Written.{Written}
use Rattle.gf_text.specs.PrintedSets.{basis_text}
use Rattle.gf_text.specs.WrittenText.{set_text}

-- the digit 1 or 0, and a line end
abbrev pub verdict_text : Bool → List ℕ
verdict_text true = 49 ∷ 10 ∷ []
verdict_text false = 48 ∷ 10 ∷ []

-- the text is that of 1 if P holds, and that of 0 if it doesn't
abbrev pub IsVerdictText : Type 0 → List ℕ → Type 0
IsVerdictText P text = (P × (text ≡ verdict_text true)) ⊎ ((P → ⊥) × (text ≡ verdict_text false))

-- the text is the ring's line, then the set and a line end
abbrev pub IsPrinted : List (List ℕ) → MarkedPolynomials → List ℕ → Type 0
IsPrinted ring set text = text ≡ ring_text ring ++ (basis_text ring set.items ++ 10 ∷ [])

-- the text is the ring's line, then the set of these polynomials, some of which may be zero, one polynomial a line, and a line end
abbrev pub IsPrintedSet : List (List ℕ) → List Written → List ℕ → Type 0
IsPrintedSet ring ws text = text ≡ ring_text ring ++ (set_text (10 ∷ []) ring ws ++ 10 ∷ [])

-- a line end, a comma, a line end, and a set
abbrev pub later_set_text : List (List ℕ) → MarkedPolynomials → List ℕ
later_set_text ring set = 10 ∷ 44 ∷ 10 ∷ basis_text ring set.items

-- the sets, with a comma on a line of its own between them
abbrev pub sets_text : List (List ℕ) → List MarkedPolynomials → List ℕ
sets_text ring [] = []
sets_text ring (s ∷ ss) = basis_text ring s.items ++ flat_map (later_set_text ring) ss

-- the text is the ring's line, then a brace, the sets, a brace and a line end
abbrev pub IsPrintedList : List (List ℕ) → List MarkedPolynomials → List ℕ → Type 0
IsPrintedList ring sets text = text ≡ ring_text ring ++ (123 ∷ (sets_text ring sets ++ 125 ∷ 10 ∷ []))

-- a line: a label, and the number
abbrev pub count_line : List ℕ → ℕ → List ℕ
count_line label n = label ++ (decimal n ++ 10 ∷ [])
