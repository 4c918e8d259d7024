-- Which variables occur in the marks of a basis.
use Rattle.std.specs.Prelude.{◌≡◌, ℕ, ◌<◌, List, Contains, length}
use Rattle.gf_exponents_theory.specs.Exponents.{Exponents, entry}
use Rattle.gf_poly.specs.Marking.{MarkedPolynomial}

-- each mark has m variables
abbrev pub HaveLongHeads : ℕ → List MarkedPolynomial → Type 0
HaveLongHeads m bs = (b : MarkedPolynomial) → Contains bs b → length b.head ≡ m

-- a variable that doesn't occur in x occurs in no mark
abbrev pub CoverHeads : List MarkedPolynomial → Exponents → Type 0
CoverHeads bs x = (k : ℕ) → entry x k ≡ 0 → (b : MarkedPolynomial) → Contains bs b → entry b.head k ≡ 0

-- one of the first n variables that doesn't occur in x occurs in no mark without the variable after them
abbrev pub CoverFreeHeads : ℕ → List MarkedPolynomial → Exponents → Type 0
CoverFreeHeads n bs x = (k : ℕ) → k < n → entry x k ≡ 0 → (b : MarkedPolynomial) → Contains bs b → entry b.head n ≡ 0 → entry b.head k ≡ 0
