-- What is printed of terms: signs, coefficients, powers.
-- Names are those of the variables, in the order of the exponents.
-- Laws: proofs/PrintedTextLaws.antt.
use Rattle.std.specs.Prelude.{ℕ, ℤ, pos, negsuc, Bool, true, false, ◌==◌, ◌&&◌, List, [], ◌∷◌, ◌++◌, codes, decimal, flat_map, if◌then◌else◌}
use Rattle.std.specs.Int.RustNames.{unsigned_abs}
use Rattle.gf_exponents_theory.specs.Exponents.{Exponents}
use Rattle.gf_frac.specs.Fraction.{Fraction}
use Rattle.gf_poly.specs.Polynomial.{Terms}

-- pieces of text with a separator between them
abbrev pub joined : List ℕ → List (List ℕ) → List ℕ
joined separator [] = []
joined separator (p ∷ ps) = p ++ flat_map (λ q. separator ++ q) ps

-- ---- monomials

-- a * where something stands before
abbrev pub times_text : Bool → List ℕ
times_text some = if some then 42 ∷ [] else []

-- an exponent, with a ^ before it; 1 is left out
abbrev pub raised_text : ℕ → List ℕ
raised_text exponent = if exponent == 1 then [] else 94 ∷ decimal exponent

-- a power of a variable: its name, and from 2 on ^ and the exponent
abbrev pub power_text : List ℕ → ℕ → List ℕ
power_text name e = if e == 1 then name else name ++ (94 ∷ decimal e)

-- the powers of a monomial, less those with exponent 0
abbrev pub powers : List (List ℕ) → List ℕ → List (List ℕ)
powers [] es = []
powers (n ∷ ns) [] = []
powers (n ∷ ns) (e ∷ es) = if e == 0 then powers ns es else power_text n e ∷ powers ns es

-- one of them, or nothing where its exponent is 0
abbrev pub next_text : Bool → List ℕ → ℕ → List ℕ
next_text some name e = if e == 0 then [] else (if some then 42 ∷ power_text name e else power_text name e)

-- ---- coefficients

-- whether a whole number is negative
abbrev pub is_below_zero : ℤ → Bool
is_below_zero (pos n) = false
is_below_zero (negsuc n) = true

-- the size of a coefficient: p, or p/q
abbrev pub size_text : Fraction → List ℕ
size_text c = if c.den == 1 then decimal (unsigned_abs c.num) else decimal (unsigned_abs c.num) ++ (47 ∷ decimal c.den)

-- a denominator, with a / before it; 1 is left out
abbrev pub over_text : ℕ → List ℕ
over_text denominator = if denominator == 1 then [] else 47 ∷ decimal denominator

-- 1 or -1
abbrev pub is_unit : Fraction → Bool
is_unit c = (unsigned_abs c.num == 1) && (c.den == 1)

-- ---- terms

-- a coefficient's size and powers; a 1 is left out where there is a power
abbrev pub pieces : Bool → List ℕ → List (List ℕ) → List (List ℕ)
pieces unit size [] = size ∷ []
pieces true size (p ∷ ps) = p ∷ ps
pieces false size (p ∷ ps) = size ∷ p ∷ ps

-- what is left of a monomial, whether something stands before, and the powers that are left
abbrev pub left_text : Bool → List (List ℕ) → List ℕ
left_text true powers = flat_map (λ p. 42 ∷ p) powers
left_text false powers = joined (codes "*") (pieces true (codes "1") powers)

-- a monomial: its powers joined by *, or 1 where it has none
abbrev pub monomial_text : List (List ℕ) → Exponents → List ℕ
monomial_text names exponents = joined (codes "*") (pieces true (codes "1") (powers names exponents))

-- a term without its sign: its pieces joined by *
abbrev pub unsigned_text : List (List ℕ) → Fraction → List ℕ → List ℕ
unsigned_text names c es = joined (42 ∷ []) (pieces (is_unit c) (size_text c) (powers names es))

-- a minus, or nothing
abbrev pub leading_sign : Fraction → List ℕ
leading_sign c = if is_below_zero c.num then 45 ∷ [] else []

-- a fraction: p or p/q, with a minus where it is below zero
abbrev pub fraction_text : Fraction → List ℕ
fraction_text c = leading_sign c ++ size_text c

-- a minus or a plus
abbrev pub inner_sign : Fraction → List ℕ
inner_sign c = if is_below_zero c.num then 45 ∷ [] else 43 ∷ []

-- the first term of a polynomial, with a minus or without a sign
abbrev pub first_text : List (List ℕ) → Fraction → List ℕ → List ℕ
first_text names c es = leading_sign c ++ unsigned_text names c es

-- a term after another: its sign is always written
abbrev pub later_text : List (List ℕ) → Fraction → List ℕ → List ℕ
later_text names c es = inner_sign c ++ unsigned_text names c es

-- ---- polynomials

-- a polynomial: its terms as they stand, each with its sign, or 0 where it has none
abbrev pub terms_text : List (List ℕ) → Terms → List ℕ
terms_text names [] = codes "0"
terms_text names (t ∷ f) = first_text names t.coef t.mono ++ flat_map (λ u. later_text names u.coef u.mono) f
