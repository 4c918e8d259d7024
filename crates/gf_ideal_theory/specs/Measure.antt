-- How much work a reduction may still have: one natural number, in which no weight and no order occurs.
-- The height of a monomial counts what a step at it may bring, step after step, inside a finite box of monomials;
-- the work left is the sum of the heights of the monomials of f. Nothing here is computed: the box is large.
-- Law: a step makes it smaller wherever some weight sets each mark above the rest (proofs/MeasureLaws.antt).
use Rattle.std.specs.Prelude.{◌||◌, ℕ, zero, suc, ◌+◌, ◌<◌, ◌≤◌, ◌≡◌, ℤ, pos, negsuc, Bool, true, false, if◌then◌else◌, List, [], ◌∷◌, ◌++◌, length}
use Rattle.gf_exponents_theory.specs.Exponents.{Exponents, entry, same, plus, minus}
use Rattle.gf_poly.specs.Polynomial.{Terms, coefficient}
use Rattle.gf_poly.specs.Marking.{MarkedPolynomial}
use Rattle.gf_ideal_theory.specs.Membership.{HasMonomial}

-- ---- lists of monomials

-- whether a monomial is in the list
abbrev pub within : List Exponents → Exponents → Bool
within [] x = false
within (y ∷ ys) x = same x y || within ys x

-- the list without a monomial
abbrev pub except : Exponents → List Exponents → List Exponents
except x [] = []
except x (y ∷ ys) = if same x y then except x ys else (y ∷ except x ys)

-- each monomial of the list times u
abbrev pub all_raised : Exponents → List Exponents → List Exponents
all_raised u [] = []
all_raised u (y ∷ ys) = plus u y ∷ all_raised u ys

-- the sum of a function over the list
abbrev pub total : (Exponents → ℕ) → List Exponents → ℕ
total f [] = 0
total f (y ∷ ys) = f y + total f ys

-- ---- the monomials of a polynomial, each once

-- whether a whole number is 0
abbrev pub is_zero_number : ℤ → Bool
is_zero_number (pos zero) = true
is_zero_number (pos (suc n)) = false
is_zero_number (negsuc n) = false

-- whether f lists the monomial
abbrev pub lists : Terms → Exponents → Bool
lists [] x = false
lists (t ∷ f) x = same x t.mono || lists f x

-- the monomials of f that stand in a part of its list
abbrev pub support_in : Terms → Terms → List Exponents
support_in f [] = []
support_in f (t ∷ g) = if lists g t.mono || is_zero_number (coefficient f t.mono).num then support_in f g else (t.mono ∷ support_in f g)

-- the monomials of f
abbrev pub support : Terms → List Exponents
support f = support_in f f

-- ---- the box

-- each exponent is below the limit, and is 0 past the first n variables
pub record IsInBox (limit n : ℕ) (x : Exponents) : Type 0 where
  pub below : (i : ℕ) → entry x i < limit
  pub beyond : (i : ℕ) → n ≤ i → entry x i ≡ 0

-- so is each monomial of f
abbrev pub FitsBox : ℕ → ℕ → Terms → Type 0
FitsBox limit n f = (x : Exponents) → HasMonomial f x → IsInBox limit n x

-- a in front of each monomial
abbrev pub front : ℕ → List Exponents → List Exponents
front a [] = []
front a (y ∷ ys) = (a ∷ y) ∷ front a ys

-- each number below a in front of each monomial
abbrev pub fronts : ℕ → List Exponents → List Exponents
fronts zero ys = []
fronts (suc a) ys = front a ys ++ fronts a ys

-- all monomials of n variables with exponents below the limit
unfoldable pub box : ℕ → ℕ → List Exponents
box limit zero = [] ∷ []
box limit (suc n) = fronts limit (box limit n)

-- ---- heights

-- what a step at x by b brings: the monomials of b but the marked one, raised to x
abbrev pub brought : MarkedPolynomial → Exponents → List Exponents
brought b x = if same x (plus (minus x b.head) b.head) then all_raised (minus x b.head) (except b.head (support b.poly)) else []

-- what a step at x by some member brings
abbrev pub all_brought : List MarkedPolynomial → Exponents → List Exponents
all_brought [] x = []
all_brought (b ∷ bs) x = brought b x ++ all_brought bs x

-- f inside the list, 0 elsewhere
abbrev pub inside_list : List Exponents → (Exponents → ℕ) → Exponents → ℕ
inside_list xs f x = if within xs x then f x else 0

-- 1, and the heights of all that a step at x may bring, at most k steps deep
abbrev pub height : List Exponents → List MarkedPolynomial → ℕ → Exponents → ℕ
height xs bs zero x = 1
height xs bs (suc k) x = suc (total (inside_list xs (height xs bs k)) (all_brought bs x))

-- the heights of the monomials of f, as deep as the list is long
abbrev pub work_in : List Exponents → List MarkedPolynomial → Terms → ℕ
work_in xs bs f = total (inside_list xs (height xs bs (length xs))) (support f)

-- how much work the reduction of f may still have, in n variables with exponents below the limit
abbrev pub work_left : ℕ → ℕ → List MarkedPolynomial → Terms → ℕ
work_left limit n bs f = work_in (box limit n) bs f
