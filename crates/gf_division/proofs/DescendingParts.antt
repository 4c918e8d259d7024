-- Descending lists, one after the other: what holds of the whole and of its parts.
-- To cite: descending-front, descending-back, descending-across, descending-join, over-across, over-join, variables-front,
-- variables-back, variables-join, coefficient-at_term, term_there.
use Rattle.std.specs.Prelude.{◌≡◌, ℕ, suc, List, [], ◌∷◌, ◌++◌, Contains}
use Rattle.std.proofs.Common.{arith, refl, ap, ◌∙◌, inr}
use Rattle.gf_exponents_theory.specs.Exponents.{Exponents}
use Rattle.gf_exponents_theory.specs.Orders.{deglex}
use Rattle.gf_poly.specs.declared.Term.{Term}
use Rattle.gf_poly.specs.Polynomial.{Terms, coefficient, IsAbove, IsDescending, HasVariables}
use Rattle.gf_poly.proofs.DescendingLaws.{AllAbove}
use Rattle.gf_poly.proofs.CoefficientLaws.{coefficient-contains}
use Rattle.gf_division.specs.Dividends.{AreOver, AreFrom}

-- ---- descending

above-front : (x : Exponents) (f g : Terms) → IsAbove x (f ++ g) → IsAbove x f
above-front x [] g a = tt
above-front x (t ∷ f) g a = (a.0, above-front x f g a.1)

above-back : (x : Exponents) (f g : Terms) → IsAbove x (f ++ g) → IsAbove x g
above-back x [] g a = a
above-back x (t ∷ f) g a = above-back x f g a.1

above-join : (x : Exponents) (f g : Terms) → IsAbove x f → IsAbove x g → IsAbove x (f ++ g)
above-join x [] g a b = b
above-join x (t ∷ f) g a b = (a.0, above-join x f g a.1 b)

pub descending-front : (f g : Terms) → IsDescending (f ++ g) → IsDescending f
descending-front [] g d = tt
descending-front (t ∷ f) g d = (d.0, above-front t.mono f g d.1, descending-front f g d.2)

pub descending-back : (f g : Terms) → IsDescending (f ++ g) → IsDescending g
descending-back [] g d = d
descending-back (t ∷ f) g d = descending-back f g d.2

pub descending-across : (f g : Terms) → IsDescending (f ++ g) → AllAbove f g
descending-across [] g d = tt
descending-across (t ∷ f) g d = (above-back t.mono f g d.1, descending-across f g d.2)

pub descending-join : (f g : Terms) → IsDescending f → IsDescending g → AllAbove f g → IsDescending (f ++ g)
descending-join [] g d e a = e
descending-join (t ∷ f) g d e a = (d.0, above-join t.mono f g d.1 a.0, descending-join f g d.2 e a.1)

pub all-above-join : (f g h : Terms) → AllAbove f h → AllAbove g h → AllAbove (f ++ g) h
all-above-join [] g h a b = b
all-above-join (t ∷ f) g h a b = (a.0, all-above-join f g h a.1 b)

-- ---- variables

pub variables-front : (n : ℕ) (f g : Terms) → HasVariables n (f ++ g) → HasVariables n f
variables-front n [] g v = tt
variables-front n (t ∷ f) g v = (v.0, variables-front n f g v.1)

pub variables-back : (n : ℕ) (f g : Terms) → HasVariables n (f ++ g) → HasVariables n g
variables-back n [] g v = v
variables-back n (t ∷ f) g v = variables-back n f g v.1

pub variables-join : (n : ℕ) (f g : Terms) → HasVariables n f → HasVariables n g → HasVariables n (f ++ g)
variables-join n [] g v w = w
variables-join n (t ∷ f) g v w = (v.0, variables-join n f g v.1 w)

-- ---- a term in the midst

pub contains-midst : {A : Type 0} (f : List A) (t : A) (g : List A) → Contains (f ++ t ∷ g) t
contains-midst [] t g = (0, omega arith, refl)
contains-midst (s ∷ f) t g = let c = contains-midst f t g in (suc c.0, omega (arith, c.1), c.2)

-- its coefficient
pub coefficient-midst : (n : ℕ) (f : Terms) (t : Term) (g : Terms) → HasVariables n (f ++ t ∷ g) → IsDescending (f ++ t ∷ g) →
    coefficient (f ++ t ∷ g) t.mono ≡ t.coef
coefficient-midst n f t g v d = coefficient-contains n (f ++ t ∷ g) t v d (contains-midst f t g) (variables-back n f (t ∷ g) v).0

-- ---- over a monomial

-- it is over a term at x
pub over-one : (x : Exponents) (f : Terms) (t : Term) → t.mono ≡ x → AreOver x f → AllAbove f (t ∷ [])
over-one x [] t e o = tt
over-one x (s ∷ f) t e o = ((ap (deglex s.mono) e ∙ o.0, tt), over-one x f t e o.1)

pub from-over : (x : Exponents) (f : Terms) → AreOver x f → AreFrom x f
from-over x [] o = tt
from-over x (t ∷ f) o = (inr o.0, from-over x f o.1)
