-- What the program keeps is in range, one after another.
-- To cite: in_range_next, kept_next, variables_of. The rest are steps.
use Rattle.std.proofs.Common.{◌<◌, ◌+◌, ℕ, zero, suc, arith, List, [], ◌∷◌, ◌++◌, length, take, get_or}
use Rattle.std.proofs.lemmas.List.{take_more}
use Rattle.gf_poly.specs.declared.Term.{Term}
use Rattle.gf_poly.specs.Polynomial.{Terms, HasVariables}
use Rattle.gf_poly.specs.Marking.{MarkedPolynomial, HaveVariables}
use Rattle.gf_text.specs.WrittenText.{IsTermInRange, AreInRange, IsKeptMarked, AreKept}

in_range_push : (f : Terms) (t : Term) → AreInRange f → IsTermInRange t → AreInRange (f ++ t ∷ [])
in_range_push [] t h one = (one, tt)
in_range_push (s ∷ f) t h one = (h.0, in_range_push f t h.1 one)

pub in_range_next : (f : Terms) (i : ℕ) (d : Term) → i < length f → AreInRange (take i f) → IsTermInRange (get_or f i d) → AreInRange (take (i + 1) f)
in_range_next f i d h before one = rw (take_more f i d h) (in_range_push (take i f) (get_or f i d) before one)

kept_push : (n : ℕ) (ms : List MarkedPolynomial) (m : MarkedPolynomial) → AreKept n ms → IsKeptMarked n m → AreKept n (ms ++ m ∷ [])
kept_push n [] m h one = (one, tt)
kept_push n (k ∷ ms) m h one = (h.0, kept_push n ms m h.1 one)

pub kept_next : (n : ℕ) (ms : List MarkedPolynomial) (i : ℕ) (d : MarkedPolynomial) → i < length ms → AreKept n (take i ms) → IsKeptMarked n (get_or ms i d) →
    AreKept n (take (i + 1) ms)
kept_next n ms i d h before one = rw (take_more ms i d h) (kept_push n (take i ms) (get_or ms i d) before one)

pub variables_of : (n : ℕ) (ms : List MarkedPolynomial) (i : ℕ) (d : MarkedPolynomial) → HaveVariables n ms → i < length ms →
    HasVariables n (get_or ms i d).poly
variables_of n [] i d h k = absurd (omega arith)
variables_of n (m ∷ ms) zero d h k = h.0
variables_of n (m ∷ ms) (suc i) d h k = variables_of n ms i d h.1 (omega arith)
