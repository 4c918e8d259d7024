-- Members of a list, and the monomials that their marks divide.
-- To cite: member_contained, divisible_itself, divisible_along.
use Rattle.std.proofs.Common.{◌≡◌, ℕ, true, List, [], Contains}
use Rattle.gf_exponents_theory.specs.Exponents.{Exponents, same}
use Rattle.gf_exponents_theory.proofs.ExponentsLaws.{same-refl, same_flip, same_trans}
use Rattle.gf_poly.specs.Marking.{MarkedPolynomial}
use Rattle.gf_ideal_theory.specs.Reduction.{IsDivisible}
use Rattle.gf_ideal_theory.specs.Settled.{IsAt}

-- the member at an index is contained
pub member_contained : (bs : List MarkedPolynomial) (i : ℕ) (b : MarkedPolynomial) → IsAt bs i b → Contains bs b
member_contained bs i b h = (i, h.within, h.is)

-- the mark of a member is divisible by one
pub divisible_itself : (bs : List MarkedPolynomial) (b : MarkedPolynomial) → Contains bs b → IsDivisible (Contains bs) b.head
divisible_itself bs b c = record { member = b; contained = c; rest = []; divides = same-refl b.head }

-- and so is the same monomial
pub divisible_along : (by : MarkedPolynomial → Type 0) (x y : Exponents) → same x y ≡ true → IsDivisible by x → IsDivisible by y
divisible_along by x y s d = record { member = d.member; contained = d.contained; rest = d.rest; divides = same_trans y x _ (same_flip x y s) d.divides }
