-- Saturations by one variable after another, in an order that is found on the way. Laws: proofs/ChainLaws.antt.
use Rattle.std.specs.Prelude.{◌≡◌, ◌↔◌, ℕ, ◌+◌, ◌≤◌, List, Contains, map, length}
use Rattle.gf_exponents_theory.specs.Exponents.{Exponents, entry, plus}
use Rattle.gf_poly.specs.Polynomial.{Terms, HasVariables}
use Rattle.gf_poly.specs.Marking.{MarkedPolynomial}
use Rattle.gf_ideal_theory.specs.Membership.{IsMember}
use Rattle.gf_buchberger.specs.Tasks.{HaveRingVariables}
use Rattle.gf_saturation_theory.specs.Saturations.{IsSaturatedBy, next_variable}
use Rattle.gf_quotients_theory.specs.Ways as ways
use Rattle.gf_saturate.specs.Widening.{widened_term, narrowed_term, left_over}

-- the members are in n + 1 variables, and so are their marks
abbrev pub AreWide : ℕ → List MarkedPolynomial → Type 0
AreWide n bs = (b : MarkedPolynomial) → Contains bs b → HasVariables (n + 1) b.poly × (length b.head ≡ n + 1)

-- a member without the variable after the first n in its mark has it in no term
abbrev pub AreSplit : ℕ → List MarkedPolynomial → Type 0
AreSplit n bs = (b : MarkedPolynomial) → Contains bs b → entry b.head n ≡ 0 → map widened_term (map (narrowed_term n) b.poly) ≡ b.poly

-- hs are the members without that variable in their marks, of members that are so
pub record AreFreeMembers (n : ℕ) (bs : List MarkedPolynomial) (hs : List Terms) : Type 0 where
  pub is : hs ≡ left_over n bs
  pub split : AreSplit n bs

-- hs are in n variables, and generate the saturation of the ideal of gs by the variable at index k
pub record AreSaturated (n k : ℕ) (gs hs : List Terms) : Type 0 where
  pub ring : HaveRingVariables n hs
  pub members : (f : Terms) → IsMember n hs f ↔ IsSaturatedBy n gs (next_variable k) f

-- w has what v has, but for one of the variable at index k at most
abbrev pub IsTaken : ℕ → Exponents → Exponents → Type 0
IsTaken k v w = (i : ℕ) → entry v i ≤ entry (plus w (next_variable k)) i

-- gs are on the way to the saturation of the ideal of fs by n variables: it is only left to saturate by v
pub record IsChainIndex (n : ℕ) (fs gs : List Terms) (v : Exponents) : Type 0 where
  pub ring : HaveRingVariables n gs
  pub long : length v ≡ n
  pub way : ways.IsOnTheWay n fs gs v
