-- The six orders as one type, and which of them are term orders.
-- Laws: proofs/SixOrdersLaws.antt. Source: Cox, Little, O'Shea, Ideals, Varieties, and Algorithms, 2.2.
use Rattle.std.specs.Prelude.{◌≡◌, ℕ, ◌<◌, ◌≤◌, List}
use Rattle.gf_exponents_theory.specs.Exponents.{Exponents, entry}
use Rattle.gf_exponents_theory.specs.Orders.{WeightRow, IsLexBelow, IsDeglexBelow, IsRevlexBelow, IsWeightedBelow, IsWeightedRevlexBelow, IsFacetBelow}

-- one of the six; `facet` has the row of the negated normal of the facet
pub data MonomialOrder : Type 0 where
  lex : MonomialOrder
  deglex : MonomialOrder
  revlex : MonomialOrder
  weighted : List ℕ → MonomialOrder
  weighted_revlex : List ℕ → MonomialOrder
  facet : WeightRow → MonomialOrder

-- x is below y by the order
abbrev pub below_of : MonomialOrder → Exponents → Exponents → Type 0
below_of MonomialOrder.lex = IsLexBelow
below_of MonomialOrder.deglex = IsDeglexBelow
below_of MonomialOrder.revlex = IsRevlexBelow
below_of (MonomialOrder.weighted w) = IsWeightedBelow w
below_of (MonomialOrder.weighted_revlex w) = IsWeightedRevlexBelow w
below_of (MonomialOrder.facet r) = IsFacetBelow r

-- the weights of a term order in n variables: lex and deglex have none to ask for, revlex is no term order unless there are
-- no variables, a weight before lex may be any natural numbers, one before revlex is positive, and a row takes from no
-- variable more than it gives
abbrev pub HasTermWeights : ℕ → MonomialOrder → Type 0
HasTermWeights n MonomialOrder.lex = Unit {0}
HasTermWeights n MonomialOrder.deglex = Unit {0}
HasTermWeights n MonomialOrder.revlex = n ≡ 0
HasTermWeights n (MonomialOrder.weighted w) = Unit {0}
HasTermWeights n (MonomialOrder.weighted_revlex w) = (i : ℕ) → i < n → 1 ≤ entry w i
HasTermWeights n (MonomialOrder.facet r) = (i : ℕ) → i < n → entry r.loss i ≤ entry r.gain i
