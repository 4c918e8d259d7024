-- The laws of monomials and their orders that functions of this crate name.
use Rattle.std.specs.Prelude.{◌≡◌, ◌↔◌, ℕ, List, length, All, ℤ, pos, ◌<ℤ◌, ◌≤ℤ◌}
use Rattle.std.specs.Ordering.{MatchOrdering}
use Rattle.gf_exponents_theory.specs.Exponents.{Exponents, same, plus, join, Divides, weight, whole_weight}
use Rattle.gf_exponents_theory.specs.Orders.{IsMonomialOrder, IsTermOrder, IsLexBelow, IsDeglexBelow, is_less, is_alike, row_of, negated_row_of, gains, lex}
use Rattle.gf_exponents_theory.specs.Orders.{deglex}
use Rattle.gf_exponents_theory.specs.SixOrders.{MonomialOrder, below_of, HasTermWeights}

-- products of monomials: associative, commutative, and a common factor cancels
pub record ProductsOfMonomials : Type 0 where
  pub associative : (x y z : Exponents) → plus (plus x y) z ≡ plus x (plus y z)
  pub commutative : (x y : Exponents) → plus x y ≡ plus y x
  pub cancellative : (x y z : Exponents) → same (plus x y) (plus x z) ≡ same y z

-- the least common multiple is a multiple of both, and divides each other one
pub record LeastCommonMultiples : Type 0 where
  pub left : (x y : Exponents) → Divides x (join x y)
  pub right : (x y : Exponents) → Divides y (join x y)
  pub least : (x y z : Exponents) → Divides x z → Divides y z → Divides (join x y) z

-- each of the six orders is a monomial order: total, transitive and kept by products
abbrev pub MonomialOrders : Type 0
MonomialOrders = (o : MonomialOrder) → IsMonomialOrder (below_of o)

-- in n variables they are term orders exactly where their weights are those of one
pub record TermOrders : Type 0 where
  pub if_weights : (n : ℕ) (o : MonomialOrder) → HasTermWeights n o → IsTermOrder n (below_of o)
  pub only_if : (n : ℕ) (o : MonomialOrder) → IsTermOrder n (below_of o) → HasTermWeights n o

-- the row of whole weights compares as they do, and the row of their negatives the other way; where none is negative,
-- what counts for an exponent is all
pub record RowsAreWholeWeights : Type 0 where
  pub less : (w : List ℤ) (x y : Exponents) → is_less (row_of w) x y ↔ whole_weight w x <ℤ whole_weight w y
  pub alike : (w : List ℤ) (x y : Exponents) → is_alike (row_of w) x y ↔ (whole_weight w x ≡ whole_weight w y)
  pub negated_less : (w : List ℤ) (x y : Exponents) →
      is_less (negated_row_of w) x y ↔ whole_weight w y <ℤ whole_weight w x
  pub negated_alike : (w : List ℤ) (x y : Exponents) →
      is_alike (negated_row_of w) x y ↔ (whole_weight w x ≡ whole_weight w y)
  pub natural : (w : List ℤ) (x : Exponents) → All (λ k. pos 0 ≤ℤ k) w → pos (weight (gains w) x) ≡ whole_weight w x

-- the comparisons of lists of one length are these orders
pub record ComparisonsAreOrders : Type 0 where
  pub by_lex : (x y : Exponents) → length x ≡ length y → MatchOrdering (lex x y) (IsLexBelow x y) (x ≡ y) (IsLexBelow y x)
  pub by_deglex : (x y : Exponents) → length x ≡ length y → MatchOrdering (deglex x y) (IsDeglexBelow x y) (x ≡ y) (IsDeglexBelow y x)
