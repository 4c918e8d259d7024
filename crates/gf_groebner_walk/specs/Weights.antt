-- The weight of an order that is lex, or a weight with ties broken by lex. Laws: proofs/WeightLaws.antt.
use Rattle.std.specs.Prelude.{◌≡◌, ◌↔◌, ℕ, List, length, All, ℤ, pos, ◌≤ℤ◌}
use Rattle.gf_exponents_theory.specs.Exponents.{Exponents}
use Rattle.gf_exponents_theory.specs.Orders.{gains, IsWeightedBelow}
use Rattle.gf_exponents_theory.specs.SixOrders.{MonomialOrder, below_of}

-- r has n entries, none of them negative, and the order compares by r, ties broken by lex
pub record IsWeightBeforeLex (order : MonomialOrder) (n : ℕ) (r : List ℤ) : Type 0 where
  pub width : length r ≡ n
  pub natural : All (λ c. pos 0 ≤ℤ c) r
  pub compares : (x y : Exponents) → below_of order x y ↔ IsWeightedBelow (gains r) x y
