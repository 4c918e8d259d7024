-- The orders as the program keeps them.
use Rattle.std.specs.Prelude.{All, pos, ◌≤ℤ◌}
use Rattle.gf_exponents_theory.specs.Orders.{gains, negated_row_of}
use Rattle.gf_exponents_theory.specs.SixOrders.{MonomialOrder}
use Rattle.gf_order.specs.declared.order.Kind.{Kind}
use Rattle.gf_order.specs.declared.order.Kind.TheVariants.{Lex, Deglex, Revlex, Weighted, WeightedRevlex, Facet}
use Rattle.gf_order.specs.Weights.{AreBounded}

-- which of the six it is
abbrev pub order_of : Kind → MonomialOrder
order_of Lex = MonomialOrder.lex
order_of Deglex = MonomialOrder.deglex
order_of Revlex = MonomialOrder.revlex
order_of (Weighted w) = MonomialOrder.weighted (gains w)
order_of (WeightedRevlex w) = MonomialOrder.weighted_revlex (gains w)
order_of (Facet a) = MonomialOrder.facet (negated_row_of a)

-- weights are bounded, and where they stand for natural numbers none is negative
abbrev pub IsKind : Kind → Type 0
IsKind Lex = Unit {0}
IsKind Deglex = Unit {0}
IsKind Revlex = Unit {0}
IsKind (Weighted w) = AreBounded w × All (λ k. pos 0 ≤ℤ k) w
IsKind (WeightedRevlex w) = AreBounded w × All (λ k. pos 0 ≤ℤ k) w
IsKind (Facet a) = AreBounded a
