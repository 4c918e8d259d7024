-- The laws that functions of this crate name.
use Rattle.std.proofs.Common.{arith}
use Rattle.gf_exponents_theory.specs.Exponents.{plus, join, minus}
use Rattle.gf_exponents_theory.specs.Laws.{ProductsOfMonomials, LeastCommonMultiples, MonomialOrders, TermOrders, RowsAreWholeWeights, ComparisonsAreOrders}
use Rattle.gf_exponents_theory.proofs.ExponentsLaws.{plus_assoc, plus_comm, same-plus, same_flip, minus_left, minus_right, same_by_entries, entries_same}
use Rattle.gf_exponents_theory.proofs.ExponentsLaws.{entry-plus, entry-join, entry-minus}
use Rattle.gf_exponents_theory.proofs.OrderLaws.{lex-compares, deglex-compares}
use Rattle.gf_exponents_theory.proofs.WholeWeightLaws.{row-less, row-alike, negated-less, negated-alike, natural-weight}
use Rattle.gf_exponents_theory.proofs.SixOrdersLaws.{order-is, term-order, term-weights}

pub products : ProductsOfMonomials
products = record { associative = plus_assoc; commutative = plus_comm; cancellative = same-plus }

pub least_common_multiples : LeastCommonMultiples
least_common_multiples = record {
  left = λ x y. record { rest = minus (join x y) x; product = same_flip (plus (minus (join x y) x) x) (join x y) (minus_left x y) };
  right = λ x y. record { rest = minus (join x y) y; product = same_flip (plus (minus (join x y) y) y) (join x y) (minus_right x y) };
  least = λ x y z h k. record {
    rest = minus z (join x y);
    product = same_by_entries z (plus (minus z (join x y)) (join x y)) (λ i. omega (
      arith,
      entries_same z (plus h.rest x) h.product i,
      entries_same z (plus k.rest y) k.product i,
      entry-plus h.rest x i,
      entry-plus k.rest y i,
      entry-plus (minus z (join x y)) (join x y) i,
      entry-minus z (join x y) i,
      entry-join x y i,
    ));
  };
}

pub monomial_orders : MonomialOrders
monomial_orders = order-is

pub term_orders : TermOrders
term_orders = record { if_weights = term-order; only_if = term-weights }

pub rows : RowsAreWholeWeights
rows = record { less = row-less; alike = row-alike; negated_less = negated-less; negated_alike = negated-alike; natural = natural-weight }

pub comparisons : ComparisonsAreOrders
comparisons = record { by_lex = lex-compares; by_deglex = deglex-compares }
