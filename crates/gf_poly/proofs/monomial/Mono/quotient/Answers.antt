use Rattle.std.proofs.Common.{ℕ, ◌≡◌, length, take, arith, ap, sym, ◌∙◌}
use Rattle.gf_exponents_theory.specs.Exponents.{Exponents, minus, degree}
use Rattle.gf_poly.specs.Monomial.{IsPlaced}
use Rattle.gf_poly.proofs.MonomialLaws.{plus-minus, degree-minus, length-minus}
use Rattle.gf_poly.proofs.PlacedLaws.{placed-front, placed_by_front, placed-minus, placed-divides}
use Rattle.gf_poly.proofs.monomial.Mono.quotient.Goals as goal

-- the first indices of the differences
front : (x y indices others : Exponents) (n : ℕ) → length x ≡ length y → n ≡ length x → IsPlaced x indices → IsPlaced y others →
    take n (minus indices others) ≡ minus x y
front x y indices others n e m h k = placed-front (minus x y) (minus indices others) n (m ∙ sym (length-minus x y e)) (placed-minus x y indices others e h k)

pub differences-all-requires-clause-divides : goal.differences-all-requires-clause-divides
differences-all-requires-clause-divides c = placed-divides c.args.self.now c.args.by.now c.indices.result.now c.indices-2.result.now c.indices.ensures
    c.indices-2.ensures c.requires.divides

pub overflow_sub-self-inside : goal.overflow_sub-self-inside
overflow_sub-self-inside c = omega (
  arith,
  degree-minus c.args.self.now c.args.by.now c.requires.same_variables c.requires.divides,
  c.self.invariant.total_degree ∙ ap degree c.self.view_is,
  c.by.invariant.total_degree ∙ ap degree c.by.view_is,
)

pub known-requires-clause-placed : goal.known-requires-clause-placed
known-requires-clause-placed c = rw c.differences-all.ensures (placed_by_front (minus c.args.self.now c.args.by.now)
    (minus c.indices.result.now c.indices-2.result.now) _ (c.variables-n.ensures ∙ sym (length-minus c.args.self.now c.args.by.now c.requires.same_variables))
    (placed-minus c.args.self.now c.args.by.now c.indices.result.now c.indices-2.result.now c.requires.same_variables c.indices.ensures c.indices-2.ensures))

pub known-requires-clause-total : goal.known-requires-clause-total
known-requires-clause-total c = rw (
  c.differences-all.ensures,
  front c.args.self.now c.args.by.now c.indices.result.now c.indices-2.result.now _
      c.requires.same_variables c.variables-n.ensures c.indices.ensures c.indices-2.ensures,
)
    (omega (
      arith,
      degree-minus c.args.self.now c.args.by.now c.requires.same_variables c.requires.divides,
      c.self.invariant.total_degree ∙ ap degree c.self.view_is,
      c.by.invariant.total_degree ∙ ap degree c.by.view_is,
    ))

pub returns-clause-value : goal.returns-clause-value
returns-clause-value c = c.known.ensures ∙ rw c.differences-all.ensures (front c.args.self.now c.args.by.now c.indices.result.now c.indices-2.result.now _
    c.requires.same_variables c.variables-n.ensures c.indices.ensures c.indices-2.ensures)

pub returns-clause-product : goal.returns-clause-product
returns-clause-product c = rw (
  c.known.ensures,
  c.differences-all.ensures,
  front c.args.self.now c.args.by.now c.indices.result.now c.indices-2.result.now _
      c.requires.same_variables c.variables-n.ensures c.indices.ensures c.indices-2.ensures,
)
    (plus-minus c.args.self.now c.args.by.now c.requires.same_variables c.requires.divides)
