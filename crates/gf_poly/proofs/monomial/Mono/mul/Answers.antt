use Rattle.std.proofs.Common.{ℕ, ◌≡◌, length, take, subst, arith, ap, sym, ◌∙◌}
use Rattle.gf_exponents_theory.specs.Exponents.{Exponents, plus, degree}
use Rattle.gf_exponents_theory.proofs.WeightLaws.{degree-plus}
use Rattle.gf_poly.specs.Monomial.{IsWordOf, IsPlaced, ProductFits}
use Rattle.gf_poly.proofs.MonomialLaws.{degrees-fit, length-plus}
use Rattle.gf_poly.proofs.PlacedLaws.{placed-front, placed_by_front, placed-monomial, placed-plus}
use Rattle.gf_poly.proofs.WordLaws.{word-plus}
use Rattle.gf_poly.proofs.monomial.Mono.mul.Goals as goal

-- the first indices of the product of the indices
front : (x y indices others : Exponents) (n : ℕ) → length x ≡ length y → n ≡ length x → IsPlaced x indices → IsPlaced y others → ProductFits indices others →
    take n (plus indices others) ≡ plus x y
front x y indices others n e m h k p = placed-front (plus x y) (plus indices others) n (m ∙ sym (length-plus x y e)) (placed-plus x y indices others e h k p)

pub overflow_add-self-inside : goal.overflow_add-self-inside
overflow_add-self-inside c = omega (
  arith,
  degrees-fit c.args.self.now c.args.other.now (placed-monomial c.args.self.now c.indices.result.now c.indices.ensures)
      (placed-monomial c.args.other.now c.indices-2.result.now c.indices-2.ensures),
  c.self.invariant.total_degree ∙ ap degree c.self.view_is,
  c.other.invariant.total_degree ∙ ap degree c.other.view_is,
)

pub known-requires-clause-placed : goal.known-requires-clause-placed
known-requires-clause-placed c = rw c.in_ok-all.ensures.product (placed_by_front (plus c.args.self.now c.args.other.now)
    (plus c.indices.result.now c.indices-2.result.now) _ (c.variables.ensures ∙ sym (length-plus c.args.self.now c.args.other.now c.requires))
    (placed-plus c.args.self.now c.args.other.now c.indices.result.now c.indices-2.result.now c.requires c.indices.ensures c.indices-2.ensures
    c.in_ok-all.ensures.fits))

pub known-requires-clause-total : goal.known-requires-clause-total
known-requires-clause-total c = rw (
  c.in_ok-all.ensures.product,
  front c.args.self.now c.args.other.now c.indices.result.now c.indices-2.result.now _ c.requires
      c.variables.ensures c.indices.ensures c.indices-2.ensures c.in_ok-all.ensures.fits,
) (omega (
  arith,
  degree-plus c.args.self.now c.args.other.now,
  c.self.invariant.total_degree ∙ ap degree c.self.view_is,
  c.other.invariant.total_degree ∙ ap degree c.other.view_is,
))

pub known-requires-clause-word : goal.known-requires-clause-word
known-requires-clause-word c = rw (
  c.in_ok-all.ensures.product,
  front c.args.self.now c.args.other.now c.indices.result.now c.indices-2.result.now _ c.requires
      c.variables.ensures c.indices.ensures c.indices-2.ensures c.in_ok-all.ensures.fits,
)
    (word-plus c.args.self.now c.args.other.now c.self.inside.word c.other.inside.word
    (subst (λ x. IsWordOf x c.self.inside.word) c.self.view_is c.self.invariant.occurring)
    (subst (λ x. IsWordOf x c.other.inside.word) c.other.view_is c.other.invariant.occurring))

pub returns-clause-product : goal.returns-clause-product
returns-clause-product c =
    c.known.ensures ∙ rw c.in_ok-all.ensures.product (front c.args.self.now c.args.other.now c.indices.result.now c.indices-2.result.now _
    c.requires c.variables.ensures c.indices.ensures c.indices-2.ensures c.in_ok-all.ensures.fits)
