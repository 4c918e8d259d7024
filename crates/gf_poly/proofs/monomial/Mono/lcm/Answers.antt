use Rattle.std.proofs.Common.{ℕ, ◌≡◌, length, take, subst, sym, ◌∙◌}
use Rattle.gf_exponents_theory.specs.Exponents.{Exponents, join}
use Rattle.gf_poly.specs.Monomial.{IsWordOf, IsPlaced}
use Rattle.gf_poly.proofs.MonomialLaws.{length-join}
use Rattle.gf_poly.proofs.PlacedLaws.{placed-front, placed_by_front, placed-limit, placed-join}
use Rattle.gf_poly.proofs.WordLaws.{word-join}
use Rattle.gf_poly.proofs.monomial.Mono.lcm.Goals as goal

-- the first indices of the greater ones
front : (x y indices others : Exponents) (n : ℕ) → length x ≡ length y → n ≡ length x → IsPlaced x indices → IsPlaced y others →
    take n (join indices others) ≡ join x y
front x y indices others n e m h k = placed-front (join x y) (join indices others) n (m ∙ sym (length-join x y e)) (placed-join x y indices others e h k)

pub total_of-total-requires-clause-limit : goal.total_of-total-requires-clause-limit
total_of-total-requires-clause-limit c = rw (
  c.maxima-all.ensures,
  front c.args.self.now c.args.other.now c.indices.result.now c.indices-2.result.now _ c.requires
      c.variables-n.ensures c.indices.ensures c.indices-2.ensures,
) (placed-limit (join c.args.self.now c.args.other.now)
    (join c.indices.result.now c.indices-2.result.now) (placed-join c.args.self.now c.args.other.now c.indices.result.now c.indices-2.result.now c.requires
    c.indices.ensures c.indices-2.ensures))

pub known-requires-clause-placed : goal.known-requires-clause-placed
known-requires-clause-placed c = rw c.maxima-all.ensures (placed_by_front (join c.args.self.now c.args.other.now)
    (join c.indices.result.now c.indices-2.result.now) _ (c.variables-n.ensures ∙ sym (length-join c.args.self.now c.args.other.now c.requires))
    (placed-join c.args.self.now c.args.other.now c.indices.result.now c.indices-2.result.now c.requires c.indices.ensures c.indices-2.ensures))

pub known-requires-clause-word : goal.known-requires-clause-word
known-requires-clause-word c = rw (
  c.maxima-all.ensures,
  front c.args.self.now c.args.other.now c.indices.result.now c.indices-2.result.now _ c.requires
      c.variables-n.ensures c.indices.ensures c.indices-2.ensures,
) (word-join c.args.self.now c.args.other.now c.self.inside.word c.other.inside.word
    (subst (λ x. IsWordOf x c.self.inside.word) c.self.view_is c.self.invariant.occurring)
    (subst (λ x. IsWordOf x c.other.inside.word) c.other.view_is c.other.invariant.occurring))

pub returns : goal.returns
returns c = c.known.ensures ∙ rw c.maxima-all.ensures (front c.args.self.now c.args.other.now c.indices.result.now c.indices-2.result.now _ c.requires
    c.variables-n.ensures c.indices.ensures c.indices-2.ensures)
