use Rattle.std.proofs.Common.{sym, subst, ap, ◌∙◌}
use Rattle.gf_exponents_theory.specs.Exponents.{degree}
use Rattle.gf_poly.specs.Monomial.{IsWordOf}
use Rattle.gf_poly.proofs.PlacedLaws.{placed-front, placed_by_front}
use Rattle.gf_poly.proofs.monomial.Mono.copy.Goals as goal

pub known-requires-clause-placed : goal.known-requires-clause-placed
known-requires-clause-placed c = rw c.whole.ensures (placed_by_front c.args.self.now c.indices.result.now _ c.variables.ensures c.indices.ensures)

pub known-requires-clause-total : goal.known-requires-clause-total
known-requires-clause-total c = rw c.whole.ensures (c.self.invariant.total_degree ∙ ap degree c.self.view_is ∙ ap degree
    (sym (placed-front c.args.self.now c.indices.result.now _ c.variables.ensures c.indices.ensures)))

pub known-requires-clause-word : goal.known-requires-clause-word
known-requires-clause-word c = rw c.whole.ensures (subst (λ x. IsWordOf x c.self.inside.word)
    (c.self.view_is ∙ sym (placed-front c.args.self.now c.indices.result.now _ c.variables.ensures c.indices.ensures)) c.self.invariant.occurring)

pub returns : goal.returns
returns c = c.known.ensures ∙ rw c.whole.ensures (placed-front c.args.self.now c.indices.result.now _ c.variables.ensures c.indices.ensures)
