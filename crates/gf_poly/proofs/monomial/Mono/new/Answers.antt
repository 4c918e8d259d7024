use Rattle.std.proofs.Common.{refl, sym, subst, ap, ◌∙◌}
use Rattle.gf_exponents_theory.specs.Exponents.{degree}
use Rattle.gf_poly.specs.Monomial.{IsWordOf}
use Rattle.gf_poly.proofs.PlacedLaws.{placed-front, placed_by_front}
use Rattle.gf_poly.proofs.monomial.Mono.new.Goals as goal

pub known-requires-clause-placed : goal.known-requires-clause-placed
known-requires-clause-placed c = placed_by_front c.args.exponents.now c.padded.result _ refl c.padded.ensures

pub known-requires-clause-total : goal.known-requires-clause-total
known-requires-clause-total c = c.total_of.ensures ∙ ap degree (sym (placed-front c.args.exponents.now c.padded.result _ refl c.padded.ensures))

pub known-requires-clause-word : goal.known-requires-clause-word
known-requires-clause-word c = subst (λ x. IsWordOf x c.word_of.result) (sym (placed-front c.args.exponents.now c.padded.result _ refl c.padded.ensures))
    c.word_of.ensures

pub returns : goal.returns
returns c = c.known.ensures ∙ placed-front c.args.exponents.now c.padded.result _ refl c.padded.ensures
