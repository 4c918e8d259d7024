use Rattle.std.proofs.Common.{ap, sym, subst, ◌∙◌}
use Rattle.std.proofs.lemmas.List.{take-replicate}
use Rattle.gf_exponents_theory.specs.Exponents.{degree}
use Rattle.gf_poly.specs.declared.TheConstants.{ROOM}
use Rattle.gf_poly.specs.Monomial.{IsWordOf}
use Rattle.gf_poly.proofs.MonomialLaws.{degree-ones}
use Rattle.gf_poly.proofs.PlacedLaws.{placed-ones}
use Rattle.gf_poly.proofs.WordLaws.{word-ones}
use Rattle.gf_poly.proofs.monomial.Mono.one.Goals as goal

pub known-requires-clause-placed : goal.known-requires-clause-placed
known-requires-clause-placed c = placed-ones c.args.n c.requires

pub known-requires-clause-total : goal.known-requires-clause-total
known-requires-clause-total c = sym (ap degree (take-replicate c.args.n ROOM 0 c.requires) ∙ degree-ones c.args.n)

pub known-requires-clause-word : goal.known-requires-clause-word
known-requires-clause-word c = subst (λ x. IsWordOf x 0) (sym (take-replicate c.args.n ROOM 0 c.requires)) (word-ones c.args.n)

pub returns : goal.returns
returns c = c.known.ensures ∙ take-replicate c.args.n ROOM 0 c.requires
