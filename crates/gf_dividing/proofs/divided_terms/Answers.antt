use Rattle.std.proofs.Common.{◌≤◌, ℕ, sym, ◌∙◌}
use Rattle.gf_exponents_theory.specs.Exponents.{entry}
use Rattle.gf_poly.specs.declared.Term.{Term}
use Rattle.gf_poly.proofs.ProductLaws.{HasVariables-at}
use Rattle.gf_poly.proofs.MonomialLaws.{divides_by_entries}
use Rattle.gf_dividing.proofs.DividingLaws.{each_at}
use Rattle.gf_dividing.proofs.divided_terms.Goals as goal

pub quotient-requires-clause-same_variables : goal.quotient-requires-clause-same_variables
quotient-requires-clause-same_variables c =
    HasVariables-at c.args.n c.args.terms.now c.terms.i c.index-terms-i.result c.terms-test.true c.index-terms-i.is c.requires.variables ∙ sym c.requires.long

pub quotient-requires-clause-divides : goal.quotient-requires-clause-divides
quotient-requires-clause-divides c = divides_by_entries c.args.by.now c.index-terms-i.result.mono
    (each_at (λ (t : Term). (k : ℕ) →
    entry c.args.by.now k ≤ entry t.mono k) c.args.terms.now c.terms.i c.index-terms-i.result c.terms-test.true c.index-terms-i.is c.requires.all)
