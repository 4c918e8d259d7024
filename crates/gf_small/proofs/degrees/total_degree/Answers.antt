use Rattle.std.proofs.Common.{length, ap, sym, ◌∙◌}
use Rattle.gf_exponents_theory.specs.Exponents.{degree}
use Rattle.gf_poly.specs.declared.Term.{Term}
use Rattle.gf_poly.proofs.CollectLaws.{nonempty_by_test}
use Rattle.gf_small.proofs.HomogenizationLaws.{degree_first}
use Rattle.gf_small.proofs.degrees.total_degree.Goals as goal

pub returns : goal.returns
returns c = c.degree.ensures ∙ ap (λ (z : Term). degree z.mono) (sym c.index-terms-0.is) ∙ degree_first c.args.terms.now c.index-terms-0.result c.requires
    (nonempty_by_test (length c.args.terms.now) c.if-is_empty.ensures) c.index-terms-0.is
