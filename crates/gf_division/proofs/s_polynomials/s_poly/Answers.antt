use Rattle.gf_division.proofs.SPolynomialLaws.{pair_along, variables_of_monic}
use Rattle.gf_division.proofs.s_polynomials.s_poly.Goals as goal

pub monic_s_poly-requires-2 : goal.monic_s_poly-requires-2
monic_s_poly-requires-2 c = record {
  variables = pair_along c.args.f.now c.args.g.now c.in_ok-b.b c.in_ok-c.c c.in_ok-b.ensures.variables c.in_ok-c.ensures.variables c.requires.variables;
}

pub returns-clause-variables : goal.returns-clause-variables
returns-clause-variables c = variables_of_monic c.args.f.now c.args.g.now c.in_ok-b.b c.in_ok-c.c c.monic_s_poly-2.result c.in_ok-b.ensures.variables
    c.in_ok-c.ensures.variables c.monic_s_poly-2.ensures.variables
