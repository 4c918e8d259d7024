use Rattle.std.proofs.Common.{nat_eq, ap, length}
use Rattle.gf_poly.specs.Polynomial.{Terms}
use Rattle.gf_saturate.proofs.monomials.is_of_one_term.Goals as goal

pub returns-clause-told : goal.returns-clause-told
returns-clause-told c = ap (λ (f : Terms). nat_eq (length f) 1) c.terms.ensures.value
