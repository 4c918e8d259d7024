use Rattle.gf_exponents_theory.proofs.LawsHold.{products}
use Rattle.gf_exponents_theory.proofs.products_of_monomials.Goals as goal

pub returns : goal.returns
returns c = products
