use Rattle.gf_int_theory.specs.Gcd.{lowest-quotients, lowest-numerator, lowest-denominator}
use Rattle.gf_int_theory.proofs.laws.lowest_terms.Goals as goal

pub returns-clause-exist : goal.returns-clause-exist
returns-clause-exist c = lowest-quotients

pub returns-clause-unique : goal.returns-clause-unique
returns-clause-unique c = λ p q r s h k e. (lowest-numerator p q r s h k e, lowest-denominator p q r s h k e)
