use Rattle.gf_int_theory.specs.Gcd.{coprime-dvd}
use Rattle.gf_int_theory.proofs.laws.euclids_lemma.Goals as goal

pub returns : goal.returns
returns c = coprime-dvd
