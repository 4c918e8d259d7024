use Rattle.std.proofs.Common.{sym, ◌∙◌, inl}
use Rattle.gf_exponents_theory.proofs.ExponentsLaws.{same_of}
use Rattle.gf_poly.proofs.DescendingLaws.{equal_same}
use Rattle.gf_tests.proofs.divisions.is_within.Goals as goal

pub returns-in-Equal : goal.returns-in-Equal
returns-in-Equal c = λ _. inl (same_of c.args.mono.now c.args.head.now (equal_same c.args.mono.now c.args.head.now (sym c.compare.ensures ∙ c.in-Equal.is)))
