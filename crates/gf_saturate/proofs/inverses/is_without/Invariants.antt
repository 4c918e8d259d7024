use Rattle.std.proofs.Common.{◌≡◌, take}
use Rattle.gf_exponents_theory.specs.Exponents.{entry}
use Rattle.gf_poly.specs.declared.Term.{Term}
use Rattle.gf_poly.specs.Marking.{Each}
use Rattle.gf_saturate.proofs.inverses.is_without.Given as goal

abbrev pub invariant-monomials : goal.invariant-monomials
invariant-monomials l = Each (λ (s : Term). entry s.mono l.n ≡ 0) (take l.i l.terms)
