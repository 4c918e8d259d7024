use Rattle.std.proofs.Common.{List, subst}
use Rattle.std.proofs.lemmas.List.{take_all}
use Rattle.std.specs.Prelude.{Contains, None}
use Rattle.gf_exponents_theory.specs.Exponents.{Exponents}
use Rattle.gf_ideal_theory.specs.Reduction.{IsDivisible}
use Rattle.gf_division.specs.Reducers.{AreIrreducible}
use Rattle.gf_division.proofs.RuleLaws.{irreducible_whole}
use Rattle.gf_whole_division.specs.declared.terms.WholeTerm.{WholeTerm}
use Rattle.gf_whole_division.specs.Values.{whole_terms}
use Rattle.gf_whole_division.proofs.ValueLaws.{irreducible_more}
use Rattle.gf_whole_division.proofs.remainders.is_irreducible.Goals as goal

pub terms-preserved : goal.terms-preserved
terms-preserved c =
    irreducible_more c.args.by.now c.args.terms.now c.terms.i c.index-terms-i.result c.terms-test.true c.index-terms-i.is
    (subst (λ (x : Exponents). IsDivisible (Contains c.args.by.now) x → ⊥) c.mono.ensures (c.is_divisible.ensures c.if-is_divisible.false))
    c.terms.invariant

pub returns : goal.returns
returns c = λ _.
    irreducible_whole c.args.by.now (whole_terms c.args.terms.now)
    (subst (λ (z : List WholeTerm). AreIrreducible c.args.by.now None (whole_terms z)) (take_all c.terms.i c.args.terms.now c.terms-test.false)
    c.terms.invariant)
