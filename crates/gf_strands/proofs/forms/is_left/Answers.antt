use Rattle.std.proofs.Common.{sym, subst}
use Rattle.gf_exponents_theory.specs.Exponents.{Divides}
use Rattle.gf_strands.specs.declared.strands.Strand.{Strand}
use Rattle.gf_strands.proofs.StrandMarks.{strand_divided}
use Rattle.gf_strands.proofs.forms.is_left.Goals as goal

pub returns-then-divides-clause-divided : goal.returns-then-divides-clause-divided
returns-then-divides-clause-divided c = λ _. strand_divided c.args.strands.now c.args.from c.strands.j c.args.x.now c.index-strands-j.result
    c.strands.invariant.within
    c.strands-test.true c.index-strands-j.is
    (subst (λ (z : Strand). Divides z.mark c.args.x.now) (sym c.index-strands-j.is) (c.divides.ensures.0 c.if-divides.true))
