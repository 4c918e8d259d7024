use Rattle.std.proofs.Common.{sym, subst}
use Rattle.gf_exponents_theory.specs.Exponents.{Divides}
use Rattle.gf_strands.specs.declared.strands.Strand.{Strand}
use Rattle.gf_strands.proofs.FormLaws.{strand_found}
use Rattle.gf_strands.proofs.forms.strand_below.Goals as goal

pub returns-then-divides-clause-found : goal.returns-then-divides-clause-found
returns-then-divides-clause-found c = strand_found c.args.strands.now c.strands.j c.args.x.now c.index-strands-j.result c.strands-test.true c.index-strands-j.is
    (subst (λ (l : Strand). Divides l.mark c.args.x.now) (sym c.index-strands-j.is) (c.divides.ensures.0 c.if-divides.true))
