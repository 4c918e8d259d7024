use Rattle.std.proofs.Common.{[]}
use Rattle.gf_strands.specs.Strands.{IsWorkOn, KeepsFurther, strand_terms, strand_members}
use Rattle.gf_strands.specs.Monomials.{with_monomials}
use Rattle.gf_strands.proofs.forms.remainder.Given as goal

abbrev pub invariant-steps : goal.invariant-steps
invariant-steps l = record {
  worked : IsWorkOn l.ground.normal.now l.base (with_monomials l.ground.marks.now (strand_members l.ground.normal.now l.strands))
      (strand_terms l.ground.normal.now l.base l.fn.points.items) l.work.items l.kept.items;
  further : KeepsFurther l.fn.points.items [] l.work.items l.kept.items;
}
