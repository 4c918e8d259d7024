use Rattle.std.proofs.Common.{List, subst}
use Rattle.std.proofs.lemmas.Option.{IfSome_then}
use Rattle.gf_division.specs.Remainders.{IsRemainder}
use Rattle.gf_strands.specs.declared.strands.Strand.{Strand}
use Rattle.gf_strands.specs.Strands.{strand_terms, strand_members}
use Rattle.gf_strands.specs.Monomials.{with_monomials}
use Rattle.gf_strands.proofs.FormLaws.{taken_strand}
use Rattle.gf_strands.proofs.forms.take_in.Goals as goal

pub returns-clause-taken : goal.returns-clause-taken
returns-clause-taken c = IfSome_then c.push_strand.result c.push_strand.ensures
    (λ u e. taken_strand c.args.ground.now.normal.now c.args.base.now c.args.ground.now.marks.now c.args.strands.now.items c.push_strand.new.strands.items
    c.args.points.items c.in_ok-left.left.items c.in_ok-strand.strand c.requires.ground c.requires.base
    (subst (λ (z : List Strand). IsRemainder (with_monomials c.args.ground.now.marks.now (strand_members c.args.ground.now.normal.now z))
    (strand_terms c.args.ground.now.normal.now c.args.base.now c.args.points.items)
    (strand_terms c.args.ground.now.normal.now c.args.base.now c.in_ok-left.left.items)) c.deref.ensures.value c.in_ok-left.ensures.value)
    c.in_ok-strand.ensures.value e)
