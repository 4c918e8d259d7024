use Rattle.std.proofs.Common.{rules, sym, ◌∙◌}
use Rattle.gf_saturate.specs.Proposals.{IsVectorOf}
use Rattle.gf_saturate.proofs.ChoiceLaws.{two_of}
use Rattle.gf_saturate.proofs.ProposalLaws.{as_difference, as_turned}
use Rattle.gf_saturate.proofs.vectors.vector_of.Goals as goal

pub returns-then-is_difference : goal.returns-then-is_difference
returns-then-is_difference c =
    IsVectorOf.same
    (as_difference c.args.f.now c.index-terms-0.result c.index-terms-1.result _ _
    (sym c.terms-terms.ensures.value
    ∙ two_of c.terms-terms.result.now c.index-terms-0.result c.index-terms-1.result c.if-terms-ne2.false c.index-terms-0.is c.index-terms-1.is)
    (c.is_difference.ensures (search rules)) c.copy.ensures c.copy-then-is_difference.ensures)

pub returns-then-is_difference-2 : goal.returns-then-is_difference-2
returns-then-is_difference-2 c =
    IsVectorOf.turned
    (as_turned c.args.f.now c.index-terms-0.result c.index-terms-1.result _ _
    (sym c.terms-terms.ensures.value
    ∙ two_of c.terms-terms.result.now c.index-terms-0.result c.index-terms-1.result c.if-terms-ne2.false c.index-terms-0.is c.index-terms-1.is)
    (c.is_difference-2.ensures (search rules)) c.copy-then-is_difference-2.ensures c.copy-then-is_difference-2-2.ensures)
