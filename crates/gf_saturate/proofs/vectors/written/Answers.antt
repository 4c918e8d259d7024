use Rattle.std.proofs.Common.{ap, ◌∙◌}
use Rattle.gf_frac.specs.Fraction.{neg_ℚ}
use Rattle.gf_saturate.proofs.ProposalLaws.{one_written}
use Rattle.gf_saturate.proofs.vectors.written.Goals as goal

pub returns : goal.returns
returns c =
    one_written c.args.v.now _ _ _ c.term.result c.term-2.result c.in_ok-f.f c.in_ok-terms.ensures.items c.in_ok-push.ensures.items
    c.in_ok-push-2.ensures.items (c.term.ensures.coef ∙ c.constants-one.ensures.one) c.term.ensures.mono
    (c.term-2.ensures.coef ∙ c.neg.ensures ∙ ap neg_ℚ c.constants-one.ensures.one) c.term-2.ensures.mono c.in_ok-f.ensures.value c.in_ok-f.ensures.variables
