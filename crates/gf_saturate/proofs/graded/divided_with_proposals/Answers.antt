use Rattle.std.proofs.Common.{List, sym, subst}
use Rattle.std.proofs.lemmas.Option.{IfSome_then}
use Rattle.gf_poly.specs.Polynomial.{Terms}
use Rattle.gf_buchberger.specs.Tasks.{HaveRingVariables}
use Rattle.gf_saturate.specs.Graded.{GenerateSaturation}
use Rattle.gf_saturate.proofs.GradedLaws.{order_entries}
use Rattle.gf_saturate.proofs.ProposalLaws.{start_saturation}
use Rattle.gf_saturate.proofs.graded.divided_with_proposals.Goals as goal

pub with_proposals-requires-clause-entries : goal.with_proposals-requires-clause-entries
with_proposals-requires-clause-entries c = order_entries c.args.n c.in-Some-lowered_order.order c.in-Some-lowered_order.ensures

pub chosen-second-requires-clause-variables : goal.chosen-second-requires-clause-variables
chosen-second-requires-clause-variables c =
    subst (HaveRingVariables c.args.n) (sym c.as_slice-list.ensures.value) c.in-Some-with_proposals.ensures.ring

pub divided_by-requires-clause-variables : goal.divided_by-requires-clause-variables
divided_by-requires-clause-variables c =
    subst (HaveRingVariables c.args.n) (sym c.as_slice-list.ensures.value) c.in-Some-with_proposals.ensures.ring

pub returns : goal.returns
returns c =
    IfSome_then c.divided_by.result c.divided_by.ensures
    (λ all g. start_saturation c.args.n c.args.set.now c.in-Some-with_proposals.start.items all.items c.requires.variables c.in-Some-with_proposals.ensures
    (subst (λ (hs : List Terms). GenerateSaturation c.args.n hs all.items) c.as_slice-list.ensures.value g))
