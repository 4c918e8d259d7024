use Rattle.std.proofs.Common.{◌∙◌}
use Rattle.gf_whole_division.proofs.CombinationLaws.{joined_step}
use Rattle.gf_whole_division.proofs.combinations.Halves.joined.Goals as goal

pub terms-preserved : goal.terms-preserved
terms-preserved c = λ e.
    joined_step c.terms.above.items c.pop.new.self.items c.terms.below.items c.push.new.self.items c.in-Some.t c.in-Some.ensures.items
    c.in_ok-push.ensures.items e
    ∙ c.terms.invariant e
