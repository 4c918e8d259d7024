use Rattle.gf_poly.proofs.MarkingLaws.{head_value, head_marked}
use Rattle.gf_poly.proofs.marked.Marked.head.Goals as goal

pub returns-clause-value : goal.returns-clause-value
returns-clause-value c = head_value _ _ _ _ c.index-terms-self.result c.self.view_is c.terms.ensures.value c.self.invariant c.index-terms-self.is

pub returns-clause-marked : goal.returns-clause-marked
returns-clause-marked c = head_marked _ _ _ _ c.index-terms-self.result c.self.view_is c.terms.ensures.value c.self.invariant c.index-terms-self.is
    c.terms.ensures.descending
