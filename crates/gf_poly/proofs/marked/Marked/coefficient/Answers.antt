use Rattle.gf_poly.proofs.MarkingLaws.{coefficient_at, coefficient_nonzero}
use Rattle.gf_poly.proofs.marked.Marked.coefficient.Goals as goal

pub returns-clause-term : goal.returns-clause-term
returns-clause-term c = coefficient_at _ _ _ _ c.index-terms-self.result c.self.view_is c.terms.ensures.value c.self.invariant c.index-terms-self.is

pub returns-clause-nonzero : goal.returns-clause-nonzero
returns-clause-nonzero c = coefficient_nonzero _ _ _ c.index-terms-self.result c.terms.ensures.value c.self.invariant c.index-terms-self.is
    c.terms.ensures.descending
