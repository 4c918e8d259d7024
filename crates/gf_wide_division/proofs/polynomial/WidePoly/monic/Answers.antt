use Rattle.std.proofs.Common.{arith, ap, ◌∙◌, length}
use Rattle.gf_wide_division.proofs.ValueLaws.{inside_there}
use Rattle.gf_wide_division.proofs.MonicLaws.{nonzero_there, quotients_descend, quotients_inside, monic_of_quotients}
use Rattle.gf_wide_division.proofs.polynomial.WidePoly.monic.Goals as goal

pub bounds-terms-index : goal.bounds-terms-index
bounds-terms-index c = inside_there c.terms-terms.result.now c.args.self.now c.args.index c.terms-terms.ensures.value c.requires

pub quotients-requires : goal.quotients-requires
quotients-requires c = nonzero_there c.terms-terms.result.now c.args.self.now c.args.index c.index-terms-index.result c.terms-terms.ensures.value c.requires
    c.index-terms-index.is c.terms-terms.ensures.descending

pub from_descending-poly-requires : goal.from_descending-poly-requires
from_descending-poly-requires c = quotients_descend c.terms-terms.result.now c.args.self.now c.in_ok-quotients.quotients.items c.args.index
    c.index-terms-index.result c.terms-terms.ensures.value c.requires c.index-terms-index.is c.terms-terms.ensures.descending c.in_ok-quotients.ensures

pub mark-requires : goal.mark-requires
mark-requires c = omega (
  arith,
  quotients_inside _ c.terms-terms.result.now c.args.self.now c.in_ok-quotients.quotients.items c.args.index
      c.terms-terms.ensures.value c.requires c.in_ok-quotients.ensures,
  ap length c.from_descending-poly.ensures,
)

pub returns-clause-monic : goal.returns-clause-monic
returns-clause-monic c = monic_of_quotients c.terms-terms.result.now c.args.self.now c.from_descending-poly.result c.args.index c.index-terms-index.result
    c.mark.result c.terms-terms.ensures.value c.requires c.index-terms-index.is c.terms-terms.ensures.descending
    (c.from_descending-poly.ensures ∙ c.in_ok-quotients.ensures) c.mark.ensures
