use Rattle.std.proofs.Common.{length, ◌-◌, drop}
use Rattle.gf_poly.specs.Products.{TermFits}
use Rattle.gf_poly.proofs.ProductLaws.{Multiplying}
use Rattle.gf_poly.proofs.products.multiplied.Given as goal

abbrev pub invariant-terms : goal.invariant-terms
invariant-terms l = Multiplying (TermFits l.coef l.mono) l.coef l.mono l.terms l.out.items (drop l.i l.terms)

abbrev pub decreases-terms : goal.decreases-terms
decreases-terms l = length l.terms - l.i
