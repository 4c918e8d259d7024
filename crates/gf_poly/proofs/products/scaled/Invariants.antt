use Rattle.std.proofs.Common.{length, ◌-◌, drop, []}
use Rattle.gf_poly.specs.declared.Term.{Term}
use Rattle.gf_poly.specs.Products.{ScaleFits, factor}
use Rattle.gf_poly.proofs.ProductLaws.{Multiplying}
use Rattle.gf_poly.proofs.products.scaled.Given as goal

abbrev pub invariant-terms : goal.invariant-terms
invariant-terms l = Multiplying (λ (t : Term). ScaleFits l.kind l.by t.coef) (factor l.kind l.by) [] l.terms l.out.items (drop l.i l.terms)

abbrev pub decreases-terms : goal.decreases-terms
decreases-terms l = length l.terms - l.i
