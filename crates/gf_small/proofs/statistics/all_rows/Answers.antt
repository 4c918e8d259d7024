use Rattle.std.proofs.Common.{◌++◌, ◌∙◌, ap}
use Rattle.gf_poly.specs.Marking.{MarkedPolynomials}
use Rattle.gf_small.proofs.HomogeneitySpaceLaws.{rows-more, rows_wide}
use Rattle.gf_small.proofs.statistics.all_rows.Goals as goal

pub sets-preserved : goal.sets-preserved
sets-preserved c = rows-more c.args.n c.args.sets.now c.sets.rows.items c.append.new.self.items c.sets.i c.index-sets-i.result c.sets-test.true
    c.index-sets-i.is
    (ap (λ (s : MarkedPolynomials). s.variables) c.index-sets-i.is ∙ c.requires c.sets.i c.index-sets-i.result c.sets-test.true)
    c.in_ok-more.ensures.marked c.in_ok-more.ensures.variables
    (c.in_ok-append.ensures.items ∙ ap (λ z. c.sets.rows.items ++ z) c.in_ok-more.ensures.rows) c.sets.invariant

pub returns-clause-width : goal.returns-clause-width
returns-clause-width c = rows_wide c.args.n c.args.sets.now c.sets.rows.items c.sets.i c.sets.invariant
