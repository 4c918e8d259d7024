use Rattle.std.proofs.lemmas.Result.{IfOk-weaker}
use Rattle.gf_cuts.proofs.OuterLaws.{outer_again}
use Rattle.gf_cuts.proofs.inside.outer.Goals as goal

pub returns-clause-outer : goal.returns-clause-outer
returns-clause-outer c = IfOk-weaker c.outer_once-2.result _ _
    (λ out s. outer_again c.args.n c.args.cones.items c.in_ok-kept.kept.items c.reverse.new.self.items out.items c.reverse.ensures.permutation
    c.in_ok-kept.ensures.outer s) c.outer_once-2.ensures.outer
