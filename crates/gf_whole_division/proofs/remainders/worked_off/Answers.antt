use Rattle.std.proofs.Common.{refl}
use Rattle.gf_whole_division.specs.Reductions.{terms_of}
use Rattle.gf_whole_division.proofs.ReductionLaws.{keeps_same, keeps_trans, keeps_divided}
use Rattle.gf_whole_division.proofs.remainders.worked_off.Goals as goal

pub steps-init : goal.steps-init
steps-init c = keeps_same c.args.by.now (terms_of c.args.rest.now) (terms_of c.args.rest.now) (λ e. refl)

pub steps-preserved : goal.steps-preserved
steps-preserved c =
    keeps_trans c.args.by.now (terms_of c.args.rest.now) (terms_of c.steps.rest) (terms_of c.shorten.new.self) c.steps.invariant
    (keeps_trans c.args.by.now (terms_of c.steps.rest) (terms_of c.reduce.new.self) (terms_of c.shorten.new.self) c.in_ok-reduce.ensures
    (keeps_divided c.args.by.now (terms_of c.reduce.new.self) (terms_of c.shorten.new.self) c.in_ok-shorten.ensures))
