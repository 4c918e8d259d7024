use Rattle.std.proofs.lemmas.Result.{err_from_is_err_and}
use Rattle.gf_lifts.proofs.CrossingMath.{liftable, ever_lifted, realisable_at}
use Rattle.gf_flip.proofs.RefusalSteps.{lifts_refused}
use Rattle.gf_flip.proofs.FlipSteps.{if_neighbour, if_variables, if_tails_refused}
use Rattle.gf_flip.proofs.flips.crossed.Goals as goal

pub literal_lifts-requires-clause-liftable : goal.literal_lifts-requires-clause-liftable
literal_lifts-requires-clause-liftable c = liftable c.args.set.now.variables c.args.set.now.items c.args.normal.now c.args.below.now c.requires.crossing
    c.requires.parts

pub returns-in_err-lifted-clause-cause : goal.returns-in_err-lifted-clause-cause
returns-in_err-lifted-clause-cause c =
    let p = err_from_is_err_and c.from_residual.result c.from_residual.ensures.1 in
    rw (p.1, p.2) (λ pairs. lifts_refused c.args.set.now.variables c.args.set.now.items c.args.normal.now c.args.below.now pairs _ c.requires.parts
    c.in_err-lifted.ensures.cause)

pub autoreduce-requires : goal.autoreduce-requires
autoreduce-requires c = realisable_at c.args.set.now.variables c.variables.result c.args.set.now.items c.args.normal.now c.args.below.now
    c.in_ok-lifted.lifted.items c.new-all.result c.requires.crossing c.requires.parts
    (ever_lifted c.args.set.now.variables c.args.set.now.items c.args.normal.now c.args.below.now c.in_ok-lifted.lifted.items c.requires.parts
    c.in_ok-lifted.ensures.value) c.variables.ensures c.new-all.ensures

pub returns-clause-value : goal.returns-clause-value
returns-clause-value c = if_neighbour c.args.set.now.variables c.variables.result c.args.set.now.items c.args.normal.now c.args.below.now
    c.in_ok-lifted.lifted.items c.new-all.result c.autoreduce.result c.requires.crossing c.requires.parts
    (ever_lifted c.args.set.now.variables c.args.set.now.items c.args.normal.now c.args.below.now c.in_ok-lifted.lifted.items c.requires.parts
    c.in_ok-lifted.ensures.value) c.variables.ensures c.new-all.ensures c.autoreduce.ensures.value c.autoreduce.ensures.arranged

pub returns-clause-variables : goal.returns-clause-variables
returns-clause-variables c = if_variables c.args.set.now.variables c.variables.result c.in_ok-lifted.lifted.items c.new-all.result c.autoreduce.result
    c.variables.ensures c.new-all.ensures c.autoreduce.ensures.value

pub returns-clause-cause : goal.returns-clause-cause
returns-clause-cause c = if_tails_refused c.args.set.now.variables c.variables.result c.args.set.now.items c.args.normal.now c.args.below.now
    c.in_ok-lifted.lifted.items c.new-all.result c.autoreduce.result c.requires.parts c.in_ok-lifted.ensures.value c.new-all.ensures c.autoreduce.ensures.cause
