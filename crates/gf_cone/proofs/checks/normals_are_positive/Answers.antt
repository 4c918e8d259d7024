use Rattle.std.proofs.Common.{pos, ◌<ℤ◌, arith, sym, subst, List, ℤ, []}
use Rattle.std.proofs.lemmas.List.{get_or_default}
use Rattle.gf_vec.specs.Vector.{dot}
use Rattle.gf_cone.specs.Small.{IsSmall}
use Rattle.gf_cone.proofs.checks.normals_are_positive.Goals as goal

pub is_as_asked-requires-clause-small : goal.is_as_asked-requires-clause-small
is_as_asked-requires-clause-small c = subst IsSmall (sym c.index-normals-k.is) (c.requires.small c.loop-k.k c.index-normals-k.result c.loop-k-test.true)

pub returns : goal.returns
returns c = λ t k d l. subst (λ (v : List ℤ). pos 0 <ℤ dot v c.args.w.now) (get_or_default c.args.normals.now k [] d l)
    (c.loop-k.invariant k (omega (arith, l, c.loop-k-test.false)))
