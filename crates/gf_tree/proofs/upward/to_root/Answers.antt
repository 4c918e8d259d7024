use Rattle.std.proofs.Common.{IfErr, subst}
use Rattle.std.proofs.lemmas.Result.{err_from_is_err_and}
use Rattle.gf_facets_theory.specs.Regions.{Region}
use Rattle.gf_reverse_theory.specs.Upward.{fan_of}
use Rattle.gf_tree.specs.Refusals.{IsWayRefused}
use Rattle.gf_tree.proofs.RefusalLaws.{no_memory_on_way, way_only, only_memory}
use Rattle.gf_tree.proofs.upward.to_root.Goals as goal

pub returns-in_err-copy-clause-way : goal.returns-in_err-copy-clause-way
returns-in_err-copy-clause-way c =
    let p = err_from_is_err_and c.from_residual.result c.from_residual.ensures.1 in
    rw p.1 (no_memory_on_way c.args.region.now c.args.pairs c.args.set _ p.2)

pub returns-clause-complete : goal.returns-clause-complete
returns-clause-complete c =
    let way = subst (λ (k : Region). IfErr c.ascended.result (IsWayRefused k c.args.pairs c.args.set)) c.in_ok-copy.ensures c.ascended.ensures.way in
    only_memory (fan_of c.args.region.now c.args.set) c.args.pairs c.ascended.result
    (way_only c.args.region.now c.args.pairs c.args.set c.ascended.result c.requires way)
