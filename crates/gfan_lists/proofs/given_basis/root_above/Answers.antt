use Rattle.std.specs.Prelude.{IfOk, IfErr}
use Rattle.std.proofs.Common.{sym, subst}
use Rattle.std.proofs.lemmas.Result.{err_from_is_err_and}
use Rattle.gf_facets_theory.specs.Regions.{Region, all_positive}
use Rattle.gf_reverse_theory.specs.Upward.{IsNode}
use Rattle.gf_cone.proofs.RegionLaws.{positive_is}
use Rattle.gf_tree.specs.Parents.{IsRootFor}
use Rattle.gf_tree.specs.Refusals.{IsWayRefused}
use Rattle.gf_tree.proofs.RefusalLaws.{no_memory_on_way}
use Rattle.gfan_lists.proofs.given_basis.root_above.Goals as goal

pub to_root-requires : goal.to_root-requires
to_root-requires c =
    subst (λ (k : Region). IsNode k c.args.reduced) (sym (positive_is c.args.reduced.variables c.variables.result c.in_ok-region.region c.variables.ensures
    c.in_ok-region.ensures)) c.requires

pub returns-clause-value : goal.returns-clause-value
returns-clause-value c =
    subst (λ (k : Region). IfOk c.to_root.result (IsRootFor k c.args.reduced))
    (positive_is c.args.reduced.variables c.variables.result c.in_ok-region.region c.variables.ensures c.in_ok-region.ensures) c.to_root.ensures.value

pub returns-clause-way : goal.returns-clause-way
returns-clause-way c =
    subst (λ (k : Region). IfErr c.to_root.result (IsWayRefused k c.args.pairs c.args.reduced))
    (positive_is c.args.reduced.variables c.variables.result c.in_ok-region.region c.variables.ensures c.in_ok-region.ensures) c.to_root.ensures.way

pub returns-in_err-region-clause-way : goal.returns-in_err-region-clause-way
returns-in_err-region-clause-way c =
    let p = err_from_is_err_and c.from_residual.result c.from_residual.ensures.1 in
    rw p.1 (no_memory_on_way (all_positive c.args.reduced.variables) c.args.pairs c.args.reduced _ p.2)
