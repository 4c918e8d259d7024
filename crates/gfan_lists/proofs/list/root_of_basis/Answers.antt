use Rattle.std.proofs.Common.{sym, subst}
use Rattle.std.proofs.lemmas.Result.{IfOk-weaker}
use Rattle.gf_poly.specs.Marking.{polys}
use Rattle.gf_facets_theory.specs.Regions.{Region}
use Rattle.gf_lists_theory.specs.Starts.{StartsIn}
use Rattle.gfan_lists.specs.After.{IsRegionCut}
use Rattle.gf_lists_theory.proofs.BasesListLaws.{start_in}
use Rattle.gfan_lists.proofs.list.root_of_basis.Goals as goal

pub returns-else-in_region-clause-ok : goal.returns-else-in_region-clause-ok
returns-else-in_region-clause-ok c =
    let n = c.args.set.now.variables in
    let all = subst (λ z. IsRegionCut z n c.requires.0 c.args.region.now) c.if-in_region.false c.requires.1 in
    IfOk-weaker c.root_of.result _ _ (λ root h. subst (λ (k : Region). StartsIn n k (polys c.args.set.now.items) root) (sym all)
    (start_in n (polys c.args.set.now.items) root h)) c.root_of.ensures.root
