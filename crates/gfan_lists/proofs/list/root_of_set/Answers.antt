use Rattle.std.proofs.Common.{IfOk, length, sym, ◌∙◌, subst}
use Rattle.gf_facets_theory.specs.Regions.{Region}
use Rattle.gfan_common.specs.Forms.{generators_of}
use Rattle.gf_lists_theory.specs.Starts.{IsFirstBasis, StartsIn}
use Rattle.gfan_lists.specs.After.{IsRegionCut}
use Rattle.gfan_lists.proofs.BasesLaws.{generators_in}
use Rattle.gf_lists_theory.proofs.BasesListLaws.{start_in}
use Rattle.gfan_lists.proofs.list.root_of_set.Goals as goal
use Rattle.gfan_lists.proofs.list.root_of_set.Goals.{then-in_region, else-in_region}

pub returns-in-Ok-clause-ok : goal.returns-in-Ok-clause-ok
returns-in-Ok-clause-ok c =
    let n = length c.args.ring.now in
    let fs = generators_of c.args.set.now in
    elim c.if-in_region.branch [
      | then-in_region w ↦ subst (λ o. IfOk o (StartsIn n c.args.region.now fs)) (sym w.root-is ∙ c.in-Ok.is) w.root_of-root.ensures.ok
      | else-in_region w ↦
          let first : IsFirstBasis n fs c.in-Ok.root = subst (λ o. IfOk o (IsFirstBasis n fs)) (sym w.root-is ∙ c.in-Ok.is) w.first_basis-root.ensures.ok in
          let all = subst (λ z. IsRegionCut z n c.requires.region.0 c.args.region.now) w.if-in_region.false c.requires.region.1 in
          subst (λ (k : Region). StartsIn n k fs c.in-Ok.root) (sym all)
          (start_in n fs c.in-Ok.root (record { inside = generators_in n c.args.set.now c.requires.set; first = first }))
    ]
