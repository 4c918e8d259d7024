use Rattle.std.proofs.Common.{Option, length, sym, subst, inl, inr}
use Rattle.std.proofs.lemmas.Result.{err_from_is_err_and}
use Rattle.std.specs.Prelude.{is_some}
use Rattle.gf_items.specs.declared.sources.RingAndMarked.{RingAndMarked}
use Rattle.gfan_lists.specs.After.{IsRegionCut}
use Rattle.gfan_lists.specs.ListCommand.{AreSameNames, IsUnbegun}
use Rattle.gfan_lists.specs.Asked.{behind_by}
use Rattle.gfan_lists.proofs.list.region_of.Goals as goal
use Rattle.gfan_lists.proofs.list.region_of.Goals.{in-Some+in_ok-check_ring, in_default}

pub returns-in_err-check_ring-clause-err : goal.returns-in_err-check_ring-clause-err
returns-in_err-check_ring-clause-err c =
    let p = err_from_is_err_and c.from_residual-in_err-check_ring.result c.from_residual-in_err-check_ring.ensures.1 in
    let k = c.in_ok-region.region in
    let i = subst (λ n. IsRegionCut c.args.in_region n c.args.rows.now k) c.len.ensures.value c.in_ok-region.ensures.ok in
    rw (p.1, p.2) (subst (λ (f : Option RingAndMarked). IsUnbegun c.args.in_region (is_some f) (length c.args.ring.now) c.args.rows.now (behind_by f)
    c.args.ring.now c.in_err-check_ring.field-0.0) (sym c.in-Some.is) (inr (inl (k, i, c.in_err-check_ring.ensures.err))))

pub returns-clause-names : goal.returns-clause-names
returns-clause-names c = elim c.match-found.branch [
  | in-Some+in_ok-check_ring w ↦
      subst (λ (f : Option RingAndMarked). AreSameNames (is_some f) (behind_by f) c.args.ring.now) (sym w.in-Some.is) w.in_ok-check_ring.ensures.ok
  | in_default w ↦ subst (λ (f : Option RingAndMarked). AreSameNames (is_some f) (behind_by f) c.args.ring.now) (sym w.in_default.is) tt
]
