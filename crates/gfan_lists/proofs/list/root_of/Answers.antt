use Rattle.std.proofs.Common.{IfOk, IfErr, List, None, false, length, sym, subst}
use Rattle.gf_poly.specs.Marking.{polys}
use Rattle.gf_text.specs.declared.written.Written.{Written}
use Rattle.gfan_common.specs.Forms.{generators_of}
use Rattle.gfan_common.proofs.PerformedLaws.{on_err}
use Rattle.gf_lists_theory.specs.Starts.{StartsIn}
use Rattle.gfan_lists.specs.After.{IsBasisGiven, IsUnrooted, IsRegionCut}
use Rattle.gfan_lists.specs.declared.list.Asked.{Asked}
use Rattle.gfan_lists.specs.Asked.{is_from_basis, given_by, names_asked, generators_asked, IsAskedInRing}
use Rattle.gfan_lists.proofs.list.root_of.Goals as goal

pub root_of_set-requires-clause-region : goal.root_of_set-requires-clause-region
root_of_set-requires-clause-region c = (
  c.requires.region.0,
  subst (λ (a : Asked). IsRegionCut c.args.in_region (length (names_asked a)) c.requires.region.0 c.args.region.now) c.in-Generators.is c.requires.region.1,
)

pub root_of_basis-requires : goal.root_of_basis-requires
root_of_basis-requires c = (
  c.requires.region.0,
  subst (λ n. IsRegionCut c.args.in_region n c.requires.region.0 c.args.region.now) (sym (subst IsAskedInRing c.in-Basis.is c.requires.inside))
      (subst (λ (a : Asked). IsRegionCut c.args.in_region (length (names_asked a)) c.requires.region.0 c.args.region.now) c.in-Basis.is c.requires.region.1),
)

pub returns-in-Generators-clause-ok : goal.returns-in-Generators-clause-ok
returns-in-Generators-clause-ok c =
    subst (λ (a : Asked). IfOk c.root_of_set.result (StartsIn (length (names_asked a)) c.args.region.now (generators_asked a))) (sym c.in-Generators.is)
    (subst (λ (ws : List Written). IfOk c.root_of_set.result (StartsIn (length c.in-Generators.ring) c.args.region.now (generators_of ws)))
    c.deref.ensures.value c.root_of_set.ensures.ok)

pub returns-in-Generators-clause-err : goal.returns-in-Generators-clause-err
returns-in-Generators-clause-err c =
    subst (λ (a : Asked). IfErr c.root_of_set.result (IsUnrooted (is_from_basis a) c.args.in_region (given_by a) c.args.region.now c.args.pairs))
    (sym c.in-Generators.is)
    (subst (λ (ws : List Written). IfErr c.root_of_set.result (IsUnrooted false c.args.in_region (c.in-Generators.ring, (ws, None)) c.args.region.now
    c.args.pairs))
    c.deref.ensures.value c.root_of_set.ensures.err)

pub returns-in-Basis-clause-basis : goal.returns-in-Basis-clause-basis
returns-in-Basis-clause-basis c =
    subst (λ (a : Asked). IfOk c.root_of_basis.result (λ root. IsBasisGiven (is_from_basis a) (given_by a))) (sym c.in-Basis.is) c.root_of_basis.ensures.basis

pub returns-in-Basis-clause-ok : goal.returns-in-Basis-clause-ok
returns-in-Basis-clause-ok c =
    subst (λ (a : Asked). IfOk c.root_of_basis.result (StartsIn (length (names_asked a)) c.args.region.now (generators_asked a))) (sym c.in-Basis.is)
    (subst (λ n. IfOk c.root_of_basis.result (StartsIn n c.args.region.now (polys c.in-Basis.set.items)))
    (subst IsAskedInRing c.in-Basis.is c.requires.inside) c.root_of_basis.ensures.ok)

pub returns-in-Basis-clause-err : goal.returns-in-Basis-clause-err
returns-in-Basis-clause-err c =
    subst (λ (a : Asked). IfErr c.root_of_basis.result (IsUnrooted (is_from_basis a) c.args.in_region (given_by a) c.args.region.now c.args.pairs))
    (sym c.in-Basis.is)
    (on_err c.root_of_basis.result _ _ (λ r h. h c.in-Basis.ring) c.root_of_basis.ensures.err)
