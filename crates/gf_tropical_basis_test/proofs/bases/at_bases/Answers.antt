use Rattle.std.proofs.Common.{refl, subst}
use Rattle.std.proofs.lemmas.Result.{err_from_is_err_and, IfErr-weaker}
use Rattle.gf_facets_theory.specs.Regions.{Region}
use Rattle.gf_reverse_theory.specs.Upward.{fan_of}
use Rattle.gf_tree.specs.Refusals.{IsTreeRefusal}
use Rattle.gf_tropical_basis_test.specs.Refusals.{AreBasesRefused}
use Rattle.gf_tropical_basis_test.proofs.WalkLaws.{way_refused_by}
use Rattle.gf_tropical_basis_test.proofs.bases.at_bases.Goals as goal

pub returns-in_err-root-clause-err : goal.returns-in_err-root-clause-err
returns-in_err-root-clause-err c =
    let p = err_from_is_err_and c.from_residual.result c.from_residual.ensures.1 in
    rw (p.1, p.2) (λ fs node. AreBasesRefused.at_search _ (way_refused_by fs c.args.start c.args.pairs _ node
    (subst (λ (k : Region). IsTreeRefusal (fan_of k c.args.start) c.args.pairs c.in_err-root.field-0.0) c.requires.region c.in_err-root.ensures.cause))
    refl)

pub returns-clause-err : goal.returns-clause-err
returns-clause-err c = IfErr-weaker c.from_root.result _ _ (λ e f fs node. f fs c.args.start
    (record { region_is = c.requires.region; node = node; top = c.in_ok-root.ensures.value })) c.from_root.ensures.err
