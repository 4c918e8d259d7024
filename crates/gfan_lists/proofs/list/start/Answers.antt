use Rattle.std.proofs.Common.{◌≡◌, ◌⊎◌, ◌++◌, [], ◌∷◌, List, Option, IfOk, IfErr, length, refl, sym, ap, ◌∙◌, subst}
use Rattle.std.specs.Prelude.{is_some}
use Rattle.std.proofs.lemmas.Result.{IfOk-weaker}
use Rattle.gf_poly.specs.Marking.{MarkedPolynomials}
use Rattle.gf_front.specs.declared.refusal.Refusal.TheVariants as refusals
use Rattle.gf_items.specs.declared.sources.RingAndMarked.{RingAndMarked}
use Rattle.gfan_lists.specs.BasesWriting.{GoesOnBehind}
use Rattle.gfan_lists.specs.ListCommand.{AreSameNames, IsFront, IsUnstarted}
use Rattle.gfan_lists.specs.Asked.{given_by, names_asked, generators_asked, behind_by, IsFoundInRing, ways_read}
use Rattle.gfan_lists.proofs.list.start.Goals as goal

pub returns-in-Some-clause-ok : goal.returns-in-Some-clause-ok
returns-in-Some-clause-ok g c =
    let n = length (names_asked c.args.asked.now) in
    let fs = generators_asked c.args.asked.now in
    let k = c.args.region.now in
    subst (λ (f : Option RingAndMarked). IfOk c.start_after.result (λ waves. (front : List MarkedPolynomials) × IsFront (is_some f) (behind_by f) k front
    × GoesOnBehind front n k fs c.args.options.pairs waves)) (sym c.in-Some.is)
    (IfOk-weaker c.start_after.result _ _ (λ waves h. (h.1 ++ h.0 ∷ [], (h.0, h.1, h.2, refl), h.3)) c.start_after.ensures.ok)

pub returns-in-Some-clause-err : goal.returns-in-Some-clause-err
returns-in-Some-clause-err g c =
    subst (λ (f : Option RingAndMarked). IfErr c.start_after.result (λ r. IsUnstarted (ways_read c.args.asked.now c.args.in_region f)
    c.args.options.pairs c.args.region.now (given_by c.args.asked.now) (behind_by f) r ⊎ (r ≡ refusals.Memory))) (sym c.in-Some.is) c.start_after.ensures.err

pub start_after-requires-clause-same : goal.start_after-requires-clause-same
start_after-requires-clause-same g c κs within =
    subst IsFoundInRing c.in-Some.is c.requires.found
    ∙ ap length (subst (λ (f : Option RingAndMarked). AreSameNames (is_some f) (behind_by f) (names_asked c.args.asked.now)) c.in-Some.is c.requires.names)
