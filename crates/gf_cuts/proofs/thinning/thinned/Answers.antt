use Rattle.std.proofs.Common.{◌<◌, length, All, sym, subst}
use Rattle.std.proofs.lemmas.Result.{IfOk-weaker}
use Rattle.gf_cuts.specs.Heights.{IsThinned}
use Rattle.gf_cuts.proofs.BelowLaws.{thin_again, thin_inside, turned_inside}
use Rattle.gf_cuts.proofs.thinning.thinned.Goals as goal

pub thinned_once-requires-2 : goal.thinned_once-requires-2
thinned_once-requires-2 c =
    let n = length c.args.rows.now in
    subst (All (λ x. x < n)) (sym c.deref.ensures.value) (turned_inside n c.in_ok-kept.kept.items c.reverse.new.self.items c.reverse.ensures.permutation
    (thin_inside c.args.rows.now c.args.indices.now c.in_ok-kept.kept.items n c.requires c.in_ok-kept.ensures))

pub returns : goal.returns
returns c = IfOk-weaker c.thinned_once-2.result _ _
    (λ out s. thin_again c.args.rows.now c.args.indices.now c.in_ok-kept.kept.items c.reverse.new.self.items out.items c.reverse.ensures.permutation
    c.in_ok-kept.ensures (subst (λ z. IsThinned c.args.rows.now z out.items) c.deref.ensures.value s)) c.thinned_once-2.ensures
