use Rattle.std.proofs.Common.{◌∙◌, [], ap}
use Rattle.gf_front.specs.declared.refusal.Refusal.TheVariants as refusals
use Rattle.gf_front.specs.Lines.{message}
use Rattle.gf_text.proofs.ToldLaws.{told_as}
use Rattle.gf_front.proofs.messages.pair_budget.Goals as goal

pub returns : goal.returns
returns g c =
    let b = c.args.basis.now in
    told_as c.write_pieces.result _ _ _ _ _ _
    (ap (λ ms. message [] (refusals.PairBudget (record { variables = b.variables; items = ms }) c.items-2.result.now)) c.items.ensures.value
    ∙ ap (λ us. message [] (refusals.PairBudget b us)) c.items-2.ensures)
    c.write_pieces.ensures
