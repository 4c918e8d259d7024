use Rattle.std.proofs.Common.{refl}
use Rattle.std.proofs.lemmas.Bool.{false≢true}
use Rattle.gf_cone.proofs.RowsLaws.{same_row, other_row, small_more}
use Rattle.gf_cone.proofs.marking.with_row.Goals as goal

pub returns-then-is_same-clause-rows : goal.returns-then-is_same-clause-rows
returns-then-is_same-clause-rows c = same_row c.args.x.now c.args.y.now c.args.rows.items (c.if-is_same.ensures.0 refl)

pub returns-clause-rows : goal.returns-clause-rows
returns-clause-rows c = other_row c.args.x.now c.args.y.now c.args.rows.items _ c.in_ok-difference.field-0 c.requires.widths
    (λ e. false≢true (c.if-is_same.ensures.1 e)) c.in_ok-difference.ensures.value c.in_ok-push.ensures.items

pub returns-clause-small : goal.returns-clause-small
returns-clause-small c = small_more c.args.rows.items _ c.in_ok-difference.field-0 c.in_ok-difference.ensures.small c.in_ok-push.ensures.items c.requires.small
