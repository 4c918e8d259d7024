use Rattle.std.proofs.Common.{◌∷◌, ◌++◌, [], ◌∙◌, ap, refl, append-nil}
use Rattle.std.proofs.lemmas.Result.{err_from_is_err_and}
use Rattle.gf_text.specs.PrintedSets.{members_text, basis_text}
use Rattle.gf_text.proofs.ToldLaws.{told_then, told_failed, wrote_then_part, part_more}
use Rattle.gf_text.proofs.printer.write_basis.Goals as goal

pub returns-in_err-write_text : goal.returns-in_err-write_text
returns-in_err-write_text g c =
    let p = err_from_is_err_and c.from_residual.result c.from_residual.ensures.1 in
    told_failed c.from_residual.result p.0 _ _ _ _ _ (members_text c.args.ring.now c.args.set.now.items ++ 125 ∷ []) _ p.1 refl c.in_err-write_text.ensures

pub returns-in_err-write_members : goal.returns-in_err-write_members
returns-in_err-write_members g c =
    let p = err_from_is_err_and c.from_residual-in_err-write_members.result c.from_residual-in_err-write_members.ensures.1 in
    let rest = part_more _ _ _ _ _ (125 ∷ []) c.in_err-write_members.ensures in
    told_failed c.from_residual-in_err-write_members.result p.0 _ _ _ _ (basis_text c.args.ring.now c.items.result.now) [] _ p.1
    (append-nil (basis_text c.args.ring.now c.items.result.now) ∙ ap (basis_text c.args.ring.now) c.items.ensures.value)
    (wrote_then_part _ _ _ _ _ _ _ _ c.in_ok-write_text.ensures rest)

pub returns : goal.returns
returns g c =
    let last = told_then c.write_text-2.result _ _ _ _ _ _ _ _ _ refl c.in_ok-write_members.ensures c.write_text-2.ensures in
    told_then c.write_text-2.result _ _ _ _ _ _ _ _ _ (ap (basis_text c.args.ring.now) c.items.ensures.value) c.in_ok-write_text.ensures last
