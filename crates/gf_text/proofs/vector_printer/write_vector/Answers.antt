use Rattle.std.proofs.Common.{◌∷◌, [], ◌∙◌, ap, refl, append-nil}
use Rattle.std.proofs.lemmas.Result.{err_from_is_err_and}
use Rattle.gf_text.specs.VectorText.{vector_text}
use Rattle.gf_text.proofs.ToldLaws.{told_then, told_failed, wrote_then_part, part_more}
use Rattle.gf_text.proofs.vector_printer.write_vector.Goals as goal

pub returns-in_err-write_entries : goal.returns-in_err-write_entries
returns-in_err-write_entries g c =
    let p = err_from_is_err_and c.from_residual-in_err-write_entries.result c.from_residual-in_err-write_entries.ensures.1 in
    let rest = part_more _ _ _ _ _ (41 ∷ []) c.in_err-write_entries.ensures in
    told_failed c.from_residual-in_err-write_entries.result p.0 _ _ _ _ (vector_text c.as_slice.result.now) [] _ p.1
    (append-nil (vector_text c.as_slice.result.now) ∙ ap vector_text c.as_slice.ensures.value)
    (wrote_then_part _ _ _ _ _ _ _ _ c.in_ok-write_text.ensures rest)

pub returns : goal.returns
returns g c =
    let last = told_then c.write_text-2.result _ _ _ _ _ _ _ _ _ refl c.in_ok-write_entries.ensures c.write_text-2.ensures in
    told_then c.write_text-2.result _ _ _ _ _ _ _ _ _ (ap vector_text c.as_slice.ensures.value) c.in_ok-write_text.ensures last
