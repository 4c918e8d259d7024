use Rattle.std.proofs.Common.{◌≡◌, ◌∙◌, ap, refl, arith, to_z, of_z}
use mir.Syntax.{w128}
use Rattle.std.specs.Int.RustNames.{unsigned_abs}
use Rattle.std.proofs.lemmas.Int.{to_z-of_z}
use Rattle.std.proofs.lemmas.Result.{err_from_is_err_and}
use Rattle.gf_text.proofs.PrintedTextLaws.{size_parts}
use Rattle.gf_text.proofs.ToldLaws.{told_then, told_failed}
use Rattle.gf_text.proofs.term_printer.write_size.Goals as goal

pub returns-in_err-write_number : goal.returns-in_err-write_number
returns-in_err-write_number g c =
    let p = err_from_is_err_and c.from_residual.result c.from_residual.ensures.1 in
    let n : to_z w128 (of_z w128 c.numer.result) ≡ c.args.coefficient.now.num = grind (arith, to_z-of_z) in
    told_failed c.from_residual.result p.0 _ _ _ _ _ _ _ p.1 (size_parts c.args.coefficient.now c.unsigned_abs.result c.args.coefficient.now.den
    (c.unsigned_abs.ensures.value ∙ ap unsigned_abs n) refl) c.in_err-write_number.ensures

pub returns : goal.returns
returns g c =
    let n : to_z w128 (of_z w128 c.numer.result) ≡ c.args.coefficient.now.num = grind (arith, to_z-of_z) in
    let d : c.unsigned_abs-2.result ≡ c.args.coefficient.now.den = grind (arith, to_z-of_z) in
    told_then c.write_over.result _ _ _ _ _ _ _ _ _ (size_parts c.args.coefficient.now c.unsigned_abs.result c.unsigned_abs-2.result
    (c.unsigned_abs.ensures.value ∙ ap unsigned_abs n) d) c.in_ok-write_number.ensures c.write_over.ensures
