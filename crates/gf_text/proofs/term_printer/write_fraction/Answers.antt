use Rattle.std.proofs.Common.{◌≡◌, refl, arith, to_z, of_z}
use mir.Syntax.{w128}
use Rattle.std.proofs.lemmas.Int.{to_z-of_z}
use Rattle.std.proofs.lemmas.Result.{err_from_is_err_and}
use Rattle.gf_text.proofs.PrintedTextLaws.{fraction_parts}
use Rattle.gf_text.proofs.ToldLaws.{told_then, told_failed}
use Rattle.gf_text.proofs.term_printer.write_fraction.Goals as goal

pub returns-in_err-write_whole : goal.returns-in_err-write_whole
returns-in_err-write_whole g c =
    let p = err_from_is_err_and c.from_residual.result c.from_residual.ensures.1 in
    let n : to_z w128 (of_z w128 c.numer.result) ≡ c.args.fraction.now.num = grind (arith, to_z-of_z) in
    told_failed c.from_residual.result p.0 _ _ _ _ _ _ _ p.1 (fraction_parts c.args.fraction.now _ c.args.fraction.now.den n refl) c.in_err-write_whole.ensures

pub returns : goal.returns
returns g c =
    let n : to_z w128 (of_z w128 c.numer.result) ≡ c.args.fraction.now.num = grind (arith, to_z-of_z) in
    let d : c.unsigned_abs.result ≡ c.args.fraction.now.den = grind (arith, to_z-of_z) in
    told_then c.write_over.result _ _ _ _ _ _ _ _ _ (fraction_parts c.args.fraction.now _ c.unsigned_abs.result n d)
    c.in_ok-write_whole.ensures c.write_over.ensures
