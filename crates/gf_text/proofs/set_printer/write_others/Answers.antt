use Rattle.std.proofs.Common.{◌∙◌, ap, length}
use Rattle.std.proofs.lemmas.Result.{err_from_is_err_and}
use Rattle.gf_poly.specs.declared.Term.{Term}
use Rattle.gf_text.specs.PrintedSets.{other_text}
use Rattle.gf_text.proofs.CombiningLaws.{variables_at_place}
use Rattle.gf_text.proofs.ToldLaws.{told_failed, wrote_then_part}
use Rattle.gf_text.proofs.PrintedTextLaws.{parts_split}
use Rattle.gf_text.proofs.set_printer.write_others.Goals as goal

pub write_other-requires : goal.write_other-requires
write_other-requires g c =
    ap (λ (t : Term). length t.mono) c.term-item.is
    ∙ variables_at_place (length c.args.ring.now) c.args.terms.now c.loop-term.term-index c.term-item.result c.requires c.loop-term-test.true

pub returns-in_err-write_other : goal.returns-in_err-write_other
returns-in_err-write_other g c =
    let p = err_from_is_err_and c.from_residual.result c.from_residual.ensures.1 in
    told_failed c.from_residual.result p.0 _ _ _ _ _ _ _ p.1 (parts_split (other_text c.args.ring.now c.args.head.now) c.args.terms.now c.loop-term.term-index
    c.term-item.result c.loop-term-test.true c.term-item.is)
    (wrote_then_part _ _ _ _ _ _ _ _ c.loop-term.invariant c.in_err-write_other.ensures)
