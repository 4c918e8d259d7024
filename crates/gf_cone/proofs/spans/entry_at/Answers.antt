use Rattle.std.proofs.Common.{rules, ◌≡◌, ◌-◌, [], length, pos, arith, ap, ◌∙◌, get_or, ℕ}
use Rattle.gf_facets_theory.specs.Systems.{unit}
use Rattle.gf_cone.specs.Cones.{all_rows}
use Rattle.gf_cone.proofs.SpanLaws.{unit_entry_in}
use Rattle.gf_cone.proofs.spans.entry_at.Goals as goal

pub returns : goal.returns
returns c =
    let d = c.args.cone.now in
    let h : c.unit_entry.result ≡ get_or (get_or (all_rows d) c.args.index []) c.args.i (pos 0) =
    c.unit_entry.ensures ∙ ap (λ (n : ℕ). get_or (unit n (c.args.index - length c.kept-kept.result.now)) c.args.i (pos 0)) c.variables.ensures
    ∙ unit_entry_in d c.kept-kept.result.now c.args.index c.args.i c.kept-kept.ensures.value (omega (arith, c.if-index-kept.false)) c.requires.index in
    search (rules, h)
