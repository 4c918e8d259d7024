use Rattle.std.proofs.Common.{◌≡◌, ◌++◌, length, ap₂, sym, ◌∙◌, subst}
use Rattle.std.proofs.lemmas.List.{take-append-drop}
use Rattle.gf_int_theory.specs.Content.{IsContent}
use Rattle.gf_int_theory.proofs.ContentLaws.{IsContent-one}
use Rattle.gf_vec.proofs.PrimitiveLaws.{primitive_of}
use Rattle.gf_gordan.proofs.feasibility.judged.Goals as goal

pub is_refutation-requires-clause-divided : goal.is_refutation-requires-clause-divided
is_refutation-requires-clause-divided c =
    let k = length c.args.rows.now in
    let p = c.primitive-in-Farkas.ensures in
    let one = IsContent-one _ (primitive_of _ _ p) in
    let e : c.split_at.result.0.now ++ c.split_at.result.1.now ≡ c.as_slice-whole.result.now =
    ap₂ ◌++◌ c.split_at.ensures.front c.split_at.ensures.back ∙ take-append-drop k c.as_slice-whole.result.now in
    subst (λ xs. IsContent xs 1) (sym (e ∙ c.as_slice-whole.ensures.value)) one
