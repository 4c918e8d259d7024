use Rattle.std.proofs.Common.{◌≡◌, ℕ, ◌+◌, List, [], ◌∷◌, ◌++◌, ap, sym, ◌∙◌, take, map, Vec, Global}
use Rattle.gf_text.proofs.NamesLaws.{one_more}
use Rattle.gf_text.proofs.names.DifferentNames.copied.Goals as goal

abbrev bytes : Vec ℕ Global → List ℕ
bytes v = v.items

pub loop-name-preserved : goal.loop-name-preserved
loop-name-preserved c =
    let i = c.loop-name.name-index in
    let self = c.args.self.now in
    let items = c.as_slice-name-items.result.now in
    let all : map bytes items ≡ self = ap (λ ks. map bytes ks) c.as_slice-name-items.ensures.keys ∙ c.self.view_is in
    c.in_ok-push.ensures.items
    ∙ ap (λ ns. ns ++ c.in_ok-from_slice.field-0 ∷ []) c.loop-name.invariant
    ∙ ap (λ n. take i self ++ n ∷ []) (c.in_ok-from_slice.ensures ∙ c.deref.ensures.value)
    ∙ ap (λ ns. take i ns ++ bytes c.name-item.result ∷ []) (sym all)
    ∙ one_more bytes items i c.name-item.result c.loop-name-test.true c.name-item.is
    ∙ ap (λ ns. take (i + 1) ns) all
