use Rattle.std.proofs.Common.{ℕ, List, [], ◌∷◌, ◌++◌, ap, ◌∙◌, not, map, Vec, Global, if◌then◌else◌}
use Rattle.gf_text.specs.RingText.{has}
use Rattle.gf_text.proofs.NamesLaws.{new_key, with_key}
use Rattle.gf_text.proofs.names.DifferentNames.insert.Goals as goal

abbrev bytes : Vec ℕ Global → List ℕ
bytes v = v.items

pub returns-clause-new : goal.returns-clause-new
returns-clause-new c =
    let name = c.args.name.now in
    c.in_ok-insert.ensures.added
    ∙ new_key bytes c.in_ok-name.name c.self.inside.items.keys name c.in_ok-name.ensures.items
    ∙ ap (λ (ns : List (List ℕ)). not (has ns name)) c.self.view_is

pub returns-clause-names : goal.returns-clause-names
returns-clause-names c =
    let name = c.args.name.now in
    ap (λ ks. map bytes ks) c.in_ok-insert.ensures.keys
    ∙ with_key bytes c.in_ok-name.name c.self.inside.items.keys name c.in_ok-name.ensures.items
    ∙ ap (λ (ns : List (List ℕ)). if has ns name then ns else ns ++ name ∷ []) c.self.view_is
