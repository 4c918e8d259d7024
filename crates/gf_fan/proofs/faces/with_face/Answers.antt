use Rattle.std.proofs.Common.{◌≡◌, ◌∷◌, ◌∙◌, ap, List, ℕ}
use Rattle.gf_fan.specs.Found.{index_in}
use Rattle.gf_fan.proofs.FoundLaws.{standing_same, standing_more, taken_new}
use Rattle.gf_fan.proofs.faces.with_face.Goals as goal

pub returns-then-is_listed-clause-taken : goal.returns-then-is_listed-clause-taken
returns-then-is_listed-clause-taken c =
    let e : c.in_ok-index.index ≡ index_in c.args.face = c.in_ok-index.ensures ∙ ap (λ (l : List ℕ). c.args.face.dim ∷ l) c.as_slice.ensures in
    standing_same c.args.so_far.found.items c.args.so_far.indices.keys c.args.face c.in_ok-index.index c.requires e (c.is_listed.ensures.0 c.if-is_listed.true)

pub returns-clause-standing : goal.returns-clause-standing
returns-clause-standing c =
    let e : c.in_ok-index.index ≡ index_in c.args.face = c.in_ok-index.ensures ∙ ap (λ (l : List ℕ). c.args.face.dim ∷ l) c.as_slice.ensures in
    standing_more c.args.so_far.found.items _ c.args.so_far.indices.keys _ c.args.face c.in_ok-index.index c.requires e c.in_ok-push.ensures.items
    c.in_ok-insert.ensures.keys

pub returns-clause-taken : goal.returns-clause-taken
returns-clause-taken c = taken_new c.args.so_far.found.items _ c.args.face c.in_ok-push.ensures.items
