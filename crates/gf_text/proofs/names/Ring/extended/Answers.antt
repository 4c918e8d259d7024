use Rattle.std.proofs.Common.{◌∙◌, ◌++◌, ◌∷◌, [], ℕ, List, ap, sym, subst}
use Rattle.gf_text.specs.RingText.{IsRing}
use Rattle.gf_text.proofs.NamesLaws.{with_new}
use Rattle.gf_text.proofs.names.Ring.extended.Goals as goal

pub of-requires : goal.of-requires
of-requires c =
    let is =
    c.in_ok-push.ensures.items
    ∙ ap (λ (ns : List (List ℕ)). ns ++ c.in_ok-from_slice.field-0 ∷ []) (c.in_ok-names.ensures ∙ c.names.ensures.value)
    ∙ ap (λ (n : List ℕ). c.args.self.now ++ n ∷ []) c.in_ok-from_slice.ensures in
    subst IsRing (sym is) (with_new c.args.self.now c.args.name.now c.names.ensures.ring c.requires.named c.requires.new c.requires.room)
