use Rattle.std.proofs.Common.{◌≡◌, ℕ, List, length, ◌-◌, subst, take, drop, arith, ap, sym, ◌∙◌}
use Rattle.std.proofs.lemmas.Grind.{common_steps}
use Rattle.gf_outside.specs.Memory.{bytes_at}
use Rattle.gf_outside.proofs.MovedLaws.{taken_front}
use Rattle.gf_outside.proofs.named.Named.read.Goals as goal

pub returns-clause-left : goal.returns-clause-left
returns-clause-left c =
    let s = c.self.inside in
    let bytes : List ℕ = bytes_at s.files.items s.chosen in
    let count : ℕ = c.copy_front-count.result in
    let chosen : c.deref.result.now ≡ bytes = c.deref.ensures.value ∙ ap (λ f. f.bytes) c.behind-self.view_is ∙ grind (
      arith,
      common_steps,
      c.in-Some.is,
      c.index.ensures,
    ) in
    ap (λ v. v.left) (sym c.self.view_is) ∙ taken_front bytes c.copy_front-count.new.into s.at count
    (subst (λ b. take count c.copy_front-count.new.into ≡ take count (take (length b - s.at) (drop s.at b))) chosen c.copy_front-count.ensures.copied)
