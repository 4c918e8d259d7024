use Rattle.std.proofs.Common.{◌≡◌, ◌≤◌, ◌+◌, length, drop, arith, ap, sym, ◌∙◌}
use Rattle.std.proofs.lemmas.Grind.{common_steps}
use Rattle.gf_outside.proofs.MovedLaws.{copied_front, nothing_left}
use Rattle.gf_outside.proofs.memory.MemSourceSource.read.Goals as goal

pub returns-clause-bytes : goal.returns-clause-bytes
returns-clause-bytes c =
    let s = c.self.inside in
    let count = c.min-count.result in
    let left : c.args.self.now.left ≡ drop s.at s.bytes.items = ap (λ v. v.left) (sym c.self.view_is) in
    let fits : s.at + count ≤ length s.bytes.items = grind (arith, common_steps, c.self.invariant) in (
      left ∙ copied_front s.bytes.items c.args.into.now c.copy_from_slice.new.self s.at count (grind (arith, common_steps, c.copy_from_slice.ensures.after))
          fits,
      λ none room. nothing_left s.bytes.items s.at count (length c.args.into.now) s.most c.self.invariant.0
          (grind (arith, common_steps, room)) c.self.invariant.1 (grind (arith, common_steps)) none,
    )
