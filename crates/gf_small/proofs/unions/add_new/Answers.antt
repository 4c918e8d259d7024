use Rattle.std.proofs.Common.{◌≡◌, ◌+◌, true, false, List, ap, sym, subst, ◌∙◌}
use Rattle.std.specs.List.{list_any}
use Rattle.std.specs.Ordering.{int_eq}
use Rattle.std.specs.Cmp.Lexicographic.{pointwise}
use Rattle.gf_text.specs.declared.written.Written.{Written}
use Rattle.gf_small.specs.Unions.{IsAmong, IsNew}
use Rattle.gf_small.specs.Keys.{AreKeyed}
use Rattle.gf_small.proofs.WrittenLaws.{in_read}
use Rattle.gf_small.proofs.UnionsLaws.{SeenSoFar, seen-added, seen-dropped}
use Rattle.gf_small.proofs.KeyLaws.{among_in, new_in, keyed-added, keyed-same, was_new, was_there}
use Rattle.gf_small.proofs.unions.add_new.Goals as goal
use Rattle.gf_small.proofs.unions.add_new.Goals.{then-branch+in_ok-copied+in_ok-push, else-branch}

pub polynomials-preserved : goal.polynomials-preserved
polynomials-preserved c =
    let old : List Written = c.args.kept.now.items in
    let set : List Written = c.args.set.now in
    let f : Written = c.index-set-i.result in
    let n = c.requires.variables.0 in
    let kept : List Written = c.polynomials.kept.items in
    let seen : SeenSoFar old set kept c.polynomials.i = c.polynomials.invariant.0 in
    let keyed : AreKeyed kept c.polynomials.keys.keys = c.polynomials.invariant.1 in
    let inside = in_read n set c.polynomials.i f c.requires.variables.1.1 c.polynomials-test.true c.index-set-i.is in
    let all = seen.variables n c.requires.variables.1.0 c.requires.variables.1.1 in
    elim c.if-branch.branch [
      | then-branch+in_ok-copied+in_ok-push w ↦
          let fresh : list_any (pointwise int_eq c.in_ok-key.field-0) c.polynomials.keys.keys ≡ false = was_new _ _ c.in_ok-insert.ensures.added
          w.if-branch.true in
          let new : IsNew f kept = new_in n f kept c.polynomials.keys.keys c.in_ok-key.field-0 inside all keyed c.in_ok-key.ensures.value
          c.in_ok-key.ensures.descending fresh in
          let items = ap (λ v. v.items) w.kept-is ∙ w.in_ok-push.ensures.items in (
            seen-added old set kept c.if-branch.kept.items c.polynomials.i f w.in_ok-copied.field-0 c.polynomials-test.true c.index-set-i.is
                w.in_ok-copied.ensures items new seen,
            keyed-added kept c.if-branch.kept.items c.polynomials.keys.keys c.insert.new.self.keys c.in_ok-key.field-0 f w.in_ok-copied.field-0 keyed
                c.in_ok-key.ensures.value
                c.in_ok-key.ensures.descending w.in_ok-copied.ensures items fresh c.in_ok-insert.ensures.keys,
          )
      | else-branch w ↦
          let there : list_any (pointwise int_eq c.in_ok-key.field-0) c.polynomials.keys.keys ≡ true = was_there _ _ c.in_ok-insert.ensures.added
          w.if-branch.false in
          let among : IsAmong f kept = among_in n f kept c.polynomials.keys.keys c.in_ok-key.field-0 inside all keyed c.in_ok-key.ensures.value there in
          let same = ap (λ v. v.items) w.kept-is in (
            subst (λ (k : List Written). SeenSoFar old set k (c.polynomials.i + 1)) (sym same)
                (seen-dropped old set kept c.polynomials.i f c.polynomials-test.true c.index-set-i.is among seen),
            subst (λ (k : List Written). AreKeyed k c.insert.new.self.keys) (sym same) (keyed-same kept c.polynomials.keys.keys c.insert.new.self.keys
                c.in_ok-key.field-0 keyed there c.in_ok-insert.ensures.keys),
          )
    ]
