use Rattle.std.proofs.Common.{◌≡◌, ◌∙◌, ◌++◌, ◌∷◌, [], List, ℤ, ℕ, length, sym, ap, subst}
use Rattle.std.proofs.lemmas.List.Elements.{All-push}
use Rattle.gf_gordan.specs.Alternative.{AreRows}
use Rattle.gf_rays.proofs.project.zero_rows.Goals as goal
use Rattle.gf_rays.proofs.project.zero_rows.Goals.{then-has+in_ok-copy+in_ok-push, else-has}

pub loop-k-preserved : goal.loop-k-preserved
loop-k-preserved c =
    let h : List ℤ = c.index-inequalities-k.result in
    let lh : length h ≡ c.args.n = ap (λ (t : List ℤ). length t) c.index-inequalities-k.is ∙ c.requires.inequalities c.loop-k.k h c.loop-k-test.true in
    elim c.if-has.branch [
      | then-has+in_ok-copy+in_ok-push w ↦
          rw w.out-is (subst (AreRows c.args.n)
          (sym (w.in_ok-push.ensures.items ∙ ap (λ (v : List ℤ). c.loop-k.out.items ++ v ∷ []) w.in_ok-copy.ensures))
          (All-push (λ (t : List ℤ). length t ≡ c.args.n) c.loop-k.out.items h c.loop-k.invariant lh))
      | else-has w ↦ rw w.out-is c.loop-k.invariant
    ]
