use Rattle.std.proofs.Common.{rules, ◌≡◌, pos, get_or, FitsSigned, unsigned_abs, arith, subst, ap, ◌∙◌}
use Rattle.std.specs.Int.{w128, IsGcd}
use Rattle.std.proofs.lemmas.Int.{to_z-of_z}
use Rattle.gf_int_theory.specs.Range.{InRange}
use Rattle.gf_int_theory.proofs.ContentLaws.{IsGcdOfAll_more}
use Rattle.gf_gcd.proofs.entries.gcd_of_all.Goals as goal

pub entries-preserved : goal.entries-preserved
entries-preserved c =
    let fx : FitsSigned w128 (get_or c.args.xs.now c.entries.x-index (pos 0)) = search rules in
    let range : InRange (get_or c.args.xs.now c.entries.x-index (pos 0)) = c.requires.range _ _ c.entries-test.true in
    let size : c.unsigned_abs.result ≡ unsigned_abs (get_or c.args.xs.now c.entries.x-index (pos 0)) =
    c.unsigned_abs.ensures.value ∙ ap unsigned_abs (to_z-of_z w128 _ fx) in (
      IsGcdOfAll_more c.args.xs.now c.entries.x-index c.entries.found c.gcd-found.result c.entries-test.true c.entries.invariant.0
          (subst (λ n. IsGcd c.entries.found n c.gcd-found.result) size c.gcd-found.ensures.meaning),
      omega (arith, c.entries.invariant.1, c.gcd-found.ensures.bound, range.within),
    )
