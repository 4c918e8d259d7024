use Rattle.std.proofs.Common.{rules, ◌≡◌, List, ℤ, length, ap, sym, ◌∙◌}
use Rattle.std.proofs.lemmas.List.Elements.{recursion_from_All}
use Rattle.gf_vec.specs.Vector.{vector_sum, combined}
use Rattle.gf_vec.proofs.VectorLaws.{length-combined}
use Rattle.gf_gordan.proofs.CheckLaws.{both_sums, zeros-all, all-zeros}
use Rattle.gf_gordan.proofs.check.sums_to_zero.Goals as goal

pub returns-clause-ok : goal.returns-clause-ok
returns-clause-ok c =
    let n = length c.args.sum.now in
    let a = combined n c.args.ms.now c.args.rows.now in
    let la : length a ≡ n =
    length-combined n c.args.ms.now c.args.rows.now (recursion_from_All (λ (t : List ℤ). length t ≡ n) c.args.rows.now c.requires.rows) in
    let l : length c.add_combination-2.new.sum ≡ n = search rules in
    let first : c.add_combination.new.sum ≡ vector_sum c.args.sum.now a = c.in_ok-add_combination.ensures.ok in
    let second : c.add_combination-2.new.sum ≡ vector_sum c.add_combination.new.sum
    (combined (length c.add_combination.new.sum) c.args.es.now c.args.equations.now) = c.in_ok-add_combination-2.ensures.ok in
    let ln : length c.add_combination.new.sum ≡ n = search rules in
    let both : c.add_combination-2.new.sum ≡ vector_sum a (combined n c.args.es.now c.args.equations.now) =
    both_sums n c.args.sum.now c.add_combination.new.sum _ a _ c.requires.zero la first
    (second ∙ ap (λ k. vector_sum c.add_combination.new.sum (combined k c.args.es.now c.args.equations.now)) ln) in
    (λ t. sym both ∙ zeros-all n _ l (c.is_zero.ensures.0 t), λ e. c.is_zero.ensures.1 (all-zeros n _ (both ∙ e)))
