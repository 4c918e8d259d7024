use Rattle.std.proofs.Common.{◌∙◌, sym, rules, inl, inr, FitsSigned}
use Rattle.std.specs.Int.{w128}
use Rattle.std.specs.declared.cmp.Ordering.TheVariants.{Greater}
use Rattle.std.proofs.lemmas.Int.{to_z-of_z}
use Rattle.gf_exponents_theory.specs.Orders.{IsLexBelow}
use Rattle.gf_poly.proofs.InitialFormLaws.{by_equal}
use Rattle.gf_small.proofs.MarksByWeightLaws.{lex_by, not_above}
use Rattle.gf_small.proofs.marks.is_above.Goals as goal

pub returns-in-Greater-cmp-clause-above : goal.returns-in-Greater-cmp-clause-above
returns-in-Greater-cmp-clause-above c = λ _.
    let fw : FitsSigned w128 c.args.weight = search rules in
    let fo : FitsSigned w128 c.args.other = search rules in
    let e = simp to_z-of_z at c.cmp.ensures in
    let lex : IsLexBelow c.args.y.now c.args.x.now = lex_by c.args.x.now c.args.y.now Greater c.requires (sym c.in-Greater-cmp.is ∙ c.cmp-in-Equal.ensures) in
    inr (sym (by_equal c.args.weight c.args.other c.cmp.result e c.in-Equal.is), lex)

pub returns-in_default : goal.returns-in_default
returns-in_default c =
    let fw : FitsSigned w128 c.args.weight = search rules in
    let fo : FitsSigned w128 c.args.other = search rules in
    let e = simp to_z-of_z at c.cmp.ensures in
    record {
      above = λ q. absurd (cc);
      below = λ _. elim (not_above c.args.x.now c.args.y.now c.cmp-in-Equal.result
          (lex_by c.args.x.now c.args.y.now c.cmp-in-Equal.result c.requires c.cmp-in-Equal.ensures) c.in_default.not-Greater) [
            | inl q ↦ inl q
            | inr b ↦ inr (inr (by_equal c.args.weight c.args.other c.cmp.result e c.in-Equal.is, b))
          ];
    }
