use Rattle.std.proofs.Common.{rules, refl, ◌∙◌}
use Rattle.gf_groebner_walk.proofs.WeightLaws.{lex_weight, weighted_weight, lex_remains}
use Rattle.gf_groebner_walk.proofs.weights.weight_of.Goals as goal

pub returns-in_ok-same-in-Some : goal.returns-in_ok-same-in-Some
returns-in_ok-same-in-Some c = weighted_weight c.args.n c.args.order.now c.in-Some.weight.now c.in_ok-same-in-Some.same c.in-Some.ensures.weight
    c.requires.entries c.in-Some.ensures.natural c.in_ok-same-in-Some.ensures

pub returns-in_ok-zeros-in-None : goal.returns-in_ok-zeros-in-None
returns-in_ok-zeros-in-None c = lex_weight c.args.n c.args.order.now c.from_vec.result
    (lex_remains c.args.order.now c.requires.by_lex (c.in-None.ensures.none refl)) (c.from_vec.ensures ∙ (search rules))
