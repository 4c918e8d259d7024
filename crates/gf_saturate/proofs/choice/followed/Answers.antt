use Rattle.std.proofs.Common.{rules, arith, sym, ◌∙◌}
use Rattle.gf_saturate.specs.Graded.{IsFollowed}
use Rattle.gf_saturate.proofs.ChoiceLaws.{joined_long, two_of}
use Rattle.gf_saturate.proofs.choice.followed.Goals as goal

pub returns-then-are_inside-clause-long : goal.returns-then-are_inside-clause-long
returns-then-are_inside-clause-long c =
    joined_long c.args.n c.args.f.now c.terms-terms.result.now 0 c.index-terms-0.result c.args.inside.now _ c.terms-terms.ensures.value c.requires.variables
    (omega (arith, c.if-terms-ne2.false)) c.index-terms-0.is c.requires.long c.lcm.ensures

pub returns-then-are_inside-clause-followed : goal.returns-then-are_inside-clause-followed
returns-then-are_inside-clause-followed c =
    IsFollowed.first c.index-terms-0.result c.index-terms-1.result
    (sym c.terms-terms.ensures.value
    ∙ two_of c.terms-terms.result.now c.index-terms-0.result c.index-terms-1.result c.if-terms-ne2.false c.index-terms-0.is c.index-terms-1.is)
    (c.are_inside.ensures (search rules)) c.lcm.ensures

pub returns-then-are_inside-2-clause-long : goal.returns-then-are_inside-2-clause-long
returns-then-are_inside-2-clause-long c =
    joined_long c.args.n c.args.f.now c.terms-terms.result.now 1 c.index-terms-1.result c.args.inside.now _ c.terms-terms.ensures.value c.requires.variables
    (omega (arith, c.if-terms-ne2.false)) c.index-terms-1.is c.requires.long c.lcm-then-are_inside-2.ensures

pub returns-then-are_inside-2-clause-followed : goal.returns-then-are_inside-2-clause-followed
returns-then-are_inside-2-clause-followed c =
    IsFollowed.second c.index-terms-0.result c.index-terms-1.result
    (sym c.terms-terms.ensures.value
    ∙ two_of c.terms-terms.result.now c.index-terms-0.result c.index-terms-1.result c.if-terms-ne2.false c.index-terms-0.is c.index-terms-1.is)
    (c.are_inside-2.ensures (search rules)) c.lcm-then-are_inside-2.ensures
