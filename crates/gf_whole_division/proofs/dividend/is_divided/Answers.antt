use Rattle.std.proofs.Common.{arith}
use Rattle.gf_division.proofs.ReducerLaws.{divides-degree}
use Rattle.gf_whole_division.proofs.dividend.is_divided.Goals as goal

pub returns-then-degree : goal.returns-then-degree
returns-then-degree c =
    (λ t. absurd cc, λ d. absurd (omega (arith, divides-degree c.args.mark.now c.args.x.now d, c.degree.ensures, c.requires.degree, c.if-degree.true)))
