use Rattle.std.proofs.Common.{refl, subst, List}
use Rattle.gf_poly.specs.Marking.{MarkedPolynomial}
use Rattle.gf_whole_division.specs.Reductions.{IsRemainderMultiple}
use Rattle.gf_buchberger.proofs.GeneratorsOfRuns.{left_comparable}
use Rattle.gf_buchberger.proofs.WholeLaws.{entry_left}
use Rattle.gf_buchberger.proofs.generators.left_by_multiples.Goals as goal

pub left_of-requires : goal.left_of-requires
left_of-requires c = left_comparable c.args.order.now c.args.by.now.members.items c.args.f.now c.args.f.now c.in-Ok.r refl c.requires.variables
    c.in-Ok.ensures.variables

pub returns-in-Ok-left_of : goal.returns-in-Ok-left_of
returns-in-Ok-left_of c =
    entry_left c.args.order.now c.args.by.now.members.items c.args.f.now c.in-Ok.r c.in-Ok-left_of.left c.requires.marked
    (subst (λ (ms : List MarkedPolynomial). IsRemainderMultiple ms c.args.f.now c.in-Ok.r) c.deref.ensures.value c.in-Ok.ensures.value)
    c.in-Ok.ensures.variables c.in-Ok-left_of.ensures.ok
