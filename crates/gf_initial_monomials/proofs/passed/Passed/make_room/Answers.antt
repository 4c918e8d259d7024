use Rattle.gf_initial_monomials.proofs.PassingLaws.{of_none}
use Rattle.gf_initial_monomials.proofs.passed.Passed.make_room.Goals as goal

pub returns-then-len-ge-MOST : goal.returns-then-len-ge-MOST
returns-then-len-ge-MOST c = λ u k. of_none _ _ u c.clear.ensures.empty k
