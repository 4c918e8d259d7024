use Rattle.std.proofs.Common.{List, ℤ, Contains, subst, inl, inr}
use Rattle.gf_initial_monomials.proofs.PassingLaws.{one_more}
use Rattle.gf_initial_monomials.proofs.passed.Passed.keep.Goals as goal

pub returns : goal.returns
returns c = λ u k. elim (one_more c.self.inside.vectors.keys _ c.args.v u c.in_ok-insert.ensures.keys k) [
  | inl o ↦ inl (c.make_room.ensures u (subst (λ (z : List (List ℤ)). Contains z u) c.self.view_is o))
  | inr e ↦ inr e
]
