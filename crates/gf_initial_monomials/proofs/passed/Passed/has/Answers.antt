use Rattle.std.proofs.Common.{◌∙◌, List, ℤ, Contains, sym, subst}
use Rattle.gf_initial_monomials.proofs.PassingLaws.{among}
use Rattle.gf_initial_monomials.proofs.passed.Passed.has.Goals as goal

pub returns : goal.returns
returns c = λ yes. subst (λ (z : List (List ℤ)). Contains z c.args.v.now) c.self.view_is
    (among c.self.inside.vectors.keys c.args.v.now (sym c.contains.ensures ∙ yes))
