use Rattle.std.proofs.Common.{◌∙◌, List, ℤ, length, ap}
use Rattle.gf_vec.proofs.PrimitiveLaws.{primitive_of}
use Rattle.gf_duality_theory.proofs.Described.{divided_long, multiple_of}
use Rattle.gf_rays.proofs.project.candidate.Goals as goal

pub returns-clause-long : goal.returns-clause-long
returns-clause-long c = divided_long c.args.n c.in_ok-y.y c.primitive.new.self
    (c.in_ok-y.ensures.long ∙ ap (λ (t : List ℤ). length t) c.index-inequalities-k.is ∙
    c.requires.inequalities c.in-Some.k c.index-inequalities-k.result c.in-Some.ensures)
    (multiple_of c.in_ok-y.y c.primitive.new.self c.primitive.ensures)

pub returns-clause-primitive : goal.returns-clause-primitive
returns-clause-primitive c = primitive_of c.in_ok-y.y c.primitive.new.self c.primitive.ensures
