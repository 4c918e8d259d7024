use Rattle.gf_fan.proofs.table.are_of_one_basis.Goals as goal

pub returns : goal.returns
returns c = λ t. (c.lineality.result.now, c.all_have.ensures t)
