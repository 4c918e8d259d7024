use Rattle.std.proofs.Common.{◌∙◌, sym, subst}
use Rattle.gf_poly.specs.Monomial.{IsMonomial}
use Rattle.gf_poly.specs.declared.TheConstants.{ROOM}
use Rattle.gf_saturate.proofs.WideningLaws.{variable-take, variable-monomial}
use Rattle.gf_saturate.proofs.relation.variable.Goals as goal

pub new-requires : goal.new-requires
new-requires c = subst IsMonomial (sym (variable-take c.args.n c.args.k ROOM c.requires.inside c.requires.room))
    (variable-monomial c.args.n c.args.k c.requires.room c.requires.inside)

pub returns : goal.returns
returns c = c.new.ensures ∙ variable-take c.args.n c.args.k ROOM c.requires.inside c.requires.room
