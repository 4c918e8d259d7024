use Rattle.std.proofs.Common.{ap, ◌∙◌, length}
use Rattle.gf_division.proofs.ReducerLaws.{member_at, member_length}
use Rattle.gf_reduced.proofs.terms.is_divided_by.Goals as goal

pub divides-requires : goal.divides-requires
divides-requires c = ap length c.head.ensures.value ∙ member_length (length c.args.x.now) c.args.j c.args.items.now c.index-items-j.result c.requires.variables
    (member_at c.args.items.now c.args.j c.index-items-j.result c.requires.within c.index-items-j.is) c.head.ensures.marked
