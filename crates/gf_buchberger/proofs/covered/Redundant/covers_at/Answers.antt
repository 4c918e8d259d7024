use Rattle.gf_buchberger.proofs.CoveredLaws.{mark_at, mark_lengths, join_of_marks, covered_by_marks}
use Rattle.gf_buchberger.proofs.covered.Redundant.covers_at.Goals as goal

pub is_covering-requires-clause-pair : goal.is_covering-requires-clause-pair
is_covering-requires-clause-pair c = mark_lengths c.requires.variables.n _ _ _ _ _ _ _ c.requires.variables.each
    (mark_at _ _ _ _ c.requires.first c.index-members-i.is c.head.ensures.value) (mark_at _ _ _ _ c.requires.second c.index-members-j.is c.head-2.ensures.value)

pub is_covering-requires-clause-third : goal.is_covering-requires-clause-third
is_covering-requires-clause-third c = mark_lengths c.requires.variables.n _ _ _ _ _ _ _ c.requires.variables.each
    (mark_at _ _ _ _ c.if-k-members.false c.index-members-k.is c.head-3.ensures.value)
    (mark_at _ _ _ _ c.requires.first c.index-members-i.is c.head.ensures.value)

pub is_covering-requires-clause-multiple : goal.is_covering-requires-clause-multiple
is_covering-requires-clause-multiple c = join_of_marks _ _ _ _ _ _ _ _ c.requires.multiple
    (mark_at _ _ _ _ c.requires.first c.index-members-i.is c.head.ensures.value) (mark_at _ _ _ _ c.requires.second c.index-members-j.is c.head-2.ensures.value)

pub returns : goal.returns
returns c = λ t. covered_by_marks _ _ _ _ _ _ _ _ _ _ (mark_at _ _ _ _ c.requires.first c.index-members-i.is c.head.ensures.value)
    (mark_at _ _ _ _ c.requires.second c.index-members-j.is c.head-2.ensures.value)
    (mark_at _ _ _ _ c.if-k-members.false c.index-members-k.is c.head-3.ensures.value) (c.is_covering.ensures t)
