use Rattle.std.proofs.Common.{rules}
use Rattle.std.specs.Ordering.{is_lt, nat_cmp}
use Rattle.std.specs.Cmp.Lexicographic.{slice_cmp}
use Rattle.std.proofs.lemmas.Cmp.{nat_list_cmp_total}
use Rattle.std.proofs.lemmas.List.Sorted.{answers_always, ranks_by}
use Rattle.gf_rays.specs.declared.faces.Face.{Face}
use Rattle.gf_rays.specs.Faces.{index_of}
use Rattle.gf_rays.proofs.faces.by_index.Goals as goal

pub returns-clause-sorted : goal.returns-clause-sorted
returns-clause-sorted c = c.in_ok-sort_by.ensures.sorted (λ (a b : Face). is_lt (slice_cmp nat_cmp (index_of a) (index_of b)))
    (ranks_by nat_list_cmp_total index_of) (answers_always _ _ _ (λ f a r g h. search rules))
