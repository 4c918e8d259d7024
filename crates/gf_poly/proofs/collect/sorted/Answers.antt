use Rattle.std.proofs.Common.{rules}
use Rattle.std.proofs.lemmas.List.Sorted.{answers_always}
use Rattle.gf_poly.proofs.SortLaws.{is_before, by_deglex, IsOrdered-sorted, HasLikeTerms-sorted}
use Rattle.gf_poly.proofs.collect.sorted.Goals as goal

pub returns-clause-ordered : goal.returns-clause-ordered
returns-clause-ordered c = IsOrdered-sorted _ (c.in_ok-sort_by.ensures.sorted is_before by_deglex (answers_always _ _ _ (λ f a r g h. search rules)))

pub returns-clause-terms : goal.returns-clause-terms
returns-clause-terms c =
    HasLikeTerms-sorted _ _ c.sort_by.ensures.permutation (c.sort_by.ensures.stable is_before by_deglex (answers_always _ _ _ (λ f a r g h. search rules)))
