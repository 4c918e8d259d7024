use Rattle.std.proofs.Common.{rules}
use Rattle.std.specs.Ordering.{is_lt}
use Rattle.std.proofs.lemmas.List.Sorted.{answers_always}
use Rattle.gf_exponents_theory.specs.Orders.{lex}
use Rattle.gf_poly.specs.Marking.{MarkedPolynomial}
use Rattle.gf_poly.proofs.MarkingLaws.{by_head, arranged}
use Rattle.gf_poly.proofs.marked_set.MarkedSet.arrange.Goals as goal

pub returns : goal.returns
returns c = arranged _ _ _ _ c.self.view_is c.sort_by.ensures.permutation
    (c.in_ok-sort_by.ensures.sorted (λ (a b : MarkedPolynomial). is_lt (lex a.head b.head)) by_head (answers_always _ _ _ (λ f a r g h. search rules)))
    (c.sort_by.ensures.stable (λ (a b : MarkedPolynomial). is_lt (lex a.head b.head)) by_head (answers_always _ _ _ (λ f a r g h. search rules)))
