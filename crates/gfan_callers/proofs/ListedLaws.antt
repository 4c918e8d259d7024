-- What several workers give, one basis after another, and what is left.
-- To cite: given_none, given_more, all_given, same_workers.
use Rattle.std.proofs.Common.{◌≡◌, ℕ, List, [], ◌∷◌, ◌++◌, Option, Some, None, refl, subst}
use Rattle.gf_poly.specs.Marking.{MarkedPolynomials}
use Rattle.gf_reverse_search.proofs.GrowingLaws.{one_more, all_there}
use Rattle.gf_facets_theory.specs.Regions.{Region}
use Rattle.gf_reverse_theory.specs.Upward.{IsNode}
use Rattle.gf_tree.specs.Walks.{Walk, AreLeft, walk_at}
use Rattle.gf_tree.proofs.ListingLaws.{root_list}
use Rattle.gf_subtree.specs.Rows.{Row, AreLeftIn}
use Rattle.gf_subtree.specs.Answers.{IsNextRow, IsRowEnd, IsRowAnswer}
use Rattle.gfan_callers.specs.Lists.{HaveGiven}

-- at the beginning nothing was given
pub given_none : (start : Walk) (row : Row) → ((nodes : List MarkedPolynomials) → AreLeft start nodes → AreLeftIn row nodes) → HaveGiven start [] row
given_none start row h = λ nodes l. (nodes, refl, h nodes l)

-- a step gives one more
pub given_more : (start : Walk) (done : List MarkedPolynomials) (old new : Row) (v : MarkedPolynomials) → HaveGiven start done old → IsNextRow old new v →
    HaveGiven start (done ++ v ∷ []) new
given_more start done old new v g s = λ nodes l.
    let a = g nodes l in
    let f = s.first a.0 a.2 in
    (f.0, one_more nodes done a.0 f.0 (done ++ v ∷ []) v a.1 f.1 refl, f.2)

-- where nothing is left, all were given
pub all_given : (top : MarkedPolynomials) (k : Region) (pairs : ℕ) (done : List MarkedPolynomials) (old new : Row) → IsNode k top →
    HaveGiven (walk_at top k pairs) done old → IsRowEnd old new → AreLeft (walk_at top k pairs) done
all_given top k pairs done old new h g e =
    let f = root_list k top pairs h in
    let a = g f.0 f.1 in
    subst (AreLeft (walk_at top k pairs)) (all_there f.0 done a.0 a.1 (e.none a.0 a.2)) f.1

-- a call keeps the number of workers
pub same_workers : (old new : Row) (answer : Option MarkedPolynomials) → IsRowAnswer old new answer → new.frontier.workers ≡ old.frontier.workers
same_workers old new (Some v) h = h.same.workers
same_workers old new None h = h.same.workers
