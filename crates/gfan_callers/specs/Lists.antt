-- A list of bases that is under way by several workers. Laws: proofs/ListedLaws.antt.
use Rattle.std.specs.Prelude.{◌≡◌, List, ◌++◌}
use Rattle.gf_poly.specs.Marking.{MarkedPolynomials}
use Rattle.gf_tree.specs.Walks.{Walk, AreLeft}
use Rattle.gf_subtree.specs.Rows.{Row, AreLeftIn}

-- these were given of what a walker has left, and the others are left in the row
abbrev pub HaveGiven : Walk → List MarkedPolynomials → Row → Type 0
HaveGiven start done row =
    (nodes : List MarkedPolynomials) → AreLeft start nodes → (rest : List MarkedPolynomials) × (nodes ≡ done ++ rest) × AreLeftIn row rest
