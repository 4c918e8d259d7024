-- An ideal has exactly one list of all bases. Laws: proofs/OneListLaws.antt.
use Rattle.std.specs.Prelude.{◌≡◌, ℕ, List}
use Rattle.gf_poly.specs.Polynomial.{Terms}
use Rattle.gf_poly.specs.Marking.{MarkedPolynomials}
use Rattle.gf_ideal_theory.specs.Membership.{AreInVariables}
use Rattle.gf_facets_theory.specs.Regions.{Region, IsRegion}
use Rattle.gf_lists_theory.specs.BasesList.{AreAllBasesIn, AreAllBases}

-- each ideal has a list of all its bases
abbrev pub ListsExist : Type 0
ListsExist = (n : ℕ) (fs : List Terms) → AreInVariables n fs → (list : List MarkedPolynomials) × AreAllBases n fs list

-- an ideal has at most one list of all its bases
abbrev pub ListsAreOne : Type 0
ListsAreOne = (n : ℕ) (fs : List Terms) (list other : List MarkedPolynomials) → AreInVariables n fs → AreAllBases n fs list → AreAllBases n fs other →
    list ≡ other

-- an ideal has at most one list of its bases in a region
abbrev pub RegionListsAreOne : Type 0
RegionListsAreOne = (n : ℕ) (k : Region) (fs : List Terms) (list other : List MarkedPolynomials) → AreInVariables n fs → IsRegion n k →
    AreAllBasesIn n k fs list → AreAllBasesIn n k fs other → list ≡ other
