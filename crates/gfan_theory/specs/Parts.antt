-- A list that is written in parts. Laws: proofs/PartsLaws.antt.
use Rattle.std.specs.Prelude.{◌≡◌, ℕ, Bool, List, [], ◌∷◌, ◌++◌, length, Option, None}
use Rattle.gf_poly.specs.Polynomial.{Terms}
use Rattle.gf_poly.specs.Marking.{MarkedPolynomials}
use Rattle.gf_ideal_theory.specs.Membership.{AreInVariables}
use Rattle.gf_facets_theory.specs.Regions.{Region, IsRegion}
use Rattle.gfan_lists.specs.Bases.{begun_text, list_text, IsTextBehind, IsBegunListBehind}

-- One run writes the bases up to b, after some earlier ones or from the first one on, and another one writes what follows b. Then the bases
-- of both, in this order, are what follows the earlier ones, and the items of both texts make up its text. The limits of the runs may be
-- any.
abbrev pub PartsAreJoined : Type 0
PartsAreJoined = (certified : Bool) (limit : Option ℕ) (ring : List (List ℕ)) (k : Region) (fs : List Terms) (early front before rest : List MarkedPolynomials)
    (b : MarkedPolynomials) (text behind : List ℕ) →
    AreInVariables (length ring) fs → IsRegion (length ring) k →
    IsBegunListBehind early certified ring k fs (front ++ b ∷ []) rest text → IsTextBehind (before ++ b ∷ []) certified limit ring k fs behind →
    (items : List (List ℕ)) × (others : List (List ℕ)) × (text ≡ begun_text ring items) × (behind ≡ list_text ring others)
    × IsTextBehind early certified None ring k fs (list_text ring (items ++ others))
