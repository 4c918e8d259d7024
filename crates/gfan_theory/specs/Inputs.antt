-- The premises of completeness of `_bases` and `_bases --within`, of each input that says given polynomials, or with `-g` a given set. Laws:
-- proofs/InputLaws.antt.
use Rattle.std.specs.Prelude.{◌≡◌, ℕ, true, false, List, [], length, None, ℤ}
use Rattle.gf_poly.specs.Polynomial.{Terms}
use Rattle.gf_poly.specs.Marking.{MarkedPolynomials}
use Rattle.gf_text.specs.declared.written.Written.{Written}
use Rattle.gfan_common.specs.Forms.{generators_of}
use Rattle.gfan_lists.specs.declared.bases.ListOptions.{ListOptions}
use Rattle.gfan_lists.specs.Ways.{ways_by}
use Rattle.gfan_lists.specs.ListCommand.{IsListWithin}

-- for each input whose ring has n variables and whose set has the polynomials fs, nothing that `_bases` may do leaves its limits
abbrev pub AreListsWithin : ListOptions → ℕ → List Terms → Type 0
AreListsWithin o n fs = (ring : List (List ℕ)) (ws : List Written) → length ring ≡ n → generators_of ws ≡ fs →
    IsListWithin (ways_by false false false) o ([], (tt, (ring, (ws, None))))

-- nor anything that `_bases --within` may do with these vectors
abbrev pub AreRegionListsWithin : ListOptions → ℕ → List (List ℤ) → List Terms → Type 0
AreRegionListsWithin o n rows fs = (ring : List (List ℕ)) (ws : List Written) → length ring ≡ n → generators_of ws ≡ fs →
    IsListWithin (ways_by false true false) o (rows, (tt, (ring, (ws, None))))

-- for each input whose ring has n variables and whose marked set is s, nothing that `_bases -g` may do leaves its limits
abbrev pub AreGivenListsWithin : ListOptions → ℕ → MarkedPolynomials → Type 0
AreGivenListsWithin o n s = (ring : List (List ℕ)) → length ring ≡ n → IsListWithin (ways_by true false false) o ([], (tt, (ring, s)))

-- nor anything that `_bases -g --within` may do with these vectors
abbrev pub AreGivenRegionListsWithin : ListOptions → ℕ → List (List ℤ) → MarkedPolynomials → Type 0
AreGivenRegionListsWithin o n rows s = (ring : List (List ℕ)) → length ring ≡ n → IsListWithin (ways_by true true false) o (rows, (tt, (ring, s)))
