-- The meaning of a source of `_bases`: a ring and polynomials, which generate an ideal.
use Rattle.std.specs.Prelude.{◌≡◌, ℕ, Bool, true, false, List, Option, ℤ}
use Rattle.gf_poly.specs.Polynomial.{Terms}
use Rattle.gf_poly.specs.Marking.{MarkedPolynomials, polys}
use Rattle.gf_text.specs.declared.written.Written.{Written}
use Rattle.gf_items.specs.Items.{IsTextOf}
use Rattle.gf_items.specs.Sources.{ring_set_vector, ring_marked_set}
use Rattle.gfan_common.specs.Forms.{generators_of}

-- the source is the text of the ring and of a set of these polynomials; from a basis it is that of a marked set of them
abbrev pub HasPolynomials : Bool → List ℕ → List (List ℕ) → List Terms → Type 0
HasPolynomials false source ring fs = (v : List Written × Option (List ℤ)) × IsTextOf (ring_set_vector false) source (ring, v) × (fs ≡ generators_of v.0)
HasPolynomials true source ring fs = (s : MarkedPolynomials) × IsTextOf ring_marked_set source (ring, s) × (fs ≡ polys s.items)
