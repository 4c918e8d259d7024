-- What the commands read.
use Rattle.std.specs.Prelude.{ℕ, Bool, List, [], ◌∷◌, Option, ℤ}
use Rattle.gf_poly.specs.Marking.{MarkedPolynomials}
use Rattle.gf_text.specs.declared.written.Written.{Written}
use Rattle.gf_items.specs.Items.{Item}
use Rattle.gf_items.specs.Kinds.{a_set, a_marked_set, set_list, marked_set_list, vector, vector_where, vector_list, dimension, new_name, items_from, ring_and}

-- a ring, a set in it, and a vector where it is asked for
abbrev pub ring_set_vector : Bool → Item (List (List ℕ) × (List Written × Option (List ℤ)))
ring_set_vector asked = ring_and a_set (vector_where asked ∷ [])

-- a ring, a set in it, and a vector
abbrev pub ring_set_and_vector : Item (List (List ℕ) × (List Written × List ℤ))
ring_set_and_vector = ring_and a_set (vector ∷ [])

-- a ring, a set in it, and the name of a new variable
abbrev pub ring_set_and_name : Item (List (List ℕ) × (List Written × List ℕ))
ring_set_and_name = ring_and a_set (new_name ∷ [])

-- a ring and a list of sets in it
abbrev pub ring_and_set_list : Item (List (List ℕ) × List (List Written))
ring_and_set_list = ring_and set_list []

-- a ring, a marked set in it, and a set
abbrev pub ring_marked_set_and_set : Item (List (List ℕ) × (MarkedPolynomials × List Written))
ring_marked_set_and_set = ring_and a_marked_set (a_set ∷ [])

-- a ring and a marked set in it
abbrev pub ring_marked_set : Item (List (List ℕ) × MarkedPolynomials)
ring_marked_set = ring_and a_marked_set []

-- a ring and a list of marked sets in it
abbrev pub ring_marked_sets : Item (List (List ℕ) × List MarkedPolynomials)
ring_marked_sets = ring_and marked_set_list []

-- a list of vectors
abbrev pub vectors_alone : Item (List (List ℤ))
vectors_alone = items_from vector_list []

-- a dimension, and two lists of vectors
abbrev pub dimension_two_lists : Item (ℕ × (List (List ℤ) × List (List ℤ)))
dimension_two_lists = items_from dimension (vector_list ∷ vector_list ∷ [])
