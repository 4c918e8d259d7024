-- Items by their kinds: items of these kinds, one behind another.
use Rattle.std.specs.Prelude.{ℕ, List, [], ◌∷◌, Option, ℤ, Bool}
use Rattle.gf_poly.specs.Marking.{MarkedPolynomials}
use Rattle.gf_text.specs.declared.written.Written.{Written}
use Rattle.gf_items.specs.Items.{Item, both, where_asked, a_ring, a_set_in, a_marked_set_in, a_list_of_sets_in, a_list_of_marked_sets_in, a_vector}
use Rattle.gf_items.specs.Items.{a_list_of_vectors, a_dimension, a_new_name}

-- what may stand in a text
pub data ItemKind : Type 0 where
  the_ring : ItemKind
  a_set : ItemKind
  a_marked_set : ItemKind
  set_list : ItemKind
  marked_set_list : ItemKind
  vector : ItemKind
  vector_where : Bool → ItemKind
  vector_list : ItemKind
  dimension : ItemKind
  new_name : ItemKind

-- what is read of it
abbrev pub ItemValue : ItemKind → Type 0
ItemValue the_ring = List (List ℕ)
ItemValue a_set = List Written
ItemValue a_marked_set = MarkedPolynomials
ItemValue set_list = List (List Written)
ItemValue marked_set_list = List MarkedPolynomials
ItemValue vector = List ℤ
ItemValue (vector_where asked) = Option (List ℤ)
ItemValue vector_list = List (List ℤ)
ItemValue dimension = ℕ
ItemValue new_name = List ℕ

-- the item, behind a ring of these names; no names where no ring was read
abbrev pub item_of : (k : ItemKind) → List (List ℕ) → Item (ItemValue k)
item_of the_ring names = a_ring
item_of a_set names = a_set_in names
item_of a_marked_set names = a_marked_set_in names
item_of set_list names = a_list_of_sets_in names
item_of marked_set_list names = a_list_of_marked_sets_in names
item_of vector names = a_vector
item_of (vector_where asked) names = where_asked asked a_vector
item_of vector_list names = a_list_of_vectors
item_of dimension names = a_dimension
item_of new_name names = a_new_name names

-- the names of the ring behind an item: those of the last ring
abbrev pub names_behind : (k : ItemKind) → ItemValue k → List (List ℕ) → List (List ℕ)
names_behind the_ring ring names = ring
names_behind a_set v names = names
names_behind a_marked_set v names = names
names_behind set_list v names = names
names_behind marked_set_list v names = names
names_behind vector v names = names
names_behind (vector_where asked) v names = names
names_behind vector_list v names = names
names_behind dimension v names = names
names_behind new_name v names = names

-- one, or several one behind another
abbrev pub ItemValues : ItemKind → List ItemKind → Type 0
ItemValues k [] = ItemValue k
ItemValues k (l ∷ ls) = ItemValue k × ItemValues l ls

-- items of these kinds one behind another, each in the variables of the ring that was read last, first in these
abbrev pub items_of : (k : ItemKind) (ks : List ItemKind) → List (List ℕ) → Item (ItemValues k ks)
items_of k [] names = item_of k names
items_of k (l ∷ ls) names = both (item_of k names) (λ v. items_of l ls (names_behind k v names))

-- a text that begins with the first
abbrev pub items_from : (k : ItemKind) (ks : List ItemKind) → Item (ItemValues k ks)
items_from k ks = items_of k ks []

-- a ring, and these behind it
abbrev pub ring_and : (k : ItemKind) (ks : List ItemKind) → Item (List (List ℕ) × ItemValues k ks)
ring_and k ks = items_from the_ring (k ∷ ks)
