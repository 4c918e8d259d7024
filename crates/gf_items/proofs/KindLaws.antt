-- Items of any kinds, one behind another, are read in one way.
-- To cite: items_once, ring_and_once. The rest are steps.
use Rattle.std.specs.Prelude.{ℕ, List, [], ◌∷◌}
use Rattle.gf_items.specs.Items.{a_vector}
use Rattle.gf_items.specs.Kinds.{ItemKind, the_ring, a_set, a_marked_set, set_list, marked_set_list, vector, vector_where, vector_list, dimension, new_name}
use Rattle.gf_items.specs.Kinds.{item_of, names_behind, items_of, ring_and}
use Rattle.gf_items.specs.ReadOnce.{IsReadOnce}
use Rattle.gf_items.proofs.ReadingLaws.{both_once, asked_once}
use Rattle.gf_items.proofs.ItemLaws.{ring_once, set_once, marked_set_once, vector_once}
use Rattle.gf_items.proofs.ListItemLaws.{sets_once, marked_sets_once, list_of_vectors_once, a_dimension_once, a_new_name_once}

item_once : (k : ItemKind) (names : List (List ℕ)) → IsReadOnce (item_of k names)
item_once the_ring names = ring_once
item_once a_set names = set_once names
item_once a_marked_set names = marked_set_once names
item_once set_list names = sets_once names
item_once marked_set_list names = marked_sets_once names
item_once vector names = vector_once
item_once (vector_where asked) names = asked_once a_vector vector_once asked
item_once vector_list names = list_of_vectors_once
item_once dimension names = a_dimension_once
item_once new_name names = a_new_name_once names

pub items_once : (k : ItemKind) (ks : List ItemKind) (names : List (List ℕ)) → IsReadOnce (items_of k ks names)
items_once k [] names = item_once k names
items_once k (l ∷ ls) names =
    both_once (item_of k names) (λ v. items_of l ls (names_behind k v names)) (item_once k names) (λ p end v r. items_once l ls (names_behind k v names))

pub ring_and_once : (k : ItemKind) (ks : List ItemKind) → IsReadOnce (ring_and k ks)
ring_and_once k ks = items_once the_ring (k ∷ ks) []
