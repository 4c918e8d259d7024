use Rattle.std.proofs.Common.{◌≡◌, ◌++◌, List, length}
use Rattle.std.specs.Vec.Iter.{into_iter_items, into_iter_len}
use Rattle.gf_text.specs.declared.written.Written.{Written}
use Rattle.gf_text.specs.SetLists.{sets_in, AreMarkedSets}
use Rattle.gf_text.proofs.marked_reader.all_marked.Given as goal

-- the sets that were taken, and those that are left
abbrev pub invariant-sets : goal.invariant-sets
invariant-sets l = record {
  taken : List (List Written);
  whole : sets_in l.fn.sets.items ≡ taken ++ sets_in (into_iter_items l.written-iterator);
  marked : AreMarkedSets l.n taken l.all.items;
  left : into_iter_len l.written-iterator ≡ length (into_iter_items l.written-iterator);
}
