use Rattle.std.proofs.Common.{◌≡◌, ◌≤◌, ◌-◌, List, length}
use Rattle.gf_text.specs.declared.tree.WrittenTerm.{WrittenTerm}
use Rattle.gf_text.specs.declared.set_reader.SetPlace.TheVariants.{Brace}
use Rattle.gf_text.specs.ListText.{inside}
use Rattle.gf_text.specs.SetText.{empty}
use Rattle.gf_text.specs.SetLists.{HasSetSums, sets_from, sets_inside}
use Rattle.gf_text.proofs.set_lists.items_from.Given as goal

abbrev pub invariant-loop-all : goal.invariant-loop-all
invariant-loop-all l = record {
  within : l.at ≤ length l.source;
  said : List (List (List WrittenTerm));
  same : sets_from l.ring (inside (Brace, empty), said) l.source l.at ≡ sets_from l.ring sets_inside l.source l.from;
  come : HasSetSums (length l.ring) said l.all;
}

abbrev pub decreases-loop-all : goal.decreases-loop-all
decreases-loop-all l = length l.source - l.at
