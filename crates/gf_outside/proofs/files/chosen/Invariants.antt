use Rattle.std.proofs.Common.{◌≡◌, ◌≤◌, length, ◌-◌}
use Rattle.gf_outside.specs.Moved.{Took}
use Rattle.gf_outside.proofs.files.chosen.Given as goal

-- what was read so far was taken, fits, and the counts of faults and the files stood still
abbrev pub invariant-loop-count : goal.invariant-loop-count
invariant-loop-count g l = record {
  taken : Took (g.F.Files.left l.initial.files) (g.F.Files.left l.files) (g.F.Files.given l.initial.files) (g.F.Files.given l.files) l.all.items;
  short : length l.all.items ≤ 67108864;
  calm : g.F.Files.faults l.files ≡ g.F.Files.faults l.initial.files;
  unopened : g.F.Files.unopened l.files ≡ g.F.Files.unopened l.initial.files;
  kept : g.F.Files.bytes l.files ≡ g.F.Files.bytes l.initial.files;
}

abbrev pub decreases-loop-count : goal.decreases-loop-count
decreases-loop-count g l = 67108865 - length l.all.items
