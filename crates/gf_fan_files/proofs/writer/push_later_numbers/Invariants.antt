use Rattle.std.proofs.Common.{◌≡◌, ◌++◌, ◌∷◌, take, flat_map, decimal}
use Rattle.gf_fan_files.proofs.writer.push_later_numbers.Given as goal

abbrev pub invariant-loop-n : goal.invariant-loop-n
invariant-loop-n l = l.out.items ≡ l.initial.out.items ++ flat_map (λ m. 32 ∷ decimal m) (take l.n-index l.numbers)
