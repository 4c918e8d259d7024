use Rattle.std.proofs.Common.{◌≡◌, ◌++◌, take, drop}
use Rattle.gf_int_theory.specs.Content.{quotients}
use Rattle.gf_vec.proofs.content.divide_all.Given as goal

abbrev pub invariant-loop-x : goal.invariant-loop-x
invariant-loop-x l = l.xs ≡ quotients l.by (take l.x-index l.initial.xs) ++ drop l.x-index l.initial.xs
