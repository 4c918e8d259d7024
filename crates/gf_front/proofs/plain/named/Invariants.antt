use Rattle.std.proofs.Common.{◌≡◌, map, drop}
use Rattle.gf_front.specs.Table.{plain_named}
use Rattle.gf_front.specs.Choices.{as_named}
use Rattle.gf_front.proofs.plain.named.Given as goal

-- the first of the name is among those that are left
abbrev pub invariant-loop-known : goal.invariant-loop-known
invariant-loop-known l = plain_named l.name (map as_named (drop l.known-index l.commands)) ≡ plain_named l.name (map as_named l.commands)
