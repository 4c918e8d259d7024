use Rattle.std.proofs.Common.{◌≡◌, ◌+◌, ◌≤◌, ◌∙◌, length, arith}
use Rattle.std.proofs.lemmas.Grind.{common_steps}
use Rattle.gf_outside.proofs.MovedLaws.{Took-read}
use Rattle.gf_outside.proofs.source.read_all.Goals as goal

pub returns-then-count-len-clause-long : goal.returns-then-count-len-clause-long
returns-then-count-len-clause-long g c =
    let fits : c.in-Ok.count ≤ length c.read.new.into = grind (arith, common_steps) in
    let read = Took-read _ _ _ _ _ _ c.in-Ok.count c.loop-count.all.items c.read.new.into c.loop-count.invariant.taken c.in-Ok.ensures.bytes.0
    c.in-Ok.ensures.count fits in
    let sum : length c.loop-count.all.items + c.in-Ok.count ≡ 67108865 =
    grind (arith, common_steps, c.in-Ok.ensures.bound, c.read.auto.into, c.loop-count.all.ok.0) in
    λ _. record { bytes = read.bytes; took = read.took; exactly = read.exactly ∙ sum }

pub returns-then-is_err-clause-before_memory : goal.returns-then-is_err-clause-before_memory
returns-then-is_err-clause-before_memory g c =
    let fits : c.in-Ok.count ≤ length c.read.new.into = grind (arith, common_steps) in
    let read = Took-read _ _ _ _ _ _ c.in-Ok.count c.loop-count.all.items c.read.new.into c.loop-count.invariant.taken c.in-Ok.ensures.bytes.0
    c.in-Ok.ensures.count fits in
    λ _. record { bytes = read.bytes; took = read.took; at_most = grind (arith, common_steps, read.exactly) }
