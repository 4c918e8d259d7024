use Rattle.std.proofs.Common.{◌≡◌, ◌<◌, ◌-◌, ◌∷◌, length, ap, refl, rules, arith}
use Rattle.std.proofs.lemmas.List.{length_push}
use Rattle.gf_waves.specs.Frontier.{renewed}
use Rattle.gf_waves.proofs.PlanLaws.{cut_more, cut_over, cut_done}
use Rattle.gf_waves.proofs.planning.cut.Goals as goal

-- the piece in front is taken
pub loop-pieces-preserved : goal.loop-pieces-preserved
loop-pieces-preserved g c =
    let l = c.loop-pieces in
    let p = c.in-Some.piece in
    let rest = c.pop_front.new.self.items in
    let more = c.take-walkers.new.batch.items in
    let t = c.take-walkers.ensures in
    let whole : l.row.items ≡ p ∷ rest = search rules in
    let some : 0 < l.pieces = search rules in
    let wanted : 0 < l.walkers = search rules in
    let k = cut_more l.pieces l.walkers (l.pieces - 1) c.take-walkers.result p l.row.items rest l.slot.items more c.args.row.now.items some wanted refl t.left
    whole t.items l.invariant.first l.invariant.behind in
    record {
      first = k.0;
      behind = k.1;
      few = (let a = ap length t.items in let b = length_push l.slot.items (renewed p) in let d = l.invariant.few in omega (arith, a, b, d, some));
      room = search rules;
      kept = search rules;
    }

pub returns-in_default-clause-batch : goal.returns-in_default-clause-batch
returns-in_default-clause-batch g c =
    let l = c.loop-pieces in
    (cut_over l.pieces l.walkers l.row.items c.pop_front.new.self.items l.slot.items c.args.row.now.items (search rules) (search rules)
    l.invariant.first l.invariant.behind).0

pub returns-in_default-clause-rest : goal.returns-in_default-clause-rest
returns-in_default-clause-rest g c =
    let l = c.loop-pieces in
    (cut_over l.pieces l.walkers l.row.items c.pop_front.new.self.items l.slot.items c.args.row.now.items (search rules) (search rules)
    l.invariant.first l.invariant.behind).1

pub returns-else-walkers-gt0-clause-batch : goal.returns-else-walkers-gt0-clause-batch
returns-else-walkers-gt0-clause-batch g c =
    let l = c.loop-pieces in
    let none : l.walkers ≡ 0 = search rules in
    (cut_done l.pieces l.walkers l.row.items l.slot.items c.args.row.now.items (λ h k. omega (arith, k, none)) l.invariant.first l.invariant.behind).0

pub returns-else-walkers-gt0-clause-rest : goal.returns-else-walkers-gt0-clause-rest
returns-else-walkers-gt0-clause-rest g c =
    let l = c.loop-pieces in
    let none : l.walkers ≡ 0 = search rules in
    (cut_done l.pieces l.walkers l.row.items l.slot.items c.args.row.now.items (λ h k. omega (arith, k, none)) l.invariant.first l.invariant.behind).1

pub returns-after-loop-pieces-clause-batch : goal.returns-after-loop-pieces-clause-batch
returns-after-loop-pieces-clause-batch g c =
    let l = c.loop-pieces in
    let none : l.pieces ≡ 0 = search rules in
    (cut_done l.pieces l.walkers l.row.items l.slot.items c.args.row.now.items (λ h k. omega (arith, h, none)) l.invariant.first l.invariant.behind).0

pub returns-after-loop-pieces-clause-rest : goal.returns-after-loop-pieces-clause-rest
returns-after-loop-pieces-clause-rest g c =
    let l = c.loop-pieces in
    let none : l.pieces ≡ 0 = search rules in
    (cut_done l.pieces l.walkers l.row.items l.slot.items c.args.row.now.items (λ h k. omega (arith, h, none)) l.invariant.first l.invariant.behind).1
