use Rattle.std.proofs.Common.{◌≡◌, ◌+◌, ◌-◌, suc, ◌∷◌, length, ap, rules, arith}
use Rattle.std.proofs.lemmas.List.{length_push}
use Rattle.gf_reverse_search.specs.Pieces.{RefusesAt}
use Rattle.gf_reverse_search.specs.declared.expand.Piece.TheVariants.{Ready, Under, Refused}
use Rattle.gf_waves.proofs.BatchLaws.{on_ready, on_first, on_stopped}
use Rattle.gf_waves.proofs.batch.step.Goals as goal

pub returns-in-Some-Ready-clause-on : goal.returns-in-Some-Ready-clause-on
returns-in-Some-Ready-clause-on g c =
    let v = c.in-Some-Ready.node in
    let limit = c.args.limit in
    let dones = c.args.done.now.items in
    let olds = c.args.row.now.items in
    let rest = c.pop_front.new.self.items in
    let more = c.push.new.row.items in
    let whole : olds ≡ Ready v ∷ rest = search rules in
    let some = c.requires.some in
    let room = c.requires.few in
    let n = limit - (length dones + length olds) in
    let q : c.args.left ≡ suc (c.args.left - 1) = omega (arith, some) in
    let two : n ≡ suc (suc (n - 2)) = omega (arith, room) in
    let same : limit - (length more + length rest) ≡ n = (let a = ap length whole in let b = ap length c.push.ensures.items in let d =
    length_push dones (Ready v) in omega (arith, a, b, d)) in
    on_ready g.T.Tree.before g.T.Tree.up (RefusesAt g.T.Tree.up g.T.Tree.refuses) c.args.left (c.args.left - 1) n (n - 2) (limit - (length more + length rest))
    v olds rest dones more q two same whole c.push.ensures.items

pub returns-in-Some-Under-clause-on : goal.returns-in-Some-Under-clause-on
returns-in-Some-Under-clause-on g c =
    let w = c.in-Some-Under.walker in
    let limit = c.args.limit in
    let dones = c.args.done.now.items in
    let olds = c.args.row.now.items in
    let rest = c.pop_front.new.self.items in
    let news = c.expand_before.new.row.items in
    let whole : olds ≡ Under w ∷ rest = search rules in
    let some = c.requires.some in
    let room = c.requires.few in
    let n = limit - (length dones + length olds) in
    let q : c.args.left ≡ suc (c.args.left - 1) = omega (arith, some) in
    let two : n ≡ suc (suc (n - 2)) = omega (arith, room) in
    let left : limit - (length dones + length news) ≡ n + 1 + length rest - length news = (let a = ap length whole in omega (arith, a, room)) in
    on_first g.T.Tree.before g.T.Tree.up (RefusesAt g.T.Tree.up g.T.Tree.refuses) c.args.left (c.args.left - 1) n (n - 2) (limit - (length dones + length news))
    w olds rest news dones q two left whole c.expand_before.ensures.expanded

pub returns-in-Some-Refused-clause-on : goal.returns-in-Some-Refused-clause-on
returns-in-Some-Refused-clause-on g c =
    let w = c.in-Some-Refused.walker in
    let e = c.in-Some-Refused.refusal in
    let limit = c.args.limit in
    let dones = c.args.done.now.items in
    let olds = c.args.row.now.items in
    let rest = c.pop_front.new.self.items in
    let news = c.push_before.new.row.items in
    let whole : olds ≡ Refused w e ∷ rest = search rules in
    let some = c.requires.some in
    let room = c.requires.few in
    let n = limit - (length dones + length olds) in
    let q : c.args.left ≡ suc (c.args.left - 1) = omega (arith, some) in
    let two : n ≡ suc (suc (n - 2)) = omega (arith, room) in
    let same : limit - (length dones + length news) ≡ n = (let a = ap length whole in let b = ap length c.push_before.ensures.items in omega (arith, a, b)) in
    on_stopped g.T.Tree.before g.T.Tree.up (RefusesAt g.T.Tree.up g.T.Tree.refuses) c.args.left (c.args.left - 1) n
    (n - 2) (limit - (length dones + length news)) w e olds rest news dones q two same whole c.push_before.ensures.items
