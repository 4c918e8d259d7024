use Rattle.std.proofs.Common.{◌≡◌, ◌≤◌, ◌++◌, ◌∷◌, suc, [], length, ap, subst, rules, arith}
use Rattle.std.proofs.lemmas.List.{length_push}
use Rattle.std.specs.VecDeque.{deque_capacity}
use Rattle.gf_waves.specs.Plans.{AreSpare}
use Rattle.gf_waves.proofs.PlanLaws.{spare_last, goes_cell, goes_none}
use Rattle.gf_waves.proofs.planning.plan.Goals as goal

pub cut-requires-clause-empty : goal.cut-requires-clause-empty
cut-requires-clause-empty g c =
    let last : c.loop-spare.spares.items ≡ c.pop.new.self.items ++ c.in-Some.spare ∷ [] = search rules in
    (spare_last c.pop.new.self.items c.in-Some.spare (subst AreSpare last c.loop-spare.invariant.spare)).1.0

pub cut-requires-clause-room : goal.cut-requires-clause-room
cut-requires-clause-room g c =
    let last : c.loop-spare.spares.items ≡ c.pop.new.self.items ++ c.in-Some.spare ∷ [] = search rules in
    (spare_last c.pop.new.self.items c.in-Some.spare (subst AreSpare last c.loop-spare.invariant.spare)).1.1

-- the pieces in front become a cell
pub loop-spare-preserved : goal.loop-spare-preserved
loop-spare-preserved g c =
    let l = c.loop-spare in
    let fewer = c.pop.new.self.items in
    let last : l.spares.items ≡ fewer ++ c.in-Some.spare ∷ [] = search rules in
    let both = spare_last fewer c.in-Some.spare (subst AreSpare last l.invariant.spare) in
    let spare = both.1 in
    let more = c.add.new.slots.items in
    let long = ap length last in
    let push = length_push fewer c.in-Some.spare in
    let less : length l.spares.items ≡ suc (length fewer) = omega (arith, long, push) in
    let kept = c.cut.ensures.room in
    let cap = spare.1 in
    let enough : 64 ≤ deque_capacity c.cut.new.slot = omega (arith, kept, cap) in
    record {
      spare = both.0;
      planned = goes_cell (length c.args.spares.items) c.args.row.now.items (length l.spares.items) (length fewer) l.row.items c.cut.new.row.items
          l.slots.items more (record { row = c.cut.new.slot }) less c.cut.ensures.rest
          (c.cut.ensures.few, enough) c.cut.ensures.batch c.add.ensures.items l.invariant.planned;
      room = (let a = l.invariant.room in let b = c.add.ensures.room in let d = ap length c.add.ensures.items in let e =
          length_push l.slots.items (record { row = c.cut.new.slot }) in omega (arith, a, b, d, e, less));
    }

pub add-requires : goal.add-requires
add-requires g c =
    let l = c.loop-spare in
    let fewer = c.pop.new.self.items in
    let last : l.spares.items ≡ fewer ++ c.in-Some.spare ∷ [] = search rules in
    let long = ap length last in
    let push = length_push fewer c.in-Some.spare in
    let fits = l.invariant.room in
    omega (arith, long, push, fits)

pub returns : goal.returns
returns g c =
    let l = c.loop-spare in
    let none : length l.spares.items ≡ 0 = search rules in
    goes_none (length c.args.spares.items) c.args.row.now.items (length l.spares.items) l.row.items l.slots.items none l.invariant.planned
