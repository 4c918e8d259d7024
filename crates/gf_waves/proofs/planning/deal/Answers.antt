use Rattle.std.proofs.Common.{◌≡◌, ◌<◌, ◌++◌, ◌∷◌, suc, [], length, sym, ap, refl, subst, append-nil, rules, arith}
use Rattle.std.proofs.lemmas.List.{length_push}
use Rattle.std.specs.Vec.{vec_capacity}
use Rattle.gf_waves.specs.Plans.{AreFit}
use Rattle.gf_waves.proofs.PlanLaws.{AreOpenHands, dealt_first, free_dealt, free_hands, fit_last, hands_last, hands_fewer, hands_fit, last_over}
use Rattle.gf_waves.proofs.planning.deal.Goals as goal

pub loop-slot-init : goal.loop-slot-init
loop-slot-init g c =
    let count = length c.args.slots.items in
    record {
      dealt = ([], sym (append-nil c.args.slots.items), free_dealt count c.args.batches.now.items c.requires.free);
      fit = c.requires.fit;
      open_hands = free_hands count c.args.batches.now.items c.requires.free;
      count = refl;
      room = search rules;
    }

pub unreachable-requires-then-is_err : goal.unreachable-requires-then-is_err
unreachable-requires-then-is_err g c =
    let l = c.loop-slot in
    let fewer = c.pop.new.self.items in
    let init = c.pop-in-Some.new.self.items in
    let batch = c.in-Some-pop.batch in
    let batches : l.batches.items ≡ init ++ batch ∷ [] = search rules in
    let last : l.slots.items ≡ fewer ++ c.in-Some.slot ∷ [] = search rules in
    let hand = (hands_last (length l.slots.items) init batch (subst (AreOpenHands (length l.slots.items)) batches l.invariant.open_hands)).1 in
    let long = ap length last in
    let push = length_push fewer c.in-Some.slot in
    let fits = hand.2 in
    let room : length batch.slots.items < vec_capacity batch.slots = omega (arith, fits, long, push) in
    search rules

-- the last cell that is there is put before those of the last batch, which comes first
pub loop-slot-preserved : goal.loop-slot-preserved
loop-slot-preserved g c =
    let l = c.loop-slot in
    let fewer = c.pop.new.self.items in
    let slot = c.in-Some.slot in
    let init = c.pop-in-Some.new.self.items in
    let batch = c.in-Some-pop.batch in
    let news = c.insert-in-Some.new.self.items in
    let batches : l.batches.items ≡ init ++ batch ∷ [] = search rules in
    let last : l.slots.items ≡ fewer ++ slot ∷ [] = search rules in
    let is : news ≡ record { slots = c.insert.new.self; worked = batch.worked; number = batch.number; spare = batch.spare } ∷ init = search rules in
    let more : c.insert.new.self.items ≡ slot ∷ batch.slots.items = search rules in
    let both = hands_last (length l.slots.items) init batch (subst (AreOpenHands (length l.slots.items)) batches l.invariant.open_hands) in
    let hand = both.1 in
    let long = ap length last in
    let push = length_push fewer slot in
    let less : length l.slots.items ≡ suc (length fewer) = omega (arith, long, push) in
    let fit = fit_last fewer slot (subst AreFit last l.invariant.fit) in
    let fits = hand.2 in
    let worked = hand.3 in
    let grown = ap length more in
    let kept = c.insert.ensures.capacity in
    let dealt = l.invariant.dealt in
    record {
      dealt = (
        slot ∷ dealt.0,
        last_over c.args.slots.items l.slots.items fewer dealt.0 slot dealt.1 last,
        dealt_first slot dealt.0 l.batches.items init news batch (record {
          slots = c.insert.new.self;
          worked = batch.worked;
          number = batch.number;
          spare = batch.spare;
        })
            batches is more dealt.2,
      );
      fit = fit.0;
      open_hands = subst (AreOpenHands (length fewer)) (sym is) (
        (subst AreFit (sym more) (fit.1, hand.0), hand.1, omega (arith, fits, less, grown, kept), omega (arith, worked, less, grown), hand.4),
        hands_fewer (length fewer) init (subst (λ m. AreOpenHands m init) less both.0),
      );
      count = (let a = ap length is in let b = ap length batches in let d = length_push init batch in let e = l.invariant.count in omega (arith, a, b, d, e));
      room = search rules;
    }

pub returns-clause-fit : goal.returns-clause-fit
returns-clause-fit g c = hands_fit (length c.loop-slot.slots.items) c.loop-slot.batches.items c.loop-slot.invariant.open_hands
