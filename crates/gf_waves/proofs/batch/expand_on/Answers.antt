use Rattle.std.proofs.Common.{◌≡◌, ◌++◌, ◌+◌, ◌-◌, ◌≤◌, ◌⊎◌, length, refl, ◌∙◌, sym, ap, subst, append_assoc, length-append, inl, inr, rules, arith}
use Rattle.std.proofs.lemmas.Bool.{eqb-true}
use Rattle.std.specs.VecDeque.{deque_len}
use Rattle.gf_reverse_search.specs.Pieces.{RefusesAt}
use Rattle.gf_waves.specs.Wave.{ExpandsOn}
use Rattle.gf_waves.proofs.BatchLaws.{on_over}
use Rattle.gf_waves.proofs.batch.expand_on.Goals.{then-loop-left-test+then-not-is_empty+else-len-limit, then-loop-left-test+else-not-is_empty}
use Rattle.gf_waves.proofs.batch.expand_on.Goals.{else-loop-left-test}
use Rattle.gf_waves.proofs.batch.expand_on.Goals as goal

pub loop-left-init : goal.loop-left-init
loop-left-init g c =
    let lt = g.T.Tree.before in
    let up = g.T.Tree.up in
    let refuses = RefusesAt up g.T.Tree.refuses in
    let row = c.args.slot.row.items in
    let empty = c.requires.spare.0 in
    let none : length c.args.done.items ≡ 0 = ap length empty in
    record {
      on = λ n j i news e h. subst (ExpandsOn lt up refuses c.args.times c.args.room row j i) (sym (ap (λ d. d ++ news) empty))
          (subst (λ k. ExpandsOn lt up refuses c.args.times k row j i news) (let k : n ≡ c.args.room = omega (arith, e, none) in k) h);
      few = omega (arith, none);
      room = c.requires.fit.1;
      room_for_done = c.requires.spare.1;
    }

pub loop-left-preserved : goal.loop-left-preserved
loop-left-preserved g c =
    let lt = g.T.Tree.before in
    let up = g.T.Tree.up in
    let refuses = RefusesAt up g.T.Tree.refuses in
    let s = c.step-left.ensures in
    let on = s.on in
    let i = c.loop-left.invariant in
    let row = c.args.slot.row.items in
    let long : c.len.result ≡ length row = search rules in
    let before = c.len.result + c.args.room - (length c.loop-left.done.items + length c.loop-left.row.items) in
    let after = c.len.result + c.args.room - (length c.step-left.new.done.items + length c.step-left.new.row.items) in
    record {
      on = λ n q m news e h.
          let same : n ≡ after = omega (arith, e, long) in
          subst (ExpandsOn lt up refuses c.args.times c.args.room row q m)
          (sym (ap (λ d. d ++ news) on.1 ∙ append_assoc c.loop-left.done.items on.0 news))
          (i.on before q m (on.0 ++ news) (omega (arith, long)) (on.2 q m news
          (subst (λ k. ExpandsOn lt up refuses c.step-left.result k c.step-left.new.row.items q m news) same h)));
      few = (let a = s.few in omega (arith, a, long));
      room = (let a = i.room in let b = s.room in omega (arith, a, b));
      room_for_done = (let a = i.room_for_done in let b = s.room_for_done in omega (arith, a, b));
    }

pub returns-clause-on : goal.returns-clause-on
returns-clause-on g c =
    let lt = g.T.Tree.before in
    let up = g.T.Tree.up in
    let refuses = RefusesAt up g.T.Tree.refuses in
    let l = c.loop-left in
    let row = c.args.slot.row.items in
    let n = length row + c.args.room - (length l.done.items + length l.row.items) in
    let start : c.len.result ≡ length row = search rules in
    let over : (l.left ≡ 0) ⊎ ((length l.row.items ≡ 0) ⊎ (n ≤ 1)) = elim c.loop-left-test.branch [
      | then-loop-left-test+then-not-is_empty+else-len-limit w ↦
          let a : w.len-then-not-is_empty.result ≡ length l.done.items = search rules in
          let b : w.len-then-not-is_empty-2.result ≡ length l.row.items = search rules in
          let few = w.if-len-limit.false in
          inr (inr (omega (arith, start, a, b, few)))
      | then-loop-left-test+else-not-is_empty w ↦
          let e : deque_len l.row ≡ 0 = eqb-true (deque_len l.row) 0 (sym w.is_empty.ensures ∙ w.if-not-is_empty.false) in
          let k : deque_len l.row ≡ length l.row.items = search rules in
          inr (inl (omega (arith, e, k)))
      | else-loop-left-test w ↦ inl (let e = w.loop-left-test.false in omega (arith, e))
    ] in
    let long = ap length c.move_behind.ensures.items in
    let parts = length-append l.done.items l.row.items in
    let end : c.len-2.result ≡ length c.move_behind.new.row.items = search rules in
    let same : n ≡ c.len.result + c.args.room - c.len-2.result = omega (arith, start, end, long, parts) in
    subst (λ m. ExpandsOn lt up refuses c.args.times c.args.room row l.left m c.move_behind.new.row.items) same
    (subst (ExpandsOn lt up refuses c.args.times c.args.room row l.left n) (sym c.move_behind.ensures.items)
    (l.invariant.on n l.left n l.row.items refl (on_over lt up refuses l.left n l.row.items over)))
