use Rattle.std.proofs.Common.{◌≡◌, ◌<◌, min, ◌++◌, ◌∷◌, map, length, ◌∙◌, sym, ap, subst, rules, arith}
use Rattle.std.proofs.lemmas.Bool.{eqb-true}
use Rattle.std.proofs.lemmas.List.{length_push}
use Rattle.std.specs.Vec.{vec_len}
use Rattle.gf_reverse_search.specs.Pieces.{RefusesAt}
use Rattle.gf_waves.specs.Plans.{AreExpanded, AreFit}
use Rattle.gf_waves.proofs.BatchLaws.{worked_more, worked_over, map_more}
use Rattle.gf_waves.proofs.PlanLaws.{first_out}
use Rattle.gf_waves.proofs.batch.work.Goals as goal

pub loop-alloc-init : goal.loop-alloc-init
loop-alloc-init g c =
    let lt = g.T.Tree.before in
    let up = g.T.Tree.up in
    let refuses = RefusesAt up g.T.Tree.refuses in
    let none = c.requires.fit.1 in
    record {
      on = λ rows a. subst (λ x. AreExpanded lt up refuses c.args.times c.args.room c.args.batch.slots.items (map (λ d. d.items) x ++ rows)) (sym none) a;
      fit = c.requires.fit.0;
      few = (let a = c.requires.room in omega (arith, a));
      room = (let a = ap length none in let b = c.requires.fit.2 in omega (arith, a, b));
      spare = c.requires.fit.3;
    }

pub expand_on-row-requires-clause-fit : goal.expand_on-row-requires-clause-fit
expand_on-row-requires-clause-fit g c =
    let l = c.loop-alloc in
    let slot = c.remove.result in
    let rest = c.remove.new.self.items in
    let some : 0 < length l.slots.items = search rules in
    let slots : l.slots.items ≡ slot ∷ rest = first_out l.slots.items rest slot some c.remove.ensures.value c.remove.ensures.items in
    (subst AreFit slots l.invariant.fit).0

pub keep-requires : goal.keep-requires
keep-requires g c =
    let l = c.loop-alloc in
    let some : 0 < length l.slots.items = search rules in
    let fits = l.invariant.room in
    omega (arith, some, fits)

-- the first cell is worked on
pub loop-alloc-preserved : goal.loop-alloc-preserved
loop-alloc-preserved g c =
    let l = c.loop-alloc in
    let slot = c.remove.result in
    let rest = c.remove.new.self.items in
    let row = c.expand_on-row.result.0 in
    let news = c.keep.new.worked.items in
    let some : 0 < length l.slots.items = search rules in
    let slots : l.slots.items ≡ slot ∷ rest = first_out l.slots.items rest slot some c.remove.ensures.value c.remove.ensures.items in
    let less : c.min-free.result ≡ min c.expand_on-row.result.2 56 = search rules in
    record {
      on = worked_more g.T.Tree.before g.T.Tree.up (RefusesAt g.T.Tree.up g.T.Tree.refuses) c.args.times c.args.room l.left l.free c.expand_on-row.result.1
          c.expand_on-row.result.2 c.min-free.result c.args.batch.slots.items l.slots.items rest slot
          (map (λ d. d.items) l.worked.items) (map (λ d. d.items) news) row.items slots (map_more (λ d. d.items) l.worked.items news row c.keep.ensures.items)
          c.expand_on-row.ensures.on c.expand_on-row.ensures.few less l.invariant.on;
      fit = (subst AreFit slots l.invariant.fit).1;
      few = search rules;
      room = (let a = ap length slots in let b = ap length c.keep.ensures.items in let d = length_push l.worked.items row in let e = l.invariant.room in let f =
          c.keep.ensures.room in omega (arith, a, b, d, e, f));
      spare = c.expand_on-row.ensures.spare;
    }

pub returns : goal.returns
returns g c =
    let l = c.loop-alloc in
    let none : length l.slots.items ≡ 0 = (let e = eqb-true (vec_len l.slots) 0 (sym c.is_empty.ensures ∙ c.loop-alloc-test.false) in omega (arith, e)) in
    worked_over g.T.Tree.before g.T.Tree.up (RefusesAt g.T.Tree.up g.T.Tree.refuses) c.args.times c.args.room l.left l.free c.args.batch.slots.items
    l.slots.items
    (map (λ d. d.items) l.worked.items) none l.invariant.on
