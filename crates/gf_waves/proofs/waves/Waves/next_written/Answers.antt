use Rattle.std.proofs.Common.{inl, sym, subst}
use Rattle.gf_reverse_search.specs.Listing.{IsLeftAt}
use Rattle.gf_reverse_search.specs.Pieces.{PiecesLeave, RefusesAt}
use Rattle.gf_waves.specs.Frontier.{IsFrontRefused}
use Rattle.gf_reverse_search.proofs.RefusalLaws.{refused_here}
use Rattle.gf_waves.proofs.RefusedLaws.{starved_refused}
use Rattle.gf_waves.proofs.waves.Waves.next_written.Goals as goal

pub returns-in-Err-clause-list : goal.returns-in-Err-clause-list
returns-in-Err-clause-list g c =
    rw (← c.self.view_is) (λ nodes l. subst (λ r. PiecesLeave (IsLeftAt g.T.Tree.before g.T.Tree.up) r nodes) (sym c.in-Err.ensures.unchanged) l)

pub returns-clause-call : goal.returns-clause-call
returns-clause-call g c = rw (← c.self.view_is) (inl (c.work_off.new.row.items, c.in_default.ensures.worked, c.give.ensures.given))

pub returns-clause-list : goal.returns-clause-list
returns-clause-list g c = rw (← c.self.view_is) (λ nodes l. c.give.ensures.list c.self.inside.workers c.self.inside.batches c.work_off.new.batches
    c.self.inside.row.items nodes c.in_default.ensures.worked l)

-- want of memory may refuse any walker
pub returns-in-Err-clause-refused : goal.returns-in-Err-clause-refused
returns-in-Err-clause-refused g c =
    let lt = g.T.Tree.before in
    let up = g.T.Tree.up in
    let refuses = RefusesAt up g.T.Tree.refuses in
    let e = c.no_memory.result in
    subst (λ r. IsFrontRefused refuses r e) (sym c.in-Err.ensures.unchanged) (starved_refused lt up refuses c.self.inside.row.items e c.in-Err.ensures.starved
    (λ w. refused_here (up w.tree) (g.T.Tree.refuses w.tree) w.here w.depth e (c.no_memory.ensures.refused w.tree w.here)))
