use Rattle.std.proofs.Common.{[], ap, refl, rules, subst, sym, ◌∙◌}
use Rattle.gf_reverse_search.specs.declared.mark.Mark.TheVariants.{Before, Finished}
use Rattle.gf_reverse_search.specs.Walk.{Advances}
use Rattle.gf_reverse_search.specs.Listing.{IsLeftAt, IsFirstOf}
use Rattle.gf_reverse_search.specs.Split.{AreSplitParts}
use Rattle.gf_reverse_search.proofs.SplitLaws.{split_parts}
use Rattle.gf_reverse_search.proofs.walker.Walker.split.Goals as goal

-- the first part stands at its own top
pub invariant_of-first : goal.invariant_of-first
invariant_of-first g c = record { node = search rules; top = c.in-Ok-Some.next; path = []; at = record { leads = refl; long = search rules } }

pub returns-in-Ok-None-clause-parts : goal.returns-in-Ok-None-clause-parts
returns-in-Ok-None-clause-parts g c = λ nodes l.
    (subst (IsFirstOf (IsLeftAt g.T.Tree.before g.T.Tree.up c.advance.new.self) nodes) c.in-Ok-None.field-0-is (c.in-Ok-None.ensures.list nodes l)).0

pub returns-in-Ok-Some-clause-parts : goal.returns-in-Ok-Some-clause-parts
returns-in-Ok-Some-clause-parts g c =
    let lt = g.T.Tree.before in
    let up = g.T.Tree.up in
    let old = c.args.self in
    let new = c.advance.new.self in
    rw (c.none.ensures)
    (λ nodes l. subst (λ w. AreSplitParts lt up nodes (record { tree = c.in-Ok.tree; here = c.in-Ok-Some.next; mark = Before; depth = 0 })
    (record { tree = w.tree; here = w.here; mark = Finished; depth = w.depth })) (sym c.rest-in-Ok-Some.view_is)
    (split_parts lt up g.met.T.Tree.strict old new (g.met.T.Tree.tree old.tree) c.in-Ok-Some.next c.in-Ok.tree
    (c.in-Ok.ensures.ok ∙ ap (λ w. w.tree) c.rest.view_is) c.in-Ok-Some.ensures.tree
    (subst (Advances lt up old new) c.in-Ok-Some.field-0-is c.in-Ok-Some.ensures.first) nodes l))
