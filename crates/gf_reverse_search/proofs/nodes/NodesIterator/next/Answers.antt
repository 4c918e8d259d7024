use Rattle.std.proofs.Common.{◌≡◌, ◌+◌, inr, refl, sym, subst}
use Rattle.std.specs.Prelude.{IfNone, IfSome}
use Rattle.gf_reverse_search.specs.declared.mark.Mark.TheVariants.{Finished}
use Rattle.gf_reverse_search.specs.Walk.{Advances}
use Rattle.gf_reverse_search.specs.Listing.{IsLeftAt, IsFirstOf}
use Rattle.gf_reverse_search.specs.Nodes.{HasFewLeft}
use Rattle.gf_reverse_search.proofs.NodesLaws.{bounded-open, bounded-next, fewer-next}
use Rattle.gf_reverse_search.proofs.nodes.NodesIterator.next.Goals as goal

-- with one item more what is left is still bounded
pub invariant_of-self-in-Ok-Some : goal.invariant_of-self-in-Ok-Some
invariant_of-self-in-Ok-Some g c =
    let lt = g.T.Tree.before in
    let up = g.T.Tree.up in
    let s = c.self.inside in
    let b = bounded-open s.ended (HasFewLeft lt up g.T.FiniteTree.count s.walker s.given) c.if-self.false c.self.invariant in
    inr (bounded-next lt up g.T.Tree.is_node g.T.FiniteTree.count s.walker c.advance.new.self (g.met.T.FiniteTree.level s.walker.tree)
    c.in-Ok-Some.ensures.tree c.in-Ok-Some.node
    (subst (Advances lt up s.walker c.advance.new.self) c.in-Ok-Some.field-0-is c.in-Ok-Some.ensures.first)
    (λ nodes l. subst (IsFirstOf (IsLeftAt lt up c.advance.new.self) nodes) c.in-Ok-Some.field-0-is (c.in-Ok-Some.ensures.list nodes l))
    s.given c.raise.new.self c.in_default.ensures.ok b).0

pub returns-in-Ok-Some-clause-steps : goal.returns-in-Ok-Some-clause-steps
returns-in-Ok-Some-clause-steps g c =
    rw (← c.self.view_is) (
      c.if-self.false,
      c.if-self.false,
      sym (subst (λ o. IfSome o (λ v. v ≡ c.advance.new.self.here)) c.in-Ok-Some.field-0-is c.in-Ok-Some.ensures.here),
      c.in-Ok-Some.ensures.tree,
      λ nodes l. subst (IsFirstOf (IsLeftAt g.T.Tree.before g.T.Tree.up c.advance.new.self) nodes) c.in-Ok-Some.field-0-is
          (c.in-Ok-Some.ensures.list nodes l),
    )

pub returns-in-Ok-Some-clause-goes : goal.returns-in-Ok-Some-clause-goes
returns-in-Ok-Some-clause-goes g c =
    let lt = g.T.Tree.before in
    let up = g.T.Tree.up in
    let count = g.T.FiniteTree.count in
    let s = c.self.inside in
    let b = bounded-open s.ended (HasFewLeft lt up count s.walker s.given) c.if-self.false c.self.invariant in
    let more : c.raise.new.self ≡ s.given + 1 = c.in_default.ensures.ok in
    let n = bounded-next lt up g.T.Tree.is_node count s.walker c.advance.new.self (g.met.T.FiniteTree.level s.walker.tree)
    c.in-Ok-Some.ensures.tree c.in-Ok-Some.node
    (subst (Advances lt up s.walker c.advance.new.self) c.in-Ok-Some.field-0-is c.in-Ok-Some.ensures.first)
    (λ nodes l. subst (IsFirstOf (IsLeftAt lt up c.advance.new.self) nodes) c.in-Ok-Some.field-0-is (c.in-Ok-Some.ensures.list nodes l))
    s.given c.raise.new.self more b in
    rw (← c.self.view_is)
    (record {
      on = λ _. (
        tt,
        tt,
        fewer-next s.given c.raise.new.self (count s.walker.tree s.walker.here) (count c.advance.new.self.tree c.advance.new.self.here)
            s.ended s.ended c.if-self.false c.if-self.false more n.1 n.2,
      );
      keeps = tt;
      rests = λ _. tt;
    })

pub returns-in-Ok-None-clause-steps : goal.returns-in-Ok-None-clause-steps
returns-in-Ok-None-clause-steps g c =
    rw (← c.self.view_is) (
      refl,
      inr (
        subst (λ o. IfNone o (c.advance.new.self ≡ record c.self.inside.walker { mark = Finished }))
            c.in-Ok-None.field-0-is c.in-Ok-None.ensures.ended,
        λ nodes l. (subst (IsFirstOf (IsLeftAt g.T.Tree.before g.T.Tree.up c.advance.new.self) nodes)
            c.in-Ok-None.field-0-is (c.in-Ok-None.ensures.list nodes l)).0,
      ),
    )
