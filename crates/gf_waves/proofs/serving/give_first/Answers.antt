use Rattle.std.proofs.Common.{◌≡◌, ◌∷◌, inl, inr, sym, subst, rules, Ok, Some}
use Rattle.gf_reverse_search.specs.Pieces.{RefusesAt}
use Rattle.gf_reverse_search.specs.Walk.{Advances}
use Rattle.gf_reverse_search.specs.declared.expand.Piece.TheVariants.{Under}
use Rattle.gf_waves.specs.Wave.{IsGiven}
use Rattle.gf_waves.proofs.serving.give_first.Goals as goal

-- the walker in front gives the next node
pub returns-in-Ok-Some-clause-given : goal.returns-in-Ok-Some-clause-given
returns-in-Ok-Some-clause-given g c =
    let lt = g.T.Tree.before in
    let up = g.T.Tree.up in
    let w = c.in-Under.walker in
    let x = c.advance.new.self in
    let v = c.in-Ok-Some.node in
    let rest = c.pop_front.new.self.items in
    let news = c.push_before-in-Ok-Some.new.row.items in
    let whole : c.loop-piece.row.items ≡ Under w ∷ rest = search rules in
    let is : news ≡ Under x ∷ rest = search rules in
    let steps = subst (Advances lt up w x) c.in-Ok-Some.field-0-is c.in-Ok-Some.ensures.first in
    c.loop-piece.invariant.given (Ok (Some v)) news
    (subst (λ r. IsGiven lt up (RefusesAt up g.T.Tree.refuses) r (Ok (Some v)) news) (sym whole) (inl (x, steps, c.in-Ok-Some.ensures.tree, is)))

-- a walker in front that has nothing left goes away
pub loop-piece-preserved : goal.loop-piece-preserved
loop-piece-preserved g c =
    let lt = g.T.Tree.before in
    let up = g.T.Tree.up in
    let w = c.in-Under.walker in
    let rest = c.pop_front.new.self.items in
    let whole : c.loop-piece.row.items ≡ Under w ∷ rest = search rules in
    let steps = subst (Advances lt up w c.advance.new.self) c.in-Ok-None.field-0-is c.in-Ok-None.ensures.first in
    record {
      given = λ answer news h. c.loop-piece.invariant.given answer news (subst (λ r. IsGiven lt up (RefusesAt up g.T.Tree.refuses) r answer news) (sym whole)
          (inr (λ top r at. (steps top r at).none, h)));
      few = search rules;
    }
