use Rattle.std.proofs.Common.{refl, subst, [], ◌∷◌, List, ℤ}
use Rattle.std.proofs.lemmas.Bool.{false≢true}
use Rattle.gf_cone.specs.Placing.{Gathers}
use Rattle.gf_cone.proofs.RowsLaws.{same_row, other_row}
use Rattle.gf_cone.proofs.SmallLaws.{primitive_small}
use Rattle.gf_cone.proofs.ListingLaws.{HasMore, gathers_none, gathers_one, has_small}
use Rattle.gf_cone.proofs.listing.with_normal.Goals as goal

pub returns-then-is_same-clause-gathers : goal.returns-then-is_same-clause-gathers
returns-then-is_same-clause-gathers c = subst (λ (z : List (List ℤ)). Gathers c.args.list.items z c.args.list.items)
    (same_row c.args.x.now c.args.y.now [] (c.if-is_same.ensures.0 refl)) (gathers_none c.args.list.items c.requires.rises)

pub returns-clause-gathers : goal.returns-clause-gathers
returns-clause-gathers c =
    let m : HasMore c.args.list.items c.primitive.new.self c.in_ok-more.more.items = record {
      rises = c.in_ok-more.ensures.rises;
      has = c.in_ok-more.ensures.has;
    } in
    subst (λ (z : List (List ℤ)). Gathers c.args.list.items z c.in_ok-more.more.items)
    (other_row c.args.x.now c.args.y.now [] (c.in_ok-normal.normal ∷ []) c.in_ok-normal.normal c.requires.widths
    (λ e. false≢true (c.if-is_same.ensures.1 e)) c.in_ok-normal.ensures.value refl)
    (gathers_one c.args.list.items c.in_ok-more.more.items c.in_ok-normal.normal c.primitive.new.self c.primitive.ensures m)

pub returns-clause-small : goal.returns-clause-small
returns-clause-small c =
    let m : HasMore c.args.list.items c.primitive.new.self c.in_ok-more.more.items = record {
      rises = c.in_ok-more.ensures.rises;
      has = c.in_ok-more.ensures.has;
    } in
    has_small c.args.list.items c.in_ok-more.more.items c.primitive.new.self
    (primitive_small c.in_ok-normal.normal c.primitive.new.self c.primitive.ensures c.in_ok-normal.ensures.small) c.requires.small m
