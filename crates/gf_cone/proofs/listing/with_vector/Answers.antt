use Rattle.std.proofs.Common.{subst, List, ℤ, ℕ, ◌≤◌}
use Rattle.gf_cone.specs.Placing.{IsPlacing}
use Rattle.gf_cone.proofs.ListingLaws.{inserted, index_inside}
use Rattle.gf_cone.proofs.listing.with_vector.Goals as goal

pub insert-requires : goal.insert-requires
insert-requires c = subst (λ (m : ℕ). c.in-New.index ≤ m) c.as_slice.ensures.len (index_inside c.args.v c.in-New.index c.as_slice.result.now
    (subst (IsPlacing c.as_slice.result.now c.args.v) c.in-New.is c.index_in.ensures))

pub returns-in_ok-insert-in-New-clause-rises : goal.returns-in_ok-insert-in-New-clause-rises
returns-in_ok-insert-in-New-clause-rises c = (inserted c.args.v c.in-New.index c.args.list.items c.insert.new.self.items c.requires
    (subst (IsPlacing c.args.list.items c.args.v) c.in-New.is (subst (λ (z : List (List ℤ)). IsPlacing z c.args.v c.index_in.result)
    c.as_slice.ensures.value c.index_in.ensures)) c.in_ok-insert-in-New.ensures.items).rises

pub returns-in_ok-insert-in-New-clause-has : goal.returns-in_ok-insert-in-New-clause-has
returns-in_ok-insert-in-New-clause-has c = (inserted c.args.v c.in-New.index c.args.list.items c.insert.new.self.items c.requires
    (subst (IsPlacing c.args.list.items c.args.v) c.in-New.is (subst (λ (z : List (List ℤ)). IsPlacing z c.args.v c.index_in.result)
    c.as_slice.ensures.value c.index_in.ensures)) c.in_ok-insert-in-New.ensures.items).has
