use Rattle.std.proofs.Common.{◌≡◌, sym, subst, rules, true, IsTrue, List}
use Rattle.gf_fan.specs.declared.cones.FanCone.{FanCone}
use Rattle.gf_fan.specs.Found.{IsFound, IsLastIndex, index_in}
use Rattle.gf_fan.proofs.ListingLaws.{IsConeOf, listed_more, listed_passed, listed_all}
use Rattle.gf_fan.proofs.listing.listed_of.Goals as goal
use Rattle.gf_fan.proofs.listing.listed_of.Goals.{then-not-is_last+in_ok-fan_cone+in_ok-push, else-not-is_last}

pub fan_cone-requires : goal.fan_cone-requires
fan_cone-requires c = (
  c.requires.found.0,
  subst (IsFound c.args.cones.now c.requires.found.0) (sym c.f-item.is)
      (c.requires.found.1 c.loop-f.f-index c.f-item.result c.loop-f-test.true),
)

pub loop-f-preserved : goal.loop-f-preserved
loop-f-preserved c = elim c.if-not-is_last.branch [
  | then-not-is_last+in_ok-fan_cone+in_ok-push w ↦
      rw w.out-is (listed_more (IsConeOf c.args.cones.now) c.args.found.now c.loop-f.f-index c.f-item.result w.in_ok-fan_cone.field-0
      c.loop-f.out.items _ c.loop-f-test.true c.f-item.is c.requires.sorted
      (λ p. let t : c.is_last.result ≡ true = c.is_last.ensures.1 (subst (λ (l : List FanCone). IsLastIndex l (index_in c.f-item.result))
      (sym c.deref.ensures.value) p) in absurd (search rules)) w.in_ok-push.ensures.items w.in_ok-fan_cone.ensures.index w.in_ok-fan_cone.ensures.ok
      c.loop-f.invariant)
  | else-not-is_last w ↦
      let t : IsTrue c.is_last.result = search rules in
      rw w.out-is (listed_passed (IsConeOf c.args.cones.now) c.args.found.now c.loop-f.f-index c.f-item.result c.loop-f.out.items c.loop-f-test.true
      c.f-item.is (subst (λ (l : List FanCone). IsLastIndex l (index_in c.f-item.result)) c.deref.ensures.value (c.is_last.ensures.0 t)) c.loop-f.invariant)
]

pub returns : goal.returns
returns c = λ n lin rays ambient lines up all. listed_all n c.args.cones.now lin rays (IsConeOf c.args.cones.now) c.args.found.now c.loop-f.f-index
    c.loop-f.out.items c.loop-f-test.false ambient lines up all (λ f k p g. p n lin rays ambient lines up g) c.loop-f.invariant
