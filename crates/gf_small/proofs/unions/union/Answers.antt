use Rattle.std.proofs.Common.{◌≡◌, get_or, List, sym, subst}
use Rattle.gf_text.specs.declared.written.Written.{Written}
use Rattle.gf_text.specs.Sets.{AreIn}
use Rattle.gf_text.specs.SetLists.{sets_in}
use Rattle.gf_small.proofs.UnionsLaws.{UnitedSoFar, united-none, united-more, set_at, set_inside, in_set}
use Rattle.gf_small.proofs.KeyLaws.{keyed-none}
use Rattle.gf_small.proofs.unions.union.Goals as goal

pub sets-init : goal.sets-init
sets-init c = (
  subst (λ (k : List Written). UnitedSoFar (sets_in c.args.sets.now) k 0) (sym c.new-kept.ensures.items) (united-none (sets_in c.args.sets.now)),
  keyed-none c.new-kept.result.items c.new-keys.result.keys c.new-kept.ensures.items c.new-keys.ensures.empty,
)

pub add_new-requires : goal.add_new-requires
add_new-requires c = record {
  variables = (
    c.requires.n,
    (
      c.sets.invariant.0.variables c.requires.n c.requires.each,
      subst (AreIn c.requires.n) (sym c.as_slice.ensures.value) (in_set c.requires.n (sets_in c.args.sets.now) c.sets.i c.index-sets-i.result.items
          (set_inside c.args.sets.now c.sets.i c.sets-test.true) (set_at c.args.sets.now c.sets.i c.index-sets-i.result c.sets-test.true c.index-sets-i.is)
          c.requires.each),
    ),
  );
  keyed = c.sets.invariant.1;
}

pub sets-preserved : goal.sets-preserved
sets-preserved c = (
  united-more (sets_in c.args.sets.now) c.sets.kept.items c.add_new.new.kept.items c.as_slice.result.now c.sets.i
      (set_inside c.args.sets.now c.sets.i c.sets-test.true)
      (subst (λ (s : List Written). s ≡ get_or (sets_in c.args.sets.now) c.sets.i s) (sym c.as_slice.ensures.value)
      (set_at c.args.sets.now c.sets.i c.index-sets-i.result c.sets-test.true c.index-sets-i.is))
      c.in_ok-add_new.ensures.first_seen c.in_ok-add_new.ensures.variables c.sets.invariant.0,
  c.in_ok-add_new.ensures.keyed,
)
