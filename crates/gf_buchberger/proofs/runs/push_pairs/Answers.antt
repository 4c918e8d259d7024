use Rattle.std.proofs.Common.{arith, refl}
use Rattle.gf_buchberger.proofs.CoveredLaws.{mark_at, join_entries, multiple_of_marks}
use Rattle.gf_buchberger.proofs.RunLaws.{pushed_none, passed_more, pushed_more}
use Rattle.gf_buchberger.proofs.runs.push_pairs.Goals as goal

pub members-init : goal.members-init
members-init c = pushed_none _ _ _ _ _

pub key-requires : goal.key-requires
key-requires c = join_entries _ _ _ _ _ _ _ _ _ c.requires.comparable
    (mark_at _ _ _ _ (omega (arith, c.requires.inside, c.members-test.true)) c.index-members-i.is c.head.ensures.value)
    (mark_at _ _ _ _ c.requires.inside c.index-members-second.is c.head-head.ensures.value) c.lcm-multiple.ensures

pub members-preserved-then-covers : goal.members-preserved-then-covers
members-preserved-then-covers c = passed_more _ _ _ _ _ _ _ (c.covers.ensures c.if-covers.true) c.members.invariant

pub members-preserved : goal.members-preserved
members-preserved c =
    let multiple =
    multiple_of_marks _ _ _ _ _ _ _ _ (mark_at _ _ _ _ (omega (arith, c.requires.inside, c.members-test.true)) c.index-members-i.is c.head.ensures.value)
    (mark_at _ _ _ _ c.requires.inside c.index-members-second.is c.head-head.ensures.value) c.lcm-multiple.ensures in
    pushed_more _ _ _ _ _ _ _ _ _ refl refl
    (record {
      multiple = _;
      is = multiple;
      key = record { excess = _; degree = c.key.ensures.degree; level = c.key.ensures.level; exponents = c.key.ensures.exponents };
    }) c.in_ok-push.ensures.ok c.members.invariant
