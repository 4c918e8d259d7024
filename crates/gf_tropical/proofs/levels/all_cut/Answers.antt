use Rattle.std.proofs.Common.{[], map, sym, subst}
use Rattle.gf_int_theory.proofs.ListLaws.{Contains-here}
use Rattle.gf_rays.specs.Cones.{rows_of}
use Rattle.gf_patterns_theory.specs.Patterns.{points}
use Rattle.gf_patterns_theory.specs.PatternFans.{IsFanOfPatterns}
use Rattle.gf_tropical.specs.Kinds.{IsAdmittedBy}
use Rattle.gf_tropical.proofs.CutLaws.{cut_next, cut_all}
use Rattle.gf_tropical.proofs.DifferenceRowLaws.{whole_by_differences}
use Rattle.gf_tropical.proofs.SetLaws.{within_set}
use Rattle.gf_tropical.proofs.TropicalFanLaws.{whole_by}
use Rattle.gf_tropical.proofs.levels.all_cut.Goals as goal

pub cutting-init : goal.cutting-init
cutting-init c = record {
  ambient = c.in_ok-cones.ensures.ambient;
  fan = subst (IsFanOfPatterns (IsAdmittedBy c.args.kind) c.args.n []) (sym c.in_ok-cones.ensures.rows) (whole_by c.args.kind c.args.n);
  rows = whole_by_differences (map points c.args.set.now) (map rows_of c.in_ok-cones.cones.items) c.in_ok-cones.ensures.rows;
}

pub cutting-preserved : goal.cutting-preserved
cutting-preserved c = record {
  ambient = c.in_ok-cones-2.ensures.ambient;
  fan = cut_next c.args.kind c.args.n c.args.set.now c.cutting.i c.index-set-i.result (map rows_of c.cutting.cones.items)
      (map rows_of c.in_ok-cones-2.cones.items) c.requires.not_zero c.cutting-test.true c.index-set-i.is c.in_ok-cones-2.ensures.fan c.cutting.invariant.fan;
  rows = c.in_ok-cones-2.ensures.rows (map points c.args.set.now)
      (within_set c.args.set.now c.cutting.i c.index-set-i.result c.cutting-test.true c.index-set-i.is (points c.index-set-i.result)
      (Contains-here (points c.index-set-i.result) [])) c.cutting.invariant.rows;
}

pub returns-clause-fan : goal.returns-clause-fan
returns-clause-fan c = cut_all c.args.kind c.args.n c.args.set.now c.cutting.i (map rows_of c.cutting.cones.items) c.cutting-test.false c.cutting.invariant.fan
