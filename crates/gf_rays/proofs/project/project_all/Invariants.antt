use Rattle.std.proofs.Common.{◌++◌, take}
use Rattle.std.specs.List.{AllZip}
use Rattle.gf_rays.specs.Projections.{IsProjectedRay}
use Rattle.gf_rays.proofs.project.project_all.Given as goal

abbrev pub invariant-loop-ray : goal.invariant-loop-ray
invariant-loop-ray l = AllZip (IsProjectedRay (l.inequalities ++ l.equations) l.lineality) (take l.ray-index l.rays) l.out.items
