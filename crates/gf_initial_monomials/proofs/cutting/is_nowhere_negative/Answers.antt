use Rattle.std.proofs.Common.{◌≡◌, List, ℤ, pos, Contains, subst, sym}
use Rattle.gf_vec.specs.Vector.{dot}
use Rattle.gf_gordan.specs.Alternative.{AreRows}
use Rattle.gf_rays.specs.Cones.{rows_of}
use Rattle.gf_initial_monomials.proofs.CutLaws.{above}
use Rattle.gf_initial_monomials.proofs.cutting.is_nowhere_negative.Goals as goal

pub is_zero_on_all-requires : goal.is_zero_on_all-requires
is_zero_on_all-requires c = subst (λ m. AreRows m c.lineality.result.now) (sym c.requires) c.lineality.ensures.rays.lin_width

pub is_negative_on_none-requires : goal.is_negative_on_none-requires
is_negative_on_none-requires c = subst (λ m. AreRows m c.rays.result.now) (sym c.requires) c.rays.ensures.rays.rays_width

pub returns : goal.returns
returns c = λ t. above c.args.cone.now.ambient (rows_of c.args.cone.now) c.args.cone.now.lineality c.rays.result.now c.args.row.now c.rays.ensures.rays
    (subst (λ (z : List (List ℤ)). (x : List ℤ) → Contains z x → dot c.args.row.now x ≡ pos 0) c.lineality.ensures.value
    (c.is_zero_on_all.ensures c.if-not-is_zero_on_all.false)) (c.is_negative_on_none.ensures t)
