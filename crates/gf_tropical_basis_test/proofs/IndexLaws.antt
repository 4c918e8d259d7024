-- The maximal cones of a fan by their indices. To cite: rows_at, rows_long.
use Rattle.std.proofs.Common.{◌≡◌, ◌<◌, ℕ, length, get_or, arith, sym, ◌∙◌}
use Rattle.std.proofs.lemmas.List.{length-map, get_or-map}
use Rattle.gf_rays.specs.Cones.{RowsAndRays, rows_of}
use Rattle.gf_fan.specs.declared.cones.FanCone.{FanCone}
use Rattle.gf_fan.specs.ConeParts.{HasRowsAndRaysOf}
use Rattle.gf_fan.specs.FanLists.{FanLists}
use Rattle.gf_fan.specs.MaximalCones.{no_cone, maximal_of}
use Rattle.gf_fan.proofs.WholeLaws.{maximal_long, same_rows}
use Rattle.gf_tropical_basis_test.specs.Verdicts.{maximal_rows}

pub rows_long : (h : FanLists) → length (maximal_rows h) ≡ length h.maximal
rows_long h = length-map (maximal_of h) (λ (k : FanCone). rows_of k.cone) ∙ maximal_long h

-- the rows that stand at an index
pub rows_at : (h : FanLists) (i : ℕ) (w : RowsAndRays) → i < length h.maximal → HasRowsAndRaysOf w (get_or (maximal_of h) i no_cone).cone →
    rows_of w ≡ get_or (maximal_rows h) i (rows_of w)
rows_at h i w l s =
    let long = maximal_long h in
    same_rows w (get_or (maximal_of h) i no_cone).cone s ∙ sym (get_or-map (λ (c : FanCone). rows_of c.cone) (maximal_of h) i no_cone (rows_of w)
    (omega (arith, l, long)))
