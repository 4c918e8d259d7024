-- The maximal cones of a fan.
use Rattle.std.specs.Prelude.{[], List, map, slice_index_or}
use Rattle.gf_fan.specs.declared.cones.FanCone.{FanCone}
use Rattle.gf_fan.specs.FanLists.{FanLists}

-- what stands where there is no cone
abbrev pub no_cone : FanCone
no_cone = record { dim = 0; numbers = []; cone = record { ambient = 0; inequalities = []; equations = []; lineality = []; rays = []; implied = [] } }

-- the maximal cones of a fan, in order
abbrev pub maximal_of : FanLists → List FanCone
maximal_of f = map (λ i. slice_index_or f.cones i no_cone) f.maximal
