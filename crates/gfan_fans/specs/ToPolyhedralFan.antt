-- `_topolyhedralfan`: its input, its output, and why it is refused.
use Rattle.std.specs.Prelude.{◌≡◌, ℕ, Bool, true, false, List, [], ◌++◌, length, Contains, ℤ, ◌∷◌}
use Rattle.std.specs.List.{AllZip}
use Rattle.gf_poly.specs.Marking.{MarkedPolynomials}
use Rattle.gf_gordan.specs.declared.error.ConeOverflow.{ConeOverflow}
use Rattle.gf_duality_theory.specs.Rays.{IsRays, IsImplied}
use Rattle.gf_rays.specs.Reached.{IsRaysStep}
use Rattle.gf_facets_theory.specs.Normals.{AreNormals}
use Rattle.gf_facets_theory.specs.Systems.{units}
use Rattle.gf_rays.specs.Cones.{RowsAndRays}
use Rattle.gf_reduced.specs.declared.error.CheckError.{CheckError}
use Rattle.gf_fan.specs.Pairs.{AreMeeting}
use Rattle.gf_front.specs.declared.options.ToPolyhedralFanOptions.{ToPolyhedralFanOptions}
use Rattle.gf_front.specs.declared.refusal.Refusal.{Refusal}
use Rattle.gf_front.specs.declared.refusal.Refusal.TheVariants as refusals
use Rattle.gf_items.specs.Sources.{ring_marked_sets}
use Rattle.gf_frame.specs.Loading.{Origin}
use Rattle.gf_frame.specs.Readings.{of_one}
use Rattle.gf_frame.specs.Commands.{Writing, Command}
use Rattle.gfan_common.specs.CheckedSets.{of_check}
use Rattle.gfan_common.specs.ReducedSets.{AreReducedAsRead, IsRefusedFrom, IsCheckedWithin}
use Rattle.gf_fan_files.specs.FanTexts.{IsFanText}
use Rattle.gfan_fans.specs.FanTexts.{IsNoFanText, IsFanOfConesWithin}

-- ---- the cones

-- the inequalities of the closed cone of a marked set: its normals, and after them, if the cone is intersected with the non-negative
-- orthant, the unit vectors
abbrev pub inequalities_of : Bool → ℕ → List (List ℤ) → List (List ℤ)
inequalities_of false n normals = normals
inequalities_of true n normals = normals ++ units n n

-- c is the closed cone of s, by its rows, its rays and its lineality space
pub record IsConeOfSet (cut : Bool) (s : MarkedPolynomials) (c : RowsAndRays) : Type 0 where
  pub normals : List (List ℤ)
  pub are_normals : AreNormals s.items normals
  pub ambient : c.ambient ≡ s.variables
  pub inequalities : c.inequalities ≡ inequalities_of cut s.variables normals
  pub equations : c.equations ≡ []
  pub rays : IsRays c.ambient c.inequalities c.equations c.lineality c.rays
  pub implied : IsImplied c.ambient c.inequalities c.equations c.implied

-- ---- what is written

-- the sets, in n variables, are reduced bases, and the text is that of the fan of their closed cones
pub record IsFanOfSetsText (cut : Bool) (n : ℕ) (sets : List MarkedPolynomials) (text : List ℕ) : Type 0 where
  pub reduced : AreReducedAsRead sets
  pub cones : List RowsAndRays
  pub are_cones : AllZip (IsConeOfSet cut) sets cones
  pub fan : IsFanText n cones text

-- ---- why it is refused

-- an operation of finding the rays of the cone of a set leaves its range
pub record IsConeStepOfSet (cut : Bool) (s : MarkedPolynomials) (o : ConeOverflow) : Type 0 where
  pub normals : List (List ℤ)
  pub are_normals : AreNormals s.items normals
  pub step : IsRaysStep s.variables (inequalities_of cut s.variables normals) [] o

-- an operation of finding the rays of the cone of one of the sets leaves its range
pub record IsConeStepOfSets (cut : Bool) (sets : List MarkedPolynomials) (o : ConeOverflow) : Type 0 where
  pub set : MarkedPolynomials
  pub contained : Contains sets set
  pub step : IsConeStepOfSet cut set o

-- a set is refused as a reduced basis; or none is, and the rays of the cone of one aren't found; or they are, and the cones have no fan, or
-- it isn't found or isn't written; or memory runs out
pub data IsNoFanOfSets (cut : Bool) (n : ℕ) (sets : List MarkedPolynomials) (r : Refusal) : Type 0 where
  at_set : (e : CheckError) → IsRefusedFrom 0 sets e → r ≡ of_check e → IsNoFanOfSets cut n sets r
  at_cone : (o : ConeOverflow) → AreReducedAsRead sets → IsConeStepOfSets cut sets o → r ≡ refusals.ConeOverflow o.row o.op o.left o.right →
      IsNoFanOfSets cut n sets r
  at_fan : (cones : List RowsAndRays) → AreReducedAsRead sets → AllZip (IsConeOfSet cut) sets cones → IsNoFanText n cones r → IsNoFanOfSets cut n sets r
  no_memory : r ≡ refusals.Memory → IsNoFanOfSets cut n sets r

-- the set is a reduced basis, and no operation of its checks or of finding the rays of its cone leaves its limits
pub record IsSetWithin (cut : Bool) (s : MarkedPolynomials) : Type 0 where
  pub checked : IsCheckedWithin s
  pub cone : (o : ConeOverflow) → IsConeStepOfSet cut s o → ⊥

-- each set is a reduced basis, and no operation of its checks or of finding the rays of its cone leaves its limits. The intersection of the
-- cones of any two is a face of both. No operation of finding the fan, or of writing it, leaves its range
pub record AreSetsWithin (cut : Bool) (n : ℕ) (sets : List MarkedPolynomials) : Type 0 where
  pub each : (s : MarkedPolynomials) → Contains sets s → IsSetWithin cut s
  pub meeting : (cones : List RowsAndRays) → AllZip (IsConeOfSet cut) sets cones → AreMeeting n cones
  pub fan : (cones : List RowsAndRays) → AllZip (IsConeOfSet cut) sets cones → IsFanOfConesWithin n cones

-- ---- the command

-- the command `_topolyhedralfan`: the fan of the closed cones of a list of marked reduced bases, each intersected with the non-negative
-- orthant if the option says so
abbrev pub to_polyhedral_fan_command : ToPolyhedralFanOptions → Command
to_polyhedral_fan_command o = record {
  Value = List (List ℕ) × List MarkedPolynomials;
  reads = Origin.the_input ∷ [];
  reading = of_one ring_marked_sets;
  checks = λ v. [];
  IsAnswer = λ v text. IsFanOfSetsText o.restrict (length v.0) v.1 text;
  IsCause = λ v r. IsNoFanOfSets o.restrict (length v.0) v.1 r;
  IsWithin = λ v. AreSetsWithin o.restrict (length v.0) v.1;
  writing = Writing.at_end;
}
