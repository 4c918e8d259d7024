-- `_groebnercone`: its input, its output, and why it is refused.
use Rattle.std.specs.Prelude.{◌≡◌, ℕ, Bool, true, false, List, [], ◌∷◌, ◌++◌, ℤ}
use Rattle.gf_poly.specs.Marking.{MarkedPolynomials, HaveVariables}
use Rattle.gf_facets_theory.specs.Normals.{AreNormals}
use Rattle.gf_reduced.specs.declared.error.CheckError.{CheckError}
use Rattle.gf_reduced.specs.Markings.{IsMarkedGroebnerBasis}
use Rattle.gf_reduced.specs.Terms.{AreReduced}
use Rattle.gf_reduced.specs.Refusals.{IsReducedRefusal, AreChecksWithinLimits}
use Rattle.gf_front.specs.declared.options.GroebnerConeOptions.{GroebnerConeOptions}
use Rattle.gf_front.specs.declared.refusal.Refusal.{Refusal}
use Rattle.gf_items.specs.Sources.{ring_marked_set, dimension_two_lists}
use Rattle.gf_frame.specs.Loading.{Origin}
use Rattle.gf_frame.specs.Readings.{of_one}
use Rattle.gf_frame.specs.Commands.{Writing, Command}
use Rattle.gfan_common.specs.CheckedSets.{of_check}
use Rattle.gfan_common.specs.ToolForms.{for_space, for_each}
use Rattle.gfan_fans.specs.ToldCones.{IsConeTold, IsUntold, IsTellingWithin}

-- ---- the cone of a marked reduced basis

-- the set is the reduced Gröbner basis for its marking, and the text describes its closed cone, the vectors on which none of its normals is
-- negative
pub record IsBasisConeText (o : GroebnerConeOptions) (s : MarkedPolynomials) (text : List ℕ) : Type 0 where
  pub basis : IsMarkedGroebnerBasis s.variables s.items
  pub reduced : AreReduced s.items
  pub normals : List (List ℤ)
  pub are_normals : AreNormals s.items normals
  pub cone : IsConeTold o s.variables normals [] text

-- the set is refused as a reduced basis; or it is one, and the description of its cone is refused
pub data IsBasisConeCause (o : GroebnerConeOptions) (s : MarkedPolynomials) (r : Refusal) : Type 0 where
  at_check : (e : CheckError) → IsReducedRefusal 0 s e → r ≡ of_check e → IsBasisConeCause o s r
  at_cone : (normals : List (List ℤ)) → IsMarkedGroebnerBasis s.variables s.items → AreReduced s.items → AreNormals s.items normals →
      IsUntold o s.variables normals [] r → IsBasisConeCause o s r

-- the members of the set are in its variables, the set is a reduced basis, no operation of its checks leaves its limits, nor does one of
-- describing its cone
pub record IsBasisConeWithin (o : GroebnerConeOptions) (s : MarkedPolynomials) : Type 0 where
  pub variables : HaveVariables s.variables s.items
  pub basis : IsMarkedGroebnerBasis s.variables s.items
  pub reduced : AreReduced s.items
  pub checks : AreChecksWithinLimits s
  pub cone : (normals : List (List ℤ)) → AreNormals s.items normals → IsTellingWithin o s.variables normals []

-- ---- the command

-- the command for the cone of a marked reduced basis; or, with vectors as input, for the cone of inequalities and equations in a space of
-- the dimension that is read, each of which has an entry for each variable, where the inequalities are checked first
abbrev pub cone_command : (vector_input : Bool) → GroebnerConeOptions → Command
cone_command false o = record {
  Value = List (List ℕ) × MarkedPolynomials;
  reads = Origin.the_input ∷ [];
  reading = of_one ring_marked_set;
  checks = λ v. [];
  IsAnswer = λ v text. IsBasisConeText o v.1 text;
  IsCause = λ v r. IsBasisConeCause o v.1 r;
  IsWithin = λ v. IsBasisConeWithin o v.1;
  writing = Writing.at_end;
}
cone_command true o = record {
  Value = ℕ × (List (List ℤ) × List (List ℤ));
  reads = Origin.the_input ∷ [];
  reading = of_one dimension_two_lists;
  checks = λ v. for_space v.0 ∷ for_each v.0 (v.1.0 ++ v.1.1);
  IsAnswer = λ v text. IsConeTold o v.0 v.1.0 v.1.1 text;
  IsCause = λ v r. IsUntold o v.0 v.1.0 v.1.1 r;
  IsWithin = λ v. IsTellingWithin o v.0 v.1.0 v.1.1;
  writing = Writing.at_end;
}

-- the command `_groebnercone` with these options
abbrev pub groebner_cone_command : GroebnerConeOptions → Command
groebner_cone_command o = cone_command o.vector_input o
