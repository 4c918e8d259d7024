-- What no command reports whose polynomials are written as monomials and differences of two, without numbers. Laws: proofs/PlainLaws.antt.
use Rattle.std.specs.Prelude.{ℕ, List}
use Rattle.gf_frac.specs.declared.refusal.Overflow.{Overflow}
use Rattle.gf_front.specs.declared.options.BuchbergerOptions.{BuchbergerOptions}
use Rattle.gf_front.specs.declared.options.BasesOptions.{BasesOptions}
use Rattle.gf_front.specs.declared.options.GeneratedOptions.{GeneratedOptions}
use Rattle.gf_front.specs.declared.options.SaturationOptions.{SaturationOptions}
use Rattle.gf_front.specs.declared.options.WeightVectorOptions.{WeightVectorOptions}
use Rattle.gf_front.specs.declared.options.GroebnerConeOptions.{GroebnerConeOptions}
use Rattle.gf_front.specs.declared.options.TropicalIntersectionOptions.{TropicalIntersectionOptions}
use Rattle.gf_front.specs.declared.refusal.Refusal.TheVariants as refusals
use Rattle.gf_frame.specs.Commands.{Command, IsRefusedOn}
use Rattle.gfan_sets.specs.Buchberger.{buchberger_command}
use Rattle.gfan_sets.specs.Saturation.{saturation_command}
use Rattle.gfan_sets.specs.WeightVector.{weight_vector_command}
use Rattle.gfan_sets.specs.Marked.{marked_command}
use Rattle.gfan_sets.specs.Containment.{containment_command}
use Rattle.gfan_fans.specs.GroebnerCone.{groebner_cone_command}
use Rattle.gfan_fans.specs.BasisTest.{intersection_command}
use Rattle.gfan_lists.specs.ListCommand.{bases_command}
use Rattle.gfan_generated.specs.Generated.{generated_command}
use Rattle.gfan_plain_theory.specs.PlainInputs.{IsPlainSource, IsPlainFrom, IsPlainToWeigh, IsPlainCone, IsOneText, BeginsPlainly, BeginsWithTwoPlainly}
use Rattle.gfan_plain_theory.specs.PlainInputs.{BeginsWithPlainSets}

-- on texts of this kind the command never reports the overflow of a coefficient
abbrev pub TellsNoOverflow : Command → (List (List ℕ) → Type 0) → Type 0
TellsNoOverflow c Are = (texts : List (List ℕ)) (x : Overflow) → Are texts → IsRefusedOn c texts (refusals.Overflow x) → ⊥

-- so it is with bases, lists of bases, saturations, weights, cones, prevarieties and the tests of marked sets, whatever the options; and with the summaries of
-- lists, which read nothing
pub record PlainInputsTellNoOverflow : Type 0 where
  pub bases : (o : BuchbergerOptions) → TellsNoOverflow (buchberger_command o) IsPlainSource
  pub lists : (o : BasesOptions) → TellsNoOverflow (bases_command o) (IsPlainFrom o.after o.within)
  pub summaries : (o : GeneratedOptions) (texts : List (List ℕ)) (x : Overflow) → IsRefusedOn (generated_command o) texts (refusals.Overflow x) → ⊥
  pub saturations : (o : SaturationOptions) → TellsNoOverflow (saturation_command o) IsPlainSource
  pub weights : (o : WeightVectorOptions) → TellsNoOverflow (weight_vector_command o) (IsPlainToWeigh o.listed)
  pub cones : (o : GroebnerConeOptions) → TellsNoOverflow (groebner_cone_command o) (IsPlainCone o.vector_input)
  pub prevarieties : (o : TropicalIntersectionOptions) → TellsNoOverflow (intersection_command o) IsPlainSource
  pub marks : TellsNoOverflow marked_command IsPlainSource
  pub members : TellsNoOverflow containment_command (IsOneText BeginsWithTwoPlainly)

-- there are such texts: of one set, of two, and of a list of sets
pub record PlainTextsExist : Type 0 where
  pub one : (source : List ℕ) × BeginsPlainly source
  pub two : (source : List ℕ) × BeginsWithTwoPlainly source
  pub listed : (source : List ℕ) × BeginsWithPlainSets source
