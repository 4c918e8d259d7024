-- `_weightvector`: its input, its output, and why it is refused.
use Rattle.std.specs.Prelude.{◌≡◌, ℕ, Bool, true, false, List, [], ◌∷◌, ◌++◌, length, flat_map, zip, All, Contains, ℤ, pos, ◌<ℤ◌}
use Rattle.std.specs.List.{AllZip}
use Rattle.gf_exponents_theory.specs.Orders.{gains}
use Rattle.gf_poly.specs.Marking.{MarkedPolynomials, HaveVariables, polys, IsArranged}
use Rattle.gf_ideal_theory.specs.Bases.{IsReducedBasis}
use Rattle.gf_reduced.specs.declared.error.CheckError.{CheckError}
use Rattle.gf_reduced.specs.Forms.{monic_set}
use Rattle.gf_reduced.specs.Terms.{AreReduced}
use Rattle.gf_reduced.specs.Markings.{IsMarkedGroebnerBasis}
use Rattle.gf_reduced.specs.Refusals.{AreChecksWithinLimits}
use Rattle.gf_weights.specs.declared.error.WeightError.{WeightError}
use Rattle.gf_weights.specs.Weights.{IsPrintedWeight}
use Rattle.gf_weights.specs.Refusals.{IsWeightCause, IsWeightWithinLimits}
use Rattle.gf_text.specs.RingText.{ring_text}
use Rattle.gf_text.specs.PrintedSets.{basis_text}
use Rattle.gf_text.specs.VectorText.{vector_text}
use Rattle.gf_front.specs.declared.options.WeightVectorOptions.{WeightVectorOptions}
use Rattle.gf_front.specs.declared.refusal.Refusal.{Refusal}
use Rattle.gf_front.specs.declared.refusal.Refusal.TheVariants as refusals
use Rattle.gf_items.specs.Sources.{ring_marked_set, ring_marked_sets}
use Rattle.gf_frame.specs.Loading.{Origin}
use Rattle.gf_frame.specs.Readings.{of_one}
use Rattle.gf_frame.specs.Commands.{Writing, Command}
use Rattle.gfan_common.specs.CheckedSets.{of_check}
use Rattle.gfan_common.specs.Causes.{of_weight_error}
use Rattle.gfan_common.specs.ReducedSets.{IsReducedAsRead, AreReducedAsRead, IsRefusedFrom}

-- ---- the weights

-- v is the weight that is printed for the reduced basis that s is
pub record IsWeightOfSet (s : MarkedPolynomials) (v : List ℤ) : Type 0 where
  pub basis : MarkedPolynomials
  pub read : IsReducedAsRead s basis
  pub weight : IsPrintedWeight basis.variables basis.items v

-- v is positive, with an entry for each variable, and the members of s made monic and arranged are the reduced Gröbner basis for v of the
-- ideal of s
pub record GivesBasis (s : MarkedPolynomials) (v : List ℤ) : Type 0 where
  pub basis : MarkedPolynomials
  pub arranged : IsArranged (monic_set s) basis
  pub width : length v ≡ s.variables
  pub positive : All (λ x. pos 0 <ℤ x) v
  pub reduced : IsReducedBasis s.variables (polys s.items) (gains v) basis.items

-- ---- what is written

-- the item of a set and its weight: the weight; if sets are echoed, the set as it was read, a line end, and the weight
abbrev pub weight_item : Bool → List (List ℕ) → MarkedPolynomials × List ℤ → List ℕ
weight_item false ring w = vector_text w.1
weight_item true ring w = basis_text ring w.0.items ++ 10 ∷ vector_text w.1

-- such an item after a comma on a line of its own
abbrev pub later_weight_item : Bool → List (List ℕ) → MarkedPolynomials × List ℤ → List ℕ
later_weight_item echoed ring w = 10 ∷ 44 ∷ 10 ∷ weight_item echoed ring w

-- the items of all sets
abbrev pub weight_items : Bool → List (List ℕ) → List (MarkedPolynomials × List ℤ) → List ℕ
weight_items echoed ring [] = []
weight_items echoed ring (w ∷ ws) = weight_item echoed ring w ++ flat_map (later_weight_item echoed ring) ws

-- the ring's line if sets are echoed, else nothing
abbrev pub echoed_ring : Bool → List (List ℕ) → List ℕ
echoed_ring false ring = []
echoed_ring true ring = ring_text ring

-- the items and a line end; the items of a list are in braces
abbrev pub enclosed : Bool → List ℕ → List ℕ
enclosed false items = items ++ 10 ∷ []
enclosed true items = 123 ∷ (items ++ 125 ∷ 10 ∷ [])

-- the line of the ring if sets are echoed, and the items
abbrev pub weights_text : Bool → Bool → List (List ℕ) → List (MarkedPolynomials × List ℤ) → List ℕ
weights_text listed echoed ring ws = echoed_ring echoed ring ++ enclosed listed (weight_items echoed ring ws)

-- the text is that of the sets with their weights, in their order
pub record IsWeightsText (listed echoed : Bool) (ring : List (List ℕ)) (sets : List MarkedPolynomials) (text : List ℕ) : Type 0 where
  pub weights : List (List ℤ)
  pub are_weights : AllZip IsWeightOfSet sets weights
  pub is_text : text ≡ weights_text listed echoed ring (zip sets weights)

-- ---- why it is refused

-- the weight of one of the sets can't be computed
pub record IsSomeWeightCause (sets : List MarkedPolynomials) (e : WeightError) : Type 0 where
  pub set : MarkedPolynomials
  pub contained : Contains sets set
  pub basis : MarkedPolynomials
  pub read : IsReducedAsRead set basis
  pub cause : IsWeightCause basis.variables basis.items e

-- a set is refused as a reduced basis; or none is, and a weight can't be computed; or memory runs out
pub data IsUnweighed (sets : List MarkedPolynomials) (r : Refusal) : Type 0 where
  at_set : (e : CheckError) → IsRefusedFrom 0 sets e → r ≡ of_check e → IsUnweighed sets r
  at_weight : (e : WeightError) → AreReducedAsRead sets →
      IsSomeWeightCause sets e → r ≡ of_weight_error e → IsUnweighed sets r
  no_memory : r ≡ refusals.Memory → IsUnweighed sets r

-- the members of the set are in its variables, the set is a reduced basis, and no operation of its checks or of its weight leaves its
-- limits
pub record IsWeighedWithin (s : MarkedPolynomials) : Type 0 where
  pub variables : HaveVariables s.variables s.items
  pub basis : IsMarkedGroebnerBasis s.variables s.items
  pub terms : AreReduced s.items
  pub checks : AreChecksWithinLimits s
  pub weight : (t : MarkedPolynomials) → IsArranged (monic_set s) t → IsWeightWithinLimits t.variables t.items

-- ---- the command

-- the command for a single set, or for each set of a list
abbrev pub weights_command : (listed echoed : Bool) → Command
weights_command false echoed = record {
  Value = List (List ℕ) × MarkedPolynomials;
  reads = Origin.the_input ∷ [];
  reading = of_one ring_marked_set;
  checks = λ v. [];
  IsAnswer = λ v text. IsWeightsText false echoed v.0 (v.1 ∷ []) text;
  IsCause = λ v r. IsUnweighed (v.1 ∷ []) r;
  IsWithin = λ v. IsWeighedWithin v.1;
  writing = Writing.at_end;
}
weights_command true echoed = record {
  Value = List (List ℕ) × List MarkedPolynomials;
  reads = Origin.the_input ∷ [];
  reading = of_one ring_marked_sets;
  checks = λ v. [];
  IsAnswer = λ v text. IsWeightsText true echoed v.0 v.1 text;
  IsCause = λ v r. IsUnweighed v.1 r;
  IsWithin = λ v. (s : MarkedPolynomials) → Contains v.1 s → IsWeighedWithin s;
  writing = Writing.at_end;
}

-- the command `_weightvector` with these options
abbrev pub weight_vector_command : WeightVectorOptions → Command
weight_vector_command o = weights_command o.listed o.echoed
