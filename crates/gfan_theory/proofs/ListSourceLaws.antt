-- What `_bases` writes for a source is one text.
-- To cite: read_variables, given_variables, IsListOfSource, list_of_source, one_text, one_region_text. The rest are steps.
use Rattle.std.specs.Prelude.{ℕ, Bool, true, false, List, [], ◌∷◌, length, Option, ℤ}
use Rattle.std.proofs.Common.{refl, subst}
use Rattle.gf_ideal_theory.specs.Membership.{AreInVariables}
use Rattle.gf_poly.specs.Polynomial.{Terms}
use Rattle.gf_poly.specs.Marking.{MarkedPolynomials, polys}
use Rattle.gf_text.specs.declared.written.Written.{Written}
use Rattle.gf_items.specs.Items.{IsTextOf}
use Rattle.gf_items.specs.Sources.{ring_set_vector, ring_marked_set}
use Rattle.gfan_lists.specs.declared.bases.ListOptions.{ListOptions}
use Rattle.gfan_common.specs.Forms.{generators_of}
use Rattle.gf_facets_theory.specs.Regions.{Region, all_positive}
use Rattle.gfan_lists.specs.Ways.{ways_by}
use Rattle.gfan_lists.specs.Bases.{IsTextBehind}
use Rattle.gfan_lists.specs.After.{Given, names_given, generators_given, reading_given}
use Rattle.gfan_theory.specs.OneSourceText.{TextsAreOne, RegionTextsAreOne}
use Rattle.gfan_theory.specs.ListSources.{HasPolynomials}
use Rattle.gfan.specs.Commands.{list_job, IsAnswerTo}
use Rattle.gfan_lists.proofs.ListCommandLaws.{said_inside}
use Rattle.gfan_lists.proofs.PastLaws.{one_list_text}

-- what is read is in the variables of the ring
pub read_variables : (source : List ℕ) (v : List (List ℕ) × (List Written × Option (List ℤ))) → IsTextOf (ring_set_vector false) source v →
    AreInVariables (length v.0) (generators_of v.1.0)
read_variables source v r = said_inside false source v r

pub given_variables : (source : List ℕ) (v : List (List ℕ) × MarkedPolynomials) → IsTextOf ring_marked_set source v →
    AreInVariables (length v.0) (polys v.1.items)
given_variables source v r = said_inside true source v r

-- it is the ring and the polynomials of the source
pub said_polynomials : (from_basis : Bool) (source : List ℕ) (v : Given from_basis) → (reading_given from_basis).IsRead (source ∷ []) v →
    HasPolynomials from_basis source (names_given from_basis v) (generators_given from_basis v)
said_polynomials false source v r = (v.1, r, refl)
said_polynomials true source v r = (v.1, r, refl)

-- the answer for a source is the list of the ideal that the source says
pub record IsListOfSource (from_basis certificates : Bool) (limit : Option ℕ) (source text : List ℕ) : Type 0 where
  pub ring : List (List ℕ)
  pub ideal : List Terms
  pub read : HasPolynomials from_basis source ring ideal
  pub inside : AreInVariables (length ring) ideal
  pub is_list : IsTextBehind [] certificates limit ring (all_positive (length ring)) ideal text

pub list_of_source : (from_basis : Bool) (o : ListOptions) (workers : ℕ) (source text : List ℕ) → IsAnswerTo (list_job from_basis o workers) source text →
    IsListOfSource from_basis o.certified o.limit source text
list_of_source from_basis o workers source text a =
    let v = a.value.1.1 in
    let x = a.answer.is_answer in
    let ring = names_given from_basis v in
    let fs = generators_given from_basis v in
    record {
      ring = ring;
      ideal = fs;
      read = said_polynomials from_basis source v a.read.1;
      inside = said_inside from_basis source v a.read.1;
      is_list = subst (λ (l : List MarkedPolynomials). IsTextBehind l o.certified o.limit ring (all_positive (length ring)) fs text) x.4.1
          (subst (λ (k : Region). IsTextBehind x.4.0 o.certified o.limit ring k fs text) x.1 x.4.2);
    }

pub one_text : TextsAreOne
one_text from_basis o u workers others source text same as_one a b = one_list_text (ways_by from_basis false false) _ _ o u (source ∷ []) text same as_one a b

pub one_region_text : RegionTextsAreOne
one_region_text name other from_basis o u file source text same as_one a b =
    one_list_text (ways_by from_basis true false) _ _ o u (file ∷ (source ∷ [])) text same as_one a b
