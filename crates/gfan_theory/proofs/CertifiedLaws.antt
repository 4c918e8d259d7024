-- What is printed after each basis of an answer with certificates.
-- To cite: answers_are_certified. The rest are steps.
use Rattle.std.specs.Prelude.{ℕ, Bool, true, List, [], ◌∷◌, ◌++◌, length, Contains, ℤ}
use Rattle.std.specs.List.{AllZip}
use Rattle.std.proofs.Common.{refl, ap, ◌∙◌, subst, inl, inr}
use Rattle.gf_exponents_theory.specs.Orders.{gains}
use Rattle.gf_poly.specs.Polynomial.{Terms}
use Rattle.gf_poly.specs.Marking.{MarkedPolynomials}
use Rattle.gf_text.specs.PrintedSets.{basis_text}
use Rattle.gf_ideal_theory.specs.Membership.{AreInVariables}
use Rattle.gf_ideal_theory.specs.Bases.{IsReducedBasis}
use Rattle.gf_reverse_theory.specs.Upward.{IsNodeIn}
use Rattle.gf_tree.specs.Ideals.{ideal_within}
use Rattle.gf_facets_theory.specs.Regions.{Region, IsRegion, IsInRegion}
use Rattle.gf_facets_theory.specs.Facets.{IsFlippable}
use Rattle.gf_weights.specs.Weights.{IsWeightIn, AreWitnessedIn, normals_of}
use Rattle.gf_weights.proofs.UniqueLaws.{normal_there}
use Rattle.gf_weights.proofs.WeightLaws.{weight_basis_in, witness_inside}
use Rattle.gf_reverse_search.specs.Listing.{Among}
use Rattle.gf_lists_theory.specs.BasesList.{IsGivenIn}
use Rattle.gfan_lists.specs.Certificates.{IsCertificatesTextIn, IsItemTextIn}
use Rattle.gfan_lists.specs.Bases.{AreItemTextsIn}
use Rattle.gf_lists_theory.proofs.BasesListLaws.{given_in_node, among_right}
use Rattle.gfan_theory.specs.CertifiedBases.{HasCertificatesIn}
use Rattle.gfan_theory.specs.Answers.{IsListAnswer}
use Rattle.gfan_theory.specs.Certified.{AnswersAreCertified}
use Rattle.gfan_theory.proofs.AnswerLaws.{answers_are_lists}

-- what is printed for one basis
item_shows : (ring : List (List ℕ)) (j : Region) (fs : List Terms) (b : MarkedPolynomials) (text : List ℕ) → AreInVariables (length ring) fs →
    IsRegion (length ring) j → IsGivenIn (length ring) j fs b →
    IsItemTextIn true ring j b text → HasCertificatesIn ring j fs b text
item_shows ring j fs b text v r g item = record {
  weight = told.weight;
  facets = told.facets;
  is_text = item.2 ∙ ap (λ l. basis_text ring b.items ++ l) told.is_text;
  region = shown.0;
  reduced = shown.1;
  rises = witnessed.rises;
  exactly = λ a. (λ c. flippable a c, witnessed.all a);
  inside = λ f c. witness_inside n j b.items f.normal f.witness node.basis.arranged.canonical (witnessed.flippable f c) (witnessed.witnessed f c);
}
  where
    n : ℕ
    n = length ring

    told : IsCertificatesTextIn j b item.0
    told = item.1

    node : IsNodeIn (ideal_within n fs j) b
    node = given_in_node n j fs b v r g

    printed : IsWeightIn n j b.items told.weight
    printed = subst (λ k. IsWeightIn k j b.items told.weight) g.variables told.is_weight

    witnessed : AreWitnessedIn n j b.items told.facets
    witnessed = subst (λ k. AreWitnessedIn k j b.items told.facets) g.variables told.are_witnessed

    shown : IsInRegion n j told.weight × IsReducedBasis n fs (gains told.weight) b.items
    shown = weight_basis_in n j fs b.items told.weight v node.basis printed

    flippable : (a : List ℤ) → Contains (normals_of told.facets) a → IsFlippable n j b.items a
    flippable a c = let f = normal_there told.facets a c in subst (IsFlippable n j b.items) f.1.1 (witnessed.flippable f.0 f.1.0)

-- for each basis of a list
items_show : (ring : List (List ℕ)) (j : Region) (fs : List Terms) (bs : List MarkedPolynomials) (ts : List (List ℕ)) → AreInVariables (length ring) fs →
    IsRegion (length ring) j →
    ((b : MarkedPolynomials) → Among bs b → IsGivenIn (length ring) j fs b) → AreItemTextsIn true ring j bs ts → AllZip (HasCertificatesIn ring j fs) bs ts
items_show ring j fs [] [] v r g a = tt
items_show ring j fs [] (t ∷ ts) v r g a = absurd a
items_show ring j fs (b ∷ bs) [] v r g a = absurd a
items_show ring j fs (b ∷ bs) (t ∷ ts) v r g a = (item_shows ring j fs b t v r (g b (inl refl)) a.0, items_show ring j fs bs ts v r (λ c k. g c (inr k)) a.1)

pub answers_are_certified : AnswersAreCertified
answers_are_certified q input text c a =
    let l : IsListAnswer q input text = answers_are_lists q input text a in
    record {
      ring = l.ring;
      ideal = l.ideal;
      region = l.region;
      early = l.early;
      said = l.said;
      list = l.list.list;
      are_all = l.list.are_all;
      items = l.list.items;
      certificates = items_show l.ring l.region l.ideal l.list.list l.list.items l.said.inside l.said.is_region
          (λ b k. l.list.are_all.only b (among_right l.early l.list.list b k))
          (subst (λ (z : Bool). AreItemTextsIn z l.ring l.region l.list.list l.list.items) c l.list.are_items);
      is_text = l.list.is_text;
    }
