-- What the certificates of a list show.
-- To cite: certified_list_in, certified_list. The rest are steps.
use Rattle.std.specs.Prelude.{ℕ, true, List, [], ◌∷◌, ◌++◌, length, Contains, ℤ, Option}
use Rattle.std.specs.List.{AllZip}
use Rattle.std.proofs.Common.{refl, ap, ◌∙◌, subst, inl, inr}
use Rattle.gf_exponents_theory.specs.Orders.{gains}
use Rattle.gf_poly.specs.Polynomial.{Terms}
use Rattle.gf_poly.specs.Marking.{MarkedPolynomials}
use Rattle.gf_text.specs.PrintedSets.{basis_text}
use Rattle.gf_ideal_theory.specs.Membership.{AreInVariables}
use Rattle.gf_ideal_theory.specs.Bases.{IsReducedBasis}
use Rattle.gf_reverse_theory.specs.Upward.{IsNodeIn}
use Rattle.gf_tree.specs.Ideals.{ideal_within}
use Rattle.gf_facets_theory.specs.Regions.{Region, IsRegion, IsInRegion, all_positive}
use Rattle.gf_facets_theory.proofs.SystemLaws.{all_positive-region}
use Rattle.gf_facets_theory.specs.Facets.{IsFlippable}
use Rattle.gf_weights.specs.Weights.{IsWeightIn, AreWitnessedIn, normals_of}
use Rattle.gf_weights.proofs.UniqueLaws.{normal_there}
use Rattle.gf_weights.proofs.WeightLaws.{weight_basis_in, witness_inside}
use Rattle.gf_reverse_search.specs.Listing.{Among}
use Rattle.gf_lists_theory.specs.BasesList.{IsGivenIn}
use Rattle.gfan_lists.specs.Certificates.{IsCertificatesTextIn, IsItemTextIn}
use Rattle.gfan_lists.specs.Bases.{AreItemTextsIn, IsTextBehind}
use Rattle.gfan_theory.specs.CertifiedBases.{HasCertificates, HasCertificatesIn, IsCertifiedList, IsCertifiedListIn}
use Rattle.gf_lists_theory.proofs.BasesListLaws.{given_in_node}

-- those of a basis in a region
item_shows_in : (ring : List (List ℕ)) (j : Region) (fs : List Terms) (b : MarkedPolynomials) (text : List ℕ) → AreInVariables (length ring) fs →
    IsRegion (length ring) j → IsGivenIn (length ring) j fs b → IsItemTextIn true ring j b text → HasCertificatesIn ring j fs b text
item_shows_in ring j fs b text v r g item = record {
  weight = told.weight;
  facets = told.facets;
  is_text = item.2 ∙ ap (λ l. basis_text ring b.items ++ l) told.is_text;
  region = shown.0;
  reduced = shown.1;
  rises = witnessed.rises;
  exactly = λ a. (λ c. flippable a c, witnessed.all a);
  inside = λ f c. witness_inside n j b.items f.normal f.witness node.basis.arranged.canonical (witnessed.flippable f c) (witnessed.witnessed f c);
}
  where
    n : ℕ
    n = length ring

    told : IsCertificatesTextIn j b item.0
    told = item.1

    node : IsNodeIn (ideal_within n fs j) b
    node = given_in_node n j fs b v r g

    printed : IsWeightIn n j b.items told.weight
    printed = subst (λ k. IsWeightIn k j b.items told.weight) g.variables told.is_weight

    witnessed : AreWitnessedIn n j b.items told.facets
    witnessed = subst (λ k. AreWitnessedIn k j b.items told.facets) g.variables told.are_witnessed

    shown : IsInRegion n j told.weight × IsReducedBasis n fs (gains told.weight) b.items
    shown = weight_basis_in n j fs b.items told.weight v node.basis printed

    flippable : (a : List ℤ) → Contains (normals_of told.facets) a → IsFlippable n j b.items a
    flippable a c = let f = normal_there told.facets a c in subst (IsFlippable n j b.items) f.1.1 (witnessed.flippable f.0 f.1.0)

-- those of a list
items_show_in : (ring : List (List ℕ)) (j : Region) (fs : List Terms) (bs : List MarkedPolynomials) (ts : List (List ℕ)) → AreInVariables (length ring) fs →
    IsRegion (length ring) j → ((b : MarkedPolynomials) → Among bs b → IsGivenIn (length ring) j fs b) → AreItemTextsIn true ring j bs ts →
    AllZip (HasCertificatesIn ring j fs) bs ts
items_show_in ring j fs [] [] v r g a = tt
items_show_in ring j fs [] (t ∷ ts) v r g a = absurd a
items_show_in ring j fs (b ∷ bs) [] v r g a = absurd a
items_show_in ring j fs (b ∷ bs) (t ∷ ts) v r g a =
    (item_shows_in ring j fs b t v r (g b (inl refl)) a.0, items_show_in ring j fs bs ts v r (λ c k. g c (inr k)) a.1)

pub certified_list_in : (limit : Option ℕ) (ring : List (List ℕ)) (j : Region) (fs : List Terms) (text : List ℕ) → AreInVariables (length ring) fs →
    IsRegion (length ring) j → IsTextBehind [] true limit ring j fs text → IsCertifiedListIn ring j fs text
certified_list_in limit ring j fs text v r t = (t.list, t.are_all, (t.items, items_show_in ring j fs t.list t.items v r t.are_all.only t.are_items, t.is_text))

-- where all positive weights are meant
items_show : (ring : List (List ℕ)) (fs : List Terms) (bs : List MarkedPolynomials) (ts : List (List ℕ)) →
    AllZip (HasCertificatesIn ring (all_positive (length ring)) fs) bs ts → AllZip (HasCertificates ring fs) bs ts
items_show ring fs [] [] a = tt
items_show ring fs [] (t ∷ ts) a = absurd a
items_show ring fs (b ∷ bs) [] a = absurd a
items_show ring fs (b ∷ bs) (t ∷ ts) a = (
  record {
    weight = a.0.weight;
    facets = a.0.facets;
    is_text = a.0.is_text;
    width = a.0.region.width;
    positive = a.0.region.positive;
    reduced = a.0.reduced;
    rises = a.0.rises;
    exactly = a.0.exactly;
    inside = a.0.inside;
  },
  items_show ring fs bs ts a.1,
)

pub certified_list : (limit : Option ℕ) (ring : List (List ℕ)) (fs : List Terms) (text : List ℕ) → AreInVariables (length ring) fs →
    IsTextBehind [] true limit ring (all_positive (length ring)) fs text → IsCertifiedList ring fs text
certified_list limit ring fs text v t = (
  t.list,
  t.are_all,
  (
    t.items,
    items_show ring fs t.list t.items (items_show_in ring (all_positive (length ring)) fs t.list t.items v
        (all_positive-region (length ring)) t.are_all.only t.are_items),
    t.is_text,
  ),
)
