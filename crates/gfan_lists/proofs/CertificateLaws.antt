-- What stands for a basis in the list of `_bases` is one text.
-- To cite: AllZip-append, items_exist, items_one. The rest are steps.
use Rattle.std.specs.Prelude.{◌≡◌, ℕ, Bool, true, false, List, [], ◌∷◌, ◌++◌, ℤ}
use Rattle.std.specs.List.{AllZip}
use Rattle.std.proofs.Common.{refl, sym, ap, ap₂, ◌∙◌, subst, inl, inr}
use Rattle.gf_poly.specs.Polynomial.{Terms}
use Rattle.gf_poly.specs.Marking.{MarkedPolynomials}
use Rattle.gf_text.specs.PrintedSets.{basis_text}
use Rattle.gf_facets_theory.specs.Regions.{Region}
use Rattle.gf_facets_theory.specs.MarkedBases.{AreCanonical}
use Rattle.gf_weights.specs.declared.certificates.FacetWitness.{FacetWitness}
use Rattle.gf_weights.proofs.UniqueLaws.{one_weight, one_facets}
use Rattle.gf_weights.proofs.WitnessesExist.{weight_exists, facets_exist}
use Rattle.gf_reverse_search.specs.Listing.{Among}
use Rattle.gf_lists_theory.specs.BasesList.{IsGivenIn}
use Rattle.gfan_lists.specs.Certificates.{certificates_text, IsCertificatesTextIn, IsItemTextIn}
use Rattle.gfan_lists.specs.Bases.{AreItemTextsIn}

-- ---- items

pub AllZip-append : {A B : Type 0} (R : A → B → Type 0) (xs ys : List A) (ts us : List B) → AllZip R xs ts → AllZip R ys us → AllZip R (xs ++ ys) (ts ++ us)
AllZip-append R [] ys [] us a b = b
AllZip-append R [] ys (t ∷ ts) us a b = absurd a
AllZip-append R (x ∷ xs) ys [] us a b = absurd a
AllZip-append R (x ∷ xs) ys (t ∷ ts) us a b = (a.0, AllZip-append R xs ys ts us a.1 b)

-- something stands for each basis
item_exists : (certified : Bool) (n : ℕ) (ring : List (List ℕ)) (j : Region) (fs : List Terms) (b : MarkedPolynomials) → IsGivenIn n j fs b →
    (t : List ℕ) × IsItemTextIn certified ring j b t
item_exists false n ring j fs b g = (basis_text ring b.items, refl)
item_exists true n ring j fs b g =
    let canonical = subst (λ k. AreCanonical k b.items) (sym g.variables) g.arranged.canonical in
    let w = weight_exists b.variables j b.items canonical in
    let f = facets_exist b.variables j b.items canonical in
    let told : List ℕ = certificates_text w.0 f.0 in
    (basis_text ring b.items ++ told, (told, record { weight = w.0; facets = f.0; is_weight = w.1; are_witnessed = f.1; is_text = refl }, refl))

pub items_exist : (certified : Bool) (n : ℕ) (ring : List (List ℕ)) (j : Region) (fs : List Terms) (bs : List MarkedPolynomials) →
    ((b : MarkedPolynomials) → Among bs b → IsGivenIn n j fs b) → (ts : List (List ℕ)) × AreItemTextsIn certified ring j bs ts
items_exist certified n ring j fs [] g = ([], tt)
items_exist certified n ring j fs (b ∷ bs) g =
    let t = item_exists certified n ring j fs b (g b (inl refl)) in
    let r = items_exist certified n ring j fs bs (λ c k. g c (inr k)) in
    (t.0 ∷ r.0, (t.1, r.1))

certificates_one : (j : Region) (b : MarkedPolynomials) (t u : List ℕ) → IsCertificatesTextIn j b t → IsCertificatesTextIn j b u → t ≡ u
certificates_one j b t u p q =
    let weights = one_weight b.variables j b.items p.weight q.weight p.is_weight q.is_weight in
    let facets = one_facets b.variables j b.items p.facets q.facets p.are_witnessed q.are_witnessed in
    p.is_text ∙ ap₂ (λ (w : List ℤ) (fs : List FacetWitness). certificates_text w fs) weights facets ∙ sym q.is_text

item_one : (certified : Bool) (ring : List (List ℕ)) (j : Region) (b : MarkedPolynomials) (t u : List ℕ) → IsItemTextIn certified ring j b t →
    IsItemTextIn certified ring j b u → t ≡ u
item_one false ring j b t u p q = p ∙ sym q
item_one true ring j b t u p q = p.2 ∙ ap (λ l. basis_text ring b.items ++ l) (certificates_one j b p.0 q.0 p.1 q.1) ∙ sym q.2

-- what stands for bases is one list of texts
pub items_one : (certified : Bool) (ring : List (List ℕ)) (j : Region) (bs : List MarkedPolynomials) (ts us : List (List ℕ)) →
    AreItemTextsIn certified ring j bs ts → AreItemTextsIn certified ring j bs us → ts ≡ us
items_one certified ring j [] [] [] p q = refl
items_one certified ring j [] [] (u ∷ us) p q = absurd q
items_one certified ring j [] (t ∷ ts) us p q = absurd p
items_one certified ring j (b ∷ bs) [] us p q = absurd p
items_one certified ring j (b ∷ bs) (t ∷ ts) [] p q = absurd q
items_one certified ring j (b ∷ bs) (t ∷ ts) (u ∷ us) p q = ap₂ (λ (x : List ℕ) (xs : List (List ℕ)). x ∷ xs) (item_one certified ring j b t u p.0 q.0)
    (items_one certified ring j bs ts us p.1 q.1)
