-- Each answer of `_bases` is the text of a list of bases, and what is read determines the ring, the ideal, the region and the bases before it.
-- To cite: is_said, answers_are_lists, says_once, region_once, rest_once. The rest are steps.
use Rattle.std.specs.Prelude.{◌≡◌, ℕ, Bool, true, false, List, [], ◌∷◌, ◌++◌, length, Option, None, Some, is_some, ℤ}
use Rattle.std.proofs.Common.{sym, ap, ◌∙◌, subst, append_assoc}
use Rattle.gf_poly.specs.Polynomial.{Terms}
use Rattle.gf_poly.specs.Marking.{MarkedPolynomials, polys}
use Rattle.gf_text.specs.declared.written.Written.{Written}
use Rattle.gf_reverse_search.specs.Whole.{EachOnce}
use Rattle.gf_facets_theory.specs.Regions.{Region}
use Rattle.gf_weights.proofs.RegionLaws.{regions_are_one}
use Rattle.gf_weights.specs.Roots.{IsRegionOf}
use Rattle.gf_items.specs.Items.{IsTextOf}
use Rattle.gf_items.specs.Sources.{vectors_alone, ring_set_vector, ring_marked_set}
use Rattle.gf_items.specs.Kinds.{a_set, a_marked_set, vector_where, vector_list}
use Rattle.gf_items.proofs.KindLaws.{items_once, ring_and_once}
use Rattle.gf_items.proofs.ReadingLaws.{source_once}
use Rattle.gfan_common.specs.Forms.{generators_of}
use Rattle.gfan_lists.specs.After.{IsBasisTaken}
use Rattle.gfan_lists.proofs.AfterLaws.{taken_once}
use Rattle.gf_lists_theory.proofs.OneListLaws.{behind_once}
use Rattle.gfan_theory.specs.ListSources.{HasPolynomials}
use Rattle.gfan_lists.specs.Ways.{ways_by}
use Rattle.gfan_lists.specs.After.{names_given, generators_given, reading_given, IsRegionCut}
use Rattle.gfan_lists.specs.ListCommand.{AreSameNames, IsFront, ListValue, reading_list}
use Rattle.gfan_lists.proofs.AfterLaws.{cut_region}
use Rattle.gfan_lists.proofs.ListCommandLaws.{said_inside}
use Rattle.gfan_theory.proofs.ListSourceLaws.{said_polynomials}
use Rattle.gfan_theory.specs.Answers.{NamedFile, name_of, bytes_of, Request, texts_of, IsSaid, IsRegionSaid, AreBasesBefore, AnswersAreLists}

-- ---- any way

-- what the texts say: the input; the region; and the bases before the list
pub record AreTextsSaid (from_basis : Bool) (within after : Option NamedFile) (input : List ℕ)
    (v : ListValue (ways_by from_basis (is_some (name_of within)) (is_some (name_of after)))) : Type 0 where
  pub read : (reading_given from_basis).IsRead (input ∷ []) v.1.1
  pub region : (k : Region) → IsRegionCut (is_some (name_of within)) (length (names_given from_basis v.1.1)) v.0 k →
      IsRegionSaid within (length (names_given from_basis v.1.1)) k
  pub before : (k : Region) (front : List MarkedPolynomials) → AreSameNames (is_some (name_of after)) v.1.0 (names_given from_basis v.1.1) →
      IsFront (is_some (name_of after)) v.1.0 k front → AreBasesBefore after (names_given from_basis v.1.1) k front

texts_said : (from_basis : Bool) (within after : Option NamedFile) (input : List ℕ)
    (v : ListValue (ways_by from_basis (is_some (name_of within)) (is_some (name_of after)))) →
    (reading_list (ways_by from_basis (is_some (name_of within)) (is_some (name_of after)))).IsRead (texts_of within after input) v →
    AreTextsSaid from_basis within after input v
texts_said from_basis None None input v r = record { read = r.1; region = λ k i. i; before = λ k front e t. t }
texts_said from_basis (Some file) None input v r = record { read = r.1; region = λ k i. (v.0, r.0, i); before = λ k front e t. t }
texts_said from_basis None (Some basis) input v r = record {
  read = r.1.1;
  region = λ k i. i;
  before = λ k front e t. (
    v.1.0.1,
    t.0,
    t.1,
    subst (λ (names : List (List ℕ)). IsTextOf ring_marked_set basis.bytes (names, v.1.0.1)) e r.1.0,
    t.2,
    t.3,
  );
}
texts_said from_basis (Some file) (Some basis) input v r = record {
  read = r.1.1;
  region = λ k i. (v.0, r.0, i);
  before = λ k front e t. (
    v.1.0.1,
    t.0,
    t.1,
    subst (λ (names : List (List ℕ)). IsTextOf ring_marked_set basis.bytes (names, v.1.0.1)) e r.1.0,
    t.2,
    t.3,
  );
}

-- the ring and the polynomials of the input, the region, and the bases before the list, of an answer or of its beginning
pub is_said : (q : Request) (input : List ℕ) (v : ListValue (ways_by q.from_basis (is_some (name_of q.within)) (is_some (name_of q.after)))) →
    (reading_list (ways_by q.from_basis (is_some (name_of q.within)) (is_some (name_of q.after)))).IsRead (texts_of q.within q.after input) v →
    (k : Region) (front : List MarkedPolynomials) →
    IsRegionCut (is_some (name_of q.within)) (length (names_given q.from_basis v.1.1)) v.0 k →
    AreSameNames (is_some (name_of q.after)) v.1.0 (names_given q.from_basis v.1.1) → IsFront (is_some (name_of q.after)) v.1.0 k front →
    IsSaid q input (names_given q.from_basis v.1.1) (generators_given q.from_basis v.1.1) k front
is_said q input v r k front i e t =
    let said = texts_said q.from_basis q.within q.after input v r in
    record {
      read = said_polynomials q.from_basis input v.1.1 said.read;
      inside = said_inside q.from_basis input v.1.1 said.read;
      region = said.region k i;
      is_region = cut_region (is_some (name_of q.within)) (length (names_given q.from_basis v.1.1)) v.0 k i;
      before = said.before k front e t;
    }

pub answers_are_lists : AnswersAreLists
answers_are_lists q input text a =
    let v = a.value in
    let x = a.answer.is_answer in
    record {
      ring = names_given q.from_basis v.1.1;
      ideal = generators_given q.from_basis v.1.1;
      region = x.0;
      early = x.4.0;
      said = is_said q input v a.read x.0 x.4.0 x.1 x.2 x.4.1;
      list = x.4.2;
    }

-- ---- what is read determines it

pub says_once : (from_basis : Bool) (source : List ℕ) (ring other : List (List ℕ)) (fs gs : List Terms) → HasPolynomials from_basis source ring fs →
    HasPolynomials from_basis source other gs →
    (other ≡ ring) × (gs ≡ fs)
says_once false source ring other fs gs p q =
    let same : (other, q.0) ≡ (ring, p.0) = (source_once (ring_set_vector false) (ring_and_once a_set (vector_where false ∷ [])) source).once (ring, p.0)
    (other, q.0) p.1 q.1 in (
      ap (λ (v : List (List ℕ) × (List Written × Option (List ℤ))). v.0) same,
      q.2
          ∙ ap (λ (v : List (List ℕ) × (List Written × Option (List ℤ))). generators_of v.1.0) same ∙ sym p.2,
    )
says_once true source ring other fs gs p q =
    let same : (other, q.0) ≡ (ring, p.0) = (source_once ring_marked_set (ring_and_once a_marked_set []) source).once (ring, p.0) (other, q.0) p.1 q.1 in
    (ap (λ (v : List (List ℕ) × MarkedPolynomials). v.0) same, q.2 ∙ ap (λ (v : List (List ℕ) × MarkedPolynomials). polys v.1.items) same ∙ sym p.2)

pub region_once : (within other : Option NamedFile) (n : ℕ) (k j : Region) → bytes_of other ≡ bytes_of within → IsRegionSaid within n k →
    IsRegionSaid other n j → j ≡ k
region_once None None n k j e p q = q ∙ sym p
region_once None (Some g) n k j e p q = absurd (cc)
region_once (Some f) None n k j e p q = absurd (cc)
region_once (Some f) (Some g) n k j e p q =
    let bytes : g.bytes ≡ f.bytes = cc in
    let rows : q.0 ≡ p.0 = (source_once vectors_alone (items_once vector_list [] []) f.bytes).once p.0 q.0 p.1
    (subst (λ (b : List ℕ). IsTextOf vectors_alone b q.0) bytes q.1) in
    regions_are_one.one n p.0 j k (subst (λ (z : List (List ℤ)). IsRegionOf n z j) rows q.2) p.2

pub basis_once : (ring : List (List ℕ)) (source : List ℕ) (s t : MarkedPolynomials) → IsTextOf ring_marked_set source (ring, s) →
    IsTextOf ring_marked_set source (ring, t) → t ≡ s
basis_once ring source s t p q =
    ap (λ (v : List (List ℕ) × MarkedPolynomials). v.1) ((source_once ring_marked_set (ring_and_once a_marked_set []) source).once (ring, s) (ring, t) p q)

-- what follows the bases up to the one of the file, in one list
pub rest_once : (after other : Option NamedFile) (ring : List (List ℕ)) (k : Region) (early late xs ys : List MarkedPolynomials) →
    bytes_of other ≡ bytes_of after →
    AreBasesBefore after ring k early → AreBasesBefore other ring k late → EachOnce (early ++ xs) → early ++ xs ≡ late ++ ys → xs ≡ ys
rest_once None None ring k early late xs ys e p q o w = subst (λ (l : List MarkedPolynomials). [] ++ xs ≡ l ++ ys) q
    (subst (λ (l : List MarkedPolynomials). l ++ xs ≡ late ++ ys) p w)
rest_once None (Some g) ring k early late xs ys e p q o w = absurd (cc)
rest_once (Some f) None ring k early late xs ys e p q o w = absurd (cc)
rest_once (Some f) (Some g) ring k early late xs ys e p q o w = behind_once front back xs ys basis (subst EachOnce flat o) (sym flat ∙ w ∙ other_flat)
  where
    basis : MarkedPolynomials
    basis = p.1

    front : List MarkedPolynomials
    front = p.2

    back : List MarkedPolynomials
    back = q.2

    bytes : g.bytes ≡ f.bytes
    bytes = cc

    sets : q.0 ≡ p.0
    sets = basis_once ring f.bytes p.0 q.0 p.3 (subst (λ (b : List ℕ). IsTextOf ring_marked_set b (ring, q.0)) bytes q.3)

    bases : q.1 ≡ basis
    bases = taken_once k p.0 q.1 basis (subst (λ (s : MarkedPolynomials). IsBasisTaken k s q.1) sets q.4) p.4

    flat : early ++ xs ≡ front ++ basis ∷ xs
    flat = ap (λ (l : List MarkedPolynomials). l ++ xs) p.5 ∙ append_assoc front (basis ∷ []) xs

    other_flat : late ++ ys ≡ back ++ basis ∷ ys
    other_flat = ap (λ (l : List MarkedPolynomials). l ++ ys) q.5 ∙ append_assoc back (q.1 ∷ []) ys ∙ ap (λ (b : MarkedPolynomials). back ++ b ∷ ys) bases
