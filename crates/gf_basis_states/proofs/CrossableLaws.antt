-- The list of the normals that a flip may cross: the loop over the normals of a cone, one state further; and that there is one such list.
-- To cite: AreCrossableBefore, one_more, all_before, one_list. The rest are steps.
use Rattle.std.proofs.Common.{◌≡◌, ℕ, ◌+◌, ◌<◌, ◌≤◌, List, [], ◌∷◌, ◌++◌, length, ℤ, Contains, arith, sym, ◌∙◌, subst, inl, inr}
use Rattle.std.proofs.lemmas.Bool.{cases_lt}
use Rattle.std.proofs.lemmas.List.{get_or_default}
use Rattle.std.proofs.lemmas.List.Elements.{Contains-append_left, Contains-append_right, Contains-append_cases}
use Rattle.gf_int_theory.proofs.ListLaws.{Contains-here}
use Rattle.gf_poly.specs.Marking.{MarkedPolynomial}
use Rattle.gf_ideal_theory.proofs.ListLaws.{Contains-cases}
use Rattle.gf_facets_theory.specs.LexPositive.{IsBefore}
use Rattle.gf_facets_theory.specs.Regions.{Region}
use Rattle.gf_facets_theory.specs.Normals.{Ascends}
use Rattle.gf_facets_theory.specs.Facets.{IsFlippable}
use Rattle.gf_facets_theory.proofs.AscendingLaws.{ascends_more, ascends_at, same_ascending}
use Rattle.gf_cone.specs.Cones.{ConeRows, normal_at, IsConeOf}
use Rattle.gf_basis_states.specs.Crossable.{AreCrossable, IsWithState}

-- those at the first states of a cone
pub record AreCrossableBefore (n : ℕ) (k : Region) (bs : List MarkedPolynomial) (c : ConeRows) (i : ℕ) (ns : List (List ℤ)) : Type 0 where
  pub rises : Ascends ns
  pub before : (a : List ℤ) → Contains ns a → (j : ℕ) × (j < i) × (a ≡ normal_at c j)
  pub only : (a : List ℤ) → Contains ns a → IsFlippable n k bs a
  pub all : (j : ℕ) → j < i → IsFlippable n k bs (normal_at c j) → Contains ns (normal_at c j)

module _ (n : ℕ) (k : Region) (bs : List MarkedPolynomial) (c : ConeRows) where
  passed : (i : ℕ) (ns : List (List ℤ)) → (IsFlippable n k bs (normal_at c i) → ⊥) → AreCrossableBefore n k bs c i ns → AreCrossableBefore n k bs c (i + 1) ns
  passed i ns not h = record {
    rises = h.rises;
    before = λ a q. (let b = h.before a q in (b.0, omega (arith, b.1), b.2));
    only = h.only;
    all = λ j l f. elim (cases_lt j i) [
      | inl m ↦ h.all j m f
      | inr m ↦ (let e : j ≡ i = omega (arith, l, m) in absurd (not (subst (λ (z : ℕ). IsFlippable n k bs (normal_at c z)) e f)))
    ];
  }

  added : (i : ℕ) (ns : List (List ℤ)) → IsConeOf n k bs c → i < length c.normals → IsFlippable n k bs (normal_at c i) → AreCrossableBefore n k bs c i ns →
      AreCrossableBefore n k bs c (i + 1) (ns ++ normal_at c i ∷ [])
  added i ns is l flip h = record {
    rises = ascends_more ns (normal_at c i) h.rises (λ a q. (let b = h.before a q in subst (λ (z : List ℤ). IsBefore z (normal_at c i)) (sym b.2)
        (ascends_at c.normals b.0 i is.normals.rises b.1 l)));
    before = λ a q. elim (Contains-append_cases ns (normal_at c i ∷ []) a q) [
      | inl b ↦ (let r = h.before a b in (r.0, omega (arith, r.1), r.2))
      | inr b ↦ elim (Contains-cases (normal_at c i) a [] b) [ inl e ↦ (i, omega arith, sym e) | inr d ↦ absurd (omega (arith, d.1)) ]
    ];
    only = λ a q. elim (Contains-append_cases ns (normal_at c i ∷ []) a q) [
      | inl b ↦ h.only a b
      | inr b ↦ elim (Contains-cases (normal_at c i) a [] b) [ inl e ↦ subst (IsFlippable n k bs) e flip | inr d ↦ absurd (omega (arith, d.1)) ]
    ];
    all = λ j m g. elim (cases_lt j i) [
      | inl d ↦ Contains-append_left ns (normal_at c i ∷ []) (normal_at c j) (h.all j d g)
      | inr d ↦ (let e : j ≡ i = omega (arith, m, d) in
          subst (λ (z : ℕ). Contains (ns ++ normal_at c i ∷ []) (normal_at c z)) (sym e) (Contains-append_right ns (normal_at c i ∷ []) (normal_at c i)
          (Contains-here (normal_at c i) [])))
    ];
  }

  pub one_more : (i : ℕ) (ns more : List (List ℤ)) → IsConeOf n k bs c → i < length c.normals → IsWithState c i ns more → AreCrossableBefore n k bs c i ns →
      AreCrossableBefore n k bs c (i + 1) more
  one_more i ns more is l (inl w) h = subst (AreCrossableBefore n k bs c (i + 1)) (sym w.0) (added i ns is l (w.1 n k bs is) h)
  one_more i ns more is l (inr w) h = subst (AreCrossableBefore n k bs c (i + 1)) (sym w.0) (passed i ns (w.1 n k bs is) h)

  -- at the end all are there
  pub all_before : (i : ℕ) (ns : List (List ℤ)) → IsConeOf n k bs c → length c.normals ≤ i → AreCrossableBefore n k bs c i ns → AreCrossable n k bs ns
  all_before i ns is l h = record {
    rises = h.rises;
    only = h.only;
    all = λ a f.
        let there = is.normals.all a f.inside.normal in
        let e : normal_at c there.0 ≡ a = get_or_default c.normals there.0 [] a there.1 ∙ there.2 in
        subst (Contains ns) e (h.all there.0 (omega (arith, there.1, l)) (subst (IsFlippable n k bs) (sym e) f));
  }

-- ---- one list

pub one_list : (n : ℕ) (k : Region) (bs : List MarkedPolynomial) (ns ms : List (List ℤ)) → AreCrossable n k bs ns → AreCrossable n k bs ms → ns ≡ ms
one_list n k bs ns ms p q = same_ascending ns ms p.rises q.rises (λ a c. q.all a (p.only a c)) (λ a c. p.all a (q.only a c))
