-- Initial forms of the members of a basis, one member further. To cite: forms_none, forms_more, forms_all, ring_none, ring_more.
use Rattle.std.proofs.Common.{◌≡◌, ◌⊎◌, ℕ, ◌+◌, ◌<◌, ◌≤◌, List, [], ◌∷◌, ◌++◌, ℤ, Contains, length, take, get_or, arith, refl, sym, ap, ◌∙◌, subst, inl, inr}
use Rattle.std.proofs.lemmas.List.{take_more, take_all}
use Rattle.gf_int_theory.proofs.ListLaws.{Contains-last}
use Rattle.gf_poly.specs.Polynomial.{Terms, HasVariables}
use Rattle.gf_poly.specs.Marking.{MarkedPolynomial, polys}
use Rattle.gf_poly.specs.InitialForms.{IsInitialForm}
use Rattle.gf_saturate.specs.Tasks.{HaveRingVariables}
use Rattle.gf_initial_theory.specs.Parts.{Matching, IsInitialPart}
use Rattle.gf_initial_theory.proofs.MatchingLaws.{matched-push}
use Rattle.gf_initial_monomials.specs.Outcomes.{AreFormsAt}

polys_last : (ps : List MarkedPolynomial) (p : MarkedPolynomial) → polys (ps ++ p ∷ []) ≡ polys ps ++ p.poly ∷ []
polys_last [] p = refl
polys_last (q ∷ ps) p = ap (λ (z : List Terms). q.poly ∷ z) (polys_last ps p)

pub forms_none : (v : List ℤ) → AreFormsAt v [] []
forms_none v = record { parts = []; are_parts = tt; polys_are = refl }

pub forms_more : (v : List ℤ) (bs : List MarkedPolynomial) (i : ℕ) (b : MarkedPolynomial) (f : Terms) (fs next : List Terms) → i < length bs →
    b ≡ get_or bs i b → IsInitialForm v b.poly f → next ≡ fs ++ f ∷ [] → AreFormsAt v (take i bs) fs → AreFormsAt v (take (i + 1) bs) next
forms_more v bs i b f fs next l e h q a = record {
  parts = a.parts ++ p ∷ [];
  are_parts = subst (λ (z : List MarkedPolynomial). Matching (IsInitialPart v) z (a.parts ++ p ∷ []))
      (sym (take_more bs i b l ∙ ap (λ (c : MarkedPolynomial). take i bs ++ c ∷ []) (sym e)))
      (matched-push (IsInitialPart v) (take i bs) a.parts b p a.are_parts (record { head = refl; form = h }));
  polys_are = polys_last a.parts p ∙ ap (λ (z : List Terms). z ++ f ∷ []) a.polys_are ∙ sym q;
}
  where
    p : MarkedPolynomial
    p = record { poly = f; head = b.head }

pub forms_all : (v : List ℤ) (bs : List MarkedPolynomial) (i : ℕ) (fs : List Terms) → length bs ≤ i → AreFormsAt v (take i bs) fs → AreFormsAt v bs fs
forms_all v bs i fs l a = subst (λ (z : List MarkedPolynomial). AreFormsAt v z fs) (take_all i bs l) a

pub ring_none : (n : ℕ) → HaveRingVariables n []
ring_none n = record { each = λ f c. absurd (omega (arith, c.1)) }

pub ring_more : (n : ℕ) (fs next : List Terms) (f : Terms) → next ≡ fs ++ f ∷ [] → HasVariables n f → HaveRingVariables n fs → HaveRingVariables n next
ring_more n fs next f q v h = subst (HaveRingVariables n) (sym q) (record { each = λ g c. at g (Contains-last fs f g c) })
  where
    at : (g : Terms) → Contains fs g ⊎ (g ≡ f) → HasVariables n g
    at g (inl k) = h.each g k
    at g (inr e) = subst (HasVariables n) (sym e) v
