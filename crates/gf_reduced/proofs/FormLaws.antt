-- Monic forms as code makes them: they are the polynomials times the reciprocals of the marked coefficients.
-- To cite: monic_exact, Forming, item_refused, forms_kept, forms_marked, forms-variables, AreThere, realised_there, is_form,
-- are_forms, form_canonical, form_of, form_there, forms_marked_by.
use Rattle.std.specs.Prelude.{◌≡◌, ◌≢◌, ◌⊎◌, ℕ, ◌<◌, ◌≤◌, List, [], ◌∷◌, length, map, Contains}
use Rattle.std.proofs.Common.{arith, refl, sym, ap, ◌∙◌, subst, get_or, take, inl, inr}
use Rattle.std.proofs.lemmas.List.{take_all}
use Rattle.gf_frac.specs.Fraction.{Fraction, ◌*ℚ◌, reciprocal_ℚ, zero_ℚ}
use Rattle.gf_frac.proofs.FractionLaws.{*ℚ_assoc, *ℚ-reciprocal_ℚ, one-*ℚ}
use Rattle.gf_exponents_theory.proofs.ExponentsLaws.{same-refl}
use Rattle.gf_poly.specs.declared.error.PolyError.{PolyError}
use Rattle.gf_poly.specs.declared.error.PolyError.TheVariants as errors
use Rattle.gf_poly.specs.Polynomial.{Terms, coefficient, times, HasVariables}
use Rattle.gf_poly.specs.Products.{HasProducts}
use Rattle.gf_poly.specs.Marking.{MarkedPolynomial, Each, HaveVariables, HasMarkedTerm, IsMonicOf, IsMonicCause}
use Rattle.gf_poly.proofs.CoefficientLaws.{descending_unique, term_coefficient, term_nonzero}
use Rattle.gf_poly.proofs.PolynomialLaws.{coefficient-times}
use Rattle.gf_poly.proofs.ProductLaws.{IsDescending-scaled, KeepsVariables-scaled, IsScaled-products, HasVariables-scale}
use Rattle.gf_poly.proofs.MarkingLaws.{nonzero_reciprocal}
use Rattle.gf_exponents_theory.specs.Orders.{lighter}
use Rattle.gf_int_theory.proofs.ListLaws.{Contains-here}
use Rattle.gf_ideal_theory.specs.Membership.{HasMonomial}
use Rattle.gf_ideal_theory.specs.Marks.{AreMarked, IsRealisedBy, IsRealisable}
use Rattle.gf_ideal_theory.specs.Reduction.{IsMonicForm, AreMonicForms}
use Rattle.gf_ideal_theory.specs.Bases.{IsCanonical}
use Rattle.gf_ideal_theory.proofs.KeptForms.{marked_there, canonical_marked}
use Rattle.gf_ideal_theory.proofs.GeneratorLaws.{monic-from}
use Rattle.gf_ideal_theory.proofs.ListLaws.{Contains-cases, Contains-there}
use Rattle.gf_ideal_theory.proofs.MarkWeights.{monic_realised}
use Rattle.gf_division.proofs.ReducerLaws.{member_at, member_contained}
use Rattle.gf_reduced.specs.Forms.{monic_of, IsFormRefusal}

-- ---- one of them

scaled : (k : Fraction) (f : Terms) → k ≢ zero_ℚ → HasProducts (reciprocal_ℚ k) [] f (times (reciprocal_ℚ k) [] f)
scaled k f n = record { nonzero = λ _. refl; zero = λ z. absurd (nonzero_reciprocal k n z) }

-- a monic polynomial as code makes it is known by its coefficients
pub monic_exact : (n : ℕ) (f g : MarkedPolynomial) → HasVariables n f.poly → HasMarkedTerm f → HasMarkedTerm g → IsMonicOf f g → g ≡ monic_of f
monic_exact n f g v m d q = λ i. record { poly = terms i; head = q.head i }
  where
    nonzero : q.mark ≢ zero_ℚ
    nonzero = term_nonzero f.poly (record { coef = q.mark; mono = f.head }) m.descending q.term

    products : HasProducts (reciprocal_ℚ q.mark) [] f.poly (times (reciprocal_ℚ q.mark) [] f.poly)
    products = scaled q.mark f.poly nonzero

    terms : g.poly ≡ times (reciprocal_ℚ (coefficient f.poly f.head)) [] f.poly
    terms =
        descending_unique n g.poly (times (reciprocal_ℚ q.mark) [] f.poly) (q.variables.at n v)
        ((KeepsVariables-scaled (reciprocal_ℚ q.mark) f.poly (times (reciprocal_ℚ q.mark) [] f.poly) products).at n v) d.descending
        (IsDescending-scaled (reciprocal_ℚ q.mark) f.poly (times (reciprocal_ℚ q.mark) [] f.poly) m.descending products)
        (λ x. q.quotients x ∙ sym (IsScaled-products (reciprocal_ℚ q.mark) f.poly (times (reciprocal_ℚ q.mark) [] f.poly) products x))
        ∙ ap (λ k. times (reciprocal_ℚ k) [] f.poly) (sym (term_coefficient n f.poly (record { coef = q.mark; mono = f.head }) v m.descending q.term))

-- ---- all of them

pub forms-variables : (n : ℕ) (bs : List MarkedPolynomial) → HaveVariables n bs → HaveVariables n (map monic_of bs)
forms-variables n [] h = tt
forms-variables n (b ∷ bs) h = (HasVariables-scale n (reciprocal_ℚ (coefficient b.poly b.head)) b.poly h.0, forms-variables n bs h.1)

-- the monic forms of the first i members, which are marked
pub record Forming (bs forms : List MarkedPolynomial) (i : ℕ) : Type 0 where
  pub items : forms ≡ map monic_of (take i bs)
  pub marked : Each HasMarkedTerm (take i bs)

Forming-end : (bs forms : List MarkedPolynomial) (i : ℕ) → length bs ≤ i → Forming bs forms i → (forms ≡ map monic_of bs) × Each HasMarkedTerm bs
Forming-end bs forms i l h = (h.items ∙ ap (map monic_of) (take_all i bs l), subst (Each HasMarkedTerm) (take_all i bs l) h.marked)

-- the marked monomials are monomials of their polynomials
abbrev pub AreThere : List MarkedPolynomial → Type 0
AreThere bs = (b : MarkedPolynomial) → Contains bs b → HasMonomial b.poly b.head

pub realised_there : (n : ℕ) (bs : List MarkedPolynomial) → IsRealisable n bs → AreThere bs
realised_there n bs r b c = (r.2 b c).there

-- they are monic forms
pub is_form : (b : MarkedPolynomial) → HasMonomial b.poly b.head → IsMonicForm b.poly (monic_of b)
is_form b h = record {
  there = h;
  equation = λ x.
      let k = coefficient b.poly b.head in
      ap (λ z. k *ℚ z) (coefficient-times (reciprocal_ℚ k) [] b.poly x) ∙ sym (*ℚ_assoc k (reciprocal_ℚ k) (coefficient b.poly x))
      ∙ ap (λ z. z *ℚ coefficient b.poly x) (*ℚ-reciprocal_ℚ k h) ∙ one-*ℚ (coefficient b.poly x);
}

pub are_forms : (bs : List MarkedPolynomial) → AreThere bs → AreMonicForms bs (map monic_of bs)
are_forms [] h = tt
are_forms (b ∷ bs) h = (is_form b (h b (Contains-here b bs)), same-refl b.head, are_forms bs (λ c k. h c (Contains-there b c bs k)))

-- and are kept as the members are
pub form_canonical : (n : ℕ) (b : MarkedPolynomial) → HasVariables n b.poly → HasMarkedTerm b → IsCanonical n (monic_of b)
form_canonical n b v m = record {
  variables = HasVariables-scale n (reciprocal_ℚ k) b.poly v;
  descending = IsDescending-scaled (reciprocal_ℚ k) b.poly (times (reciprocal_ℚ k) [] b.poly) m.descending (scaled k b.poly (marked_there n b v m));
  head = (canonical_marked n b v m).head;
}
  where
    k : Fraction
    k = coefficient b.poly b.head

-- by a weight that gives the marks the forms are marked
pub forms_marked_by : (w : List ℕ) (bs : List MarkedPolynomial) → ((b : MarkedPolynomial) → Contains bs b → IsRealisedBy w b) →
    AreMarked (lighter w) (map monic_of bs)
forms_marked_by w bs r c q = let b = monic-from bs (map monic_of bs) (are_forms bs (λ d k. (r d k).there)) c q in monic_realised w b.0 c b.2 b.3 (r b.0 b.1)

-- each form is that of a member
pub form_of : (bs : List MarkedPolynomial) (c : MarkedPolynomial) → Contains (map monic_of bs) c → (b : MarkedPolynomial) × Contains bs b × (monic_of b ≡ c)
form_of [] c q = absurd (omega (arith, q.1))
form_of (d ∷ bs) c q = at (Contains-cases (monic_of d) c (map monic_of bs) q) (λ k. form_of bs c k)
  where
    at : (monic_of d ≡ c) ⊎ Contains (map monic_of bs) c → (Contains (map monic_of bs) c → (b : MarkedPolynomial) × Contains bs b × (monic_of b ≡ c)) →
        (b : MarkedPolynomial) × Contains (d ∷ bs) b × (monic_of b ≡ c)
    at (inl e) r = (d, Contains-here d bs, e)
    at (inr k) r = let b = r k in (b.0, Contains-there d b.0 bs b.1, b.2)

-- and each member has one
pub form_there : (bs : List MarkedPolynomial) (b : MarkedPolynomial) → Contains bs b → Contains (map monic_of bs) (monic_of b)
form_there [] b q = absurd (omega (arith, q.1))
form_there (d ∷ bs) b q = at (Contains-cases d b bs q) (λ k. form_there bs b k)
  where
    at : (d ≡ b) ⊎ Contains bs b → (Contains bs b → Contains (map monic_of bs) (monic_of b)) → Contains (map monic_of (d ∷ bs)) (monic_of b)
    at (inl e) r = subst (λ (z : MarkedPolynomial). Contains (map monic_of (z ∷ bs)) (monic_of b)) (sym e) (Contains-here (monic_of b) (map monic_of bs))
    at (inr k) r = Contains-there (monic_of d) (monic_of b) (map monic_of bs) (r k)

-- a member that isn't made monic
form_refused : (bs : List MarkedPolynomial) (i : ℕ) (b : MarkedPolynomial) (e : PolyError) → i < length bs → b ≡ get_or bs i b → IsMonicCause b e →
    IsFormRefusal bs e
form_refused bs i b (errors.Overflow o) l q h = record { member = b; contained = member_contained bs i b (member_at bs i b l q); cause = h }
form_refused bs i b (errors.Exponent o) l q h = absurd h.cause
form_refused bs i b errors.Memory l q h = tt

-- ---- as the loop over the items of a set has it, which are bs

pub item_refused : (bs items : List MarkedPolynomial) (i : ℕ) (b : MarkedPolynomial) (e : PolyError) → items ≡ bs → i < length items → b ≡ get_or items i b →
    IsMonicCause b e → IsFormRefusal bs e
item_refused bs items i b e q l k h = subst (λ (cs : List MarkedPolynomial). IsFormRefusal cs e) q (form_refused items i b e l k h)

pub forms_kept : (n k : ℕ) (bs items forms : List MarkedPolynomial) (i : ℕ) → k ≡ n → items ≡ bs → HaveVariables n bs → length items ≤ i →
    Forming items forms i → HaveVariables k forms
forms_kept n k bs items forms i q e v l h = subst (λ (j : ℕ). HaveVariables j forms) (sym q)
    (subst (HaveVariables n) (sym ((Forming-end items forms i l h).0 ∙ ap (map monic_of) e)) (forms-variables n bs v))

pub forms_marked : (bs items forms : List MarkedPolynomial) (i : ℕ) → items ≡ bs → length items ≤ i → Forming items forms i → Each HasMarkedTerm bs
forms_marked bs items forms i e l h = subst (Each HasMarkedTerm) e (Forming-end items forms i l h).1
