-- A part that is one term alone: no other monomial of the member is along the vector.
-- To cite: alone_where, alone_at.
use Rattle.std.proofs.Common.{◌≡◌, ℕ, zero, suc, Bool, true, false, List, [], ◌∷◌, length, map, get_or, Contains, ℤ, ◌==◌, arith, refl, sym, ap, ◌∙◌, subst}
use Rattle.gf_frac.specs.Fraction.{one_ℚ}
use Rattle.gf_exponents_theory.specs.Exponents.{Exponents, same}
use Rattle.gf_exponents_theory.proofs.ExponentsLaws.{eq_by, same-refl, same_flip, same_trans}
use Rattle.gf_int_theory.proofs.ListLaws.{Contains-here}
use Rattle.gf_poly.specs.declared.Term.{Term}
use Rattle.gf_poly.specs.Polynomial.{Terms, coefficient}
use Rattle.gf_poly.specs.Marking.{MarkedPolynomial, polys}
use Rattle.gf_ideal_theory.specs.Membership.{HasMonomial}
use Rattle.gf_ideal_theory.specs.Settled.{IsAt}
use Rattle.gf_ideal_theory.proofs.Identities.{one_not_zero}
use Rattle.gf_ideal_theory.proofs.ListLaws.{Contains-there}
use Rattle.gf_ideal_theory.proofs.ListedTerms.{listed}
use Rattle.gf_division.specs.NormalForms.{HasSomeWeight}
use Rattle.gf_initial_theory.specs.Parts.{IsPartAlong, ArePartsAlong}
use Rattle.gf_initial_theory.proofs.ClassLaws.{multiple-grading}
use Rattle.gf_strands.specs.Along.{HasNonzero, AreAlong}
use Rattle.gf_strands.specs.Splits.{IsAlone}
use Rattle.gf_flip.specs.Chosen.{AreAloneWhere}

-- the monomials of a list of one term are the same
one_index : (f : Terms) (x y : Exponents) → length f ≡ 1 → HasMonomial f x → HasMonomial f y → same x y ≡ true
one_index [] x y l h k = absurd (omega arith)
one_index (t ∷ []) x y l h k = same_trans x t.mono y (at x h) (same_flip y t.mono (at y k))
  where
    at : (z : Exponents) → HasMonomial (t ∷ []) z → same z t.mono ≡ true
    at z n = let r = listed (λ (s : Term). s.mono ≡ t.mono) (t ∷ []) z (refl, tt) n in subst (λ (w : Exponents). same z w ≡ true) r.1 r.2
one_index (t ∷ s ∷ f) x y l h k = absurd (omega arith)

-- one member
alone_by_part : (a : List ℤ) → HasNonzero a → (b p : MarkedPolynomial) → coefficient b.poly b.head ≡ one_ℚ → IsPartAlong a b p → length p.poly ≡ 1 → IsAlone a b
alone_by_part a nz b p one h l x m q = let g = multiple-grading a nz in
    one_index p.poly x b.head l (λ z. m (sym (h.along x q) ∙ z)) (λ z. one_not_zero (sym one ∙ sym (h.along b.head (g.along b.head b.head (same-refl b.head))) ∙
    z))

-- each member whose part is one term alone
alone_parts : (a : List ℤ) → HasNonzero a → (bs ps : List MarkedPolynomial) → ((b : MarkedPolynomial) → Contains bs b → coefficient b.poly b.head ≡ one_ℚ) →
    ArePartsAlong a bs ps → (j : ℕ) (b : MarkedPolynomial) → IsAt bs j b → get_or (map (λ (f : Terms). length f == 1) (polys ps)) j false ≡ true → IsAlone a b
alone_parts a nz [] ps one h j b i e = absurd (omega (arith, i.within))
alone_parts a nz (d ∷ bs) [] one h j b i e = elim h [ ]
alone_parts a nz (d ∷ bs) (p ∷ ps) one h zero b i e =
    subst (IsAlone a) i.is (alone_by_part a nz d p (one d (Contains-here d bs)) h.0 (eq_by (length p.poly) 1 e))
alone_parts a nz (d ∷ bs) (p ∷ ps) one h (suc j) b i e = alone_parts a nz bs ps (λ c k. one c (Contains-there d c bs k)) h.1 j b
    (record { within = omega (arith, i.within); is = i.is }) e

flags-length : (a : List ℤ) (bs ps : List MarkedPolynomial) → ArePartsAlong a bs ps → length (map (λ (f : Terms). length f == 1) (polys ps)) ≡ length bs
flags-length a [] [] h = refl
flags-length a [] (p ∷ ps) h = elim h [ ]
flags-length a (b ∷ bs) [] h = elim h [ ]
flags-length a (b ∷ bs) (p ∷ ps) h = ap suc (flags-length a bs ps h.1)

pub alone_where : (a : List ℤ) → HasNonzero a → (bs : List MarkedPolynomial) (fs : List Terms) (flags : List Bool) → HasSomeWeight bs → AreAlong a bs fs →
    flags ≡ map (λ (f : Terms). length f == 1) fs → AreAloneWhere a bs flags
alone_where a nz bs fs flags w h e = subst (AreAloneWhere a bs) (sym (e ∙ ap (λ (z : List Terms). map (λ (f : Terms). length f == 1) z) h.polynomials))
    (record {
      size = flags-length a bs h.parts h.each;
      at = alone_parts a nz bs h.parts (λ b c. (w.1 b c).monic) h.each;
    })

-- the same under other names
pub alone_at : (a x : List ℤ) (bs items : List MarkedPolynomial) (flags : List Bool) → x ≡ a → items ≡ bs → AreAloneWhere a bs flags →
    AreAloneWhere x items flags
alone_at a x bs items flags e q h = subst (λ (z : List ℤ). AreAloneWhere z items flags) (sym e) (subst (λ (z : List MarkedPolynomial). AreAloneWhere a z flags)
    (sym q) h)
