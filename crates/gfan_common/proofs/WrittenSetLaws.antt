-- The polynomials of a set that is read, and the names of their monomials.
-- To cite: polynomials_next, in_ring; lent_names, first_variables. The rest are steps.
use Rattle.std.specs.Prelude.{◌≡◌, ℕ, zero, suc, ◌+◌, ◌<◌, List, [], ◌∷◌, ◌++◌, length, take, slice_index_or, Option, None, Some}
use Rattle.std.specs.Borrow.{Bor}
use Rattle.std.specs.Option.{option_copied}
use Rattle.std.proofs.Common.{arith, refl, sym, ap, ◌∙◌, subst}
use Rattle.gf_exponents_theory.specs.Exponents.{Exponents}
use Rattle.gf_poly.specs.Polynomial.{Terms, HasVariables}
use Rattle.gf_poly.specs.Marking.{Each}
use Rattle.gf_text.specs.declared.written.Written.{Written}
use Rattle.gf_text.specs.declared.written.Written.TheVariants as written
use Rattle.gf_text.specs.Sets.{AreIn}
use Rattle.gf_ideal_theory.proofs.ListLaws.{contained_each}
use Rattle.gf_division.proofs.StepLaws.{term_length}
use Rattle.gf_buchberger.specs.declared.homogeneity.NotHomogeneous.{NotHomogeneous}
use Rattle.gf_buchberger.specs.Homogeneity.{IsFirstInhomogeneous}
use Rattle.gf_buchberger.specs.Tasks.{HaveRingVariables}
use Rattle.gf_front.specs.Lines.{IsNamed}
use Rattle.gfan_common.specs.Forms.{polynomial_of, generators_of}

-- ---- polynomials

pub polynomials_next : (ws : List Written) (i : ℕ) (w : Written) (fs : List Terms) (f : Terms) → i < length ws → w ≡ slice_index_or ws i w →
    fs ≡ generators_of (take i ws) → f ≡ polynomial_of w → fs ++ f ∷ [] ≡ generators_of (take (i + 1) ws)
polynomials_next [] i w fs f l e p q = absurd (omega arith)
polynomials_next (v ∷ ws) zero w fs f l e p q =
    let one : f ∷ [] ≡ polynomial_of v ∷ [] = ap (λ (g : Terms). g ∷ []) (q ∙ ap polynomial_of e) in
    ap (λ gs. gs ++ f ∷ []) p ∙ one
polynomials_next (v ∷ ws) (suc i) w fs f l e p q =
    let more = polynomials_next ws i w (generators_of (take i ws)) f (omega arith) e refl q in
    let s : suc i + 1 ≡ suc (i + 1) = omega arith in
    ap (λ gs. gs ++ f ∷ []) p ∙ ap (λ gs. polynomial_of v ∷ gs) more ∙ ap (λ k. generators_of (take k (v ∷ ws))) (sym s)

each_in : (n : ℕ) (ws : List Written) → AreIn n ws → Each (HasVariables n) (generators_of ws)
each_in n [] h = tt
each_in n (written.Zero ∷ ws) h = (tt, each_in n ws h.1)
each_in n (written.Nonzero m ∷ ws) h = (h.0, each_in n ws h.1)

pub in_ring : (n : ℕ) (ws : List Written) (fs : List Terms) → AreIn n ws → fs ≡ generators_of ws → HaveRingVariables n fs
in_ring n ws fs h e = subst (HaveRingVariables n) (sym e) (record { each = λ f c. contained_each (HasVariables n) (generators_of ws) (each_in n ws h) f c })

-- ---- the names of monomials

pub lent_names : (ring : List (List ℕ)) (x : Exponents) (lent : Option (Bor (List (List ℕ)))) → option_copied lent ≡ Some ring → length x ≡ length ring →
    IsNamed lent x
lent_names ring x None e h = let p : None ≡ Some ring = e in cc
lent_names ring x (Some b) e h = let p : Some b.now ≡ Some ring = e in let q : b.now ≡ ring = cc in h ∙ ap length (sym q)

pub first_variables : (n : ℕ) (fs : List Terms) (e : NotHomogeneous) → HaveRingVariables n fs → IsFirstInhomogeneous fs e →
    (length e.first ≡ n) × (length e.second ≡ n)
first_variables n fs e v h =
    let variables = v.each h.poly (e.polynomial, h.inside, h.is) in
    let o = h.other in (
      ap length h.first ∙ term_length n h.poly o.first variables (0, omega (arith, o.inside), o.is_first),
      ap length h.second ∙ term_length n h.poly o.other variables (h.index, o.inside, o.is_other),
    )
