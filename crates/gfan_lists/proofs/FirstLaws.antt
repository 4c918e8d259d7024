-- Why the first basis of a list isn't there. To cite: first_told, first_memory.
use Rattle.std.proofs.Common.{◌≡◌, ℕ, List, refl, subst}
use Rattle.gf_exponents_theory.specs.SixOrders.{MonomialOrder}
use Rattle.gf_poly.specs.Polynomial.{Terms}
use Rattle.gf_buchberger.specs.declared.bases.BasisError.{BasisError}
use Rattle.gf_buchberger.specs.declared.bases.BasisError.TheVariants as basis_errors
use Rattle.gf_buchberger.specs.declared.queue.Strategy.TheVariants as strategies
use Rattle.gf_buchberger.specs.Ruled.{AreRuledRunsWithinLimits}
use Rattle.gf_buchberger.specs.Bases.{IsBasisRefusal, IsWantOfMemory}
use Rattle.gf_front.specs.declared.refusal.Refusal.{Refusal}
use Rattle.gf_front.specs.declared.refusal.Refusal.TheVariants as refusals
use Rattle.gfan_common.specs.Causes.{of_basis}
use Rattle.gfan_lists.specs.Bases.{IsFirstRefusal}

-- what is told of one order, number of variables and list of polynomials is told of equal ones
pub first_told : (o d : MonomialOrder) (k n : ℕ) (gs fs : List Terms) (pairs : ℕ) (e : BasisError) → o ≡ d → k ≡ n → gs ≡ fs →
    IsBasisRefusal o k gs pairs e → (AreRuledRunsWithinLimits strategies.Degree o gs pairs → IsWantOfMemory e) → IsFirstRefusal d n fs pairs e
first_told o d k n gs fs pairs e p q s h w = record {
  cause = subst (λ (z : MonomialOrder). IsBasisRefusal z n fs pairs e) p (subst (λ (z : ℕ). IsBasisRefusal o z fs pairs e) q
      (subst (λ (z : List Terms). IsBasisRefusal o k z pairs e) s h));
  by_rule = subst (λ (z : MonomialOrder). AreRuledRunsWithinLimits strategies.Degree z fs pairs → IsWantOfMemory e) p
      (subst (λ (z : List Terms). AreRuledRunsWithinLimits strategies.Degree o z pairs → IsWantOfMemory e) s w);
}

-- there is no memory for the polynomials
pub first_memory : (o : MonomialOrder) (n : ℕ) (fs : List Terms) (pairs : ℕ) (r : Refusal) → r ≡ refusals.Memory →
    (e : BasisError) × IsFirstRefusal o n fs pairs e × (r ≡ of_basis e)
first_memory o n fs pairs r q = (basis_errors.Memory, record { cause = tt; by_rule = λ w. refl }, q)
