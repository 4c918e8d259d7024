-- The verdict of the whole. To cite: all_have, first_of, refused_at_bases.
use Rattle.std.proofs.Common.{◌≡◌, ℕ, List, map, All, subst}
use Rattle.gf_int_theory.proofs.ListLaws.{all_by}
use Rattle.gf_poly.specs.Polynomial.{Terms, HasVariables}
use Rattle.gf_buchberger.specs.Tasks.{HaveRingVariables}
use Rattle.gf_fan.specs.FanLists.{FanLists}
use Rattle.gf_patterns_theory.specs.Patterns.{points}
use Rattle.gf_tropical.specs.TropicalFans.{IsPrevarietyFan}
use Rattle.gf_tropical_basis_test.specs.declared.verdict.Verdict.{Verdict}
use Rattle.gf_tropical_basis_test.specs.declared.error.BasisTestError.{BasisTestError}
use Rattle.gf_tropical_basis_test.specs.Verdicts.{IsFirstVerdict, HaveBasesOutcome, IsTestFan, maximal_rows, outcome_of}
use Rattle.gf_tropical_basis_test.specs.Refusals.{IsVerdictRefusal, AreBasesRefused}

pub all_have : (n : ℕ) (fs : List Terms) → HaveRingVariables n fs → All (HasVariables n) fs
all_have n fs v = all_by (HasVariables n) fs (λ f c. v.each f c)

pub first_of : (n m : ℕ) (fs : List Terms) (h : FanLists) (verdict : Verdict) → m ≡ n → IsPrevarietyFan n (map points fs) h →
    HaveBasesOutcome m fs (maximal_rows h) (outcome_of verdict) → IsFirstVerdict n fs verdict
first_of n m fs h verdict e p o = record { fan = h; is_fan = p; outcome = subst (λ k. HaveBasesOutcome k fs (maximal_rows h) (outcome_of verdict)) e o }

pub refused_at_bases : (n m : ℕ) (fs : List Terms) (h : FanLists) (pairs : ℕ) (r : BasisTestError) → m ≡ n → IsTestFan n fs h →
    AreBasesRefused m fs (maximal_rows h) pairs r → IsVerdictRefusal n fs pairs r
refused_at_bases n m fs h pairs r e p a = IsVerdictRefusal.at_bases h p (subst (λ k. AreBasesRefused k fs (maximal_rows h) pairs r) e a)
