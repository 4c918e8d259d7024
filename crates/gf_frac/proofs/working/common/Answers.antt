use Rattle.std.proofs.Common.{ℕ, ◌≡◌, ◌<◌, ◌≤◌, subst, sym}
use Rattle.std.proofs.lemmas.Nat.Gcd.{le_of_dvd, IsGcd-from_mod}
use Rattle.gf_int_theory.specs.Gcd.{gcd, gcd-is, gcd-same, gcd-positive}
use Rattle.gf_frac.proofs.working.common.Goals as goal

-- what a greatest common divisor is besides
told : (a b r : ℕ) → 0 < b → r ≡ gcd a b → (0 < r) × (r ≤ b)
told a b r h e = (subst (λ z. 0 < z) (sym e) (gcd-positive a b h), subst (λ z. z ≤ b) (sym e) (le_of_dvd h (gcd-is a b).1))

pub returns-then-a-eq0-clause-positive : goal.returns-then-a-eq0-clause-positive
returns-then-a-eq0-clause-positive c = (told c.args.a c.args.b _ c.requires c.gcd.ensures.value).0

pub returns-then-a-eq0-clause-bound : goal.returns-then-a-eq0-clause-bound
returns-then-a-eq0-clause-bound c = (told c.args.a c.args.b _ c.requires c.gcd.ensures.value).1

pub returns : goal.returns
returns c =
    let e = gcd-same c.args.a c.args.b _ (IsGcd-from_mod c.args.a c.args.b _ c.gcd-2.ensures.meaning) in
    let t = told c.args.a c.args.b _ c.requires e in
    record { value = e; positive = t.0; bound = t.1 }
