-- The numbers from 0 to a limit as the states of sessions.
use Rattle.std.specs.Prelude.{◌≡◌, ℕ, ◌+◌, ◌%◌, ◌≤◌, List, [], ◌∷◌}
use Rattle.gf_session.specs.Sessions.{Rules}
use Rattle.gf_number_sessions.specs.declared.numbers.NumberError.{NumberError}
use Rattle.gf_number_sessions.specs.declared.numbers.NumberError.TheVariants as errors

-- ---- moves

-- the step s leads on from p to q
pub record IsNumberStep (limit p s q : ℕ) : Type 0 where
  pub forward : 1 ≤ s
  pub reached : q ≡ p + s
  pub inside : q ≤ limit

-- n leads from p to q
pub record IsNumberAcross (limit p n q : ℕ) : Type 0 where
  pub reached : q ≡ p + n + 1
  pub inside : q ≤ limit

-- ---- text

-- the last decimal digit
abbrev pub digit_of : ℕ → ℕ
digit_of n = 48 + n % 10

-- the last digit of a number, a blank, and that of the steps behind
abbrev pub number_and_steps : ℕ → ℕ → List ℕ
number_and_steps p behind = digit_of p ∷ 32 ∷ digit_of behind ∷ 10 ∷ []

-- ---- sessions

-- from p each number n leads to p + n + 1, up to the limit
abbrev pub number_rules : ℕ → Rules ℕ
number_rules limit = record {
  IsAcross = IsNumberAcross limit;
  IsLacking = λ p n. limit ≤ p + n;
  IsTold = λ p behind text. text ≡ number_and_steps p behind;
}

-- a call at p is refused so: for want of memory, or because p is chosen
abbrev pub IsRefusedAtNumber : ℕ → ℕ → NumberError → Type 0
IsRefusedAtNumber chosen p errors.Memory = Unit {0}
IsRefusedAtNumber chosen p (errors.Chosen n) = (n ≡ p) × (p ≡ chosen)
