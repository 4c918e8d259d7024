-- Checks of form, one after another: all hold, or the first that doesn't decides.
use Rattle.std.specs.Prelude.{List, [], ◌∷◌, ◌⊎◌}
use Rattle.gf_front.specs.declared.refusal.Refusal.{Refusal}

-- a condition, and how its failing is told
pub record Check : Type 1 where
  pub Holds : Type 0
  pub Fails : Refusal → Type 0

-- each of the checks holds
abbrev pub AllHold : List Check → Type 0
AllHold [] = Unit {0}
AllHold (c ∷ cs) = c.Holds × AllHold cs

-- one fails so, and those before it hold
abbrev pub FirstFails : List Check → Refusal → Type 0
FirstFails [] r = ⊥
FirstFails (c ∷ cs) r = c.Fails r ⊎ (c.Holds × FirstFails cs r)
