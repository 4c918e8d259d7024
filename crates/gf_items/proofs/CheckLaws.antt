-- Of checks one after another, the first that fails is one, and it fails in one way, where each check does.
-- To cite: IsCheckedOnce, AreCheckedOnce, first_once, first_apart, first_kind. The rest are steps.
use Rattle.std.specs.Prelude.{◌≡◌, List, [], ◌∷◌}
use Rattle.std.proofs.Common.{inl, inr}
use Rattle.gf_front.specs.declared.refusal.Refusal.{Refusal}
use Rattle.gf_items.specs.Refusals.{IsExactRefusal}
use Rattle.gf_items.specs.Checks.{Check, AllHold, FirstFails}

-- a check fails in one way, exactly, and not where it holds
pub record IsCheckedOnce (c : Check) : Type 0 where
  pub once : (r d : Refusal) → c.Fails r → c.Fails d → d ≡ r
  pub apart : (r : Refusal) → c.Holds → c.Fails r → ⊥
  pub kind : (r : Refusal) → c.Fails r → IsExactRefusal r

-- the same of each
abbrev pub AreCheckedOnce : List Check → Type 0
AreCheckedOnce [] = Unit {0}
AreCheckedOnce (c ∷ cs) = IsCheckedOnce c × AreCheckedOnce cs

pub first_once : (cs : List Check) → AreCheckedOnce cs → (r d : Refusal) → FirstFails cs r → FirstFails cs d → d ≡ r
first_once [] laws r d h k = absurd h
first_once (c ∷ cs) laws r d (inl h) (inl k) = laws.0.once r d h k
first_once (c ∷ cs) laws r d (inl h) (inr k) = absurd (laws.0.apart r k.0 h)
first_once (c ∷ cs) laws r d (inr h) (inl k) = absurd (laws.0.apart d h.0 k)
first_once (c ∷ cs) laws r d (inr h) (inr k) = first_once cs laws.1 r d h.1 k.1

pub first_apart : (cs : List Check) → AreCheckedOnce cs → (r : Refusal) → AllHold cs → FirstFails cs r → ⊥
first_apart [] laws r a h = h
first_apart (c ∷ cs) laws r a (inl h) = laws.0.apart r a.0 h
first_apart (c ∷ cs) laws r a (inr h) = first_apart cs laws.1 r a.1 h.1

pub first_kind : (cs : List Check) → AreCheckedOnce cs → (r : Refusal) → FirstFails cs r → IsExactRefusal r
first_kind [] laws r h = absurd h
first_kind (c ∷ cs) laws r (inl h) = laws.0.kind r h
first_kind (c ∷ cs) laws r (inr h) = first_kind cs laws.1 r h.1
