-- The check of what is read, and the question that it asks.
use Rattle.std.specs.Prelude.{◌≡◌, ℕ, ◌<◌, ◌^◌, Bool, List, length, Option, ℤ}
use Rattle.gf_order.specs.Weights.{AreBounded}
use Rattle.gf_poly.specs.Polynomial.{Terms}
use Rattle.gf_items.specs.Checks.{AllHold}
use Rattle.gfan_sets.specs.declared.buchberger.Question.{Question}
use Rattle.gfan_sets.specs.Buchberger.{asked_order}
use Rattle.gfan_common.specs.Forms.{form}

-- the entries of the weight are within the bounds of a comparison, and there are fewer than 2 ^ 32
pub record IsCountable (weight : List ℤ) : Type 0 where
  pub bounded : AreBounded weight
  pub countable : length weight < 2 ^ 32

-- the question is the basis of fs by the order, and what is read meets the conditions of this order
pub record IsQuestion (revlex : Bool) (n : ℕ) (weight : Option (List ℤ)) (fs : List Terms) (q : Question) : Type 0 where
  pub generators : q.generators.items ≡ fs
  pub order : q.order ≡ asked_order revlex weight
  pub formed : AllHold (form revlex n weight fs)
