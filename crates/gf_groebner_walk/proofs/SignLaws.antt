-- The sign of a normal at a weight, where their dot product is zero.
-- To cite: told_less, told_other.
use Rattle.std.specs.declared.cmp.Ordering.{Ordering}
use Rattle.std.specs.declared.cmp.Ordering.TheVariants.{Less}
use Rattle.std.proofs.Common.{◌≡◌, ◌↔◌, List, ℤ, pos, true, false, IsTrue, refl, ap, ◌∙◌}
use Rattle.std.proofs.lemmas.Bool.{false≢true}
use Rattle.gf_vec.specs.Vector.{dot}
use Rattle.gf_vec.specs.RootSign.{first_sign}
use Rattle.gf_facets_theory.specs.LexPositive.{IsNegative}
use Rattle.gf_cone.proofs.RegionLaws.{sign_told, zero_sign}

-- the entries decide
by_entries : (r a xs : List ℤ) (o : Ordering) → dot a r ≡ pos 0 → xs ≡ a → o ≡ first_sign xs → (o ≡ Less) ↔ IsNegative r a
by_entries r a xs o e q f = sign_told r a o (zero_sign r a (dot a r) o refl e (f ∙ ap first_sign q))

-- as a program tells it
pub told_less : (r a xs : List ℤ) (o : Ordering) → dot a r ≡ pos 0 → xs ≡ a → o ≡ first_sign xs → o ≡ Less → IsTrue true ↔ IsNegative r a
told_less r a xs o e q f l = (λ t. (by_entries r a xs o e q f).0 l, λ h. refl)

pub told_other : (r a xs : List ℤ) (o : Ordering) → dot a r ≡ pos 0 → xs ≡ a → o ≡ first_sign xs → (o ≡ Less → ⊥) → IsTrue false ↔ IsNegative r a
told_other r a xs o e q f n = (λ t. absurd (false≢true t), λ h. absurd (n ((by_entries r a xs o e q f).1 h)))
