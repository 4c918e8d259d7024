-- A binary number falls where the first digit that changes does.
use Rattle.std.proofs.Common.{◌≡◌, ℕ, suc, ◌+◌, ◌^◌, ◌<◌, Bool, true, false, List, [], ◌∷◌, map, length, arith, refl, sym, ap, ◌∙◌, subst, inl, inr}
use Rattle.std.proofs.lemmas.List.{length-map}
use Rattle.std.proofs.Math.Nat.{pow-suc}
use Rattle.gf_reverse_search.specs.Listing.{Among}
use Rattle.gf_reverse_theory.specs.LeadingNumber.{binary}

-- each comes before all that follow
abbrev pub AscendsBy : {X : Type 0} → (X → X → Type 0) → List X → Type 0
AscendsBy lt [] = Unit {0}
AscendsBy {X} lt (x ∷ xs) = ((y : X) → Among xs y → lt x y) × AscendsBy lt xs

twice : (n : ℕ) → 2 ^ suc n ≡ 2 ^ n + 2 ^ n
twice n = omega (arith, pow-suc 2 n)

binary-below : (bs : List Bool) → binary bs < 2 ^ length bs
binary-below [] = omega arith
binary-below (true ∷ bs) = omega (arith, binary-below bs, twice (length bs))
binary-below (false ∷ bs) = omega (arith, binary-below bs, twice (length bs))

-- y comes before x, and turns from true to false
pub record Turns {X : Type 0} (lt : X → X → Type 0) (f g : X → Bool) (xs : List X) (x : X) : Type 0 where
  pub at : X
  pub among : Among xs at
  pub first : lt at x
  pub was : f at ≡ true
  pub is : g at ≡ false

module _ {X : Type 0} (lt : X → X → Type 0) (irreflexive : (x : X) → lt x x → ⊥) (transitive : (x y z : X) → lt x y → lt y z → lt x z) (f g : X → Bool) where
  -- where something changes, and before each that turns from false to true another turns from true to false, the number falls
  pub binary_falls : (xs : List X) → AscendsBy lt xs → (x : X) → Among xs x → (f x ≡ g x → ⊥) →
      ((x : X) → Among xs x → f x ≡ false → g x ≡ true → Turns lt f g xs x) → binary (map g xs) < binary (map f xs)
  binary_falls [] a x j n t = absurd j
  binary_falls (z ∷ zs) a x j n t = at (f z) (g z) refl refl (binary_falls zs a.1)
    where
      -- the same for the rest
      Rest : Type 0
      Rest = (y : X) → Among zs y → (f y ≡ g y → ⊥) → ((w : X) → Among zs w → f w ≡ false → g w ≡ true → Turns lt f g zs w) →
          binary (map g zs) < binary (map f zs)

      later : f z ≡ g z → (y : X) → Turns lt f g (z ∷ zs) y → Turns lt f g zs y
      later e y r = elim r.among [
        | inl q ↦ absurd (let u : f z ≡ true = ap f q ∙ r.was in let v : g z ≡ false = ap g q ∙ r.is in cc)
        | inr l ↦ record { at = r.at; among = l; first = r.first; was = r.was; is = r.is }
      ]

      same_first : Rest → f z ≡ g z → binary (map g zs) < binary (map f zs)
      same_first rec e = elim j [
        | inl q ↦ absurd (n (subst (λ y. f y ≡ g y) q e))
        | inr k ↦ rec x k n (λ y l p q. later e y (t y (inr l) p q))
      ]

      clash : Turns lt f g (z ∷ zs) z → ⊥
      clash r = elim r.among [
        | inl e ↦ irreflexive z (subst (λ y. lt y z) (sym e) r.first)
        | inr l ↦ irreflexive z (transitive z r.at z (a.0 r.at l) r.first)
      ]

      at : (b c : Bool) → f z ≡ b → g z ≡ c → Rest → binary (map g (z ∷ zs)) < binary (map f (z ∷ zs))
      at true true p q rec = rw (p, q) (omega (arith, same_first rec (p ∙ sym q), ap (λ n. 2 ^ n) (length-map zs f), ap (λ n. 2 ^ n) (length-map zs g)))
      at false false p q rec = rw (p, q) (omega (arith, same_first rec (p ∙ sym q)))
      at true false p q rec = rw (p, q) (omega (arith, binary-below (map g zs), ap (λ n. 2 ^ n) (length-map zs f), ap (λ n. 2 ^ n) (length-map zs g)))
      at false true p q rec = absurd (clash (t z (inl refl) p q))
