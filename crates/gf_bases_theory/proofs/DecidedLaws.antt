-- What is decided: that numbers are equal, what holds of the elements of a list, and which elements something holds of.
-- To cite: same_or_not, search, each_or_not, Chosen, chosen.
use Rattle.std.proofs.Common.{◌≡◌, ◌⊎◌, List, [], ◌∷◌, Contains, arith, sym, subst, inl, inr}
use Rattle.gf_int_theory.proofs.ListLaws.{Contains-here}
use Rattle.gf_poly.specs.Marking.{Each}
use Rattle.gf_ideal_theory.proofs.ListLaws.{Contains-there, Contains-cases}

-- each element is good, or one of them gives something else
pub search : {A : Type 0} (Good : A → Type 0) (Other : Type 0) (xs : List A) →
    ((x : A) → Contains xs x → Good x ⊎ Other) → Each Good xs ⊎ Other
search Good Other [] h = inl tt
search Good Other (x ∷ xs) h = at (h x (Contains-here x xs)) (search Good Other xs (λ y c. h y (Contains-there x y xs c)))
  where
    at : Good x ⊎ Other → Each Good xs ⊎ Other → Each Good (x ∷ xs) ⊎ Other
    at (inl g) (inl k) = inl (g, k)
    at (inl g) (inr o) = inr o
    at (inr o) r = inr o

-- what holds of each element is decided where it is decided of one
pub each_or_not : {A : Type 0} (P : A → Type 0) → ((a : A) → P a ⊎ (P a → ⊥)) → (xs : List A) → Each P xs ⊎ (Each P xs → ⊥)
each_or_not P d [] = inl tt
each_or_not P d (x ∷ xs) = at (d x) (each_or_not P d xs)
  where
    at : P x ⊎ (P x → ⊥) → Each P xs ⊎ (Each P xs → ⊥) → Each P (x ∷ xs) ⊎ (Each P (x ∷ xs) → ⊥)
    at (inl p) (inl q) = inl (p, q)
    at (inl p) (inr n) = inr (λ h. n h.1)
    at (inr n) q = inr (λ h. n h.0)

-- the elements of which P holds
pub record Chosen {A : Type 0} (P : A → Type 0) (xs : List A) : Type 0 where
  pub items : List A
  pub only : (x : A) → Contains items x → Contains xs x × P x
  pub all : (x : A) → Contains xs x → P x → Contains items x

pub chosen : {A : Type 0} (P : A → Type 0) (xs : List A) → ((x : A) → Contains xs x → P x ⊎ (P x → ⊥)) → Chosen P xs
chosen P [] d = record { items = []; only = λ x h. absurd (omega (arith, h.1)); all = λ x h p. h }
chosen {A} P (y ∷ xs) d = at (d y (Contains-here y xs)) (chosen P xs (λ x h. d x (Contains-there y x xs h)))
  where
    at : P y ⊎ (P y → ⊥) → Chosen P xs → Chosen P (y ∷ xs)
    at (inl p) r = record { items = y ∷ r.items; only = λ x h. only x (Contains-cases y x r.items h); all = λ x h q. all x q (Contains-cases y x xs h) }
      where
        only : (x : A) → (y ≡ x) ⊎ Contains r.items x → Contains (y ∷ xs) x × P x
        only x (inl e) = (subst (Contains (y ∷ xs)) e (Contains-here y xs), subst P e p)
        only x (inr h) = let o = r.only x h in (Contains-there y x xs o.0, o.1)

        all : (x : A) → P x → (y ≡ x) ⊎ Contains xs x → Contains (y ∷ r.items) x
        all x q (inl e) = subst (Contains (y ∷ r.items)) e (Contains-here y r.items)
        all x q (inr h) = Contains-there y x r.items (r.all x h q)
    at (inr n) r = record {
      items = r.items;
      only = λ x h. let o = r.only x h in (Contains-there y x xs o.0, o.1);
      all = λ x h q. all x q (Contains-cases y x xs h);
    }
      where
        all : (x : A) → P x → (y ≡ x) ⊎ Contains xs x → Contains r.items x
        all x q (inl e) = absurd (n (subst P (sym e) q))
        all x q (inr h) = r.all x h q
