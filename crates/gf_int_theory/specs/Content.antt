-- Common divisors of a list of whole numbers, its content, and primitive lists.
-- The content is the greatest common divisor of the entries, save that it is 1 where no entry is nonzero:
-- so dividing by it never fails, and zeros stay zeros. Laws: proofs/ContentLaws.antt.
use Rattle.std.specs.Prelude.{◌≡◌, ◌<◌, ℕ, List, [], ◌∷◌, ℤ, pos, ◌*ℤ◌, ◌⊎◌, unsigned_abs, int_div, map}
use Rattle.std.specs.Int.{◌∣◌}
use Rattle.std.specs.List.{AllByRecursion}

-- d divides each entry
abbrev pub DividesAll : ℕ → List ℤ → Type 0
DividesAll d xs = AllByRecursion (λ x. d ∣ unsigned_abs x) xs

-- each entry is zero
abbrev pub AllZero : List ℤ → Type 0
AllZero xs = AllByRecursion (λ x. x ≡ pos 0) xs

-- g divides each entry, and each number that does so divides g: of zeros alone it is 0
pub record IsGcdOfAll (xs : List ℤ) (g : ℕ) : Type 0 where
  pub divides : DividesAll g xs
  pub greatest : (d : ℕ) → DividesAll d xs → d ∣ g

-- c is the greatest common divisor of the entries, or 1 where all are zero
pub record IsContent (xs : List ℤ) (c : ℕ) : Type 0 where
  pub positive : 0 < c
  pub divides : DividesAll c xs
  pub greatest : ((d : ℕ) → DividesAll d xs → d ∣ c) ⊎ (AllZero xs × (c ≡ 1))

-- no number above 1 divides each entry, or all are zero
abbrev pub IsPrimitive : List ℤ → Type 0
IsPrimitive xs = (d : ℕ) → DividesAll d xs → (d ≡ 1) ⊎ AllZero xs

-- each entry times k
abbrev pub scaled : ℤ → List ℤ → List ℤ
scaled k [] = []
scaled k (x ∷ xs) = (k *ℤ x) ∷ scaled k xs

-- each entry divided by c, toward zero
abbrev pub quotients : ℤ → List ℤ → List ℤ
quotients c xs = map (λ x. int_div x c) xs
