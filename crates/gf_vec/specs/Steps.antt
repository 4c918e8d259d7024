-- The operations of a call in their order, and the first of them that leaves the range.
use Rattle.std.specs.Prelude.{◌≡◌, ◌≤◌, ◌^◌, List, [], ◌∷◌, ℤ, ◌+ℤ◌, ◌-ℤ◌, ◌*ℤ◌, unsigned_abs, Result, Ok, Err, ◌⊎◌}
use Rattle.std.specs.List.{AllByRecursion}
use Rattle.gf_int_theory.specs.Range.{InRange}
use Rattle.gf_vec.specs.declared.error.VecOp.{VecOp}
use Rattle.gf_vec.specs.declared.error.VecOp.TheVariants.{Add, Sub, Mul}
use Rattle.gf_vec.specs.declared.error.WideVector.{WideVector}
use Rattle.gf_vec.specs.declared.error.VecError.{VecError}
use Rattle.gf_vec.specs.declared.error.VecError.TheVariants.{Wide, Memory}

-- what an operation gives
abbrev pub value_of : VecOp → ℤ → ℤ → ℤ
value_of Add x y = x +ℤ y
value_of Sub x y = x -ℤ y
value_of Mul x y = x *ℤ y

-- the outcome of a step is in range
abbrev pub FitsRange : WideVector → Type 0
FitsRange s = InRange (value_of s.op s.left s.right)

-- the outcome of a step is outside the range
abbrev pub IsWide : WideVector → Type 0
IsWide s = 2 ^ 127 ≤ unsigned_abs (value_of s.op s.left s.right)

-- the outcome, where it is in range, and else the step
abbrev pub Operates : VecOp → ℤ → ℤ → Result ℤ WideVector → Type 0
Operates op x y (Ok z) = (z ≡ value_of op x y) × InRange z
Operates op x y (Err e) = (e ≡ record { op = op; left = x; right = y }) × IsWide e

-- the operations of a dot product from the left, after a partial sum: each product, and then its sum with what is there
abbrev pub dot_steps : ℤ → List ℤ → List ℤ → List WideVector
dot_steps a [] ys = []
dot_steps a (x ∷ xs) [] = []
dot_steps a (x ∷ xs) (y ∷ ys) =
    record { op = Mul; left = x; right = y } ∷ record { op = Add; left = a; right = x *ℤ y } ∷ dot_steps (a +ℤ x *ℤ y) xs ys

-- the operations of a sum of two vectors from the left
abbrev pub sum_steps : List ℤ → List ℤ → List WideVector
sum_steps [] ys = []
sum_steps (x ∷ xs) [] = []
sum_steps (x ∷ xs) (y ∷ ys) = record { op = Add; left = x; right = y } ∷ sum_steps xs ys

-- the first of the steps whose outcome leaves the range
abbrev pub IsFirstWide : WideVector → List WideVector → Type 0
IsFirstWide e [] = ⊥
IsFirstWide e (s ∷ steps) = ((s ≡ e) × IsWide e) ⊎ (FitsRange s × IsFirstWide e steps)

-- no step leaves the range
abbrev pub NoneWide : List WideVector → Type 0
NoneWide steps = AllByRecursion FitsRange steps

-- what a refusal for width says; want of memory says nothing
abbrev pub IfWide : (WideVector → Type 0) → VecError → Type 0
IfWide P (Wide e) = P e
IfWide P Memory = Unit {0}
