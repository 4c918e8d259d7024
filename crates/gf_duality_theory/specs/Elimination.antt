-- Elimination column by column, the echelon basis it leaves, the null space of equations, and the operations of these.
use Rattle.std.specs.Prelude.{◌≡◌, ◌≢◌, ℕ, ◌+◌, ◌<◌, List, [], ◌∷◌, ◌++◌, ℤ, pos, ◌<ℤ◌, neg_ℤ, ◌⊎◌, length, All, Contains, remove, map, drop}
use Rattle.std.specs.List.{AllZip}
use Rattle.gf_int_theory.specs.Content.{IsPrimitive, scaled}
use Rattle.gf_vec.specs.declared.error.VecOp.TheVariants.{Sub}
use Rattle.gf_vec.specs.Vector.{vector_sum, values, entry_at}
use Rattle.gf_vec.specs.Primitive.{IsPrimitivePart}
use Rattle.gf_gordan.specs.declared.error.ConeOverflow.{ConeOverflow}
use Rattle.gf_gordan.specs.Elimination.{IsPivot, row_at, size_at, signed_at}
use Rattle.gf_duality_theory.specs.Combining.{IsCombining}
use Rattle.gf_duality_theory.specs.Generators.{unit_vectors}

-- u is |r_j| * t - sign(r_j) * t_j * r, divided by its content: zero in column j
abbrev pub IsTurned : List ℤ → ℕ → List ℤ → List ℤ → Type 0
IsTurned r j t u = IsPrimitivePart (vector_sum (scaled (size_at r j) t) (scaled (neg_ℤ (signed_at r j t)) r)) u

-- a step of that
abbrev pub IsRowTurning : ℕ → List ℤ → ℕ → List ℤ → ConeOverflow → Type 0
IsRowTurning row r j t s = IsCombining row Sub (size_at r j) t (signed_at r j t) r s

-- k is the index of the first row that isn't zero in column j
pub record IsFirstAt (rows : List (List ℤ)) (j k : ℕ) : Type 0 where
  pub inside : k < length rows
  pub not_zero : entry_at (row_at rows k) j ≢ pos 0
  pub first : (i : ℕ) → i < k → entry_at (row_at rows i) j ≡ pos 0

-- after so many columns: the rows that had their turn, each with a pivot of its own, and the rows that are left
pub data IsEliminated (n : ℕ) (rows : List (List ℤ)) : ℕ → List (List ℤ) → List (List ℤ) → Type 0 where
  begun : IsEliminated n rows 0 [] rows
  skipped : (j m : ℕ) (done left : List (List ℤ)) → m ≡ j + 1 → All (λ t. entry_at t j ≡ pos 0) left → IsEliminated n rows j done left →
      IsEliminated n rows m done left
  turned : (j m : ℕ) (done left others rest out : List (List ℤ)) (k : ℕ) → m ≡ j + 1 → j < n → IsFirstAt left j k →
      AllZip (IsTurned (row_at left k) j) done others → AllZip (IsTurned (row_at left k) j) (remove left k) rest → out ≡ others ++ row_at left k ∷ [] →
      IsEliminated n rows j done left → IsEliminated n rows m out rest

-- a step of an elimination by the first columns, which has the number row
pub record IsEliminationStep (row n : ℕ) (rows : List (List ℤ)) (columns : ℕ) (s : ConeOverflow) : Type 0 where
  pub j : ℕ
  pub done : List (List ℤ)
  pub left : List (List ℤ)
  pub k : ℕ
  pub t : List ℤ
  pub column : j < columns
  pub reached : IsEliminated n rows j done left
  pub pivot : IsFirstAt left j k
  pub other : Contains done t ⊎ Contains (remove left k) t
  pub turning : IsRowTurning row (row_at left k) j t s

-- z is t divided by a number, primitive, with its pivot positive
pub record IsNormalised (t z : List ℤ) : Type 0 where
  pub factor : ℤ
  pub not_zero : factor ≢ pos 0
  pub multiple : scaled factor z ≡ t
  pub primitive : IsPrimitive z
  pub leading : (p : ℕ) → IsPivot z p → pos 0 <ℤ entry_at z p

-- the rows that an elimination by all columns leaves, with positive pivots
pub record IsEchelonBasis (n : ℕ) (rows out : List (List ℤ)) : Type 0 where
  pub done : List (List ℤ)
  pub left : List (List ℤ)
  pub eliminated : IsEliminated n rows n done left
  pub normal : AllZip IsNormalised done out

-- x after what each equation gives on it
abbrev pub with_values : List (List ℤ) → List ℤ → List ℤ
with_values equations x = values equations x ++ x

-- the columns of the equations, each followed by its unit vector
abbrev pub columns : ℕ → List (List ℤ) → List (List ℤ)
columns n equations = map (with_values equations) (unit_vectors n)

-- read from an elimination of the columns: the right parts of the rows whose left parts are zero, as an echelon basis
pub record IsNullSpace (n : ℕ) (equations out : List (List ℤ)) : Type 0 where
  pub done : List (List ℤ)
  pub left : List (List ℤ)
  pub eliminated : IsEliminated (length equations + n) (columns n equations) (length equations) done left
  pub basis : IsEchelonBasis n (map (drop (length equations)) left) out

-- a step of reading it
pub data IsNullStep (row n : ℕ) (equations : List (List ℤ)) (s : ConeOverflow) : Type 0 where
  eliminating : IsEliminationStep row (length equations + n) (columns n equations) (length equations) s → IsNullStep row n equations s
  reducing : (done left : List (List ℤ)) → IsEliminated (length equations + n) (columns n equations) (length equations) done left →
      IsEliminationStep row n (map (drop (length equations)) left) n s → IsNullStep row n equations s
