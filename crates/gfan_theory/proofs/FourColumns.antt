-- With at most four columns and entries up to 10 no step of the elimination of a strict system leaves the range.
-- To cite: no_system_step. The rest are steps.
use Rattle.std.proofs.Common.{ℕ, zero, suc, ◌≤◌, List, [], ◌∷◌, ◌++◌, length, ◌≡◌, ℤ, arith, All, unsigned_abs}
use Rattle.std.specs.List.{AllByRecursion}
use Rattle.std.proofs.lemmas.List.Elements.{All-append, recursion_from_All}
use Rattle.gf_gordan.specs.Alternative.{AreRows}
use Rattle.gf_gordan.specs.Sizes.{HaveEntriesUpTo}
use Rattle.gf_gordan.specs.Equations.{IsStepOn}
use Rattle.gf_gordan.specs.declared.error.ConeOverflow.{ConeOverflow}
use Rattle.gf_gordan.proofs.SizeLaws.{UpTo, up_all}
use Rattle.gf_gordan.proofs.ReducedSizes.{Sized}
use Rattle.gf_gordan.proofs.StepSizes.{HasRoomAt, HasRoom, no_step}

-- ---- the numbers: entries of 10, then of 200, then of 80,000, then of 1

one_unit : HasRoomAt 0 1
one_unit = record {
  reducing = omega arith;
  lifting = omega arith;
  factor = omega arith;
  pushing = omega arith;
  testing = omega arith;
  scaling = omega arith;
  carrying = omega arith;
  taking = omega arith;
}

one_column : HasRoomAt 0 10
one_column = record {
  reducing = omega arith;
  lifting = omega arith;
  factor = omega arith;
  pushing = omega arith;
  testing = omega arith;
  scaling = omega arith;
  carrying = omega arith;
  taking = omega arith;
}

two_columns : HasRoomAt 1 10
two_columns = record {
  reducing = omega arith;
  lifting = omega arith;
  factor = omega arith;
  pushing = omega arith;
  testing = omega arith;
  scaling = omega arith;
  carrying = omega arith;
  taking = omega arith;
}

two_of_three : HasRoomAt 1 200
two_of_three = record {
  reducing = omega arith;
  lifting = omega arith;
  factor = omega arith;
  pushing = omega arith;
  testing = omega arith;
  scaling = omega arith;
  carrying = omega arith;
  taking = omega arith;
}

two_of_four : HasRoomAt 1 80000
two_of_four = record {
  reducing = omega arith;
  lifting = omega arith;
  factor = omega arith;
  pushing = omega arith;
  testing = omega arith;
  scaling = omega arith;
  carrying = omega arith;
  taking = omega arith;
}

three_columns : HasRoomAt 2 10
three_columns = record {
  reducing = omega arith;
  lifting = omega arith;
  factor = omega arith;
  pushing = omega arith;
  testing = omega arith;
  scaling = omega arith;
  carrying = omega arith;
  taking = omega arith;
}

three_of_four : HasRoomAt 2 200
three_of_four = record {
  reducing = omega arith;
  lifting = omega arith;
  factor = omega arith;
  pushing = omega arith;
  testing = omega arith;
  scaling = omega arith;
  carrying = omega arith;
  taking = omega arith;
}

four_columns : HasRoomAt 3 10
four_columns = record {
  reducing = omega arith;
  lifting = omega arith;
  factor = omega arith;
  pushing = omega arith;
  testing = omega arith;
  scaling = omega arith;
  carrying = omega arith;
  taking = omega arith;
}

room : (n : ℕ) → n ≤ 4 → HasRoom n 10
room zero h = tt
room (suc zero) h = (one_column, tt)
room (suc (suc zero)) h = (two_columns, (one_unit, tt))
room (suc (suc (suc zero))) h = (three_columns, (two_of_three, (one_unit, tt)))
room (suc (suc (suc (suc zero)))) h = (four_columns, (three_of_four, (two_of_four, (one_unit, tt))))
room (suc (suc (suc (suc (suc n))))) h = absurd (omega (arith, h))

-- ---- the systems

ups : (b : ℕ) (vectors : List (List ℤ)) → AllByRecursion (All (λ x. unsigned_abs x ≤ b)) vectors → AllByRecursion (UpTo b) vectors
ups b [] h = tt
ups b (t ∷ ts) h = (up_all b t (recursion_from_All (λ x. unsigned_abs x ≤ b) t h.0), ups b ts h.1)

sized : (n b : ℕ) (vectors : List (List ℤ)) → AreRows n vectors → HaveEntriesUpTo b vectors → Sized n b vectors
sized n b vectors w e = record {
  widths = recursion_from_All (λ t. length t ≡ n) vectors w;
  entries = ups b vectors (recursion_from_All (All (λ x. unsigned_abs x ≤ b)) vectors e);
}

pub no_system_step : (all n : ℕ) (rows equations : List (List ℤ)) (s : ConeOverflow) → n ≤ 4 → AreRows n rows → AreRows n equations →
    HaveEntriesUpTo 10 rows → HaveEntriesUpTo 10 equations → IsStepOn all n rows equations s → ⊥
no_system_step all n rows equations s few w we low le step =
    no_step all n 10 rows equations s (omega arith) (sized n 10 (rows ++ equations) (All-append (λ t. length t ≡ n) rows equations w we)
    (All-append (All (λ x. unsigned_abs x ≤ 10)) rows equations low le)) (room n few) step
