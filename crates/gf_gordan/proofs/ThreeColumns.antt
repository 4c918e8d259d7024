-- With at most three columns and entries up to 500 no step of the recursion leaves the range.
use Rattle.std.proofs.Common.{Result, Ok, Err, IfErr, ◌≡◌, ℕ, zero, suc, ◌≤◌, List, [], ◌∷◌, length, ℤ, arith, refl, All, unsigned_abs}
use Rattle.std.specs.List.{AllByRecursion}
use Rattle.std.proofs.lemmas.List.Elements.{recursion_from_All}
use Rattle.gf_gordan.specs.declared.answer.Answer.{Answer}
use Rattle.gf_gordan.specs.declared.error.GordanError.{GordanError}
use Rattle.gf_gordan.specs.declared.error.GordanError.TheVariants.{Cone, Memory}
use Rattle.gf_gordan.specs.Alternative.{AreRows}
use Rattle.gf_gordan.specs.Sizes.{HaveEntriesUpTo}
use Rattle.gf_gordan.specs.Steps.{Failed}
use Rattle.gf_gordan.specs.Equations.{IsStepOn}
use Rattle.gf_gordan.proofs.SizeLaws.{UpTo, up_all}
use Rattle.gf_gordan.proofs.ReducedSizes.{Sized}
use Rattle.gf_gordan.proofs.PointSizes.{Sized-append}
use Rattle.gf_gordan.proofs.StepSizes.{HasRoomAt, HasRoom, no_step}

-- ---- the numbers: entries of 500, then of 500,000, then of 1

one_unit : HasRoomAt 0 1
one_unit = record {
  reducing = omega arith;
  lifting = omega arith;
  factor = omega arith;
  pushing = omega arith;
  testing = omega arith;
  scaling = omega arith;
  carrying = omega arith;
  taking = omega arith;
}

one_column : HasRoomAt 0 500
one_column = record {
  reducing = omega arith;
  lifting = omega arith;
  factor = omega arith;
  pushing = omega arith;
  testing = omega arith;
  scaling = omega arith;
  carrying = omega arith;
  taking = omega arith;
}

two_columns : HasRoomAt 1 500
two_columns = record {
  reducing = omega arith;
  lifting = omega arith;
  factor = omega arith;
  pushing = omega arith;
  testing = omega arith;
  scaling = omega arith;
  carrying = omega arith;
  taking = omega arith;
}

two_below : HasRoomAt 1 500000
two_below = record {
  reducing = omega arith;
  lifting = omega arith;
  factor = omega arith;
  pushing = omega arith;
  testing = omega arith;
  scaling = omega arith;
  carrying = omega arith;
  taking = omega arith;
}

three_columns : HasRoomAt 2 500
three_columns = record {
  reducing = omega arith;
  lifting = omega arith;
  factor = omega arith;
  pushing = omega arith;
  testing = omega arith;
  scaling = omega arith;
  carrying = omega arith;
  taking = omega arith;
}

room : (n : ℕ) → n ≤ 3 → HasRoom n 500
room zero h = tt
room (suc zero) h = (one_column, tt)
room (suc (suc zero)) h = (two_columns, (one_unit, tt))
room (suc (suc (suc zero))) h = (three_columns, (two_below, (one_unit, tt)))
room (suc (suc (suc (suc n)))) h = absurd (omega arith)

-- ---- the systems

ups : (b : ℕ) (vectors : List (List ℤ)) → AllByRecursion (All (λ x. unsigned_abs x ≤ b)) vectors → AllByRecursion (UpTo b) vectors
ups b [] h = tt
ups b (t ∷ ts) h = (up_all b t (recursion_from_All (λ x. unsigned_abs x ≤ b) t h.0), ups b ts h.1)

sized : (n b : ℕ) (vectors : List (List ℤ)) → AreRows n vectors → HaveEntriesUpTo b vectors → Sized n b vectors
sized n b vectors w e = record {
  widths = recursion_from_All (λ t. length t ≡ n) vectors w;
  entries = ups b vectors (recursion_from_All (All (λ x. unsigned_abs x ≤ b)) vectors e);
}

-- a refusal is want of memory
pub not_refused : (r : Result Answer GordanError) (all n : ℕ) (rows equations : List (List ℤ)) → AreRows n rows → AreRows n equations →
    IfErr r (Failed (IsStepOn all n rows equations)) → n ≤ 3 → HaveEntriesUpTo 500 rows → HaveEntriesUpTo 500 equations → IfErr r (λ e. e ≡ Memory)
not_refused (Ok a) all n rows equations w we f h k l = tt
not_refused (Err (Cone s)) all n rows equations w we f h k l =
    absurd (no_step all n 500 rows equations s (omega arith) (Sized-append n 500 rows equations (sized n 500 rows w k) (sized n 500 equations we l)) (room n h)
    f)
not_refused (Err Memory) all n rows equations w we f h k l = refl
