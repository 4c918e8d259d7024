-- The line that a status comes with. Laws: proofs/StatusLaws.antt.
use Rattle.std.specs.Prelude.{◌≡◌, ℕ, List, [], ◌∷◌, ◌++◌, Option, codes}
use Rattle.gf_front.specs.declared.refusal.Refusal.{Refusal}
use Rattle.gf_front.specs.Lines.{code_of_refusal, line}
use Rattle.gfan_common.specs.Refused.{WrittenAsFar}

-- a sink gained a prefix of the line of a refusal with this status, and the whole line unless its count of faults rose
pub record IsLineOf (code : ℕ) (held holds : Option (List ℕ)) (before now : ℕ) : Type 0 where
  pub refusal : Refusal
  pub names : List (List ℕ)
  pub code_is : code ≡ code_of_refusal refusal
  pub written : WrittenAsFar held holds before now (line names refusal)

-- what is told of words that are no command
abbrev pub usage_line : List ℕ
usage_line = codes "gfan: E23 usage: gfan _COMMAND [OPTIONS]" ++ 10 ∷ []
