-- Lists between braces: what a text of a list is, by the grammar of its items, and the machine that reads it, by theirs.
-- Laws: proofs/ListTextLaws.antt.
use Rattle.std.specs.Prelude.{◌≡◌, ℕ, List, [], ◌∷◌, ◌++◌, bytes_eq, if◌then◌else◌}
use Rattle.gf_text.specs.Machine.{Move, go, done, halt}
use Rattle.gf_text.specs.Marks.{comma, brace, brace_end}
use Rattle.gf_text.specs.declared.error.Cause.TheVariants as cause

-- ---- the grammar

-- items, each behind a comma
abbrev pub AreMoreItems : {A : Type 0} → (List (List ℕ) → A → Type 0) → List (List ℕ) → List A → Type 0
AreMoreItems item ts [] = ts ≡ []
AreMoreItems item ts (x ∷ xs) = (first : List (List ℕ)) × (rest : List (List ℕ)) × (ts ≡ comma ∷ (first ++ rest)) × item first x × AreMoreItems item rest xs

-- a list: items joined by commas between braces
abbrev pub IsListText : {A : Type 0} → (List (List ℕ) → A → Type 0) → List (List ℕ) → List A → Type 0
IsListText item ts [] = ts ≡ brace ∷ brace_end ∷ []
IsListText item ts (x ∷ xs) = (first : List (List ℕ)) × (rest : List (List ℕ)) × (ts ≡ brace ∷ (first ++ (rest ++ brace_end ∷ []))) × item first x ×
    AreMoreItems item rest xs

-- ---- the machine

-- where a list is read: before its brace; behind it; in an item, whose machine is in this state; behind an item
pub data ListPlace (S : Type 0) : Type 0 where
  opening : ListPlace S
  first_item : ListPlace S
  inside : S → ListPlace S
  behind_item : ListPlace S

-- what is expected, and the items that were read
abbrev pub ListState : Type 0 → Type 0 → Type 0
ListState S A = ListPlace S × List A

-- what an item's machine does, in a list
abbrev pub in_item : {S A : Type 0} → List A → Move S A → Move (ListState S A) (List A)
in_item xs (go s) = go (inside s, xs)
in_item xs (done x) = go (behind_item, xs ++ x ∷ [])
in_item xs (halt c) = halt c

-- the machine of lists whose items are read by this machine from this state on
abbrev pub list_step : {S A : Type 0} → (S → List ℕ → Move S A) → S → ListState S A → List ℕ → Move (ListState S A) (List A)
list_step step start (opening, xs) t = if bytes_eq t brace then go (first_item, xs) else halt cause.Unexpected
list_step step start (first_item, xs) t = if bytes_eq t brace_end then done xs else in_item xs (step start t)
list_step step start (inside s, xs) t = in_item xs (step s t)
list_step step start (behind_item, xs) t = if bytes_eq t comma then go (inside start, xs) else if bytes_eq t brace_end then done xs else halt cause.Unexpected
