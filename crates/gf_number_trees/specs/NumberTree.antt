-- The tree of the numbers from 1 to a limit, where 2 u and 2 u + 1 are below u.
use Rattle.std.proofs.Common.{◌≡◌, ℕ, ◌+◌, ◌*◌, ◌<◌, ◌≤◌, ◌⊎◌, arith, inl, inr, sym, ◌∙◌, List, [], ◌∷◌, zero, suc, refl, subst}
use Rattle.std.specs.List.{Contains}
use Rattle.gf_reverse_search.specs.Tree.{HasLabels}
use Rattle.std.proofs.lemmas.Bool.{cases_order}
use Rattle.gf_reverse_search.specs.Path.{IsStrictOrder, IsTree}
use Rattle.gf_number_trees.specs.declared.numbers.NumberError.{NumberError}
use Rattle.gf_number_trees.specs.declared.numbers.NumberError.TheVariants.{Memory, Chosen}

-- a number from 1 to the limit
abbrev pub IsNumber : ℕ → ℕ → Type 0
IsNumber limit n = (1 ≤ n) × (n ≤ limit)

-- u is the half of v, and c the bit that is left
pub record IsHalf (limit v c u : ℕ) : Type 0 where
  pub some : 1 ≤ u
  pub inside : v ≤ limit
  pub bit : c ≤ 1
  pub whole : v ≡ 2 * u + c

-- numbers are strictly ordered
pub numbers_strict : IsStrictOrder {L = ℕ} (λ a b. a < b)
numbers_strict = record {
  irreflexive = λ a h. omega arith;
  transitive = λ a b c h k. omega arith;
  total = λ a b. elim (cases_order a b) [ inl e ↦ inr (inl e) | inr k ↦ elim k [ inl h ↦ inl h | inr h ↦ inr (inr h) ] ];
}

-- a number is twice its half and a bit, in one way
pub numbers_tree : (limit : ℕ) → IsTree {N = ℕ} {L = ℕ} (IsHalf limit)
numbers_tree limit = record {
  one_label = λ v u w b c h k. (let e = h.whole in let f = k.whole in let x = h.bit in let y = k.bit in omega arith);
  one_parent = λ v u w b c h k. (let e = h.whole in let f = k.whole in let x = h.bit in let y = k.bit in omega arith);
  one_child = λ v w u c h k. h.whole ∙ sym k.whole;
}

-- halves of numbers are numbers
pub numbers_nodes : (limit v c u : ℕ) → IsHalf limit v c u → IsNumber limit v × IsNumber limit u
numbers_nodes limit v c u h = (let e = h.whole in let x = h.some in let y = h.inside in ((omega arith, omega arith), (omega arith, omega arith)))

-- the bits are among the labels
pub bits_all : (limit u : ℕ) (cs : List ℕ) → cs ≡ 0 ∷ 1 ∷ 2 ∷ [] → HasLabels {N = ℕ} {L = ℕ} (IsHalf limit) u cs
bits_all limit u cs e v c h = subst (λ w. Contains w c) (sym e) (has c h.bit)
  where
    has : (c : ℕ) → c ≤ 1 → Contains (0 ∷ 1 ∷ 2 ∷ []) c
    has zero h = (0, omega arith, refl)
    has (suc zero) h = (1, omega arith, refl)
    has (suc (suc c)) h = absurd (omega arith)

-- one of the two numbers at which calls refuse; 0 is no node
abbrev pub IsChosen : ℕ × ℕ → ℕ → Type 0
IsChosen chosen v = (v ≡ chosen.0) ⊎ (v ≡ chosen.1)

-- a call at v was refused so: for want of memory, or because v is chosen
abbrev pub Refuses : ℕ × ℕ → ℕ → NumberError → Type 0
Refuses chosen v Memory = Unit {0}
Refuses chosen v (Chosen w) = (w ≡ v) × IsChosen chosen v

-- want of memory
abbrev pub IsOutOfMemory : NumberError → Type 0
IsOutOfMemory Memory = Unit {0}
IsOutOfMemory (Chosen w) = ⊥

-- any call may be refused for want of memory
pub memory_refuses : (chosen : ℕ × ℕ) (v : ℕ) (e : NumberError) → IsOutOfMemory e → Refuses chosen v e
memory_refuses chosen v Memory h = h
memory_refuses chosen v (Chosen w) h = absurd h
