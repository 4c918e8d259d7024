-- An iterator over what a walker has left.
use Rattle.std.specs.Prelude.{◌≡◌, ◌⊎◌, ◌+◌, ◌-◌, ◌≤◌, ℕ, suc, Bool, true, false, cond, List, [], length, Option, Some, None}
use Rattle.std.specs.declared.result.Result.{Result}
use Rattle.std.specs.declared.result.Result.TheVariants.{Ok, Err}
use Rattle.gf_reverse_search.specs.declared.mark.Mark.TheVariants.{Finished}
use Rattle.gf_reverse_search.specs.Standing.{Standing}
use Rattle.gf_reverse_search.specs.Listing.{IsLeftAt, IsFirstOf}
use Rattle.gf_reverse_search.specs.Walk.{IsRefused}

-- a walker, how many nodes it has given, and whether it has ended
pub record Progress (T N L : Type 0) : Type 0 where
  pub standing : Standing T N L
  pub given : ℕ
  pub ended : Bool

-- what is left can be listed, and with what was given it is no more than the tree's count
pub record HasFewLeft {T N L : Type 0} (lt : L → L → Type 0) (up : T → N → L → N → Type 0) (count : T → N → ℕ) (p : Standing T N L) (given : ℕ) : Type 0 where
  pub rest : List N
  pub left : IsLeftAt lt up p rest
  pub few : length rest + given ≤ count p.tree p.here

-- how many items come at most: none after the end, else the nodes that are left and one refusal
abbrev pub items_at_most : {T N L : Type 0} → (T → N → ℕ) → Progress T N L → ℕ
items_at_most count s = cond s.ended 0 (suc (count s.standing.tree s.standing.here - s.given))

-- one call: the first node of what was left, at which the walker now stands; or a refusal, after which the walker is as it was and no item comes; or
-- the end, where nothing was left, and after which the walker stays at its node, done with all below it
abbrev pub Gives : {T N L E : Type 0} → (L → L → Type 0) → (T → N → L → N → Type 0) → (T → N → E → Type 0) → Progress T N L → Option (Result N E) →
    Progress T N L → Type 0
Gives {N = N} lt up refuses s (Some (Ok v)) t =
    (s.ended ≡ false) × (t.ended ≡ false) × (t.standing.here ≡ v) × (t.standing.tree ≡ s.standing.tree) × ((nodes : List N) → IsLeftAt lt up s.standing nodes →
    IsFirstOf (IsLeftAt lt up t.standing) nodes (Some v))
Gives {N = N} lt up refuses s (Some (Err e)) t = (s.ended ≡ false) × (t.ended ≡ true) × (t.standing ≡ s.standing) × IsRefused (up s.standing.tree)
    (refuses s.standing.tree)
    s.standing.here s.standing.depth e
Gives {N = N} lt up refuses s None t =
    (t.ended ≡ true) × (((s.ended ≡ true) × (t.standing ≡ s.standing)) ⊎ ((t.standing ≡ record s.standing { mark = Finished }) × ((nodes : List N) →
    IsLeftAt lt up s.standing nodes → nodes ≡ [])))
