-- Items are read in one way, and have one first fault.
use Rattle.std.specs.Prelude.{◌≡◌, ℕ, List}
use Rattle.gf_text.specs.declared.error.TextError.{TextError}
use Rattle.gf_text.specs.declared.error.TextError.TheVariants as errors
use Rattle.gf_text.specs.Tokens.{Position}
use Rattle.gf_items.specs.Items.{Item, IsTextOf, IsTextRefused}
use Rattle.gf_items.specs.Kinds.{ItemKind, items_of, items_from}
use Rattle.gf_items.specs.Refusals.{of_text, IsExactRefusal}

-- ---- refusals of a text

-- it isn't want of memory
abbrev pub IsSaid : TextError → Type 0
IsSaid e = e ≡ errors.Memory → ⊥

-- a text is refused so exactly where this holds of it
abbrev pub IsExact : TextError → Type 0
IsExact e = IsExactRefusal (of_text e)

-- ---- items

-- an item is read in one way, isn't refused where it is read, and is refused in one way where that is exact
pub record IsReadOnce {A : Type 0} (item : Item A) : Type 0 where
  pub once : (p : Position) (end other : ℕ) (a b : A) → item.IsRead p end a → item.IsRead p other b → (other ≡ end) × (b ≡ a)
  pub apart : (p : Position) (end : ℕ) (a : A) (e : TextError) → item.IsRead p end a → item.IsRefused p e → IsSaid e → ⊥
  pub same : (p : Position) (e d : TextError) → item.IsRefused p e → IsExact e → item.IsRefused p d → IsSaid d → d ≡ e

-- items of any kinds, one behind another, are, behind a ring of any names
abbrev pub ItemsAreReadOnce : Type 0
ItemsAreReadOnce = (k : ItemKind) (ks : List ItemKind) (names : List (List ℕ)) → IsReadOnce (items_of k ks names)

-- ---- whole sources

-- the same of a source that is the text of an item, and of its refusals
pub record IsSourceReadOnce {A : Type 0} (item : Item A) (source : List ℕ) : Type 0 where
  pub once : (a b : A) → IsTextOf item source a → IsTextOf item source b → b ≡ a
  pub apart : (a : A) (e : TextError) → IsTextOf item source a → IsTextRefused item source e → IsSaid e → ⊥
  pub same : (e d : TextError) → IsTextRefused item source e → IsExact e → IsTextRefused item source d → IsSaid d → d ≡ e

-- so it is with all sources of items of any kinds
abbrev pub SourcesAreReadOnce : Type 0
SourcesAreReadOnce = (k : ItemKind) (ks : List ItemKind) (source : List ℕ) → IsSourceReadOnce (items_from k ks) source
