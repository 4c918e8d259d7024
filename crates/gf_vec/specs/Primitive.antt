-- A vector divided by its content.
use Rattle.std.specs.Prelude.{◌≡◌, List, ℤ, pos, ◌<ℤ◌, unsigned_abs}
use Rattle.gf_int_theory.specs.Content.{IsContent, scaled}

-- c is the content of w, and u is w divided by it
pub record IsDivided (w : List ℤ) (c : ℤ) (u : List ℤ) : Type 0 where
  pub positive : pos 0 <ℤ c
  pub content : IsContent w (unsigned_abs c)
  pub multiple : scaled c u ≡ w

-- u is w divided by its content
abbrev pub IsPrimitivePart : List ℤ → List ℤ → Type 0
IsPrimitivePart w u = (c : ℤ) × IsDivided w c u
