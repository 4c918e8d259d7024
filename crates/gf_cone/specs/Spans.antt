-- Shares of vectors of a cone that are together so many times a normal. Laws: proofs/SpanLaws.antt.
use Rattle.std.specs.Prelude.{◌≡◌, ◌⊎◌, ℕ, ◌<◌, [], length, slice_index_or, ℤ, pos, ◌+ℤ◌, ◌*ℤ◌, ◌<ℤ◌, ◌≤ℤ◌}
use Rattle.gf_cone.specs.Cones.{ConeRows, all_rows, normal_at}
use Rattle.gf_cone.specs.declared.spans.Share.{Share}
use Rattle.gf_cone.specs.declared.spans.Span.{Span}

-- s is a share of another vector than the normal at the index i, and not negative
pub record IsShare (c : ConeRows) (i : ℕ) (s : Share) : Type 0 where
  pub inside : s.index < length (all_rows c)
  pub other : s.index ≡ i → ⊥
  pub least : pos 0 ≤ℤ s.times

-- one of the three shares is positive
abbrev pub IsSomePositive : Span → Type 0
IsSomePositive s = (pos 0 <ℤ s.first.times) ⊎ ((pos 0 <ℤ s.second.times) ⊎ (pos 0 <ℤ s.third.times))

-- the entry of a share
abbrev pub part_at : ConeRows → Share → ℕ → ℤ
part_at c s j = s.times *ℤ slice_index_or (slice_index_or (all_rows c) s.index []) j (pos 0)

-- the entry of three shares together is that of so many times the normal
abbrev pub IsBalancedAt : ConeRows → ℕ → Span → ℕ → Type 0
IsBalancedAt c i s j = part_at c s.first j +ℤ part_at c s.second j +ℤ part_at c s.third j ≡ s.normal *ℤ slice_index_or (normal_at c i) j (pos 0)
