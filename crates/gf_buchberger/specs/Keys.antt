-- What a pair waits by: how a key is made of the least common multiple of its marks, and which pair comes first.
-- Laws: proofs/QueueLaws.antt, and gf_division's proofs/KeyLaws.antt.
use Rattle.std.specs.Prelude.{◌≡◌, ℕ, false, Contains, ◌+◌, ◌-◌, ◌^◌, min, List, [], ◌∷◌, ◌++◌}
use Rattle.gf_exponents_theory.specs.Exponents.{Exponents, degree}
use Rattle.std.specs.declared.cmp.Ordering.{Ordering}
use Rattle.std.specs.Cmp.Lexicographic.{slice_cmp}
use Rattle.std.specs.Ordering.{nat_cmp, int_cmp, ordering_then, is_lt}
use Rattle.gf_exponents_theory.specs.SixOrders.{MonomialOrder}
use Rattle.gf_order.specs.Comparisons.{ends_by_revlex, level_of}
use Rattle.gf_division.specs.Keys.{AreKeyExponents}
use Rattle.gf_buchberger.specs.declared.queue.Key.{Key}
use Rattle.gf_buchberger.specs.declared.queue.Waiting.{Waiting}
use Rattle.gf_buchberger.specs.declared.queue.Strategy.{Strategy}
use Rattle.gf_buchberger.specs.declared.queue.Strategy.TheVariants as strategies

-- what pairs compare by first: the degree of the least common multiple x, or none, or the sugar, which is by `excess` more than that degree
abbrev pub degree_for : Strategy → ℕ → Exponents → ℕ
degree_for strategies.Degree excess x = degree x
degree_for strategies.Order excess x = 0
degree_for strategies.Sugar excess x = min (degree x + excess) (2 ^ 64 - 1)

-- by how much the sugar of a member with the mark x is more than the degree of that, where what it was reduced from had this sugar; 0 where pairs
-- don't go by it
abbrev pub excess_for : Strategy → ℕ → Exponents → ℕ
excess_for strategies.Degree sugar x = 0
excess_for strategies.Order sugar x = 0
excess_for strategies.Sugar sugar x = sugar - degree x

-- the excesses of the members, one more added; they are kept only where pairs go by sugar
abbrev pub kept_excesses : Strategy → List ℕ → ℕ → List ℕ
kept_excesses strategies.Degree excesses excess = excesses
kept_excesses strategies.Order excesses excess = excesses
kept_excesses strategies.Sugar excesses excess = excesses ++ excess ∷ []

-- the key of a pair whose marks have the least common multiple x; the sugar is by `excess` more than its degree
pub record IsKeyOf (strategy : Strategy) (order : MonomialOrder) (x : Exponents) (key : Key) : Type 0 where
  pub excess : ℕ
  pub degree : key.degree ≡ degree_for strategy excess x
  pub level : key.level ≡ level_of order x
  pub exponents : AreKeyExponents (ends_by_revlex order) x key.exponents

-- ---- which pair comes first

-- how keys compare: by the degree, then by the level, then by the first exponents that differ
abbrev pub key_order : Key → Key → Ordering
key_order k l = ordering_then (nat_cmp k.degree l.degree) (ordering_then (int_cmp k.level l.level) (slice_cmp nat_cmp k.exponents l.exponents))

-- how pairs compare: by their keys, then by the later member, then by the earlier one
abbrev pub waiting_order : Waiting → Waiting → Ordering
waiting_order v w = ordering_then (key_order v.key w.key) (ordering_then (nat_cmp v.second w.second) (nat_cmp v.first w.first))

-- no pair that waits comes before this one
abbrev pub IsFirst : List Waiting → Waiting → Type 0
IsFirst queue v = (w : Waiting) → Contains queue w → is_lt (waiting_order w v) ≡ false
