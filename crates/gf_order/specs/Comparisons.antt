-- What a comparison by an order answers.
use Rattle.std.specs.Prelude.{◌≡◌, ℕ, Bool, true, false, length, ℤ, pos, ◌-ℤ◌}
use Rattle.std.specs.Ordering.{MatchOrdering}
use Rattle.std.specs.declared.cmp.Ordering.{Ordering}
use Rattle.std.specs.declared.cmp.Ordering.TheVariants.{Less, Greater}
use Rattle.gf_exponents_theory.specs.Exponents.{Exponents, degree, weight}
use Rattle.gf_exponents_theory.specs.SixOrders.{MonomialOrder, below_of}

-- less where x is below y, equal where they are the same list, greater where y is below x
abbrev pub IsOutcome : MonomialOrder → Exponents → Exponents → Ordering → Type 0
IsOutcome o x y r = MatchOrdering r (below_of o x y) (x ≡ y) (below_of o y x)

-- what was decided first stands, and where that was a tie the order decides
abbrev pub BreaksTie : MonomialOrder → Exponents → Exponents → Ordering → Ordering → Type 0
BreaksTie o x y first r = MatchOrdering first (r ≡ Less) (IsOutcome o x y r) (r ≡ Greater)

-- the weight of the order, where it has one, has n entries
abbrev pub HasEntries : ℕ → MonomialOrder → Type 0
HasEntries n MonomialOrder.lex = Unit {0}
HasEntries n MonomialOrder.deglex = Unit {0}
HasEntries n MonomialOrder.revlex = Unit {0}
HasEntries n (MonomialOrder.weighted w) = length w ≡ n
HasEntries n (MonomialOrder.weighted_revlex w) = length w ≡ n
HasEntries n (MonomialOrder.facet r) = length r.gain ≡ n

-- ---- what an order compares first

-- the weight, the degree or the row; nothing for lex and revlex
abbrev pub level_of : MonomialOrder → Exponents → ℤ
level_of MonomialOrder.lex x = pos 0
level_of MonomialOrder.deglex x = pos (degree x)
level_of MonomialOrder.revlex x = pos 0
level_of (MonomialOrder.weighted w) x = pos (weight w x)
level_of (MonomialOrder.weighted_revlex w) x = pos (weight w x)
level_of (MonomialOrder.facet r) x = pos (weight r.gain x) -ℤ pos (weight r.loss x)

-- whether monomials of one level compare by revlex; the others compare by lex
abbrev pub ends_by_revlex : MonomialOrder → Bool
ends_by_revlex MonomialOrder.lex = false
ends_by_revlex MonomialOrder.deglex = false
ends_by_revlex MonomialOrder.revlex = true
ends_by_revlex (MonomialOrder.weighted w) = false
ends_by_revlex (MonomialOrder.weighted_revlex w) = true
ends_by_revlex (MonomialOrder.facet r) = false

-- whether the order is lex, or a weight before lex
abbrev pub is_weight_before_lex : MonomialOrder → Bool
is_weight_before_lex MonomialOrder.lex = true
is_weight_before_lex MonomialOrder.deglex = false
is_weight_before_lex MonomialOrder.revlex = false
is_weight_before_lex (MonomialOrder.weighted w) = true
is_weight_before_lex (MonomialOrder.weighted_revlex w) = false
is_weight_before_lex (MonomialOrder.facet r) = false
