-- What shows that a normal is in the cone of other vectors, up to a multiple.
-- To cite: rows_wide, index_in_all, unit_entry_in, not_crossable_spanned.
use Rattle.std.proofs.Common.{◌≡◌, ◌⊎◌, ℕ, ◌+◌, ◌-◌, ◌<◌, ◌≤◌, List, [], ◌++◌, length, get_or, ℤ, pos, ◌+ℤ◌, ◌*ℤ◌, ◌<ℤ◌, ◌≤ℤ◌, arith, sym, ap, ap₂, ◌∙◌, subst}
use Rattle.std.proofs.Common.{inl, inr, length-append}
use Rattle.std.proofs.lemmas.Int.{ints}
use Rattle.std.proofs.lemmas.List.{get_or_default, ext_get_or}
use Rattle.std.proofs.lemmas.List.Elements.{All-append}
use Rattle.std.proofs.Math.IntN.{*ℤ-zero}
use Rattle.std.proofs.Math.ListN.{get_or-append}
use Rattle.gf_int_theory.specs.Content.{scaled}
use Rattle.gf_int_theory.proofs.SignLaws.{0≤-*ℤ, 0<-*ℤ}
use Rattle.gf_vec.specs.Vector.{dot, vector_sum}
use Rattle.gf_vec.proofs.VectorLaws.{dot-plus, dot-times, length-plus, length-times}
use Rattle.gf_vec.proofs.EntryLaws.{entry_plus, entry_times}
use Rattle.gf_gordan.specs.Alternative.{AreRows}
use Rattle.gf_facets_theory.specs.Systems.{unit, units}
use Rattle.gf_facets_theory.proofs.UnitLaws.{units_wide}
use Rattle.gf_cone.specs.Cones.{ConeRows, all_rows, normal_at}
use Rattle.gf_cone.specs.Crossing.{IsCrossable}
use Rattle.gf_cone.specs.Spans.{IsShare, IsSomePositive, IsBalancedAt}
use Rattle.gf_cone.specs.declared.spans.Share.{Share}
use Rattle.gf_cone.specs.declared.spans.Span.{Span}
use Rattle.gf_cone.proofs.AnswerLaws.{length-units}
use Rattle.gf_cone.proofs.CrossingLaws.{in_all, other_positive, normal_zero, unit_in_all}

-- ---- rows by their indices

-- all rows have as many entries as there are variables
pub rows_wide : (c : ConeRows) (kept : List (List ℤ)) → all_rows c ≡ kept ++ units c.variables c.variables → AreRows c.variables kept →
    AreRows c.variables (all_rows c)
rows_wide c kept e w = subst (AreRows c.variables) (sym e) (All-append (λ t. length t ≡ c.variables) kept (units c.variables c.variables) w
    (λ i d m. units_wide c.variables c.variables (get_or (units c.variables c.variables) i d) (
      i,
      m,
      get_or_default (units c.variables c.variables) i
          (get_or (units c.variables c.variables) i d) d m,
    )))

row_wide : (c : ConeRows) (j : ℕ) → AreRows c.variables (all_rows c) → j < length (all_rows c) → length (get_or (all_rows c) j []) ≡ c.variables
row_wide c j w l = w j [] l

-- an index of a kept vector or of a unit vector is one of a row
pub index_in_all : (c : ConeRows) (kept : List (List ℤ)) (j : ℕ) → all_rows c ≡ kept ++ units c.variables c.variables →
    (j < length kept) ⊎ (j - length kept < c.variables) → j < length (all_rows c)
index_in_all c kept j e h = subst (λ (z : List (List ℤ)). j < length z) (sym e) (at h)
  where
    at : (j < length kept) ⊎ (j - length kept < c.variables) → j < length (kept ++ units c.variables c.variables)
    at (inl l) = omega (arith, l, length-append kept (units c.variables c.variables))
    at (inr l) = omega (arith, l, length-append kept (units c.variables c.variables), length-units c.variables c.variables)

-- the entry of a unit vector
pub unit_entry_in : (c : ConeRows) (kept : List (List ℤ)) (j i : ℕ) → all_rows c ≡ kept ++ units c.variables c.variables → length kept ≤ j →
    j < length (all_rows c) → get_or (unit c.variables (j - length kept)) i (pos 0) ≡ get_or (get_or (all_rows c) j []) i (pos 0)
unit_entry_in c kept j i e g l =
    let k : j - length kept < c.variables = omega (
      arith,
      g,
      subst (λ (z : List (List ℤ)). j < length z) e l,
      length-append kept (units c.variables c.variables),
      length-units c.variables c.variables,
    ) in
    let p : length kept + (j - length kept) ≡ j = omega (arith, g) in
    ap (λ (z : List ℤ). get_or z i (pos 0)) (sym (unit_in_all c.variables (j - length kept) kept k) ∙
    ap (λ (x : ℕ). get_or (kept ++ units c.variables c.variables) x []) p ∙ ap (λ (z : List (List ℤ)). get_or z j []) (sym e))

-- ---- three shares that are a multiple of the normal

-- a share on a vector
abbrev share_on : (c : ConeRows) (s : Share) (w : List ℤ) → ℤ
share_on c s w = s.times *ℤ dot (get_or (all_rows c) s.index []) w

-- what holds entry by entry holds on each vector
balanced_on : (c : ConeRows) (i : ℕ) (s : Span) (w : List ℤ) → AreRows c.variables (all_rows c) → i < length c.normals → s.first.index < length (all_rows c) →
    s.second.index < length (all_rows c) → s.third.index < length (all_rows c) → length (normal_at c i) ≡ c.variables →
    ((j : ℕ) → j < c.variables → IsBalancedAt c i s j) → share_on c s.first w +ℤ share_on c s.second w +ℤ share_on c s.third w ≡ s.normal *ℤ dot (normal_at c i)
    w
balanced_on c i s w r l m n o q h = sym sums ∙ ap (λ (z : List ℤ). dot z w) same ∙ dot-times s.normal normal w
  where
    normal : List ℤ
    normal = normal_at c i

    a : List ℤ
    a = get_or (all_rows c) s.first.index []

    b : List ℤ
    b = get_or (all_rows c) s.second.index []

    d : List ℤ
    d = get_or (all_rows c) s.third.index []

    wa : length (scaled s.first.times a) ≡ c.variables
    wa = length-times s.first.times a ∙ row_wide c s.first.index r m

    wb : length (scaled s.second.times b) ≡ c.variables
    wb = length-times s.second.times b ∙ row_wide c s.second.index r n

    wd : length (scaled s.third.times d) ≡ c.variables
    wd = length-times s.third.times d ∙ row_wide c s.third.index r o

    two : List ℤ
    two = vector_sum (scaled s.first.times a) (scaled s.second.times b)

    w2 : length two ≡ c.variables
    w2 = length-plus (scaled s.first.times a) (scaled s.second.times b) (wa ∙ sym wb) ∙ wa

    sums : dot (vector_sum two (scaled s.third.times d)) w ≡ share_on c s.first w +ℤ share_on c s.second w +ℤ share_on c s.third w
    sums = dot-plus two (scaled s.third.times d) w (w2 ∙ sym wd) ∙ ap₂ (λ (x y : ℤ). x +ℤ y)
        (dot-plus (scaled s.first.times a) (scaled s.second.times b) w (wa ∙ sym wb) ∙ ap₂ (λ (x y : ℤ). x +ℤ y) (dot-times s.first.times a w)
        (dot-times s.second.times b w)) (dot-times s.third.times d w)

    long : length (vector_sum two (scaled s.third.times d)) ≡ c.variables
    long = length-plus two (scaled s.third.times d) (w2 ∙ sym wd) ∙ w2

    same : vector_sum two (scaled s.third.times d) ≡ scaled s.normal normal
    same = ext_get_or (pos 0) (vector_sum two (scaled s.third.times d)) (scaled s.normal normal) (long ∙ sym (length-times s.normal normal ∙ q)) (λ j k.
        entry_plus two (scaled s.third.times d) j (w2 ∙ sym wd) ∙ ap₂ (λ (x y : ℤ). x +ℤ y)
        (entry_plus (scaled s.first.times a) (scaled s.second.times b) j (wa ∙ sym wb) ∙ ap₂ (λ (x y : ℤ). x +ℤ y) (entry_times s.first.times a j)
        (entry_times s.second.times b j)) (entry_times s.third.times d j)
        ∙ h j (omega (arith, k, long)) ∙ sym (entry_times s.normal normal j))

-- no flip crosses the facet of a normal that is a multiple of shares, some of which are positive
pub not_crossable_spanned : (c : ConeRows) (i : ℕ) (s : Span) → AreRows c.variables (all_rows c) → i < length c.normals → IsShare c i s.first →
    IsShare c i s.second → IsShare c i s.third → IsSomePositive s → ((j : ℕ) → j < c.variables → IsBalancedAt c i s j) → IsCrossable c i → ⊥
not_crossable_spanned c i s r l f g h some b x = against some
  where
    w : List ℤ
    w = x.0

    wide : length (normal_at c i) ≡ c.variables
    wide = ap (λ (z : List ℤ). length z) (sym (get_or-append c.normals c.beside [] i l)) ∙ row_wide c i r (in_all c i l)

    none : share_on c s.first w +ℤ share_on c s.second w +ℤ share_on c s.third w ≡ pos 0
    none = balanced_on c i s w r l f.inside g.inside h.inside wide b ∙ ap (λ (z : ℤ). s.normal *ℤ z) (normal_zero c i w x.1) ∙ *ℤ-zero s.normal

    above : (t : Share) → IsShare c i t → pos 0 <ℤ dot (get_or (all_rows c) t.index []) w
    above t k = other_positive c i t.index w l k.inside k.other x.1

    least : (t : Share) → IsShare c i t → pos 0 ≤ℤ share_on c t w
    least t k = 0≤-*ℤ t.times (dot (get_or (all_rows c) t.index []) w) k.least (let p = above t k in omega (arith, ints, p))

    most : (t : Share) → IsShare c i t → pos 0 <ℤ t.times → pos 0 <ℤ share_on c t w
    most t k p = 0<-*ℤ t.times (dot (get_or (all_rows c) t.index []) w) p (above t k)

    against : IsSomePositive s → ⊥
    against (inl p) = absurd (let a = most s.first f p in let d = least s.second g in let e = least s.third h in omega (arith, ints, none, a, d, e))
    against (inr (inl p)) = absurd (let a = least s.first f in let d = most s.second g p in let e = least s.third h in omega (arith, ints, none, a, d, e))
    against (inr (inr p)) = absurd (let a = least s.first f in let d = least s.second g in let e = most s.third h p in omega (arith, ints, none, a, d, e))
