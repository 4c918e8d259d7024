use Rattle.std.proofs.Common.{ℕ, ◌≡◌, ◌<◌, ◌≤◌, ◌-◌, ◌+◌, ◌^◌, length, get_or, take, arith, ap, sym, subst, ◌∙◌}
use Rattle.std.proofs.Math.ListN.{set}
use Rattle.std.proofs.lemmas.List.{length-set, length-take, set-get_or}
use Rattle.smallvec.specs.SmallVec.{with_items}
use Rattle.smallvec.proofs.SmallVecLemmas.{items-with_items}
use Rattle.gf_exponents_theory.specs.Exponents.{Exponents, degree}
use Rattle.gf_poly.specs.declared.TheConstants.{ROOM}
use Rattle.gf_poly.specs.Monomial.{IsPlaced, IsWordOf}
use Rattle.gf_poly.proofs.MonomialLaws.{degree-limit, degree-raised}
use Rattle.gf_poly.proofs.PlacedLaws.{front-raised, placed-limit, placed-raised}
use Rattle.gf_poly.proofs.WordLaws.{word-raised}
use Rattle.gf_poly.proofs.monomial.Mono.raise.Goals as goal

-- what is kept of the monomial raised, where its word is right
kept : (total word n : ℕ) (indices : Exponents) (i by sum : ℕ) → n ≤ ROOM → i < n → get_or indices i 0 + by < 2 ^ 31 → IsPlaced (take n indices) indices →
    total ≡ degree (take n indices) → sum ≡ total + by → IsWordOf (set (take n indices) i (get_or (take n indices) i 0 + by)) word → (new : Exponents) →
    new ≡ set indices i (get_or indices i 0 + by) → IsPlaced (take n new) new × (sum ≡ degree (take n new)) × IsWordOf (take n new) word
kept total word n indices i by sum room l fits h t s w new e =
    let front = ap (λ y. take n y) e ∙ front-raised n indices i by l in (
      subst (λ y. IsPlaced (take n y) y) (sym e) (placed-raised n indices i by l room fits h),
      omega (arith, s, t, ap degree front, degree-raised (take n indices) i by (omega (arith, length-take n indices, h.full, room))),
      subst (λ y. IsWordOf y word) (sym front) w,
    )

pub overflow_add-self : goal.overflow_add-self
overflow_add-self c =
    let m = c.self.invariant in
    let v = c.self.inside.indices in
    let n = c.self.inside.count in
    omega (
      arith,
      c.from-2.ensures,
      c.requires.limit,
      m.total_degree,
      m.placed.room,
      degree-limit (take n v.items) (placed-limit (take n v.items) v.items m.placed),
    )

pub invariant_of-self-then-by-ne0 : goal.invariant_of-self-then-by-ne0
invariant_of-self-then-by-ne0 c =
    let m = c.self.invariant in
    let v = c.self.inside.indices in
    let n = c.self.inside.count in
    let i = c.args.variable in
    let by = c.args.by in
    let long : i < length (take n v.items) = rw c.self.view_is c.requires.variable in
    let inside : i < n = omega (arith, long, length-take n v.items) in
    let fits : by ≤ 2147483647 - get_or v.items i 0 = rw c.as_mut_slice-indices.ensures.value at c.if-by-exponent.false in
    let new = set v.items i (get_or v.items i 0 + by) in
    let same : (with_items v new).items ≡ new = items-with_items v new (length-set v.items i (get_or v.items i 0 + by)) in
    let word = word-raised (take n v.items) i by c.self.inside.word long (omega (arith, m.room)) (omega (arith, c.if-by-ne0.true)) m.occurring in
    let k = kept c.self.inside.total _ n v.items i by _ m.room inside (omega (arith, fits, c.requires.limit)) m.placed m.total_degree
    (omega (arith, c.from-2.ensures)) word (with_items v new).items same in
    rw c.as_mut_slice-indices.ensures.value (record { room = m.room; placed = k.0; inline = m.inline; total_degree = k.1; occurring = k.2 })

pub invariant_of-self-else-by-ne0 : goal.invariant_of-self-else-by-ne0
invariant_of-self-else-by-ne0 c =
    let m = c.self.invariant in
    let v = c.self.inside.indices in
    let n = c.self.inside.count in
    let i = c.args.variable in
    let by = c.args.by in
    let long : i < length (take n v.items) = rw c.self.view_is c.requires.variable in
    let inside : i < n = omega (arith, long, length-take n v.items) in
    let fits : by ≤ 2147483647 - get_or v.items i 0 = rw c.as_mut_slice-indices.ensures.value at c.if-by-exponent.false in
    let new = set v.items i (get_or v.items i 0 + by) in
    let same : (with_items v new).items ≡ new = items-with_items v new (length-set v.items i (get_or v.items i 0 + by)) in
    let none : by ≡ 0 = omega (arith, c.if-by-ne0.false) in
    let stays : set (take n v.items) i (get_or (take n v.items) i 0 + by) ≡ take n v.items =
    ap (λ b. set (take n v.items) i (get_or (take n v.items) i 0 + b)) none ∙ ap (λ a. set (take n v.items) i a) (omega arith) ∙ set-get_or (take n v.items)
    i 0 in
    let word = subst (λ y. IsWordOf y c.self.inside.word) (sym stays) m.occurring in
    let k = kept c.self.inside.total _ n v.items i by _ m.room inside (omega (arith, fits, c.requires.limit)) m.placed m.total_degree
    (omega (arith, c.from-2.ensures)) word (with_items v new).items same in
    rw c.as_mut_slice-indices.ensures.value (record { room = m.room; placed = k.0; inline = m.inline; total_degree = k.1; occurring = k.2 })

pub returns-then-by-ne0-clause-product : goal.returns-then-by-ne0-clause-product
returns-then-by-ne0-clause-product c =
    let v = c.self.inside.indices in
    let n = c.self.inside.count in
    let i = c.args.variable in
    let by = c.args.by in
    let long : i < length (take n v.items) = rw c.self.view_is c.requires.variable in
    let new = set v.items i (get_or v.items i 0 + by) in
    let same : (with_items v new).items ≡ new = items-with_items v new (length-set v.items i (get_or v.items i 0 + by)) in
    rw c.as_mut_slice-indices.ensures.value (ap (λ y. take n y) same ∙ front-raised n v.items i by (omega (arith, long, length-take n v.items)) ∙
    ap (λ x. set x i (get_or x i 0 + by)) c.self.view_is)
