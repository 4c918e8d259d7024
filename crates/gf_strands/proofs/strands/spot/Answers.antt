use Rattle.std.proofs.Common.{◌≡◌, ℕ, ◌<◌, ◌≤◌, ◌^◌, List, arith, to_z, of_z, ap, ◌∙◌, subst, length, take, ℤ, pos, ◌+ℤ◌, ◌*ℤ◌, get_or}
use Rattle.std.specs.Int.{w32}
use Rattle.std.proofs.lemmas.Int.{to_z-of_z}
use Rattle.std.proofs.lemmas.List.{length-replicate}
use Rattle.std.proofs.lemmas.List.Elements.{All-replicate}
use Rattle.gf_exponents_theory.specs.Exponents.{Exponents}
use Rattle.gf_exponents_theory.proofs.ExponentsLaws.{entry-get_or}
use Rattle.gf_poly.specs.declared.TheConstants.{ROOM}
use Rattle.gf_strands.specs.Strands.{moved, IsSpot}
use Rattle.gf_strands.proofs.MultipleLaws.{narrow_entry}
use Rattle.gf_strands.proofs.PointLaws.{AreMoved, moved_more, moved-monomial, moved_end}
use Rattle.gf_strands.proofs.strands.spot.Goals as goal

pub entries-init : goal.entries-init
entries-init c = record {
  room = length-replicate {A = ℕ} ROOM 0;
  limit = All-replicate (λ (n : ℕ). n < 2 ^ 31) ROOM 0 (omega arith);
  at = λ j l. absurd (omega arith);
}

pub entries-preserved : goal.entries-preserved
entries-preserved c =
    let v = c.in_ok-all.ensures.value in
    let r = c.exponents-exponents.ensures.valid.room in
    let a = c.args.normal.now in
    let n = ap length c.exponents-exponents.ensures.value in
    let l : c.entries.i < length a = omega (arith, n, c.requires.same_length, c.entries-test.true) in
    let e = ap (λ (z : Exponents). get_or z c.entries.i 0) c.exponents-exponents.ensures.value ∙ entry-get_or c.args.x.now c.entries.i in
    moved_more c.args.normal.now c.args.x.now _ c.entries.all c.entries.i c.in_ok-all.field-0 (omega (arith, n, r)) c.in_ok-all.ensures.limit
    (v ∙ ap (λ (z : ℤ). pos (get_or c.exponents-exponents.result.now c.entries.i 0) +ℤ to_z w32 (of_z w32 c.args.k) *ℤ z) (narrow_entry a c.entries.i
    c.narrow.result c.requires.bounded l c.narrow.ensures) ∙ ap (λ (s : ℕ). pos s +ℤ to_z w32 (of_z w32 c.args.k) *ℤ get_or a c.entries.i (pos 0)) e)
    c.entries.invariant

pub new-requires : goal.new-requires
new-requires c =
    let e = ap length c.exponents-exponents.ensures.value in
    moved-monomial c.args.normal.now c.args.x.now _ c.entries.all c.entries.i (length c.exponents-exponents.result.now)
    (omega (arith, e, c.exponents-exponents.ensures.valid.room)) c.entries.invariant

ended : (a : List ℤ) (x y : Exponents) (k : ℤ) (all : List ℕ) (i : ℕ) (z : Exponents) → y ≡ x → length x ≡ length a → length x ≤ ROOM → length y ≤ i →
    z ≡ take (length y) all → AreMoved a x k all i → (z ≡ moved a x k) × IsSpot a x k
ended a x y k all i z e w r l h m =
    let n : length y ≡ length x = ap length e in
    let d = moved_end a x k all i w r (omega (arith, n, l)) m in
    (h ∙ ap (λ (s : ℕ). take s all) n ∙ d.0, d.1)

pub returns : goal.returns
returns c =
    let k : to_z w32 (of_z w32 c.args.k) ≡ c.args.k = to_z-of_z w32 c.args.k c.ranges.k in
    let d = ended c.args.normal.now c.args.x.now c.exponents-exponents.result.now c.args.k c.entries.all c.entries.i c.new.result
    c.exponents-exponents.ensures.value c.requires.same_length c.exponents-exponents.ensures.valid.room c.entries-test.false c.new.ensures
    (subst (λ (j : ℤ). AreMoved c.args.normal.now c.args.x.now j c.entries.all c.entries.i) k c.entries.invariant) in
    record { value = d.0; on = d.1 }
