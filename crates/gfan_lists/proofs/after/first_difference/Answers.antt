use Rattle.std.proofs.Common.{◌≡◌, ℕ, Bool, true, false, List, [], length, slice_index_or, arith, refl, sym, ◌∙◌, subst, inl}
use lib.Dec.{eqb}
use mathlib.Core.Bool.{not}
use lib.Pointwise.{pointwise}
use borrow.Author.Count.{below_more}
use Rattle.std.proofs.lemmas.Bool.{false≢true}
use Rattle.std.proofs.lemmas.Bool.Decides.{Decides-eqb}
use Rattle.std.proofs.lemmas.List.{get_or_default, same_lists}
use Rattle.std.proofs.lemmas.Option.{slice_get_within, get_or_from_slice_get}
use Rattle.std.proofs.lemmas.Slice.Eq.{slice_eq-Decides}
use Rattle.gfan_lists.proofs.after.first_difference.Goals as goal

differ_told : (a b : List ℕ) (r : Bool) → r ≡ not (pointwise eqb a b) → r ≡ true → a ≡ b → ⊥
differ_told a b r e t q =
    let m : pointwise eqb a b ≡ true = (slice_eq-Decides Decides-eqb a b (pointwise eqb a b) refl).1 q in
    false≢true (subst (λ z. not z ≡ true) m (sym e ∙ t))

not_false : (z : Bool) → not z ≡ false → z ≡ true
not_false true e = refl
not_false false e = sym e

same_told : (a b : List ℕ) (r : Bool) → r ≡ not (pointwise eqb a b) → r ≡ false → a ≡ b
same_told a b r e f = (slice_eq-Decides Decides-eqb a b (pointwise eqb a b) refl).0 (not_false (pointwise eqb a b) (sym e ∙ f))

pub returns-then-ne-clause-some : goal.returns-then-ne-clause-some
returns-then-ne-clause-some c =
    let f = c.args.found.now in
    let g = c.args.ring.now in
    let i = c.names.i in
    let x = c.name.result.now in
    let y = c.name-in-names.result.now in
    record {
      before = c.names.invariant;
      differ = inl (
        slice_get_within f i x c.name.ensures,
        slice_get_within g i y c.name-in-names.ensures,
        λ e. differ_told x y c.ne.result c.ne.ensures c.if-ne.true (sym (get_or_from_slice_get f i x [] c.name.ensures) ∙ e ∙ get_or_from_slice_get g i y
            [] c.name-in-names.ensures),
      );
    }

pub names-preserved : goal.names-preserved
names-preserved c =
    let f = c.args.found.now in
    let g = c.args.ring.now in
    let i = c.names.i in
    let x = c.name.result.now in
    let y = c.name-in-names.result.now in
    below_more (λ j. slice_index_or f j [] ≡ slice_index_or g j []) i c.names.invariant
    (get_or_from_slice_get f i x [] c.name.ensures ∙ same_told x y c.ne.result c.ne.ensures c.if-ne.false ∙
    sym (get_or_from_slice_get g i y [] c.name-in-names.ensures))

pub returns-then-len-clause-none : goal.returns-then-len-clause-none
returns-then-len-clause-none c = λ none.
    let f = c.args.found.now in
    let g = c.args.ring.now in
    let e : length f ≡ length g = omega arith in
    same_lists f g e (λ k d l. get_or_default f k d [] l ∙ c.names.invariant k (omega (arith, l, e)) ∙ get_or_default g k [] d (omega (arith, l, e)))
