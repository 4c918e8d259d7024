use Rattle.std.proofs.Common.{◌<◌, [], length, All, sym, refl, subst}
use Rattle.gf_fan.proofs.WordLaws.{low_inside, low_as, no_indices, told_as}
use Rattle.gf_fan.proofs.words.are_told_by_words.Goals as goal

pub are_told_at-requires-clause-left : goal.are_told_at-requires-clause-left
are_told_at-requires-clause-left c = subst (All (λ p. p < length c.args.known.now)) (sym c.as_slice-3.ensures.value)
    (low_inside c.args.known.now c.args.s.now.rows.items c.args.t.now.own.items c.in_ok-left.left.items c.requires.left
    (low_as c.args.known.now c.in_ok-left.left.items c.as_slice.ensures.value c.as_slice-2.ensures.value c.in_ok-left.ensures))

pub returns-then-are_told_at : goal.returns-then-are_told_at
returns-then-are_told_at c = λ _. record {
  left = c.in_ok-left.left.items;
  right = [];
  of_left = low_as c.args.known.now c.in_ok-left.left.items c.as_slice.ensures.value c.as_slice-2.ensures.value c.in_ok-left.ensures;
  of_right = no_indices c.args.known.now c.args.t.now.rows.items c.args.s.now.own.items;
  told = told_as {right = []} c.args.known.now c.as_slice-3.ensures.value refl c.as_slice-4.ensures.value c.as_slice-5.ensures.value
      (c.are_told_at.ensures c.if-are_told_at.true);
}

pub are_told_at-requires-2-clause-left : goal.are_told_at-requires-2-clause-left
are_told_at-requires-2-clause-left c = subst (All (λ p. p < length c.args.known.now)) (sym c.as_slice-8.ensures.value)
    (low_inside c.args.known.now c.args.s.now.rows.items c.args.t.now.own.items c.in_ok-left.left.items c.requires.left
    (low_as c.args.known.now c.in_ok-left.left.items c.as_slice.ensures.value c.as_slice-2.ensures.value c.in_ok-left.ensures))

pub are_told_at-requires-2-clause-right : goal.are_told_at-requires-2-clause-right
are_told_at-requires-2-clause-right c = subst (All (λ p. p < length c.args.known.now)) (sym c.as_slice-9.ensures.value)
    (low_inside c.args.known.now c.args.t.now.rows.items c.args.s.now.own.items c.in_ok-right.right.items c.requires.right
    (low_as c.args.known.now c.in_ok-right.right.items c.as_slice-6.ensures.value c.as_slice-7.ensures.value c.in_ok-right.ensures))

pub returns : goal.returns
returns c = λ t. record {
  left = c.in_ok-left.left.items;
  right = c.in_ok-right.right.items;
  of_left = low_as c.args.known.now c.in_ok-left.left.items c.as_slice.ensures.value c.as_slice-2.ensures.value c.in_ok-left.ensures;
  of_right = low_as c.args.known.now c.in_ok-right.right.items c.as_slice-6.ensures.value c.as_slice-7.ensures.value c.in_ok-right.ensures;
  told = told_as c.args.known.now c.as_slice-8.ensures.value c.as_slice-9.ensures.value c.as_slice-10.ensures.value c.as_slice-11.ensures.value
      (c.are_told_at-2.ensures t);
}
