use Rattle.std.proofs.Common.{◌≡◌, ◌++◌, length}
use Rattle.std.specs.Vec.Iter.{into_iter_items, into_iter_len}
use Rattle.gf_text.proofs.SetsLaws.{all_nonzero}
use Rattle.gfan_common.proofs.checks.nonzero.Given as goal

-- the polynomials that were taken, and those that are left
abbrev pub invariant-polynomials : goal.invariant-polynomials
invariant-polynomials l = record {
  whole : l.fn.written.items ≡ all_nonzero l.items.items ++ into_iter_items l.next-iterator;
  left : into_iter_len l.next-iterator ≡ length (into_iter_items l.next-iterator);
}
