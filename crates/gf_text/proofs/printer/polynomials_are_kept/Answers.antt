use Rattle.gf_text.proofs.printer.polynomials_are_kept.Goals as goal

pub returns-in-Nonzero : goal.returns-in-Nonzero
returns-in-Nonzero c = λ n h. rw c.in-Nonzero.is (c.marked_is_kept.ensures n (rw c.in-Nonzero.is at h))
