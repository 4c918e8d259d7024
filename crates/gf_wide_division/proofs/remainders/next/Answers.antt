use Rattle.std.proofs.Common.{sym, subst, ℕ}
use Rattle.gf_poly.specs.Marking.{HaveVariables}
use Rattle.gf_division.specs.Dividends.{joined_terms}
use Rattle.gf_division.specs.Reducers.{IsSpareIn}
use Rattle.gf_division.proofs.TableLaws.{cut_length}
use Rattle.gf_wide_division.specs.Dividends.{dividend_of}
use Rattle.gf_wide_division.specs.Values.{term_value}
use Rattle.gf_wide_division.proofs.remainders.next.Goals as goal

pub reducer_of-requires-clause-members : goal.reducer_of-requires-clause-members
reducer_of-requires-clause-members c = subst (λ (k : ℕ). HaveVariables k c.args.by.now)
    (sym (cut_length c.requires.n (joined_terms (dividend_of c.args.rest.now)) (term_value c.in_ok-t.t) c.requires.sound c.in_ok-t.ensures)) c.requires.members

pub reducer_of-requires-clause-spare : goal.reducer_of-requires-clause-spare
reducer_of-requires-clause-spare c = subst (λ (k : ℕ). IsSpareIn k c.args.spared.now)
    (sym (cut_length c.requires.n (joined_terms (dividend_of c.args.rest.now)) (term_value c.in_ok-t.t) c.requires.sound c.in_ok-t.ensures)) c.requires.spare
