use Rattle.std.proofs.Common.{sym, ◌∙◌, subst, ℕ}
use Rattle.gf_poly.specs.Marking.{HaveVariables}
use Rattle.gf_division.specs.Dividends.{Split, joined_terms, IsSound}
use Rattle.gf_division.specs.Reducers.{IsSpareIn}
use Rattle.gf_division.specs.Tables.{table_of}
use Rattle.gf_division.proofs.TableLaws.{cut_length}
use Rattle.gf_division.proofs.remainders.next_in.Goals as goal

pub reducer_of-requires-clause-members : goal.reducer_of-requires-clause-members
reducer_of-requires-clause-members c =
    let v = subst (λ (s : Split). IsSound c.requires.variables.n s) (sym (c.foremost.ensures ∙ c.waiting.invariant)) c.requires.variables.sound in
    subst (λ (k : ℕ). HaveVariables k c.args.by.now) (sym (cut_length c.requires.variables.n (joined_terms (table_of c.foremost.new.self))
    c.in-Some-term_at.t v c.in-Some-term_at.ensures)) c.requires.variables.members

pub reducer_of-requires-clause-spare : goal.reducer_of-requires-clause-spare
reducer_of-requires-clause-spare c =
    let v = subst (λ (s : Split). IsSound c.requires.variables.n s) (sym (c.foremost.ensures ∙ c.waiting.invariant)) c.requires.variables.sound in
    subst (λ (k : ℕ). IsSpareIn k c.args.spared.now) (sym (cut_length c.requires.variables.n (joined_terms (table_of c.foremost.new.self))
    c.in-Some-term_at.t v c.in-Some-term_at.ensures)) c.requires.variables.spare
