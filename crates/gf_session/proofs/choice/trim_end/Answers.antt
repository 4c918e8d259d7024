use Rattle.std.proofs.Common.{sym, ◌∙◌}
use Rattle.gf_session.proofs.ChoiceLaws.{last-blank, last-other}
use Rattle.gf_session.proofs.choice.trim_end.Goals as goal

pub returns-then-not-is_blank : goal.returns-then-not-is_blank
returns-then-not-is_blank c = last-other c.blanks.text.now c.in-len1-up.len_at_least (sym c.is_blank.ensures ∙ c.if-not-is_blank.true) ∙ c.blanks.invariant

pub blanks-preserved : goal.blanks-preserved
blanks-preserved c = last-blank c.blanks.text.now c.in-len1-up.len_at_least (sym c.is_blank.ensures ∙ c.if-not-is_blank.false) ∙ c.blanks.invariant
