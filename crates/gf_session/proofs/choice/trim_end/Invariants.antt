use Rattle.std.proofs.Common.{◌≡◌, length}
use Rattle.gf_session.specs.Choices.{trim_end}
use Rattle.gf_session.proofs.choice.trim_end.Given as goal

abbrev pub invariant-blanks : goal.invariant-blanks
invariant-blanks l = trim_end l.text ≡ trim_end l.line

abbrev pub decreases-blanks : goal.decreases-blanks
decreases-blanks l = length l.text
