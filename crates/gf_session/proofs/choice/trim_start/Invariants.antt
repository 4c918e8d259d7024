use Rattle.std.proofs.Common.{◌≡◌, length}
use Rattle.gf_session.specs.Choices.{trim_start}
use Rattle.gf_session.proofs.choice.trim_start.Given as goal

abbrev pub invariant-blanks : goal.invariant-blanks
invariant-blanks l = trim_start l.text ≡ trim_start l.line

abbrev pub decreases-blanks : goal.decreases-blanks
decreases-blanks l = length l.text
