use Rattle.std.proofs.Common.{arith}
use Rattle.gf_lifts.proofs.tails.tried_for.Goals as goal

pub returns-then-of_copy : goal.returns-then-of_copy
returns-then-of_copy c = record {
  front = λ j l. (c.if-of_copy.true, c.requires.front j l);
  back = λ j l m. (c.if-of_copy.true, c.requires.back j l m);
  within = c.requires.within;
}

pub returns : goal.returns
returns c = record {
  front = λ j l. absurd (omega (arith, l));
  back = λ j l m. absurd (omega (arith, l, m));
  within = omega arith;
}
