use Rattle.std.proofs.Common.{refl}
use Rattle.gf_text.specs.Pieces.{waiting}
use Rattle.gf_text.proofs.SetPiecesLaws.{settled}
use Rattle.gf_text.proofs.set_reader.settle.Goals as goal

pub returns-then-not-has_begun : goal.returns-then-not-has_begun
returns-then-not-has_begun c = λ yes qs us come first.
    let old = c.args.part.now in
    let front = waiting us old.polynomials in
    let adds = c.in_ok-add_behind.ensures c.if-not-branch.false qs us come first in
    record {
      front = front;
      come = adds.0;
      summed = adds.1;
      none = c.clear.ensures;
      same = settled us front old c.clear.new.self old.terms c.clear.ensures refl;
    }

pub returns : goal.returns
returns c = λ yes qs us come first.
    let old = c.args.part.now in
    let adds = c.in_ok-add_behind.ensures c.if-not-branch.false qs us come first in
    let takes = c.take_piece.ensures yes (waiting us old.polynomials) adds.1 in
    record {
      front = takes.0;
      come = adds.0;
      summed = takes.1;
      none = c.clear.ensures;
      same = settled us takes.0 old c.clear.new.self c.take_piece.new.terms c.clear.ensures takes.2;
    }
