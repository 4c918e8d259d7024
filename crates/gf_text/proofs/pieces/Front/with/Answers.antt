use Rattle.std.proofs.Common.{refl, rules}
use Rattle.gf_text.proofs.PiecesLaws.{sum_behind}
use Rattle.gf_text.proofs.pieces.Front.with.Goals as goal

pub returns : goal.returns
returns c = λ n f variables s.
    let w = c.in-Ok.ensures in
    sum_behind n f c.args.terms.items c.append.new.self.items c.args.self (record { poly = c.in-Ok.poly; first = c.args.self.first }) c.requires
    (search rules) refl w.value w.descending w.variables w.fits variables s
