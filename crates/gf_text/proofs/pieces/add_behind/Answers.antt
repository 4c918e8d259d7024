use Rattle.gf_text.specs.declared.written.Written.TheVariants as written
use Rattle.gf_text.proofs.PiecesLaws.{adds_none, adds_some}
use Rattle.gf_text.proofs.pieces.add_behind.Goals as goal

pub returns-in_ok-add-in-None : goal.returns-in_ok-add-in-None
returns-in_ok-add-in-None c = λ yes.
    let value = c.replace.ensures.value in
    let after = c.replace.ensures.after in
    let none = c.in-None.is in
    adds_none c.args.n c.args.set.now c.in-Some.terms.now c.as_slice.result.now c.args.sums.now c.add.new.self c.args.front.now c.replace.new.dest
    c.in-Some.ensures c.as_slice.ensures (cc) (cc) c.in_ok-add-in-None.ensures

pub returns-in_ok-push-in-Fit : goal.returns-in_ok-push-in-Fit
returns-in_ok-push-in-Fit c = λ yes.
    let value = c.replace.ensures.value in
    let after = c.replace.ensures.after in
    let some = c.in-Some-replace.is in
    adds_some c.args.n c.args.set.now c.in-Some.terms.now c.as_slice-in-Fit.result.now c.args.sums.now c.in-Fit.written c.push.new.self.items
    c.args.front.now c.replace.new.dest c.in-Some-replace.first (written.Nonzero c.in-Some-remaining.marked) c.in-Some.ensures c.as_slice-in-Fit.ensures
    c.in-Fit.is (cc) (cc) c.in-Some-remaining.ensures c.in_ok-push-in-Fit.ensures.items
