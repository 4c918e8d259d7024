use Rattle.std.proofs.Common.{refl, sym, subst}
use Rattle.gf_division.specs.Dividends.{Split, split_of, Descends}
use Rattle.gf_division.proofs.SubtractionLaws.{taken_at, taken_beside, refused_at}
use Rattle.gf_division.proofs.dividend.Dividend.take_away.Goals as goal

pub returns-in-Equal-clause-ok : goal.returns-in-Equal-clause-ok
returns-in-Equal-clause-ok c = taken_at c.args.coef.now c.args.mono (split_of c.args.self.now) (split_of c.descend.new.self)
    (split_of c.take_from_next.new.self) c.in_ok-descend.field-0 c.take_from_next.result c.in-Equal.is c.requires.sound c.requires.over c.in_ok-descend.ensures
    c.take_from_next.ensures.ok

pub returns-in-Equal-clause-cause : goal.returns-in-Equal-clause-cause
returns-in-Equal-clause-cause c = refused_at c.args.coef.now c.args.mono (split_of c.args.self.now) (split_of c.descend.new.self)
    c.in_ok-descend.field-0 c.take_from_next.result c.in-Equal.is c.requires.sound c.requires.over c.in_ok-descend.ensures c.take_from_next.ensures.cause

pub returns-in_ok-push-in_default : goal.returns-in_ok-push-in_default
returns-in_ok-push-in_default c =
    let d = subst (λ (z : Split). Descends c.args.mono (split_of c.args.self.now) z c.in_ok-descend.field-0) (sym c.in_ok-wait-in_default.ensures)
    c.in_ok-descend.ensures in
    record {
      ok = taken_beside c.args.coef.now c.args.mono (split_of c.args.self.now) (split_of c.wait.new.self) _ c.in_ok-descend.field-0 _ c.in_default.not-Equal
          c.requires.nonzero (λ i. record { coef = c.neg.ensures i; mono = c.args.mono }) c.requires.sound c.requires.over d
          c.in_ok-push-in_default.ensures.items
          refl;
      cause = tt;
    }
