use Rattle.std.proofs.Common.{◌++◌, ◌∷◌, [], sym, subst}
use Rattle.gf_text.specs.Sets.{HasSums}
use Rattle.gf_text.specs.SetLists.{sets_in, HasSetSums}
use Rattle.gf_text.proofs.SetListsLaws.{sets_fit, sets_overflow, sets_exponent, exponents_fit, keeps_overflow, overflow_exponent, keeps_exponent}
use Rattle.gf_text.proofs.set_lists.SetSums.add.Goals as goal

pub returns-in_ok-push-in-Fit-next : goal.returns-in_ok-push-in-Fit-next
returns-in_ok-push-in-Fit-next c = λ n qs q h k.
    sets_fit n qs q c.in-Fit.sets.items c.push.new.self.items c.in-Fit-next.written c.in_ok-push-in-Fit-next.ensures.items
    (subst (HasSetSums n qs) c.in-Fit.is h) (subst (HasSums n q) c.in-Fit-next.is k)

pub returns-in-Overflow-next : goal.returns-in-Overflow-next
returns-in-Overflow-next c = λ n qs q h k.
    sets_overflow n qs q (sets_in c.in-Fit.sets.items) c.in-Overflow-next.overflow (subst (HasSetSums n qs) c.in-Fit.is h)
    (subst (HasSums n q) c.in-Overflow-next.is k)

pub returns-in-Exponent-next : goal.returns-in-Exponent-next
returns-in-Exponent-next c = λ n qs q h k.
    sets_exponent n qs q (sets_in c.in-Fit.sets.items) c.in-Exponent-next.overflow (subst (HasSetSums n qs) c.in-Fit.is h)
    (subst (HasSums n q) c.in-Exponent-next.is k)

pub returns-in-Exponent-next-2 : goal.returns-in-Exponent-next-2
returns-in-Exponent-next-2 c = λ n qs q h k.
    overflow_exponent n qs q c.in-Overflow.field-0 c.in-Exponent-next-2.overflow (subst (HasSums n q) c.in-Exponent-next-2.is k)
    (subst (HasSetSums n qs) c.in-Overflow.is h)

pub returns-in_default : goal.returns-in_default
returns-in_default c = λ n qs q h k.
    (let fit = exponents_fit n q c.args.next c.in_default.not-Exponent k in
    subst (HasSetSums n (qs ++ q ∷ [])) (sym c.in-Overflow.is) (keeps_overflow n qs q c.in-Overflow.field-0 fit.0 fit.1
    (subst (HasSetSums n qs) c.in-Overflow.is h)))

pub returns-in-Exponent : goal.returns-in-Exponent
returns-in-Exponent c = λ n qs q h k.
    subst (HasSetSums n (qs ++ q ∷ [])) (sym c.in-Exponent.is) (keeps_exponent n qs q c.in-Exponent.field-0 (subst (HasSetSums n qs) c.in-Exponent.is h))
