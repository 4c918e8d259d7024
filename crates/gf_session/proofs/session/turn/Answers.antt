use Rattle.gf_session.proofs.TurnLaws.{turn-blank, taken, led-on, led-nowhere, led-back, led-nowhere_back, led-unknown, on-ok, if-err, on-as, cause-offer}
use Rattle.gf_session.proofs.TurnLaws.{cause-prompt, cause-back, cause-no_way_back, near-across}
use Rattle.std.proofs.lemmas.Result.{err_from_is_err_and}
use Rattle.gf_session.proofs.session.turn.Goals as goal

pub returns-in-Blank-clause-taken : goal.returns-in-Blank-clause-taken
returns-in-Blank-clause-taken g c = λ s asked on. turn-blank _ _ _ _ _ s asked (on-as _ _ _ _ _ s asked c.in-Blank.is on)

pub returns-then-branch-clause-taken : goal.returns-then-branch-clause-taken
returns-then-branch-clause-taken g c =
    let gone = rw c.if-branch.true at c.in_ok-go_on-in-Across.ensures.ok in
    on-ok c.prompt.result c.prompt.ensures.ok (λ p s asked on. taken _ _ s asked _ _ p.text _ _
    (led-on _ _ _ _ _ _ _ c.in-Across.number s asked p.text gone (rw (c.len.ensures, c.go_on.new.crossed.ok.0) at p.told)
    (on-as _ _ _ _ _ s asked c.in-Across.is on)) p.gained)

pub returns-then-branch-clause-cause : goal.returns-then-branch-clause-cause
returns-then-branch-clause-cause g c =
    let gone = rw c.if-branch.true at c.in_ok-go_on-in-Across.ensures.ok in
    if-err _ _ c.prompt.result c.prompt.ensures.err (λ e cause. cause-prompt _ _ _ _ _ _ _ _ _ _ _ _ e
    (λ text told s asked on. led-on _ _ _ _ _ _ _ c.in-Across.number s asked text gone told (on-as _ _ _ _ _ s asked c.in-Across.is on))
    (λ s asked on. near-across _ _ _ _ _ _ _ c.in-Across.number s asked gone (on-as _ _ _ _ _ s asked c.in-Across.is on))
    (rw (c.len.ensures, c.go_on.new.crossed.ok.0) at cause))

pub returns-else-branch-clause-taken : goal.returns-else-branch-clause-taken
returns-else-branch-clause-taken g c =
    let stays = rw c.if-branch.false at c.in_ok-go_on-in-Across.ensures.ok in
    on-ok c.offer.result c.offer.ensures.all (λ gained s asked on. rw (stays.0, stays.1) (taken _ _ s asked _ _ _ _ _
    (led-nowhere _ _ _ _ c.in-Across.number s asked stays.2 (on-as _ _ _ _ _ s asked c.in-Across.is on)) gained))

pub returns-else-branch-clause-cause : goal.returns-else-branch-clause-cause
returns-else-branch-clause-cause g c =
    let stays = rw c.if-branch.false at c.in_ok-go_on-in-Across.ensures.ok in
    if-err _ _ c.offer.result c.offer.ensures.err (λ e cause. cause-offer _ _ _ _ _ _ _ _ _ _ _ _ _ e
    (λ s asked on. led-nowhere _ _ _ _ c.in-Across.number s asked stays.2 (on-as _ _ _ _ _ s asked c.in-Across.is on)) cause)

pub returns-then-branch-2-clause-taken : goal.returns-then-branch-2-clause-taken
returns-then-branch-2-clause-taken g c =
    let back = rw c.if-branch-2.true at c.in_ok-go_back-in-Undo.ensures.ok in
    on-ok c.prompt-then-branch-2.result c.prompt-then-branch-2.ensures.ok (λ p s asked on. taken _ _ s asked _ _ p.text _ _
    (led-back _ _ _ _ _ _ _ s asked p.text back (rw (c.len-then-branch-2.ensures, c.go_back.new.crossed.ok.0) at p.told)
    (on-as _ _ _ _ _ s asked c.in-Undo.is on)) p.gained)

pub returns-then-branch-2-clause-cause : goal.returns-then-branch-2-clause-cause
returns-then-branch-2-clause-cause g c =
    let back = rw c.if-branch-2.true at c.in_ok-go_back-in-Undo.ensures.ok in
    if-err _ _ c.prompt-then-branch-2.result c.prompt-then-branch-2.ensures.err (λ e cause. cause-back _ _ _ _ _ _ _ _ _ _ _ _ _ e c.in-Undo.is back
    (rw (c.len-then-branch-2.ensures, c.go_back.new.crossed.ok.0) at cause))

pub returns-in_err-go_back-in-Undo-clause-cause : goal.returns-in_err-go_back-in-Undo-clause-cause
returns-in_err-go_back-in-Undo-clause-cause g c =
    let p = err_from_is_err_and c.from_residual-in_err-go_back-in-Undo.result c.from_residual-in_err-go_back-in-Undo.ensures.1 in
    rw (p.1, p.2) (cause-no_way_back _ _ _ _ _ _ _ _ _ c.in_err-go_back-in-Undo.field-0.0 c.in-Undo.is c.in_err-go_back-in-Undo.ensures.err)

pub returns-else-branch-2-clause-taken : goal.returns-else-branch-2-clause-taken
returns-else-branch-2-clause-taken g c =
    let stays = rw c.if-branch-2.false at c.in_ok-go_back-in-Undo.ensures.ok in
    on-ok c.offer-else-branch-2.result c.offer-else-branch-2.ensures.all (λ gained s asked on. rw (stays.0, stays.1) (taken _ _ s asked _ _ _ _ _
    (led-nowhere_back _ _ _ _ s asked stays.2 (on-as _ _ _ _ _ s asked c.in-Undo.is on)) gained))

pub returns-else-branch-2-clause-cause : goal.returns-else-branch-2-clause-cause
returns-else-branch-2-clause-cause g c =
    let stays = rw c.if-branch-2.false at c.in_ok-go_back-in-Undo.ensures.ok in
    if-err _ _ c.offer-else-branch-2.result c.offer-else-branch-2.ensures.err (λ e cause. cause-offer _ _ _ _ _ _ _ _ _ _ _ _ _ e
    (λ s asked on. led-nowhere_back _ _ _ _ s asked stays.2 (on-as _ _ _ _ _ s asked c.in-Undo.is on)) cause)

pub returns-in-Unknown-clause-taken : goal.returns-in-Unknown-clause-taken
returns-in-Unknown-clause-taken g c =
    on-ok c.offer-in-Unknown.result c.offer-in-Unknown.ensures.all (λ gained s asked on. taken _ _ s asked _ _ _ _ _
    (led-unknown _ _ _ _ s asked (on-as _ _ _ _ _ s asked c.in-Unknown.is on)) gained)

pub returns-in-Unknown-clause-cause : goal.returns-in-Unknown-clause-cause
returns-in-Unknown-clause-cause g c =
    if-err _ _ c.offer-in-Unknown.result c.offer-in-Unknown.ensures.err (λ e cause. cause-offer _ _ _ _ _ _ _ _ _ _ _ _ _ e
    (λ s asked on. led-unknown _ _ _ _ s asked (on-as _ _ _ _ _ s asked c.in-Unknown.is on)) cause)
