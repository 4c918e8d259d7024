use Rattle.std.proofs.Common.{◌≡◌, ◌∷◌, [], ◌++◌, get_or, refl, inl, ap, sym, ◌∙◌, arith, length, take}
use Rattle.gf_session.proofs.LineLaws.{kept-next, Took-nothing, Took-byte, Took-kept, HasNoFeed-more, count-more, IsHeard-ended, IsHeard-last, IsBegun-more}
use Rattle.gf_session.proofs.line.next_line.Goals as goal

pub returns-in_default-clause-before_fault : goal.returns-in_default-clause-before_fault
returns-in_default-clause-before_fault g c =
    let so = c.loop-count.invariant.1 in
    let bytes = c.loop-count.invariant.0 in
    λ _. (
      length bytes,
      omega (arith, so.count, so.short),
      record {
        bytes = bytes;
        begun = (bytes, so.pure, inl refl);
        took = Took-kept _ _ _ _ _ _ bytes so.took c.in_default.ensures.bytes c.in_default.ensures.count;
        exactly = refl;
      },
    )

pub returns-then-count-eq0-clause-heard : goal.returns-then-count-eq0-clause-heard
returns-then-count-eq0-clause-heard g c =
    let so = c.loop-count.invariant.1 in
    let bytes = c.loop-count.invariant.0 in
    IsHeard-last _ _ _ _ _ _ _ bytes so.pure (rw so.kept at c.choice.ensures)
    (Took-nothing _ _ _ _ _ _ c.in-Ok.count bytes c.read.new.into so.took c.if-count-eq0.true c.in-Ok.ensures.bytes.0 c.in-Ok.ensures.count)
    (c.in-Ok.ensures.bytes.1 c.if-count-eq0.true (omega (arith, c.read.auto.into))) so.count

pub returns-then-taken-eq-MAX_INPUT-clause-long : goal.returns-then-taken-eq-MAX_INPUT-clause-long
returns-then-taken-eq-MAX_INPUT-clause-long g c =
    let so = c.loop-count.invariant.1 in
    let bytes = c.loop-count.invariant.0 in
    let one : c.in-Ok.count ≡ 1 = omega (arith, c.in-Ok.ensures.bound, c.read.auto.into, c.if-count-eq0.false) in
    λ _. (
      length (bytes ++ get_or c.read.new.into 0 0 ∷ []),
      sym (count-more bytes (get_or c.read.new.into 0 0) _ _ so.count) ∙ omega (arith, c.if-taken-eq-MAX_INPUT.true),
      record {
        bytes = bytes ++ get_or c.read.new.into 0 0 ∷ [];
        begun = IsBegun-more bytes (get_or c.read.new.into 0 0) so.pure;
        took = Took-byte _ _ _ _ _ _ c.in-Ok.count bytes c.read.new.into so.took one (omega (arith, c.read.auto.into)) c.in-Ok.ensures.bytes.0
            c.in-Ok.ensures.count;
        exactly = refl;
      },
    )

pub returns-then-byte-eq10-clause-heard : goal.returns-then-byte-eq10-clause-heard
returns-then-byte-eq10-clause-heard g c =
    let so = c.loop-count.invariant.1 in
    let bytes = c.loop-count.invariant.0 in
    let one : c.in-Ok.count ≡ 1 = omega (arith, c.in-Ok.ensures.bound, c.read.auto.into, c.if-count-eq0.false) in
    IsHeard-ended _ _ _ _ _ c.loop-count.taken _ bytes (get_or c.read.new.into 0 0) so.pure (rw so.kept at c.choice-then-byte-eq10.ensures)
    (Took-byte _ _ _ _ _ _ c.in-Ok.count bytes c.read.new.into so.took one (omega (arith, c.read.auto.into)) c.in-Ok.ensures.bytes.0 c.in-Ok.ensures.count)
    c.if-byte-eq10.true so.count

pub loop-count-preserved : goal.loop-count-preserved
loop-count-preserved g c =
    let so = c.loop-count.invariant.1 in
    let bytes = c.loop-count.invariant.0 in
    let byte = get_or c.read.new.into 0 0 in
    let one : c.in-Ok.count ≡ 1 = omega (arith, c.in-Ok.ensures.bound, c.read.auto.into, c.if-count-eq0.false) in (
      bytes ++ byte ∷ [],
      record {
        pure = HasNoFeed-more bytes byte so.pure c.if-byte-eq10.false;
        kept = c.push.ensures ∙ ap (λ k. take 81 (k ++ byte ∷ [])) so.kept ∙ kept-next bytes byte;
        took = Took-byte _ _ _ _ _ _ c.in-Ok.count bytes c.read.new.into so.took one (omega (arith, c.read.auto.into)) c.in-Ok.ensures.bytes.0
            c.in-Ok.ensures.count;
        count = count-more bytes byte _ _ so.count;
        short = omega (arith, so.short, c.if-taken-eq-MAX_INPUT.false);
        calm = c.in-Ok.ensures.calm ∙ so.calm;
      },
    )
