use Rattle.std.proofs.Common.{◌∙◌, ◌++◌, [], sym, ap, subst, refl, length, Ok, arith}
use Rattle.gf_text.specs.Tokens.{lexeme}
use Rattle.gf_text.specs.Limits.{AreTermsWithin, ArePolynomialsWithin}
use Rattle.gf_text.specs.GivenSet.{set_move}
use Rattle.gf_text.specs.Pieces.{HasFront, Settles, AddsBehind, fronted, joined}
use Rattle.gf_text.specs.declared.TheConstants.{MOST_VARIABLES}
use Rattle.gf_text.specs.declared.error.Cause.TheVariants.{Ended}
use Rattle.gf_text.specs.declared.set_reader.SetPlace.TheVariants.{Brace}
use Rattle.gf_text.proofs.MachineLaws.{failed}
use Rattle.gf_text.proofs.FrontsLaws.{none_yet}
use Rattle.gf_text.proofs.TokensLaws.{behind-lexeme}
use Rattle.gf_text.proofs.SetGrowsLaws.{Reading, reading_start, reading_ended}
use Rattle.gf_text.proofs.SetPiecesLaws.{joined_go, joined_done, joined_halt, pieces_go_within, pieces_done_within, others_within, terms_within}
use Rattle.gf_text.proofs.set_reader.sums_of_pieces.Goals as goal

pub loop-start-init : goal.loop-start-init
loop-start-init c =
    let ring = c.args.ring.now in
    let source = c.args.source.now in
    record {
      within = c.requires;
      forward = omega arith;
      known = none_yet ring source MOST_VARIABLES;
      said = [];
      us = [];
      none = ap (λ p. p.polynomials) c.new-part.ensures;
      reading = subst (λ p. Reading ring source c.args.from c.args.from (Brace, joined [] p) []) (sym c.new-part.ensures)
          (reading_start ring source c.args.from);
      come = c.new-sums.ensures (length ring);
      summed = refl;
    }

pub returns-in_default-clause-err : goal.returns-in_default-clause-err
returns-in_default-clause-err c =
    let ring = c.args.ring.now in
    let source = c.args.source.now in
    let i = c.loop-start.invariant in
    let tokens = c.in_default.ensures.token in
    rw c.refused_at.ensures (
    failed _ (length source) Ended (reading_ended ring c.names-names.ensures.ring source c.args.from c.loop-start.at (
      c.loop-start.place,
      joined i.us c.loop-start.part,
    ) i.said i.reading tokens)
    )

pub returns-in-Halt-clause-err : goal.returns-in-Halt-clause-err
returns-in-Halt-clause-err c =
    let ring = c.args.ring.now in
    let source = c.args.source.now in
    let i = c.loop-start.invariant in
    let tokens = c.in-Some.ensures.token in
    let move = sym c.in_ok-next.ensures ∙ ap (λ m. set_move m c.step.new.self) c.in-Halt.is in
    let x = lexeme source c.in-Some.start c.in-Some.end in
    rw c.refused_at-in-Halt.ensures (
    failed _ c.in-Some.start c.in-Halt.cause
    (joined_halt ring c.names-names.ensures.ring source c.args.from c.loop-start.at c.in-Some.end x c.loop-start.place c.loop-start.part i.us i.said i.none
    i.reading tokens c.in-Halt.cause move)
    )

pub add_behind-requires-clause-within : goal.add_behind-requires-clause-within
add_behind-requires-clause-within c =
    let ring = c.args.ring.now in
    let source = c.args.source.now in
    let i = c.loop-start.invariant in
    let tokens = c.in-Some.ensures.token in
    let move = sym c.in_ok-next.ensures ∙ ap (λ m. set_move m c.step.new.self) c.in-Done.is in
    let x = lexeme source c.in-Some.start c.in-Some.end in
    let ps = c.step.new.self.polynomials in
    subst (λ n. ArePolynomialsWithin n ps) (sym c.len-n.ensures.value)
    (others_within (length ring) i.us ps (pieces_done_within ring c.names-names.ensures.ring source c.args.from c.loop-start.at c.in-Some.end x
    c.loop-start.place c.loop-start.part i.us i.said i.none i.reading tokens ps move))

pub add_behind-requires-clause-known : goal.add_behind-requires-clause-known
add_behind-requires-clause-known c =
    let i = c.loop-start.invariant in
    subst (λ n. HasFront n c.loop-start.front) (sym c.len-n.ensures.value) (i.us, i.summed)

pub returns-then-branch-clause-ok : goal.returns-then-branch-clause-ok
returns-then-branch-clause-ok c =
    let ring = c.args.ring.now in
    let source = c.args.source.now in
    let i = c.loop-start.invariant in
    let tokens = c.in-Some.ensures.token in
    let move = sym c.in_ok-next.ensures ∙ ap (λ m. set_move m c.step.new.self) c.in-Done.is in
    let x = lexeme source c.in-Some.start c.in-Some.end in
    let ps = c.step.new.self.polynomials in
    let adds = subst (λ n. AddsBehind n ps c.loop-start.front c.loop-start.sums c.add_behind.new.front c.add_behind.new.sums) c.len-n.ensures.value
    (c.in_ok-add_behind-in-Done.ensures c.if-branch.true) in
    record {
      said = i.said ++ fronted i.us ps;
      read = joined_done ring c.names-names.ensures.ring source c.args.from c.loop-start.at c.in-Some.end x c.loop-start.place c.loop-start.part i.us i.said
          i.none i.reading tokens ps move
          ∙ ap (λ n. Ok (i.said ++ fronted i.us ps, n)) (behind-lexeme source c.in-Some.start c.in-Some.end c.in-Some.ensures.within.1
          c.in-Some.ensures.within.2);
      come = (adds i.said i.us i.come i.summed).0;
    }

pub settle-requires-clause-within : goal.settle-requires-clause-within
settle-requires-clause-within c =
    let ring = c.args.ring.now in
    let source = c.args.source.now in
    let i = c.loop-start.invariant in
    let tokens = c.in-Some.ensures.token in
    let move = sym c.in_ok-next.ensures ∙ ap (λ m. set_move m c.step.new.self) c.in-Go.is in
    let x = lexeme source c.in-Some.start c.in-Some.end in
    let ps = c.step.new.self.polynomials in
    subst (λ n. ArePolynomialsWithin n ps) (sym c.len-n.ensures.value)
    (others_within (length ring) i.us ps (pieces_go_within ring c.names-names.ensures.ring source c.args.from c.loop-start.at c.in-Some.end x
    c.loop-start.place c.loop-start.part i.us i.said i.none i.reading tokens c.in-Go.next c.step.new.self move))

pub settle-requires-clause-terms : goal.settle-requires-clause-terms
settle-requires-clause-terms c = λ begun.
    let ring = c.args.ring.now in
    let source = c.args.source.now in
    let i = c.loop-start.invariant in
    let tokens = c.in-Some.ensures.token in
    let move = sym c.in_ok-next.ensures ∙ ap (λ m. set_move m c.step.new.self) c.in-Go.is in
    let x = lexeme source c.in-Some.start c.in-Some.end in
    let q = c.step.new.self in
    let said = i.said ++ fronted i.us q.polynomials in
    subst (λ n. AreTermsWithin n q.terms) (sym c.len-n.ensures.value)
    (terms_within ring c.names-names.ensures.ring source c.args.from c.in-Some.end c.in-Go.next i.us q said
    (joined_go ring c.names-names.ensures.ring source c.args.from c.loop-start.at c.in-Some.end x c.loop-start.place c.loop-start.part i.us i.said i.none
    i.reading tokens c.in-Go.next q move) begun)

pub settle-requires-clause-known : goal.settle-requires-clause-known
settle-requires-clause-known c =
    let i = c.loop-start.invariant in
    subst (λ n. HasFront n c.loop-start.front) (sym c.len-n.ensures.value) (i.us, i.summed)

pub loop-start-preserved : goal.loop-start-preserved
loop-start-preserved c =
    let ring = c.args.ring.now in
    let source = c.args.source.now in
    let i = c.loop-start.invariant in
    let tokens = c.in-Some.ensures.token in
    let move = sym c.in_ok-next.ensures ∙ ap (λ m. set_move m c.step.new.self) c.in-Go.is in
    let x = lexeme source c.in-Some.start c.in-Some.end in
    let q = c.step.new.self in
    let said = i.said ++ fronted i.us q.polynomials in
    let settles = subst (λ n. Settles n q c.loop-start.front c.loop-start.sums c.settle.new.part c.settle.new.front c.settle.new.sums) c.len-n.ensures.value
    (c.in_ok-settle.ensures c.if-not-branch.false) in
    let s = settles i.said i.us i.come i.summed in
    record {
      within = c.in-Some.ensures.within.2;
      known = c.in-Some.ensures.known;
      forward = (let before = c.loop-start.invariant.forward in let next = c.in-Some.ensures.within.0 in let rises = c.in-Some.ensures.within.1 in omega arith);
      said = said;
      us = s.front;
      none = s.none;
      reading = subst (λ p. Reading ring source c.args.from c.in-Some.end (c.in-Go.next, p) said) (sym s.same)
          (joined_go ring c.names-names.ensures.ring source c.args.from c.loop-start.at c.in-Some.end x c.loop-start.place c.loop-start.part i.us i.said i.none
          i.reading tokens c.in-Go.next q move);
      come = s.come;
      summed = s.summed;
    }
