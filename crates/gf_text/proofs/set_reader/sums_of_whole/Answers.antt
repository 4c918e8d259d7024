use Rattle.std.proofs.Common.{◌∙◌, ◌++◌, [], sym, ap, subst, length, Ok, arith}
use Rattle.gf_text.specs.Tokens.{lexeme}
use Rattle.gf_text.specs.Limits.{ArePolynomialsWithin}
use Rattle.gf_text.specs.GivenSet.{set_move}
use Rattle.gf_text.specs.Sets.{Adds}
use Rattle.gf_text.specs.declared.TheConstants.{MOST_VARIABLES}
use Rattle.gf_text.specs.declared.error.Cause.TheVariants.{Ended}
use Rattle.gf_text.specs.declared.set_reader.SetPlace.TheVariants.{Brace}
use Rattle.gf_text.proofs.MachineLaws.{failed}
use Rattle.gf_text.proofs.FrontsLaws.{none_yet}
use Rattle.gf_text.proofs.TokensLaws.{behind-lexeme}
use Rattle.gf_text.proofs.SetGrowsLaws.{Reading, reading_start, reading_go, reading_done, reading_halt, reading_ended, go_within, done_within}
use Rattle.gf_text.proofs.set_reader.sums_of_whole.Goals as goal

pub loop-start-init : goal.loop-start-init
loop-start-init c =
    let ring = c.args.ring.now in
    let source = c.args.source.now in
    record {
      within = c.requires;
      forward = omega arith;
      known = none_yet ring source MOST_VARIABLES;
      said = [];
      none = ap (λ p. p.polynomials) c.new-part.ensures;
      reading = subst (λ p. Reading ring source c.args.from c.args.from (Brace, p) []) (sym c.new-part.ensures) (reading_start ring source c.args.from);
      come = c.new-sums.ensures (length ring);
    }

pub returns-in_default-clause-err : goal.returns-in_default-clause-err
returns-in_default-clause-err c =
    let ring = c.args.ring.now in
    let source = c.args.source.now in
    let i = c.loop-start.invariant in
    let tokens = c.in_default.ensures.token in
    rw c.refused_at.ensures (
    failed _ (length source) Ended (reading_ended ring c.names-names.ensures.ring source c.args.from c.loop-start.at (
      c.loop-start.place,
      c.loop-start.part,
    ) i.said i.reading tokens)
    )

pub returns-in-Halt-clause-err : goal.returns-in-Halt-clause-err
returns-in-Halt-clause-err c =
    let ring = c.args.ring.now in
    let source = c.args.source.now in
    let i = c.loop-start.invariant in
    let tokens = c.in-Some.ensures.token in
    let move = sym c.in_ok-next.ensures ∙ ap (λ m. set_move m c.step.new.self) c.in-Halt.is in
    let x = lexeme source c.in-Some.start c.in-Some.end in
    rw c.refused_at-in-Halt.ensures (
    failed _ c.in-Some.start c.in-Halt.cause
    (reading_halt ring c.names-names.ensures.ring source c.args.from c.loop-start.at c.in-Some.end x (c.loop-start.place, c.loop-start.part) i.said i.reading
    tokens c.in-Halt.cause move)
    )

pub add_read-requires-clause-within : goal.add_read-requires-clause-within
add_read-requires-clause-within c =
    let ring = c.args.ring.now in
    let source = c.args.source.now in
    let i = c.loop-start.invariant in
    let tokens = c.in-Some.ensures.token in
    let move = sym c.in_ok-next.ensures ∙ ap (λ m. set_move m c.step.new.self) c.in-Done.is in
    let x = lexeme source c.in-Some.start c.in-Some.end in
    subst (λ n. ArePolynomialsWithin n c.step.new.self.polynomials) (sym c.len-n.ensures.value)
    (done_within ring c.names-names.ensures.ring source c.args.from c.loop-start.at c.in-Some.end x (c.loop-start.place, c.loop-start.part) i.said i.reading
    tokens c.step.new.self.polynomials move)

pub returns-in-Done-clause-ok : goal.returns-in-Done-clause-ok
returns-in-Done-clause-ok c =
    let ring = c.args.ring.now in
    let source = c.args.source.now in
    let i = c.loop-start.invariant in
    let tokens = c.in-Some.ensures.token in
    let move = sym c.in_ok-next.ensures ∙ ap (λ m. set_move m c.step.new.self) c.in-Done.is in
    let x = lexeme source c.in-Some.start c.in-Some.end in
    let ps = c.step.new.self.polynomials in
    let adds = subst (λ n. Adds n ps c.loop-start.sums c.add_read.new.self) c.len-n.ensures.value c.in_ok-add_read-in-Done.ensures in
    record {
      said = i.said ++ ps;
      read = reading_done ring c.names-names.ensures.ring source c.args.from c.loop-start.at c.in-Some.end x (c.loop-start.place, c.loop-start.part) i.said
          i.reading tokens ps move
          ∙ ap (λ n. Ok (i.said ++ ps, n)) (behind-lexeme source c.in-Some.start c.in-Some.end c.in-Some.ensures.within.1 c.in-Some.ensures.within.2);
      come = adds i.said i.come;
    }

pub add_read-requires-in-loop-start-clause-within : goal.add_read-requires-in-loop-start-clause-within
add_read-requires-in-loop-start-clause-within c =
    let ring = c.args.ring.now in
    let source = c.args.source.now in
    let i = c.loop-start.invariant in
    let tokens = c.in-Some.ensures.token in
    let move = sym c.in_ok-next.ensures ∙ ap (λ m. set_move m c.step.new.self) c.in-Go.is in
    let x = lexeme source c.in-Some.start c.in-Some.end in
    subst (λ n. ArePolynomialsWithin n c.step.new.self.polynomials) (sym c.len-n.ensures.value)
    (go_within ring c.names-names.ensures.ring source c.args.from c.loop-start.at c.in-Some.end x (c.loop-start.place, c.loop-start.part) i.said i.reading
    tokens (c.in-Go.next, c.step.new.self) move)

pub loop-start-preserved : goal.loop-start-preserved
loop-start-preserved c =
    let ring = c.args.ring.now in
    let source = c.args.source.now in
    let i = c.loop-start.invariant in
    let tokens = c.in-Some.ensures.token in
    let move = sym c.in_ok-next.ensures ∙ ap (λ m. set_move m c.step.new.self) c.in-Go.is in
    let x = lexeme source c.in-Some.start c.in-Some.end in
    let ps = c.step.new.self.polynomials in
    let adds = subst (λ n. Adds n ps c.loop-start.sums c.add_read-in-loop-start.new.self) c.len-n.ensures.value c.in_ok-add_read.ensures in
    record {
      within = c.in-Some.ensures.within.2;
      known = c.in-Some.ensures.known;
      forward = (let before = c.loop-start.invariant.forward in let next = c.in-Some.ensures.within.0 in let rises = c.in-Some.ensures.within.1 in omega arith);
      said = i.said ++ ps;
      none = c.clear.ensures;
      reading = subst (λ l. Reading ring source c.args.from c.in-Some.end (c.in-Go.next, record (c.step.new.self) { polynomials = l }) (i.said ++ ps))
          (sym c.clear.ensures)
          (reading_go ring c.names-names.ensures.ring source c.args.from c.loop-start.at c.in-Some.end x (c.loop-start.place, c.loop-start.part) i.said
          i.reading tokens (c.in-Go.next, c.step.new.self) move);
      come = adds i.said i.come;
    }
