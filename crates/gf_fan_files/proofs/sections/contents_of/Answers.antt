use Rattle.std.proofs.lemmas.Result.{err_from_is_err_and}
use Rattle.std.proofs.Common.{rules, ◌≡◌, ◌∙◌, ◌++◌, ◌∷◌, [], Bool, true, false, not, length, refl, sym, ap, subst, List, ℕ, if◌then◌else◌}
use Rattle.gf_text.specs.RingText.{has}
use Rattle.gf_text.specs.Tokens.{lexeme}
use Rattle.gf_fan_files.specs.Lines.{content_from}
use Rattle.gf_fan_files.specs.FanText.{content_read, kind_in, fan_table, told_table, text_read}
use Rattle.gf_fan_files.proofs.ReadingLaws.{refused_on}
use Rattle.gf_fan_files.proofs.FilesLaws.{dimension_within}
use Rattle.gf_fan_files.proofs.SectionsLaws.{IsReadUpTo, begun, one_more, faulty, finished}
use Rattle.gf_fan_files.proofs.sections.contents_of.Goals as goal

not_there : (there new : Bool) → new ≡ not there → new ≡ true → there ≡ false
not_there true new is e = cc
not_there false new is e = refl

pub loop-start-init : goal.loop-start-init
loop-start-init c = record {
  within = search rules;
  read = rw (c.new-names.ensures, c.none-contents.ensures) (begun c.args.source.now c.version_of.result c.version_of.ensures);
}

pub loop-start-preserved : goal.loop-start-preserved
loop-start-preserved c =
    let source = c.args.source.now in
    let l = c.loop-start in
    let x = lexeme source c.in-Some.start c.in-Some.end in
    let fresh = not_there (has l.names x.text) c.in_ok-new.new c.in_ok-new.ensures.new c.if-not-new.false in
    let names = c.in_ok-new.ensures.names ∙ ap (λ v. if v then l.names else l.names ++ x.text ∷ []) fresh in
    record {
      within = c.in-Some.ensures.within.2;
      read = subst (λ (ns : List (List ℕ)). IsReadUpTo source c.in-Some.next ns c.in_ok-contents.contents) (sym names)
          (one_more source l.at l.names l.contents l.invariant.read x c.in-Some.next c.in-Some.ensures.section fresh c.in_ok-contents.contents
          c.in_ok-contents.ensures);
    }

pub returns-clause-says : goal.returns-clause-says
returns-clause-says c = finished c.args.source.now c.loop-start.at c.loop-start.names c.loop-start.contents c.loop-start.invariant.read
    c.in_default.ensures.section

pub returns-clause-dimension : goal.returns-clause-dimension
returns-clause-dimension c =
    dimension_within c.args.source.now c.loop-start.contents
    (finished c.args.source.now c.loop-start.at c.loop-start.names c.loop-start.contents c.loop-start.invariant.read c.in_default.ensures.section)

pub returns-in_err-contents-clause-says : goal.returns-in_err-contents-clause-says
returns-in_err-contents-clause-says c =
    let source = c.args.source.now in
    let l = c.loop-start in
    let x = lexeme source c.in-Some.start c.in-Some.end in
    let fresh = not_there (has l.names x.text) c.in_ok-new.new c.in_ok-new.ensures.new c.if-not-new.false in
    let p = err_from_is_err_and c.from_residual-in_err-contents.result c.from_residual-in_err-contents.ensures.1 in
    rw (p.1, p.2) (
    refused_on c.in_err-contents.field-0.0 (content_read (length source) (kind_in (fan_table l.contents.version) x.text) (content_from source c.in-Some.next))
    (text_read (told_table source) source)
    (λ d is. faulty source l.at l.names l.contents l.invariant.read x c.in-Some.next c.in-Some.ensures.section fresh d is) c.in_err-contents.ensures
    )
