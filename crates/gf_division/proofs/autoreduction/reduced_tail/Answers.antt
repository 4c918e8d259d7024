use Rattle.std.proofs.Common.{ap, sym, ◌∙◌}
use Rattle.std.proofs.lemmas.Result.{err_from_is_err_and}
use Rattle.std.specs.Prelude.{Some}
use Rattle.gf_poly.specs.Polynomial.{Terms}
use Rattle.gf_poly.specs.Marking.{head_of}
use Rattle.gf_division.specs.Dividends.{split_of}
use Rattle.gf_division.proofs.TailLaws.{tail_start, tail_refused, TailFacts, tail_facts, tail_there, reduced_tail_at, tail_reached_at, kept_form_at}
use Rattle.gf_division.proofs.autoreduction.reduced_tail.Goals as goal

pub work_off-requires-clause-variables : goal.work_off-requires-clause-variables
work_off-requires-clause-variables c = (tail_start c.args.by.now c.args.member.now (Some c.copy.result) c.in_ok-copy.field-0 (split_of c.new-rest.result)
    (ap Some (c.copy.ensures ∙ c.head.ensures.value)) (c.in_ok-copy.ensures ∙ c.poly.ensures) c.new-rest.ensures.descending c.requires.variables
    c.requires.member c.head.ensures.marked c.new-rest.ensures.value).variables

pub work_off-requires-clause-above : goal.work_off-requires-clause-above
work_off-requires-clause-above c = (tail_start c.args.by.now c.args.member.now (Some c.copy.result) c.in_ok-copy.field-0 (split_of c.new-rest.result)
    (ap Some (c.copy.ensures ∙ c.head.ensures.value)) (c.in_ok-copy.ensures ∙ c.poly.ensures) c.new-rest.ensures.descending c.requires.variables
    c.requires.member c.head.ensures.marked c.new-rest.ensures.value).above

pub returns-in_err-work_off-clause-cause : goal.returns-in_err-work_off-clause-cause
returns-in_err-work_off-clause-cause c =
    let s = tail_start c.args.by.now c.args.member.now (Some c.copy.result) c.in_ok-copy.field-0 (split_of c.new-rest.result)
    (ap Some (c.copy.ensures ∙ c.head.ensures.value)) (c.in_ok-copy.ensures ∙ c.poly.ensures) c.new-rest.ensures.descending c.requires.variables
    c.requires.member c.head.ensures.marked c.new-rest.ensures.value in
    let p = err_from_is_err_and c.from_residual-in_err-work_off.result c.from_residual-in_err-work_off.ensures.1 in
    rw (p.1, p.2) (tail_refused c.args.by.now c.args.member.now (Some c.copy.result) (split_of c.new-rest.result)
    c.in_err-work_off.field-0.0 s c.in_err-work_off.ensures.cause)

pub index_of-index-requires-clause-variables : goal.index_of-index-requires-clause-variables
index_of-index-requires-clause-variables c =
    let t : TailFacts c.args.by.now c.args.member.now c.in_ok-tail.tail = tail_facts c.args.by.now c.args.member.now (Some c.copy.result)
    (split_of c.new-rest.result) (split_of c.work_off.new.rest) c.in_ok-tail.tail c.head.ensures.marked
    (tail_start c.args.by.now c.args.member.now (Some c.copy.result) c.in_ok-copy.field-0 (split_of c.new-rest.result)
    (ap Some (c.copy.ensures ∙ c.head.ensures.value)) (c.in_ok-copy.ensures ∙ c.poly.ensures) c.new-rest.ensures.descending c.requires.variables
    c.requires.member c.head.ensures.marked c.new-rest.ensures.value) c.in_ok-tail.ensures c.in_ok-work_off.ensures.done c.in_ok-work_off.ensures.worked in
    rw (c.terms.ensures.value, c.head-2.ensures.value) t.variables

pub index_of-index-requires-clause-there : goal.index_of-index-requires-clause-there
index_of-index-requires-clause-there c =
    let t : TailFacts c.args.by.now c.args.member.now c.in_ok-tail.tail = tail_facts c.args.by.now c.args.member.now (Some c.copy.result)
    (split_of c.new-rest.result) (split_of c.work_off.new.rest) c.in_ok-tail.tail c.head.ensures.marked
    (tail_start c.args.by.now c.args.member.now (Some c.copy.result) c.in_ok-copy.field-0 (split_of c.new-rest.result)
    (ap Some (c.copy.ensures ∙ c.head.ensures.value)) (c.in_ok-copy.ensures ∙ c.poly.ensures) c.new-rest.ensures.descending c.requires.variables
    c.requires.member c.head.ensures.marked c.new-rest.ensures.value) c.in_ok-tail.ensures c.in_ok-work_off.ensures.done c.in_ok-work_off.ensures.worked in
    rw (c.terms.ensures.value, c.head-2.ensures.value) (tail_there c.args.by.now c.args.member.now c.in_ok-tail.tail c.requires.marked t)

pub returns-clause-tail : goal.returns-clause-tail
returns-clause-tail c =
    let t : TailFacts c.args.by.now c.args.member.now c.in_ok-tail.tail = tail_facts c.args.by.now c.args.member.now (Some c.copy.result)
    (split_of c.new-rest.result) (split_of c.work_off.new.rest) c.in_ok-tail.tail c.head.ensures.marked
    (tail_start c.args.by.now c.args.member.now (Some c.copy.result) c.in_ok-copy.field-0 (split_of c.new-rest.result)
    (ap Some (c.copy.ensures ∙ c.head.ensures.value)) (c.in_ok-copy.ensures ∙ c.poly.ensures) c.new-rest.ensures.descending c.requires.variables
    c.requires.member c.head.ensures.marked c.new-rest.ensures.value) c.in_ok-tail.ensures c.in_ok-work_off.ensures.done c.in_ok-work_off.ensures.worked in
    reduced_tail_at c.args.by.now c.args.member.now c.in_ok-tail.tail _ c.mark.result c.mark.ensures (ap (λ (f : Terms). head_of f c.index_of-index.result)
    (sym c.terms.ensures.value) ∙ c.index_of-index.ensures.head ∙ c.head-2.ensures.value) t

pub returns-clause-reached : goal.returns-clause-reached
returns-clause-reached c =
    let t : TailFacts c.args.by.now c.args.member.now c.in_ok-tail.tail = tail_facts c.args.by.now c.args.member.now (Some c.copy.result)
    (split_of c.new-rest.result) (split_of c.work_off.new.rest) c.in_ok-tail.tail c.head.ensures.marked
    (tail_start c.args.by.now c.args.member.now (Some c.copy.result) c.in_ok-copy.field-0 (split_of c.new-rest.result)
    (ap Some (c.copy.ensures ∙ c.head.ensures.value)) (c.in_ok-copy.ensures ∙ c.poly.ensures) c.new-rest.ensures.descending c.requires.variables
    c.requires.member c.head.ensures.marked c.new-rest.ensures.value) c.in_ok-tail.ensures c.in_ok-work_off.ensures.done c.in_ok-work_off.ensures.worked in
    tail_reached_at c.args.by.now c.args.member.now c.in_ok-tail.tail _ c.mark.result c.mark.ensures (ap (λ (f : Terms). head_of f c.index_of-index.result)
    (sym c.terms.ensures.value) ∙ c.index_of-index.ensures.head ∙ c.head-2.ensures.value) t

pub returns-clause-form : goal.returns-clause-form
returns-clause-form c =
    let t : TailFacts c.args.by.now c.args.member.now c.in_ok-tail.tail = tail_facts c.args.by.now c.args.member.now (Some c.copy.result)
    (split_of c.new-rest.result) (split_of c.work_off.new.rest) c.in_ok-tail.tail c.head.ensures.marked
    (tail_start c.args.by.now c.args.member.now (Some c.copy.result) c.in_ok-copy.field-0 (split_of c.new-rest.result)
    (ap Some (c.copy.ensures ∙ c.head.ensures.value)) (c.in_ok-copy.ensures ∙ c.poly.ensures) c.new-rest.ensures.descending c.requires.variables
    c.requires.member c.head.ensures.marked c.new-rest.ensures.value) c.in_ok-tail.ensures c.in_ok-work_off.ensures.done c.in_ok-work_off.ensures.worked in
    kept_form_at c.args.by.now c.args.member.now c.in_ok-tail.tail _ c.mark.result c.mark.ensures (ap (λ (f : Terms). head_of f c.index_of-index.result)
    (sym c.terms.ensures.value) ∙ c.index_of-index.ensures.head ∙ c.head-2.ensures.value) t
