use Rattle.std.specs.Prelude.{Some}
use Rattle.std.proofs.Common.{ap, sym, ◌∙◌}
use Rattle.gf_poly.specs.Polynomial.{Terms}
use Rattle.gf_poly.specs.Marking.{head_of}
use Rattle.gf_division.proofs.TailLaws.{tail_start, TailFacts, tail_facts, tail_there, reduced_tail_at, tail_reached_at, kept_form_at}
use Rattle.gf_wide_division.specs.Dividends.{uncut, dividend_of}
use Rattle.gf_wide_division.proofs.remainders.wide_tail.Goals as goal

pub worked_off-requires-clause-variables : goal.worked_off-requires-clause-variables
worked_off-requires-clause-variables c = (tail_start c.args.by.now c.args.member.now (Some c.copy.result) c.poly.result.now (dividend_of c.in_ok-rest.rest)
    (ap Some (c.copy.ensures ∙ c.head.ensures.value)) c.poly.ensures c.in_ok-rest.ensures.descending c.requires.variables c.requires.member
    c.head.ensures.marked c.in_ok-rest.ensures.value).variables

pub index_of-index-requires-clause-variables : goal.index_of-index-requires-clause-variables
index_of-index-requires-clause-variables c =
    let t : TailFacts c.args.by.now c.args.member.now c.in_ok-tail.tail = tail_facts c.args.by.now c.args.member.now (Some c.copy.result)
    (dividend_of c.in_ok-rest.rest) (uncut c.in_ok-left.left) c.in_ok-tail.tail c.head.ensures.marked
    (tail_start c.args.by.now c.args.member.now (Some c.copy.result) c.poly.result.now (dividend_of c.in_ok-rest.rest)
    (ap Some (c.copy.ensures ∙ c.head.ensures.value)) c.poly.ensures c.in_ok-rest.ensures.descending c.requires.variables c.requires.member
    c.head.ensures.marked c.in_ok-rest.ensures.value) c.in_ok-tail.ensures c.in_ok-left.ensures.done c.in_ok-left.ensures.worked in
    rw (c.terms.ensures.value, c.head-2.ensures.value) t.variables

pub index_of-index-requires-clause-there : goal.index_of-index-requires-clause-there
index_of-index-requires-clause-there c =
    let t : TailFacts c.args.by.now c.args.member.now c.in_ok-tail.tail = tail_facts c.args.by.now c.args.member.now (Some c.copy.result)
    (dividend_of c.in_ok-rest.rest) (uncut c.in_ok-left.left) c.in_ok-tail.tail c.head.ensures.marked
    (tail_start c.args.by.now c.args.member.now (Some c.copy.result) c.poly.result.now (dividend_of c.in_ok-rest.rest)
    (ap Some (c.copy.ensures ∙ c.head.ensures.value)) c.poly.ensures c.in_ok-rest.ensures.descending c.requires.variables c.requires.member
    c.head.ensures.marked c.in_ok-rest.ensures.value) c.in_ok-tail.ensures c.in_ok-left.ensures.done c.in_ok-left.ensures.worked in
    rw (c.terms.ensures.value, c.head-2.ensures.value) (tail_there c.args.by.now c.args.member.now c.in_ok-tail.tail c.requires.marked t)

pub returns-clause-tail : goal.returns-clause-tail
returns-clause-tail c =
    let t : TailFacts c.args.by.now c.args.member.now c.in_ok-tail.tail = tail_facts c.args.by.now c.args.member.now (Some c.copy.result)
    (dividend_of c.in_ok-rest.rest) (uncut c.in_ok-left.left) c.in_ok-tail.tail c.head.ensures.marked
    (tail_start c.args.by.now c.args.member.now (Some c.copy.result) c.poly.result.now (dividend_of c.in_ok-rest.rest)
    (ap Some (c.copy.ensures ∙ c.head.ensures.value)) c.poly.ensures c.in_ok-rest.ensures.descending c.requires.variables c.requires.member
    c.head.ensures.marked c.in_ok-rest.ensures.value) c.in_ok-tail.ensures c.in_ok-left.ensures.done c.in_ok-left.ensures.worked in
    reduced_tail_at c.args.by.now c.args.member.now c.in_ok-tail.tail _ c.mark.result c.mark.ensures (ap (λ (f : Terms). head_of f c.index_of-index.result)
    (sym c.terms.ensures.value) ∙ c.index_of-index.ensures.head ∙ c.head-2.ensures.value) t

pub returns-clause-reached : goal.returns-clause-reached
returns-clause-reached c =
    let t : TailFacts c.args.by.now c.args.member.now c.in_ok-tail.tail = tail_facts c.args.by.now c.args.member.now (Some c.copy.result)
    (dividend_of c.in_ok-rest.rest) (uncut c.in_ok-left.left) c.in_ok-tail.tail c.head.ensures.marked
    (tail_start c.args.by.now c.args.member.now (Some c.copy.result) c.poly.result.now (dividend_of c.in_ok-rest.rest)
    (ap Some (c.copy.ensures ∙ c.head.ensures.value)) c.poly.ensures c.in_ok-rest.ensures.descending c.requires.variables c.requires.member
    c.head.ensures.marked c.in_ok-rest.ensures.value) c.in_ok-tail.ensures c.in_ok-left.ensures.done c.in_ok-left.ensures.worked in
    tail_reached_at c.args.by.now c.args.member.now c.in_ok-tail.tail _ c.mark.result c.mark.ensures (ap (λ (f : Terms). head_of f c.index_of-index.result)
    (sym c.terms.ensures.value) ∙ c.index_of-index.ensures.head ∙ c.head-2.ensures.value) t

pub returns-clause-form : goal.returns-clause-form
returns-clause-form c =
    let t : TailFacts c.args.by.now c.args.member.now c.in_ok-tail.tail = tail_facts c.args.by.now c.args.member.now (Some c.copy.result)
    (dividend_of c.in_ok-rest.rest) (uncut c.in_ok-left.left) c.in_ok-tail.tail c.head.ensures.marked
    (tail_start c.args.by.now c.args.member.now (Some c.copy.result) c.poly.result.now (dividend_of c.in_ok-rest.rest)
    (ap Some (c.copy.ensures ∙ c.head.ensures.value)) c.poly.ensures c.in_ok-rest.ensures.descending c.requires.variables c.requires.member
    c.head.ensures.marked c.in_ok-rest.ensures.value) c.in_ok-tail.ensures c.in_ok-left.ensures.done c.in_ok-left.ensures.worked in
    kept_form_at c.args.by.now c.args.member.now c.in_ok-tail.tail _ c.mark.result c.mark.ensures (ap (λ (f : Terms). head_of f c.index_of-index.result)
    (sym c.terms.ensures.value) ∙ c.index_of-index.ensures.head ∙ c.head-2.ensures.value) t
