use Rattle.std.proofs.lemmas.Result.{err_from_is_err_and}
use Rattle.std.proofs.Common.{◌∙◌, ◌++◌, ◌∷◌, [], ◌-◌, ◌^◌, ◌≡◌, List, Vec, Global, sym, ap, subst, append_assoc, length, min, arith}
use Rattle.std.proofs.Common.{vec_len}
use Rattle.std.proofs.lemmas.Grind.{common_steps}
use Rattle.std.specs.Vec.Iter.{into_iter_items}
use Rattle.gf_text.specs.declared.written.Written.{Written}
use Rattle.gf_text.specs.SetLists.{sets_in, AreAllIn, AreMarkedSets}
use Rattle.gf_text.proofs.SetListsLaws.{in_middle, marked_push, zero_of}
use Rattle.gf_text.proofs.marked_reader.all_marked.Goals as goal

vec_len_is : {X : Type 0} (v : Vec X Global) → vec_len v ≡ length v.items
vec_len_is v = grind (arith, common_steps)

pub marked_from-requires : goal.marked_from-requires
marked_from-requires c =
    let i = c.sets.invariant in
    let whole = i.whole ∙ ap (λ (vs : List (Vec Written Global)). i.taken ++ sets_in vs) c.in-Some.ensures.steps.0 in
    in_middle c.args.n i.taken c.in-Some.written.items (sets_in (into_iter_items c.next.new.self)) (subst (AreAllIn c.args.n) whole c.requires)

pub returns-in_err-marked-clause-err : goal.returns-in_err-marked-clause-err
returns-in_err-marked-clause-err c =
    let i = c.sets.invariant in
    let whole = i.whole ∙ ap (λ (vs : List (Vec Written Global)). i.taken ++ sets_in vs) c.in-Some.ensures.steps.0 in
    let count : c.len-in-sets.result ≡ length c.sets.all.items = c.len-in-sets.ensures ∙ vec_len_is c.sets.all in
    let number = c.index_of-set.ensures ∙ ap (λ k. min k (2 ^ 32 - 1)) count in
    let p = err_from_is_err_and c.from_residual-in_err-marked.result c.from_residual-in_err-marked.ensures.1 in
    rw (p.1, p.2) (
    zero_of c.args.n (sets_in c.args.sets.items) i.taken c.in-Some.written.items (sets_in (into_iter_items c.next.new.self))
    c.sets.all.items c.index_of-set.result c.in_err-marked.field-0.0 whole i.marked number c.in_err-marked.ensures.err
    )

pub sets-preserved : goal.sets-preserved
sets-preserved c =
    let i = c.sets.invariant in
    let ws = c.in-Some.written.items in
    let whole = i.whole ∙ ap (λ (vs : List (Vec Written Global)). i.taken ++ sets_in vs) c.in-Some.ensures.steps.0 in
    let counts = ap (λ (vs : List (Vec Written Global)). length vs) c.in-Some.ensures.steps.0 in
    let left = i.left in
    let next = c.in-Some.ensures.steps.1 in
    record {
      taken = i.taken ++ ws ∷ [];
      whole = whole ∙ sym (append_assoc i.taken (ws ∷ []) (sets_in (into_iter_items c.next.new.self)));
      marked = subst (AreMarkedSets c.args.n (i.taken ++ ws ∷ [])) (sym c.in_ok-push.ensures.items)
          (marked_push c.args.n i.taken c.sets.all.items ws c.in_ok-marked.marked i.marked c.in_ok-marked.ensures.ok c.in_ok-marked.ensures.variables);
      left = omega arith;
    }
