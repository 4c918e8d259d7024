use Rattle.std.specs.Prelude.{List, Vec, length}
use Rattle.std.specs.Global.{Global}
use Rattle.std.proofs.Common.{refl, sym, subst}
use Rattle.std.proofs.lemmas.Result.{err_from_is_err_and}
use Rattle.gf_text.specs.declared.written.Written.{Written}
use Rattle.gf_text.specs.Sets.{AreIn}
use Rattle.gf_text.specs.SetLists.{AreAllIn, sets_in}
use Rattle.gf_frame.specs.Commands.{IsRefusedOn}
use Rattle.gfan_common.proofs.RefusedLaws.{of_source, named_text}
use Rattle.gfan_sets.proofs.polynomial_set_union.answer.Goals as goal

pub returns-in_err-read-clause-err : goal.returns-in_err-read-clause-err
returns-in_err-read-clause-err c =
    let p = err_from_is_err_and c.from_residual.result c.from_residual.ensures.1 in
    rw (p.1, p.2) (IsRefusedOn.in_text c.in_err-read.field-0.0 c.in_err-read.ensures.err refl)

pub returns-in_err-read-clause-told : goal.returns-in_err-read-clause-told
returns-in_err-read-clause-told c =
    let p = err_from_is_err_and c.from_residual.result c.from_residual.ensures.1 in
    rw (p.1, p.2) (of_source _ _ (named_text c.in_err-read.field-0.0))

pub union-requires : goal.union-requires
union-requires c =
    record {
      n = length c.in_ok-read.read.ring;
      each = subst (λ (ss : List (Vec Written Global)). AreAllIn (length c.in_ok-read.read.ring) (sets_in ss)) (sym c.deref.ensures.value)
          c.in_ok-read.ensures.variables;
    }

pub printed_set-requires : goal.printed_set-requires
printed_set-requires c =
    subst (λ (fs : List Written). AreIn (length c.in_ok-read.read.ring) fs) (sym c.deref-2.ensures.value)
    (c.in_ok-union.ensures.variables (length c.in_ok-read.read.ring)
    (subst (λ (ss : List (Vec Written Global)). AreAllIn (length c.in_ok-read.read.ring) (sets_in ss)) (sym c.deref.ensures.value)
    c.in_ok-read.ensures.variables))
