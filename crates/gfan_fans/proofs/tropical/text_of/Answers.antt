use Rattle.std.proofs.Common.{None, arith, sym, subst}
use Rattle.gf_frame.specs.Commands.{IsUnanswered}
use Rattle.gfan_fans.specs.Tropical.{tropical_command}
use Rattle.gfan_fans.proofs.TropicalLaws.{fan_unanswered, text_unanswered}
use Rattle.gfan_fans.proofs.tropical.text_of.Goals as goal

pub returns-in-Err-clause-err : goal.returns-in-Err-clause-err
returns-in-Err-clause-err g c =
    subst (IsUnanswered (tropical_command c.args.which) (c.args.ring.now, (c.args.set.items, None))) (sym c.of_tropical.ensures)
    (fan_unanswered c.args.which c.args.ring.now c.args.set.items c.len.result c.len-n.result c.in_ok-list.list.items c.deref.result.now c.in-Err.error
    (omega (arith, c.len.ensures, c.args.set.ok.0)) c.in_ok-check_number.ensures.ok c.in_ok-list.ensures.formed c.len-n.ensures.value c.deref.ensures.value
    c.in_ok-list.ensures.value c.in_ok-list.ensures.some c.in-Err.ensures.err)

pub returns-clause-err : goal.returns-clause-err
returns-clause-err g c =
    subst (IsUnanswered (tropical_command c.args.which) (c.args.ring.now, (c.args.set.items, None))) (sym c.of_writing.ensures)
    (text_unanswered c.args.which c.args.ring.now c.args.set.items c.len.result c.len-n.result c.in_ok-list.list.items c.deref.result.now c.in-Ok.fan
    c.in-Err-write.error (omega (arith, c.len.ensures, c.args.set.ok.0)) c.in_ok-check_number.ensures.ok c.in_ok-list.ensures.formed c.len-n.ensures.value
    c.deref.ensures.value c.in_ok-list.ensures.value c.in-Ok.ensures.ok c.in-Err-write.ensures.wide)
