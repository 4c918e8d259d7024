use Rattle.std.proofs.Common.{sym, ap₂, ◌∙◌, subst}
use Rattle.gf_gordan.specs.Alternative.{AreRows}
use Rattle.gf_fans_theory.specs.FaceLists.{numbered}
use Rattle.gf_fan_files.proofs.FilesFansLaws.{numbered_rows}
use Rattle.gf_fan_files.proofs.fan.cone_of.Goals as goal

pub generated_cone-requires-clause-rays : goal.generated_cone-requires-clause-rays
generated_cone-requires-clause-rays c =
    let f = c.args.file.now in
    let listed = c.deref.ensures.value ∙ c.in_ok-rays.ensures ∙ ap₂ numbered c.as_slice.ensures c.as_slice-2.ensures in
    subst (AreRows f.ambient) (sym listed) (numbered_rows f.ambient f.rays c.args.cone.now c.requires.sound.rays c.requires.below)
