use Rattle.gf_division.proofs.AutoreductionLaws.{Autoreducing, given_variables, forms_some_variables, forms_weight, tails_variables, autoreducing}
use Rattle.gf_division.proofs.AutoreductionLaws.{autoreduced_arranged, autoreduced_marked, autoreduced_reduced}
use Rattle.gf_wide_division.proofs.autoreduction.wide_autoreduce.Goals as goal

pub needed_forms-requires : goal.needed_forms-requires
needed_forms-requires c = given_variables c.args.set.now.variables c.args.set.now.items c.items.result.now c.items.ensures.value c.items.ensures.variables

pub tails-requires-clause-marked : goal.tails-requires-clause-marked
tails-requires-clause-marked c = forms_weight c.args.set.now.variables c.args.set.now.items c.items.result.now c.in_ok-forms.forms.items c.deref.result.now
    c.items.ensures.value c.deref.ensures.value c.requires c.in_ok-forms.ensures.value

pub tails-requires-clause-variables : goal.tails-requires-clause-variables
tails-requires-clause-variables c = forms_some_variables c.args.set.now.variables c.args.set.now.items c.items.result.now c.in_ok-forms.forms.items
    c.deref.result.now c.items.ensures.value c.items.ensures.variables c.in_ok-forms.ensures.variables c.deref.ensures.value

pub new-requires : goal.new-requires
new-requires c = tails_variables c.args.set.now.variables c.variables.result c.args.set.now.items c.items.result.now c.in_ok-forms.forms.items
    c.deref.result.now c.in_ok-reduced.reduced.items c.variables.ensures c.items.ensures.value c.deref.ensures.value c.items.ensures.variables
    c.in_ok-forms.ensures.variables c.in_ok-reduced.ensures.forms

pub returns-clause-arranged : goal.returns-clause-arranged
returns-clause-arranged c =
    let a : Autoreducing c.args.set.now.variables c.args.set.now.items c.in_ok-forms.forms.items c.in_ok-reduced.reduced.items c.in_ok-all.all =
    autoreducing c.args.set.now.variables c.variables.result c.args.set.now.items c.items.result.now c.in_ok-forms.forms.items c.deref.result.now
    c.in_ok-reduced.reduced.items c.new.result c.in_ok-all.all c.variables.ensures c.items.ensures.value c.deref.ensures.value c.new.ensures
    c.items.ensures.variables c.in_ok-forms.ensures.value c.in_ok-forms.ensures.variables c.in_ok-reduced.ensures.tails c.in_ok-reduced.ensures.forms
    c.in_ok-all.ensures in
    autoreduced_arranged c.args.set.now.variables c.args.set.now.items c.in_ok-forms.forms.items c.in_ok-reduced.reduced.items c.in_ok-all.all a

pub returns-clause-marked : goal.returns-clause-marked
returns-clause-marked c =
    let a : Autoreducing c.args.set.now.variables c.args.set.now.items c.in_ok-forms.forms.items c.in_ok-reduced.reduced.items c.in_ok-all.all =
    autoreducing c.args.set.now.variables c.variables.result c.args.set.now.items c.items.result.now c.in_ok-forms.forms.items c.deref.result.now
    c.in_ok-reduced.reduced.items c.new.result c.in_ok-all.all c.variables.ensures c.items.ensures.value c.deref.ensures.value c.new.ensures
    c.items.ensures.variables c.in_ok-forms.ensures.value c.in_ok-forms.ensures.variables c.in_ok-reduced.ensures.tails c.in_ok-reduced.ensures.forms
    c.in_ok-all.ensures in
    autoreduced_marked c.args.set.now.variables c.args.set.now.items c.in_ok-forms.forms.items c.in_ok-reduced.reduced.items c.in_ok-all.all c.requires a

pub returns-clause-reduced : goal.returns-clause-reduced
returns-clause-reduced c =
    let a : Autoreducing c.args.set.now.variables c.args.set.now.items c.in_ok-forms.forms.items c.in_ok-reduced.reduced.items c.in_ok-all.all =
    autoreducing c.args.set.now.variables c.variables.result c.args.set.now.items c.items.result.now c.in_ok-forms.forms.items c.deref.result.now
    c.in_ok-reduced.reduced.items c.new.result c.in_ok-all.all c.variables.ensures c.items.ensures.value c.deref.ensures.value c.new.ensures
    c.items.ensures.variables c.in_ok-forms.ensures.value c.in_ok-forms.ensures.variables c.in_ok-reduced.ensures.tails c.in_ok-reduced.ensures.forms
    c.in_ok-all.ensures in
    autoreduced_reduced c.args.set.now.variables c.args.set.now.items c.in_ok-forms.forms.items c.in_ok-reduced.reduced.items c.in_ok-all.all a
