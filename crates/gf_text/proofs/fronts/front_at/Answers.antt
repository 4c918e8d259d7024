use Rattle.std.proofs.Common.{◌+◌, length-drop, drop, arith}
use Rattle.std.proofs.lemmas.List.{take_rest}
use Rattle.gf_text.proofs.FrontsLaws.{front_on, front_short, front_short_right}
use Rattle.gf_text.proofs.fronts.front_at.Goals as goal

pub slice_bounds-common_front-count : goal.slice_bounds-common_front-count
slice_bounds-common_front-count c =
    let least = c.in-AtLeast.ensures c.args.name.now c.args.source.now c.requires.table c.requires.known in
    let short = front_short c.args.name.now (drop c.args.at c.args.source.now) in
    omega (arith, least, short)

pub slice_bounds-common_front-start : goal.slice_bounds-common_front-start
slice_bounds-common_front-start c = slice_bounds-common_front-count c

pub overflow_add-at : goal.overflow_add-at
overflow_add-at c =
    let least = c.in-AtLeast.ensures c.args.name.now c.args.source.now c.requires.table c.requires.known in
    let short = front_short_right c.args.name.now (drop c.args.at c.args.source.now) in
    let rest = length-drop c.args.at c.args.source.now in
    let within = c.requires.within in
    omega arith

pub slice_bounds-common_front-count-in-AtLeast : goal.slice_bounds-common_front-count-in-AtLeast
slice_bounds-common_front-count-in-AtLeast c =
    let least = c.in-AtLeast.ensures c.args.name.now c.args.source.now c.requires.table c.requires.known in
    let short = front_short_right c.args.name.now (drop c.args.at c.args.source.now) in
    let rest = length-drop c.args.at c.args.source.now in
    let within = c.requires.within in
    omega arith

pub slice_bounds-common_front-start-in-AtLeast : goal.slice_bounds-common_front-start-in-AtLeast
slice_bounds-common_front-start-in-AtLeast c = slice_bounds-common_front-count-in-AtLeast c

pub returns-in-AtLeast-clause-value : goal.returns-in-AtLeast-clause-value
returns-in-AtLeast-clause-value c =
    let name = c.args.name.now in
    let source = c.args.source.now in
    let least = c.in-AtLeast.ensures name source c.requires.table c.requires.known in
    let more = rw (take_rest name c.in-AtLeast.least, take_rest source (c.args.at + c.in-AtLeast.least)) at c.common_front.ensures in
    front_on name source c.args.at c.in-AtLeast.least c.common_front.result least more

pub overflow_add-size : goal.overflow_add-size
overflow_add-size c =
    let name = c.args.name.now in
    let source = c.args.source.now in
    let least = c.in-AtLeast.ensures name source c.requires.table c.requires.known in
    let more = rw (take_rest name c.in-AtLeast.least, take_rest source (c.args.at + c.in-AtLeast.least)) at c.common_front.ensures in
    let whole = front_on name source c.args.at c.in-AtLeast.least c.common_front.result least more in
    let short = front_short name (drop c.args.at source) in
    omega arith

pub returns-in-AtLeast-clause-known : goal.returns-in-AtLeast-clause-known
returns-in-AtLeast-clause-known c =
    let name = c.args.name.now in
    let source = c.args.source.now in
    let least = c.in-AtLeast.ensures name source c.requires.table c.requires.known in
    let more = rw (take_rest name c.in-AtLeast.least, take_rest source (c.args.at + c.in-AtLeast.least)) at c.common_front.ensures in
    let whole = front_on name source c.args.at c.in-AtLeast.least c.common_front.result least more in
    omega arith
