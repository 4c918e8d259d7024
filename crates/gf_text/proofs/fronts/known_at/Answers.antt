use Rattle.std.proofs.Common.{◌<◌, ◌≤◌, ◌-◌, length, get_or, refl, arith}
use Rattle.gf_text.proofs.FrontsLaws.{known_exactly, known_least}
use Rattle.gf_text.proofs.fronts.known_at.Goals as goal

pub returns-then-size-left : goal.returns-then-size-left
returns-then-size-left c = λ name source is_table is.
    let at = c.args.at in
    let found = c.args.found in
    let table = c.args.table.now in
    let behind : found.at ≤ at = c.if-at-found.false in
    let within : at - found.at < length table = c.if-at-found-2.false in
    let less : get_or table (at - found.at) 0 < found.size - (at - found.at) = omega (arith, c.saturating_sub-left.ensures, c.if-size-left.true) in
    known_exactly name source table found at (get_or table (at - found.at) 0) is_table is behind within refl less

pub returns-else-size-left : goal.returns-else-size-left
returns-else-size-left c = λ name source is_table is.
    let at = c.args.at in
    let found = c.args.found in
    let table = c.args.table.now in
    let behind : found.at ≤ at = c.if-at-found.false in
    let within : at - found.at < length table = c.if-at-found-2.false in
    let most : found.size - (at - found.at) ≤ get_or table (at - found.at) 0 = omega (arith, c.saturating_sub-left.ensures, c.if-size-left.false) in
    rw c.saturating_sub-left.ensures
    (known_least name source table found at (get_or table (at - found.at) 0) is_table is behind within refl most)
