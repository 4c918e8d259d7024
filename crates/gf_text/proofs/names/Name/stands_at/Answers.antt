use Rattle.std.proofs.Common.{◌≡◌, drop, arith}
use Rattle.gf_text.proofs.FrontsLaws.{front_starts}
use Rattle.gf_text.proofs.names.Name.stands_at.Goals as goal

pub returns-clause-value : goal.returns-clause-value
returns-clause-value c =
    let is : c.as_slice-name.result.now ≡ c.args.self.now = grind (arith, c.as_slice-name.ensures.value, c.self.view_is) in
    rw (c.front_at.ensures.value, is) (front_starts c.args.self.now (drop c.args.at c.args.source.now))
