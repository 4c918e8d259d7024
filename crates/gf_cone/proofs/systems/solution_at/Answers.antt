use Rattle.std.proofs.Common.{◌≡◌, subst, ℤ, List, [], ◌∷◌, length}
use Rattle.std.proofs.lemmas.List.Elements.{All-cons, All-nil}
use Rattle.gf_gordan.specs.Answers.{IsAlternative}
use Rattle.gf_gordan.specs.Alternative.{IsFarkas}
use Rattle.gf_gordan.proofs.AlternativeLaws.{exclusive}
use Rattle.gf_cone.proofs.systems.solution_at.Goals as goal

pub returns-in-Farkas-clause-no : goal.returns-in-Farkas-clause-no
returns-in-Farkas-clause-no c = λ e s.
    let a : IsAlternative c.args.n c.args.rows.now (c.args.normal.now ∷ []) c.in_ok-witness.field-0 =
    subst (λ (z : List (List ℤ)). IsAlternative c.args.n c.args.rows.now z c.in_ok-witness.field-0) c.from_ref.ensures.value c.in_ok-witness.ensures.ok in
    let f : IsFarkas c.args.n c.args.rows.now (c.args.normal.now ∷ []) c.in-Farkas._multipliers c.in-Farkas._of_equations =
    subst (IsAlternative c.args.n c.args.rows.now (c.args.normal.now ∷ [])) c.in-Farkas.is a in
    exclusive c.args.n c.args.rows.now (c.args.normal.now ∷ []) s.0 c.in-Farkas._multipliers c.in-Farkas._of_equations c.requires.widths
    (All-cons (λ t. length t ≡ c.args.n) c.args.normal.now [] c.requires.width (All-nil (λ t. length t ≡ c.args.n))) s.1 f
