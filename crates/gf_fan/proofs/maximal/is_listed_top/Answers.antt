use Rattle.std.proofs.Common.{◌≡◌, sym, subst, true, List, ℕ, length, All, Contains, rules}
use Rattle.gf_fan.proofs.maximal.is_listed_top.Goals as goal

abbrev NoneOver : List (List ℕ) → List ℕ → Type 0
NoneOver tops own = (t : List ℕ) → Contains tops t → (length t ≡ length own → ⊥) → All (Contains t) own → ⊥

pub returns-then-not-is_listed : goal.returns-then-not-is_listed
returns-then-not-is_listed c = (
  λ t. absurd (search rules),
  λ m. let t : c.is_listed.result ≡ true = c.is_listed.ensures.1 m.0 in absurd (search rules),
)

pub returns : goal.returns
returns c =
    let listed : c.is_listed.result ≡ true = search rules in (
      λ t. (
        c.is_listed.ensures.0 listed,
        subst (λ (l : List (List ℕ)). NoneOver l c.args.own.now) c.as_slice.ensures.keys
            (subst (NoneOver c.as_slice.result.now) c.as_slice-2.ensures (c.is_top.ensures.0 t)),
      ),
      λ m. c.is_top.ensures.1 (subst (λ (l : List (List ℕ)). NoneOver l c.as_slice-2.result.now) (sym c.as_slice.ensures.keys)
          (subst (NoneOver c.args.tops.now.keys) (sym c.as_slice-2.ensures) m.1)),
    )
