-- `_bases` writes at most one text for a source. Laws: proofs/ListSourceLaws.antt.
use Rattle.std.specs.Prelude.{◌≡◌, ℕ, Bool, true, false, List, [], ◌∷◌, None, Some}
use Rattle.gfan_lists.specs.declared.bases.ListOptions.{ListOptions}
use Rattle.gf_frame.specs.Commands.{IsAnswered}
use Rattle.gfan_lists.specs.Ways.{ways_by}
use Rattle.gfan_lists.specs.ListCommand.{list_sources, list_command}
use Rattle.gfan.specs.Commands.{list_job, IsAnswerTo}

-- two runs of `_bases`, both with `-g` or both without it, and both with certificates or both without, that write the whole list for the
-- same source have written the same text. The numbers of their workers, their limits and their budgets may differ
abbrev pub TextsAreOne : Type 0
TextsAreOne = (from_basis : Bool) (o u : ListOptions) (workers others : ℕ) (source text same : List ℕ) → u.certified ≡ o.certified →
    IsAnswerTo (list_job from_basis o workers) source text →
    IsAnswerTo (list_job from_basis u others) source same → text ≡ same

-- two runs of `_bases --within`, both with `-g` or both without it, and both with certificates or both without, that write the whole list
-- for the same source and the same vectors have written the same text. The names of the file of the vectors, the limits and the budgets may
-- differ
abbrev pub RegionTextsAreOne : Type 0
RegionTextsAreOne = (name other : List ℕ) (from_basis : Bool) (o u : ListOptions) (file source text same : List ℕ) → u.certified ≡ o.certified →
    IsAnswered (list_command (ways_by from_basis true false) (list_sources (Some name) None) o) (file ∷ (source ∷ [])) text →
    IsAnswered (list_command (ways_by from_basis true false) (list_sources (Some other) None) u) (file ∷ (source ∷ [])) same → text ≡ same
