-- What the search finds, in the words of a walker's contract.
-- To cite: Finds-same, found, ended, listed_here.
use Rattle.std.proofs.Common.{◌≡◌, ℕ, List, refl, inl, inr, Some, None, Option}
use Rattle.gf_reverse_search.specs.declared.mark.Mark.{Mark}
use Rattle.gf_reverse_search.specs.declared.mark.Mark.TheVariants.{Before, Listed, Finished}
use Rattle.gf_reverse_search.specs.Path.{IsStrictOrder}
use Rattle.gf_reverse_search.specs.Standing.{StandsBelow}
use Rattle.gf_reverse_search.specs.Walk.{Finds, IsNext, IsDone}
use Rattle.gf_reverse_search.proofs.LeftLaws.{open_from_left, left_from_open}
use Rattle.gf_reverse_search.proofs.StepLaws.{finished_open}
use Rattle.gf_reverse_search.proofs.ClimbLaws.{Stands}

-- what is found further up is found from here
pub Finds-same : {N L : Type 0} (lt : L → L → Type 0) (up : N → L → N → Type 0) (top : N) (m : Mark L) (r : List L) (node : N) (mark : Mark L) (d : ℕ)
    (s : Stands lt up top m r node mark d) (o : Option (N × ℕ)) → Finds lt up top mark s.path o → Finds lt up top m r o
Finds-same lt up top m r node mark d s None h = λ q path k. h q path ((s.same q path).0 k)
Finds-same lt up top m r node mark d s (Some p) h = (
  h.0,
  h.1,
  λ q path. (
    (λ k. (h.2 q path).0 ((s.same q path).0 k)),
    (λ k. (s.same q path).1 ((h.2 q path).1 k)),
  ),
)

module _ {N L : Type 0} (lt : L → L → Type 0) (up : N → L → N → Type 0) (strict : IsStrictOrder lt) (top : N) (m : Mark L) (r : List L) where
  pub found : (v n : N) (d : ℕ) → Finds lt up top m r (Some (v, d)) → n ≡ v → IsNext lt up top m r n Listed v d
  found v n d h e = record {
    path = h.0;
    at = h.1;
    node = e;
    listed = refl;
    first = record {
      at_first = left_from_open lt strict m r h.0 ((h.2 h.0 (v, h.1.leads)).1 (inl refl));
      at_later = λ q path k. left_from_open lt strict m r q ((h.2 q path).1 (inr (open_from_left lt strict Listed h.0 q k)));
      only = λ q path k. elim ((h.2 q path).0 (open_from_left lt strict m r q k)) [ inl e ↦ inl e | inr k ↦ inr (left_from_open lt strict Listed h.0 q k) ];
    };
  }

  pub ended : (here : N) (d : ℕ) → StandsBelow up top r here d → Finds lt up top m r None → IsDone lt up top m r Finished here d
  ended here d at h = record {
    path = r;
    at = at;
    none = λ q path k. h q path (open_from_left lt strict m r q k);
    stays = λ q path k. h q path (finished_open lt m r q (open_from_left lt strict Finished r q k));
  }

-- what stands before its node lists it
pub listed_here : {N L : Type 0} (lt : L → L → Type 0) (up : N → L → N → Type 0) (top : N) (r : List L) (here v : N) (d : ℕ) → v ≡ here →
    StandsBelow up top r here d → IsNext lt up top Before r v Listed here d
listed_here lt up top r here v d e at = record {
  path = r;
  at = at;
  node = e;
  listed = refl;
  first = record { at_first = inl refl; at_later = λ q path k. inr k; only = λ q path k. k };
}
