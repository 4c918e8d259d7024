use Rattle.std.proofs.Common.{◌≡◌, ℕ, List, ◌++◌, length, Some, None, Result, Ok, Err, IfOk, OnOk, ap, sym, subst, ◌∙◌, append-nil, inr}
use Rattle.std.specs.declared.option.Option.{Option}
use Rattle.std.specs.Io.KnownBytes.{Consumes, IsAtEnd, Keeps}
use Rattle.std.proofs.lemmas.Result.{IfOk-weaker}
use Rattle.gf_outside.specs.Moved.{Counts, Took}
use Rattle.gf_outside.proofs.files.load.Goals as goal

-- what is taken of the file that was chosen is taken of the bytes of its name
of_name : (a b c : Option (List ℕ)) (m n o : ℕ) (xs : List ℕ) → Keeps a b → n ≡ m → Took b c n o xs → Took a c m o xs
of_name None b c m n o xs k e t = record { bytes_left = tt; count = subst (λ z. Counts z o (length xs)) e t.count }
of_name (Some w) None c m n o xs k e t = absurd k
of_name (Some w) (Some v) c m n o xs k e t = record {
  bytes_left = subst (λ z. Consumes (Some z) c xs) k t.bytes_left;
  count = subst (λ z. Counts z o (length xs)) e t.count;
}

all_of : (a b c : Option (List ℕ)) (xs : List ℕ) → Keeps a b → Consumes b c xs → IsAtEnd c → Keeps a (Some xs)
all_of None b c xs k t e = tt
all_of (Some w) None c xs k t e = absurd k
all_of (Some w) (Some v) None xs k t e = absurd t
all_of (Some w) (Some v) (Some u) xs k t e = sym (sym k ∙ t ∙ ap (λ z. xs ++ z) e ∙ append-nil xs)

whole_of : {T E : Type 0} (items : T → List ℕ) (r : Result T E) (a b c : Option (List ℕ)) (m n : ℕ) → Keeps a b → IfOk r (λ x. Took b c m n (items x)) →
    OnOk r (IsAtEnd c) → IfOk r (λ x. Keeps a (Some (items x)))
whole_of items (Ok x) a b c m n k t e = all_of a b c (items x) k t.bytes_left e
whole_of items (Err x) a b c m n k t e = tt

pub returns-clause-whole : goal.returns-clause-whole
returns-clause-whole g c = whole_of (λ v. v.items) c.chosen.result _ _ _ _ _ c.in-Ok.ensures.chosen c.chosen.ensures.all c.chosen.ensures.end

pub returns-clause-all : goal.returns-clause-all
returns-clause-all g c = IfOk-weaker c.chosen.result _ _ (λ v t. of_name _ _ _ _ _ _ v.items c.in-Ok.ensures.chosen c.in-Ok.ensures.gives_nothing t)
    c.chosen.ensures.all

pub returns-clause-long : goal.returns-clause-long
returns-clause-long g c = λ h. let t = c.chosen.ensures.long h in record {
  bytes = t.bytes;
  took = of_name _ _ _ _ _ _ t.bytes c.in-Ok.ensures.chosen c.in-Ok.ensures.gives_nothing t.took;
  exactly = t.exactly;
}

pub returns-clause-before_fault : goal.returns-clause-before_fault
returns-clause-before_fault g c = λ h. let t = c.chosen.ensures.before_fault h in record {
  bytes = t.bytes;
  took = of_name _ _ _ _ _ _ t.bytes c.in-Ok.ensures.chosen c.in-Ok.ensures.gives_nothing t.took;
  at_most = t.at_most;
}

pub returns-clause-before_memory : goal.returns-clause-before_memory
returns-clause-before_memory g c = λ h. let t = c.chosen.ensures.before_memory h in
    inr (record { bytes = t.bytes; took = of_name _ _ _ _ _ _ t.bytes c.in-Ok.ensures.chosen c.in-Ok.ensures.gives_nothing t.took; at_most = t.at_most })
