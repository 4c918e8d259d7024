-- The machine of one number reads exactly what its grammar says.
-- To cite: number_machine. The rest are steps.
use Rattle.std.proofs.Common.{◌≡◌, ℕ, Bool, true, false, nat_le, List, [], ◌∷◌, refl, sym, ap, ◌∙◌, ◌⊎◌, inl, inr, bytes_eq, arith, if◌then◌else◌}
use Rattle.gf_text.specs.declared.error.Cause.{Cause}
use Rattle.gf_text.specs.declared.error.Cause.TheVariants.{Ended, Unexpected, TooWide}
use Rattle.gf_text.specs.Machine.{Move, go, done, halt, after, followed}
use Rattle.gf_text.specs.Tokens.{is_number, decimal_value}
use Rattle.gf_text.proofs.MachineLaws.{after-go, after-done, not_yet, IsMachineOf}
use Rattle.gf_text.proofs.SetTokensLaws.{is_mark, le_from, le_test}
use Rattle.gf_fan_files.specs.Lines.{line_end, section_end}
use Rattle.gf_fan_files.specs.ConeText.{most_number}
use Rattle.gf_fan_files.specs.declared.numbers.NumberState.{NumberState}
use Rattle.gf_fan_files.specs.declared.numbers.NumberState.TheVariants.{Unread, Read, Finished}
use Rattle.gf_fan_files.specs.NumberText.{IsOneNumberText, number_step}

abbrev Texts : Type 0
Texts = List (List ℕ)

abbrev NumberMove : Type 0
NumberMove = Move NumberState ℕ

abbrev goes : NumberState → NumberMove
goes s = go s

abbrev stops : Cause → NumberMove
stops cause = halt cause

abbrev ends : ℕ → NumberMove
ends n = done n

abbrev Then : NumberMove → Texts → ℕ → Type 0
Then m ts n = followed m ts (λ u. after number_step u ts) ≡ done n

abbrev From : NumberState → Texts → ℕ → Type 0
From s ts n = after number_step s ts ≡ done n

move : (s : NumberState) (t : List ℕ) (ts : Texts) (n : ℕ) → From s (t ∷ ts) n → Then (number_step s t) ts n
unfolding after
move s t ts n e = e

chosen : (b : Bool) (x y : NumberMove) (ts : Texts) (n : ℕ) → Then (if b then x else y) ts n → ((b ≡ true) × Then x ts n) ⊎ ((b ≡ false) × Then y ts n)
chosen true x y ts n e = inl (refl, e)
chosen false x y ts n e = inr (refl, e)

halted : {X : Type 0} (cause : Cause) (ts : Texts) (n : ℕ) → Then (halt cause) ts n → X
halted cause ts n e = cc

ended : (m : ℕ) (ts : Texts) (n : ℕ) → Then (done m) ts n → (ts ≡ []) × (n ≡ m)
ended m [] n e = (refl, cc)
ended m (t ∷ ts) n e = cc

finished_said : (m : ℕ) (ts : Texts) (n : ℕ) → From (Finished m) ts n → (ts ≡ section_end ∷ []) × (n ≡ m)
finished_said m [] n e = absurd (not_yet number_step (Finished m) n e)
finished_said m (t ∷ ts) n e = elim (chosen (bytes_eq t section_end) (ends m) (stops Unexpected) ts n (move (Finished m) t ts n e)) [
  | inl h ↦ (let end = ended m ts n h.1 in (ap (λ x. x ∷ ts) (is_mark t section_end h.0) ∙ ap (λ l. section_end ∷ l) end.0, end.1))
  | inr h ↦ halted Unexpected ts n h.1
]

read_said : (m : ℕ) (ts : Texts) (n : ℕ) → From (Read m) ts n → (ts ≡ line_end ∷ section_end ∷ []) × (n ≡ m)
read_said m [] n e = absurd (not_yet number_step (Read m) n e)
read_said m (t ∷ ts) n e = elim (chosen (bytes_eq t line_end) (goes (Finished m)) (stops Unexpected) ts n (move (Read m) t ts n e)) [
  | inl h ↦ (let later = finished_said m ts n h.1 in (ap (λ x. x ∷ ts) (is_mark t line_end h.0) ∙ ap (λ l. line_end ∷ l) later.0, later.1))
  | inr h ↦ halted Unexpected ts n h.1
]

number_said : (ts : Texts) (n : ℕ) → From Unread ts n → IsOneNumberText ts n
number_said [] n e = absurd (not_yet number_step Unread n e)
number_said (t ∷ ts) n e =
    let number = if nat_le (decimal_value t) most_number then goes (Read (decimal_value t)) else stops TooWide in
    elim (chosen (is_number t) number (stops Unexpected) ts n (move Unread t ts n e)) [
      | inr h ↦ halted Unexpected ts n h.1
      | inl h ↦ elim (chosen (nat_le (decimal_value t) most_number) (goes (Read (decimal_value t))) (stops TooWide) ts n h.1) [
        | inr k ↦ halted TooWide ts n k.1
        | inl k ↦ (
            let later = read_said (decimal_value t) ts n k.1 in
            let is = later.1 in
            let within = le_from (decimal_value t) most_number k.0 in
            (t, ap (λ l. t ∷ l) later.0, (h.0, sym is, omega arith))
            )
      ]
    ]

number_given : (ts : Texts) (n : ℕ) → IsOneNumberText ts n → From Unread ts n
number_given ts n (t, is, (digits, same, small)) =
    let within = le_test (decimal_value t) most_number (omega arith) in
    let here : number_step Unread t ≡ goes (Read (decimal_value t)) = rw (digits, within) refl in
    ap (after number_step Unread) is
    ∙ after-go number_step Unread (Read n) t (line_end ∷ section_end ∷ []) (here ∙ ap (λ k. goes (Read k)) same)
    ∙ after-go number_step (Read n) (Finished n) line_end (section_end ∷ []) refl
    ∙ after-done number_step (Finished n) n section_end refl

abbrev Live : NumberState → Type 0
Live s = (ts : Texts) × (n : ℕ) × From s ts n

by_token : (s u : NumberState) (t : List ℕ) → number_step s t ≡ goes u → Live u → Live s
by_token s u t on l = (t ∷ l.0, l.1, after-go number_step s u t l.0 on ∙ l.2)

finished_live : (n : ℕ) → Live (Finished n)
finished_live n = (section_end ∷ [], n, after-done number_step (Finished n) n section_end refl)

read_live : (n : ℕ) → Live (Read n)
read_live n = by_token (Read n) (Finished n) line_end refl (finished_live n)

is_live : (s : NumberState) → Live s
is_live Unread = by_token Unread (Read 1) (49 ∷ []) refl (read_live 1)
is_live (Read n) = read_live n
is_live (Finished n) = finished_live n

abbrev IsNoEnd : NumberMove → Type 0
IsNoEnd m = m ≡ halt Ended → ⊥

either : (b : Bool) (x y : NumberMove) → IsNoEnd x → IsNoEnd y → IsNoEnd (if b then x else y)
either true x y h k = h
either false x y h k = k

no_end : (s : NumberState) (t : List ℕ) → IsNoEnd (number_step s t)
no_end Unread t = either (is_number t) (if nat_le (decimal_value t) most_number then goes (Read (decimal_value t)) else stops TooWide) (stops Unexpected)
    (either (nat_le (decimal_value t) most_number) (goes (Read (decimal_value t))) (stops TooWide) (λ e. cc) (λ e. cc)) (λ e. cc)
no_end (Read n) t = either (bytes_eq t line_end) (goes (Finished n)) (stops Unexpected) (λ e. cc) (λ e. cc)
no_end (Finished n) t = either (bytes_eq t section_end) (ends n) (stops Unexpected) (λ e. cc) (λ e. cc)

-- the machine reads exactly the grammar
pub number_machine : IsMachineOf number_step Unread IsOneNumberText
number_machine = record { said = number_said; given = number_given; live = is_live; tells = no_end }
