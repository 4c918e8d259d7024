-- What machines read: turn by turn, and against what they do at the texts of tokens.
-- To cite: run_go, run_done, run_halt, run_ended for a loop; reads, is_read for grammars; failed, IsMachineOf with fault, no_text, caused for refusals,
-- IsTaken, taken_follows, never for their kinds;
-- after-go, after-done, after-++, first, not_yet; Then, From, move, chosen, halted, ended for what follows a move. The rest are steps.
use Rattle.std.proofs.Common.{◌≡◌, ℕ, Bool, true, false, if◌then◌else◌, Result, Ok, Err, List, [], ◌∷◌, ◌++◌, refl, sym, ap, ◌∙◌, subst, ◌⊎◌, inl, inr}
use Rattle.std.proofs.Common.{append_assoc, append-nil}
use Rattle.gf_text.specs.declared.error.Cause.{Cause}
use Rattle.gf_text.specs.declared.error.Cause.TheVariants.{Ended, Unexpected, RepeatedName, ZeroDenominator, TooWide, UnknownName}
use Rattle.gf_text.specs.declared.error.TextError.{TextError}
use Rattle.gf_text.specs.Machine.{Lexeme, behind, texts, behind_all, Move, go, done, halt, Fault, moved, run, followed, after, Reads, GoesOnToText, StandsAt}
use Rattle.gf_text.specs.Machine.{IsFaultAt, IsFault, HasOneMeaning}
use Rattle.gf_text.specs.Kinds.{MayFollow}
use Rattle.gf_text.specs.Given.{IsRefusedAs, Fails, IsNoText}
use Rattle.gf_text.specs.Refusing.{refusal_at}

module _ {S A : Type 0} (step : S → List ℕ → Move S A) where
  -- ---- one turn of a loop, whose next token is x

  run_at : (s : S) (end : ℕ) (all : List Lexeme) (x : Lexeme) (xs : List Lexeme) (m : Move S A) → all ≡ x ∷ xs → step s x.text ≡ m →
      run step s end all ≡ moved m x (λ t. run step t end xs)
  unfolding run
  run_at s end all x xs m tokens e = ap (run step s end) tokens ∙ ap (λ y. moved y x (λ t. run step t end xs)) e

  pub run_go : (s t : S) (end : ℕ) (all : List Lexeme) (x : Lexeme) (xs : List Lexeme) → all ≡ x ∷ xs → step s x.text ≡ go t →
      run step s end all ≡ run step t end xs
  run_go s t end all x xs tokens e = run_at s end all x xs (go t) tokens e

  pub run_done : (s : S) (a : A) (end : ℕ) (all : List Lexeme) (x : Lexeme) (xs : List Lexeme) → all ≡ x ∷ xs → step s x.text ≡ done a →
      run step s end all ≡ Ok (a, behind x)
  run_done s a end all x xs tokens e = run_at s end all x xs (done a) tokens e

  pub run_halt : (s : S) (cause : Cause) (end : ℕ) (all : List Lexeme) (x : Lexeme) (xs : List Lexeme) → all ≡ x ∷ xs → step s x.text ≡ halt cause →
      run step s end all ≡ Err (record { at = x.at; cause = cause })
  run_halt s cause end all x xs tokens e = run_at s end all x xs (halt cause) tokens e

  pub run_ended : (s : S) (end : ℕ) (all : List Lexeme) → all ≡ [] → run step s end all ≡ Err (record { at = end; cause = Ended })
  unfolding run
  run_ended s end all tokens = ap (run step s end) tokens

  -- ---- what a machine does at tokens, one after another

  pub after-go : (s t : S) (x : List ℕ) (xs : List (List ℕ)) → step s x ≡ go t → after step s (x ∷ xs) ≡ after step t xs
  unfolding after
  after-go s t x xs e = ap (λ m. followed m xs (λ u. after step u xs)) e

  pub after-none : (s : S) → after step s [] ≡ go s
  unfolding after
  after-none s = refl

  after-halt : (s : S) (cause : Cause) (x : List ℕ) (xs : List (List ℕ)) → step s x ≡ halt cause → after step s (x ∷ xs) ≡ halt cause
  unfolding after
  after-halt s cause x xs e = ap (λ m. followed m xs (λ u. after step u xs)) e

  pub after-done : (s : S) (a : A) (x : List ℕ) → step s x ≡ done a → after step s (x ∷ []) ≡ done a
  unfolding after
  after-done s a x e = ap (λ m. followed m [] (λ u. after step u [])) e

  -- what is read first, and then
  then_by : (m : Move S A) (xs ys : List (List ℕ)) (t : S) → ((u : S) → after step u xs ≡ go t → after step u (xs ++ ys) ≡ after step t ys)
      → followed m xs (λ u. after step u xs) ≡ go t → followed m (xs ++ ys) (λ u. after step u (xs ++ ys)) ≡ after step t ys
  then_by (go u) xs ys t later e = later u e
  then_by (done a) [] ys t later e = cc
  then_by (done a) (x ∷ xs) ys t later e = cc
  then_by (halt cause) xs ys t later e = cc

  pub after-++ : (s t : S) (xs ys : List (List ℕ)) → after step s xs ≡ go t → after step s (xs ++ ys) ≡ after step t ys
  unfolding after
  after-++ s t [] ys e = let same : s ≡ t = cc in ap (λ u. after step u ys) same
  after-++ s t (x ∷ xs) ys e = then_by (step s x) xs ys t (λ u f. after-++ u t xs ys f) e

  -- what happens at the first token where the machine is done in the end
  first_by : (m : Move S A) (xs : List (List ℕ)) (a : A) → followed m xs (λ u. after step u xs) ≡ done a
      → ((u : S) × (m ≡ go u) × (after step u xs ≡ done a)) ⊎ ((m ≡ done a) × (xs ≡ []))
  first_by (go u) xs a e = inl (u, refl, e)
  first_by (done b) [] a e = inr (e, refl)
  first_by (done b) (x ∷ xs) a e = cc
  first_by (halt cause) xs a e = cc

  pub first : (s : S) (x : List ℕ) (xs : List (List ℕ)) (a : A) → after step s (x ∷ xs) ≡ done a
      → ((u : S) × (step s x ≡ go u) × (after step u xs ≡ done a)) ⊎ ((step s x ≡ done a) × (xs ≡ []))
  unfolding after
  first s x xs a e = first_by (step s x) xs a e

  pub not_yet : (s : S) (a : A) → after step s [] ≡ done a → ⊥
  unfolding after
  not_yet s a e = cc

  -- ---- a move, and what follows it

  -- behind this move these tokens are read, and this
  abbrev pub Then : Move S A → List (List ℕ) → A → Type 0
  Then m ts all = followed m ts (λ u. after step u ts) ≡ done all

  -- what is read from a state on
  abbrev pub From : S → List (List ℕ) → A → Type 0
  From s ts all = after step s ts ≡ done all

  pub move : (s : S) (t : List ℕ) (ts : List (List ℕ)) (all : A) → From s (t ∷ ts) all → Then (step s t) ts all
  unfolding after
  move s t ts all e = e

  pub chosen : (b : Bool) (x y : Move S A) (ts : List (List ℕ)) (all : A) → Then (if b then x else y) ts all →
      ((b ≡ true) × Then x ts all) ⊎ ((b ≡ false) × Then y ts all)
  chosen true x y ts all e = inl (refl, e)
  chosen false x y ts all e = inr (refl, e)

  pub halted : {X : Type 0} (cause : Cause) (ts : List (List ℕ)) (all : A) → Then (halt cause) ts all → X
  halted cause ts all e = cc

  pub ended : (a : A) (ts : List (List ℕ)) (all : A) → Then (done a) ts all → (ts ≡ []) × (all ≡ a)
  ended a [] all e = (refl, cc)
  ended a (t ∷ ts) all e = cc

  -- ---- the machine reads exactly what it is done with

  read_by : (m : Move S A) (x : Lexeme) (front back : List Lexeme) (a : A) (end : ℕ)
      → ((t : S) → after step t (texts front) ≡ done a → run step t end (front ++ back) ≡ Ok (a, behind_all (behind x) front))
      → followed m (texts front) (λ t. after step t (texts front)) ≡ done a
      → moved m x (λ t. run step t end (front ++ back)) ≡ Ok (a, behind_all (behind x) front)
  read_by (go t) x front back a end later e = later t e
  read_by (done b) x [] back a end later e = let same : b ≡ a = cc in ap (λ c. Ok (c, behind x)) same
  read_by (done b) x (y ∷ front) back a end later e = cc
  read_by (halt cause) x front back a end later e = cc

  -- tokens with which the machine is done are read, whatever follows them
  pub read : (s : S) (d end : ℕ) (front back : List Lexeme) (a : A) → after step s (texts front) ≡ done a →
      run step s end (front ++ back) ≡ Ok (a, behind_all d front)
  unfolding run after
  read s d end [] back a e = cc
  read s d end (x ∷ front) back a e = read_by (step s x.text) x front back a end (λ t f. read t (behind x) end front back a f) e

  -- the tokens that were read
  pub record Taken (s : S) (d : ℕ) (xs : List Lexeme) (a : A) (place : ℕ) : Type 0 where
    pub front : List Lexeme
    pub back : List Lexeme
    pub whole : xs ≡ front ++ back
    pub text : after step s (texts front) ≡ done a
    pub end : behind_all d front ≡ place

  taken_by : (s : S) (m : Move S A) (d : ℕ) (x : Lexeme) (xs : List Lexeme) (a : A) (end place : ℕ) → step s x.text ≡ m
      → ((t : S) → run step t end xs ≡ Ok (a, place) → Taken t (behind x) xs a place)
      → moved m x (λ t. run step t end xs) ≡ Ok (a, place) → Taken s d (x ∷ xs) a place
  taken_by s (go t) d x xs a end place is later e =
      let r = later t e in
      record {
        front = x ∷ r.front;
        back = r.back;
        whole = ap (λ l. x ∷ l) r.whole;
        text = after-go s t x.text (texts r.front) is ∙ r.text;
        end = r.end;
      }
  taken_by s (done b) d x xs a end place is later e =
      let got : A × ℕ = (b, behind x) in
      let wanted : A × ℕ = (a, place) in
      let pair : got ≡ wanted = cc in
      record {
        front = x ∷ [];
        back = xs;
        whole = refl;
        text = after-done s b x.text is ∙ ap (λ p. done (p.0)) pair;
        end = ap (λ p. p.1) pair;
      }
  taken_by s (halt cause) d x xs a end place is later e = cc

  pub taken : (s : S) (d end : ℕ) (xs : List Lexeme) (a : A) (place : ℕ) → run step s end xs ≡ Ok (a, place) → Taken s d xs a place
  unfolding run
  taken s d end [] a place e = cc
  taken s d end (x ∷ xs) a place e = taken_by s (step s x.text) d x xs a end place refl (λ t f. taken t (behind x) end xs a place f) e

  -- ---- grammars

  -- Where a grammar says what the machine is done with, what is read is what the grammar says.
  pub reads : (grammar : List (List ℕ) → A → Type 0) (s : S) (end : ℕ) (xs : List Lexeme) (a : A) (place : ℕ)
      → ((ts : List (List ℕ)) → after step s ts ≡ done a → grammar ts a) → run step s end xs ≡ Ok (a, place) → Reads grammar xs a place
  reads grammar s end xs a place said e =
      let r = taken s 0 end xs a place e in
      record { front = r.front; back = r.back; whole = r.whole; text = said (texts r.front) r.text; end = r.end }

  pub is_read : (grammar : List (List ℕ) → A → Type 0) (s : S) (end : ℕ) (xs : List Lexeme) (a : A) (place : ℕ)
      → ((ts : List (List ℕ)) → grammar ts a → after step s ts ≡ done a) → Reads grammar xs a place → run step s end xs ≡ Ok (a, place)
  is_read grammar s end xs a place said r =
      ap (run step s end) r.whole ∙ read s 0 end r.front r.back a (said (texts r.front) r.text) ∙ ap (λ n. Ok (a, n)) r.end

  -- a grammar whose texts the machine reads gives tokens at most one meaning
  pub one_meaning : (grammar : List (List ℕ) → A → Type 0) (s : S) → ((ts : List (List ℕ)) (a : A) → grammar ts a → after step s ts ≡ done a) →
      HasOneMeaning grammar
  one_meaning grammar s said xs a b place other first second =
      let one = is_read grammar s 0 xs a place (λ ts. said ts a) first in
      let two = is_read grammar s 0 xs b other (λ ts. said ts b) second in
      let got : A × ℕ = (a, place) in
      let again : A × ℕ = (b, other) in
      let pair : got ≡ again = cc in
      (ap (λ p. p.0) pair, ap (λ p. p.1) pair)

  -- ---- where reading stops

  -- the machine goes on at tokens of the front, and can't take the next one
  pub record Halted (s : S) (xs : List Lexeme) (f : Fault) : Type 0 where
    pub front : List Lexeme
    pub token : Lexeme
    pub back : List Lexeme
    pub state : S
    pub whole : xs ≡ front ++ token ∷ back
    pub reached : after step s (texts front) ≡ go state
    pub halts : step state token.text ≡ halt f.cause
    pub at : token.at ≡ f.at

  -- the machine goes on at all tokens
  pub record Unfinished (s : S) (xs : List Lexeme) (end : ℕ) (f : Fault) : Type 0 where
    pub state : S
    pub reached : after step s (texts xs) ≡ go state
    pub fault : f ≡ record { at = end; cause = Ended }

  stopped_by : (s : S) (m : Move S A) (x : Lexeme) (xs : List Lexeme) (end : ℕ) (f : Fault) → step s x.text ≡ m
      → ((t : S) → run step t end xs ≡ Err f → Halted t xs f ⊎ Unfinished t xs end f)
      → moved m x (λ t. run step t end xs) ≡ Err f → Halted s (x ∷ xs) f ⊎ Unfinished s (x ∷ xs) end f
  stopped_by s (go t) x xs end f is later e = elim (later t e) [
    | inl h ↦ inl (record {
      front = x ∷ h.front;
      token = h.token;
      back = h.back;
      state = h.state;
      whole = ap (λ l. x ∷ l) h.whole;
      reached = after-go s t x.text (texts h.front) is ∙ h.reached;
      halts = h.halts;
      at = h.at;
    })
    | inr u ↦ inr (record { state = u.state; reached = after-go s t x.text (texts xs) is ∙ u.reached; fault = u.fault })
  ]
  stopped_by s (done a) x xs end f is later e = cc
  stopped_by s (halt cause) x xs end f is later e =
      let got : Fault = record { at = x.at; cause = cause } in
      let same : got ≡ f = cc in
      inl (record {
        front = [];
        token = x;
        back = xs;
        state = s;
        whole = refl;
        reached = after-none s;
        halts = is ∙ ap (λ g. halt (g.cause)) same;
        at = ap (λ g. g.at) same;
      })

  pub stopped : (s : S) (end : ℕ) (xs : List Lexeme) (f : Fault) → run step s end xs ≡ Err f → Halted s xs f ⊎ Unfinished s xs end f
  unfolding run
  stopped s end [] f e =
      let got : Fault = record { at = end; cause = Ended } in
      let same : got ≡ f = cc in
      inr (record { state = s; reached = after-none s; fault = sym same })
  stopped s end (x ∷ xs) f e = stopped_by s (step s x.text) x xs end f refl (λ t g. stopped t end xs f g) e

  -- a fault's cause is the end of the text, or what the machine halts with at a token
  pub caused : (P : Cause → Type 0) → P Ended → ((u : S) (t : List ℕ) (cause : Cause) → step u t ≡ halt cause → P cause)
      → (s : S) (end : ℕ) (xs : List Lexeme) (f : Fault) → run step s end xs ≡ Err f → P f.cause
  caused P at_end at_token s end xs f e = elim (stopped s end xs f e) [
    | inl h ↦ at_token h.state h.token.text f.cause h.halts
    | inr u ↦ subst (λ (g : Fault). P g.cause) (sym u.fault) at_end
  ]

-- the move takes the token
abbrev pub IsTaken : {S A : Type 0} → Move S A → Type 0
IsTaken (go s) = Unit {0}
IsTaken (done a) = Unit {0}
IsTaken (halt cause) = ⊥

-- The machine, begun in this state, is done with exactly the texts of the grammar; from each state it gets done with some
-- tokens, and at no token it says that the text has ended.
pub record IsMachineOf {S A : Type 0} (step : S → List ℕ → Move S A) (start : S) (grammar : List (List ℕ) → A → Type 0) : Type 0 where
  pub said : (ts : List (List ℕ)) (a : A) → after step start ts ≡ done a → grammar ts a
  pub given : (ts : List (List ℕ)) (a : A) → grammar ts a → after step start ts ≡ done a
  pub live : (s : S) → (ts : List (List ℕ)) × (a : A) × (after step s ts ≡ done a)
  pub tells : (s : S) (t : List ℕ) → step s t ≡ halt Ended → ⊥

module _ {S A : Type 0} {step : S → List ℕ → Move S A} {start : S} {grammar : List (List ℕ) → A → Type 0} (is : IsMachineOf step start grammar) where
  -- tokens at which the machine goes on go on to a text
  pub goes_on : (ts : List (List ℕ)) (s : S) → after step start ts ≡ go s → GoesOnToText grammar ts
  goes_on ts s e =
      let l = is.live s in
      (l.0, l.1, is.said (ts ++ l.0) l.1 (after-++ step start s ts l.0 e ∙ l.2))

  -- and with a token that it can't take they never do
  pub never : (ts : List (List ℕ)) (s : S) (t : List ℕ) (cause : Cause) → after step start ts ≡ go s → step s t ≡ halt cause →
      GoesOnToText grammar (ts ++ t ∷ []) → ⊥
  never ts s t cause e h g =
      let whole = is.given ((ts ++ t ∷ []) ++ g.0) g.1 g.2 in
      let stops = ap (after step start) (append_assoc ts (t ∷ []) g.0) ∙ after-++ step start s ts (t ∷ g.0) e ∙ after-halt step s cause t g.0 h in
      cc

  -- what the machine takes may follow, and what it can't take may not
  pub taken_follows : (ts : List (List ℕ)) (s : S) (t : List ℕ) → after step start ts ≡ go s → IsTaken (step s t) → MayFollow grammar ts t
  taken_follows ts s t e h = by (step s t) refl h
    where
      by : (m : Move S A) → step s t ≡ m → IsTaken m → MayFollow grammar ts t
      by (go u) on h = goes_on (ts ++ t ∷ []) u (after-++ step start s ts (t ∷ []) e ∙ after-go step s u t [] on ∙ after-none step u)
      by (done a) on h = (
        [],
        a,
        is.said ((ts ++ t ∷ []) ++ []) a (ap (after step start) (append-nil (ts ++ t ∷ [])) ∙ after-++ step start s ts (t ∷ []) e ∙
            after-done step s a t on),
      )
      by (halt cause) on h = absurd h

  -- where the machine stops, the fault is of this kind
  module _ (kind : List (List ℕ) → List ℕ → Cause → Type 0) (kinds : (ts : List (List ℕ)) (s : S) (t : List ℕ) (cause : Cause) → after step start ts ≡ go s →
      step s t ≡ halt cause → kind ts t cause) where
    stands_at : (xs : List Lexeme) (place : ℕ) (cause : Cause) (h : Halted step start xs (record { at = place; cause = cause })) →
        StandsAt grammar kind xs place cause
    stands_at xs place cause h = record {
      front = h.front;
      token = h.token;
      back = h.back;
      whole = h.whole;
      at = h.at;
      before = goes_on (texts h.front) h.state h.reached;
      never = never (texts h.front) h.state h.token.text cause h.reached h.halts;
      of_kind = kinds (texts h.front) h.state h.token.text cause h.reached h.halts;
    }

    halted_fault : (xs : List Lexeme) (end place : ℕ) (cause : Cause) → Halted step start xs (record { at = place; cause = cause }) →
        IsFaultAt grammar kind xs end place cause
    halted_fault xs end place Ended h = absurd (is.tells h.state h.token.text h.halts)
    halted_fault xs end place Unexpected h = stands_at xs place Unexpected h
    halted_fault xs end place RepeatedName h = stands_at xs place RepeatedName h
    halted_fault xs end place ZeroDenominator h = stands_at xs place ZeroDenominator h
    halted_fault xs end place TooWide h = stands_at xs place TooWide h
    halted_fault xs end place UnknownName h = stands_at xs place UnknownName h

    -- a fault stands at the first token after which nothing goes on, or at the end of a text that goes on
    pub fault : (end : ℕ) (xs : List Lexeme) (f : Fault) → run step start end xs ≡ Err f → IsFault grammar kind xs end f
    fault end xs f e = elim (stopped step start end xs f e) [
      | inl h ↦ halted_fault xs end f.at f.cause h
      | inr u ↦
          let P : Fault → Type 0 = λ g. IsFault grammar kind xs end g in
          subst P (sym u.fault) (refl, goes_on (texts xs) u.state u.reached)
    ]

    -- a text that the machine doesn't read is no text of the grammar
    pub no_text : (end : ℕ) (xs : List Lexeme) (e : TextError) → IsRefusedAs e (run step start end xs) → IsNoText grammar kind xs end e
    no_text end xs e refused = record {
      fault = refused.0;
      refused = refused.2;
      place = fault end xs refused.0 refused.1;
      none = λ a place r. (let read = is_read step grammar start end xs a place (λ ts. is.given ts a) r in let not_read = refused.1 in cc);
    }

-- a fault is refused as what it is
pub failed : {Y : Type 0} (read : Result Y Fault) (place : ℕ) (cause : Cause) → read ≡ Err (record { at = place; cause = cause }) →
    Fails (refusal_at place cause) read
failed read place Ended e = (record { at = place; cause = Ended }, e, refl)
failed read place Unexpected e = (record { at = place; cause = Unexpected }, e, refl)
failed read place RepeatedName e = (record { at = place; cause = RepeatedName }, e, refl)
failed read place ZeroDenominator e = (record { at = place; cause = ZeroDenominator }, e, refl)
failed read place TooWide e = (record { at = place; cause = TooWide }, e, refl)
failed read place UnknownName e = (record { at = place; cause = UnknownName }, e, refl)
