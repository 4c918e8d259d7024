-- Words that the table has a match for name one of its commands, each of whose options holds what it takes.
-- To cite: parsed_as, job_is, no_match, within_limits, choices_hold. The rest are steps.
use Rattle.std.proofs.Common.{◌≡◌, ◌≤◌, ℕ, Bool, true, false, not, ◌&&◌, ◌||◌, cond, List, [], ◌∷◌, ◌++◌, Option, Some, None, is_some, codes, map, inl, inr}
use Rattle.std.proofs.Common.{arith, refl, sym, ap, ◌∙◌, subst}
use Rattle.std.specs.Prelude.{min, option_map, option_and_then}
use Rattle.std.specs.List.{find, list_all, list_any}
use Rattle.std.specs.Str.{bytes_eq}
use Rattle.std.proofs.lemmas.Slice.Eq.{bytes_eq-Decides}
use Rattle.std.proofs.lemmas.Bool.{and_parts, or_parts}
use Rattle.clap.specs.declared.error.Error.{Error}
use Rattle.clap.specs.declared.error.kind.ErrorKind.TheVariants as kinds
use Rattle.clap.specs.Words.{App, kind_of, HasMatchesOf, Row, Rule, Shape, Text, built, fault_of, is_simple_and_free, subcommand_name_of, subcommand_rows_of}
use Rattle.clap.specs.declared.parser.matches.ArgMatches.{ArgMatches}
use Rattle.clap.specs.declared.parser.matches.ArgMatches.TheViews.{out-ArgMatches}
use Rattle.clap.specs.Facts.{explicit_source}
use Rattle.clap.specs.Takes.{is_given, value_passes}
use Rattle.clap.specs.ValueTests.{is_unsigned_in}
use Rattle.clap.specs.Kinds.{check_kinds, HasKind, IsAmong}
use Rattle.clap.specs.Walk.{answers_to, nothing_held, walk, rows_after}
use Rattle.clap.specs.Simple.{argument_words, built_leaf, entered, filled, filled_from, index_after, inherited, label_of, marked_built, names_of, with_index}
use Rattle.clap.specs.Simple.{with_leaf_noted}
use Rattle.clap.specs.Faults.{check_fault, entered_fault}
use Rattle.gf_front.specs.declared.command_line.Job.{Job}
use Rattle.gf_front.specs.declared.choice.Choice.{Choice}
use Rattle.gf_front.specs.declared.choice.Choice.TheVariants as choices
use Rattle.gf_front.specs.declared.plain.PlainCommand.{PlainCommand}
use Rattle.gf_front.specs.Table.{Entry, table, commands, with_options, plain_commands, rule, is_needed, shape, most_pairs, most_workers, most_ideal}
use Rattle.gf_front.specs.Table.{usual_pairs, number_of, buchberger, bases, plain, leading_terms, groebner_cone, weight_vector, to_polyhedral_fan}
use Rattle.gf_front.specs.Table.{tropical_intersection, fan_common_refinement, generated, saturation, interactive}
use Rattle.gf_front.specs.Jobs.{HasMatch, HasNumbersInRange, IsJobOfMatch, match_of, job_in, job_of}
use Rattle.gf_front.specs.Options.{HoldsChoice, HoldChoices, LiesBetween, NamesEntry, IsCommand}
use Rattle.gf_front.proofs.MatchLaws.{Enters, accepted, entered_rows, level_rows, rows_pass}
use Rattle.gf_front.proofs.OptionLaws.{is_flag, is_number, is_text, number_within, limit_within}

-- ---- the command

-- the table as clap builds it
abbrev program : App
program = built table

-- a command of it
abbrev as_built : Shape → Shape
as_built s = built_leaf (inherited (with_leaf_noted (marked_built table.top)) s)

second_check : (a b c : Bool) → check_kinds a b c ≡ [] → b ≡ false
second_check true b c e = cc
second_check false true c e = cc
second_check false false c e = refl

-- a command that wants a subcommand has one
wanted : (s : Shape) (rows : List Row) (has : Bool) → check_fault s rows has ≡ [] → (not has && s.subcommand_required) ≡ false
wanted s rows has e =
    second_check (not has && (s.arg_required_else_help && not (list_any (λ (r : Row). explicit_source r.source) rows))) (not has && s.subcommand_required)
    (not (s.subcommand_negates_reqs && has) && list_any (λ (a : Rule). a.required && not (is_given a.id rows)) s.rules) e

some_of : {X : Type 0} (o : Option X) → (not (is_some o) && true) ≡ false → (x : X) × (o ≡ Some x)
some_of None e = cc
some_of (Some x) e = (x, refl)

third_check : (a b c : Bool) → check_kinds a b c ≡ [] → c ≡ false
third_check true b c e = cc
third_check false true c e = cc
third_check false false true e = cc
third_check false false false e = refl

-- an option without which the command isn't taken is missing
abbrev lacks : List Rule → List Row → Bool
lacks rules rows = list_any (λ (a : Rule). a.required && not (is_given a.id rows)) rules

none_lacks : (s : Shape) (rows : List Row) → check_fault s rows false ≡ [] → lacks s.rules rows ≡ false
none_lacks s rows e =
    by s.subcommand_negates_reqs
    (third_check (true && (s.arg_required_else_help && not (list_any (λ (r : Row). explicit_source r.source) rows))) (true && s.subcommand_required)
    (not (s.subcommand_negates_reqs && false) && lacks s.rules rows) e)
  where
    by : (b : Bool) → (not (b && false) && lacks s.rules rows) ≡ false → lacks s.rules rows ≡ false
    by true h = h
    by false h = h

-- ---- tests

own_name : (b rest : Bool) → (not b && rest) ≡ true → (b ≡ false) × (rest ≡ true)
own_name true rest e = cc
own_name false rest e = (refl, e)

-- ---- the options of a command

-- an option with its name, as clap has it in a command that is built
abbrev listed_rule : Text × Choice → Rule
listed_rule o = rule o.0 o.1

abbrev built_from : ℕ → List (Text × Choice) → List Rule
built_from i os = filled_from i (map listed_rule os)

-- an option of this name is one of these
abbrev is_named : Text → List (Text × Choice) → Bool
is_named id os = list_any (λ (o : Text × Choice). bytes_eq o.0 id) os

-- no two have one name
abbrev are_apart : List (Text × Choice) → Bool
are_apart [] = true
are_apart (o ∷ os) = not (is_named o.0 os) && are_apart os

-- the text is a value of the option
abbrev takes : Choice → Text → Bool
takes (choices.Letter letter) v = bytes_eq v (codes "true") || bytes_eq v (codes "false")
takes choices.Flag v = bytes_eq v (codes "true") || bytes_eq v (codes "false")
takes (choices.Number least most) v = is_unsigned_in least (min most 9223372036854775807) v
takes (choices.BareNumber least most) v = is_unsigned_in least (min most 9223372036854775807) v
takes _ v = true

passes_as : (i : ℕ) (id : Text) (o : Choice) (v : Text) → value_passes (with_index i (filled (rule id o))) v ≡ takes o v
passes_as i id (choices.Letter letter) v = refl
passes_as i id choices.Flag v = refl
passes_as i id (choices.Number least most) v = refl
passes_as i id choices.File v = refl
passes_as i id choices.NeededFile v = refl
passes_as i id (choices.BareNumber least most) v = refl
passes_as i id choices.BareFile v = refl

-- options of other names take nothing
none_takes : (os : List (Text × Choice)) (i : ℕ) (id v : Text) → is_named id os ≡ false → accepted (built_from i os) id v ≡ false
none_takes [] i id v none = refl
none_takes (o ∷ os) i id v none = by (bytes_eq o.0 id) none (none_takes os (index_after i (filled (listed_rule o))) id v)
  where
    by : (b : Bool) → (b || is_named id os) ≡ false → (is_named id os ≡ false → accepted (built_from (index_after i (filled (listed_rule o))) os) id v ≡ false)
        → ((b && value_passes (with_index i (filled (listed_rule o))) v) || accepted (built_from (index_after i (filled (listed_rule o))) os) id v) ≡ false
    by true n later = cc
    by false n later = later n

-- the option is one of these
data IsOneOf (o : Text × Choice) : List (Text × Choice) → Type 0 where
  at_head : (os : List (Text × Choice)) → IsOneOf o (o ∷ os)
  behind : (x : Text × Choice) (os : List (Text × Choice)) → IsOneOf o os → IsOneOf o (x ∷ os)

named_so : (o : Text × Choice) (os : List (Text × Choice)) → IsOneOf o os → is_named o.0 os ≡ true
named_so o _ (IsOneOf.at_head os) = by (bytes_eq o.0 o.0) ((bytes_eq-Decides o.0 o.0).1 refl)
  where
    by : (b : Bool) → b ≡ true → (b || is_named o.0 os) ≡ true
    by true e = refl
    by false e = cc
named_so o _ (IsOneOf.behind x os is) = by (bytes_eq x.0 o.0) (named_so o os is)
  where
    by : (b : Bool) → is_named o.0 os ≡ true → (b || is_named o.0 os) ≡ true
    by true e = refl
    by false e = e

-- a value that is accepted for it is one of its own
own_value : (o : Text × Choice) (v : Text) (os : List (Text × Choice)) (i : ℕ) → are_apart os ≡ true → IsOneOf o os → accepted (built_from i os) o.0 v ≡ true →
    takes o.1 v ≡ true
own_value o v _ i apart (IsOneOf.at_head os) is =
    by (bytes_eq o.0 o.0) (value_passes (with_index i (filled (listed_rule o))) v) (accepted (built_from (index_after i (filled (listed_rule o))) os) o.0 v)
    (none_takes os (index_after i (filled (listed_rule o))) o.0 v (own_name (is_named o.0 os) (are_apart os) apart).0) (passes_as i o.0 o.1 v) is
  where
    by : (b p q : Bool) → q ≡ false → p ≡ takes o.1 v → ((b && p) || q) ≡ true → takes o.1 v ≡ true
    by true true q n e h = sym e
    by true false q n e h = cc
    by false p q n e h = cc
own_value o v _ i apart (IsOneOf.behind x os among) is =
    let p = own_name (is_named x.0 os) (are_apart os) apart in
    by (bytes_eq x.0 o.0) refl p.0 is (own_value o v os (index_after i (filled (listed_rule x))) p.1 among)
  where
    by : (b : Bool) → bytes_eq x.0 o.0 ≡ b → is_named x.0 os ≡ false
        → ((b && value_passes (with_index i (filled (listed_rule x))) v) || accepted (built_from (index_after i (filled (listed_rule x))) os) o.0 v) ≡ true
        → (accepted (built_from (index_after i (filled (listed_rule x))) os) o.0 v ≡ true → takes o.1 v ≡ true) → takes o.1 v ≡ true
    by false eq other h rest = rest h
    by true eq other h rest =
        let same = (bytes_eq-Decides x.0 o.0).0 eq in
        let here = subst (λ (n : Text). is_named n os ≡ false) same other in
        let yes = named_so o os among in
        let none : false ≡ true = sym here ∙ yes in
        cc

-- a needed option is there
needed_there : (needed given : Bool) → needed ≡ true → (needed && not given) ≡ false → given ≡ true
needed_there true true n e = refl
needed_there true false n e = cc
needed_there false given n e = cc

-- the rows hold what the option takes
choice_held : (c : List Rule) (id : Text) (o : Choice) (rows : List Row) → ((v : Text) → accepted c id v ≡ true → takes o v ≡ true) → rows_pass c rows ≡ true →
    (is_needed o && not (is_given id rows)) ≡ false
    → HoldsChoice id o rows
choice_held c id (choices.Letter letter) rows own ok there = is_flag c id rows own ok
choice_held c id choices.Flag rows own ok there = is_flag c id rows own ok
choice_held c id (choices.Number least most) rows own ok there = is_number c id least most rows own ok
choice_held c id choices.File rows own ok there = tt
choice_held c id choices.NeededFile rows own ok there = is_text c id rows ok (needed_there true (is_given id rows) refl there)
choice_held c id (choices.BareNumber least most) rows own ok there =
    (is_number c id least most rows own ok, is_text c id rows ok (needed_there true (is_given id rows) refl there))
choice_held c id choices.BareFile rows own ok there = is_text c id rows ok (needed_there true (is_given id rows) refl there)

choices_held : (c : List Rule) (os : List (Text × Choice)) (i : ℕ) (rows : List Row) → ((o : Text × Choice) → IsOneOf o os → (v : Text) →
    accepted c o.0 v ≡ true → takes o.1 v ≡ true)
    → rows_pass c rows ≡ true → lacks (built_from i os) rows ≡ false → HoldChoices os rows
choices_held c [] i rows own ok there = tt
choices_held c (o ∷ os) i rows own ok there =
    let p = or_parts (is_needed o.1 && not (is_given o.0 rows)) (lacks (built_from (index_after i (filled (listed_rule o))) os) rows) there in (
      choice_held c o.0 o.1 rows (own o (IsOneOf.at_head os)) ok p.0,
      choices_held c os (index_after i (filled (listed_rule o))) rows (λ x among. own x (IsOneOf.behind o os among)) ok p.1,
    )

-- the options of a command hold what they take
options_held : (os : List (Text × Choice)) (rows : List Row) → are_apart os ≡ true → rows_pass (built_from 1 os) rows ≡ true →
    lacks (built_from 1 os) rows ≡ false → HoldChoices os rows
options_held os rows apart ok there = choices_held (built_from 1 os) os 1 rows (λ o among v. own_value o v os 1 apart among) ok there

-- ---- entries

-- what an entry promises: the numbers of its job are in their ranges
KeepsRanges : Entry → Type 0
KeepsRanges e = (rows : List Row) → HoldChoices e.options rows → HasNumbersInRange (e.job rows)

AllKeepRanges : List Entry → Type 0
AllKeepRanges [] = Unit {0}
AllKeepRanges (e ∷ es) = KeepsRanges e × AllKeepRanges es

-- the options of each have names of their own
abbrev have_options_apart : List Entry → Bool
have_options_apart es = list_all (λ (e : Entry). are_apart e.options) es

-- no later entry has the name of an entry
abbrev have_own_names : List Entry → Bool
have_own_names [] = true
have_own_names (e ∷ es) = not (list_any (λ (f : Entry). bytes_eq e.name f.name) es) && have_own_names es

-- the command that is found is one of the entries
entry_found : (es : List Entry) (p : Shape → Bool) (m : Text × List Row) (s : Shape) → have_options_apart es ≡ true →
    find p (map (λ e. as_built (shape e)) es) ≡ Some s → m.0 ≡ s.name
    → rows_pass s.rules m.1 ≡ true → lacks s.rules m.1 ≡ false → NamesEntry es m
entry_found [] p m s apart found name rows there = cc
entry_found (e ∷ es) p m s apart found name rows there = by (p (as_built (shape e))) found (λ rest. entry_found es p m s each.1 rest name rows there)
  where
    each : (are_apart e.options ≡ true) × (have_options_apart es ≡ true)
    each = and_parts (are_apart e.options) (have_options_apart es) apart

    by : (b : Bool) → cond b (Some (as_built (shape e))) (find p (map (λ f. as_built (shape f)) es)) ≡ Some s →
        (find p (map (λ f. as_built (shape f)) es) ≡ Some s → NamesEntry es m) → NamesEntry (e ∷ es) m
    by true here later =
        let same : as_built (shape e) ≡ s = cc in
        let passing = subst (λ (z : Shape). rows_pass z.rules m.1 ≡ true) (sym same) rows in
        let given = subst (λ (z : Shape). lacks z.rules m.1 ≡ false) (sym same) there in
        inl (name ∙ ap (λ (z : Shape). z.name) (sym same), options_held e.options m.1 each.0 passing given)
    by false here later = inr (later here)

-- an entry of another name isn't the command
other_name : (es : List Entry) (name : Text) (m : Text × List Row) → list_any (λ (f : Entry). bytes_eq name f.name) es ≡ false → NamesEntry es m → m.0 ≡ name →
    ⊥
other_name [] name m d h e = h
other_name (f ∷ es) name m d (inl h) e =
    let yes = (bytes_eq-Decides name f.name).1 (sym e ∙ h.0) in
    let no = (or_parts (bytes_eq name f.name) (list_any (λ (g : Entry). bytes_eq name g.name) es) d).0 in
    let none : true ≡ false = sym yes ∙ no in
    cc
other_name (f ∷ es) name m d (inr h) e = other_name es name m (or_parts (bytes_eq name f.name) (list_any (λ (g : Entry). bytes_eq name g.name) es) d).1 h e

-- the numbers of its job are in their ranges
limits_of : (es : List Entry) (m : Text × List Row) (job : Job) → AllKeepRanges es → have_own_names es ≡ true → NamesEntry es m → job_in es m ≡ Some job →
    HasNumbersInRange job
unfolding AllKeepRanges KeepsRanges
limits_of [] m job sound own h is = absurd h
limits_of (e ∷ es) m job sound own h is = by (bytes_eq m.0 e.name) refl is (λ k later. limits_of es m job sound.1 p.1 k later)
  where
    p : (list_any (λ (f : Entry). bytes_eq e.name f.name) es ≡ false) × (have_own_names es ≡ true)
    p = own_name (list_any (λ (f : Entry). bytes_eq e.name f.name) es) (have_own_names es) own

    by : (b : Bool) → bytes_eq m.0 e.name ≡ b → cond b (Some (e.job m.1)) (job_in es m) ≡ Some job →
        (NamesEntry es m → job_in es m ≡ Some job → HasNumbersInRange job) → HasNumbersInRange job
    by true eq same later =
        let here : e.job m.1 ≡ job = cc in
        elim h [
          | inl k ↦ subst HasNumbersInRange here (sound.0 m.1 k.1)
          | inr k ↦ absurd (other_name es e.name m p.0 k ((bytes_eq-Decides m.0 e.name).0 eq))
        ]
    by false eq same later = elim h [
      | inl k ↦ absurd (let yes = (bytes_eq-Decides m.0 e.name).1 k.0 in let none : false ≡ true = sym eq ∙ yes in cc)
      | inr k ↦ later k same
    ]

pairs_within : (rows : List Row) → LiesBetween (codes "pairs") 1 most_pairs rows →
    (1 ≤ number_of (codes "pairs") usual_pairs rows) × (number_of (codes "pairs") usual_pairs rows ≤ most_pairs)
pairs_within rows is = number_within (codes "pairs") 1 most_pairs usual_pairs rows is (omega arith) (omega arith)

-- ---- each command

none_keep : AllKeepRanges []
unfolding AllKeepRanges
none_keep = tt

next : (e : Entry) (es : List Entry) → ((rows : List Row) → HoldChoices e.options rows → HasNumbersInRange (e.job rows)) → AllKeepRanges es →
    AllKeepRanges (e ∷ es)
unfolding AllKeepRanges KeepsRanges
next e es keeps rest = (keeps, rest)

buchberger_keeps : (rows : List Row) → HoldChoices buchberger.options rows → HasNumbersInRange (buchberger.job rows)
buchberger_keeps rows h = pairs_within rows h.1.1.0.1

bases_keeps : (rows : List Row) → HoldChoices bases.options rows → HasNumbersInRange (bases.job rows)
bases_keeps rows h =
    let p = pairs_within rows h.1.1.0.1 in
    let w = number_within (codes "workers") 1 most_workers 1 rows h.1.1.1.1.0.1 (omega arith) (omega arith) in
    (limit_within (codes "limit") 1 most_pairs rows h.1.0.1, p.0, p.1, w.0, w.1)

generated_keeps : (rows : List Row) → HoldChoices generated.options rows → HasNumbersInRange (generated.job rows)
generated_keeps rows h =
    let k = number_within (codes "number") 0 most_ideal 0 rows h.0.0.1 (omega arith) (omega arith) in
    let l = number_within (codes "limit") 1 most_pairs 1000 rows h.1.0.1 (omega arith) (omega arith) in
    let p = pairs_within rows h.1.1.0.1 in
    let w = number_within (codes "workers") 1 most_workers 1 rows h.1.1.1.0.1 (omega arith) (omega arith) in
    (k.1, l.0, l.1, p.0, p.1, w.0, w.1)

saturation_keeps : (rows : List Row) → HoldChoices saturation.options rows → HasNumbersInRange (saturation.job rows)
saturation_keeps rows h = pairs_within rows h.0.1

interactive_keeps : (rows : List Row) → HoldChoices interactive.options rows → HasNumbersInRange (interactive.job rows)
interactive_keeps rows h = pairs_within rows h.1.0.1

options_keep : AllKeepRanges with_options
options_keep =
    next buchberger _ buchberger_keeps
    (next bases _ bases_keeps
    (next leading_terms _ (λ rows h. tt)
    (next groebner_cone _ (λ rows h. tt)
    (next weight_vector _ (λ rows h. tt)
    (next to_polyhedral_fan _ (λ rows h. tt)
    (next tropical_intersection _ (λ rows h. tt)
    (next fan_common_refinement _ (λ rows h. tt)
    (next generated _ generated_keeps
    (next saturation _ saturation_keeps
    (next interactive _ interactive_keeps
    none_keep))))))))))

-- commands without options have no numbers
plains_keep : (cs : List (Text × PlainCommand)) (es : List Entry) → AllKeepRanges es → AllKeepRanges (map plain cs ++ es)
plains_keep [] es rest = rest
plains_keep (c ∷ cs) es rest = next (plain c) _ (λ rows h. tt) (plains_keep cs es rest)

all_keep : AllKeepRanges commands
all_keep = plains_keep plain_commands with_options options_keep

own_names : have_own_names commands ≡ true
own_names = refl

options_apart : have_options_apart commands ≡ true
options_apart = refl

-- the options of a command that has an entry's name hold what the entry's take
entry_holds : (es : List Entry) (e : Entry) (m : Text × List Row) → have_own_names es ≡ true → find (λ f. bytes_eq e.name f.name) es ≡ Some e →
    NamesEntry es m → m.0 ≡ e.name → HoldChoices e.options m.1
entry_holds [] e m own found h same = absurd h
entry_holds (f ∷ es) e m own found h same = by (bytes_eq e.name f.name) refl found h (λ is k. entry_holds es e m p.1 is k same)
  where
    p : (list_any (λ (g : Entry). bytes_eq f.name g.name) es ≡ false) × (have_own_names es ≡ true)
    p = own_name (list_any (λ (g : Entry). bytes_eq f.name g.name) es) (have_own_names es) own

    by : (b : Bool) → bytes_eq e.name f.name ≡ b → cond b (Some f) (find (λ g. bytes_eq e.name g.name) es) ≡ Some e → NamesEntry (f ∷ es) m
        → (find (λ g. bytes_eq e.name g.name) es ≡ Some e → NamesEntry es m → HoldChoices e.options m.1) → HoldChoices e.options m.1
    by true eq is (inl k) later = let here : f ≡ e = cc in subst (λ (g : Entry). HoldChoices g.options m.1) here k.1
    by true eq is (inr k) later = absurd (other_name es f.name m p.0 k (same ∙ (bytes_eq-Decides e.name f.name).0 eq))
    by false eq is (inl k) later = absurd (let yes = (bytes_eq-Decides e.name f.name).1 (sym same ∙ k.0) in let none : false ≡ true = sym eq ∙ yes in cc)
    by false eq is (inr k) later = later is k

pub choices_hold : (e : Entry) (m : Text × List Row) → find (λ f. bytes_eq e.name f.name) commands ≡ Some e → IsCommand m → m.0 ≡ e.name →
    HoldChoices e.options m.1
choices_hold e m found h same = entry_holds commands e m own_names found h same

-- ---- the job of a name

-- the rows of each command hold what its options take
command_of : (m : Text × List Row) → Enters program m → IsCommand m
command_of m h = entry_found commands (λ s. answers_to h.word (label_of s)) m h.shape options_apart h.found h.name h.rows (none_lacks h.shape m.1 h.checked)

-- where the table has a match for the words, they name a command
matched_command : (words : List Text) → HasMatch words → (m : Text × List Row) × (match_of words ≡ Some m) × IsCommand m
matched_command words e =
    let ws = argument_words table words in
    let stop = (walk program.top.rules (names_of program) nothing_held ws).stopped in
    let level = level_rows program.top (names_of program) ws (is_some (entered program stop)) (entered_fault program stop) refl e in
    let there = some_of (entered program stop) (wanted program.top (rows_after program.top.rules (names_of program) ws) (is_some (entered program stop))
    level.2) in
    (there.0, there.1, command_of there.0 (entered_rows program stop there.0 refl level.0 there.1))

-- the same of the match that is known
command_is : (words : List Text) (m : Text × List Row) → HasMatch words → match_of words ≡ Some m → IsCommand m
command_is words m e is =
    let found = matched_command words e in
    let same : found.0 ≡ m = cc in
    subst IsCommand same found.2

-- its numbers are in their ranges
pub within_limits : (m : Text × List Row) (job : Job) → IsCommand m → job_of m ≡ Some job → HasNumbersInRange job
within_limits m job h is = limits_of commands m job all_keep own_names h is

-- ---- what a parse gave

-- a name and rows that are kept apart are those of the pair
name_and_rows : {X : Type 0} (o : Option X) (name_of : X → Text) (rows_in : X → List Row) (name : Text) (rows : List Row) → Some name ≡ option_map name_of o
    → Some rows ≡ option_map (λ (p : Text × List Row). p.1) (option_map {U = Text × List Row} (λ x. (name_of x, rows_in x)) o)
    → option_map {U = Text × List Row} (λ x. (name_of x, rows_in x)) o ≡ Some (name, rows)
name_and_rows None name_of rows_in name rows named held = cc
name_and_rows {X} (Some x) name_of rows_in name rows named held =
    let n : name ≡ name_of x = cc in
    let r : rows ≡ rows_in x = cc in
    ap (λ t. Some (t, rows_in x)) (sym n) ∙ ap (λ t. Some (name, t)) (sym r)

-- the subcommand that a parse by the table met
pub record IsParsedAs (words : List Text) (m : Text × List Row) : Type 0 where
  pub matched : HasMatch words
  pub match : match_of words ≡ Some m
  pub command : IsCommand m

pub parsed_as : (a : App) (words : List Text) (p : ArgMatches) (name : Text) (rows : List Row) → a ≡ table →
    (is_simple_and_free a ≡ true → fault_of a words ≡ []) → HasMatchesOf a words p
    → Some name ≡ subcommand_name_of p → Some rows ≡ option_map (λ (m : Text × List Row). m.1) (subcommand_rows_of p) → IsParsedAs words (name, rows)
parsed_as a words p name rows is free has named held =
    let matched = subst (λ (b : App). is_simple_and_free b ≡ true → fault_of b words ≡ []) is free refl in
    let found = (subst (λ (b : App). HasMatchesOf b words p) is has refl).1 in
    let same = sym found ∙ name_and_rows (out-ArgMatches p).subcommand _ _ name rows named held in
    record { matched = matched; match = same; command = command_is words (name, rows) matched same }

-- the job is that of the command that the parse met
pub job_is : (words : List Text) (m : Text × List Row) (job : Job) → IsParsedAs words m → job_of m ≡ Some job → IsJobOfMatch words job
job_is words m job p is = record { matched = p.matched; is = ap (option_and_then job_of) p.match ∙ is }

-- an error that isn't want of memory comes only where the table has no match
pub no_match : (a : App) (words : List Text) (e : Error) → a ≡ table → (is_simple_and_free a ≡ true → HasKind (fault_of a words) e) →
    (kind_of e ≡ kinds.OutOfMemory → ⊥) → HasMatch words → ⊥
no_match a words e is has other match = elim (subst (λ (b : App). is_simple_and_free b ≡ true → HasKind (fault_of b words) e) is has refl) [
  | inl m ↦ other m
  | inr k ↦ subst (IsAmong (kind_of e)) match k
]
