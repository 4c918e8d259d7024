-- Options added to a command, and commands added to the program.
use Rattle.std.proofs.Common.{◌≡◌, ◌+◌, ◌<◌, ℕ, false, List, [], ◌∷◌, ◌++◌, map, take, length, ◌||◌, get_or, sym, ap, ◌∙◌}
use Rattle.std.specs.List.{fold}
use Rattle.std.specs.Borrow.{Bor}
use Rattle.std.proofs.lemmas.List.{map_push, map_more}
use Rattle.std.proofs.lemmas.List.Sums.{fold-append}
use Rattle.clap.specs.Words.{AddsArg, App, Rule, Shape, Text, rule_of, shape_of, with_subcommand}
use Rattle.clap.specs.Simple.{new_shape}
use Rattle.clap.specs.declared.builder.arg.Arg.{Arg}
use Rattle.clap.specs.declared.builder.command.Command.{Command}
use Rattle.clap.specs.declared.builder.command.Command.TheViews.{out-Command}
use Rattle.gf_front.specs.declared.choice.Choice.{Choice}
use Rattle.gf_front.specs.Table.{rule, shape_with}
use Rattle.gf_front.specs.Choices.{named_choice, choices_of, listed_shape, plain_shape}
use Rattle.gf_front.specs.declared.plain.PlainCommand.{PlainCommand}

-- one more option
pub one_more : (c d : Command) (a : Arg) (name : Text) (options : List (Text × Choice)) (o : Text × Choice) → AddsArg c a d → a.global ≡ false →
    rule_of a ≡ rule o.0 o.1 → shape_of c ≡ shape_with name options
    → shape_of d ≡ shape_with name (options ++ o ∷ [])
one_more c d a name options o adds local is so =
    ap (λ (p : App). p.top) (adds.shape local)
    ∙ ap (λ (s : Shape). record s { rules = s.rules ++ rule_of a ∷ [] }) so
    ∙ ap (λ (r : Rule). record (new_shape name) { rules = map (λ x. rule x.0 x.1) options ++ r ∷ [] }) is
    ∙ ap (λ (rs : List Rule). record (new_shape name) { rules = rs }) (sym (map_push (λ x. rule x.0 x.1) options o))

pub one_listed : (c d : Command) (a : Arg) (name : Text) (xs : List (Bor Text × Choice)) (i : ℕ) (x : Bor Text × Choice) → i < length xs → AddsArg c a d →
    a.global ≡ false
    → rule_of a ≡ rule (get_or xs i x).0.now (get_or xs i x).1
    → shape_of c ≡ shape_with name (choices_of (take i xs)) → shape_of d ≡ shape_with name (choices_of (take (i + 1) xs))
one_listed c d a name xs i x l adds local is so =
    one_more c d a name (choices_of (take i xs)) (named_choice (get_or xs i x)) adds local is so ∙ ap (shape_with name) (sym (map_more named_choice xs i x l))

-- which isn't global
pub still_local : (c d : Command) (a : Arg) → AddsArg c a d → a.global ≡ false → (out-Command c).has_globals ≡ false → (out-Command d).has_globals ≡ false
still_local c d a adds local none = adds.globals ∙ ap (λ b. b || a.global) none ∙ local

-- one more command
one_command : {C : Type 0} (shape_of_listed : C → Shape) (a p q : App) (cs : List C) (i : ℕ) (d : C) → i < length cs →
    p ≡ fold with_subcommand a (map shape_of_listed (take i cs))
    → q ≡ with_subcommand p (shape_of_listed (get_or cs i d)) → q ≡ fold with_subcommand a (map shape_of_listed (take (i + 1) cs))
one_command s a p q cs i d l so is =
    is
    ∙ ap (λ (b : App). with_subcommand b (s (get_or cs i d))) so
    ∙ sym (fold-append with_subcommand a (map s (take i cs)) (s (get_or cs i d) ∷ []))
    ∙ ap (fold with_subcommand a) (sym (map_more s cs i d l))

pub one_plain : (a p q : App) (cs : List (Bor Text × PlainCommand)) (i : ℕ) (d : Bor Text × PlainCommand) → i < length cs →
    p ≡ fold with_subcommand a (map plain_shape (take i cs))
    → q ≡ with_subcommand p (plain_shape (get_or cs i d)) → q ≡ fold with_subcommand a (map plain_shape (take (i + 1) cs))
one_plain a p q cs i d l so is = one_command plain_shape a p q cs i d l so is

pub one_with_options : (a p q : App) (cs : List (Bor Text × Bor (List (Bor Text × Choice)))) (i : ℕ) (d : Bor Text × Bor (List (Bor Text × Choice))) →
    i < length cs
    → p ≡ fold with_subcommand a (map listed_shape (take i cs)) → q ≡ with_subcommand p (listed_shape (get_or cs i d)) →
    q ≡ fold with_subcommand a (map listed_shape (take (i + 1) cs))
one_with_options a p q cs i d l so is = one_command listed_shape a p q cs i d l so is
