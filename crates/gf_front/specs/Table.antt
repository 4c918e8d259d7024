-- The table of commands and their options, as clap reads words by it.
-- What clap makes of a table is said by its own definitions: `new_rule` is an option and `new_shape` a command to which
-- nothing was added yet, `with_subcommand` adds a command.
use Rattle.std.specs.Prelude.{ℕ, min, Bool, true, false, List, [], ◌∷◌, ◌++◌, map, Option, Some, None, if◌then◌else◌, codes, option_map, unwrap_or}
use Rattle.std.specs.Option.{option_map_or}
use Rattle.std.specs.List.{fold}
use Rattle.std.specs.Str.{bytes_eq}
use Rattle.std.specs.Str.Parse.{digits_value, without_leading_plus}
use Rattle.clap.specs.Words.{App, Shape, Row, Rule, Text, one_of, first_of, new_rule, with_subcommand}
use Rattle.gf_front.specs.declared.command_line.Job.{Job}
use Rattle.gf_front.specs.declared.command_line.Job.TheVariants as jobs
use Rattle.gf_front.specs.declared.choice.Choice.{Choice}
use Rattle.gf_front.specs.declared.choice.Choice.TheVariants as choices
use Rattle.gf_front.specs.declared.plain.PlainCommand.{PlainCommand}
use Rattle.gf_front.specs.declared.plain.PlainCommand.TheVariants as plains
use Rattle.clap.specs.Simple.{new_shape}
use Rattle.clap.specs.declared.builder.action.ArgAction.{ArgAction}
use Rattle.clap.specs.declared.builder.action.ArgAction.TheVariants.{Set, SetTrue}
use Rattle.clap.specs.declared.builder.value_parser.ValueParser.{ValueParser}
use Rattle.clap.specs.declared.builder.value_parser.ValueParser.TheVariants as parsers

-- ---- options, each at most once

-- the numbers from `least` to `most`, as far as clap's ranges go
abbrev pub numbers : ℕ → ℕ → ValueParser
numbers least most = parsers.Unsigned least (min most 9223372036854775807)

-- two hyphens and its name, or a hyphen and a letter; else what the option takes stands alone
abbrev pub long_name : Text → Choice → Option Text
long_name id choices.Flag = Some id
long_name id (choices.Number least most) = Some id
long_name id choices.File = Some id
long_name id choices.NeededFile = Some id
long_name id _ = None

-- the letter of an option that has one
abbrev pub short_name : Choice → Option ℕ
short_name (choices.Letter letter) = Some letter
short_name _ = None

-- it is there or not, or takes one value
abbrev pub action : Choice → ArgAction
action (choices.Letter letter) = SetTrue
action choices.Flag = SetTrue
action _ = Set

-- how clap reads the value of an option: a number within limits, or any text
abbrev pub parser : Choice → Option ValueParser
parser (choices.Number least most) = Some (numbers least most)
parser (choices.BareNumber least most) = Some (numbers least most)
parser _ = None

-- without it the command isn't taken
abbrev pub is_needed : Choice → Bool
is_needed choices.NeededFile = true
is_needed (choices.BareNumber least most) = true
is_needed choices.BareFile = true
is_needed _ = false

-- the option as clap has it
abbrev pub rule : Text → Choice → Rule
rule id choice = record (new_rule id) {
  long = long_name id choice;
  short = short_name choice;
  action = Some (action choice);
  parser = parser choice;
  required = is_needed choice;
}

-- the most pairs that a budget may have, which is the most bases that a limit may let through too; and the pairs that a budget
-- has where the words don't say it
abbrev pub most_pairs : ℕ
most_pairs = 1000000000000

-- the budget of pairs where the words don't say it
abbrev pub usual_pairs : ℕ
usual_pairs = 100000000

-- the most workers that a list may have
abbrev pub most_workers : ℕ
most_workers = 64

-- a number from 1 to the most pairs
abbrev pub an_amount : Choice
an_amount = choices.Number 1 most_pairs

-- ---- what is read of a match

-- whether the option without a value is there
abbrev pub flag_of : Text → List Row → Bool
flag_of id rows = option_map_or (λ text. bytes_eq text (codes "true")) (one_of id rows) false

-- the number of the option, and where it isn't there this one
abbrev pub number_of : Text → ℕ → List Row → ℕ
number_of id otherwise rows = option_map_or (λ text. digits_value 10 (without_leading_plus text)) (one_of id rows) otherwise

-- the number of the option, where it is there
abbrev pub number_where : Text → List Row → Option ℕ
number_where id rows = option_map (λ text. digits_value 10 (without_leading_plus text)) (one_of id rows)

-- the text of the option, and none where it isn't there
abbrev pub text_of : Text → List Row → Text
text_of id rows = unwrap_or (first_of id rows) []

-- ---- commands

-- a command: its name, its options with their names, and its job by what a match holds for the options; of the letters e is 101, g is 103,
-- m is 109, r is 114, w is 119
pub record Entry : Type 0 where
  pub name : Text
  pub options : List (Text × Choice)
  pub job : List Row → Job

-- `_buchberger` with its options
abbrev pub buchberger : Entry
buchberger = record {
  name = codes "_buchberger";
  options =
      (codes "w", choices.Letter 119)
      ∷ (codes "r", choices.Letter 114)
      ∷ (codes "pairs", an_amount)
      ∷ [];
  job = λ rows. jobs.Buchberger (record {
    weighted = flag_of (codes "w") rows;
    revlex = flag_of (codes "r") rows;
    pairs = number_of (codes "pairs") usual_pairs rows;
  });
}

-- `_bases` with its options
abbrev pub bases : Entry
bases = record {
  name = codes "_bases";
  options =
      (codes "g", choices.Letter 103)
      ∷ (codes "limit", an_amount)
      ∷ (codes "pairs", an_amount)
      ∷ (codes "certificates", choices.Flag)
      ∷ (codes "workers", choices.Number 1 most_workers)
      ∷ (codes "within", choices.File)
      ∷ (codes "after", choices.File)
      ∷ [];
  job = λ rows. jobs.Bases (record {
    from_basis = flag_of (codes "g") rows;
    limit = number_where (codes "limit") rows;
    pairs = number_of (codes "pairs") usual_pairs rows;
    certificates = flag_of (codes "certificates") rows;
    workers = number_of (codes "workers") 1 rows;
    within = first_of (codes "within") rows;
    after = first_of (codes "after") rows;
  });
}

-- `_leadingterms` with its option
abbrev pub leading_terms : Entry
leading_terms = record {
  name = codes "_leadingterms";
  options = (codes "m", choices.Letter 109) ∷ [];
  job = λ rows. jobs.LeadingTerms (record { listed = flag_of (codes "m") rows });
}

-- `_groebnercone` with its options
abbrev pub groebner_cone : Entry
groebner_cone = record {
  name = codes "_groebnercone";
  options =
      (codes "vectorinput", choices.Flag)
      ∷ (codes "certificates", choices.Flag)
      ∷ (codes "restrict", choices.Flag)
      ∷ (codes "asfan", choices.Flag)
      ∷ [];
  job = λ rows. jobs.GroebnerCone (record {
    vector_input = flag_of (codes "vectorinput") rows;
    certificates = flag_of (codes "certificates") rows;
    restricted = flag_of (codes "restrict") rows;
    as_fan = flag_of (codes "asfan") rows;
  });
}

-- `_weightvector` with its options
abbrev pub weight_vector : Entry
weight_vector = record {
  name = codes "_weightvector";
  options =
      (codes "m", choices.Letter 109)
      ∷ (codes "e", choices.Letter 101)
      ∷ [];
  job = λ rows. jobs.WeightVector (record { listed = flag_of (codes "m") rows; echoed = flag_of (codes "e") rows });
}

-- `_topolyhedralfan` with its option
abbrev pub to_polyhedral_fan : Entry
to_polyhedral_fan = record {
  name = codes "_topolyhedralfan";
  options = (codes "restrict", choices.Flag) ∷ [];
  job = λ rows. jobs.ToPolyhedralFan (record { restrict = flag_of (codes "restrict") rows });
}

-- `_tropicalintersection` with its option
abbrev pub tropical_intersection : Entry
tropical_intersection = record {
  name = codes "_tropicalintersection";
  options = (codes "basistest", choices.Flag) ∷ [];
  job = λ rows. jobs.TropicalIntersection (record { basis_test = flag_of (codes "basistest") rows });
}

-- `_fancommonrefinement` with its options
abbrev pub fan_common_refinement : Entry
fan_common_refinement = record {
  name = codes "_fancommonrefinement";
  options =
      (codes "i1", choices.NeededFile)
      ∷ (codes "i2", choices.NeededFile)
      ∷ [];
  job = λ rows. jobs.FanCommonRefinement (record { first = text_of (codes "i1") rows; second = text_of (codes "i2") rows });
}

-- the greatest number that stands for an ideal
abbrev pub most_ideal : ℕ
most_ideal = 2147483646

-- `_generated` with its options
abbrev pub generated : Entry
generated = record {
  name = codes "_generated";
  options =
      (codes "number", choices.BareNumber 0 most_ideal)
      ∷ (codes "limit", an_amount)
      ∷ (codes "pairs", an_amount)
      ∷ (codes "workers", choices.Number 1 most_workers)
      ∷ [];
  job = λ rows. jobs.Generated (record {
    number = number_of (codes "number") 0 rows;
    limit = number_of (codes "limit") 1000 rows;
    pairs = number_of (codes "pairs") usual_pairs rows;
    workers = number_of (codes "workers") 1 rows;
  });
}

-- `_saturation` with its option
abbrev pub saturation : Entry
saturation = record {
  name = codes "_saturation";
  options = (codes "pairs", an_amount) ∷ [];
  job = λ rows. jobs.Saturation (record { pairs = number_of (codes "pairs") usual_pairs rows });
}

-- `_interactive` with its file and its option
abbrev pub interactive : Entry
interactive = record {
  name = codes "_interactive";
  options =
      (codes "file", choices.BareFile)
      ∷ (codes "pairs", an_amount)
      ∷ [];
  job = λ rows. jobs.Interactive (record { file = text_of (codes "file") rows; pairs = number_of (codes "pairs") usual_pairs rows });
}

-- those with options
abbrev pub with_options : List Entry
with_options = buchberger ∷ bases ∷ leading_terms ∷ groebner_cone ∷ weight_vector ∷ to_polyhedral_fan ∷ tropical_intersection ∷ fan_common_refinement ∷
    generated ∷ saturation ∷ interactive ∷ []

-- those without options, by their names
abbrev pub plain_commands : List (Text × PlainCommand)
plain_commands =
    (codes "_ismarkedgroebnerbasis", plains.IsMarkedGroebnerBasis)
    ∷ (codes "_doesidealcontain", plains.DoesIdealContain)
    ∷ (codes "_markpolynomialset", plains.MarkPolynomialSet)
    ∷ (codes "_initialforms", plains.InitialForms)
    ∷ (codes "_homogenize", plains.Homogenize)
    ∷ (codes "_polynomialsetunion", plains.PolynomialSetUnion)
    ∷ (codes "_stats", plains.Stats)
    ∷ (codes "_homogeneityspace", plains.HomogeneitySpace)
    ∷ (codes "_tropicalhypersurface", plains.TropicalHypersurface)
    ∷ (codes "_minkowskisum", plains.MinkowskiSum)
    ∷ (codes "_migratefan", plains.MigrateFan)
    ∷ []

-- the first of these that has the name
abbrev pub plain_named : Text → List (Text × PlainCommand) → Option PlainCommand
plain_named name [] = None
plain_named name (c ∷ cs) = if bytes_eq name c.0 then Some c.1 else plain_named name cs

-- such a command as an entry
abbrev pub plain : Text × PlainCommand → Entry
plain c = record { name = c.0; options = []; job = λ rows. jobs.Plain c.1 }

-- the entries of all commands without options
abbrev pub without_options : List Entry
without_options = map plain plain_commands

-- all commands
abbrev pub commands : List Entry
commands = without_options ++ with_options

-- a command as clap has it
abbrev pub shape_with : Text → List (Text × Choice) → Shape
shape_with name options = record (new_shape name) { rules = map (λ o. rule o.0 o.1) options }

-- an entry of the table, as clap has it
abbrev pub shape : Entry → Shape
shape e = shape_with e.name e.options

-- ---- the program

-- one command is needed, and no word calls for help or for a version
abbrev pub program : App
program = record {
  top = record (new_shape (codes "gfan")) {
    no_binary_name = true;
    disable_help_flag = true;
    disable_help_subcommand = true;
    disable_version_flag = true;
    subcommand_required = true;
  };
  subs = [];
}

-- with these commands
abbrev pub with_commands : App → List Entry → App
with_commands a es = fold with_subcommand a (map shape es)

-- the whole table, as clap has it
abbrev pub table : App
table = with_commands program commands
