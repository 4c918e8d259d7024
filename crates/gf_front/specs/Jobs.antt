-- The job that words ask for: the table has a match for the words, and the job is that of the command and the options
-- of the match.
-- clap's own definitions say how it reads words by a table: `fault_of` lists what is wrong with the words, and is empty
-- exactly where they match; `subcommand_of` is the command that they name, with a row for each of its options.
-- Laws: proofs/MatchLaws.antt, proofs/JobLaws.antt.
use Rattle.std.specs.Prelude.{◌≡◌, ◌≤◌, List, [], ◌∷◌, map, codes, Option, Some, None, IfSome, if◌then◌else◌, option_and_then}
use Rattle.std.specs.Str.{bytes_eq}
use Rattle.clap.specs.Words.{Row, Text, fault_of, subcommand_of}
use Rattle.gf_front.specs.declared.command_line.Job.{Job}
use Rattle.gf_front.specs.declared.command_line.Job.TheVariants as jobs
use Rattle.gf_front.specs.Table.{Entry, table, commands, most_pairs, most_workers, most_ideal}

-- ---- jobs

-- the job of a command with its options, by the first entry of that name
abbrev pub job_in : List Entry → Text × List Row → Option Job
job_in [] m = None
job_in (e ∷ es) m = if bytes_eq m.0 e.name then Some (e.job m.1) else job_in es m

-- the job of what clap matched: that of its entry in the table
abbrev pub job_of : Text × List Row → Option Job
job_of m = job_in commands m

-- each number of the job is in its range
abbrev pub HasNumbersInRange : Job → Type 0
HasNumbersInRange (jobs.Buchberger o) = (1 ≤ o.pairs) × (o.pairs ≤ most_pairs)
HasNumbersInRange (jobs.Bases o) =
    IfSome o.limit (λ n. (1 ≤ n) × (n ≤ most_pairs)) × (1 ≤ o.pairs) × (o.pairs ≤ most_pairs) × (1 ≤ o.workers) × (o.workers ≤ most_workers)
HasNumbersInRange (jobs.Generated o) =
    (o.number ≤ most_ideal) × (1 ≤ o.limit) × (o.limit ≤ most_pairs) × (1 ≤ o.pairs) × (o.pairs ≤ most_pairs) × (1 ≤ o.workers) × (o.workers ≤ most_workers)
HasNumbersInRange (jobs.Saturation o) = (1 ≤ o.pairs) × (o.pairs ≤ most_pairs)
HasNumbersInRange (jobs.Interactive o) = (1 ≤ o.pairs) × (o.pairs ≤ most_pairs)
HasNumbersInRange _ = Unit {0}

-- ---- the match of words that are renamed

-- the table has a match
abbrev pub HasMatch : List Text → Type 0
HasMatch words = fault_of table words ≡ []

-- the command of the match, with a row for each of its options
abbrev pub match_of : List Text → Option (Text × List Row)
match_of words = subcommand_of table words

-- the job is that of the match
pub record IsJobOfMatch (words : List Text) (job : Job) : Type 0 where
  pub matched : HasMatch words
  pub is : option_and_then job_of (match_of words) ≡ Some job

-- ---- the words as they are given

-- -i1 and -i2 are read as --i1 and --i2
abbrev pub renamed : Text → Text
renamed word = if bytes_eq word (codes "-i1") then codes "--i1" else if bytes_eq word (codes "-i2") then codes "--i2" else word

-- the table has a match for the words
abbrev pub IsMatched : List Text → Type 0
IsMatched given = HasMatch (map renamed given)

-- it has one, and the job is that of the match
abbrev pub IsJobOf : List Text → Job → Type 0
IsJobOf given job = IsJobOfMatch (map renamed given) job
