-- The command of each job.
use Rattle.std.specs.Prelude.{◌≡◌, ℕ, Bool, List, [], ◌∷◌, None}
use Rattle.gf_front.specs.declared.command_line.Job.{Job}
use Rattle.gf_front.specs.declared.command_line.Job.TheVariants as jobs
use Rattle.gf_front.specs.declared.plain.PlainCommand.{PlainCommand}
use Rattle.gf_front.specs.declared.plain.PlainCommand.TheVariants as plains
use Rattle.gf_frame.specs.Loading.{Origin}
use Rattle.gf_frame.specs.Commands.{Command, IsAnswered}
use Rattle.gfan_plain_theory.specs.ListOptions.{ListOptions}
use Rattle.gfan_plain_theory.specs.Buchberger.{buchberger_command}
use Rattle.gfan_plain_theory.specs.Ways.{ways_of, list_options}
use Rattle.gfan_plain_theory.specs.ListCommand.{AreTextsPast, bases_command}
use Rattle.gfan_plain_theory.specs.Marked.{marked_command}
use Rattle.gfan_plain_theory.specs.Containment.{containment_command}
use Rattle.gfan_plain_theory.specs.LeadingTerms.{leading_terms_command}
use Rattle.gfan_plain_theory.specs.MarkPolynomialSet.{mark_polynomial_set_command}
use Rattle.gfan_plain_theory.specs.InitialForms.{initial_forms_command}
use Rattle.gfan_plain_theory.specs.Homogenize.{homogenize_command}
use Rattle.gfan_plain_theory.specs.PolynomialSetUnion.{polynomial_set_union_command}
use Rattle.gfan_plain_theory.specs.Stats.{stats_command}
use Rattle.gfan_plain_theory.specs.WeightVector.{weight_vector_command}
use Rattle.gfan_plain_theory.specs.GroebnerCone.{groebner_cone_command}
use Rattle.gfan_plain_theory.specs.ToPolyhedralFan.{to_polyhedral_fan_command}
use Rattle.gfan_plain_theory.specs.HomogeneitySpace.{homogeneity_space_command}
use Rattle.gfan_plain_theory.specs.TropicalFan.TheVariants as fans
use Rattle.gfan_plain_theory.specs.Tropical.{tropical_command}
use Rattle.gfan_plain_theory.specs.BasisTest.{intersection_command}
use Rattle.gfan_plain_theory.specs.CommonRefinement.{refinement_command}
use Rattle.gfan_plain_theory.specs.MigrateFan.{migrate_fan_command}
use Rattle.gfan_plain_theory.specs.Generated.{generated_command}
use Rattle.gfan_plain_theory.specs.Saturation.{saturation_command}
use Rattle.gfan_interactive.specs.Interactive.{interactive_command}

-- the job of `_bases` with these options, for all positive weights, from a basis or from generators
abbrev pub list_job : Bool → ListOptions → ℕ → Job
list_job from_basis o workers = jobs.Bases (record {
  from_basis = from_basis;
  limit = o.limit;
  pairs = o.pairs;
  certificates = o.certified;
  workers = workers;
  within = None;
  after = None;
})

-- the commands without options
abbrev pub plain_command : PlainCommand → Command
plain_command plains.IsMarkedGroebnerBasis = marked_command
plain_command plains.DoesIdealContain = containment_command
plain_command plains.MarkPolynomialSet = mark_polynomial_set_command
plain_command plains.InitialForms = initial_forms_command
plain_command plains.Homogenize = homogenize_command
plain_command plains.PolynomialSetUnion = polynomial_set_union_command
plain_command plains.Stats = stats_command
plain_command plains.HomogeneitySpace = homogeneity_space_command
plain_command plains.TropicalHypersurface = tropical_command fans.Hypersurface
plain_command plains.MinkowskiSum = tropical_command fans.MinkowskiSum
plain_command plains.MigrateFan = migrate_fan_command

-- the command of each job. The commands of `_bases` and `_generated` don't depend on the number of workers
abbrev pub command_of : Job → Command
command_of (jobs.Plain c) = plain_command c
command_of (jobs.Buchberger o) = buchberger_command o
command_of (jobs.Bases o) = bases_command o
command_of (jobs.LeadingTerms o) = leading_terms_command o
command_of (jobs.WeightVector o) = weight_vector_command o
command_of (jobs.GroebnerCone o) = groebner_cone_command o
command_of (jobs.ToPolyhedralFan o) = to_polyhedral_fan_command o
command_of (jobs.TropicalIntersection o) = intersection_command o
command_of (jobs.FanCommonRefinement o) = refinement_command o.first o.second
command_of (jobs.Generated o) = generated_command o
command_of (jobs.Saturation o) = saturation_command o
command_of (jobs.Interactive o) = interactive_command o.file o.pairs

-- the job reads only the input
abbrev pub ReadsInputAlone : Job → Type 0
ReadsInputAlone job = (command_of job).reads ≡ Origin.the_input ∷ []

-- the text is the output of the job for this source, which is its only one
abbrev pub IsAnswerTo : Job → List ℕ → List ℕ → Type 0
IsAnswerTo job source text = IsAnswered (command_of job) (source ∷ []) text

-- the job is `_bases`, its list continues after its limit, and no operation until then leaves its limits
abbrev pub IsPastReach : Job → List (List ℕ) → ℕ → Type 0
IsPastReach (jobs.Bases o) texts most = AreTextsPast (ways_of o) (list_options o) texts most
IsPastReach _ texts most = ⊥
