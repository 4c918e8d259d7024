use Rattle.gfan_theory.proofs.PlaneFiles.{migrations_of_plane_fans_fit, refinements_of_plane_fans_fit}
use Rattle.gfan_theory.proofs.plane_fans_fit.Goals as goal

pub returns-clause-migrations : goal.returns-clause-migrations
returns-clause-migrations c = migrations_of_plane_fans_fit

pub returns-clause-refinements : goal.returns-clause-refinements
returns-clause-refinements c = refinements_of_plane_fans_fit
