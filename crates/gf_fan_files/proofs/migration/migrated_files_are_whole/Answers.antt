use Rattle.gf_fan_files.proofs.MigrationLaws.{migrated_whole}
use Rattle.gf_fan_files.proofs.migration.migrated_files_are_whole.Goals as goal

pub returns : goal.returns
returns c = migrated_whole
