-- How the last line stands behind what each command did, or left.
use Rattle.swi_command.specs.CommandLine.{Request, RewriteFile, RunAhead, RunShared, RunCached, RunPlain, ListFile, CheckFile, UpgradeFile, MeasureMade, RunSurvey, RunProfile}
use Rattle.swi_top.specs.Tasks.{task_of}
use Rattle.swi_task.proofs.Lines.{IsLined}
use Rattle.swi_file_commands.proofs.Confirming.{check_lined}
use Rattle.swi_file_commands.specs.RunPlain.{plain_command}
use Rattle.swi_file_commands.specs.RunProfile.{profile_command}
use Rattle.swi_file_commands.proofs.Flats.{flat_lined}
use Rattle.swi_file_commands.proofs.Listings.{list_lined}
use Rattle.swi_file_commands.proofs.Written.{rewrite_lined, upgrade_lined}
use Rattle.swi_cached_command.proofs.Caching.{cached_lined}
use Rattle.swi_measure_command.proofs.Measuring.{measure_lined}
use Rattle.swi_prefetch_command.proofs.Ahead.{ahead_lined}
use Rattle.swi_share_command.proofs.SharedRuns.{share_lined}
use Rattle.swi_survey_command.proofs.Surveying.{survey_lined}

pub lined : (q : Request) → IsLined (task_of q)
lined (RewriteFile input output block whole) = rewrite_lined input output block whole
lined (UpgradeFile input output) = upgrade_lined input output
lined (CheckFile name) = check_lined name
lined (ListFile name most) = list_lined name most
lined (RunPlain name o) = flat_lined name (plain_command o)
lined (RunCached name cache o) = cached_lined name cache o
lined (RunAhead name cache o rate) = ahead_lined name cache o rate
lined (MeasureMade seed functions cache) = measure_lined seed functions cache
lined (RunShared names cache o) = share_lined names cache o
lined (RunSurvey name sizes block kind limits) = survey_lined name sizes block kind limits
lined (RunProfile name limits) = flat_lined name (profile_command limits)
