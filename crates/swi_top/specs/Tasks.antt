-- The record of each command.
use Rattle.swi_command.specs.CommandLine.{Request, RewriteFile, RunAhead, RunShared, RunCached, RunPlain, ListFile, CheckFile, UpgradeFile, MeasureMade, RunSurvey, RunProfile}
use Rattle.swi_task.specs.Task.{Task}
use Rattle.swi_file_commands.specs.RewriteFile.{rewrite_task}
use Rattle.swi_file_commands.specs.UpgradeFile.{upgrade_task}
use Rattle.swi_file_commands.specs.CheckFile.{check_task}
use Rattle.swi_file_commands.specs.ListFile.{list_task}
use Rattle.swi_file_commands.specs.RunPlain.{plain_task}
use Rattle.swi_file_commands.specs.RunProfile.{profile_task}
use Rattle.swi_cached_command.specs.RunCached.{cached_task}
use Rattle.swi_prefetch_command.specs.RunAhead.{ahead_task}
use Rattle.swi_measure_command.specs.MeasureMade.{measure_task}
use Rattle.swi_share_command.specs.RunShared.{share_task}
use Rattle.swi_survey_command.specs.RunSurvey.{survey_task}

abbrev pub task_of : Request → Task
task_of (RewriteFile input output block whole) = rewrite_task input output block whole
task_of (UpgradeFile input output) = upgrade_task input output
task_of (CheckFile name) = check_task name
task_of (ListFile name block) = list_task name block
task_of (RunPlain name o) = plain_task name o
task_of (RunCached name cache o) = cached_task name cache o
task_of (RunAhead name cache o rate) = ahead_task name cache o rate
task_of (MeasureMade seed functions cache) = measure_task seed functions cache
task_of (RunShared names cache o) = share_task names cache o
task_of (RunSurvey name sizes block kind limits) = survey_task name sizes block kind limits
task_of (RunProfile name limits) = profile_task name limits
