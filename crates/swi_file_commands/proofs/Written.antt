-- No line stands behind a file that was written.
use Rattle.std.proofs.Common.{ℕ, Bool, List}
use Rattle.swi_task.proofs.Lines.{IsLined, done_lined}
use Rattle.swi_file_commands.specs.RewriteFile.{rewrite_task}
use Rattle.swi_file_commands.specs.UpgradeFile.{upgrade_task}

pub rewrite_lined : (input output : List ℕ) (block : ℕ) (whole : Bool) → IsLined (rewrite_task input output block whole)
rewrite_lined input output block whole = done_lined (rewrite_task input output block whole) (λ e is. is) (λ files d m r held line h p. h)

pub upgrade_lined : (input output : List ℕ) → IsLined (upgrade_task input output)
upgrade_lined input output = done_lined (upgrade_task input output) (λ e is. is) (λ files d m r held line h p. h)
