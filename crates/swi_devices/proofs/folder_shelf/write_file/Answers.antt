use Rattle.std.proofs.Common.{◌≡◌, is_err, false}
use Rattle.swi_devices.proofs.Folders.{elsewhere-trans, stands-kept}
use Rattle.swi_devices.proofs.Logs.{handed_whole}
use Rattle.swi_devices.proofs.folder_shelf.write_file.Goals as goal

pub returns-in_err-close-clause-others : goal.returns-in_err-close-clause-others
returns-in_err-close-clause-others g c = elsewhere-trans _ _ _ _ c.create.ensures.others c.close.ensures.others

pub returns-clause-others : goal.returns-clause-others
returns-clause-others g c = elsewhere-trans _ _ _ _ c.create.ensures.others c.close.ensures.others

pub returns-clause-stands : goal.returns-clause-stands
returns-clause-stands g c =
    let fine : is_err c.write_whole.result ≡ false = cc in
    let handed = handed_whole c.write_whole.result fine c.write_whole.ensures.handed in
    stands-kept _ _ _ _ _ _ c.in_ok-file.ensures.empty handed c.in_ok-close.ensures.stands
