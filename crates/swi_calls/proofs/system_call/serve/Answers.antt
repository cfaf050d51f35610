use Rattle.std.proofs.Common.{◌≡◌, sym, ◌∙◌, rules}
use Rattle.swi_calls.proofs.ServeLemmas.{error_arm, output_arm, quiet_arm, read_arm, read_is_served}
use Rattle.swi_calls.proofs.system_call.serve.Goals as goal

pub returns-in_ok-read-in-63-clause-served : goal.returns-in_ok-read-in-63-clause-served
returns-in_ok-read-in-63-clause-served g c input rest r =
    read_is_served c.args.request c.args.bus.now c.read.new.bus c.args.heap input c.in_ok-read-in-63.field-0 c.in-63.is (c.in_ok-read-in-63.ensures.answered input rest r) (c.in_ok-read-in-63.ensures.bus input rest r)

pub returns-in_ok-read-in-63-clause-devices : goal.returns-in_ok-read-in-63-clause-devices
returns-in_ok-read-in-63-clause-devices g c =
    let (k, within, reads) = c.read.ensures.moved in
    read_arm c.args.request c.args.bus.now c.args.heap _ _ _ _ _ c.in-63.is (reads.bytes, reads.gave) c.in_ok-read-in-63.ensures.input c.in_ok-read-in-63.ensures.cause.quiet

pub returns-in_ok-write-in-1-clause-devices : goal.returns-in_ok-write-in-1-clause-devices
returns-in_ok-write-in-1-clause-devices g c =
    output_arm c.args.request c.args.bus.now c.args.heap _ _ _ _ _ c.in-64.is c.in-1.is c.in_ok-write-in-1.ensures.bytes c.in_ok-write-in-1.ensures.unasked c.in_ok-write-in-1.ensures.cause.quiet

pub returns-in_ok-write-in-2-clause-devices : goal.returns-in_ok-write-in-2-clause-devices
returns-in_ok-write-in-2-clause-devices g c =
    error_arm c.args.request c.args.bus.now c.args.heap _ _ _ _ _ c.in-64.is c.in-2.is c.in_ok-write-in-2.ensures.bytes c.in_ok-write-in-2.ensures.unasked c.in_ok-write-in-2.ensures.cause.quiet

pub returns-in_default-first-clause-devices : goal.returns-in_default-first-clause-devices
returns-in_default-first-clause-devices g c = quiet_arm c.args.request c.args.bus.now c.args.heap _ _ _ _ (search rules) (search rules)

pub returns-in-214-clause-devices : goal.returns-in-214-clause-devices
returns-in-214-clause-devices g c = quiet_arm c.args.request c.args.bus.now c.args.heap _ _ _ _ (search rules) (search rules)

pub returns-in-93-clause-devices : goal.returns-in-93-clause-devices
returns-in-93-clause-devices g c = quiet_arm c.args.request c.args.bus.now c.args.heap _ _ _ _ (search rules) (search rules)

pub returns-in_default-clause-devices : goal.returns-in_default-clause-devices
returns-in_default-clause-devices g c = quiet_arm c.args.request c.args.bus.now c.args.heap _ _ _ _ (search rules) (search rules)

pub returns-in_default-2-clause-devices : goal.returns-in_default-2-clause-devices
returns-in_default-2-clause-devices g c = quiet_arm c.args.request c.args.bus.now c.args.heap _ _ _ _ (search rules) (search rules)
