use Rattle.swi_outside.proofs.SourceLemmas.{given_still, rest_is}
use Rattle.swi_outside.specs.Told.{told_as}
use Rattle.swi_task.specs.Devices.{Devices, seen}
use Rattle.swi_top.proofs.commands.perform.Goals as goal

pub returns-in-Rewrite-clause-gave : goal.returns-in-Rewrite-clause-gave
returns-in-Rewrite-clause-gave g c = given_still _

pub returns-in-Rewrite-clause-answers : goal.returns-in-Rewrite-clause-answers
returns-in-Rewrite-clause-answers g c = λ input rest was.
    let before : Devices = seen (g.F.Shelf.state c.args.shelf.now) (told_as (g.I.Source.state c.args.input.now) input) (g.O.Sink.state c.args.out.now) (g.E.Sink.state c.args.err.now) (g.R.CacheRam.state c.args.ram.now) in
    rw (c.in-Rewrite.is, rest_is was) (c.rewrite.ensures before)

pub returns-in-Plain-clause-gave : goal.returns-in-Plain-clause-gave
returns-in-Plain-clause-gave g c = c.plain.ensures.gave

pub returns-in-Plain-clause-answers : goal.returns-in-Plain-clause-answers
returns-in-Plain-clause-answers g c = λ input rest was.
    let before : Devices = seen (g.F.Shelf.state c.args.shelf.now) (told_as (g.I.Source.state c.args.input.now) input) (g.O.Sink.state c.args.out.now) (g.E.Sink.state c.args.err.now) (g.R.CacheRam.state c.args.ram.now) in
    rw c.in-Plain.is (c.plain.ensures.answers before input rest was)

pub returns-in-Profile-clause-gave : goal.returns-in-Profile-clause-gave
returns-in-Profile-clause-gave g c = c.profile.ensures.gave

pub returns-in-Profile-clause-answers : goal.returns-in-Profile-clause-answers
returns-in-Profile-clause-answers g c = λ input rest was.
    let before : Devices = seen (g.F.Shelf.state c.args.shelf.now) (told_as (g.I.Source.state c.args.input.now) input) (g.O.Sink.state c.args.out.now) (g.E.Sink.state c.args.err.now) (g.R.CacheRam.state c.args.ram.now) in
    rw c.in-Profile.is (c.profile.ensures.answers before input rest was)

pub returns-in-List-clause-gave : goal.returns-in-List-clause-gave
returns-in-List-clause-gave g c = given_still _

pub returns-in-List-clause-answers : goal.returns-in-List-clause-answers
returns-in-List-clause-answers g c = λ input rest was.
    let before : Devices = seen (g.F.Shelf.state c.args.shelf.now) (told_as (g.I.Source.state c.args.input.now) input) (g.O.Sink.state c.args.out.now) (g.E.Sink.state c.args.err.now) (g.R.CacheRam.state c.args.ram.now) in
    rw (c.in-List.is, rest_is was) (c.list.ensures before)

pub returns-in-Check-clause-gave : goal.returns-in-Check-clause-gave
returns-in-Check-clause-gave g c = given_still _

pub returns-in-Check-clause-answers : goal.returns-in-Check-clause-answers
returns-in-Check-clause-answers g c = λ input rest was.
    let before : Devices = seen (g.F.Shelf.state c.args.shelf.now) (told_as (g.I.Source.state c.args.input.now) input) (g.O.Sink.state c.args.out.now) (g.E.Sink.state c.args.err.now) (g.R.CacheRam.state c.args.ram.now) in
    rw (c.in-Check.is, rest_is was) (c.check.ensures before)

pub returns-in-Upgrade-clause-gave : goal.returns-in-Upgrade-clause-gave
returns-in-Upgrade-clause-gave g c = given_still _

pub returns-in-Upgrade-clause-answers : goal.returns-in-Upgrade-clause-answers
returns-in-Upgrade-clause-answers g c = λ input rest was.
    let before : Devices = seen (g.F.Shelf.state c.args.shelf.now) (told_as (g.I.Source.state c.args.input.now) input) (g.O.Sink.state c.args.out.now) (g.E.Sink.state c.args.err.now) (g.R.CacheRam.state c.args.ram.now) in
    rw (c.in-Upgrade.is, rest_is was) (c.upgrade.ensures before)

pub returns-in-Cached-clause-gave : goal.returns-in-Cached-clause-gave
returns-in-Cached-clause-gave g c = c.cached.ensures.gave

pub returns-in-Cached-clause-answers : goal.returns-in-Cached-clause-answers
returns-in-Cached-clause-answers g c = λ input rest was.
    rw c.in-Cached.is (c.cached.ensures.answers input rest was)

pub returns-in-Prefetch-clause-gave : goal.returns-in-Prefetch-clause-gave
returns-in-Prefetch-clause-gave g c = c.prefetch.ensures.gave

pub returns-in-Prefetch-clause-answers : goal.returns-in-Prefetch-clause-answers
returns-in-Prefetch-clause-answers g c = λ input rest was.
    rw c.in-Prefetch.is (c.prefetch.ensures.answers input rest was)

pub returns-in-Measure-clause-gave : goal.returns-in-Measure-clause-gave
returns-in-Measure-clause-gave g c = given_still _

pub returns-in-Measure-clause-answers : goal.returns-in-Measure-clause-answers
returns-in-Measure-clause-answers g c = λ input rest was.
    let before : Devices = seen (g.F.Shelf.state c.args.shelf.now) (told_as (g.I.Source.state c.args.input.now) input) (g.O.Sink.state c.args.out.now) (g.E.Sink.state c.args.err.now) (g.R.CacheRam.state c.args.ram.now) in
    rw (c.in-Measure.is, rest_is was) (c.measure.ensures before)

pub returns-in-Share-clause-gave : goal.returns-in-Share-clause-gave
returns-in-Share-clause-gave g c = given_still _

pub returns-in-Share-clause-answers : goal.returns-in-Share-clause-answers
returns-in-Share-clause-answers g c = λ input rest was.
    let before : Devices = seen (g.F.Shelf.state c.args.shelf.now) (told_as (g.I.Source.state c.args.input.now) input) (g.O.Sink.state c.args.out.now) (g.E.Sink.state c.args.err.now) (g.R.CacheRam.state c.args.ram.now) in
    rw (c.in-Share.is, rest_is was) (c.share.ensures before)

pub returns-in-Survey-clause-gave : goal.returns-in-Survey-clause-gave
returns-in-Survey-clause-gave g c = c.survey.ensures.gave

pub returns-in-Survey-clause-answers : goal.returns-in-Survey-clause-answers
returns-in-Survey-clause-answers g c = λ input rest was.
    rw c.in-Survey.is (c.survey.ensures.answers input rest was)
