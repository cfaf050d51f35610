use Rattle.std.proofs.Common.{◌≡◌, inl, inr, Option, Some, None, Err, refl, ap, subst}
use Rattle.std.specs.Prelude.{map, string_bytes}
use Rattle.swi_outside.proofs.SourceLemmas.{given_still, rest_is}
use Rattle.swi_outside.proofs.ToldLemmas.{as_told_stands}
use Rattle.swi_outside.specs.Told.{told_as}
use Rattle.swi_answer.specs.declared.answer.Refusal.TheVariants as refusal
use Rattle.swi_command.specs.declared.command.CommandError.{CommandError}
use Rattle.swi_command.specs.CommandLine.{Request, command_of, request_of}
use Rattle.swi_task.specs.Answers.{AnswersWithLine}
use Rattle.swi_task.specs.Devices.{Devices, seen}
use Rattle.swi_top.specs.Tasks.{task_of}
use Rattle.swi_top.proofs.Lined.{lined}
use Rattle.swi_task.proofs.Refusals.{memory_at_once}
use Rattle.swi_task.proofs.Lines.{refused_at_once, refused_line}
use Rattle.swi_top.proofs.call.top.Goals as goal

-- the words are one command at most
clash : (x : Option Request) (q : Request) → x ≡ Some q → x ≡ None → ⊥
clash x q a b = let bad : ⊥ = cc in bad

same_request : (x : Option Request) (q r : Request) → x ≡ Some q → x ≡ Some r → q ≡ r
same_request x q r a b = cc

pub returns-in-Ok : goal.returns-in-Ok
returns-in-Ok g c =
    let asked = command_of (map (λ w. string_bytes w) c.args.words.now) in
    let ran = c.run_command.ensures in record {
      usage = λ e. absurd (as_told_stands ran.gave (λ input rest was. (ran.answers input rest was).answers.asked e));
      no_command = λ none. absurd (clash asked (request_of c.in-Ok.command) c.in-Ok.ensures.ok none);
      unasked = λ none. absurd (clash asked (request_of c.in-Ok.command) c.in-Ok.ensures.ok none);
      gave = ran.gave;
      answers = λ request is input rest was.
          let before : Devices = seen (g.F.Shelf.state c.args.shelf.now) (told_as (g.I.Source.state c.args.input.now) input) (g.O.Sink.state c.args.out.now) (g.E.Sink.state c.args.err.now) (g.R.CacheRam.state c.args.ram.now) in
          let after : Devices = seen (g.F.Shelf.state c.run_command.new.shelf) (told_as (g.I.Source.state c.run_command.new.input) rest) (g.O.Sink.state c.run_command.new.out) (g.E.Sink.state c.run_command.new.err) (g.R.CacheRam.state c.run_command.new.ram) in
          subst (λ (q : Request). AnswersWithLine (task_of q) before after c.run_command.result)
          (same_request asked (request_of c.in-Ok.command) request c.in-Ok.ensures.ok is) (ran.answers input rest was);
    }

pub returns-in-Err-Usage : goal.returns-in-Err-Usage
returns-in-Err-Usage g c =
    let before : Devices = seen (g.F.Shelf.state c.args.shelf.now) (g.I.Source.state c.args.input.now) (g.O.Sink.state c.args.out.now) (g.E.Sink.state c.args.err.now) (g.R.CacheRam.state c.args.ram.now) in
    let asked = command_of (map (λ w. string_bytes w) c.args.words.now) in
    let none = c.in-Err-Usage.ensures.usage (ap (λ (x : CommandError). Err x) c.in-Err-Usage.field-0-is) in
    rw c.refuse.ensures.same (record {
      usage = λ _. none;
      no_command = λ _. inl refl;
      unasked = λ _. refused_at_once before refusal.Usage (g.E.Sink.state c.refuse.new.err)
          c.refuse.ensures.line c.refuse.ensures.later;
      gave = given_still _;
      answers = λ request is. absurd (clash asked request is none);
    })

pub returns-in-Err-Memory : goal.returns-in-Err-Memory
returns-in-Err-Memory g c =
    let before : Devices = seen (g.F.Shelf.state c.args.shelf.now) (g.I.Source.state c.args.input.now) (g.O.Sink.state c.args.out.now) (g.E.Sink.state c.args.err.now) (g.R.CacheRam.state c.args.ram.now) in
    rw c.refuse-in-Err-Memory.ensures.same (record {
      usage = λ e. absurd (let bad : ⊥ = cc in bad);
      no_command = λ _. inr refl;
      unasked = λ _. refused_at_once before refusal.Memory (g.E.Sink.state c.refuse-in-Err-Memory.new.err) c.refuse-in-Err-Memory.ensures.line c.refuse-in-Err-Memory.ensures.later;
      gave = given_still _;
      answers = λ request _ input rest was.
          let asked : Devices = seen (g.F.Shelf.state c.args.shelf.now) (told_as (g.I.Source.state c.args.input.now) input) (g.O.Sink.state c.args.out.now) (g.E.Sink.state c.args.err.now) (g.R.CacheRam.state c.args.ram.now) in
          rw (rest_is was)
          (refused_line (task_of request) (lined request) asked asked refusal.Memory (g.E.Sink.state c.refuse-in-Err-Memory.new.err)
          (memory_at_once (task_of request) asked) c.refuse-in-Err-Memory.ensures.line c.refuse-in-Err-Memory.ensures.later);
    })
