-- What each call does with the devices, by its number.
use Rattle.std.proofs.Common.{◌≡◌, ℕ, true, false, List, [], refl, sym, ap, ◌∙◌, subst, inl, inr, arith, Option, Some, Result, Ok}
use Rattle.std.proofs.lemmas.Bool.{cases_Bool}
use Rattle.std.proofs.lemmas.Bool.Decides.{nat_tests}
use Rattle.std.proofs.lemmas.Grind.{common_steps}
use Rattle.std.specs.Io.KnownBytes.{Appends}
use Rattle.swi_outside.specs.Source.{SourceState, HasGiven, ForInput}
use Rattle.swi_outside.specs.Sink.{SinkState}
use Rattle.swi_outside.specs.Devices.{Devices, faults_of, Faults}
use Rattle.swi_outside.specs.Laws.{ok_causes, Appends-none}
use Rattle.swi_outside.proofs.SourceLemmas.{given_still, rest_is}
use Rattle.swi_memory.specs.declared.right.Right.TheVariants.{Read, Write}
use Rattle.swi_memory.specs.Bus.{AreaData, holds}
use Rattle.swi_calls.specs.declared.heap.Heap.{Heap}
use Rattle.swi_calls.specs.declared.end.CallFault.{CallFault}
use Rattle.swi_calls.specs.declared.end.CallFault.TheVariants.{SourceFault, SinkFault}
use Rattle.swi_calls.specs.declared.request.Request.{Request}
use Rattle.swi_calls.specs.declared.request.Called.{Called}
use Rattle.swi_calls.specs.declared.request.Called.TheVariants.{Returned}
use Rattle.swi_calls.specs.Call.{IsServed, called_of, exchange_of_call, read_served, served_by, written}
use Rattle.swi_calls.specs.Exchange.{Exchange, Exchanged}

-- ---- a read that is refused

pub unread_descriptor : (first buffer count : ℕ) (bus : List AreaData) (input : List ℕ) → (first ≡ 0 → ⊥) → (read_served first buffer count bus input).input ≡ input
unread_descriptor first buffer count bus input not = grind (arith, nat_tests, common_steps)

pub unread_buffer : (first buffer count : ℕ) (bus : List AreaData) (input : List ℕ) → holds bus Write buffer count ≡ false → (read_served first buffer count bus input).input ≡ input
unread_buffer first buffer count bus input not = grind (arith, nat_tests, common_steps)

-- ---- calls that read nothing

pub input_still : (r : Request) (bus : List AreaData) (heap : Heap) (left : List ℕ) → (r.number ≡ 63 → ⊥) → (served_by r bus heap left).input ≡ left
input_still r bus heap left not = grind (arith, nat_tests, common_steps)

pub silent : (r : Request) (bus : List AreaData) (heap : Heap) (left : List ℕ) → (r.number ≡ 64 → (r.first ≡ 1 → ⊥) × (r.first ≡ 2 → ⊥)) →
    ((served_by r bus heap left).output ≡ []) × ((served_by r bus heap left).error ≡ [])
silent r bus heap left not = (grind (arith, nat_tests, common_steps), grind (arith, nat_tests, common_steps))

appends_none : (o : Option (List ℕ)) (x : List ℕ) → x ≡ [] → Appends o o x
appends_none o x none = rw none (Appends-none o)

abbrev pub serves : Request → List AreaData → Heap → List ℕ → Exchange
serves r bus heap left = exchange_of_call (served_by r bus heap left)

-- a call that answered, over an input that wasn't read
ok_still : {T : Type 0} (does : List ℕ → Exchange) (s : SourceState) (o o' e e' : SinkState) (v : T) → ((left : List ℕ) → (does left).input ≡ left) →
    ((left : List ℕ) → Appends o.held o'.held (does left).output) → ((left : List ℕ) → Appends e.held e'.held (does left).error) →
    ((left : List ℕ) → (does left).output ≡ [] → o' ≡ o) → ((left : List ℕ) → (does left).error ≡ [] → e' ≡ e) → o'.faults ≡ o.faults → e'.faults ≡ e.faults →
    Exchanged does (record { input = s; output = o; error = e }) (record { input = s; output = o'; error = e' }) (Ok v)
ok_still does s o o' e e' v inputs outputs errors out_still err_still out_quiet err_quiet = record {
  gave = given_still s;
  input = λ left rest r. inputs left ∙ sym (rest_is r);
  output = λ left rest r. outputs left;
  error = λ left rest r. errors left;
  output_prefix = tt;
  error_prefix = tt;
  failed_input = λ other. let never : ⊥ = cc in absurd never;
  failed_output = tt;
  failed_error = tt;
  unasked_output = out_still;
  unasked_error = err_still;
  causes = ok_causes (λ i. record { input = s.faults; output = out_quiet i; error = err_quiet i });
}

-- a call that neither reads nor writes
pub quiet_arm : {T : Type 0} (r : Request) (bus : List AreaData) (heap : Heap) (s : SourceState) (o e : SinkState) (v : T) → (r.number ≡ 63 → ⊥) →
    (r.number ≡ 64 → (r.first ≡ 1 → ⊥) × (r.first ≡ 2 → ⊥)) →
    Exchanged (serves r bus heap) (record { input = s; output = o; error = e }) (record { input = s; output = o; error = e }) (Ok v)
quiet_arm r bus heap s o e v unread unwritten =
    ok_still (serves r bus heap) s o o e e v (λ left. input_still r bus heap left unread) (λ left. appends_none o.held _ (silent r bus heap left unwritten).0)
    (λ left. appends_none e.held _ (silent r bus heap left unwritten).1) (λ left none. refl) (λ left none. refl) refl refl

-- a write
writes_output : (r : Request) (bus : List AreaData) (heap : Heap) (left : List ℕ) → r.number ≡ 64 → r.first ≡ 1 →
    ((served_by r bus heap left).output ≡ written r.second r.third bus) × ((served_by r bus heap left).error ≡ [])
writes_output r bus heap left number first =
    elim (cases_Bool (holds bus Read r.second r.third)) [
      | inl held ↦ rw (number, first, held) (refl, refl)
      | inr held ↦ rw (number, first, held) (refl, refl)
    ]

writes_error : (r : Request) (bus : List AreaData) (heap : Heap) (left : List ℕ) → r.number ≡ 64 → r.first ≡ 2 →
    ((served_by r bus heap left).output ≡ []) × ((served_by r bus heap left).error ≡ written r.second r.third bus)
writes_error r bus heap left number first =
    elim (cases_Bool (holds bus Read r.second r.third)) [
      | inl held ↦ rw (number, first, held) (refl, refl)
      | inr held ↦ rw (number, first, held) (refl, refl)
    ]

pub output_arm : {T : Type 0} (r : Request) (bus : List AreaData) (heap : Heap) (s : SourceState) (o o' e : SinkState) (v : T) → r.number ≡ 64 → r.first ≡ 1 →
    Appends o.held o'.held (written r.second r.third bus) → (written r.second r.third bus ≡ [] → o' ≡ o) → o'.faults ≡ o.faults →
    Exchanged (serves r bus heap) (record { input = s; output = o; error = e }) (record { input = s; output = o'; error = e }) (Ok v)
output_arm r bus heap s o o' e v number first appended unasked quiet =
    ok_still (serves r bus heap) s o o' e e v (λ left. input_still r bus heap left (λ other. omega (arith, number, other)))
    (λ left. rw (writes_output r bus heap left number first).0 appended) (λ left. appends_none e.held _ (writes_output r bus heap left number first).1)
    (λ left none. unasked (sym (writes_output r bus heap left number first).0 ∙ none)) (λ left none. refl) quiet refl

pub error_arm : {T : Type 0} (r : Request) (bus : List AreaData) (heap : Heap) (s : SourceState) (o e e' : SinkState) (v : T) → r.number ≡ 64 → r.first ≡ 2 →
    Appends e.held e'.held (written r.second r.third bus) → (written r.second r.third bus ≡ [] → e' ≡ e) → e'.faults ≡ e.faults →
    Exchanged (serves r bus heap) (record { input = s; output = o; error = e }) (record { input = s; output = o; error = e' }) (Ok v)
error_arm r bus heap s o e e' v number first appended unasked quiet =
    ok_still (serves r bus heap) s o o e e' v (λ left. input_still r bus heap left (λ other. omega (arith, number, other)))
    (λ left. appends_none o.held _ (writes_error r bus heap left number first).0) (λ left. rw (writes_error r bus heap left number first).1 appended)
    (λ left none. refl) (λ left none. unasked (sym (writes_error r bus heap left number first).1 ∙ none)) refl quiet

-- ---- a read that was made

served_read : (r : Request) (bus : List AreaData) (heap : Heap) (left : List ℕ) → r.number ≡ 63 → served_by r bus heap left ≡ read_served r.first r.second r.third bus left
served_read r bus heap left number = rw number refl

pub read_arm : {T : Type 0} (r : Request) (bus : List AreaData) (heap : Heap) (s s' : SourceState) (o e : SinkState) (v : T) → r.number ≡ 63 → HasGiven s s' →
    ForInput s s' (λ left rest. rest ≡ (read_served r.first r.second r.third bus left).input) → s'.faults ≡ s.faults →
    Exchanged (serves r bus heap) (record { input = s; output = o; error = e }) (record { input = s'; output = o; error = e }) (Ok v)
read_arm r bus heap s s' o e v number gave reads quiet = record {
  gave = gave;
  input = λ left rest read. rw (served_read r bus heap left number) (sym (reads left rest read));
  output = λ left rest read. appends_none o.held _ (silent r bus heap left (λ other. absurd (omega (arith, number, other)))).0;
  error = λ left rest read. appends_none e.held _ (silent r bus heap left (λ other. absurd (omega (arith, number, other)))).1;
  output_prefix = tt;
  error_prefix = tt;
  failed_input = λ other. let never : ⊥ = cc in absurd never;
  failed_output = tt;
  failed_error = tt;
  unasked_output = λ left none. refl;
  unasked_error = λ left none. refl;
  causes = ok_causes (ap (λ (n : ℕ). let y : Faults = record { input = n; output = o.faults; error = e.faults } in y) quiet);
}

pub read_is_served : (r : Request) (bus bus' : List AreaData) (heap : Heap) (left : List ℕ) (v : ℕ) → r.number ≡ 63 → Some v ≡ (read_served r.first r.second r.third bus left).answer →
    bus' ≡ (read_served r.first r.second r.third bus left).bus → IsServed r (served_by r bus heap left) (Returned v) bus'
read_is_served r bus bus' heap left v number answer memory = rw (served_read r bus heap left number) (record { answered = ap (called_of r) answer; memory = memory })
