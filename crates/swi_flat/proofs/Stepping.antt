-- Steps by micro-ops, and by instructions that store into the text, are steps of the definition.
use Rattle.std.proofs.Common.{Vec, length, subst, ◌≡◌, ℕ, ◌+◌, ◌<◌, ◌≤◌, List, get_or, Option, Some, refl, sym, ap, ◌∙◌}
use Rattle.std.specs.Vec.{with_items}
use Rattle.std.proofs.lemmas.List.{with_items_is}
use Rattle.swi_isa.specs.Decode.{decoded}
use Rattle.swi_isa.specs.declared.instr.Instr.{Instr}
use Rattle.swi_isa.specs.declared.instr.Instr.TheVariants.{Ecall}
use Rattle.swi_memory.specs.declared.word_range.WordRange.{WordRange}
use Rattle.swi_memory.specs.WordRange.{IsWordRange}
use Rattle.swi_memory.specs.Bus.{AreaData, fetched}
use Rattle.swi_exec.specs.Arithmetic.{sum_of}
use Rattle.swi_exec.specs.Execute.{Effect, executed}
use Rattle.swi_exec.specs.Laws.{IsStore, executed_beside, store_next}
use Rattle.swi_exec.specs.Registers.{Registers}
use Rattle.swi_exec.specs.StoresText.{text_access_of}
use Rattle.swi_exec.specs.declared.done.Done.{Done}
use Rattle.swi_exec.specs.declared.done.Done.TheVariants.{Next}
use Rattle.swi_calls.specs.Flat.{call_made, made}
use Rattle.swi_calls.specs.declared.machine.Machine.{Machine}
use Rattle.swi_micro.specs.declared.translator.MicroOp.{MicroOp}
use Rattle.swi_micro.specs.Decoded.{AreDecoded, AreSameBeside, IsOpOf}
use Rattle.swi_micro.specs.MicroOp.{address_at, micro_op_of}
use Rattle.swi_micro.specs.Ran.{ran}
use Rattle.swi_micro.specs.Stored.{wrote}
use Rattle.swi_micro.proofs.Agreeing.{Steps, steps, steps_at}
use Rattle.swi_micro.proofs.Storing.{Stores, store_agrees, store_beside}
use Rattle.swi_micro.proofs.Sums.{next_address}
use Rattle.swi_flat.specs.Advanced.{GoesOnAt, StandsAt}

-- the step at a word is that of its instruction
pub executes : (pc : ℕ) (regs regs' : Registers) (bus bus' : List AreaData) (word next : ℕ) (i : Instr) → fetched bus pc ≡ Some word → decoded word ≡ Some i →
    executed i pc regs bus ≡ record { done = Next next; regs = regs'; bus = bus' } → GoesOnAt pc regs bus next regs' bus'
unfolding made
executes pc regs regs' bus bus' word next i stands decodes does m input = rw (stands, decodes, does) refl

-- a step that goes on at a word of the range, or behind the last
pub record Stepped (range : WordRange) (k : ℕ) (regs : Registers) (bus : List AreaData) (next : ℕ) (regs' : Registers) (bus' : List AreaData) : Type 0 where
  pub goes : GoesOnAt (address_at range k) regs bus (address_at range next) regs' bus'
  pub within : next ≤ range.words

-- by a micro-op
by_op : (range : WordRange) (k : ℕ) (m : MicroOp) (regs regs' : Registers) (bus bus' : List AreaData) (next : ℕ) → Steps (fetched bus) range k m regs bus next →
    regs' ≡ (ran range m k regs bus).regs → bus' ≡ (ran range m k regs bus).bus → Stepped range k regs bus next regs' bus'
by_op range k m regs regs' bus bus' next s same_regs same_bus = record {
  goes = executes (address_at range k) regs regs' bus bus' s.word (address_at range next) s.instruction s.stands s.decodes (rw (same_regs, same_bus) s.same.effect);
  within = s.same.within;
}

-- the micro-op that is made of the word that is fetched
pub op_made : (bus : List AreaData) (range : WordRange) (k pc word : ℕ) (i : Instr) (m : MicroOp) (found : Option ℕ) (read : Option Instr) → pc ≡ address_at range k → found ≡ fetched bus pc → found ≡ Some word →
    read ≡ decoded word → read ≡ Some i → m ≡ micro_op_of range k i → IsOpOf (fetched bus) range k m
op_made bus range k pc word i m found read at fetches stands decodes is made = record {
  word = word;
  instruction = i;
  stands = ap (fetched bus) (sym at) ∙ sym fetches ∙ stands;
  decodes = sym decodes ∙ is;
  is = made;
}

-- the step by it
pub stepped : (range : WordRange) (k : ℕ) (m : MicroOp) (regs regs' : Registers) (bus bus' : List AreaData) (r : Option ℕ) (next : ℕ) → IsWordRange range → k < range.words → IsOpOf (fetched bus) range k m →
    r ≡ (ran range m k regs bus).next → r ≡ Some next → regs' ≡ (ran range m k regs bus).regs → bus' ≡ (ran range m k regs bus).bus → Stepped range k regs bus next regs' bus'
stepped range k m regs regs' bus bus' r next whole here is went goes same_regs same_bus =
    by_op range k m regs regs' bus bus' next (steps (fetched bus) range k m regs bus next whole here is (sym went ∙ goes)) same_regs same_bus

-- that at any index, the one behind the last word's included
pub stepped_at : (range : WordRange) (ops : List MicroOp) (k : ℕ) (m : MicroOp) (regs regs' : Registers) (bus bus' : List AreaData) (r : Option ℕ) (next : ℕ) → AreDecoded (fetched bus) range ops → k ≤ range.words → m ≡ get_or ops k m →
    r ≡ (ran range m k regs bus).next → r ≡ Some next → regs' ≡ (ran range m k regs bus).regs → bus' ≡ (ran range m k regs bus).bus → Stepped range k regs bus next regs' bus'
stepped_at range ops k m regs regs' bus bus' r next d bound is went goes same_regs same_bus =
    by_op range k m regs regs' bus bus' next (steps_at (fetched bus) range ops k m regs bus next d bound is (sym went ∙ goes)) same_regs same_bus

-- that of a store or an atomic instruction, by itself
pub store_goes : (range : WordRange) (k : ℕ) (i : Instr) (regs regs' : Registers) (bus bus' : List AreaData) (pc next : ℕ) (d : Done) → pc ≡ address_at range k → StandsAt bus range k i → IsStore i →
    d ≡ (executed i pc regs bus).done → d ≡ Next next → regs' ≡ (executed i pc regs bus).regs → bus' ≡ (executed i pc regs bus).bus → GoesOnAt (address_at range k) regs bus (address_at range (k + 1)) regs' bus'
store_goes range k i regs regs' bus bus' pc next d at stands stores does_is goes same_regs same_bus =
    let (word, here, decodes) = stands in
    let on : next ≡ address_at range (k + 1) = store_next i pc regs bus next stores (sym does_is ∙ goes) ∙ ap (λ a. sum_of a 4) at ∙ sym (next_address range k) in
    let e : Effect = record { done = Next (address_at range (k + 1)); regs = regs'; bus = bus' } in
    let does : executed i pc regs bus ≡ e = rw (← on, ← goes, does_is, same_regs, same_bus) refl in
    executes (address_at range k) regs regs' bus bus' word (address_at range (k + 1)) i here decodes (rw (← at) does)

-- and what it leaves of the words, where it stores into the text
pub fetches_beside : (i : Instr) (pc : ℕ) (regs : Registers) (bus bus' : List AreaData) (stored : Option ℕ) (a : ℕ) → stored ≡ text_access_of i regs bus → stored ≡ Some a → bus' ≡ (executed i pc regs bus).bus → AreSameBeside (fetched bus) (fetched bus') a
fetches_beside i pc regs bus bus' stored a is stores same x beside = ap (λ b. fetched b x) same ∙ executed_beside i pc regs bus a (sym is ∙ stores) x beside

-- the step by a micro-op that stores, and what it leaves of the words
pub stores_at : (range : WordRange) (ops : List MicroOp) (k : ℕ) (m : MicroOp) (regs : Registers) (bus bus' : List AreaData) (at : Option ℕ) (a : ℕ) → AreDecoded (fetched bus) range ops → k < range.words → m ≡ get_or ops k m →
    at ≡ (wrote m regs bus).at → at ≡ Some a → bus' ≡ (wrote m regs bus).bus → GoesOnAt (address_at range k) regs bus (address_at range (k + 1)) regs bus'
stores_at range ops k m regs bus bus' at a d here is stores made same =
    let s : Stores (fetched bus) range k m regs bus = store_agrees (fetched bus) range ops k m regs bus a d here is (sym stores ∙ made) in
    executes (address_at range k) regs regs bus bus' s.word (address_at range (k + 1)) s.instruction s.stands s.decodes (rw same s.effect)

pub stores_beside : (m : MicroOp) (regs : Registers) (bus bus' : List AreaData) (at : Option ℕ) (a : ℕ) → at ≡ (wrote m regs bus).at → at ≡ Some a → bus' ≡ (wrote m regs bus).bus → AreSameBeside (fetched bus) (fetched bus') a
stores_beside m regs bus bus' at a stores made same x beside = ap (λ b. fetched b x) same ∙ store_beside m regs bus a (sym stores ∙ made) x beside

-- the step of a system call
pub calls : (m : Machine) (regs : Registers) (bus : List AreaData) (word : ℕ) (i : Instr) (found : Option ℕ) (read : Option Instr) → found ≡ fetched m.bus m.pc → found ≡ Some word → read ≡ decoded word → read ≡ Some i → i ≡ Ecall → regs ≡ m.regs → bus ≡ m.bus →
    (left : List ℕ) → call_made (record m { regs = regs; bus = bus }) left ≡ made m left
unfolding made
calls m regs bus word i found read fetches stands decodes reads is same_regs same_bus left = rw (← fetches, stands, ← decodes, reads, is, same_regs, same_bus) refl

-- micro-ops that are written back to their vector
pub written_back : {Z : Type 0} (bus : List AreaData) (range : WordRange) (v : Vec MicroOp Z) (ops : List MicroOp) → length ops ≡ v.len → AreDecoded (fetched bus) range ops →
    AreDecoded (fetched bus) range (with_items v ops).items
written_back bus range v ops all d = subst (λ l. AreDecoded (fetched bus) range l) (sym (with_items_is v ops all)) d
