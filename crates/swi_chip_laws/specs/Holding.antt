-- What the memory of a chip holds of a cache: the words of the ram, but for those behind links, where a service may keep what it likes. A
-- chip is a processor with such a memory, a trap vector and a service. Own rule.
use Rattle.std.specs.Prelude.{◌≡◌, ℕ, ◌+◌, ◌*◌, ◌^◌, ◌<◌, ◌≤◌, true, List, Some, None, slice_index}
use Rattle.swi_isa.specs.declared.instr.Instr.TheVariants as instr
use Rattle.swi_isa.specs.Decode.{decoded}
use Rattle.swi_exec.specs.Execute.{executed}
use Rattle.swi_exec.specs.declared.done.Done.TheVariants as done
use Rattle.swi_image.specs.Format.{ImageData}
use Rattle.swi_image.specs.Place.{word_at, length_at}
use Rattle.swi_rom.specs.Record.{Record, Placed, ebreak, is_linked}
use Rattle.swi_rom.specs.Coherent.{Coherent, TargetAt}
use Rattle.swi_hart.specs.declared.hart.Stage.{Stage}
use Rattle.swi_hart.specs.declared.hart.Control.TheVariants.{At}
use Rattle.swi_hart.specs.Hart.{HartData}
use Rattle.swi_hart.specs.Leaving.{JalrAt}
use Rattle.swi_hart.specs.Matching.{Fits}

-- the word at an index stands behind a link: it is the descriptor of the exit
pub record BehindLink (r : Record) (i : ℕ) : Type 0 where
  pub block : ℕ
  pub offset : ℕ
  pub first : ℕ
  pub is_link : is_linked r block offset ≡ true
  pub stands : Placed r block first
  pub index : i ≡ first + offset + 1

-- the word at an index is one of a placed block
pub record InPlaced (v : ImageData) (r : Record) (i : ℕ) : Type 0 where
  pub block : ℕ
  pub offset : ℕ
  pub first : ℕ
  pub stands : Placed r block first
  pub inside : offset < length_at v block
  pub index : i ≡ first + offset

-- a memory holds these words of the placed blocks, but for those behind links
pub record HoldsWords (v : ImageData) (r : Record) (words held : List ℕ) : Type 0 where
  pub same : (i : ℕ) → InPlaced v r i → (BehindLink r i → ⊥) → slice_index held i ≡ slice_index words i

-- the word at index i is under control of a hart that goes on, and that the image fits, over a coherent ram of at most 8 MiB
pub record Under (v : ImageData) (r : Record) (span : ℕ) (words : List ℕ) (h : HartData) (i b o : ℕ) (stage : Stage) : Type 0 where
  pub coherent : Coherent v r span words
  pub small : span ≤ 2 ^ 21
  pub fits : Fits v r h
  pub running : h.machine.ending ≡ None
  pub short : h.machine.pc < 2 ^ 32
  pub control : h.control ≡ At i b o stage

-- The processor fetches the word that the model's hart fetches.
abbrev pub FetchesHeld : Type 0
FetchesHeld = (v : ImageData) (r : Record) (span : ℕ) (words held : List ℕ) (h : HartData) (i b o : ℕ) (stage : Stage) → Under v r span words h i b o stage → HoldsWords v r words held →
    slice_index held i ≡ slice_index words i

-- At an EBREAK stands the image's exit, behind it its descriptor, and behind a JALR the value that it links.
pub record ReadsBehind (v : ImageData) (held : List ℕ) (i b o : ℕ) : Type 0 where
  pub exit : word_at v b o ≡ ebreak
  pub descriptor : slice_index held (i + 1) ≡ word_at v b (o + 1)
  pub value : JalrAt v b o → slice_index held (i + 2) ≡ word_at v b (o + 2)

abbrev pub ReadsExits : Type 0
ReadsExits = (v : ImageData) (r : Record) (span : ℕ) (words held : List ℕ) (h : HartData) (i b o : ℕ) (stage : Stage) → Under v r span words h i b o stage → HoldsWords v r words held →
    slice_index held i ≡ ebreak → ReadsBehind v held i b o

-- At a linked exit stands a JAL x0, which at its address, 4i, leads to that of its target's place, and leaves all as it is.
pub record LeadsOn (v : ImageData) (r : Record) (w i b o : ℕ) : Type 0 where
  pub offset : ℕ
  pub is : decoded w ≡ Some (instr.Jal 0 offset)
  pub to : ℕ
  pub target : TargetAt v r (word_at v b (o + 1)) to
  pub jumps : (h : HartData) → executed (instr.Jal 0 offset) (4 * i) h.machine.regs h.machine.bus ≡ record { done = done.Next (4 * to); regs = h.machine.regs; bus = h.machine.bus }

abbrev pub LinksLead : Type 0
LinksLead = (v : ImageData) (r : Record) (span : ℕ) (words held : List ℕ) (h : HartData) (i b o : ℕ) (stage : Stage) → Under v r span words h i b o stage → HoldsWords v r words held →
    is_linked r b o ≡ true → LeadsOn v r (slice_index held i) i b o
