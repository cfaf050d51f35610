-- Two answers to one command over devices of which none failed.
use Rattle.std.specs.Prelude.{◌≡◌, ℕ, ◌/◌, ◌^◌, ◌<◌, ◌≤◌, ◌++◌, List, All, length, slice_index, Some, Result, Err, OnOk, IsErrOf, ⊤}
use Rattle.std.specs.Io.KnownBytes.{Appends}
use Rattle.swi_outside.specs.CacheRam.{RamState}
use Rattle.swi_outside.specs.Shelf.{Passed}
use Rattle.swi_outside.specs.Sink.{SinkState}
use Rattle.swi_check.specs.declared.mismatch.Mismatch.TheVariants as mismatch
use Rattle.swi_command.specs.CommandLine.{Request}
use Rattle.swi_answer.specs.declared.answer.Ending.{Ending}
use Rattle.swi_answer.specs.declared.answer.Refusal.{Refusal}
use Rattle.swi_answer.specs.declared.answer.Refusal.TheVariants as refusal
use Rattle.swi_task.specs.Answers.{AnswersWithLine}
use Rattle.swi_task.specs.Checks.{Caches, NoCache, InRam, CountedFor}
use Rattle.swi_task.specs.Devices.{Devices}
use Rattle.swi_task.specs.Task.{AreFiles}
use Rattle.swi_top.specs.Alike.{NoneRose}
use Rattle.swi_top.specs.Tasks.{task_of}
use Rattle.swi_answer_laws.specs.Placed.{StandAlike, IsLeftBy, Standing}

-- ---- what is asked, and what comes of it

-- a command as it is asked for: its words, the contents of its files, the bytes of its input, and the ram
pub record Given : Type 0 where
  pub request : Request
  pub files : (task_of request).Files
  pub input : List ℕ
  pub ram : RamState

-- what it answered, and the devices before and after it
pub record Answer : Type 0 where
  pub before : Devices
  pub after : Devices
  pub result : Result Ending Refusal

-- a number of a refusal that is a word has 32 bits
abbrev pub HasWord : Result Ending Refusal → Type 0
HasWord (Err (refusal.Mismatch (mismatch.Word block offset held required))) = required < 2 ^ 32
HasWord _ = ⊤

-- numbers are as their types have them: what is stored under a name is bytes
pub record IsTyped (a : Answer) : Type 0 where
  pub stored : All (λ p. (i : ℕ) → slice_index p.1 i < 256) a.after.shelf.stored
  pub refused : HasWord a.result

-- it is the answer of `top` to what was asked; all its files were given, or are told; no device failed, and there was memory
pub record IsAnswerTo (g : Given) (a : Answer) : Type 0 where
  pub answers : AnswersWithLine (task_of g.request) a.before a.after a.result
  pub are : AreFiles (task_of g.request) a.before.shelf a.after.shelf g.files
  pub all : length ((task_of g.request).contents g.files) ≡ length (task_of g.request).reads
  pub input : a.before.input.left ≡ Some g.input
  pub ram : a.before.ram ≡ g.ram
  pub quiet : NoneRose a.before a.after
  pub memory : IsErrOf a.result refusal.Memory → ⊥
  pub typed : IsTyped a

-- ---- what two of them have in common

-- two sinks gained the same bytes
abbrev pub GainAlike : (before after before_ after_ : SinkState) → Type 0
GainAlike before after before_ after_ = (bytes : List ℕ) × Appends before.held after.held bytes × Appends before_.held after_.held bytes

-- two shelves stored the same under the same names
abbrev pub StoreAlike : (before after before_ after_ : Passed) → Type 0
StoreAlike before after before_ after_ = (more : Passed) × (after ≡ before ++ more) × (after_ ≡ before_ ++ more)

-- the words of the ram in which a command's cache stands
abbrev pub cache_words : Caches → ℕ
cache_words NoCache = 0
cache_words (InRam bytes) = bytes / 4
cache_words (CountedFor sizes) = 0

-- two rams have counted the same, and the same words were fetched from them in the same order; behind the cache they hold the same
pub record RamsAlike (words : ℕ) (one other : RamState) : Type 0 where
  pub fetches : one.fetches ≡ other.fetches
  pub sets : one.sets ≡ other.sets
  pub fetched_at : one.fetched_at ≡ other.fetched_at
  pub beyond : (i : ℕ) → words ≤ i → slice_index one.words i ≡ slice_index other.words i

-- Two answers are the same, and leave the same: the bytes that each sink gained and that are stored under OUT, what is left of the input, and
-- the ram, in which every placed block stands in the same words where the command has ended, and which else no block ever had.
pub record IsSameAnswer (g : Given) (a b : Answer) : Type 0 where
  pub result : a.result ≡ b.result
  pub output : GainAlike a.before.output a.after.output b.before.output b.after.output
  pub error : GainAlike a.before.error a.after.error b.before.error b.after.error
  pub left : a.after.input.left ≡ b.after.input.left
  pub stored : StoreAlike a.before.shelf.stored a.after.shelf.stored b.before.shelf.stored b.after.shelf.stored
  pub ram : RamsAlike (cache_words (task_of g.request).caches) a.after.ram b.after.ram
  pub placed : OnOk a.result ((s : Standing) → IsLeftBy g.request g.files g.input s → StandAlike s a.after.ram.words b.after.ram.words)

-- what is asked has one answer
abbrev pub AnswersAreOne : Type 0
AnswersAreOne = (g : Given) (a b : Answer) → IsAnswerTo g a → IsAnswerTo g b → IsSameAnswer g a b
