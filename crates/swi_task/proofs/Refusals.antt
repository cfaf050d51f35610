-- What stands after a refusal that changes nothing but the errors, for any command.
use Rattle.std.proofs.Common.{◌*◌, Bool, true, false, nat_lt, if◌then◌else◌, ◌≡◌, ◌⊎◌, inl, inr, ℕ, ◌+◌, ◌≤◌, ◌<◌, List, [], ◌∷◌, ◌++◌, ◌∙◌, length, Option, Some, None, Result, Ok, Err, IsErrOf, refl, sym, subst, ap, arith, OnErr}
use Rattle.std.proofs.lemmas.List.{append-nil, append_cancel_left, take_all}
use Rattle.std.proofs.lemmas.List.Elements.{All-nil, All-same}
use Rattle.std.specs.Option.{option_or}
use Rattle.std.specs.Prelude.{option_map, Vec, take, zip, ◌-◌, All}
use Rattle.std.specs.declared.alloc.Global.{Global}
use Rattle.swi_outside.specs.CacheRam.{RamState}
use Rattle.swi_outside.specs.Causes.{DeviceCause, Rose, counted, risen}
use Rattle.swi_outside.specs.Devices as outside
use Rattle.swi_outside.specs.Laws.{Appends-none, cause_from, no_cause, none_named}
use Rattle.swi_outside.specs.Shelf.{Asked, Contents, Passed, Same, ShelfState, Stands, IsLonger, WasGot, get_of}
use Rattle.swi_outside.specs.declared.shelf.ShelfError.{ShelfError}
use Rattle.swi_outside.specs.declared.shelf.ShelfError.TheVariants as error
use Rattle.swi_outside.specs.Source.{SourceState}
use Rattle.swi_elf_read.specs.declared.refusal.ElfRefusal.{ElfRefusal}
use Rattle.swi_elf_read.specs.Elf as elf
use Rattle.swi_image.specs.declared.refusal.ImageRefusal.{ImageRefusal}
use Rattle.swi_image.specs.Checks as image
use Rattle.swi_answer.specs.declared.answer.Ending.{Ending}
use Rattle.swi_answer.specs.declared.answer.Refusal.{Refusal}
use Rattle.swi_answer.specs.declared.answer.Refusal.TheVariants as refusal
use Rattle.swi_task.specs.Devices.{Devices, IsUntouched, stream_faults}
use Rattle.swi_task.specs.Causes.{HasCauses}
use Rattle.swi_task.specs.Checks.{Check, IsShort, IsAcceptedElf, HasRoom, HasImage, IsAcceptedImage, IsOwnImage, FitsBlocks, FitsUnlessImage, FitsMade, HoldsBlock, Fails, IsAccepted, IsRefusedBy, IsRefusedOr, Caches, NoCache, InRam, CountedFor, cache_limit, cache_refusal, file_limit, first_size_refusal, size_refusal}
use Rattle.swi_task.specs.Answers.{Answers, AreGiven, HasPassed, HasStored, IsAskedFor, IsChecked, IsLast, IsLastLonger, IsSized, IsSizeRefusal, IsRunFault, KeepsInput, KeepsRam, StandFirst, writes_in, KeepsShelf}
use Rattle.swi_task.specs.Files.{FileRead, answer_by}
use Rattle.swi_task.specs.Task.{AreFiles, GaveFirst, Task, TellsFile, TellsAll}

-- a refusal by a check of the file, or want of memory
abbrev pub IsLate : Refusal → Type 0
IsLate (refusal.FileLong limit) = Unit {0}
IsLate (refusal.Elf r) = Unit {0}
IsLate (refusal.Room end) = Unit {0}
IsLate refusal.NoImage = Unit {0}
IsLate (refusal.Image r) = Unit {0}
IsLate (refusal.Mismatch m) = Unit {0}
IsLate (refusal.Long address needs) = Unit {0}
IsLate (refusal.CacheSmall bytes least) = Unit {0}
IsLate refusal.Memory = Unit {0}
IsLate _ = ⊥

pub late_along : {r s : Refusal} → s ≡ r → IsLate r → IsLate s
late_along e h = subst IsLate (sym e) h

elf_late : (x : Option ElfRefusal) (r : Refusal) → option_map (λ e. refusal.Elf e) x ≡ Some r → IsLate r
elf_late None r e = absurd (let never : ⊥ = cc in never)
elf_late (Some x) r e = let p : refusal.Elf x ≡ r = cc in subst IsLate p tt

image_late : (x : Option ImageRefusal) (r : Refusal) → option_map (λ e. refusal.Image e) x ≡ Some r → IsLate r
image_late None r e = absurd (let never : ⊥ = cc in never)
image_late (Some x) r e = let p : refusal.Image x ≡ r = cc in subst IsLate p tt

fails_late : (c : Check) (r : Refusal) → Fails c r → IsLate r
fails_late (IsShort file) r h = late_along h.1 tt
fails_late (IsAcceptedElf file) r h = elf_late (elf.first_refusal file) r h
fails_late (HasRoom file limits) r h = late_along h.2 tt
fails_late (HasImage file) r h = late_along h.1 tt
fails_late (IsAcceptedImage file) r h = image_late (image.first_refusal h.0) r h.2
fails_late (IsOwnImage file) r h = late_along h.2.2 tt
fails_late (FitsBlocks file most) r h = late_along h.2 tt
fails_late (FitsUnlessImage file most) r h = late_along h.1.2 tt
fails_late (FitsMade seed functions most) r h = late_along h.2.2 tt
fails_late (HoldsBlock bytes least) r h = late_along h.1 tt

pub refused_late : (cs : List Check) (r : Refusal) → IsRefusedBy cs r → IsLate r
refused_late [] r h = absurd h
refused_late (c ∷ cs) r h = elim h [ inl a ↦ fails_late c r a | inr b ↦ refused_late cs r b.1 ]

pub checked_by : (cs : List Check) (last : Option Asked) (r : Refusal) → IsRefusedBy cs r → IsChecked cs last (Err r)
checked_by cs last (refusal.FileLong limit) h = tt
checked_by cs last (refusal.Elf r) h = h
checked_by cs last (refusal.Room end) h = h
checked_by cs last refusal.NoImage h = h
checked_by cs last (refusal.Image r) h = h
checked_by cs last (refusal.Mismatch m) h = h
checked_by cs last (refusal.Long address needs) h = h
checked_by cs last (refusal.CacheSmall bytes least) h = h
checked_by cs last refusal.Memory h = tt
checked_by cs last (refusal.CacheLarge bytes) h = tt
checked_by cs last (refusal.RamSmall bytes held) h = tt
checked_by cs last refusal.Usage h = refused_late cs refusal.Usage h
checked_by cs last refusal.ShelfFault h = absurd (refused_late cs refusal.ShelfFault h)
checked_by cs last refusal.SourceFault h = absurd (refused_late cs refusal.SourceFault h)
checked_by cs last refusal.SinkFault h = absurd (refused_late cs refusal.SinkFault h)
checked_by cs last refusal.RamFault h = absurd (refused_late cs refusal.RamFault h)

-- the lengths that are checked are those of files that are not too long
abbrev pub AreShort : List Check → Type 0
AreShort [] = Unit {0}
AreShort (IsShort file ∷ cs) = (length file ≤ file_limit) × AreShort cs
AreShort (c ∷ cs) = AreShort cs

abbrev pub IsTooLong : Refusal → Type 0
IsTooLong (refusal.FileLong limit) = Unit {0}
IsTooLong _ = ⊥

elf_short : (x : Option ElfRefusal) (r : Refusal) → option_map (λ e. refusal.Elf e) x ≡ Some r → IsTooLong r → ⊥
elf_short None r e long = let never : ⊥ = cc in never
elf_short (Some x) r e long = let p : r ≡ refusal.Elf x = cc in subst IsTooLong p long

image_short : (x : Option ImageRefusal) (r : Refusal) → option_map (λ e. refusal.Image e) x ≡ Some r → IsTooLong r → ⊥
image_short None r e long = let never : ⊥ = cc in never
image_short (Some x) r e long = let p : r ≡ refusal.Image x = cc in subst IsTooLong p long

pub short_refused : (cs : List Check) (r : Refusal) → AreShort cs → IsRefusedBy cs r → IsTooLong r → ⊥
short_refused [] r short h long = h
short_refused (IsShort file ∷ cs) r short (inl a) long = let within : length file ≤ file_limit = short.0 in omega (arith, a.0, within)
short_refused (IsAcceptedElf file ∷ cs) r short (inl a) long = elf_short (elf.first_refusal file) r a long
short_refused (HasRoom file limits ∷ cs) r short (inl a) long = subst IsTooLong a.2 long
short_refused (HasImage file ∷ cs) r short (inl a) long = subst IsTooLong a.1 long
short_refused (IsAcceptedImage file ∷ cs) r short (inl a) long = image_short (image.first_refusal a.0) r a.2 long
short_refused (IsOwnImage file ∷ cs) r short (inl a) long = subst IsTooLong a.2.2 long
short_refused (FitsBlocks file most ∷ cs) r short (inl a) long = subst IsTooLong a.2 long
short_refused (FitsUnlessImage file most ∷ cs) r short (inl a) long = subst IsTooLong a.1.2 long
short_refused (FitsMade seed functions most ∷ cs) r short (inl a) long = subst IsTooLong a.2.2 long
short_refused (HoldsBlock bytes least ∷ cs) r short (inl a) long = subst IsTooLong a.1 long
short_refused (IsShort file ∷ cs) r short (inr b) long = short_refused cs r short.1 b.1 long
short_refused (IsAcceptedElf file ∷ cs) r short (inr b) long = short_refused cs r short b.1 long
short_refused (HasRoom file limits ∷ cs) r short (inr b) long = short_refused cs r short b.1 long
short_refused (HasImage file ∷ cs) r short (inr b) long = short_refused cs r short b.1 long
short_refused (IsAcceptedImage file ∷ cs) r short (inr b) long = short_refused cs r short b.1 long
short_refused (IsOwnImage file ∷ cs) r short (inr b) long = short_refused cs r short b.1 long
short_refused (FitsBlocks file most ∷ cs) r short (inr b) long = short_refused cs r short b.1 long
short_refused (FitsUnlessImage file most ∷ cs) r short (inr b) long = short_refused cs r short b.1 long
short_refused (FitsMade seed functions most ∷ cs) r short (inr b) long = short_refused cs r short b.1 long
short_refused (HoldsBlock bytes least ∷ cs) r short (inr b) long = short_refused cs r short b.1 long

-- a refusal is no other
pub not_long : (r : Refusal) → (IsTooLong r → ⊥) → (limit : ℕ) → IsErrOf {T = Ending} (Err r) (refusal.FileLong limit) → ⊥
not_long r never limit is = never (let p : refusal.FileLong limit ≡ r = cc in subst IsTooLong p tt)

pub late_run : (r : Refusal) → IsLate r → IsRunFault r → ⊥
late_run refusal.SourceFault h f = h
late_run refusal.SinkFault h f = h
late_run refusal.RamFault h f = h
late_run _ h f = f

late_size : (r : Refusal) → IsLate r → IsSizeRefusal r → ⊥
late_size (refusal.CacheLarge bytes) h f = h
late_size (refusal.RamSmall bytes held) h f = h
late_size _ h f = f

pub refusal_is : {T : Type 0} {r q : Refusal} → ◌≡◌ {A = Result T Refusal} (Err r) (Err q) → r ≡ q
refusal_is e = cc

late_not : (r s : Refusal) → IsLate r → (IsLate s → ⊥) → IsErrOf {T = Ending} (Err r) s → ⊥
late_not r s h never e = never (let p : r ≡ s = cc in subst IsLate p h)

pub late_shelf : (r : Refusal) → IsLate r → IsErrOf {T = Ending} (Err r) refusal.ShelfFault → ⊥
late_shelf r h e = late_not r refusal.ShelfFault h (λ x. x) e

pub sized_ok : (e : Ending) → IsSized None (Ok e)
sized_ok e = record { refused = λ r x. absurd (let never : ⊥ = cc in never); only = tt }

pub sized_err : (r : Refusal) → (IsSizeRefusal r → ⊥) → IsSized None (Err r)
sized_err r never = record { refused = λ s x. absurd (let bad : ⊥ = cc in bad); only = λ s. absurd (never s) }

pub sized_late : (r : Refusal) → IsLate r → IsSized None (Err r)
sized_late r h = sized_err r (late_size r h)

pub sized_along : (x : Option Refusal) (result : Result Ending Refusal) → x ≡ None → IsSized None result → IsSized x result
sized_along x result e h = subst (λ (o : Option Refusal). IsSized o result) (sym e) h

-- ---- the causes of an answer

-- a device that failed
pub rose_cause : (n m : ℕ) (P : Type 0) → P → n ≤ m → Rose n m → DeviceCause n m P
rose_cause n m P p later rose = record { later = later; cause = λ _. rose; told = inr p }

-- one whose fault is not the answer did not fail
pub same_count : {n m : ℕ} {P : Type 0} → DeviceCause n m P → (P → ⊥) → m ≡ n
same_count h never = elim h.told [ inl e ↦ e | inr p ↦ absurd (never p) ]

pub causes_of : {T : Type 0} (d m : Devices) (r : Result T Refusal) → DeviceCause d.shelf.faults m.shelf.faults (IsErrOf r refusal.ShelfFault) →
    DeviceCause d.ram.faults m.ram.faults (IsErrOf r refusal.RamFault) →
    outside.HasCauses (stream_faults d) (stream_faults m) (IsErrOf r refusal.SourceFault) (IsErrOf r refusal.SinkFault) → HasCauses d m r
causes_of d m r shelf ram streams = record { shelf = shelf; ram = ram; streams = streams }

-- an answer that no device gave
abbrev pub IsOwn : {T : Type 0} → Result T Refusal → Type 0
IsOwn (Ok v) = Unit {0}
IsOwn (Err refusal.ShelfFault) = ⊥
IsOwn (Err refusal.SourceFault) = ⊥
IsOwn (Err refusal.SinkFault) = ⊥
IsOwn (Err refusal.RamFault) = ⊥
IsOwn (Err _) = Unit {0}

own_not : (T : Type 0) (r : Result T Refusal) (f : Refusal) → IsOwn r → (IsOwn {T = T} (Err f) → ⊥) → IsErrOf r f → ⊥
own_not T (Ok v) f own never e = cc
own_not T (Err r) f own never e = never (let p : r ≡ f = cc in subst (λ (x : Refusal). IsOwn {T = T} (Err x)) p own)

-- then no count rose
pub calm_causes : {T : Type 0} (d m : Devices) (r : Result T Refusal) → IsOwn r → m.shelf.faults ≡ d.shelf.faults → m.ram.faults ≡ d.ram.faults →
    stream_faults m ≡ stream_faults d → HasCauses d m r
calm_causes {T} d m r own shelf ram streams =
    causes_of d m r (no_cause shelf (own_not T r refusal.ShelfFault own (λ x. x))) (no_cause ram (own_not T r refusal.RamFault own (λ x. x)))
    (none_named streams (own_not T r refusal.SourceFault own (λ x. x)) (own_not T r refusal.SinkFault own (λ x. x)))

late_own : (r : Refusal) → IsLate r → IsOwn {T = Ending} (Err r)
late_own refusal.ShelfFault h = h
late_own refusal.SourceFault h = h
late_own refusal.SinkFault h = h
late_own refusal.RamFault h = h
late_own _ h = tt

-- the shelf failed
pub shelf_causes : (d : Devices) (s : ShelfState) → d.shelf.faults ≤ s.faults → Rose d.shelf.faults s.faults →
    HasCauses {T = Ending} d (record d { shelf = s }) (Err refusal.ShelfFault)
shelf_causes d s later rose =
    causes_of d (record d { shelf = s }) (Err refusal.ShelfFault) (rose_cause d.shelf.faults s.faults _ refl later rose) (no_cause refl (λ x. let never : ⊥ = cc in never))
    (none_named refl (λ x. let never : ⊥ = cc in never) (λ x. let never : ⊥ = cc in never))

-- the shelf was read, and the output failed
pub out_causes : (d m : Devices) → m.shelf.faults ≡ d.shelf.faults → m.ram.faults ≡ d.ram.faults → m.input.faults ≡ d.input.faults → m.error.faults ≡ d.error.faults →
    d.output.faults ≤ m.output.faults → Rose d.output.faults m.output.faults → HasCauses {T = Ending} d m (Err refusal.SinkFault)
out_causes d m shelf ram input error later rose =
    causes_of d m (Err refusal.SinkFault) (no_cause shelf (λ x. let never : ⊥ = cc in never)) (no_cause ram (λ x. let never : ⊥ = cc in never))
    (record {
      input = no_cause input (λ x. let never : ⊥ = cc in never);
      sinks = record { one_later = later; other_later = omega (arith, error); cause = λ _. inl rose; one_told = inr refl; other_told = inl error };
      once = λ x. let never : ⊥ = cc in absurd never;
    })

-- ---- what stays

pub untouched : (d : Devices) (s : ShelfState) → IsUntouched d (record d { shelf = s })
untouched d s = record { input = refl; output = refl; ram = refl }

pub keeps_ram : (caches : Caches) (r : RamState) → KeepsRam caches r r
keeps_ram NoCache r = refl
keeps_ram (InRam bytes) r = record { beyond = λ i h. refl; same_length = refl; reached = omega arith }
keeps_ram (CountedFor sizes) r = refl

pub keeps_input : (takes : Bool) (s : SourceState) → KeepsInput takes s s
keeps_input true s = tt
keeps_input false s = refl

pub told_is : (c : Option Contents) (name file bytes : List ℕ) → TellsFile c name file → Stands c name bytes → bytes ≡ file
told_is None name file bytes told stands = absurd told
told_is (Some m) name file bytes told stands = cc

-- a command reads the one file that it names
pub reads_one : (t : Task) (name : List ℕ) → t.reads ≡ name ∷ [] → IsLast t.reads 1 name
reads_one t name is = subst (λ (l : List (List ℕ)). IsLast l 1 name) (sym is) refl

-- ---- how often the shelf was asked

pub asked_none : (n : ℕ) → n ≡ risen n 0
asked_none n = grind arith

pub asked_twice : (n m k : ℕ) → m ≡ counted n → k ≡ counted m → k ≡ risen n 2
asked_twice n m k e f = grind arith

-- one file is read, and at most one written
pub one_late : (writes : ℕ) (failed : Option Asked) (r : Refusal) → IsLate r → IsAskedFor 1 writes failed (Err r) 1 0
one_late writes failed (refusal.FileLong limit) h = (omega arith, omega arith, refl)
one_late writes failed refusal.Memory h = (omega arith, omega arith, λ never. refl)
one_late writes failed (refusal.Elf r) h = ((omega arith, λ _. omega arith), refl)
one_late writes failed (refusal.Room end) h = ((omega arith, λ _. omega arith), refl)
one_late writes failed refusal.NoImage h = ((omega arith, λ _. omega arith), refl)
one_late writes failed (refusal.Image r) h = ((omega arith, λ _. omega arith), refl)
one_late writes failed (refusal.Mismatch m) h = ((omega arith, λ _. omega arith), refl)
one_late writes failed (refusal.Long address needs) h = ((omega arith, λ _. omega arith), refl)
one_late writes failed (refusal.CacheSmall bytes least) h = (refl, refl)
one_late writes failed _ h = absurd h

-- ---- the file was read

-- the causes of what was done behind it
pub causes_behind : {T : Type 0} (d : Devices) (s : ShelfState) (m : Devices) (r : Result T Refusal) → s.faults ≡ d.shelf.faults → HasCauses (record d { shelf = s }) m r → HasCauses d m r
causes_behind d s m r same h = record { shelf = cause_from same h.shelf; ram = h.ram; streams = h.streams }

pub record IsRead (before after : ShelfState) (name bytes : List ℕ) : Type 0 where
  pub same : Same before.contents after.contents
  pub stands : Stands before.contents name bytes
  pub within : length bytes ≤ file_limit
  pub got : after.got ≡ before.got ++ (name, bytes) ∷ []
  pub stored : after.stored ≡ before.stored
  pub asked : after.calls ≡ counted before.calls
  pub faults : after.faults ≡ before.faults
  pub last_failed : after.last_failed ≡ before.last_failed

pub was_read : {before after : ShelfState} {name : List ℕ} {v : Vec ℕ Global} → FileRead before after name (Ok v) → IsRead before after name v.items
was_read {before} {after} {name} {v} h = by h.answer h.got h.handed_on
  where
    by : (answer : Result (Vec ℕ Global) ShelfError) → WasGot before after name file_limit answer → Ok v ≡ answer_by answer → IsRead before after name v.items
    by (Ok w) got is =
        let calm = got.cause.quiet (λ e. let never : ⊥ = cc in never) in
        let same : w ≡ v = cc in
        subst (λ (x : Vec ℕ Global). IsRead before after name x.items) same
        (record {
          same = got.same;
          stands = got.content;
          within = got.within;
          got = got.gave;
          stored = got.none_stored;
          asked = got.asked;
          faults = calm.0;
          last_failed = calm.1;
        })
    by (Err e) got is = absurd (let never : ⊥ = cc in never)

-- the content that passed first
abbrev first_content : Passed → List ℕ
first_content [] = []
first_content (p ∷ ps) = p.1

-- the file that was given is the one that was read
pub read_is : {before middle after : ShelfState} {name bytes file : List ℕ} → IsRead before middle name bytes →
    GaveFirst (name ∷ []) (file ∷ []) before after ⊎ TellsAll before.contents (name ∷ []) (file ∷ []) → after.got ≡ middle.got → bytes ≡ file
read_is {before} {middle} {after} {name} {bytes} {file} read (inl gave) same =
    ap first_content (append_cancel_left before.got ((name, bytes) ∷ []) ((name, file) ∷ []) (sym read.got ∙ sym same ∙ gave.got))
read_is {before} {middle} {after} {name} {bytes} {file} read (inr tells) same = told_is before.contents name file bytes tells.0 read.stands

zip_same : (names xs ys : List (List ℕ)) → length xs ≤ length names → length ys ≤ length names → zip names xs ≡ zip names ys → xs ≡ ys
zip_same names [] [] few less same = refl
zip_same [] (x ∷ xs) ys few less same = absurd (omega (arith, few))
zip_same [] [] (y ∷ ys) few less same = absurd (omega (arith, less))
zip_same (n ∷ ns) [] (y ∷ ys) few less same = absurd (let never : ⊥ = cc in never)
zip_same (n ∷ ns) (x ∷ xs) [] few less same = absurd (let never : ⊥ = cc in never)
zip_same (n ∷ ns) (x ∷ xs) (y ∷ ys) few less same =
    let first : x ≡ y = ap first_content same in
    let rest : zip ns xs ≡ zip ns ys = cc in
    let more = zip_same ns xs ys (omega (arith, few)) (omega (arith, less)) rest in
    ap (λ (l : List (List ℕ)). x ∷ l) more ∙ ap (λ (z : List ℕ). z ∷ ys) first

-- what was given of these names is one list
pub gave_same : (names xs ys : List (List ℕ)) (before after : ShelfState) → GaveFirst names xs before after → GaveFirst names ys before after → xs ≡ ys
gave_same names xs ys before after one other =
    zip_same names xs ys one.few other.few (append_cancel_left before.got (zip names xs) (zip names ys) (sym one.got ∙ other.got))

-- one file was given, or none
pub gave_one : (t : Task) (before middle after : ShelfState) (name bytes : List ℕ) → t.reads ≡ name ∷ [] → IsRead before middle name bytes → after.got ≡ middle.got →
    GaveFirst t.reads (bytes ∷ []) before after
gave_one t before middle after name bytes is read same =
    subst (λ (l : List (List ℕ)). GaveFirst l (bytes ∷ []) before after) (sym is) (record { few = omega arith; got = same ∙ read.got })

pub zip_none : (names : List (List ℕ)) → ◌≡◌ {A = Passed} (zip names []) []
zip_none [] = refl
zip_none (name ∷ names) = refl

pub gave_none : (names : List (List ℕ)) (before after : ShelfState) → after.got ≡ before.got → GaveFirst names [] before after
gave_none names before after same = record {
  few = omega arith;
  got = same ∙ sym (append-nil before.got) ∙ ap (λ (l : Passed). before.got ++ l) (sym (zip_none names));
}

pub one_stood : (t : Task) (before after : ShelfState) (name bytes : List ℕ) → t.reads ≡ name ∷ [] → IsRead before after name bytes → StandFirst before.contents t.reads (bytes ∷ [])
one_stood t before after name bytes is read = subst (λ (l : List (List ℕ)). StandFirst before.contents l (bytes ∷ [])) (sym is) (read.stands, tt)

-- with such an answer all were given that were asked for
pub given_all : (n : ℕ) (failed : Option Asked) (r : Refusal) → IsLate r → (IsTooLong r → ⊥) → AreGiven failed (Err r) n n
given_all n failed (refusal.FileLong limit) h short = absurd (short tt)
given_all n failed (refusal.Elf r) h short = refl
given_all n failed (refusal.Room end) h short = refl
given_all n failed refusal.NoImage h short = refl
given_all n failed (refusal.Image r) h short = refl
given_all n failed (refusal.Mismatch m) h short = refl
given_all n failed (refusal.Long address needs) h short = refl
given_all n failed (refusal.CacheSmall bytes least) h short = refl
given_all n failed refusal.Memory h short = (omega arith, omega arith)
given_all n failed _ h short = absurd h

-- nor was it too long, where all were given
pub given_short : (failed : Option Asked) (r : Result Ending Refusal) (n : ℕ) → AreGiven failed r n n → (limit : ℕ) → IsErrOf r (refusal.FileLong limit) → ⊥
given_short failed r n given limit is =
    let more : n ≡ n + 1 = subst (λ (x : Result Ending Refusal). AreGiven failed x n n) is given in omega (arith, more)

-- a file that is too long is the one that was got last
abbrev pub IsLongLast : Task → Option Contents → Refusal → ℕ → Type 0
IsLongLast t contents r gets = (limit : ℕ) → IsErrOf {T = Ending} (Err r) (refusal.FileLong limit) → IsLastLonger contents t.reads gets limit

pub none_longer : (t : Task) (contents : Option Contents) (r : Refusal) (gets : ℕ) → (IsTooLong r → ⊥) → IsLongLast t contents r gets
none_longer t contents r gets never limit is = absurd (not_long r never limit is)

-- of no file, or one, none comes before the last
pub none_before : (t : Task) (n : ℕ) → All (λ file. IsAccepted (t.before_next file)) (take n [])
none_before t n = All-same (λ (file : List ℕ). IsAccepted (t.before_next file)) (take n []) [] (take_all n [] (omega arith)) (All-nil (λ (file : List ℕ). IsAccepted (t.before_next file)))

pub one_before : (t : Task) (bytes : List ℕ) → All (λ file. IsAccepted (t.before_next file)) (take (1 - 1) (bytes ∷ []))
one_before t bytes = All-nil (λ (file : List ℕ). IsAccepted (t.before_next file))

-- what passed where one file was read and none written
pub passed_one : (t : Task) (before after : ShelfState) (name bytes : List ℕ) (r : Result Ending Refusal) → t.reads ≡ name ∷ [] → IsRead before after name bytes →
    AreGiven after.last_failed r 1 1 → HasStored r t.writes before.stored before.stored → HasPassed t before after r 1
passed_one t before after name bytes r is read given stored = record {
  given = bytes ∷ [];
  gave = gave_one t before after after name bytes is read refl;
  all = given;
  stood = one_stood t before after name bytes is read;
  accepted = one_before t bytes;
  long = λ limit is. absurd (given_short after.last_failed r 1 given limit is);
  stored = subst (λ (s : Passed). HasStored r t.writes before.stored s) (sym read.stored) stored;
}

-- and where none was read
pub passed_none : (t : Task) (before after : ShelfState) (r : Refusal) (gets : ℕ) → after.got ≡ before.got → after.stored ≡ before.stored →
    AreGiven after.last_failed (Err r) gets 0 → IsLongLast t before.contents r gets → HasPassed t before after (Err r) gets
passed_none t before after r gets got stored given long = record {
  given = [];
  gave = gave_none t.reads before after got;
  all = given;
  stood = tt;
  accepted = none_before t (gets - 1);
  long = long;
  stored = stored;
}

-- a command that writes none stores nothing
pub stores_none : (r : Result Ending Refusal) (s : Passed) → HasStored r None s s
stores_none (Ok v) s = refl
stores_none (Err e) s = refl

-- what a command that read one file and writes none leaves of the shelf
pub keeps_read : (t : Task) (before after : ShelfState) (name bytes : List ℕ) (r : Result Ending Refusal) → t.reads ≡ name ∷ [] → t.writes ≡ None → IsRead before after name bytes →
    IsAskedFor 1 (writes_in t.writes) after.last_failed r 1 0 → AreGiven after.last_failed r 1 1 → (IsErrOf r refusal.ShelfFault → ⊥) → KeepsShelf t before after r
keeps_read t before after name bytes r is unwritten read asked given never = record {
  others = λ x _. read.same x;
  refused = on_err r (λ _. read.same);
  quiet = λ _. read.last_failed;
  failed = λ e. absurd (never e);
  gets = 1;
  puts = 0;
  calls = read.asked;
  asked = subst (λ (l : List (List ℕ)). IsAskedFor (length l) (writes_in t.writes) after.last_failed r 1 0) (sym is) asked;
  passed = passed_one t before after name bytes r is read given
      (subst (λ (o : Option (List ℕ)). HasStored r o before.stored before.stored) (sym unwritten) (stores_none r before.stored));
}
  where
    on_err : {P : Type 0} (r : Result Ending Refusal) → P → OnErr r P
    on_err (Ok v) p = tt
    on_err (Err e) p = p

-- ---- a refusal that is none by a device

-- a file that is too long is one that the shelf tells, and the first check that fails
abbrev pub IsLongBy : Task → Option Contents → Refusal → Type 0
IsLongBy t contents r = (limit : ℕ) → IsErrOf {T = Ending} (Err r) (refusal.FileLong limit) → (files : t.Files) → TellsAll contents t.reads (t.contents files) →
    IsRefusedBy (t.checks files) (refusal.FileLong limit)

pub none_long : (t : Task) (contents : Option Contents) (r : Refusal) → (IsTooLong r → ⊥) → IsLongBy t contents r
none_long t contents r never limit is = absurd (not_long r never limit is)

pub refused : (t : Task) (d : Devices) (s : ShelfState) (r : Refusal) (gets puts : ℕ) →
    (IsErrOf {T = Ending} (Err r) refusal.Usage → ⊥) → IsSized (cache_refusal t.caches (length d.ram.words)) (Err r) → (IsRunFault r → ⊥) → (IsErrOf {T = Ending} (Err r) refusal.ShelfFault → ⊥) →
    HasCauses {T = Ending} d (record d { shelf = s }) (Err r) → Same d.shelf.contents s.contents → s.last_failed ≡ d.shelf.last_failed →
    ((files : t.Files) → AreFiles t d.shelf s files → IsChecked (t.checks files) s.last_failed (Err r)) → IsLongBy t d.shelf.contents r →
    s.calls ≡ risen d.shelf.calls (gets + puts) → IsAskedFor (length t.reads) (writes_in t.writes) s.last_failed (Err r) gets puts →
    HasPassed t d.shelf s (Err r) gets → Answers t d (record d { shelf = s }) (Err r) []
refused t d s r gets puts asked sized calm shelf causes same last checked long calls asks passed = record {
  asked = asked;
  sized = sized;
  checked = checked;
  long = long;
  ended = tt;
  done = tt;
  failed = λ f. absurd (calm f);
  refused = λ _. (untouched d s, Appends-none d.error.held);
  shelf = record {
    others = λ name _. same name;
    refused = λ _. same;
    quiet = λ _. last;
    failed = λ e. absurd (shelf e);
    gets = gets;
    puts = puts;
    calls = calls;
    asked = asks;
    passed = passed;
  };
  input = keeps_input t.takes_input d.input;
  ram = keeps_ram t.caches d.ram;
  causes = causes;
}

pub late : (t : Task) (d : Devices) (s : ShelfState) (r : Refusal) (gets puts : ℕ) → IsLate r → cache_refusal t.caches (length d.ram.words) ≡ None →
    Same d.shelf.contents s.contents → s.faults ≡ d.shelf.faults → s.last_failed ≡ d.shelf.last_failed →
    ((files : t.Files) → AreFiles t d.shelf s files → IsChecked (t.checks files) s.last_failed (Err r)) → IsLongBy t d.shelf.contents r →
    s.calls ≡ risen d.shelf.calls (gets + puts) → IsAskedFor (length t.reads) (writes_in t.writes) s.last_failed (Err r) gets puts →
    HasPassed t d.shelf s (Err r) gets → Answers t d (record d { shelf = s }) (Err r) []
late t d s r gets puts h size same faults last checked long calls asks passed =
    refused t d s r gets puts (late_not r refusal.Usage h (λ x. x)) (sized_along _ _ size (sized_late r h)) (late_run r h) (late_shelf r h)
    (calm_causes d (record d { shelf = s }) (Err r) (late_own r h) faults refl refl) same last checked long calls asks passed

-- by a check of the file that was read, or for want of memory
pub check_refused : (t : Task) (d : Devices) (s : ShelfState) (name bytes : List ℕ) (files : t.Files) (r : Refusal) → cache_refusal t.caches (length d.ram.words) ≡ None →
    t.reads ≡ name ∷ [] → IsRead d.shelf s name bytes → AreShort (t.checks files) → ((others : t.Files) → AreFiles t d.shelf s others → files ≡ others) →
    IsRefusedOr (t.checks files) r → Answers t d (record d { shelf = s }) (Err r) []
check_refused t d s name bytes files r size is read short only why = elim why [
  | inl e ↦ subst (λ (x : Refusal). Answers t d (record d { shelf = s }) (Err x) []) (sym e) (so refusal.Memory tt (λ x. x) (λ _ _. tt))
  | inr by ↦ so r (refused_late (t.checks files) r by) (short_refused (t.checks files) r short by) (λ others are.
      subst (λ (f : t.Files). IsChecked (t.checks f) s.last_failed (Err r)) (only others are) (checked_by (t.checks files) s.last_failed r by))
]
  where
    so : (x : Refusal) → IsLate x → (IsTooLong x → ⊥) → ((others : t.Files) → AreFiles t d.shelf s others → IsChecked (t.checks others) s.last_failed (Err x)) →
        Answers t d (record d { shelf = s }) (Err x) []
    so x h never checked = late t d s x 1 0 h size read.same read.faults read.last_failed checked (none_long t d.shelf.contents x never) read.asked
        (subst (λ (l : List (List ℕ)). IsAskedFor (length l) (writes_in t.writes) s.last_failed (Err x) 1 0) (sym is) (one_late (writes_in t.writes) s.last_failed x h))
        (passed_one t d.shelf s name bytes (Err x) is read (given_all 1 s.last_failed x h never) refl)

-- ---- the file was not read

pub read_failed : (t : Task) (name : List ℕ) (d : Devices) (s : ShelfState) → t.reads ≡ name ∷ [] → cache_refusal t.caches (length d.ram.words) ≡ None →
    WasGot d.shelf s name file_limit (Err error.Failed) → Answers t d (record d { shelf = s }) (Err refusal.ShelfFault) []
read_failed t name d s is size got =
    let failed = got.cause.failed refl in record {
      asked = λ e. let bad : ⊥ = cc in bad;
      sized = sized_along _ _ size (sized_err refusal.ShelfFault (λ x. x));
      checked = λ files are. subst (λ (x : Option Asked). IsChecked (t.checks files) x (Err refusal.ShelfFault)) (sym failed.1) (λ put. absurd put);
      long = none_long t d.shelf.contents refusal.ShelfFault (λ x. x);
      ended = tt;
      done = tt;
      failed = λ f. absurd f;
      refused = λ _. (untouched d s, Appends-none d.error.held);
      shelf = record {
        others = λ x _. got.same x;
        refused = λ never. absurd (never refl);
        quiet = λ never. absurd (never refl);
        failed = λ _. inl (name, reads_one t name is, failed.1, got.same);
        gets = 1;
        puts = 0;
        calls = got.asked;
        asked = subst (λ (x : Option Asked). IsAskedFor (length t.reads) (writes_in t.writes) x (Err refusal.ShelfFault) 1 0) (sym failed.1)
            (subst (λ (l : List (List ℕ)). IsAskedFor (length l) (writes_in t.writes) (Some (get_of name)) (Err refusal.ShelfFault) 1 0) (sym is) (omega arith, omega arith, refl));
        passed = passed_none t d.shelf s refusal.ShelfFault 1 got.gave got.none_stored
            (subst (λ (x : Option Asked). AreGiven x (Err refusal.ShelfFault) 1 0) (sym failed.1) (omega arith)) (none_longer t d.shelf.contents refusal.ShelfFault 1 (λ x. x));
      };
      input = keeps_input t.takes_input d.input;
      ram = keeps_ram t.caches d.ram;
      causes = shelf_causes d s got.cause.later failed.0;
    }

longer_is : (c : Option Contents) (name file : List ℕ) (limit : ℕ) → TellsFile c name file → IsLonger c name limit → limit < length file
longer_is None name file limit told longer = absurd told
longer_is (Some m) name file limit told longer =
    let same : longer.0 ≡ file = cc in subst (λ (f : List ℕ). limit < length f) same longer.2

-- then its length is refused
pub too_long : (c : Option Contents) (name file : List ℕ) → IsLonger c name file_limit → TellsFile c name file → Fails (IsShort file) (refusal.FileLong file_limit)
too_long c name file longer told = (longer_is c name file file_limit told longer, refl)

-- the shelf failed, it was too long, or there was no memory for it
pub read_refused : (t : Task) (name : List ℕ) (d : Devices) (s : ShelfState) (r : Refusal) → t.reads ≡ name ∷ [] → cache_refusal t.caches (length d.ram.words) ≡ None →
    (IsLonger d.shelf.contents name file_limit → (files : t.Files) → TellsAll d.shelf.contents t.reads (t.contents files) → IsRefusedBy (t.checks files) (refusal.FileLong file_limit)) →
    FileRead d.shelf s name (Err r) → Answers t d (record d { shelf = s }) (Err r) []
read_refused t name d s r is size long h = by h.answer h.got h.handed_on
  where
    calm : (e : ShelfError) (x : Refusal) → (e ≡ error.Failed → ⊥) → IsLate x → WasGot d.shelf s name file_limit (Err e) →
        ((files : t.Files) → AreFiles t d.shelf s files → IsChecked (t.checks files) s.last_failed (Err x)) → IsLongBy t d.shelf.contents x →
        IsLongLast t d.shelf.contents x 1 → AreGiven s.last_failed (Err x) 1 0 → Answers t d (record d { shelf = s }) (Err x) []
    calm e x never h got checked long longer given =
        let quiet = got.cause.quiet (λ y. never (let same : e ≡ error.Failed = cc in same)) in
        late t d s x 1 0 h size got.same quiet.0 quiet.1 checked long got.asked
        (subst (λ (l : List (List ℕ)). IsAskedFor (length l) (writes_in t.writes) s.last_failed (Err x) 1 0) (sym is) (one_late (writes_in t.writes) s.last_failed x h))
        (passed_none t d.shelf s x 1 got.gave got.none_stored given longer)

    by : (answer : Result (Vec ℕ Global) ShelfError) → WasGot d.shelf s name file_limit answer → Err r ≡ answer_by answer → Answers t d (record d { shelf = s }) (Err r) []
    by (Ok v) got same = absurd (let never : ⊥ = cc in never)
    by (Err error.Failed) got same =
        let e : r ≡ refusal.ShelfFault = cc in
        subst (λ (x : Refusal). Answers t d (record d { shelf = s }) (Err x) []) (sym e) (read_failed t name d s is size got)
    by (Err error.Long) got same =
        let e : r ≡ refusal.FileLong file_limit = cc in
        subst (λ (x : Refusal). Answers t d (record d { shelf = s }) (Err x) []) (sym e)
        (calm error.Long (refusal.FileLong file_limit) (λ x. let never : ⊥ = cc in never) tt got (λ _ _. tt)
        (λ limit is files tells. subst (λ (n : ℕ). IsRefusedBy (t.checks files) (refusal.FileLong n)) (let same : file_limit ≡ limit = cc in same) (long (got.long refl) files tells))
        (λ limit is'. subst (λ (n : ℕ). IsLastLonger d.shelf.contents t.reads 1 n) (let same : file_limit ≡ limit = cc in same) (name, reads_one t name is, got.long refl))
        (omega arith))
    by (Err error.Memory) got same =
        let e : r ≡ refusal.Memory = cc in
        subst (λ (x : Refusal). Answers t d (record d { shelf = s }) (Err x) []) (sym e)
        (calm error.Memory refusal.Memory (λ x. let never : ⊥ = cc in never) tt got (λ _ _. tt) (none_long t d.shelf.contents refusal.Memory (λ x. x)) (none_longer t d.shelf.contents refusal.Memory 1 (λ x. x))
        (omega arith, omega arith))

-- ---- nothing happened yet

pub same_all : (c : Option Contents) → Same c c
same_all None name = tt
same_all (Some m) name = refl

pub contents_stay : (d : Devices) → Same d.shelf.contents d.shelf.contents
contents_stay d = same_all d.shelf.contents

pub memory_at_once : (t : Task) (d : Devices) → Answers t d d (Err refusal.Memory) []
memory_at_once t d = refused t d d.shelf refusal.Memory 0 0 (late_not refusal.Memory refusal.Usage tt (λ x. x))
    (record { refused = λ r _. inr refl; only = λ f. absurd f }) (λ f. f) (late_shelf refusal.Memory tt) (calm_causes d d (Err refusal.Memory) tt refl refl refl) (contents_stay d) refl (λ _ _. tt)
    (none_long t d.shelf.contents refusal.Memory (λ x. x)) (asked_none d.shelf.calls) (omega arith, omega arith, λ some. absurd (omega (arith, some)))
    (passed_none t d.shelf d.shelf refusal.Memory 0 refl refl (omega arith, omega arith) (none_longer t d.shelf.contents refusal.Memory 0 (λ x. x)))

-- a size is refused
size_is : (bytes words : ℕ) (r : Refusal) → size_refusal bytes words ≡ Some r → IsSizeRefusal r
size_is bytes words r e = by (nat_lt cache_limit bytes) (nat_lt (4 * words) bytes) e
  where
    by : (large small : Bool) →
        (if large then Some (refusal.CacheLarge bytes) else if small then Some (refusal.RamSmall bytes (4 * words)) else None) ≡ Some r → IsSizeRefusal r
    by true small e = let p : refusal.CacheLarge bytes ≡ r = cc in subst IsSizeRefusal p tt
    by false true e = let p : refusal.RamSmall bytes (4 * words) ≡ r = cc in subst IsSizeRefusal p tt
    by false false e = absurd (let never : ⊥ = cc in never)

sized_so : (x : Option Refusal) (r : Refusal) → x ≡ Some r → IsSized x (Err r)
sized_so x r e = record { refused = λ s is. inl (let same : r ≡ s = cc in ap (λ (y : Refusal). Err y) same); only = λ _. e }

either_is : (x y : Option Refusal) (r : Refusal) → option_or x y ≡ Some r → (x ≡ Some r → IsSizeRefusal r) → (y ≡ Some r → IsSizeRefusal r) → IsSizeRefusal r
either_is None y r e first rest = rest e
either_is (Some s) y r e first rest = first e

sizes_are : (sizes : List ℕ) (words : ℕ) (r : Refusal) → first_size_refusal sizes words ≡ Some r → IsSizeRefusal r
sizes_are [] words r e = absurd (let never : ⊥ = cc in never)
sizes_are (bytes ∷ sizes) words r e =
    either_is (size_refusal bytes words) (first_size_refusal sizes words) r e (λ this. size_is bytes words r this) (λ rest. sizes_are sizes words r rest)

cache_is : (caches : Caches) (words : ℕ) (r : Refusal) → cache_refusal caches words ≡ Some r → IsSizeRefusal r
cache_is NoCache words r e = absurd (let never : ⊥ = cc in never)
cache_is (InRam bytes) words r e = size_is bytes words r e
cache_is (CountedFor sizes) words r e = sizes_are sizes words r e

pub size_refused : (t : Task) (d : Devices) (r : Refusal) → cache_refusal t.caches (length d.ram.words) ≡ Some r → Answers t d d (Err r) []
size_refused t d r e = by r (cache_is t.caches (length d.ram.words) r e) e
  where
    by : (r : Refusal) → IsSizeRefusal r → cache_refusal t.caches (length d.ram.words) ≡ Some r → Answers t d d (Err r) []
    by (refusal.CacheLarge bytes) h e =
        refused t d d.shelf (refusal.CacheLarge bytes) 0 0 (λ x. let never : ⊥ = cc in never) (sized_so _ _ e) (λ x. x) (λ x. let never : ⊥ = cc in never)
        (calm_causes d d (Err (refusal.CacheLarge bytes)) tt refl refl refl) (contents_stay d) refl (λ _ _. tt) (none_long t d.shelf.contents (refusal.CacheLarge bytes) (λ x. x))
        (asked_none d.shelf.calls) (refl, refl) (passed_none t d.shelf d.shelf (refusal.CacheLarge bytes) 0 refl refl refl (none_longer t d.shelf.contents (refusal.CacheLarge bytes) 0 (λ x. x)))
    by (refusal.RamSmall bytes held) h e =
        refused t d d.shelf (refusal.RamSmall bytes held) 0 0 (λ x. let never : ⊥ = cc in never) (sized_so _ _ e) (λ x. x) (λ x. let never : ⊥ = cc in never)
        (calm_causes d d (Err (refusal.RamSmall bytes held)) tt refl refl refl) (contents_stay d) refl (λ _ _. tt) (none_long t d.shelf.contents (refusal.RamSmall bytes held) (λ x. x))
        (asked_none d.shelf.calls) (refl, refl) (passed_none t d.shelf d.shelf (refusal.RamSmall bytes held) 0 refl refl refl (none_longer t d.shelf.contents (refusal.RamSmall bytes held) 0 (λ x. x)))
    by _ h e = absurd h
