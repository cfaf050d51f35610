-- A shelf over a folder: what it asks of the folder, and what it tells.
use Rattle.std.specs.Prelude.{◌≡◌, ◌⊎◌, ℕ, ◌+◌, false, Option, Result, Ok, Err}
use Rattle.swi_outside.specs.Shelf.{Contents, ShelfState}
use Rattle.swi_outside.specs.declared.shelf.ShelfError.{ShelfError}
use Rattle.swi_outside.specs.declared.shelf.ShelfError.TheVariants.{Failed, Long, Memory}
use Rattle.swi_devices.specs.ShelfLog.{passed_in}
use Rattle.swi_devices.specs.Stored.{last_asked}
use Rattle.swi_devices.specs.declared.folder_shelf.FolderShelf.{FolderShelf}
use Rattle.swi_devices.specs.declared.watched.Watched.{Watched}
use Rattle.swi_devices.specs.declared.watched_folder.WatchedFolder.{WatchedFolder}

-- how often a folder was asked to open, to create and to close a file; how often a file that it opened was read behind its end; and how many
-- of all calls of the folder, and of the files that it opened and created, failed
pub record FolderCalls : Type 0 where
  pub opens : ℕ
  pub creates : ℕ
  pub closes : ℕ
  pub late : ℕ
  pub failures : ℕ

-- after one call more
abbrev pub opened : FolderCalls → FolderCalls
opened c = record c { opens = c.opens + 1 }

abbrev pub created : FolderCalls → FolderCalls
created c = record c { creates = c.creates + 1 }

abbrev pub closed : FolderCalls → FolderCalls
closed c = record c { closes = c.closes + 1 }

-- the call failed
abbrev pub failed : FolderCalls → FolderCalls
failed c = record c { failures = c.failures + 1 }

-- the call answered so
abbrev pub answered : {T E : Type 0} → FolderCalls → Result T E → FolderCalls
answered c (Ok v) = c
answered c (Err e) = failed c

-- a file that was not asked yet
abbrev pub unasked : {T : Type 0} → T → Watched T
unasked file = record { device = file; ended = false; asks = 0; late = 0; failures = 0 }

-- with the counts of a file that came back
abbrev pub with_file : {T : Type 0} → FolderCalls → Watched T → FolderCalls
with_file c file = record c { late = c.late + file.late; failures = c.failures + file.failures }

-- those of a watched folder, and of a shelf over a folder
abbrev pub calls_of : {D : Type 0} → WatchedFolder D → FolderCalls
calls_of f = record { opens = f.opens; creates = f.creates; closes = f.closes; late = f.late; failures = f.failures }

abbrev pub asked_by : {D : Type 0} → FolderShelf D → FolderCalls
asked_by s = calls_of s.folder

-- such a shelf as a shelf, over a folder whose contents are told so
abbrev pub shelf_of : {D : Type 0} → (D → Option Contents) → FolderShelf D → ShelfState
shelf_of contents s = record {
  contents = contents s.folder.folder;
  got = passed_in s.got.value;
  stored = passed_in s.stored.value;
  calls = s.calls;
  faults = s.faults;
  last_failed = last_asked s.last;
}

-- What a get asks, by its answer: to open the file, once. Just where it answers Failed a call failed, and that alone; no file was read
-- behind its end. Where there was no memory for the name it asks nothing.
abbrev pub GetAsks : {T : Type 0} → FolderCalls → FolderCalls → Result T ShelfError → Type 0
GetAsks old new (Ok v) = new ≡ opened old
GetAsks old new (Err Failed) = new ≡ failed (opened old)
GetAsks old new (Err Long) = new ≡ opened old
GetAsks old new (Err Memory) = (new ≡ old) ⊎ (new ≡ opened old)

-- one call of a put failed: as the file was created or written, or as it was closed
abbrev pub BreaksOff : FolderCalls → FolderCalls → Type 0
BreaksOff old new = (new ≡ failed (created old)) ⊎ (new ≡ failed (closed (created old)))

-- What a put asks, by its answer: to create the file, and, where the file took all, to close it, each once. Just where it answers Failed a call
-- failed, and that alone.
abbrev pub PutAsks : {T : Type 0} → FolderCalls → FolderCalls → Result T ShelfError → Type 0
PutAsks old new (Ok v) = new ≡ closed (created old)
PutAsks old new (Err Failed) = BreaksOff old new
PutAsks old new (Err Long) = ⊥
PutAsks old new (Err Memory) = new ≡ old

-- how often a file has failed, after a call of a shelf that answered so
abbrev pub file_failures : {T : Type 0} → ℕ → Result T ShelfError → ℕ
file_failures n (Ok v) = n
file_failures n (Err Failed) = n + 1
file_failures n (Err Long) = n
file_failures n (Err Memory) = n
