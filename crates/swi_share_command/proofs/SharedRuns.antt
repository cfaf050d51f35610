-- From what programs do over a cache to what the command `share` answers.
use Rattle.std.proofs.Common.{◌≡◌, ◌⊎◌, inl, inr, ℕ, ◌+◌, ◌-◌, ◌*◌, ◌<◌, ◌≤◌, List, [], ◌∷◌, length, Option, None, Result, Ok, Err, IsErrOf, refl, sym, ap, subst, arith}
use Rattle.std.specs.Prelude.{OnErr}
use Rattle.std.specs.List.{AllZip}
use Rattle.std.proofs.lemmas.List.Elements.{All-take}
use Rattle.std.specs.Io.KnownBytes.{Appends}
use Rattle.swi_outside.specs.CacheRam.{RamState}
use Rattle.swi_outside.specs.Causes.{risen}
use Rattle.swi_outside.specs.Laws.{Appends-none}
use Rattle.swi_outside.specs.Shelf.{Asked, Contents, Passed, ShelfState}
use Rattle.swi_outside.specs.Sink.{SinkState}
use Rattle.swi_elf_read.specs.Loaded.{image_of as image_in}
use Rattle.swi_command.specs.declared.command.CacheOptions.{CacheOptions}
use Rattle.swi_command.specs.declared.command.RunLimits.{RunLimits}
use Rattle.swi_command.specs.declared.command.ShareOptions.{ShareOptions}
use Rattle.swi_share.specs.declared.process.Guest.{Guest}
use Rattle.swi_share.specs.Starting.{most_words}
use Rattle.swi_answer.specs.declared.answer.Ending.{Ending}
use Rattle.swi_answer.specs.declared.answer.Refusal.{Refusal}
use Rattle.swi_answer.specs.declared.answer.Refusal.TheVariants as refusal
use Rattle.swi_task.specs.Answers.{Answers, AreGiven, HasPassed, HasStored, IsAskedFor, IsChecked, IsLastLonger, IsSizeRefusal, KeepsShelf, writes_in}
use Rattle.swi_task.specs.Checks.{Check, HoldsBlock, Fails, IsAccepted, IsRefusedBy, size_refusal}
use Rattle.swi_task.specs.Devices.{Devices}
use Rattle.swi_task.specs.Over.{IsUnfedErr}
use Rattle.swi_share_command.specs.RunShared.{AreGuestsOf, FilesRead, FilesRefused, FilesUnread, FirstRead, GotSome, IsFileRefusal, IsGuestFile, IsGuestOf, IsRefusedSo, ShareFailed, Shares, SharesOver, ShelfBroke, files_checks, limits_by, most_block, share_checks, share_task}
use Rattle.swi_task.specs.Task.{GaveFirst, Task, TellsAll}
use Rattle.swi_task.proofs.Images.{front_fails, size_is}
use Rattle.swi_task.proofs.Lines.{IsLined, appends_last, done_lined, holds_then}
use Rattle.swi_task.proofs.Refusals.{IsLate, IsLongLast, IsTooLong, causes_behind, checked_by, gave_same, given_short, keeps_ram, late, none_long, none_longer, shelf_causes, sized_along, sized_err, sized_ok, stores_none, untouched}
use Rattle.swi_share_command.proofs.SharedFiles.{accepted_all, accepted_both, as_many, files_same, given_refused, refused_behind, stand_all}

-- ---- the last line behind it

cut_line : (o : ShareOptions) (bytes : ℕ) (guests : List Guest) (d m : Devices) (r : Refusal) (held : Option (List ℕ)) (line : List ℕ) →
    ShareFailed o bytes guests d m r [] → Appends m.error.held held line → ShareFailed o bytes guests d (holds_then m held) r line
cut_line o bytes guests d m r held line h p = record {
  broke = elim h.broke [
    | inl b ↦ inl (record {
      made = b.made;
      fewer = b.fewer;
      broke = elim b.broke [
        | inl a ↦ inl (record {
          fault = a.fault;
          output_front = a.output_front;
          output_least = a.output_least;
          output = a.output;
          error_front = a.error_front;
          error_least = a.error_least;
          error = appends_last d.error.held m.error.held held _ line a.error p;
          output_unasked = a.output_unasked;
          error_unasked = a.error_unasked;
          more = a.more;
          ahead = a.ahead;
          next_words = a.next_words;
          words = a.words;
        })
        | inr a ↦ inr (record {
          fault = a.fault;
          fetched = a.fetched;
          fetches = a.fetches;
          least = a.least;
          most = a.most;
          words = a.words;
          output = a.output;
          error = appends_last d.error.held m.error.held held _ line a.error p;
          last_failed = a.last_failed;
        })
      ];
    })
    | inr a ↦ inr (record {
      fault = a.fault;
      output_front = a.output_front;
      output = a.output;
      error = appends_last d.error.held m.error.held held _ line a.error p;
      ram = a.ram;
      cause = a.cause;
    })
  ];
  input = h.input;
  beyond = h.beyond;
}

pub share_lined : (names : List (List ℕ)) (cache : CacheOptions) (o : ShareOptions) → IsLined (share_task names cache o)
share_lined names cache o =
    done_lined (share_task names cache o) (λ e is. is) (λ files d m r held line h p. (h.0, h.1, cut_line o cache.cache_bytes h.0 d m r held line h.2 p))

-- ---- the shelf

on_err : {P : Type 0} (r : Result Ending Refusal) → P → OnErr r P
on_err (Ok v) p = tt
on_err (Err e) p = p

keeps_files : (t : Task) (before after : ShelfState) (n : ℕ) (r : Result Ending Refusal) → GotSome n before after →
    IsAskedFor (length t.reads) (writes_in t.writes) after.last_failed r n 0 → HasPassed t before after r n → (IsErrOf r refusal.ShelfFault → ⊥) → KeepsShelf t before after r
keeps_files t before after n r got asked passed never = record {
  others = λ name _. got.same name;
  refused = on_err r (λ _. got.same);
  quiet = λ _. got.last_failed;
  failed = λ e. absurd (never e);
  gets = n;
  puts = 0;
  calls = let none : n ≡ n + 0 = omega arith in subst (λ (k : ℕ). after.calls ≡ risen before.calls k) none got.calls;
  asked = asked;
  passed = passed;
}

-- what passed: all files, or the first of them
passed_all : (names : List (List ℕ)) (cache : CacheOptions) (o : ShareOptions) (before after : ShelfState) (read : List (List ℕ)) (r : Result Ending Refusal) →
    FilesRead (limits_by o) cache.block_words names before after read → AreGiven after.last_failed r (length names) (length read) → HasPassed (share_task names cache o) before after r (length names)
passed_all names cache o before after read r h all = record {
  given = read;
  gave = h.gave;
  all = all;
  stood = stand_all before.contents names read h.stand;
  accepted = All-take (IsGuestFile (limits_by o) cache.block_words) (length names - 1) read h.accepted;
  long = λ limit is. absurd (given_short after.last_failed r (length names) (subst (λ (n : ℕ). AreGiven after.last_failed r (length names) n) (as_many before.contents names read h.stand) all) limit is);
  stored = subst (λ (s : Passed). HasStored r None before.stored s) (sym h.got.stored) (stores_none r before.stored);
}

passed_first : (names : List (List ℕ)) (cache : CacheOptions) (o : ShareOptions) (before after : ShelfState) (gets : ℕ) (given : List (List ℕ)) (r : Refusal) → FirstRead (limits_by o) cache.block_words names gets given before after →
    AreGiven after.last_failed (Err r) gets (length given) → IsLongLast (share_task names cache o) before.contents r gets → HasPassed (share_task names cache o) before after (Err r) gets
passed_first names cache o before after gets given r h all long = record { given = given; gave = h.gave; all = all; stood = h.stood; accepted = h.accepted; long = long; stored = h.stored }

-- ---- a check of a file

file_late : (r : Refusal) → IsFileRefusal r → IsLate r
file_late (refusal.FileLong limit) h = tt
file_late (refusal.Elf r) h = tt
file_late (refusal.Room end) h = tt
file_late (refusal.Image r) h = tt
file_late (refusal.Mismatch m) h = tt
file_late (refusal.Long address needs) h = tt
file_late refusal.Memory h = tt
file_late _ h = absurd h

file_asked : (reads gets : ℕ) (failed : Option Asked) (r : Refusal) → IsFileRefusal r → 0 < gets → gets ≤ reads → IsAskedFor reads 0 failed (Err r) gets 0
file_asked reads gets failed (refusal.FileLong limit) h some few = (some, few, refl)
file_asked reads gets failed (refusal.Elf r) h some few = ((few, λ _. some), refl)
file_asked reads gets failed (refusal.Room end) h some few = ((few, λ _. some), refl)
file_asked reads gets failed (refusal.Image r) h some few = ((few, λ _. some), refl)
file_asked reads gets failed (refusal.Mismatch m) h some few = ((few, λ _. some), refl)
file_asked reads gets failed (refusal.Long address needs) h some few = ((few, λ _. some), refl)
file_asked reads gets failed refusal.Memory h some few = (few, omega arith, λ never. absurd (let bad : ⊥ = omega (arith, never) in bad))
file_asked reads gets failed _ h some few = absurd h

-- ---- the files could not be read, or one of them is refused

memory_checked : (checks : List Check) (last : Option Asked) (r : Refusal) → r ≡ refusal.Memory → IsChecked checks last (Err r)
memory_checked checks last r e = subst (λ (x : Refusal). IsChecked checks last (Err x)) (sym e) tt

-- how many were given, and which check refuses them
refused_given : (limits : RunLimits) (most : ℕ) (names : List (List ℕ)) (contents : Option Contents) (gets : ℕ) (given : List (List ℕ)) (failed : Option Asked) (r : Refusal) → IsFileRefusal r →
    IsRefusedSo limits most names contents gets given r → AreGiven failed (Err r) gets (length given)
refused_given limits most names contents gets given failed (refusal.FileLong limit) h why = why.0
refused_given limits most names contents gets given failed refusal.Memory h why = why
refused_given limits most names contents gets given failed (refusal.Elf r) h why = why.0
refused_given limits most names contents gets given failed (refusal.Room end) h why = why.0
refused_given limits most names contents gets given failed (refusal.Image r) h why = why.0
refused_given limits most names contents gets given failed (refusal.Mismatch m) h why = why.0
refused_given limits most names contents gets given failed (refusal.Long address needs) h why = why.0
refused_given limits most names contents gets given failed _ h why = absurd h

refused_checks : (limits : RunLimits) (most : ℕ) (names : List (List ℕ)) (contents : Option Contents) (gets : ℕ) (given : List (List ℕ)) (r : Refusal) → IsFileRefusal r →
    IsRefusedSo limits most names contents gets given r → (r ≡ refusal.Memory) ⊎ (IsTooLong r ⊎ IsRefusedBy (files_checks limits most given) r)
refused_checks limits most names contents gets given (refusal.FileLong limit) h why = inr (inl tt)
refused_checks limits most names contents gets given refusal.Memory h why = inl refl
refused_checks limits most names contents gets given (refusal.Elf r) h why = inr (inr why.1)
refused_checks limits most names contents gets given (refusal.Room end) h why = inr (inr why.1)
refused_checks limits most names contents gets given (refusal.Image r) h why = inr (inr why.1)
refused_checks limits most names contents gets given (refusal.Mismatch m) h why = inr (inr why.1)
refused_checks limits most names contents gets given (refusal.Long address needs) h why = inr (inr why.1)
refused_checks limits most names contents gets given _ h why = absurd h

long_checked : (checks : List Check) (last : Option Asked) (r : Refusal) → IsTooLong r → IsChecked checks last (Err r)
long_checked checks last (refusal.FileLong limit) h = tt
long_checked checks last _ h = absurd h

refused_long : (limits : RunLimits) (most : ℕ) (names : List (List ℕ)) (contents : Option Contents) (gets : ℕ) (given : List (List ℕ)) (r : Refusal) → IsRefusedSo limits most names contents gets given r →
    (limit : ℕ) → IsErrOf {T = Ending} (Err r) (refusal.FileLong limit) → (files : List (List ℕ)) → TellsAll contents names files → IsRefusedBy (files_checks limits most files) (refusal.FileLong limit)
refused_long limits most names contents gets given r why limit is =
    let same : r ≡ refusal.FileLong limit = cc in
    (subst (λ (x : Refusal). IsRefusedSo limits most names contents gets given x) same why).2

refused_last : (limits : RunLimits) (most : ℕ) (names : List (List ℕ)) (contents : Option Contents) (gets : ℕ) (given : List (List ℕ)) (r : Refusal) → IsRefusedSo limits most names contents gets given r →
    (limit : ℕ) → IsErrOf {T = Ending} (Err r) (refusal.FileLong limit) → IsLastLonger contents names gets limit
refused_last limits most names contents gets given r why limit is =
    let same : r ≡ refusal.FileLong limit = cc in
    (subst (λ (x : Refusal). IsRefusedSo limits most names contents gets given x) same why).1

-- the files of the command, or the first of them, are refused so
first_refused : (names : List (List ℕ)) (cache : CacheOptions) (o : ShareOptions) (before after : ShelfState) (gets : ℕ) (given files : List (List ℕ)) (r : Refusal) →
    FirstRead (limits_by o) cache.block_words names gets given before after →
    GaveFirst names files before after ⊎ TellsAll before.contents names files → IsRefusedBy (files_checks (limits_by o) cache.block_words given) r → IsRefusedBy (share_checks cache o files) r
first_refused names cache o before after gets given files r h are by = front_fails (files_checks (limits_by o) cache.block_words files) _ r (elim are [
  | inl gave ↦ subst (λ (l : List (List ℕ)). IsRefusedBy (files_checks (limits_by o) cache.block_words l) r) (gave_same names given files before after h.gave gave) by
  | inr tells ↦ given_refused (limits_by o) cache.block_words before.contents r names given files h.stood tells by
])

pub files_refused : (names : List (List ℕ)) (cache : CacheOptions) (o : ShareOptions) (d : Devices) (s : ShelfState) (r : Refusal) → size_refusal cache.cache_bytes (length d.ram.words) ≡ None →
    FilesRefused (limits_by o) cache.block_words names d.shelf s r → Answers (share_task names cache o) d (record d { shelf = s }) (Err r) []
files_refused names cache o d s r size h =
    late (share_task names cache o) d s r h.gets 0 (file_late r h.by_file) size h.got.same h.got.faults h.got.last_failed
    (λ files are. elim (refused_checks (limits_by o) cache.block_words names d.shelf.contents h.gets h.given r h.by_file h.why) [
      | inl e ↦ memory_checked (share_checks cache o files) s.last_failed r e
      | inr by ↦ elim by [
        | inl long ↦ long_checked (share_checks cache o files) s.last_failed r long
        | inr by ↦ checked_by (share_checks cache o files) s.last_failed r (first_refused names cache o d.shelf s h.gets h.given files r h.read are by)
      ]
    ])
    (λ limit is files tells. front_fails (files_checks (limits_by o) cache.block_words files) _ (refusal.FileLong limit)
    (refused_long (limits_by o) cache.block_words names d.shelf.contents h.gets h.given r h.why limit is files tells))
    (let none : h.gets ≡ h.gets + 0 = omega arith in subst (λ (k : ℕ). s.calls ≡ risen d.shelf.calls k) none h.got.calls)
    (file_asked (length names) h.gets s.last_failed r h.by_file h.some h.few)
    (passed_first names cache o d.shelf s h.gets h.given r h.read (refused_given (limits_by o) cache.block_words names d.shelf.contents h.gets h.given s.last_failed r h.by_file h.why)
    (refused_last (limits_by o) cache.block_words names d.shelf.contents h.gets h.given r h.why))

pub shelf_broke : (names : List (List ℕ)) (cache : CacheOptions) (o : ShareOptions) (d : Devices) (s : ShelfState) → size_refusal cache.cache_bytes (length d.ram.words) ≡ None →
    ShelfBroke (limits_by o) cache.block_words names d.shelf s → Answers (share_task names cache o) d (record d { shelf = s }) (Err refusal.ShelfFault) []
shelf_broke names cache o d s size h = record {
  asked = λ e. let bad : ⊥ = cc in bad;
  sized = sized_along _ _ size (sized_err refusal.ShelfFault (λ x. x));
  checked = λ files are. subst (λ (x : Option Asked). IsChecked (share_checks cache o files) x (Err refusal.ShelfFault)) (sym h.last_failed) (λ put. absurd put);
  long = none_long (share_task names cache o) d.shelf.contents refusal.ShelfFault (λ x. x);
  ended = tt;
  done = tt;
  failed = λ f. absurd f;
  refused = λ _. (untouched d s, Appends-none d.error.held);
  shelf = record {
    others = λ x _. h.same x;
    refused = λ never. absurd (never refl);
    quiet = λ never. absurd (never refl);
    failed = λ _. inl (h.name, h.asked, h.last_failed, h.same);
    gets = h.gets;
    puts = 0;
    calls = let none : h.gets ≡ h.gets + 0 = omega arith in subst (λ (k : ℕ). s.calls ≡ risen d.shelf.calls k) none h.calls;
    asked = subst (λ (x : Option Asked). IsAskedFor (length names) 0 x (Err refusal.ShelfFault) h.gets 0) (sym h.last_failed) (h.some, h.few, refl);
    passed = passed_first names cache o d.shelf s h.gets h.given refusal.ShelfFault h.read
        (subst (λ (x : Option Asked). AreGiven x (Err refusal.ShelfFault) h.gets (length h.given)) (sym h.last_failed) h.but_one)
        (none_longer (share_task names cache o) d.shelf.contents refusal.ShelfFault h.gets (λ x. x));
  };
  input = refl;
  ram = keeps_ram (share_task names cache o).caches d.ram;
  causes = shelf_causes d s h.later h.cause;
}

pub files_unread : (names : List (List ℕ)) (cache : CacheOptions) (o : ShareOptions) (d : Devices) (s : ShelfState) (r : Refusal) → size_refusal cache.cache_bytes (length d.ram.words) ≡ None →
    FilesUnread (limits_by o) cache.block_words names d.shelf s r → Answers (share_task names cache o) d (record d { shelf = s }) (Err r) []
files_unread names cache o d s r size why = elim why [
  | inl b ↦ subst (λ (x : Refusal). Answers (share_task names cache o) d (record d { shelf = s }) (Err x) []) (sym b.0) (shelf_broke names cache o d s size b.1)
  | inr h ↦ files_refused names cache o d s r size h
]

-- ---- behind the files

-- the most words of a block, as the programs have them
pub most_is : (limits : RunLimits) (most : ℕ) (files : List (List ℕ)) (guests : List Guest) → AllZip (IsGuestOf limits most) files guests → most_words guests ≡ most_block most files
unfolding most_words most_block
most_is limits most [] [] h = refl
most_is limits most [] (x ∷ xs) h = absurd h
most_is limits most (file ∷ files) [] h = absurd h
most_is limits most (file ∷ files) (x ∷ xs) h =
    let one = size_is file most (image_in file) x.image h.0.image in
    let rest = most_is limits most files xs h.1 in
    rw (one, rest) refl

-- the cache holds no block of some program
pub cache_small : (names : List (List ℕ)) (cache : CacheOptions) (o : ShareOptions) (d : Devices) (s : ShelfState) (read : List (List ℕ)) (guests : List Guest) (r : Refusal) → size_refusal cache.cache_bytes (length d.ram.words) ≡ None →
    FilesRead (limits_by o) cache.block_words names d.shelf s read → AreGuestsOf cache o read guests → Fails (HoldsBlock cache.cache_bytes (4 * most_words guests)) r →
    Answers (share_task names cache o) d (record d { shelf = s }) (Err r) []
cache_small names cache o d s read guests r size h made fails =
    late (share_task names cache o) d s r (length names) 0 (subst IsLate (sym fails.1) tt) size h.got.same h.got.faults h.got.last_failed
    (λ files are. checked_by (share_checks cache o files) s.last_failed r
    (subst (λ (fs : List (List ℕ)). IsRefusedBy (share_checks cache o fs) r) (files_same (limits_by o) cache.block_words names d.shelf s read files h are)
    (refused_behind (files_checks (limits_by o) cache.block_words read) _ r (accepted_all (limits_by o) cache.block_words read h.accepted)
    (inl (subst (λ (n : ℕ). Fails (HoldsBlock cache.cache_bytes (4 * n)) r) (most_is (limits_by o) cache.block_words read guests made) fails)))))
    (none_long (share_task names cache o) d.shelf.contents r (λ long. subst IsTooLong fails.1 long))
    (let none : length names ≡ length names + 0 = omega arith in subst (λ (k : ℕ). s.calls ≡ risen d.shelf.calls k) none h.got.calls)
    (subst (λ (x : Refusal). IsAskedFor (length names) 0 s.last_failed (Err x) (length names) 0) (sym fails.1) (refl, refl))
    (passed_all names cache o d.shelf s read (Err r) h (subst (λ (x : Refusal). AreGiven s.last_failed (Err x) (length names) (length read)) (sym fails.1) (sym (as_many d.shelf.contents names read h.stand))))

-- ---- the run

abbrev pub shared_to : Devices → ShelfState → SinkState → SinkState → RamState → Devices
shared_to d s out e ram = record d { shelf = s; output = out; error = e; ram = ram }

shares_again : (o : ShareOptions) (bytes : ℕ) (guests : List Guest) (d m : Devices) (s : ShelfState) (e : Ending) → Shares o bytes guests (record d { shelf = s }) m e [] → Shares o bytes guests d m e []
shares_again o bytes guests d m s e h = record { ending = h.ending; output = h.output; error = h.error; input = h.input; ram = h.ram; alone = h.alone; pieces = h.pieces; wrote = h.wrote }

failed_again : (o : ShareOptions) (bytes : ℕ) (guests : List Guest) (d m : Devices) (s : ShelfState) (r : Refusal) → ShareFailed o bytes guests (record d { shelf = s }) m r [] → ShareFailed o bytes guests d m r []
failed_again o bytes guests d m s r h = record {
  broke = elim h.broke [
    | inl b ↦ inl (record {
      made = b.made;
      fewer = b.fewer;
      broke = elim b.broke [
        | inl a ↦ inl (record { fault = a.fault; output_front = a.output_front; output_least = a.output_least; output = a.output; error_front = a.error_front; error_least = a.error_least; error = a.error; output_unasked = a.output_unasked; error_unasked = a.error_unasked; more = a.more; ahead = a.ahead; next_words = a.next_words; words = a.words })
        | inr a ↦ inr (record { fault = a.fault; fetched = a.fetched; fetches = a.fetches; least = a.least; most = a.most; words = a.words; output = a.output; error = a.error; last_failed = a.last_failed })
      ];
    })
    | inr a ↦ inr (record { fault = a.fault; output_front = a.output_front; output = a.output; error = a.error; ram = a.ram; cause = a.cause })
  ];
  input = h.input;
  beyond = h.beyond;
}

err_not : (r s : Refusal) → IsUnfedErr r → (IsUnfedErr s → ⊥) → IsErrOf {T = Ending} (Err r) s → ⊥
err_not r s h never e = never (let p : r ≡ s = cc in subst IsUnfedErr p h)

err_size : (r : Refusal) → IsUnfedErr r → IsSizeRefusal r → ⊥
err_size (refusal.CacheLarge bytes) h f = h
err_size (refusal.RamSmall bytes held) h f = h
err_size _ h f = f

err_asked : (reads : ℕ) (failed : Option Asked) (r : Refusal) → IsUnfedErr r → IsAskedFor reads 0 failed (Err r) reads 0
err_asked reads failed refusal.SinkFault h = (refl, refl)
err_asked reads failed refusal.RamFault h = (refl, refl)
err_asked reads failed refusal.Memory h = (omega arith, omega arith, λ _. refl)
err_asked reads failed _ h = absurd h

err_checked : (checks : List Check) (last : Option Asked) (r : Refusal) → IsUnfedErr r → IsAccepted checks → IsChecked checks last (Err r)
err_checked checks last refusal.SinkFault h passed = passed
err_checked checks last refusal.RamFault h passed = passed
err_checked checks last refusal.Memory h passed = tt
err_checked checks last _ h passed = absurd h

-- all checks pass
passes_all : (names : List (List ℕ)) (cache : CacheOptions) (o : ShareOptions) (before after : ShelfState) (read : List (List ℕ)) (guests : List Guest) (files : List (List ℕ)) →
    FilesRead (limits_by o) cache.block_words names before after read → GaveFirst names files before after ⊎ TellsAll before.contents names files →
    AreGuestsOf cache o read guests → 4 * most_words guests ≤ cache.cache_bytes → IsAccepted (share_checks cache o files) × AreGuestsOf cache o files guests
passes_all names cache o before after read guests files h are made holds =
    subst (λ (fs : List (List ℕ)). IsAccepted (share_checks cache o fs) × AreGuestsOf cache o fs guests) (files_same (limits_by o) cache.block_words names before after read files h are) (
      accepted_both (files_checks (limits_by o) cache.block_words read) _ (accepted_all (limits_by o) cache.block_words read h.accepted)
          (subst (λ (n : ℕ). 4 * n ≤ cache.cache_bytes) (most_is (limits_by o) cache.block_words read guests made) holds, tt),
      made,
    )

err_given : (failed : Option Asked) (n k : ℕ) (r : Refusal) → IsUnfedErr r → n ≡ k → AreGiven failed (Err r) n k
err_given failed n k refusal.SinkFault h same = same
err_given failed n k refusal.RamFault h same = same
err_given failed n k refusal.Memory h same = (omega (arith, same), omega (arith, same))
err_given failed n k _ h same = absurd h

err_short : (r : Refusal) → IsUnfedErr r → IsTooLong r → ⊥
err_short (refusal.FileLong limit) h long = h
err_short _ h long = long

pub shared_answers : (names : List (List ℕ)) (cache : CacheOptions) (o : ShareOptions) (d : Devices) (s : ShelfState) (out e : SinkState) (ram : RamState) (read : List (List ℕ)) (guests : List Guest) (r : Result Ending Refusal) →
    size_refusal cache.cache_bytes (length d.ram.words) ≡ None → FilesRead (limits_by o) cache.block_words names d.shelf s read → AreGuestsOf cache o read guests → 4 * most_words guests ≤ cache.cache_bytes →
    SharesOver o cache.cache_bytes guests (record d { shelf = s }) (shared_to d s out e ram) r → Answers (share_task names cache o) d (shared_to d s out e ram) r []
shared_answers names cache o d s out e ram read guests (Ok x) size h made holds run =
    let m : Devices = shared_to d s out e ram in record {
      asked = λ y. let bad : ⊥ = cc in bad;
      sized = sized_along (size_refusal cache.cache_bytes (length d.ram.words)) (Ok x) size (sized_ok x);
      checked = λ files are. (passes_all names cache o d.shelf s read guests files h are made holds).0;
      long = λ limit y. absurd (let bad : ⊥ = cc in bad);
      ended = run.ran.done.ending;
      done = λ files are. (guests, (passes_all names cache o d.shelf s read guests files h are made holds).1, shares_again o cache.cache_bytes guests d m s x run.ran.done);
      failed = tt;
      refused = tt;
      shelf = keeps_files (share_task names cache o) d.shelf s (length names) (Ok x) h.got (refl, refl) (passed_all names cache o d.shelf s read (Ok x) h (sym (as_many d.shelf.contents names read h.stand))) (λ y. let never : ⊥ = cc in never);
      input = refl;
      ram = run.beyond;
      causes = causes_behind d s m (Ok x) h.got.faults run.ran.causes;
    }
shared_answers names cache o d s out e ram read guests (Err r) size h made holds run =
    let m : Devices = shared_to d s out e ram in record {
      asked = err_not r refusal.Usage run.ran.refused (λ x. x);
      sized = sized_along (size_refusal cache.cache_bytes (length d.ram.words)) (Err r) size (sized_err r (err_size r run.ran.refused));
      checked = λ files are. err_checked (share_checks cache o files) s.last_failed r run.ran.refused (passes_all names cache o d.shelf s read guests files h are made holds).0;
      long = none_long (share_task names cache o) d.shelf.contents r (err_short r run.ran.refused);
      ended = tt;
      done = tt;
      failed = λ fault files are. (guests, (passes_all names cache o d.shelf s read guests files h are made holds).1, failed_again o cache.cache_bytes guests d m s r (run.ran.failed fault));
      refused = λ never. let same_all : m ≡ record d { shelf = s } = run.ran.quiet never in (
        record { input = refl; output = ap (λ (y : Devices). y.output) same_all; ram = ap (λ (y : Devices). y.ram) same_all },
        subst (λ (y : SinkState). Appends d.error.held y.held []) (sym (ap (λ (y : Devices). y.error) same_all)) (Appends-none d.error.held),
      );
      shelf = keeps_files (share_task names cache o) d.shelf s (length names) (Err r) h.got (err_asked (length names) s.last_failed r run.ran.refused)
          (passed_all names cache o d.shelf s read (Err r) h (err_given s.last_failed (length names) (length read) r run.ran.refused (sym (as_many d.shelf.contents names read h.stand)))) (err_not r refusal.ShelfFault run.ran.refused (λ x. x));
      input = refl;
      ram = run.beyond;
      causes = causes_behind d s m (Err r) h.got.faults run.ran.causes;
    }
