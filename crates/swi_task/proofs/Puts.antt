-- What stands after a file was read and another written.
use Rattle.std.proofs.Common.{◌≡◌, inr, ℕ, ◌≤◌, arith, List, [], ◌∷◌, ◌++◌, length, Option, Some, None, Result, Ok, Err, refl, sym, ◌∙◌, subst, ap}
use Rattle.swi_outside.specs.Causes.{Rose, counted, risen}
use Rattle.swi_outside.specs.Laws.{Appends-none}
use Rattle.swi_outside.specs.Shelf.{Asked, Contents, Passed, Same, SameAt, SameElsewhere, ShelfState, Stands, WasPut}
use Rattle.swi_outside.specs.declared.shelf.ShelfError.{ShelfError}
use Rattle.swi_outside.specs.declared.shelf.ShelfError.TheVariants as error
use Rattle.swi_answer.specs.declared.answer.Ending.{Ending}
use Rattle.swi_answer.specs.declared.answer.Ending.TheVariants as ending
use Rattle.swi_answer.specs.declared.answer.Refusal.{Refusal}
use Rattle.swi_answer.specs.declared.answer.Refusal.TheVariants as refusal
use Rattle.swi_task.specs.Devices.{Devices}
use Rattle.swi_task.specs.Answers.{Answers, AreGiven, HasPassed, HasStored, IsAskedFor, writes_in}
use Rattle.swi_task.specs.Checks.{IsAccepted, cache_refusal}
use Rattle.swi_task.specs.Files.{FileWritten, answer_by}
use Rattle.swi_task.specs.Task.{AreFiles, Task}
use Rattle.swi_task.proofs.Refusals.{IsRead, asked_twice, calm_causes, gave_one, given_short, keeps_input, keeps_ram, late, none_long, one_before, one_stood, shelf_causes, sized_along, sized_err, sized_ok, untouched}

-- what is told of a name over two calls
same_then : (a b c : Option Contents) (name : List ℕ) → SameAt a b name → SameAt b c name → SameAt a c name
same_then None b c name x y = tt
same_then (Some m) None c name x y = absurd x
same_then (Some m) (Some n) None name x y = absurd y
same_then (Some m) (Some n) (Some k) name x y = y ∙ x

pub all_elsewhere : (a b c : Option Contents) (name : List ℕ) → Same a b → SameElsewhere b c name → SameElsewhere a c name
all_elsewhere a b c name x y other ne = same_then a b c other (x other) (y other ne)

pub all_then : (a b c : Option Contents) → Same a b → Same b c → Same a c
all_then a b c x y name = same_then a b c name (x name) (y name)

-- the names that may differ after a write
others_of : (t : Task) (a c : Option Contents) (output : List ℕ) → t.writes ≡ Some output → SameElsewhere a c output →
    (name : List ℕ) → (t.writes ≡ Some name → ⊥) → SameAt a c name
others_of t a c output is elsewhere name never = elsewhere name (λ e. never (is ∙ ap (λ (x : List ℕ). Some x) (sym e)))

-- the shelf after it was read, and then written
pub record IsPut (before middle after : ShelfState) (input bytes output : List ℕ) : Type 0 where
  pub read : IsRead before middle input bytes
  pub elsewhere : SameElsewhere middle.contents after.contents output
  pub got : after.got ≡ middle.got
  pub calls : after.calls ≡ counted middle.calls

asked_both : (before middle after : ShelfState) (input bytes output : List ℕ) → IsPut before middle after input bytes output → after.calls ≡ risen before.calls 2
asked_both before middle after input bytes output h = asked_twice before.calls middle.calls after.calls h.read.asked h.calls

elsewhere_both : (before middle after : ShelfState) (input bytes output : List ℕ) → IsPut before middle after input bytes output →
    SameElsewhere before.contents after.contents output
elsewhere_both before middle after input bytes output h = all_elsewhere before.contents middle.contents after.contents output h.read.same h.elsewhere

-- one file is got, and one put
asks_two : (t : Task) (input output : List ℕ) → t.reads ≡ input ∷ [] → t.writes ≡ Some output → (failed : Option Asked) (r : Result Ending Refusal) →
    IsAskedFor 1 1 failed r 1 1 → IsAskedFor (length t.reads) (writes_in t.writes) failed r 1 1
asks_two t input output one is failed r h =
    subst (λ (l : List (List ℕ)). IsAskedFor (length l) (writes_in t.writes) failed r 1 1) (sym one)
    (subst (λ (o : Option (List ℕ)). IsAskedFor 1 (writes_in o) failed r 1 1) (sym is) h)

-- what passed: the file, and, where it was written, this content
passed_both : (t : Task) (before middle after : ShelfState) (input bytes output : List ℕ) (r : Result Ending Refusal) → t.reads ≡ input ∷ [] →
    IsPut before middle after input bytes output → AreGiven after.last_failed r 1 1 → HasStored r t.writes before.stored after.stored → HasPassed t before after r 1
passed_both t before middle after input bytes output r one h given stored = record {
  given = bytes ∷ [];
  gave = gave_one t before middle after input bytes one h.read h.got;
  all = given;
  stood = one_stood t before middle input bytes one h.read;
  accepted = one_before t bytes;
  long = λ limit is. absurd (given_short after.last_failed r 1 given limit is);
  stored = stored;
}

-- after a write that has failed nothing is stored
stored_none : {before middle : ShelfState} {input bytes : List ℕ} (after : ShelfState) → IsRead before middle input bytes → after.stored ≡ middle.stored → after.stored ≡ before.stored
stored_none after read same = same ∙ read.stored

-- it was written
pub put_done : {u : Unit} (t : Task) (d : Devices) (m s : ShelfState) (input bytes output content : List ℕ) (files : t.Files) → cache_refusal t.caches (length d.ram.words) ≡ None →
    t.reads ≡ input ∷ [] → t.writes ≡ Some output → IsRead d.shelf m input bytes → FileWritten m s output content (Ok u) →
    ((others : t.Files) → AreFiles t d.shelf s others → files ≡ others) → IsAccepted (t.checks files) → t.ends ending.Done →
    (s.stored ≡ d.shelf.stored ++ (output, content) ∷ [] → Stands s.contents output content → t.does files d (record d { shelf = s }) ending.Done []) → Answers t d (record d { shelf = s }) (Ok ending.Done) []
put_done {u} t d m s input bytes output content files size one is read written only accepted ends does = by written.answer written.put written.handed_on
  where
    by : (answer : Result Unit ShelfError) → WasPut m s output content answer → Ok u ≡ answer_by answer → Answers t d (record d { shelf = s }) (Ok ending.Done) []
    by (Err e) put same = absurd (let never : ⊥ = cc in never)
    by (Ok v) put same =
        let calm = put.cause.quiet (λ e. let never : ⊥ = cc in never) in
        let both : IsPut d.shelf m s input bytes output = record { read = read; elsewhere = put.others; got = put.none_given; calls = put.asked } in
        let last = calm.1 ∙ read.last_failed in
        let stored : s.stored ≡ d.shelf.stored ++ (output, content) ∷ [] = put.stores ∙ ap (λ (l : Passed). l ++ (output, content) ∷ []) read.stored in record {
          asked = λ e. let bad : ⊥ = cc in bad;
          sized = sized_along _ _ size (sized_ok ending.Done);
          checked = λ other are. subst (λ (f : t.Files). IsAccepted (t.checks f)) (only other are) accepted;
          long = λ limit e. absurd (let never : ⊥ = cc in never);
          ended = ends;
          done = λ other are. subst (λ (f : t.Files). t.does f d (record d { shelf = s }) ending.Done []) (only other are) (does stored put.stands);
          failed = tt;
          refused = tt;
          shelf = record {
            others = others_of t d.shelf.contents s.contents output is (elsewhere_both d.shelf m s input bytes output both);
            refused = tt;
            quiet = λ _. last;
            failed = λ e. absurd (let never : ⊥ = cc in never);
            gets = 1;
            puts = 1;
            calls = asked_both d.shelf m s input bytes output both;
            asked = asks_two t input output one is s.last_failed (Ok ending.Done) (refl, refl);
            passed = passed_both t d.shelf m s input bytes output (Ok ending.Done) one both refl
                (subst (λ (o : Option (List ℕ)). HasStored (Ok ending.Done) o d.shelf.stored s.stored) (sym is) (content, stored));
          };
          input = keeps_input t.takes_input d.input;
          ram = keeps_ram t.caches d.ram;
          causes = calm_causes d (record d { shelf = s }) (Ok ending.Done) tt (calm.0 ∙ read.faults) refl refl;
        }

-- the shelf failed in writing
put_failed : (t : Task) (d : Devices) (m s : ShelfState) (input bytes output content : List ℕ) (files : t.Files) → cache_refusal t.caches (length d.ram.words) ≡ None →
    t.reads ≡ input ∷ [] → t.writes ≡ Some output → IsRead d.shelf m input bytes → WasPut m s output content (Err error.Failed) →
    ((others : t.Files) → AreFiles t d.shelf s others → files ≡ others) → IsAccepted (t.checks files) → Answers t d (record d { shelf = s }) (Err refusal.ShelfFault) []
put_failed t d m s input bytes output content files size one is read put only accepted =
    let failed = put.cause.failed refl in
    let both : IsPut d.shelf m s input bytes output = record { read = read; elsewhere = put.others; got = put.none_given; calls = put.asked } in record {
      asked = λ e. let bad : ⊥ = cc in bad;
      sized = sized_along _ _ size (sized_err refusal.ShelfFault (λ x. x));
      checked = λ other are _. subst (λ (f : t.Files). IsAccepted (t.checks f)) (only other are) accepted;
      long = none_long t d.shelf.contents refusal.ShelfFault (λ x. x);
      ended = tt;
      done = tt;
      failed = λ f. absurd f;
      refused = λ _. (untouched d s, Appends-none d.error.held);
      shelf = record {
        others = others_of t d.shelf.contents s.contents output is (elsewhere_both d.shelf m s input bytes output both);
        refused = λ never. absurd (never refl);
        quiet = λ never. absurd (never refl);
        failed = λ _. inr (output, is, failed.1);
        gets = 1;
        puts = 1;
        calls = asked_both d.shelf m s input bytes output both;
        asked = asks_two t input output one is s.last_failed (Err refusal.ShelfFault)
            (subst (λ (l : Option Asked). IsAskedFor 1 1 l (Err refusal.ShelfFault) 1 1) (sym failed.1) (refl, omega arith, omega arith));
        passed = passed_both t d.shelf m s input bytes output (Err refusal.ShelfFault) one both
            (subst (λ (l : Option Asked). AreGiven l (Err refusal.ShelfFault) 1 1) (sym failed.1) refl) (stored_none s read put.stores);
      };
      input = keeps_input t.takes_input d.input;
      ram = keeps_ram t.caches d.ram;
      causes = shelf_causes d s (subst (λ (n : ℕ). n ≤ s.faults) read.faults put.cause.later) (subst (λ (n : ℕ). Rose n s.faults) read.faults failed.0);
    }

-- the file was read, and then the shelf failed in writing, or there was no memory for it
pub put_refused : (t : Task) (d : Devices) (m s : ShelfState) (input bytes output content : List ℕ) (files : t.Files) (r : Refusal) → cache_refusal t.caches (length d.ram.words) ≡ None →
    t.reads ≡ input ∷ [] → t.writes ≡ Some output → IsRead d.shelf m input bytes → FileWritten m s output content (Err r) →
    ((others : t.Files) → AreFiles t d.shelf s others → files ≡ others) → IsAccepted (t.checks files) → Answers t d (record d { shelf = s }) (Err r) []
put_refused t d m s input bytes output content files r size one is read written only accepted = by written.answer written.put written.handed_on
  where
    by : (answer : Result Unit ShelfError) → WasPut m s output content answer → Err r ≡ answer_by answer → Answers t d (record d { shelf = s }) (Err r) []
    by (Ok u) put same = absurd (let never : ⊥ = cc in never)
    by (Err error.Long) put same = absurd (put.not_long refl)
    by (Err error.Failed) put same =
        let e : r ≡ refusal.ShelfFault = cc in
        subst (λ (x : Refusal). Answers t d (record d { shelf = s }) (Err x) []) (sym e)
        (put_failed t d m s input bytes output content files size one is read put only accepted)
    by (Err error.Memory) put same =
        let e : r ≡ refusal.Memory = cc in
        let calm = put.cause.quiet (λ x. let never : ⊥ = cc in never) in
        let both : IsPut d.shelf m s input bytes output = record { read = read; elsewhere = put.others; got = put.none_given; calls = put.asked } in
        subst (λ (x : Refusal). Answers t d (record d { shelf = s }) (Err x) []) (sym e)
        (late t d s refusal.Memory 1 1 tt size (all_then d.shelf.contents m.contents s.contents read.same (put.memory refl)) (calm.0 ∙ read.faults) (calm.1 ∙ read.last_failed) (λ _ _. tt)
        (none_long t d.shelf.contents refusal.Memory (λ x. x)) (asked_both d.shelf m s input bytes output both)
        (asks_two t input output one is s.last_failed (Err refusal.Memory) (omega arith, omega arith, λ _. refl))
        (passed_both t d.shelf m s input bytes output (Err refusal.Memory) one both (omega arith, omega arith) (stored_none s read put.stores)))
