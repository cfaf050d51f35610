-- The files of programs that share a cache, read one behind the other.
use Rattle.std.proofs.Common.{◌≡◌, ◌⊎◌, inl, inr, ℕ, ◌+◌, ◌≤◌, suc, append_assoc, List, [], ◌∷◌, ◌++◌, length, Option, Some, None, Result, Ok, Err, refl, sym, ◌∙◌, ap, subst, arith}
use Rattle.std.specs.Prelude.{All, Vec, option_map, slice_get, take, zip, ◌-◌}
use Rattle.std.specs.declared.alloc.Global.{Global}
use Rattle.std.specs.List.{AllZip}
use Rattle.std.proofs.lemmas.List.{append-nil, length-append, length_push, take-append-le}
use Rattle.std.proofs.lemmas.List.Elements.{All-head, All-nil, All-push, All-same, All-tail, All-take}
use Rattle.swi_outside.specs.Causes.{Rose, counted, risen}
use Rattle.swi_outside.specs.Shelf.{Contents, IsLonger, Passed, Same, SameAt, ShelfState, Stands, WasGot}
use Rattle.swi_outside.specs.declared.shelf.ShelfError.{ShelfError}
use Rattle.swi_outside.specs.declared.shelf.ShelfError.TheVariants as error
use Rattle.swi_elf_read.specs.declared.refusal.ElfRefusal.{ElfRefusal}
use Rattle.swi_elf_read.specs.Elf as elf
use Rattle.swi_image.specs.declared.refusal.ImageRefusal.{ImageRefusal}
use Rattle.swi_image.specs.Checks as image
use Rattle.swi_command.specs.declared.command.RunLimits.{RunLimits}
use Rattle.swi_answer.specs.declared.answer.Refusal.{Refusal}
use Rattle.swi_answer.specs.declared.answer.Refusal.TheVariants as refusal
use Rattle.swi_task.specs.Checks.{Check, IsAccepted, IsRefusedBy, IsRefusedOr, file_limit}
use Rattle.swi_task.specs.Answers.{IsLast, StandFirst}
use Rattle.swi_task.specs.Files.{FileRead, answer_by}
use Rattle.swi_share_command.specs.RunShared.{FilesRead, FilesRefused, FilesUnread, FirstRead, GotSome, IsFileRefusal, IsGuestFile, IsRefusedSo, ShelfBroke, files_checks, guest_checks}
use Rattle.swi_task.specs.Task.{GaveFirst, TellsFile, TellsAll}
use Rattle.swi_task.proofs.Images.{front_fails}
use Rattle.swi_task.proofs.Refusals.{IsRead, IsTooLong, asked_none, gave_none, gave_same, short_refused, told_is, too_long, zip_none}

-- ---- checks one behind the other

pub refused_behind : (a b : List Check) (r : Refusal) → IsAccepted a → IsRefusedBy b r → IsRefusedBy (a ++ b) r
refused_behind [] b r ok h = h
refused_behind (c ∷ cs) b r ok h = inr (ok.0, refused_behind cs b r ok.1 h)

pub accepted_both : (a b : List Check) → IsAccepted a → IsAccepted b → IsAccepted (a ++ b)
accepted_both [] b one two = two
accepted_both (c ∷ cs) b one two = (one.0, accepted_both cs b one.1 two)

pub accepted_parts : (a b : List Check) → IsAccepted (a ++ b) → IsAccepted a × IsAccepted b
accepted_parts [] b all = (tt, all)
accepted_parts (c ∷ cs) b all = let rest = accepted_parts cs b all.1 in ((all.0, rest.0), rest.1)

-- one of the first fails, or one behind them
fails_in : (a b : List Check) (r : Refusal) → IsRefusedBy (a ++ b) r → IsRefusedBy a r ⊎ (IsAccepted a × IsRefusedBy b r)
fails_in [] b r h = inr (tt, h)
fails_in (c ∷ cs) b r h = elim h [
  | inl f ↦ inl (inl f)
  | inr rest ↦ elim (fails_in cs b r rest.1) [
    | inl f ↦ inl (inr (rest.0, f))
    | inr g ↦ inr ((rest.0, g.0), g.1)
  ]
]

-- ---- what was given is what the shelf tells

-- a file is refused behind others that pass
pub refused_at : (limits : RunLimits) (most : ℕ) (contents : Option Contents) (r : Refusal) (front : List (List ℕ)) (read : List (List ℕ)) (name : List ℕ) (rest files : List (List ℕ)) →
    AllZip (Stands contents) front read → All (IsGuestFile limits most) read → TellsAll contents (front ++ name ∷ rest) files →
    ((file : List ℕ) → TellsFile contents name file → IsRefusedBy (guest_checks limits most file) r) → IsRefusedBy (files_checks limits most files) r
refused_at limits most contents r [] [] name rest [] stand ok told fails = absurd told
refused_at limits most contents r [] [] name rest (file ∷ files) stand ok told fails =
    front_fails (guest_checks limits most file) (files_checks limits most files) r (fails file told.0)
refused_at limits most contents r [] (f ∷ fs) name rest files stand ok told fails = absurd stand
refused_at limits most contents r (n ∷ ns) [] name rest files stand ok told fails = absurd stand
refused_at limits most contents r (n ∷ ns) (f ∷ fs) name rest [] stand ok told fails = absurd told
refused_at limits most contents r (n ∷ ns) (f ∷ fs) name rest (file ∷ files) stand ok told fails =
    let same : f ≡ file = told_is contents n file f told.0 stand.0 in
    refused_behind (guest_checks limits most file) (files_checks limits most files) r
    (subst (λ (x : List ℕ). IsAccepted (guest_checks limits most x)) same (All-head (IsGuestFile limits most) f fs ok))
    (refused_at limits most contents r ns fs name rest files stand.1 (All-tail (IsGuestFile limits most) f fs ok) told.1 fails)

-- what refuses the files that were given refuses all
pub given_refused : (limits : RunLimits) (most : ℕ) (contents : Option Contents) (r : Refusal) (names given files : List (List ℕ)) → StandFirst contents names given → TellsAll contents names files →
    IsRefusedBy (files_checks limits most given) r → IsRefusedBy (files_checks limits most files) r
given_refused limits most contents r names [] files stand tells h = absurd h
given_refused limits most contents r [] (g ∷ gs) files stand tells h = absurd stand
given_refused limits most contents r (n ∷ ns) (g ∷ gs) [] stand tells h = absurd tells
given_refused limits most contents r (n ∷ ns) (g ∷ gs) (file ∷ files) stand tells h =
    let same : g ≡ file = told_is contents n file g tells.0 stand.0 in
    subst (λ (x : List ℕ). IsRefusedBy (guest_checks limits most x ++ files_checks limits most files) r) same
    (elim (fails_in (guest_checks limits most g) (files_checks limits most gs) r h) [
      | inl f ↦ front_fails (guest_checks limits most g) (files_checks limits most files) r f
      | inr rest ↦ refused_behind (guest_checks limits most g) (files_checks limits most files) r rest.0 (given_refused limits most contents r ns gs files stand.1 tells.1 rest.1)
    ])

-- all that were read pass
pub accepted_all : (limits : RunLimits) (most : ℕ) (read : List (List ℕ)) → All (IsGuestFile limits most) read → IsAccepted (files_checks limits most read)
accepted_all limits most [] ok = tt
accepted_all limits most (f ∷ fs) ok =
    accepted_both (guest_checks limits most f) (files_checks limits most fs) (All-head (IsGuestFile limits most) f fs ok)
    (accepted_all limits most fs (All-tail (IsGuestFile limits most) f fs ok))

tells_same : (contents : Option Contents) (names : List (List ℕ)) (read : List (List ℕ)) (files : List (List ℕ)) →
    AllZip (Stands contents) names read → TellsAll contents names files → read ≡ files
tells_same contents [] [] [] stand tells = refl
tells_same contents [] [] (file ∷ files) stand tells = absurd tells
tells_same contents [] (f ∷ fs) files stand tells = absurd stand
tells_same contents (n ∷ ns) [] files stand tells = absurd stand
tells_same contents (n ∷ ns) (f ∷ fs) [] stand tells = absurd tells
tells_same contents (n ∷ ns) (f ∷ fs) (file ∷ files) stand tells =
    let same : f ≡ file = told_is contents n file f tells.0 stand.0 in
    let rest = tells_same contents ns fs files stand.1 tells.1 in
    subst (λ (x : List ℕ). x ∷ fs ≡ file ∷ files) (sym same) (ap (λ (xs : List (List ℕ)). file ∷ xs) rest)

-- the files of the command are those that were read
pub files_same : (limits : RunLimits) (most : ℕ) (names : List (List ℕ)) (old new : ShelfState) (read : List (List ℕ)) (files : List (List ℕ)) → FilesRead limits most names old new read →
    GaveFirst names files old new ⊎ TellsAll old.contents names files → read ≡ files
files_same limits most names old new read files was (inl gave) = gave_same names read files old new was.gave gave
files_same limits most names old new read files was (inr tells) = tells_same old.contents names read files was.stand tells

-- ---- the names and the contents that were given, side by side

pub as_many : (contents : Option Contents) (names : List (List ℕ)) (read : List (List ℕ)) → AllZip (Stands contents) names read →
    length read ≡ length names
as_many contents [] [] all = refl
as_many contents [] (f ∷ fs) all = absurd all
as_many contents (n ∷ ns) [] all = absurd all
as_many contents (n ∷ ns) (f ∷ fs) all = ap (λ (k : ℕ). suc k) (as_many contents ns fs all.1)

zip_more : (contents : Option Contents) (names : List (List ℕ)) (read : List (List ℕ)) (more behind : List (List ℕ)) → AllZip (Stands contents) names read →
    zip (names ++ more) (read ++ behind) ≡ zip names read ++ zip more behind
zip_more contents [] [] more behind all = refl
zip_more contents [] (f ∷ fs) more behind all = absurd all
zip_more contents (n ∷ ns) [] more behind all = absurd all
zip_more contents (n ∷ ns) (f ∷ fs) more behind all = ap (λ (l : Passed). (n, f) ∷ l) (zip_more contents ns fs more behind all.1)

stand_more : (contents : Option Contents) (names : List (List ℕ)) (read : List (List ℕ)) (more behind : List (List ℕ)) → AllZip (Stands contents) names read →
    StandFirst contents more behind → StandFirst contents (names ++ more) (read ++ behind)
stand_more contents [] [] more behind all h = h
stand_more contents [] (f ∷ fs) more behind all h = absurd all
stand_more contents (n ∷ ns) [] more behind all h = absurd all
stand_more contents (n ∷ ns) (f ∷ fs) more behind all h = (all.0, stand_more contents ns fs more behind all.1 h)

pub stand_all : (contents : Option Contents) (names : List (List ℕ)) (read : List (List ℕ)) → AllZip (Stands contents) names read → StandFirst contents names read
stand_all contents [] [] all = tt
stand_all contents [] (f ∷ fs) all = absurd all
stand_all contents (n ∷ ns) [] all = absurd all
stand_all contents (n ∷ ns) (f ∷ fs) all = (all.0, stand_all contents ns fs all.1)

-- what was given behind the files that were read, of the names behind theirs
gave_behind : (limits : RunLimits) (most : ℕ) (front more behind : List (List ℕ)) (old mid new : ShelfState) (read : List (List ℕ)) → FilesRead limits most front old mid read →
    length behind ≤ length more → new.got ≡ mid.got ++ zip more behind → GaveFirst (front ++ more) (read ++ behind) old new
gave_behind limits most front more behind old mid new read was few got = record {
  few = let same = as_many old.contents front read was.stand in let one = length-append read behind in let other = length-append front more in omega (arith, same, one, other, few);
  got = got ∙ ap (λ (l : Passed). l ++ zip more behind) was.gave.got ∙ append_assoc old.got (zip front read) (zip more behind)
      ∙ ap (λ (l : Passed). old.got ++ l) (sym (zip_more old.contents front read more behind was.stand));
}

-- ---- one file more

same_again : (a b c : Option Contents) → Same a b → Same b c → Same a c
same_again a b c one two = λ name. by name a b c (one name) (two name)
  where
    by : (name : List ℕ) (a b c : Option Contents) → SameAt a b name → SameAt b c name → SameAt a c name
    by name None b c one two = tt
    by name (Some m) None c one two = absurd one
    by name (Some m) (Some n) None one two = absurd two
    by name (Some m) (Some n) (Some l) one two = two ∙ one

stands_before : (a b : Option Contents) (name bytes : List ℕ) → SameAt a b name → Stands b name bytes → Stands a name bytes
stands_before None b name bytes same stands = tt
stands_before (Some m) None name bytes same stands = absurd same
stands_before (Some m) (Some n) name bytes same stands = sym same ∙ stands

one_more : (n m k a : ℕ) → m ≡ risen n a → k ≡ counted m → k ≡ risen n (a + 1)
one_more n m k a e f = grind arith

pub files_none : (limits : RunLimits) (most : ℕ) (s : ShelfState) → Same s.contents s.contents → FilesRead limits most [] s s []
files_none limits most s same = record {
  got = record { same = same; calls = asked_none s.calls; stored = refl; faults = refl; last_failed = refl };
  gave = gave_none [] s s refl;
  stand = tt;
  accepted = All-nil (IsGuestFile limits most);
}

pub zip_push : {A B : Type 0} (R : A → B → Type 0) (xs : List A) (ys : List B) (x : A) (y : B) → AllZip R xs ys → R x y → AllZip R (xs ++ x ∷ []) (ys ++ y ∷ [])
zip_push R [] [] x y h r = (r, tt)
zip_push R [] (b ∷ ys) x y h r = absurd h
zip_push R (a ∷ xs) [] x y h r = absurd h
zip_push R (a ∷ xs) (b ∷ ys) x y h r = (h.0, zip_push R xs ys x y h.1 r)

pub got_more : (n : ℕ) (old mid new : ShelfState) (name bytes : List ℕ) → GotSome n old mid → IsRead mid new name bytes → GotSome (n + 1) old new
got_more n old mid new name bytes was read = record {
  same = same_again old.contents mid.contents new.contents was.same read.same;
  calls = one_more old.calls mid.calls new.calls n was.calls read.asked;
  stored = read.stored ∙ was.stored;
  faults = read.faults ∙ was.faults;
  last_failed = read.last_failed ∙ was.last_failed;
}

pub files_more : (limits : RunLimits) (most : ℕ) (names : List (List ℕ)) (old mid new : ShelfState) (files : List (List ℕ)) (name : List ℕ) (f : List ℕ) →
    FilesRead limits most names old mid files → IsRead mid new name f → IsGuestFile limits most f → FilesRead limits most (names ++ name ∷ []) old new (files ++ f ∷ [])
files_more limits most names old mid new files name f was read is = record {
  got = subst (λ (n : ℕ). GotSome n old new) (sym (length_push names name)) (got_more (length names) old mid new name f was.got read);
  gave = gave_behind limits most names (name ∷ []) (f ∷ []) old mid new files was (omega arith) read.got;
  stand = zip_push (Stands old.contents) names files name f was.stand (stands_before old.contents mid.contents name f (was.got.same name) read.stands);
  accepted = All-push (IsGuestFile limits most) files f was.accepted is;
}

-- ---- a refusal by a check of a file

elf_file : (x : Option ElfRefusal) (r : Refusal) → option_map (λ e. refusal.Elf e) x ≡ Some r → IsFileRefusal r
elf_file None r e = absurd (let never : ⊥ = cc in never)
elf_file (Some x) r e = let p : refusal.Elf x ≡ r = cc in subst IsFileRefusal p tt

image_file : (x : Option ImageRefusal) (r : Refusal) → option_map (λ e. refusal.Image e) x ≡ Some r → IsFileRefusal r
image_file None r e = absurd (let never : ⊥ = cc in never)
image_file (Some x) r e = let p : refusal.Image x ≡ r = cc in subst IsFileRefusal p tt

along : {r s : Refusal} → s ≡ r → IsFileRefusal r → IsFileRefusal s
along e h = subst IsFileRefusal (sym e) h

pub by_file : (limits : RunLimits) (most : ℕ) (file : List ℕ) (r : Refusal) → IsRefusedBy (guest_checks limits most file) r → IsFileRefusal r
by_file limits most file r h = elim h [
  | inl a ↦ along a.1 tt
  | inr b ↦ elim b.1 [
    | inl a ↦ elf_file (elf.first_refusal file) r a
    | inr b ↦ elim b.1 [
      | inl a ↦ along a.2 tt
      | inr b ↦ elim b.1 [
        | inl a ↦ image_file (image.first_refusal a.0) r a.2
        | inr b ↦ elim b.1 [
          | inl a ↦ along a.2.2 tt
          | inr b ↦ elim b.1 [
            | inl a ↦ along a.1.2 tt
            | inr b ↦ absurd b.1
          ]
        ]
      ]
    ]
  ]
]

-- ---- a file that could not be read, or that is refused

longer_before : (a b : Option Contents) (name : List ℕ) → SameAt a b name → IsLonger b name file_limit → IsLonger a name file_limit
longer_before None b name same longer = tt
longer_before (Some m) None name same longer = absurd same
longer_before (Some m) (Some n) name same longer = (longer.0, sym same ∙ longer.1, longer.2)

shorter : (front rest : List (List ℕ)) (name : List ℕ) → length front + 1 ≤ length (front ++ name ∷ rest)
shorter [] rest name = omega arith
shorter (n ∷ ns) rest name = let less = shorter ns rest name in omega (arith, less)

rose_from : (a b c : ℕ) → b ≡ a → Rose b c → Rose a c
rose_from a b c is rose = subst (λ (n : ℕ). Rose n c) is rose

-- each of the files before it passes its checks
front_accepted : (limits : RunLimits) (most : ℕ) (front behind : List (List ℕ)) (old mid : ShelfState) (read : List (List ℕ)) → FilesRead limits most front old mid read →
    All (IsGuestFile limits most) (take (length front + 1 - 1) (read ++ behind))
front_accepted limits most front behind old mid read was =
    let same = as_many old.contents front read was.stand in
    All-same (IsGuestFile limits most) (take (length front + 1 - 1) (read ++ behind)) (take (length front + 1 - 1) read)
    (take-append-le (length front + 1 - 1) read behind (omega (arith, same)))
    (All-take (IsGuestFile limits most) (length front + 1 - 1) read was.accepted)

-- what was read before it
first_read : (limits : RunLimits) (most : ℕ) (front more : List (List ℕ)) (old mid new : ShelfState) (read : List (List ℕ)) → FilesRead limits most front old mid read →
    new.got ≡ mid.got → new.stored ≡ mid.stored → FirstRead limits most (front ++ more) (length front + 1) read old new
first_read limits most front more old mid new read was got stored = record {
  gave = subst (λ (l : List (List ℕ)). GaveFirst (front ++ more) l old new) (append-nil read)
      (gave_behind limits most front more [] old mid new read was (omega arith) (got ∙ sym (append-nil mid.got) ∙ ap (λ (l : Passed). mid.got ++ l) (sym (zip_none more))));
  stood = subst (λ (l : List (List ℕ)). StandFirst old.contents (front ++ more) l) (append-nil read) (stand_more old.contents front read more [] was.stand tt);
  accepted = subst (λ (l : List (List ℕ)). All (IsGuestFile limits most) (take (length front + 1 - 1) l)) (append-nil read)
      (front_accepted limits most front [] old mid read was);
  stored = stored ∙ was.got.stored;
}

-- and with it
last_read : (limits : RunLimits) (most : ℕ) (front rest : List (List ℕ)) (name : List ℕ) (old mid new : ShelfState) (read : List (List ℕ)) (bytes : List ℕ) → FilesRead limits most front old mid read →
    IsRead mid new name bytes → FirstRead limits most (front ++ name ∷ rest) (length front + 1) (read ++ bytes ∷ []) old new
last_read limits most front rest name old mid new read bytes was h = record {
  gave = gave_behind limits most front (name ∷ rest) (bytes ∷ []) old mid new read was (omega arith)
      (h.got ∙ ap (λ (l : Passed). mid.got ++ (name, bytes) ∷ l) (sym (zip_none rest)));
  stood = stand_more old.contents front read (name ∷ rest) (bytes ∷ []) was.stand (stands_before old.contents mid.contents name bytes (was.got.same name) h.stands, tt);
  accepted = front_accepted limits most front (bytes ∷ []) old mid read was;
  stored = h.stored ∙ was.got.stored;
}

-- it is the one that was got last
pub last_is : (front rest : List (List ℕ)) (name : List ℕ) → IsLast (front ++ name ∷ rest) (length front + 1) name
last_is front rest name = let back : length front + 1 - 1 ≡ length front = omega arith in ap (λ (n : ℕ). slice_get (front ++ name ∷ rest) n) back ∙ get_behind front
  where
    get_behind : (front : List (List ℕ)) → slice_get (front ++ name ∷ rest) (length front) ≡ Some name
    get_behind [] = refl
    get_behind (n ∷ ns) = get_behind ns

but_one : (limits : RunLimits) (most : ℕ) (front : List (List ℕ)) (old mid : ShelfState) (read : List (List ℕ)) → FilesRead limits most front old mid read → length front + 1 ≡ length read + 1
but_one limits most front old mid read was = ap (λ (k : ℕ). k + 1) (sym (as_many old.contents front read was.stand))

with_one : (limits : RunLimits) (most : ℕ) (front : List (List ℕ)) (old mid : ShelfState) (read : List (List ℕ)) (bytes : List ℕ) → FilesRead limits most front old mid read →
    length front + 1 ≡ length (read ++ bytes ∷ [])
with_one limits most front old mid read bytes was = but_one limits most front old mid read was ∙ sym (length_push read bytes)

-- by the shelf
pub shelf_failed : (limits : RunLimits) (most : ℕ) (front rest : List (List ℕ)) (name : List ℕ) (old mid new : ShelfState) (read : List (List ℕ)) →
    FilesRead limits most front old mid read → WasGot mid new name file_limit (Err error.Failed) → ShelfBroke limits most (front ++ name ∷ rest) old new
shelf_failed limits most front rest name old mid new read was got =
    let failed = got.cause.failed refl in record {
      gets = length front + 1;
      name = name;
      asked = last_is front rest name;
      last_failed = failed.1;
      same = same_again old.contents mid.contents new.contents was.got.same got.same;
      given = read;
      read = first_read limits most front (name ∷ rest) old mid new read was got.gave got.none_stored;
      but_one = but_one limits most front old mid read was;
      some = omega arith;
      few = shorter front rest name;
      calls = one_more old.calls mid.calls new.calls (length front) was.got.calls got.asked;
      later = let still = was.got.faults in let up = got.cause.later in omega (arith, still, up);
      cause = rose_from old.faults mid.faults new.faults was.got.faults failed.0;
    }

-- for want of memory, or by a check
pub file_refused : (limits : RunLimits) (most : ℕ) (front rest : List (List ℕ)) (name : List ℕ) (old mid new : ShelfState) (read : List (List ℕ)) (given : List (List ℕ)) (r : Refusal) →
    FilesRead limits most front old mid read → Same mid.contents new.contents → new.calls ≡ counted mid.calls → new.faults ≡ mid.faults → new.last_failed ≡ mid.last_failed → IsFileRefusal r →
    FirstRead limits most (front ++ name ∷ rest) (length front + 1) given old new → IsRefusedSo limits most (front ++ name ∷ rest) old.contents (length front + 1) given r → FilesRefused limits most (front ++ name ∷ rest) old new r
file_refused limits most front rest name old mid new read given r was same calls faults last by first why = record {
  gets = length front + 1;
  some = omega arith;
  few = shorter front rest name;
  got = record {
    same = same_again old.contents mid.contents new.contents was.got.same same;
    calls = one_more old.calls mid.calls new.calls (length front) was.got.calls calls;
    stored = first.stored;
    faults = faults ∙ was.got.faults;
    last_failed = last ∙ was.got.last_failed;
  };
  given = given;
  read = first;
  why = why;
  by_file = by;
}

-- the shelf's answer was handed on
pub file_unread : (limits : RunLimits) (most : ℕ) (front rest : List (List ℕ)) (name : List ℕ) (old mid new : ShelfState) (read : List (List ℕ)) (r : Refusal) → FilesRead limits most front old mid read →
    FileRead mid new name (Err r) → FilesUnread limits most (front ++ name ∷ rest) old new r
file_unread limits most front rest name old mid new read r was h = by h.answer h.got h.handed_on
  where
    by : (answer : Result (Vec ℕ Global) ShelfError) → WasGot mid new name file_limit answer → Err r ≡ answer_by answer → FilesUnread limits most (front ++ name ∷ rest) old new r
    by (Ok v) got same = absurd (let never : ⊥ = cc in never)
    by (Err error.Failed) got same =
        let e : r ≡ refusal.ShelfFault = cc in inl (e, shelf_failed limits most front rest name old mid new read was got)
    by (Err error.Long) got same =
        let e : r ≡ refusal.FileLong file_limit = cc in
        let quiet = got.cause.quiet (λ x. let never : ⊥ = cc in never) in
        inr (subst (λ (x : Refusal). FilesRefused limits most (front ++ name ∷ rest) old new x) (sym e)
        (file_refused limits most front rest name old mid new read read (refusal.FileLong file_limit) was got.same got.asked quiet.0 quiet.1 tt
        (first_read limits most front (name ∷ rest) old mid new read was got.gave got.none_stored) (
          but_one limits most front old mid read was,
          (name, last_is front rest name, longer_before old.contents mid.contents name (was.got.same name) (got.long refl)),
          λ files told. refused_at limits most old.contents (refusal.FileLong file_limit) front read name rest files was.stand was.accepted told
              (λ file tells. inl (too_long old.contents name file (longer_before old.contents mid.contents name (was.got.same name) (got.long refl)) tells)),
        )))
    by (Err error.Memory) got same =
        let e : r ≡ refusal.Memory = cc in
        let quiet = got.cause.quiet (λ x. let never : ⊥ = cc in never) in
        inr (subst (λ (x : Refusal). FilesRefused limits most (front ++ name ∷ rest) old new x) (sym e)
        (file_refused limits most front rest name old mid new read read refusal.Memory was got.same got.asked quiet.0 quiet.1 tt
        (first_read limits most front (name ∷ rest) old mid new read was got.gave got.none_stored)
        (let same = but_one limits most front old mid read was in (omega (arith, same), omega (arith, same)))))

-- by such an answer, where all were given
refused_so : (limits : RunLimits) (most : ℕ) (names : List (List ℕ)) (contents : Option Contents) (gets : ℕ) (given : List (List ℕ)) (r : Refusal) → gets ≡ length given → (IsTooLong r → ⊥) →
    (r ≡ refusal.Memory) ⊎ IsRefusedBy (files_checks limits most given) r → IsRefusedSo limits most names contents gets given r
refused_so limits most names contents gets given (refusal.FileLong limit) same short why = absurd (short tt)
refused_so limits most names contents gets given refusal.Memory same short why = (omega (arith, same), omega (arith, same))
refused_so limits most names contents gets given r same short why = (same, elim why [ inl e ↦ absurd (let bad : ⊥ = cc in bad) | inr by ↦ by ])

checks_push : (limits : RunLimits) (most : ℕ) (files : List (List ℕ)) (file : List ℕ) (r : Refusal) → IsAccepted (files_checks limits most files) → IsRefusedBy (guest_checks limits most file) r →
    IsRefusedBy (files_checks limits most (files ++ file ∷ [])) r
checks_push limits most [] file r ok h = front_fails (guest_checks limits most file) [] r h
checks_push limits most (f ∷ fs) file r ok h =
    let both = accepted_parts (guest_checks limits most f) (files_checks limits most fs) ok in
    refused_behind (guest_checks limits most f) (files_checks limits most (fs ++ file ∷ [])) r both.0 (checks_push limits most fs file r both.1 h)

no_memory : (limits : RunLimits) (most : ℕ) (bytes : List ℕ) (r : Refusal) → length bytes ≤ file_limit → IsRefusedOr (guest_checks limits most bytes) r → IsTooLong r → ⊥
no_memory limits most bytes r within (inl e) long = subst IsTooLong e long
no_memory limits most bytes r within (inr by) long = short_refused (guest_checks limits most bytes) r (within, tt) by long

-- the file was read, and then refused
pub file_bad : (limits : RunLimits) (most : ℕ) (front rest : List (List ℕ)) (name : List ℕ) (old mid new : ShelfState) (read : List (List ℕ)) (bytes : List ℕ) (r : Refusal) → FilesRead limits most front old mid read →
    IsRead mid new name bytes → IsRefusedOr (guest_checks limits most bytes) r → FilesUnread limits most (front ++ name ∷ rest) old new r
file_bad limits most front rest name old mid new read bytes r was h why =
    inr (file_refused limits most front rest name old mid new read (read ++ bytes ∷ []) r was h.same h.asked h.faults h.last_failed
    (elim why [ inl e ↦ subst IsFileRefusal (sym e) tt | inr by ↦ by_file limits most bytes r by ])
    (last_read limits most front rest name old mid new read bytes was h)
    (refused_so limits most (front ++ name ∷ rest) old.contents (length front + 1) (read ++ bytes ∷ []) r (with_one limits most front old mid read bytes was)
    (no_memory limits most bytes r h.within why)
    (elim why [ inl e ↦ inl e | inr by ↦ inr (checks_push limits most read bytes r (accepted_all limits most read was.accepted) by) ])))

-- or there was no memory to keep it
pub file_unkept : (limits : RunLimits) (most : ℕ) (front rest : List (List ℕ)) (name : List ℕ) (old mid new : ShelfState) (read : List (List ℕ)) (bytes : List ℕ) → FilesRead limits most front old mid read →
    IsRead mid new name bytes → FilesUnread limits most (front ++ name ∷ rest) old new refusal.Memory
file_unkept limits most front rest name old mid new read bytes was h =
    inr (file_refused limits most front rest name old mid new read (read ++ bytes ∷ []) refusal.Memory was h.same h.asked h.faults h.last_failed tt
    (last_read limits most front rest name old mid new read bytes was h)
    (let same = with_one limits most front old mid read bytes was in (omega (arith, same), omega (arith, same))))
