-- The programs of files, made one behind the other as the files are read.
use Rattle.std.proofs.Common.{◌≡◌, ℕ, suc, ◌≤◌, List, [], ◌∷◌, ◌++◌, String, Global, length, map, string_bytes, refl, sym, ◌∙◌, ap, subst, append_assoc, arith}
use Rattle.std.specs.Prelude.{Err}
use Rattle.std.proofs.lemmas.List.{map-append}
use Rattle.swi_outside.specs.Shelf.{ShelfState}
use Rattle.swi_command.specs.declared.command.RunLimits.{RunLimits}
use Rattle.swi_share.specs.declared.process.Guest.{Guest}
use Rattle.swi_share.specs.Starting.{IsGuest}
use Rattle.swi_answer.specs.declared.answer.Refusal.{Refusal}
use Rattle.swi_answer.specs.declared.answer.Refusal.TheVariants as refusal
use Rattle.swi_task.specs.Checks.{IsRefusedOr}
use Rattle.swi_task.specs.Files.{FileRead}
use Rattle.swi_task.proofs.Refusals.{IsRead, same_all}
use Rattle.swi_share_command.specs.RunShared.{FilesUnread, GuestsRead, IsGuestFile, IsGuestOf, guest_checks}
use Rattle.swi_share_command.proofs.SharedFiles.{file_bad, file_unkept, file_unread, files_more, files_none, zip_push}
use Rattle.swi_share_command.proofs.SharedGuests.{own_more}

abbrev pub names_of : List (String Global) → List (List ℕ)
names_of names = map (λ n. string_bytes n) names

-- the files of a front of the names were read, and their programs made; there is a place for each of those that are left
pub record ReadSoFar (limits : RunLimits) (most : ℕ) (names rest : List (String Global)) (places : ℕ) (old now : ShelfState) (guests : List Guest) : Type 0 where
  pub front : List (String Global)
  pub names_are : names ≡ front ++ rest
  pub room : length rest ≤ places
  pub read : GuestsRead limits most (names_of front) old now guests

pub read_none : (limits : RunLimits) (most : ℕ) (names : List (String Global)) (places : ℕ) (s : ShelfState) → length names ≤ places → ReadSoFar limits most names names places s s []
read_none limits most names places s room = record {
  front = [];
  names_are = refl;
  room = room;
  read = record { files = []; read = files_none limits most s (same_all s.contents); made = tt; own = tt };
}

module _ (limits : RunLimits) (most : ℕ) (names : List (String Global)) (x : String Global) (left rest : List (String Global)) (places : ℕ) (old mid new : ShelfState) (guests : List Guest)
    (is : left ≡ x ∷ rest) (was : ReadSoFar limits most names left places old mid guests) where
  split : names_of names ≡ names_of was.front ++ string_bytes x ∷ names_of rest
  split = ap names_of (was.names_are ∙ ap (λ (l : List (String Global)). was.front ++ l) is) ∙ map-append (λ n. string_bytes n) was.front (x ∷ rest)

  -- the next file is not read
  pub next_unread : (r : Refusal) → FileRead mid new (string_bytes x) (Err r) → FilesUnread limits most (names_of names) old new r
  next_unread r h =
      subst (λ (ns : List (List ℕ)). FilesUnread limits most ns old new r) (sym split)
      (file_unread limits most (names_of was.front) (names_of rest) (string_bytes x) old mid new was.read.files r was.read.read h)

  -- or it is refused
  pub next_refused : (bytes : List ℕ) (r : Refusal) → IsRead mid new (string_bytes x) bytes → IsRefusedOr (guest_checks limits most bytes) r → FilesUnread limits most (names_of names) old new r
  next_refused bytes r h why =
      subst (λ (ns : List (List ℕ)). FilesUnread limits most ns old new r) (sym split)
      (file_bad limits most (names_of was.front) (names_of rest) (string_bytes x) old mid new was.read.files bytes r was.read.read h why)

  -- or there is no memory to keep its program
  pub next_unkept : (bytes : List ℕ) → IsRead mid new (string_bytes x) bytes → FilesUnread limits most (names_of names) old new refusal.Memory
  next_unkept bytes h =
      subst (λ (ns : List (List ℕ)). FilesUnread limits most ns old new refusal.Memory) (sym split)
      (file_unkept limits most (names_of was.front) (names_of rest) (string_bytes x) old mid new was.read.files bytes was.read.read h)

  -- or its program is made
  pub next_made : (fewer : ℕ) (bytes : List ℕ) (guest : Guest) → places ≡ suc fewer → IsRead mid new (string_bytes x) bytes → IsGuestFile limits most bytes → IsGuestOf limits most bytes guest → IsGuest guest →
      ReadSoFar limits most names rest fewer old new (guests ++ guest ∷ [])
  next_made fewer bytes guest few h accepted made own =
      let room = was.room in
      let long = ap (λ (l : List (String Global)). length l) is in
      record {
        front = was.front ++ x ∷ [];
        names_are = was.names_are ∙ ap (λ (l : List (String Global)). was.front ++ l) is ∙ sym (append_assoc was.front (x ∷ []) rest);
        room = omega (arith, room, few, long);
        read = subst (λ (ns : List (List ℕ)). GuestsRead limits most ns old new (guests ++ guest ∷ [])) (sym (map-append (λ n. string_bytes n) was.front (x ∷ []))) (record {
          files = was.read.files ++ bytes ∷ [];
          read = files_more limits most (names_of was.front) old mid new was.read.files (string_bytes x) bytes was.read.read h accepted;
          made = zip_push (IsGuestOf limits most) was.read.files guests bytes guest was.read.made made;
          own = own_more guests guest was.read.own own;
        });
      }
