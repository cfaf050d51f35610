-- A word of another hand under control.
use Rattle.std.proofs.Common.{◌≡◌, ℕ, ◌<◌, true, false, List, length, slice_index, slice_set, Option, Some, None, Result, Ok, Err, is_err, is_some, OnOk, refl, sym, ap, subst, ◌∙◌, get_or-set_same}
use Rattle.std.proofs.lemmas.List.{set-get_or, set-set}
use Rattle.swi_isa.specs.Decode.{decoded, decoded_by}
use Rattle.swi_calls.specs.declared.end.End.{End}
use Rattle.swi_image.specs.Format.{ImageData}
use Rattle.swi_image.specs.Place.{word_at}
use Rattle.swi_hart.specs.declared.hart.Stage.TheVariants.{Start, Low, Return, Leave}
use Rattle.swi_hart.specs.declared.hart.Control.{Control}
use Rattle.swi_hart.specs.declared.hart.Control.TheVariants.{At, Outside}
use Rattle.swi_hart.specs.Hart.{index_of, place_under, is_between}
use Rattle.swi_hart.specs.Exchanged.{Exchanged, PlainAt, is_plain}
use Rattle.swi_hart.specs.declared.fault.BoardFault.{BoardFault}
use Rattle.swi_rom.specs.Service.{ServiceOf}
use Rattle.swi_board.specs.Board.{BoardWithDevices}
use Rattle.swi_board.specs.BoardRan.{BoardRan, BoardStays}

held_or : {X : Type 0} → Option X → X → X
held_or None x = x
held_or (Some y) x = y

some_is : {X : Type 0} (x y : X) → Some x ≡ Some y → x ≡ y
unfolding held_or
some_is x y same = ap (λ o. held_or o x) same

-- where control stands, by what a hart tells of it between two instructions
pub control_is : (e : Option End) (c : Control) (i b o : ℕ) → index_of e c ≡ Some i → place_under e c ≡ Some (b, o) → is_between c ≡ true → c ≡ At i b o Start
control_is None (At j d p Start) i b o at place between =
    let index : j ≡ i = some_is j i at in
    let block : d ≡ b = ap (λ (x : ℕ × ℕ). x.0) (some_is (d, p) (b, o) place) in
    let offset : p ≡ o = ap (λ (x : ℕ × ℕ). x.1) (some_is (d, p) (b, o) place) in
    rw (index, block, offset) refl
control_is None (At j d p Low) i b o at place between = cc
control_is None (At j d p Return) i b o at place between = cc
control_is None (At j d p Leave) i b o at place between = cc
control_is None Outside i b o at place between = cc
control_is (Some e) c i b o at place between = cc

-- addi a0, zero, 7 and addi a0, zero, 8
own_plain : is_plain (decoded 0x00700513) ≡ true
unfolding decoded decoded_by
own_plain = refl

other_plain : is_plain (decoded 0x00800513) ≡ true
unfolding decoded decoded_by
other_plain = refl

pub plain_at : (v : ImageData) (words new : List ℕ) (c : Control) (i b o : ℕ) → c ≡ At i b o Start → i < length words →
    word_at v b o ≡ 0x00700513 → new ≡ slice_set words i 0x00800513 → PlainAt v new c i b o Start
plain_at v words new c i b o stands lt own set = record {
  control = stands;
  own = ap (λ (x : ℕ). is_plain (decoded x)) own ∙ own_plain;
  held = ap (λ (x : List ℕ). is_plain (decoded (slice_index x i))) set ∙ ap (λ (x : ℕ). is_plain (decoded x)) (get_or-set_same words i 0x00800513 0 lt) ∙ other_plain;
}

-- the same word, put back
pub put_back : (words : List ℕ) (i w own : ℕ) → slice_index words i ≡ own → slice_set (slice_set words i w) i own ≡ words
put_back words i w own same = set-set words i w own ∙ ap (λ (x : ℕ). slice_set words i x) (sym same) ∙ set-get_or words i 0

pub exchanged : (sound : List ℕ → Type 0) (v : ImageData) (words new : List ℕ) (c : Control) (i b o : ℕ) → c ≡ At i b o Start → i < length words →
    word_at v b o ≡ 0x00700513 → slice_index words i ≡ 0x00700513 → new ≡ slice_set words i 0x00800513 → sound words → Exchanged sound v new c
exchanged sound v words new c i b o stands lt own held set ok = record {
  index = i;
  block = b;
  offset = o;
  stage = Start;
  plain = plain_at v words new c i b o stands lt own set;
  put_back = subst sound (sym (ap (λ (x : List ℕ). slice_set x i (word_at v b o)) set ∙ put_back words i 0x00800513 (word_at v b o) (held ∙ sym own))) ok;
}

pub still_sound : {R : Type 0} (sound : R → List ℕ → Type 0) (rom next : R) (words other left new : List ℕ) (i : ℕ) → slice_index words i ≡ 0x00700513 →
    other ≡ slice_set words i 0x00800513 → left ≡ other → new ≡ slice_set left i 0x00700513 → next ≡ rom → sound rom words → sound next new
still_sound sound rom next words other left new i held set stays back same ok =
    let whole : new ≡ words = back ∙ ap (λ (x : List ℕ). slice_set x i 0x00700513) (stays ∙ set) ∙ put_back words i 0x00800513 0x00700513 held in
    subst (λ r. sound r new) (sym same) (subst (sound rom) (sym whole) ok)

pub on_ok : {T E : Type 0} {P : Type 0} (r : Result T E) → is_err r ≡ false → OnOk r P → P
on_ok (Ok x) fine p = p
on_ok (Err e) fine p = cc

pub none_of : {X : Type 0} (x : Option X) → is_some x ≡ false → x ≡ None
none_of None is = refl
none_of (Some x) is = cc

-- what holds along a run that came to its end holds of its board
pub ran_on : {S : Type 0} (k : ServiceOf S) (v : ImageData) (n : ℕ) (old new : BoardWithDevices S) (r : Result Unit BoardFault) →
    BoardRan k v n old new r → is_err r ≡ false → BoardStays k v n old new
ran_on k v n old new (Ok u) ran fine = subst (BoardStays k v n old) (sym ran.ends.0) ran.along.stays
ran_on k v n old new (Err e) ran fine = cc
