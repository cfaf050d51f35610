-- What sources gave in several calls.
use Rattle.std.proofs.Common.{◌≡◌, ℕ, zero, suc, ◌<◌, ◌≤◌, List, [], ◌∷◌, ◌++◌, length, take, drop, arith, refl, sym, ap, ◌∙◌, Option, Some, None, append_assoc, append-nil, subst}
use Rattle.std.proofs.KnownBytes.{Consumes-nil, Consumes-trans}
use Rattle.std.proofs.lemmas.List.{append_cancel_left}
use Rattle.std.specs.Io.KnownBytes.{Consumes}
use Rattle.swi_outside.specs.Source.{SourceState, Gave, HasGiven, MayBeLeft, ReadFrom}

-- a source that wasn't asked
pub gave_none : (s : SourceState) → Gave s s []
gave_none s = record { given = sym (append-nil s.given); left = Consumes-nil s.left }

pub gave_more : {a b c : SourceState} {xs ys : List ℕ} → Gave a b xs → Gave b c ys → Gave a c (xs ++ ys)
gave_more {a} {b} {c} {xs} {ys} h i = record {
  given = i.given ∙ ap (λ l. l ++ ys) h.given ∙ append_assoc a.given xs ys;
  left = Consumes-trans a.left b.left c.left xs ys h.left i.left;
}

pub given_still : (s : SourceState) → HasGiven s s
given_still s = ([], gave_none s)

pub given_more : {a b c : SourceState} → HasGiven a b → HasGiven b c → HasGiven a c
given_more h i = (h.0 ++ i.0, gave_more h.1 i.1)

-- what may be left behind such bytes
left_behind : (old new : Option (List ℕ)) (bytes rest : List ℕ) → Consumes old new bytes → MayBeLeft new rest → MayBeLeft old (bytes ++ rest)
left_behind None new bytes rest h may = tt
left_behind (Some xs) None bytes rest h may = absurd h
left_behind (Some xs) (Some ys) bytes rest h may = ap (λ l. bytes ++ l) may ∙ sym h

-- the bytes that were read are those that were given
pub bytes_are : {old new : SourceState} {bytes input rest : List ℕ} → Gave old new bytes → ReadFrom old new input rest → input ≡ bytes ++ rest
bytes_are {old} {new} {bytes} {input} {rest} h r =
    let same : r.bytes ≡ bytes = append_cancel_left old.given r.bytes bytes (sym r.given ∙ h.given) in
    r.is ∙ ap (λ l. l ++ rest) same

-- of a source that wasn't asked all is left
pub rest_is : {s : SourceState} {input rest : List ℕ} → ReadFrom s s input rest → rest ≡ input
rest_is {s} r = sym (bytes_are (gave_none s) r)

-- what was read in two parts
pub read_last : {a b c : SourceState} {input rest : List ℕ} → HasGiven a b → (last : HasGiven b c) → ReadFrom a c input rest → ReadFrom b c (last.0 ++ rest) rest
read_last h last r = record { bytes = last.0; given = last.1.given; is = refl; left = r.left }

pub read_first : {a b c : SourceState} {input rest : List ℕ} → HasGiven a b → (last : HasGiven b c) → ReadFrom a c input rest → ReadFrom a b input (last.0 ++ rest)
read_first {a} {b} {c} {input} {rest} h last r = record {
  bytes = h.0;
  given = h.1.given;
  is = bytes_are (gave_more h.1 last.1) r ∙ append_assoc h.0 last.0 rest;
  left = left_behind b.left c.left last.0 rest last.1.left r.left;
}

told_by : (old new : Option (List ℕ)) (bytes left : List ℕ) → Consumes old new bytes → old ≡ Some left → (rest : List ℕ) × (new ≡ Some rest) × (left ≡ bytes ++ rest)
told_by None new bytes left h is = cc
told_by (Some xs) None bytes left h is = absurd h
told_by (Some xs) (Some ys) bytes left h is = (ys, refl, let same : xs ≡ left = cc in sym same ∙ h)

-- Of a source that tells what is left, what was given was read from just that.
pub read_told : {old new : SourceState} {left : List ℕ} → HasGiven old new → old.left ≡ Some left → (rest : List ℕ) × (new.left ≡ Some rest) × ReadFrom old new left rest
read_told {old} {new} {left} h told =
    let t = told_by old.left new.left h.0 left h.1.left told in
    (t.0, t.1, record { bytes = h.0; given = h.1.given; is = t.2; left = subst (λ o. MayBeLeft o t.0) (sym t.1) refl })

-- a front that is shorter than what was asked for is all that there is
front_is : (bytes rest : List ℕ) (count : ℕ) → length bytes ≤ count → (length bytes < count → rest ≡ []) → (take count (bytes ++ rest) ≡ bytes) × (drop count (bytes ++ rest) ≡ rest)
front_is [] rest zero within whole = (refl, refl)
front_is [] rest (suc n) within whole = let none : rest ≡ [] = whole (omega arith) in rw none (refl, refl)
front_is (b ∷ bytes) rest zero within whole = absurd (omega (arith, within))
front_is (b ∷ bytes) rest (suc n) within whole =
    let more = front_is bytes rest n (omega (arith, within)) (λ fewer. whole (omega (arith, fewer))) in
    (ap (λ l. b ∷ l) more.0, more.1)

none_left : (o : Option (List ℕ)) (rest : List ℕ) → MayBeLeft o rest → o ≡ Some [] → rest ≡ []
none_left None rest may is = cc
none_left (Some xs) rest may is = let none : xs ≡ [] = cc in may ∙ none

-- a read of so many bytes, of which fewer come only at the end
pub read_counted : {old new : SourceState} {bytes input rest : List ℕ} (count : ℕ) → Gave old new bytes → length bytes ≤ count → (length bytes < count → new.left ≡ Some []) →
    ReadFrom old new input rest → (take count input ≡ bytes) × (drop count input ≡ rest)
read_counted {old} {new} {bytes} {input} {rest} count h within ended r =
    rw (bytes_are h r) (front_is bytes rest count within (λ fewer. none_left new.left rest r.left (ended fewer)))
