-- What sinks hold after several writes.
use Rattle.std.proofs.Common.{◌≡◌, ℕ, ◌+◌, min, List, [], ◌++◌, length, take, arith, rules, refl, ap, subst, ◌∙◌, Option, Result, Ok, Err, is_err, true, false}
use Rattle.std.proofs.lemmas.List.{append-nil, take-append-le, take_min}
use Rattle.std.proofs.Math.Seq.{take-append-add}
use Rattle.std.proofs.lemmas.Grind.{common_steps}
use Rattle.std.specs.Io.KnownBytes.{Appends}
use Rattle.std.specs.Result.{IsErr}
use Rattle.swi_outside.specs.Causes.{HasCause}
use Rattle.swi_outside.specs.Laws.{Appends-append}
use Rattle.swi_outside.specs.Sink.{SinkState, AppendsPrefix, AppendsThenPrefix, WritesPiece, WasWritten}

-- a prefix of what comes behind what was written is a prefix of the whole
pub then_prefix : (o q : Option (List ℕ)) (x y z : List ℕ) → AppendsThenPrefix o q x y → AppendsPrefix o q (x ++ (y ++ z))
then_prefix o q x y z h =
    let m : ℕ = min h.0 (length y) in
    let front : take (length x + m) (x ++ (y ++ z)) ≡ x ++ take h.0 y =
    take-append-add x (y ++ z) m ∙ ap (λ l. x ++ l) (take-append-le m y z (omega arith) ∙ take_min h.0 y) in
    (length x + m, rw front h.1)

pub prefix_behind : (o p q : Option (List ℕ)) (x y z : List ℕ) → Appends o p x → AppendsPrefix p q y → AppendsPrefix o q (x ++ (y ++ z))
prefix_behind o p q x y z h i = then_prefix o q x y z (i.0, Appends-append o p q x (take i.0 y) h i.1)

-- a prefix of the first part is a prefix of the whole
pub prefix_first : (o p : Option (List ℕ)) (x y : List ℕ) → AppendsPrefix o p x → AppendsPrefix o p (x ++ y)
prefix_first o p x y h =
    let m : ℕ = min h.0 (length x) in
    let front : take m (x ++ y) ≡ take h.0 x = take-append-le m x y (omega arith) ∙ take_min h.0 x in
    (m, rw front h.1)

-- the whole is a prefix of it
pub prefix_whole : (o p : Option (List ℕ)) (x : List ℕ) → Appends o p x → AppendsPrefix o p x
prefix_whole o p x h =
    let whole : take (length x) x ≡ x = search (rules, common_steps) in
    (length x, rw whole h)

-- a write that failed, and one that did not
pub write_failed : {E : Type 0} (o p : Option (List ℕ)) (r : Result Unit E) (x : List ℕ) → is_err r ≡ true → WritesPiece o p r x → AppendsPrefix o p x
write_failed o p (Ok u) x h w = cc
write_failed o p (Err e) x h w = w

pub write_done : {E : Type 0} (o p : Option (List ℕ)) (r : Result Unit E) (x : List ℕ) → is_err r ≡ false → WritesPiece o p r x → Appends o p x
write_done o p (Ok u) x h w = w
write_done o p (Err e) x h w = cc

-- a prefix of the last part
pub prefix_last : (o p q : Option (List ℕ)) (x y : List ℕ) → Appends o p x → AppendsPrefix p q y → AppendsPrefix o q (x ++ y)
prefix_last o p q x y h i = rw append-nil at (prefix_behind o p q x y [] h i)

-- ---- whole writes

-- after writes that did not fail
after_still : {E : Type 0} (a b n : ℕ) (r : Result Unit E) → b ≡ a → HasCause b n r → HasCause a n r
after_still {E} a b n r still cause = subst (λ (k : ℕ). HasCause {T = Unit {0}} {E = E} k n r) still cause

-- a write that failed behind others that did not: a front of the whole is there
pub written_part : {E F : Type 0} (o m p : SinkState) {e : F} {piece : List ℕ} (r : Result Unit E) (x : List ℕ)
    → IsErr r → m.faults ≡ o.faults → WasWritten m p (Err e) piece → AppendsPrefix o.held p.held x → WasWritten o p r x
written_part o m p (Ok u) x err still failed front = cc
written_part o m p (Err f) x err still failed front = record {
  bytes = front;
  cause = after_still o.faults m.faults p.faults (Err f) still (record { later = failed.cause.later; failed = failed.cause.failed; quiet = tt });
}

-- a first write that failed
pub written_front : {E F : Type 0} (o p : SinkState) {e : F} (r : Result Unit E) (x y : List ℕ) → IsErr r → WasWritten o p (Err e) x → WasWritten o p r (x ++ y)
written_front o p r x y err failed = written_part o o p r (x ++ y) err refl failed (prefix_first o.held p.held x y failed.bytes)

-- a write behind one that did not fail
pub written_then : {E F : Type 0} (o m p : SinkState) {u : Unit} (r : Result Unit E) (x y : List ℕ) → WasWritten {E = F} o m (Ok u) x → WasWritten m p r y → WasWritten o p r (x ++ y)
written_then o m p (Ok v) x y first last = record {
  bytes = Appends-append o.held m.held p.held x y first.bytes last.bytes;
  cause = after_still o.faults m.faults p.faults (Ok v) first.cause.quiet last.cause;
}
written_then o m p (Err e) x y first last = record {
  bytes = prefix_last o.held m.held p.held x y first.bytes last.bytes;
  cause = after_still o.faults m.faults p.faults (Err e) first.cause.quiet last.cause;
}
