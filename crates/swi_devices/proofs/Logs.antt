-- What was noted of a piece that was handed on.
use Rattle.std.proofs.Common.{◌≡◌, ℕ, List, [], ◌++◌, length, take, sym, ap, ◌∙◌, append-nil, Option, Some, Result, Ok, Err, is_err, false}
use Rattle.std.proofs.Math.Seq.{take-append_seam}
use Rattle.std.specs.Io.KnownBytes.{Appends}
use Rattle.swi_outside.specs.Sink.{WritesPiece}
use Rattle.swi_devices.specs.Streams.{HandsOn}

-- all of it, where the answer is Ok
whole_is : (front rest piece : List ℕ) → piece ≡ front ++ rest → rest ≡ [] → front ≡ piece
whole_is front rest piece is none = sym (is ∙ ap (λ l. front ++ l) none ∙ append-nil front)

pub handed_whole : {E : Type 0} {contents contents' : Option (List ℕ)} {log log' piece : List ℕ} (result : Result Unit E) → is_err result ≡ false →
    HandsOn contents contents' log log' result piece → Appends contents contents' piece
handed_whole (Ok u) fine h = rw (whole_is h.front h.rest _ h.is h.whole) at h.handed
handed_whole (Err e) fine h = cc

pub noted_piece : {E : Type 0} {contents contents' : Option (List ℕ)} {log log' piece : List ℕ} (result : Result Unit E) → HandsOn contents contents' log log' result piece →
    WritesPiece (Some log) (Some log') result piece
noted_piece (Ok u) h = rw (← whole_is h.front h.rest _ h.is h.whole) h.noted
noted_piece {piece = piece} (Err e) h =
    let front : take (length h.front) piece ≡ h.front = ap (take (length h.front)) h.is ∙ take-append_seam h.front h.rest in
    (length h.front, rw front h.noted)
