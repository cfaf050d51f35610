-- Pieces of the input that were put into memory, one behind the other.
use Rattle.std.proofs.Common.{◌≡◌, ℕ, ◌+◌, ◌-◌, ◌<◌, ◌≤◌, true, List, [], ◌++◌, length, refl, sym, ap, ◌∙◌, arith, Option, Some, length-append}
use Rattle.std.specs.Io.KnownBytes.{Appends}
use Rattle.swi_outside.specs.Sink.{AppendsPrefix}
use Rattle.swi_memory.specs.Bus.{AreaData, bytes_at, holds}
use Rattle.swi_calls.specs.Moves.{ReadsInto}
use Rattle.swi_memory.specs.Laws.{bytes_at-add, with_bytes-append}
use Rattle.swi_outside.specs.Laws.{Appends-append}
use Rattle.swi_outside.specs.Source.{SourceState, ReadFrom}
use Rattle.swi_outside.proofs.SinkLemmas.{prefix_behind}
use Rattle.swi_outside.proofs.SourceLemmas.{gave_more, read_counted}
use Rattle.swi_memory.specs.declared.right.Right.TheVariants.{Write}
use Rattle.swi_calls.specs.Call.{read_served}

-- two pieces, one behind the other
pub reads_join : (bus mid next : List AreaData) (first now last : SourceState) (a d k : ℕ) → ReadsInto bus mid first now a d → ReadsInto mid next now last (a + d) k →
    ReadsInto bus next first last a (d + k)
reads_join bus mid next first now last a d k h i = record {
  bytes = h.bytes ++ i.bytes;
  number = simp length-append (rw (h.number, i.number) refl);
  stored = i.stored ∙ rw (h.stored, ← h.number) (sym (with_bytes-append bus a h.bytes i.bytes));
  gave = gave_more h.gave i.gave;
}

-- A read that was made is the definition's, of each input from which its bytes may have been read.
pub record ReadDone (first buffer count k : ℕ) (bus bus' : List AreaData) (input rest : List ℕ) : Type 0 where
  pub answer : (read_served first buffer count bus input).answer ≡ Some k
  pub bus_is : (read_served first buffer count bus input).bus ≡ bus'
  pub rest_is : (read_served first buffer count bus input).input ≡ rest

pub read_done : (first buffer count k : ℕ) (bus bus' : List AreaData) (old new : SourceState) (input rest : List ℕ) → first ≡ 0 → holds bus Write buffer count ≡ true → ReadsInto bus bus' old new buffer k →
    k ≤ count → (k < count → new.left ≡ Some []) → ReadFrom old new input rest → ReadDone first buffer count k bus bus' input rest
read_done first buffer count k bus bus' old new input rest zero_first held reads within ended r =
    let number = reads.number in
    let both = read_counted count reads.gave (omega (arith, number, within)) (λ fewer. ended (omega (arith, number, fewer))) r in
    record {
      answer = rw (zero_first, held, both.0) (ap (λ n. Some n) number);
      bus_is = rw (zero_first, held, both.0) (sym reads.stored);
      rest_is = rw (zero_first, held) both.1;
    }

-- a buffer that is written in pieces: one piece more
pub written_more : (bus : List AreaData) (a d : ℕ) (piece : List ℕ) (first now next : Option (List ℕ)) → Appends first now (bytes_at bus a d) → piece ≡ bytes_at bus (a + d) (length piece) →
    Appends now next piece → Appends first next (bytes_at bus a (d + length piece))
written_more bus a d piece first now next h bytes w =
    let e : bytes_at bus a (d + length piece) ≡ bytes_at bus a d ++ piece = bytes_at-add bus a d (length piece) ∙ ap (λ l. bytes_at bus a d ++ l) (sym bytes) in
    rw e (Appends-append first now next (bytes_at bus a d) piece h w)

-- and a part of the last one
pub written_part : (bus : List AreaData) (a n d : ℕ) (piece : List ℕ) (first now next : Option (List ℕ)) → d + length piece ≤ n → Appends first now (bytes_at bus a d) →
    piece ≡ bytes_at bus (a + d) (length piece) → AppendsPrefix now next piece → AppendsPrefix first next (bytes_at bus a n)
written_part bus a n d piece first now next within h bytes w =
    let m : n ≡ d + (length piece + (n - (d + length piece))) = omega arith in
    rw (m, bytes_at-add bus a d (length piece + (n - (d + length piece))), bytes_at-add bus (a + d) (length piece) (n - (d + length piece)), ← bytes)
    (prefix_behind first now next (bytes_at bus a d) piece (bytes_at bus (a + d + length piece) (n - (d + length piece))) h w)
