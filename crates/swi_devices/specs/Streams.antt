-- Sources and sinks over readers and writers of std.
use Rattle.std.specs.Prelude.{◌≡◌, ℕ, Bool, true, false, List, [], ◌++◌, Option, Some, Result, OnOk}
use Rattle.std.specs.Io.KnownBytes.{Appends}
use Rattle.swi_outside.specs.Sink.{SinkState}
use Rattle.swi_outside.specs.Source.{SourceState}

-- a source over a reader: the bytes that it gave, those that are left, where its reader tells them, whether the end was reached, how
-- often its reader was asked, and the source's faults
pub record ReaderSource : Type 0 where
  pub given : List ℕ
  pub remaining : Option (List ℕ)
  pub ended : Bool
  pub asks : ℕ
  pub failures : ℕ
  pub faults : ℕ

-- what is left of it: nothing, once the end was reached, and else what its reader tells
abbrev pub left_by : Bool → Option (List ℕ) → Option (List ℕ)
left_by true remaining = Some []
left_by false remaining = remaining

-- it as a source
abbrev pub source_of : ReaderSource → SourceState
source_of s = record { given = s.given; left = left_by s.ended s.remaining; faults = s.faults }

-- a sink over a writer: the bytes that the writer holds, where it tells them, those that it took from the sink, how often it failed or took
-- nothing, and the sink's faults
pub record WriterSink : Type 0 where
  pub contents : Option (List ℕ)
  pub took : List ℕ
  pub failures : ℕ
  pub faults : ℕ

-- it as a sink
abbrev pub sink_of : WriterSink → SinkState
sink_of s = record { held = Some s.took; faults = s.faults }

-- Of a piece a front was handed to a writer that held these bytes, where it tells them, and noted behind a log: all of it, where the answer is Ok.
pub record HandsOn {E : Type 0} (contents contents' : Option (List ℕ)) (log log' : List ℕ) (result : Result Unit E) (piece : List ℕ) : Type 0 where
  pub front : List ℕ
  pub rest : List ℕ
  pub is : piece ≡ front ++ rest
  pub handed : Appends contents contents' front
  pub noted : log' ≡ log ++ front
  pub whole : OnOk result (rest ≡ [])
