-- Counts with their names, a line each.
use Rattle.std.proofs.Common.{◌+◌, ◌<◌, ℕ, List, length, take, get_or, Option, Bor}
use Rattle.std.proofs.lemmas.Option.{slice_get-get_or}
use Rattle.std.specs.Io.KnownBytes.{Appends}
use Rattle.std.specs.List.{flat_map}
use Rattle.swi_outside.specs.Sink.{AppendsPrefix}
use Rattle.swi_report.specs.Stats.{count_line}
use Rattle.swi_report.proofs.Pieces.{each_more, each_broken}

-- the line of a count
abbrev pub line_of : Bor (List ℕ) × ℕ → List ℕ
line_of c = count_line c.0.now c.1

pub count_more : (table : List (Bor (List ℕ) × ℕ)) (i : ℕ) (d : Bor (List ℕ) × ℕ) (o p q : Option (List ℕ)) → i < length table
    → Appends o p (flat_map line_of (take i table)) → Appends p q (line_of (get_or table i d))
    → Appends o q (flat_map line_of (take (i + 1) table))
count_more table i d o p q within written line =
    each_more line_of table i (get_or table i d) o p q (slice_get-get_or table i d within) written line

pub count_broken : (table : List (Bor (List ℕ) × ℕ)) (i : ℕ) (d : Bor (List ℕ) × ℕ) (o p q : Option (List ℕ)) → i < length table
    → Appends o p (flat_map line_of (take i table)) → AppendsPrefix p q (line_of (get_or table i d))
    → AppendsPrefix o q (flat_map line_of table)
count_broken table i d o p q within written part =
    each_broken line_of table i (get_or table i d) o p q (slice_get-get_or table i d within) written part
