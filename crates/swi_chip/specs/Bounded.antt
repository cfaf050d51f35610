-- The policy of a service that bounds the links into a block: first in, first out, but that a transfer whose link the bound refuses is served
-- as an entry, so that its exit stays one.
use Rattle.std.specs.Prelude.{◌≡◌, ◌≤◌, ℕ, ◌*◌, ◌==◌, ◌&&◌, Bool, false, List, length, filter, nat_le, nat_lt, Option, Some, None, if◌then◌else◌}
use Rattle.swi_image.specs.Format.{ImageData}
use Rattle.swi_image.specs.Place.{place_of}
use Rattle.swi_rom.specs.Record.{Record, Transfer, indirect, target_of}
use Rattle.swi_rom.specs.Service.{Setting}
use Rattle.swi_slots.specs.Fifo.{fifo}
use Rattle.swi_slots.specs.Keys.{Images}
use Rattle.swi_slots.specs.Slots.{Slots, kept_by, setting_of}
use Rattle.swi_slots.specs.Sound.{SlotsServe}

-- how many links lead into a block of the program in turn
abbrev pub leading_into : Record → ℕ → ℕ
leading_into r c = length (filter (λ l. l.program == r.turn && l.into == c) r.links)

-- without a bound the transfer makes a link
abbrev pub makes_link : Setting → Record → ImageData → Transfer → Bool
makes_link by r v t = nat_lt r.counts.links (fifo by r v t).counts.links

-- into the block of a place lead as many links as may, or more
abbrev pub has_most : ℕ → Record → Option (ℕ × ℕ) → Bool
has_most most r None = false
has_most most r (Some p) = nat_le most (leading_into r p.0)

-- the bound refuses the transfer's link: into its target's block, when that has come to stand in the ram, lead as many as may
unfoldable pub is_refused : ℕ → Setting → Record → ImageData → Transfer → Bool
is_refused most by r v t = makes_link by r v t && has_most most (fifo by r v (indirect (target_of t))) (place_of v (target_of t))

-- the policy
unfoldable pub fifo_few : ℕ → Setting → Record → ImageData → Transfer → Record
fifo_few most by r v t = if is_refused most by r v t then fifo by r v (indirect (target_of t)) else fifo by r v t

-- No more links lead into a block.
abbrev pub IsBounded : ℕ → Record → Type 0
IsBounded most r = (c : ℕ) → leading_into r c ≤ most

-- The policy keeps to that.
abbrev pub KeepsBound : Type 0
KeepsBound = (most : ℕ) (by : Setting) (r : Record) (v : ImageData) (t : Transfer) → IsBounded most r → IsBounded most (fifo_few most by r v t)

-- A bound by the number of all words in the slots refuses nothing.
abbrev pub BoundsNothing : Type 0
BoundsNothing = (most : ℕ) (s : Slots) (vs : Images) (ram : List ℕ) (t : Transfer) → SlotsServe s vs ram → s.slots * s.size ≤ most →
    fifo_few most (setting_of s) (kept_by s) (vs s.turn) t ≡ fifo (setting_of s) (kept_by s) (vs s.turn) t
