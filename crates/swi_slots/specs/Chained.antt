-- What a list of links says of the record.
use Rattle.std.specs.Prelude.{◌≡◌, ℕ, ◌+◌, true}
use Rattle.swi_rom.specs.Record.{Record, Link, Has, has_link}

-- at index i stands a link, of any program, and the block to which it leads stands from word `home` on
pub record LinkInto (r : Record) (home i : ℕ) : Type 0 where
  pub link : Link
  pub first : ℕ
  pub is_link : has_link r.links link ≡ true
  pub stood : Has r.placed (record { program = link.program; block = link.block; first = first })
  pub index : i ≡ first + link.offset
  pub stands : Has r.placed (record { program = link.program; block = link.into; first = home })
