-- Programs before their first events, over an empty cache.
use Rattle.std.specs.Prelude.{◌≡◌, ℕ, ◌/◌, ⊤, max, false, List, [], ◌∷◌, map, length, Option, Some, None}
use Rattle.swi_memory.specs.Bus.{fetched}
use Rattle.swi_program.specs.Layout.{IsLayoutOf}
use Rattle.swi_program.specs.Text.{text_of}
use Rattle.swi_calls.specs.Flat.{machine_of}
use Rattle.swi_render.specs.Carried.{Carries}
use Rattle.swi_render.specs.ImageOf.{IsImageOf}
use Rattle.swi_rom.specs.Record.{empty_record}
use Rattle.swi_hart.specs.Hart.{unbooted}
use Rattle.swi_share.specs.declared.process.Guest.{Guest}
use Rattle.swi_share.specs.declared.process.Process.{Process}
use Rattle.swi_share.specs.Shared.{Context, Shared}

-- the image is one of the program's text, and the layout is the program's
pub record IsGuest (x : Guest) : Type 0 where
  pub own : IsImageOf (text_of x.program.segments) x.image
  pub laid_out : IsLayoutOf x.program.segments x.layout

abbrev pub AreGuests : List Guest → Type 0
AreGuests [] = ⊤
AreGuests (x ∷ xs) = IsGuest x × AreGuests xs

-- the most words of a block
unfoldable pub most_words : List Guest → ℕ
most_words [] = 0
most_words (x ∷ xs) = max x.image.block_words (most_words xs)

-- a program before its first event
abbrev pub first_context : Guest → Option Context
first_context x = Some (record {
  image = x.image;
  machine = machine_of x.program x.layout false;
  input = x.input.items;
  booted = false;
  place = None;
  count = 0;
})

-- all programs before their first events: as many slots of the most words of a block as so many bytes have room for
abbrev pub shared_start : ℕ → List Guest → Shared
shared_start bytes guests = record {
  setting = record { slots = bytes / 4 / most_words guests; slot_words = most_words guests; programs = length guests };
  kept = empty_record;
  contexts = map first_context guests;
  output = [];
  error = [];
  sets = 0;
  fetches = 0;
  words = [];
}

-- what stands for a guest that has started
pub record Started (x : Guest) (p : Process) : Type 0 where
  pub hart : p.hart ≡ unbooted (machine_of x.program x.layout false)
  pub image : p.image ≡ x.image
  pub input : p.input.left ≡ x.input.items
  pub carries : Carries (fetched (machine_of x.program x.layout false).bus) x.image

abbrev pub AllStarted : List Guest → List Process → Type 0
AllStarted [] [] = ⊤
AllStarted [] (p ∷ ps) = ⊥
AllStarted (x ∷ xs) [] = ⊥
AllStarted (x ∷ xs) (p ∷ ps) = Started x p × AllStarted xs ps
