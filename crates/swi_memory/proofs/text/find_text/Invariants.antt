use Rattle.std.proofs.Common.{◌≡◌, ℕ, drop}
use Rattle.swi_memory.specs.Bus.{is_text_word}
use Rattle.swi_memory.specs.TextAt.{HasOne}
use Rattle.swi_memory.specs.Views.{areas}
use Rattle.swi_memory.proofs.text.find_text.Given as goal

-- the banks so far have no text word
abbrev pub invariant-loop-i : goal.invariant-loop-i
invariant-loop-i l = record {
  words : (x : ℕ) → is_text_word (areas (drop l.i l.banks)) x ≡ is_text_word (areas l.banks) x;
  one : HasOne (areas (drop l.i l.banks));
}
