-- Words of instructions, one by one.
use Rattle.std.proofs.Common.{◌≡◌, ◌+◌, ◌<◌, ℕ, suc, List, [], ◌∷◌, ◌++◌, length, take, get_or, refl, ap}
use Rattle.std.proofs.lemmas.List.{take_more}
use Rattle.std.specs.List.{AllZip}
use Rattle.swi_isa.specs.declared.instr.Instr.{Instr}
use Rattle.swi_make.specs.Made.{IsWordOf}

word_more : (is : List Instr) (ws : List ℕ) (i : Instr) (w : ℕ) → AllZip IsWordOf is ws → IsWordOf i w → AllZip IsWordOf (is ++ i ∷ []) (ws ++ w ∷ [])
word_more [] [] i w all this = (this, tt)
word_more [] (v ∷ ws) i w all this = absurd all
word_more (j ∷ is) [] i w all this = absurd all
word_more (j ∷ is) (v ∷ ws) i w all this = (all.0, word_more is ws i w all.1 this)

-- one more word
pub words_more : (is : List Instr) (ws : List ℕ) (k : ℕ) (i : Instr) (w : ℕ) → k < length is → i ≡ get_or is k i
    → AllZip IsWordOf (take k is) ws → IsWordOf i w → AllZip IsWordOf (take (k + 1) is) (ws ++ w ∷ [])
words_more is ws k i w within at all this = rw (take_more is k i within, ← at) (word_more (take k is) ws i w all this)

-- there are as many words as instructions
pub length-words : (is : List Instr) (ws : List ℕ) → AllZip IsWordOf is ws → length ws ≡ length is
length-words [] [] all = refl
length-words [] (v ∷ ws) all = absurd all
length-words (j ∷ is) [] all = absurd all
length-words (j ∷ is) (v ∷ ws) all = ap suc (length-words is ws all.1)
