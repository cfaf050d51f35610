-- What is learnt of an image is true of the same text.
use Rattle.std.proofs.Common.{◌≡◌, ℕ, List, Option, ◌∙◌, inl, inr}
use Rattle.swi_image.specs.Format.{ImageData}
use Rattle.swi_micro.specs.declared.translator.MicroOp.{MicroOp}
use Rattle.swi_image_ops.specs.ImageOp.{AreImageOps, IsWordOp}

module _ (g h : ℕ → Option ℕ) (same : (a : ℕ) → h a ≡ g a) (v : ImageData) where
  op_same : (b o : ℕ) (m : MicroOp) → IsWordOp g v b o m → IsWordOp h v b o m
  op_same b o m (inl stops) = inl stops
  op_same b o m (inr (inl t)) = inr (inl (record {
    address = t.address;
    short = t.short;
    place = t.place;
    word = t.word;
    stands = same t.address ∙ t.stands;
    instruction = t.instruction;
    decodes = t.decodes;
    is = t.is;
  }))
  op_same b o m (inr (inr e)) = inr (inr e)

  pub ops_same : (ops : List MicroOp) → AreImageOps g v ops → AreImageOps h v ops
  ops_same ops are = record { count = are.count; each = λ b o known inside d. op_same b o _ (are.each b o known inside d) }
