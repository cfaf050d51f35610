-- Control that goes on in its block.
use Rattle.std.proofs.Common.{◌≡◌, ℕ, ◌+◌, ◌-◌, ◌%◌, ◌^◌, ◌<◌, Option, Some, None, ap, ◌∙◌, arith}
use Rattle.swi_hart.specs.declared.hart.Stage.{Stage}
use Rattle.swi_hart.specs.declared.hart.Control.TheVariants.{At}
use Rattle.swi_hart.specs.Position.{control_of}

pub advanced : (s : Option Stage) (i f b n i' b' o' : ℕ) (s' t : Stage) → control_of s i f b ≡ At i' b' o' s' → f < 2 ^ 32 → o' < 2 ^ 22 → n < 2 ^ 23 → control_of (Some t) (i' + n) f b ≡ At (i' + n) b' (o' + n) t
advanced None i f b n i' b' o' s' t e wide low few = absurd (cc)
advanced (Some s) i f b n i' b' o' s' t e wide low few =
    let index : i ≡ i' = cc in
    let block : b ≡ b' = cc in
    let offset : (i + 2 ^ 32 - f) % 2 ^ 32 ≡ o' = cc in
    let further : (i' + n + 2 ^ 32 - f) % 2 ^ 32 ≡ o' + n = omega (arith, index, offset, wide, low, few) in
    ap (λ k. At (i' + n) k ((i' + n + 2 ^ 32 - f) % 2 ^ 32) t) block ∙ ap (λ k. At (i' + n) b' k t) further
