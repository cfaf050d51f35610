-- Entries of a name and a content: the first of a name, and what a change of it does to a look-up.
use Rattle.std.proofs.Common.{◌≡◌, ◌≢◌, ℕ, zero, suc, Bool, List, [], ◌∷◌, ◌++◌, map, position, Some, None, slice_index_or, slice_set, String, string_bytes, Vec, Global, refl, arith}
use Rattle.std.proofs.lemmas.Bool.Decides.{nat_tests}
use Rattle.std.proofs.lemmas.Grind.{common_steps}
use Rattle.std.proofs.lemmas.Slice.Eq.{bytes_eq-Decides}
use Rattle.std.specs.Str.{bytes_eq}
use Rattle.swi_devices.specs.Stored.{lookup, entry_of}

-- an entry as the shelf keeps it
abbrev Entry : Type 0
Entry = String Global × Vec ℕ Global

abbrev pub is_named : List ℕ → Entry → Bool
is_named name e = bytes_eq (string_bytes e.0) name

pub lookup-none : (es : List Entry) (name : List ℕ) → position (is_named name) es ≡ None → lookup (map entry_of es) name ≡ None
lookup-none [] name h = refl
lookup-none (e ∷ es) name h = grind (arith, nat_tests, common_steps, lookup-none es name)

pub lookup-some : (es : List Entry) (name : List ℕ) (i : ℕ) (d : Entry) → position (is_named name) es ≡ Some i → lookup (map entry_of es) name ≡ Some (slice_index_or es i d).1.items
lookup-some [] name i d h = cc
lookup-some (e ∷ es) name zero d h = grind (arith, nat_tests, common_steps)
lookup-some (e ∷ es) name (suc i) d h = grind (arith, nat_tests, common_steps, lookup-some es name i d)

-- the first entry of a name is replaced by one of that name
pub lookup-put_other : (es : List Entry) (key : String Global) (v : Vec ℕ Global) (i : ℕ) → position (is_named (string_bytes key)) es ≡ Some i → (other : List ℕ) → other ≢ string_bytes key
    → lookup (map entry_of (slice_set es i (key, v))) other ≡ lookup (map entry_of es) other
lookup-put_other [] key v i h other differs = cc
lookup-put_other (e ∷ es) key v zero h other differs = grind (arith, nat_tests, common_steps, bytes_eq-Decides)
lookup-put_other (e ∷ es) key v (suc i) h other differs = grind (arith, nat_tests, common_steps, bytes_eq-Decides, λ (h : position (is_named (string_bytes key)) es ≡ Some i). lookup-put_other es key v i h other)

pub lookup-put_same : (es : List Entry) (key : String Global) (v : Vec ℕ Global) (i : ℕ) → position (is_named (string_bytes key)) es ≡ Some i
    → lookup (map entry_of (slice_set es i (key, v))) (string_bytes key) ≡ Some v.items
lookup-put_same [] key v i h = cc
lookup-put_same (e ∷ es) key v zero h = grind (arith, nat_tests, common_steps, bytes_eq-Decides)
lookup-put_same (e ∷ es) key v (suc i) h = grind (arith, nat_tests, common_steps, bytes_eq-Decides, lookup-put_same es key v i)

-- an entry of a new name at the end
pub lookup-push_other : (es : List Entry) (key : String Global) (v : Vec ℕ Global) (other : List ℕ) → other ≢ string_bytes key → lookup (map entry_of (es ++ (key, v) ∷ [])) other ≡ lookup (map entry_of es) other
lookup-push_other [] key v other differs = grind (arith, common_steps, bytes_eq-Decides)
lookup-push_other (e ∷ es) key v other differs = grind (arith, common_steps, lookup-push_other es key v other)

pub lookup-push_same : (es : List Entry) (key : String Global) (v : Vec ℕ Global) → position (is_named (string_bytes key)) es ≡ None → lookup (map entry_of (es ++ (key, v) ∷ [])) (string_bytes key) ≡ Some v.items
lookup-push_same [] key v h = grind (arith, common_steps, bytes_eq-Decides)
lookup-push_same (e ∷ es) key v h = grind (arith, nat_tests, common_steps, lookup-push_same es key v)

pub ruleset lookups = (lookup-none, lookup-some)
