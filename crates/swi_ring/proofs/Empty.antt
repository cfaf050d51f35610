-- An empty ring is sound for every image and ram.
use Rattle.std.proofs.Common.{◌≡◌, ℕ, suc, zero, ◌≤◌, ◌^◌, List, [], length, replicate, arith, refl, sym, ◌∙◌, ap, subst}
use Rattle.std.proofs.lemmas.List.{length-replicate, get_or-replicate}
use Rattle.swi_image.specs.Format.{ImageData}
use Rattle.swi_image.specs.Sound.{IsImage}
use Rattle.swi_rom.specs.Record.{Link, empty_record}
use Rattle.swi_rom.specs.Collected.{collected}
use Rattle.swi_links.specs.Chains.{ChainsData}
use Rattle.swi_ring.specs.Queue.{QueueData}
use Rattle.swi_ring.specs.Ring.{Ring, InShape, target_at, queue_of, link_at, links_of, kept_by}
use Rattle.swi_ring.specs.Sound.{RingSound}
use Rattle.swi_ring.specs.Steps.{empty_ring}
use Rattle.swi_ring.specs.Coheres.{none_link_at}
use Rattle.swi_links.specs.Lists.{holder_empty}

blocks_long : (words blocks : ℕ) → length (empty_ring words blocks).firsts ≡ blocks
blocks_long words blocks = length-replicate {A = ℕ} blocks words

unlinked : (words blocks i : ℕ) → length (empty_ring words blocks).firsts ≤ target_at (empty_ring words blocks) i
unlinked words blocks i = omega (arith, holder_empty blocks i, blocks_long words blocks)

none_collected : (words blocks n : ℕ) → collected (link_at (empty_ring words blocks)) n ≡ []
unfolding collected
none_collected words blocks zero = refl
none_collected words blocks (suc n) = rw (none_link_at (empty_ring words blocks) n (unlinked words blocks n)) (none_collected words blocks n)

no_links : (words blocks : ℕ) → links_of (empty_ring words blocks) ≡ []
unfolding links_of
no_links words blocks = none_collected words blocks words

pub empty_shape : (words blocks : ℕ) → 1 ≤ blocks → blocks ≤ 2 ^ 19 → words ≤ 2 ^ 21 → InShape (empty_ring words blocks)
empty_shape words blocks some few small = record {
  words_few = small;
  blocks_few = omega (arith, blocks_long words blocks, few);
  next_most = omega arith;
  lengths_long = length-replicate {A = ℕ} blocks 0 ∙ sym (blocks_long words blocks);
  owners_long = length-replicate {A = ℕ} words 0;
  chain_words = refl;
  chain_lists = length-replicate {A = List ℕ} blocks [] ∙ sym (blocks_long words blocks);
  owners_known = λ i lt. omega (arith, get_or-replicate {A = ℕ} words i 0 0 lt, blocks_long words blocks, some);
  distinct = tt;
  known = λ b h. absurd h;
  some = λ b h. absurd h;
  within = λ b h. absurd h;
  absent = λ b lt h. get_or-replicate {A = ℕ} blocks b words 0 (omega (arith, lt, blocks_long words blocks));
}

pub empty_sound : (words blocks : ℕ) (v : ImageData) (ws : List ℕ) → 1 ≤ blocks → blocks ≤ 2 ^ 19 → words ≤ 2 ^ 21 → IsImage v → length v.blocks ≤ blocks → v.block_words ≤ words → words ≤ length ws → RingSound (empty_ring words blocks) v ws
empty_sound words blocks v ws some few small image all holds fits = record {
  shape = empty_shape words blocks some few small;
  image = image;
  blocks_most = omega (arith, all, blocks_long words blocks);
  known = λ b h. absurd h;
  holds_one = holds;
  fits = fits;
  lengths_are = λ b h. absurd h;
  owned = λ b o h lt. absurd h;
  stands = λ i lt t. absurd (omega (arith, t, unlinked words blocks i));
  linked = λ b o h lt t. absurd h;
  plain = λ b o h lt t. absurd h;
  next_copied = omega arith;
  ends = λ b h. absurd h;
  misses_few = omega arith;
  evictions_few = omega arith;
  copied_few = omega arith;
  links_few = omega arith;
  unlinks_few = omega (arith, ap (λ (ls : List Link). length ls) (no_links words blocks));
}

-- as the code meets it
made_is : (words blocks : ℕ) (queue firsts lengths owners : List ℕ) (chains : ChainsData) → queue ≡ [] → firsts ≡ replicate blocks words → lengths ≡ replicate blocks 0 → owners ≡ replicate words 0 →
    (let c : ChainsData = record { words = words; lists = replicate blocks [] } in chains ≡ c) → let s : Ring = record {
      words = words;
      next = 0;
      queue = queue;
      firsts = firsts;
      lengths = lengths;
      owners = owners;
      chains = chains;
      counts = record { services = 0; misses = 0; evictions = 0; links = 0; unlinks = 0; copied = 0 };
    } in s ≡ empty_ring words blocks
made_is words blocks queue firsts lengths owners chains q f l o c = rw (q, f, l, o, c) refl

kept_empty : (words blocks : ℕ) → kept_by (empty_ring words blocks) ≡ empty_record
unfolding queue_of
kept_empty words blocks = rw (no_links words blocks) refl

pub new_kept : (words blocks : ℕ) (queue : QueueData) (firsts lengths owners : List ℕ) (chains : ChainsData) → (let e : QueueData = record { blocks = []; room = blocks } in queue ≡ e) → firsts ≡ replicate blocks words → lengths ≡ replicate blocks 0 → owners ≡ replicate words 0 →
    (let c : ChainsData = record { words = words; lists = replicate blocks [] } in chains ≡ c) → kept_by (record {
      words = words;
      next = 0;
      queue = queue.blocks;
      firsts = firsts;
      lengths = lengths;
      owners = owners;
      chains = chains;
      counts = record { services = 0; misses = 0; evictions = 0; links = 0; unlinks = 0; copied = 0 };
    }) ≡ empty_record
new_kept words blocks queue firsts lengths owners chains q f l o c =
    ap (λ (s : Ring). kept_by s) (made_is words blocks queue.blocks firsts lengths owners chains (ap (λ (x : QueueData). x.blocks) q) f l o c) ∙ kept_empty words blocks

pub new_sound : (words blocks block_words : ℕ) (queue : QueueData) (firsts lengths owners : List ℕ) (chains : ChainsData) (v : ImageData) (ws : List ℕ) → (let e : QueueData = record { blocks = []; room = blocks } in queue ≡ e) → firsts ≡ replicate blocks words → lengths ≡ replicate blocks 0 → owners ≡ replicate words 0 →
    (let c : ChainsData = record { words = words; lists = replicate blocks [] } in chains ≡ c) → 1 ≤ blocks → blocks ≤ 2 ^ 19 → words ≤ 2 ^ 21 → block_words ≤ words → IsImage v → length v.blocks ≤ blocks → v.block_words ≤ block_words → words ≤ length ws →
    RingSound (record {
      words = words;
      next = 0;
      queue = queue.blocks;
      firsts = firsts;
      lengths = lengths;
      owners = owners;
      chains = chains;
      counts = record { services = 0; misses = 0; evictions = 0; links = 0; unlinks = 0; copied = 0 };
    }) v ws
new_sound words blocks block_words queue firsts lengths owners chains v ws q f l o c some few small holds image all size fits =
    subst (λ (x : Ring). RingSound x v ws) (sym (made_is words blocks queue.blocks firsts lengths owners chains (ap (λ (x : QueueData). x.blocks) q) f l o c))
    (empty_sound words blocks v ws some few small image all (omega (arith, holds, size)) fits)
