-- From a service's answer to what the board says of it.
use Rattle.std.proofs.Common.{◌≡◌, ℕ, ◌+◌, ◌-◌, ◌^◌, ◌<◌, ◌≤◌, true, false, List, length, Option, Some, None, Ok, Err, Result, slice_index, refl, sym, ap, subst, ◌∙◌, inl, inr, arith}
use Rattle.std.proofs.lemmas.Bool.{cases_Bool}
use Rattle.swi_image.specs.Format.{ImageData}
use Rattle.swi_image.specs.Place.{word_at, length_at}
use Rattle.swi_image.specs.Sound.{IsImage}
use Rattle.swi_image.specs.Laws.{place_inside}
use Rattle.swi_isa.specs.declared.instr.Instr.TheVariants as instr
use Rattle.swi_isa.specs.Decode.{decoded}
use Rattle.swi_outside.specs.CacheRam.{RamState, KeepsBeyond}
use Rattle.swi_render.specs.Rendering.{ebreak}
use Rattle.swi_rom.specs.Record.{Record, Transfer, target_of, IsJump, jump_offset, is_linked, writes, Placed}
use Rattle.swi_rom.specs.Coherent.{Coherent, TargetAt, StandsAt}
use Rattle.swi_rom.specs.Served.{Served, Spared, SameFrom}
use Rattle.swi_rom.specs.declared.rom.RomStop.{RomStop}
use Rattle.swi_rom.specs.declared.rom.RomStop.TheVariants.{Outside, RamFault}
use Rattle.swi_hart.specs.declared.hart.Stage.TheVariants.{Start}
use Rattle.swi_hart.specs.declared.hart.Control.TheVariants.{At}
use Rattle.swi_hart.specs.Matching.{Arrives}
use Rattle.swi_hart.specs.Leaving.{LeaveAt, PlacedAt, RamServed}
use Rattle.swi_hart.specs.Service.{ServiceRules, ServiceState, Transferred}
use Rattle.swi_isa.specs.Laws.{ebreak_decodes}

-- what the service shows at the target's index is the target's place
pub arrives_shown : (v : ImageData) (r : Record) (span : ℕ) (words : List ℕ) (t i b o : ℕ) → Coherent v r span words → IsImage v → StandsAt v r i (Some (b, o)) → TargetAt v r t i → Arrives v r t (At i b o Start)
arrives_shown v r span words t i b o coherent image stands at =
    let inside = place_inside v image t at.block at.offset at.place_is in
    let same = coherent.apart at.block at.first at.offset b stands.0 o at.is_placed stands.1 inside.1 stands.2 (sym at.index ∙ stands.3) in
    ((stands.0, stands.1, stands.3), at.place_is ∙ (ap (λ n. Some (n, at.offset)) same.0 ∙ ap (λ n. Some (b, n)) same.1))

pub none_shown : (v : ImageData) (r : Record) (t i : ℕ) → IsImage v → StandsAt v r i None → TargetAt v r t i → ⊥
none_shown v r t i image none at =
    let inside = place_inside v image t at.block at.offset at.place_is in
    let past = none at.block at.first at.is_placed (omega (arith, at.index)) in
    omega (arith, at.index, inside.1, past)

pub by_error : {v : ImageData} {span t : ℕ} {old next new : Record} {before after : RamState} {e d : RomStop} → e ≡ d → Served v span t old next new before after (Err e) → Served v span t old next new before after (Err d)
by_error {v = v} {span = span} {t = t} {old = old} {next = next} {new = new} {before = before} {after = after} is s = subst (λ (k : RomStop). Served v span t old next new before after (Err k)) is s

beyond : {span : ℕ} {before after : RamState} → Spared span before after → KeepsBeyond span before after
beyond d = record { same_length = d.length_stays; beyond = d.beyond; reached = d.reached }

-- the ram after a service that gave an index
pub ram_answered : {v : ImageData} {span t i : ℕ} {old next new : Record} {before after : RamState} → Served v span t old next new before after (Ok i) → RamServed span (writes new - writes old) before after
ram_answered d = record { quiet = d.quiet; fetches_stay = d.spared.fetches_stay; fetched_at_stays = d.spared.fetched_at_stays; sets_rise = d.sets_rise; kept = beyond d.spared }

-- the transfer, by the service's answer
module _ {rules : ServiceRules} {v : ImageData} {t : Transfer} {IsSound : Type 0} {s s' : ServiceState} (stays : s'.setting ≡ s.setting) where
  pub served_at : {T E : Type 0} (x : T) (i : ℕ) → Served v (rules.span s.setting) (target_of t) s.kept (rules.policy s.setting s.kept v t) s'.kept s.ram s'.ram (Ok i) → SameFrom (rules.extent s.setting s'.kept) s.ram.words s'.ram.words → IsSound → Transferred {T = T} {E = E} rules v (Some t) IsSound s s' (Ok x)
  served_at x i d unused sound = record {
    policy = d.moves;
    setting = stays;
    sound = sound;
    unused = unused;
    words = d.words;
    ram = record { quiet = d.quiet; fetches_stay = d.spared.fetches_stay; fetched_at_stays = d.spared.fetched_at_stays; sets_rise = d.sets_rise; kept = beyond d.spared };
    failed = tt;
    placed = tt;
  }

  pub served_outside : {T E : Type 0} (x : T) → Served v (rules.span s.setting) (target_of t) s.kept (rules.policy s.setting s.kept v t) s'.kept s.ram s'.ram (Err Outside) → SameFrom (rules.extent s.setting s'.kept) s.ram.words s'.ram.words → IsSound → Transferred {T = T} {E = E} rules v (Some t) IsSound s s' (Ok x)
  served_outside x d unused sound = record {
    policy = d.moves;
    setting = stays;
    sound = sound;
    unused = unused;
    words = d.words;
    ram = record { quiet = d.quiet; fetches_stay = d.spared.fetches_stay; fetched_at_stays = d.spared.fetched_at_stays; sets_rise = d.sets_rise; kept = beyond d.spared };
    failed = tt;
    placed = tt;
  }

  pub served_not : {T E : Type 0} (e : E) → Served v (rules.span s.setting) (target_of t) s.kept (rules.policy s.setting s.kept v t) s'.kept s.ram s'.ram (Err RamFault) → Transferred {T = T} {E = E} rules v (Some t) IsSound s s' (Err e)
  served_not e d = record {
    policy = tt;
    setting = stays;
    sound = tt;
    unused = tt;
    words = tt;
    ram = tt;
    failed = record { rose = d.failed refl; last_failed = d.last_failed refl; later = d.spared.later; fetches_stay = d.spared.fetches_stay; fetched_at_stays = d.spared.fetched_at_stays; kept = beyond d.spared };
    placed = λ none. let e : ◌≡◌ {A = Result ℕ RomStop} (Err RamFault) (Err Outside) = d.only_outside none in cc;
  }

-- a fetched exit is not linked
pub exit_unlinked : (v : ImageData) (r : Record) (span : ℕ) (words : List ℕ) (w i b o : ℕ) → Coherent v r span words → LeaveAt v r words w i b o → w ≡ ebreak → is_linked r b o ≡ false
exit_unlinked v r span words w i b o coherent at is =
    elim (cases_Bool (is_linked r b o)) [
      | inl linked ↦
          let l = coherent.linked b at.first o at.is_placed linked in
          let jal : decoded (slice_index words (at.first + o)) ≡ Some (instr.Jal 0 (jump_offset (at.first + o) l.0)) = l.2.decodes in
          let got : slice_index words (at.first + o) ≡ ebreak = ap (λ n. slice_index words n) (sym at.index) ∙ sym at.fetched ∙ is in
          let two : Some (instr.Jal 0 (jump_offset (at.first + o) l.0)) ≡ Some instr.Ebreak = sym jal ∙ ap decoded got ∙ ebreak_decodes in
          absurd (cc)
      | inr plain ↦ plain
    ]

-- another word in its place is a link
pub word_linked : (v : ImageData) (r : Record) (span : ℕ) (words : List ℕ) (w b f o : ℕ) → Coherent v r span words → Placed r b f → o + 1 < length_at v b → word_at v b o ≡ ebreak → w ≡ slice_index words (f + o) → (w ≡ ebreak → ⊥) → is_linked r b o ≡ true
word_linked v r span words w b f o coherent placed inside is got other =
    elim (cases_Bool (is_linked r b o)) [
      | inl linked ↦ linked
      | inr plain ↦
          let own : slice_index words (f + o) ≡ word_at v b o = coherent.plain b f o placed (omega (arith, inside)) plain in
          absurd (other (got ∙ own ∙ is))
    ]

pub jump_linked : (v : ImageData) (r : Record) (span : ℕ) (words : List ℕ) (w i b o : ℕ) → Coherent v r span words → LeaveAt v r words w i b o → (w ≡ ebreak → ⊥) → is_linked r b o ≡ true
jump_linked v r span words w i b o coherent at other =
    word_linked v r span words w b at.first o coherent at.is_placed at.inside at.leaves (at.fetched ∙ ap (λ n. slice_index words n) at.index) other

-- where the link leads
pub record Linked (v : ImageData) (r : Record) (span : ℕ) (w i t : ℕ) : Type 0 where
  pub to : ℕ
  pub target : TargetAt v r t to
  pub jumps : IsJump i to w
  pub small : to < span

pub link_at : (v : ImageData) (r : Record) (span : ℕ) (words : List ℕ) (w i b o : ℕ) → Coherent v r span words → IsImage v → LeaveAt v r words w i b o → (w ≡ ebreak → ⊥) → Linked v r span w i (word_at v b (o + 1))
link_at v r span words w i b o coherent image at other =
    let l = coherent.linked b at.first o at.is_placed (jump_linked v r span words w i b o coherent at other) in
    let inside = place_inside v image (word_at v b (o + 1)) l.1.block l.1.offset l.1.place_is in
    let end = coherent.inside l.1.block l.1.first l.1.is_placed in
    record {
      to = l.0;
      target = l.1;
      jumps = subst (λ n. IsJump i l.0 n) (ap (λ n. slice_index words n) (sym at.index) ∙ sym at.fetched) (subst (λ n. IsJump n l.0 (slice_index words (at.first + o))) (sym at.index) l.2);
      small = omega (arith, l.1.index, inside.1, end);
    }

pub index_small : (v : ImageData) (r : Record) (span : ℕ) (words : List ℕ) (w i b o : ℕ) → Coherent v r span words → LeaveAt v r words w i b o → i < span
index_small v r span words w i b o coherent at =
    let end = coherent.inside b at.first at.is_placed in
    omega (arith, at.index, at.inside, end)

-- what a link is by its place alone
pub link_leaves : (v : ImageData) (r : Record) (span : ℕ) (words : List ℕ) (w i b o : ℕ) → Coherent v r span words → PlacedAt r i b o → b < length v.starts → o + 1 < length_at v b →
    word_at v b o ≡ ebreak → w ≡ slice_index words i → (w ≡ ebreak → ⊥) → LeaveAt v r words w i b o × (is_linked r b o ≡ true)
link_leaves v r span words w i b o coherent p known inside is got other =
    let linked = word_linked v r span words w b p.first o coherent p.is_placed inside is (got ∙ ap (λ n. slice_index words n) p.index) other in (
      record {
        first = p.first;
        is_placed = p.is_placed;
        index = p.index;
        inside = inside;
        known = known;
        leaves = is;
        is_direct = (coherent.exits b o linked).1.direct;
        fetched = got;
      },
      linked,
    )

-- a jump over it goes to its target's place
pub link_target : (v : ImageData) (r : Record) (span : ℕ) (words : List ℕ) (w i b o j : ℕ) → Coherent v r span words → IsImage v → span ≤ 2 ^ 21 → LeaveAt v r words w i b o → (w ≡ ebreak → ⊥) →
    ((t : ℕ) → IsJump i t w → t < 2 ^ 30 → i < 2 ^ 30 → j ≡ t) → TargetAt v r (word_at v b (o + 1)) j
link_target v r span words w i b o j coherent image small at other jumps =
    let l = link_at v r span words w i b o coherent image at other in
    let low = index_small v r span words w i b o coherent at in
    subst (λ n. TargetAt v r (word_at v b (o + 1)) n) (sym (jumps l.to l.jumps (omega (arith, l.small, small)) (omega (arith, low, small)))) l.target

-- where a target's place stands control arrives
pub target_arrives : {v : ImageData} {r : Record} {t i : ℕ} → (at : TargetAt v r t i) → Arrives v r t (At i at.block at.offset Start)
target_arrives at = ((at.first, at.is_placed, at.index), at.place_is)

pub target_stands : {r : Record} {t i : ℕ} (v : ImageData) → IsImage v → (at : TargetAt v r t i) → StandsAt v r i (Some (at.block, at.offset))
target_stands {t = t} v image at = (at.first, at.is_placed, (place_inside v image t at.block at.offset at.place_is).1, at.index)

-- a placed word is shown as what it is
pub shown_place : (v : ImageData) (r : Record) (span : ℕ) (words : List ℕ) (i b o : ℕ) (s : Option (ℕ × ℕ)) → Coherent v r span words → StandsAt v r i (Some (b, o)) → StandsAt v r i s → s ≡ Some (b, o)
shown_place v r span words i b o None coherent here none =
    let past = none b here.0 here.1 (omega (arith, here.3)) in
    absurd (omega (arith, here.2, here.3, past))
shown_place v r span words i b o (Some p) coherent here stands =
    let same = coherent.apart p.0 stands.0 p.1 b here.0 o stands.1 here.1 stands.2 here.2 (sym stands.3 ∙ here.3) in
    ap (λ n. Some (n, p.1)) same.0 ∙ ap (λ n. Some (b, n)) same.1
