-- The lines of a history.
use Rattle.std.proofs.Common.{◌≡◌, ℕ, ◌<◌, zero, suc, ◌+◌, List, [], ◌∷◌, ◌++◌, length, take, drop, slice_get, Option, None, Some, refl, sym, ap, ◌∙◌, subst, arith, append_assoc}
use Rattle.std.proofs.lemmas.List.{append-nil, take-append-drop}
use Rattle.std.specs.Io.KnownBytes.{Appends}
use Rattle.swi_outside.specs.Laws.{Appends-append}
use Rattle.swi_outside.specs.Sink.{AppendsPrefix}
use Rattle.swi_outside.proofs.SinkLemmas.{prefix_behind}
use Rattle.swi_memory.specs.Bus.{AreaData, fetched}
use Rattle.swi_trace.specs.Text.{trace_line_of}
use Rattle.swi_cached.specs.Told.{addresses, history_of, lines_at}
use Rattle.swi_cached.specs.Cached.{CachedRun, end_of, told_after}
use Rattle.swi_calls.specs.declared.machine.Machine.{Machine}
use Rattle.swi_line.specs.declared.trace.Trace.{Trace}
use Rattle.swi_line.specs.declared.trace.Trace.TheVariants as trace
use Rattle.swi_cached_command.specs.RunCached.{addresses_in, last_lines, last_told, one_of, shown_error}
use Rattle.swi_task.proofs.Due.{left_empty, right_empty, some_bytes}

pub lines_both : (bus : List AreaData) (xs ys : List ℕ) → lines_at bus (xs ++ ys) ≡ lines_at bus xs ++ lines_at bus ys
lines_both bus [] ys = refl
lines_both bus (a ∷ xs) ys = ap (λ (l : List ℕ). trace_line_of a (fetched bus a) ++ l) (lines_both bus xs ys) ∙ sym (append_assoc (trace_line_of a (fetched bus a)) (lines_at bus xs) (lines_at bus ys))

pub take_next : (k : ℕ) (xs : List ℕ) → take (suc k) xs ≡ take k xs ++ one_of (slice_get xs k)
take_next zero [] = refl
take_next zero (x ∷ xs) = refl
take_next (suc k) [] = refl
take_next (suc k) (x ∷ xs) = ap (λ (l : List ℕ). x ∷ l) (take_next k xs)

-- one line more
pub line_more : (bus : List AreaData) (xs : List ℕ) (k : ℕ) (old mid new : Option (List ℕ)) → Appends old mid (lines_at bus (take k xs)) → Appends mid new (lines_at bus (one_of (slice_get xs k))) →
    Appends old new (lines_at bus (take (k + 1) xs))
line_more bus xs k old mid new h i =
    let next : k + 1 ≡ suc k = omega arith in
    subst (λ (l : List ℕ). Appends old new l) (sym (ap (λ (n : ℕ). lines_at bus (take n xs)) next ∙ ap (λ (l : List ℕ). lines_at bus l) (take_next k xs) ∙ lines_both bus (take k xs) (one_of (slice_get xs k))))
    (Appends-append old mid new (lines_at bus (take k xs)) (lines_at bus (one_of (slice_get xs k))) h i)

-- or a front of one
pub line_broken : (bus : List AreaData) (xs : List ℕ) (k : ℕ) (old mid new : Option (List ℕ)) → Appends old mid (lines_at bus (take k xs)) → AppendsPrefix mid new (lines_at bus (one_of (slice_get xs k))) →
    AppendsPrefix old new (lines_at bus xs)
line_broken bus xs k old mid new h i =
    let whole : lines_at bus xs ≡ lines_at bus (take k xs) ++ (lines_at bus (one_of (slice_get xs k)) ++ lines_at bus (drop (suc k) xs)) =
    ap (λ (l : List ℕ). lines_at bus l) (sym (take-append-drop (suc k) xs)) ∙ lines_both bus (take (suc k) xs) (drop (suc k) xs)
    ∙ ap (λ (l : List ℕ). lines_at bus l ++ lines_at bus (drop (suc k) xs)) (take_next k xs)
    ∙ ap (λ (l : List ℕ). l ++ lines_at bus (drop (suc k) xs)) (lines_both bus (take k xs) (one_of (slice_get xs k)))
    ∙ append_assoc (lines_at bus (take k xs)) (lines_at bus (one_of (slice_get xs k))) (lines_at bus (drop (suc k) xs)) in
    subst (λ (l : List ℕ). AppendsPrefix old new l) (sym whole)
    (prefix_behind old mid new (lines_at bus (take k xs)) (lines_at bus (one_of (slice_get xs k))) (lines_at bus (drop (suc k) xs)) h i)

-- ---- what is told behind a run

-- all that the errors have gained, with the last lines behind the rest
pub shown_split : (t : Trace) (c : CachedRun) → shown_error t c ≡ (told_after c c.limit).error ++ last_lines t c
shown_split trace.Off c = sym (append-nil (told_after c c.limit).error)
shown_split trace.Each c = sym (append-nil (told_after c c.limit).error)
shown_split trace.Last c = refl

pub last_is : (t : Trace) (c : CachedRun) (m : Machine) (bus : List AreaData) (history : Option (List ℕ)) → bus ≡ m.bus → m ≡ (end_of c).machine → history ≡ history_of t (addresses c.limit c.start) →
    last_told t bus (addresses_in history) ≡ last_lines t c
last_is t c m bus history same machine last =
    ap (λ (x : List AreaData). last_told t x (addresses_in history)) (same ∙ ap (λ (x : Machine). x.bus) machine) ∙ ap (λ (x : Option (List ℕ)). last_told t (end_of c).machine.bus (addresses_in x)) last ∙ by t
  where
    by : (t : Trace) → last_told t (end_of c).machine.bus (addresses_in (history_of t (addresses c.limit c.start))) ≡ last_lines t c
    by trace.Off = refl
    by trace.Last = refl
    by trace.Each = refl

pub all_shown : (t : Trace) (c : CachedRun) (old mid new : Option (List ℕ)) (m : Machine) (bus : List AreaData) (history : Option (List ℕ)) → bus ≡ m.bus → m ≡ (end_of c).machine →
    history ≡ history_of t (addresses c.limit c.start) → Appends old mid (told_after c c.limit).error → Appends mid new (last_told t bus (addresses_in history)) → Appends old new (shown_error t c)
all_shown t c old mid new m bus history same machine last h i =
    subst (λ (l : List ℕ). Appends old new l) (sym (shown_split t c))
    (Appends-append old mid new (told_after c c.limit).error (last_lines t c) h (subst (λ (l : List ℕ). Appends mid new l) (last_is t c m bus history same machine last) i))

pub some_shown : (t : Trace) (c : CachedRun) (mid new : Option (List ℕ)) (m : Machine) (bus : List AreaData) (history : Option (List ℕ)) → bus ≡ m.bus → m ≡ (end_of c).machine →
    history ≡ history_of t (addresses c.limit c.start) → AppendsPrefix mid new (last_told t bus (addresses_in history)) → AppendsPrefix mid new (last_lines t c)
some_shown t c mid new m bus history same machine last i = subst (λ (l : List ℕ). AppendsPrefix mid new l) (last_is t c m bus history same machine last) i

-- ---- where a sink failed at the lines of steps, there was something to write

line_some : (a : ℕ) (w : Option ℕ) → trace_line_of a w ≡ [] → ⊥
line_some a None e = some_bytes _ _ (right_empty _ _ e)
line_some a (Some w) e = some_bytes _ _ (right_empty _ _ e)

pub lines_due : (bus : List AreaData) (xs : List ℕ) (k : ℕ) → k < length xs → lines_at bus xs ≡ [] → ⊥
lines_due bus [] k within e = omega (arith, within)
lines_due bus (a ∷ xs) k within e = line_some a (fetched bus a) (left_empty (trace_line_of a (fetched bus a)) (lines_at bus xs) e)
