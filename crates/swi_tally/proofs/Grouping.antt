-- Groups, and a cache that leaves the sets of one.
use Rattle.std.proofs.Common.{◌≡◌, ℕ, zero, suc, ◌+◌, ◌-◌, ◌<◌, ◌≤◌, ◌==◌, ◌&&◌, ◌++◌, Bool, true, false, not, List, [], ◌∷◌, length, slice_index, slice_set, slice_index_or, replicate, nat_le, Result, Ok, Err, is_err, OnOk, if◌then◌else◌, arith, refl, sym, ◌∙◌, ap, subst, inl, inr}
use Rattle.std.proofs.lemmas.Bool.{cases_eq, cases_lt, eqb-true, eq-eqb, ne_eqb, le-leb, lt-leb, and_right}
use Rattle.std.proofs.lemmas.List.{length-set, length_push, get_or_append_left, get_or_push, get_or-set_same, get_or-set_other, get_or_read, get_or-replicate, length-replicate}
use Rattle.swi_tally.specs.Masks.{has, has_at}
use Rattle.swi_tally.specs.Groups.{GroupsData, Grouped, Drops, Left, NoneIn, end_of, held_in, is_in}
use Rattle.swi_outside.specs.declared.failure.Memory.{Memory}
use Rattle.swi_tally.proofs.Sets.{and_all}

end_step : (t : Bool) (keys : List ℕ) (g n : ℕ) → is_in keys g n ≡ t → end_of keys g (suc n) ≡ (if t then suc n else end_of keys g n)
unfolding end_of
end_step t keys g n e = rw e refl

pub end_within : (keys : List ℕ) (g n : ℕ) → end_of keys g n ≤ n
unfolding end_of
end_within keys g zero = omega arith
end_within keys g (suc n) = ways (is_in keys g n) (end_within keys g n)
  where
    ways : (t : Bool) → end_of keys g n ≤ n → (if t then suc n else end_of keys g n) ≤ suc n
    ways true le = omega arith
    ways false le = omega arith

pub end_member : (keys : List ℕ) (g n : ℕ) → 0 < end_of keys g n → slice_index keys (end_of keys g n - 1) ≡ g
unfolding end_of
end_member keys g zero pos = absurd (omega arith)
end_member keys g (suc n) pos = ways (is_in keys g n) refl (end_member keys g n) pos
  where
    ways : (t : Bool) → is_in keys g n ≡ t → (0 < end_of keys g n → slice_index keys (end_of keys g n - 1) ≡ g) → 0 < (if t then suc n else end_of keys g n) → slice_index keys ((if t then suc n else end_of keys g n) - 1) ≡ g
    ways true e up pos = let back : suc n - 1 ≡ n = omega arith in rw back (eqb-true _ _ e)
    ways false e up pos = up pos

pub end_covers : (keys : List ℕ) (g n y : ℕ) → end_of keys g n ≤ y → y < n → is_in keys g y ≡ false
unfolding end_of
end_covers keys g zero y le lt = absurd (omega arith)
end_covers keys g (suc n) y le lt = ways (is_in keys g n) refl (end_covers keys g n y) le
  where
    ways : (t : Bool) → is_in keys g n ≡ t → (end_of keys g n ≤ y → y < n → is_in keys g y ≡ false) → (if t then suc n else end_of keys g n) ≤ y → is_in keys g y ≡ false
    ways true e up le = absurd (omega (arith, lt))
    ways false e up le = elim (cases_eq y n) [
      | inl same ↦ rw same e
      | inr ne ↦ up le (grind arith)
    ]

pub end_append : (keys more : List ℕ) (g n : ℕ) → n ≤ length keys → end_of (keys ++ more) g n ≡ end_of keys g n
unfolding end_of
end_append keys more g zero le = refl
end_append keys more g (suc n) le =
    rw (get_or_append_left keys more 0 n (omega arith), end_append keys more g n (omega arith)) refl

pub pushed : (keys ends befores : List ℕ) (g n e : ℕ) → Grouped keys ends befores → g < length ends → n ≡ length keys + 1 → e ≡ slice_index ends g →
    Grouped (keys ++ g ∷ []) (slice_set ends g n) (befores ++ e ∷ [])
pushed keys ends befores g n e is within next end = record {
  long = length_push befores e ∙ ap (λ (m : ℕ). m + 1) is.long ∙ sym (length_push keys g);
  known = λ x lt. elim (cases_lt x (length keys)) [
    | inl old ↦ omega (arith, get_or_append_left keys (g ∷ []) 0 x old, is.known x old, length-set ends g n)
    | inr new ↦ (let at : length keys ≡ x = omega (arith, lt, length_push keys g, new) in omega (arith, get_or_push keys g 0 x at, within, length-set ends g n))
  ];
  last = λ h lt. elim (cases_eq h g) [
    | inl same ↦ rw same (get_or-set_same ends g n 0 within ∙ next ∙ sym (ends_here))
    | inr ne ↦ get_or-set_other ends g h n 0 ne ∙ is.last h (omega (arith, lt, length-set ends g n)) ∙ sym (ends_before h ne)
  ];
  earlier = λ x lt. elim (cases_lt x (length keys)) [
    | inl old ↦
        get_or_append_left befores (e ∷ []) 0 x (omega (arith, old, is.long)) ∙ is.earlier x old
        ∙ sym (ap (λ (k : ℕ). end_of (keys ++ g ∷ []) k x) (get_or_append_left keys (g ∷ []) 0 x old) ∙ end_append keys (g ∷ []) (slice_index keys x) x (omega arith))
    | inr new ↦ (
        let at : length keys ≡ x = omega (arith, lt, length_push keys g, new) in
        get_or_push befores e 0 x (is.long ∙ at) ∙ end ∙ is.last g within ∙ ap (end_of keys g) at
        ∙ sym (ap (λ (k : ℕ). end_of (keys ++ g ∷ []) k x) (get_or_push keys g 0 x at) ∙ end_append keys (g ∷ []) g x (omega (arith, at))))
  ];
}
  where
    one : length (keys ++ g ∷ []) ≡ suc (length keys)
    one = length_push keys g ∙ omega arith

    here : is_in (keys ++ g ∷ []) g (length keys) ≡ true
    here = eq-eqb _ _ (get_or_push keys g 0 (length keys) refl)

    ends_here : end_of (keys ++ g ∷ []) g (length (keys ++ g ∷ [])) ≡ length keys + 1
    ends_here = ap (end_of (keys ++ g ∷ []) g) one ∙ end_step true (keys ++ g ∷ []) g (length keys) here ∙ omega arith

    ends_before : (h : ℕ) → (h ≡ g → ⊥) → end_of (keys ++ g ∷ []) h (length (keys ++ g ∷ [])) ≡ end_of keys h (length keys)
    ends_before h ne =
        ap (end_of (keys ++ g ∷ []) h) one
        ∙ end_step false (keys ++ g ∷ []) h (length keys) (ne_eqb _ _ (λ (same : slice_index (keys ++ g ∷ []) (length keys) ≡ h). ne (sym same ∙ get_or_push keys g 0 (length keys) refl)))
        ∙ end_append keys (g ∷ []) h (length keys) (omega arith)

pub held_none : (keys : List ℕ) (g : ℕ) (masks : List ℕ) (c : ℕ) → held_in keys g masks c 0 ≡ 0
unfolding held_in
held_none keys g masks c = refl

pub held_more : (t u : Bool) (keys : List ℕ) (g : ℕ) (masks : List ℕ) (c n : ℕ) → is_in keys g n ≡ t → has_at masks c n ≡ u →
    held_in keys g masks c (suc n) ≡ (if t && u then held_in keys g masks c n + 1 else held_in keys g masks c n)
unfolding held_in
held_more t u keys g masks c n e f = rw (e, f) refl

held_skip : (keys : List ℕ) (g : ℕ) (masks : List ℕ) (c n : ℕ) → is_in keys g n ≡ false → held_in keys g masks c (suc n) ≡ held_in keys g masks c n
held_skip keys g masks c n e = held_more false (has_at masks c n) keys g masks c n e refl

-- none is held between the end and the number
pub held_end : (keys : List ℕ) (g : ℕ) (masks : List ℕ) (c n : ℕ) → held_in keys g masks c n ≡ held_in keys g masks c (end_of keys g n)
unfolding end_of
held_end keys g masks c zero = refl
held_end keys g masks c (suc n) = ways (is_in keys g n) refl (held_end keys g masks c n)
  where
    ways : (t : Bool) → is_in keys g n ≡ t → held_in keys g masks c n ≡ held_in keys g masks c (end_of keys g n) → held_in keys g masks c (suc n) ≡ held_in keys g masks c (if t then suc n else end_of keys g n)
    ways true e up = refl
    ways false e up = held_skip keys g masks c n e ∙ up

-- the cache has left those from the end on, and so many of them had it
pub record Leaving (keys : List ℕ) (g c : ℕ) (old new : List ℕ) (count end : ℕ) : Type 0 where
  pub left : Left keys g c end old new
  pub counted : count + held_in keys g old c end ≡ held_in keys g old c (length keys)
  pub within : end ≤ length keys
  pub member : 0 < end → slice_index keys (end - 1) ≡ g

and_false : (x t : Bool) → (x && not (t && false)) ≡ x
and_false x true = and_all x
and_false x false = and_all x

pub leaving_start : (keys ends befores : List ℕ) (g c : ℕ) (masks : List ℕ) (end : ℕ) → Grouped keys ends befores → g < length ends → length masks ≡ length keys → end ≡ slice_index ends g →
    Leaving keys g c masks masks 0 end
leaving_start keys ends befores g c masks end is within long at =
    let e : end ≡ end_of keys g (length keys) = at ∙ is.last g within in
    rw e (record {
      left = record {
        long = refl;
        sets = λ d x lt inside. sym (ap (λ (t : Bool). has_at masks d x && not (d == c && t)) (none x (omega (arith, inside, long))) ∙ and_false (has_at masks d x) (d == c));
      };
      counted = zero_first _ ∙ sym (held_end keys g masks c (length keys));
      within = end_within keys g (length keys);
      member = end_member keys g (length keys);
    })
  where
    zero_first : (n : ℕ) → 0 + n ≡ n
    zero_first n = omega arith

    none : (x : ℕ) → x < length keys → (is_in keys g x && nat_le (end_of keys g (length keys)) x) ≡ false
    none x lt = elim (cases_lt x (end_of keys g (length keys))) [
      | inl before ↦ and_right (is_in keys g x) _ (lt-leb _ _ before)
      | inr from ↦ ap (λ (t : Bool). t && nat_le (end_of keys g (length keys)) x) (end_covers keys g (length keys) x from lt)
    ]

pub leaving_more : (keys ends befores : List ℕ) (g c : ℕ) (old masks new : List ℕ) (count more x end before : ℕ) → Grouped keys ends befores → length old ≡ length keys → c < 64 → end ≡ x + 1 →
    Leaving keys g c old masks count end → before ≡ slice_index befores x → Drops x c masks new → more ≡ (if has_at masks c x then 1 else 0) →
    Leaving keys g c old new (count + more) before
leaving_more keys ends befores g c old masks new count more x end before is long small ending at next drops one =
    let inside : x < length keys = omega (arith, at.within, ending) in
    let member : slice_index keys x ≡ g = subst (λ (n : ℕ). slice_index keys n ≡ g) (let back : end - 1 ≡ x = omega (arith, ending) in back) (at.member (omega (arith, ending))) in
    let e : before ≡ end_of keys g x = next ∙ is.earlier x inside ∙ ap (λ (k : ℕ). end_of keys k x) member in
    let in_it : is_in keys g x ≡ true = eq-eqb _ _ member in
    let same : has_at masks c x ≡ has_at old c x = at.left.sets c x small (omega (arith, inside, long))
    ∙ ap (λ (t : Bool). has_at old c x && not (c == c && t)) (and_right (is_in keys g x) (nat_le end x) (lt-leb end x (omega (arith, ending))))
    ∙ and_false (has_at old c x) (c == c) in
    rw e (record {
      left = record {
        long = drops.long ∙ at.left.long;
        sets = λ d y lt within. elim (cases_eq y x) [
          | inl eq ↦ rw eq (
              drops.here d lt
              ∙ ap (λ (t : Bool). t && not (d == c)) (at.left.sets d x lt (omega (arith, inside, long))
              ∙ ap (λ (t : Bool). has_at old d x && not (d == c && t)) (and_right (is_in keys g x) (nat_le end x) (lt-leb end x (omega (arith, ending))))
              ∙ and_false (has_at old d x) (d == c))
              ∙ sym (ap (λ (t : Bool). has_at old d x && not (d == c && t)) (ap (λ (t : Bool). t && nat_le (end_of keys g x) x) in_it ∙ le-leb _ _ (end_within keys g x))
              ∙ ap (λ (t : Bool). has_at old d x && not t) (and_all (d == c))))
          | inr ne ↦
              ap (λ (m : ℕ). has m d) (drops.others y ne)
              ∙ at.left.sets d y lt within
              ∙ ap (λ (t : Bool). has_at old d y && not (d == c && t)) (apart y ne)
        ];
      };
      counted = sums (has_at old c x) count more (held_in keys g old c x) (held_in keys g old c (end_of keys g x)) (held_in keys g old c end) (held_in keys g old c (length keys))
          (one ∙ ap (λ (t : Bool). if t then 1 else 0) same) (held_end keys g old c x)
          (ap (held_in keys g old c) (let up : end ≡ suc x = omega (arith, ending) in up) ∙ held_more true (has_at old c x) keys g old c x in_it refl) at.counted;
      within = omega (arith, end_within keys g x, inside);
      member = end_member keys g x;
    })
  where
    sums : (t : Bool) (count more here before upto all : ℕ) → more ≡ (if t then 1 else 0) → here ≡ before → upto ≡ (if t then here + 1 else here) → count + upto ≡ all → (count + more) + before ≡ all
    sums true count more here before upto all a b d e = omega (arith, a, b, d, e)
    sums false count more here before upto all a b d e = omega (arith, a, b, d, e)

    apart : (y : ℕ) → (y ≡ x → ⊥) → (is_in keys g y && nat_le end y) ≡ (is_in keys g y && nat_le (end_of keys g x) y)
    apart y ne = elim (cases_lt y (end_of keys g x)) [
      | inl before ↦ ap (λ (t : Bool). is_in keys g y && t) (lt-leb end y (omega (arith, before, end_within keys g x, ending)) ∙ sym (lt-leb (end_of keys g x) y before))
      | inr from ↦ elim (cases_lt y x) [
        | inl below ↦
            ap (λ (t : Bool). t && nat_le end y) (end_covers keys g x y from below)
            ∙ sym (ap (λ (t : Bool). t && nat_le (end_of keys g x) y) (end_covers keys g x y from below))
        | inr above ↦ ap (λ (t : Bool). is_in keys g y && t) (le-leb end y (higher y ne above) ∙ sym (le-leb (end_of keys g x) y from))
      ]
    ]
      where
        higher : (y : ℕ) → (y ≡ x → ⊥) → x ≤ y → end ≤ y
        higher y ne above = grind (arith, ending)

pub grouped_none : (groups : ℕ) → Grouped [] (replicate groups 0) []
unfolding end_of
grouped_none groups = record {
  long = refl;
  known = λ x lt. absurd (omega arith);
  last = λ g lt. get_or-replicate groups g 0 0 (omega (arith, lt, length-replicate {A = ℕ} groups 0));
  earlier = λ x lt. absurd (omega arith);
}

-- a group of which no number has the cache in its set
pub none_left : (keys : List ℕ) (g c : ℕ) (masks : List ℕ) → NoneIn keys g masks c → length masks ≡ length keys → Left keys g c 0 masks masks
none_left keys g c masks none long = record { long = refl; sets = λ d x small lt. same d x lt (is_in keys g x) refl }
  where
    gone : (t u w : Bool) → t ≡ false → t ≡ (t && not (u && w))
    gone false u w e = refl
    gone true u w e = absurd cc

    same : (d x : ℕ) → x < length masks → (t : Bool) → is_in keys g x ≡ t → has_at masks d x ≡ (has_at masks d x && not (d == c && (is_in keys g x && nat_le 0 x)))
    same d x lt false is = sym (ap (λ (t : Bool). has_at masks d x && not (d == c && (t && nat_le 0 x))) is ∙ and_false (has_at masks d x) (d == c))
    same d x lt true is = elim (cases_eq d c) [
      | inl here ↦ gone (has_at masks d x) (d == c) (is_in keys g x && nat_le 0 x) (rw here (none x (omega (arith, lt, long)) is))
      | inr ne ↦ sym (ap (λ (t : Bool). has_at masks d x && not (t && (is_in keys g x && nat_le 0 x))) (ne_eqb d c ne) ∙ and_all (has_at masks d x))
    ]

pub none_held : (keys : List ℕ) (g c : ℕ) (masks : List ℕ) (n : ℕ) → NoneIn keys g masks c → n ≤ length keys → held_in keys g masks c n ≡ 0
unfolding held_in
none_held keys g c masks zero none le = refl
none_held keys g c masks (suc n) none le =
    ap (λ (t : Bool). if t then held_in keys g masks c n + 1 else held_in keys g masks c n) (off (is_in keys g n) refl) ∙ none_held keys g c masks n none (omega (arith, le))
  where
    off : (t : Bool) → is_in keys g n ≡ t → (is_in keys g n && has_at masks c n) ≡ false
    off false is = ap (λ (t : Bool). t && has_at masks c n) is
    off true is = and_right (is_in keys g n) (has_at masks c n) (none n (omega (arith, le)) is)

-- the calls, as their code meets them
on_ok : {P : Type 0} (r : Result Unit Memory) → false ≡ is_err r → OnOk r P → P
on_ok (Ok u) e p = p
on_ok (Err m) e p = cc

pub push_call : (keys ends befores keys' befores' : List ℕ) (g n e : ℕ) (r q : Result Unit Memory) → Grouped keys ends befores → g < length ends →
    false ≡ is_err r → OnOk r (befores' ≡ befores ++ e ∷ []) → false ≡ is_err q → OnOk q (keys' ≡ keys ++ g ∷ []) → n ≡ length keys' → e ≡ slice_index_or ends g e →
    Grouped keys' (slice_set ends g n) befores'
push_call keys ends befores keys' befores' g n e r q is within f p h k next read =
    let bs = on_ok r f p in
    let ks = on_ok q h k in
    rw (bs, ks) (pushed keys ends befores g n e is within (next ∙ ap (λ (xs : List ℕ). length xs) ks ∙ length_push keys g) (get_or_read ends g e within read 0))

pub take_call : (masks : List ℕ) (x c n : ℕ) → x < length masks → ((d : ℕ) → d < 64 → has n d ≡ (has_at masks d x && not (d == c))) →
    Drops x c masks (slice_set masks x n)
take_call masks x c n lt new = record {
  long = length-set masks x n;
  here = λ d small. ap (λ (k : ℕ). has k d) (get_or-set_same masks x n 0 lt) ∙ new d small;
  others = λ y ne. get_or-set_other masks x y n 0 ne;
}

pub new_call : (keys ends befores : List ℕ) (groups : ℕ) → keys ≡ [] → befores ≡ [] → ends ≡ replicate groups 0 → Grouped keys ends befores
new_call keys ends befores groups a b e = rw (a, b, e) (grouped_none groups)

pub leave_first : (keys ends befores : List ℕ) (groups g c : ℕ) (masks : List ℕ) (all : GroupsData) (end : ℕ) → Grouped keys ends befores → (let q : GroupsData = record { keys = keys; groups = length ends } in q ≡ all) →
    g < all.groups → length masks ≡ length all.keys → end ≡ slice_index_or ends g end → Leaving keys g c masks masks 0 end
leave_first keys ends befores groups g c masks all end is view lt long at =
    let within : g < length ends = omega (arith, lt, ap (λ (q : GroupsData). q.groups) view) in
    leaving_start keys ends befores g c masks end is within (long ∙ sym (ap (λ (q : GroupsData). length q.keys) view)) (get_or_read ends g end within at 0)

one_more : (t u : Bool) (more count : ℕ) → t ≡ u → more ≡ (if t then count + 1 else count) → more ≡ count + (if u then 1 else 0)
one_more true u more count e is = rw (← e) is
one_more false u more count e is = rw (← e) (omega (arith, is))

pub leave_next : (keys ends befores : List ℕ) (g c : ℕ) (old masks new : List ℕ) (all : GroupsData) (count count' end before : ℕ) (took : Bool) → Grouped keys ends befores → (let q : GroupsData = record { keys = keys; groups = length ends } in q ≡ all) →
    length old ≡ length all.keys → c < 64 → 0 < end → Leaving keys g c old masks count end → before ≡ slice_index_or befores (end - 1) before → Drops (end - 1) c masks new →
    took ≡ has_at masks c (end - 1) → count' ≡ (if took then count + 1 else count) → Leaving keys g c old new count' before
leave_next keys ends befores g c old masks new all count count' end before took is view long small pos at read drops was is_more =
    let more : ℕ = if has_at masks c (end - 1) then 1 else 0 in
    let sum : count' ≡ count + more = one_more took (has_at masks c (end - 1)) count' count was is_more in
    let inside : end - 1 < length befores = omega (arith, pos, at.within, is.long) in
    rw sum (leaving_more keys ends befores g c old masks new count more (end - 1) end before is (long ∙ sym (ap (λ (q : GroupsData). length q.keys) view)) small (omega (arith, pos)) at
    (get_or_read befores (end - 1) before inside read 0) drops refl)

pub leave_less : (keys ends befores : List ℕ) (g c : ℕ) (old masks : List ℕ) (count end before : ℕ) → Grouped keys ends befores → 0 < end → Leaving keys g c old masks count end → before ≡ slice_index_or befores (end - 1) before → before < end
leave_less keys ends befores g c old masks count end before is pos at read =
    let inside : end - 1 < length keys = omega (arith, pos, at.within) in
    let e : before ≡ end_of keys (slice_index keys (end - 1)) (end - 1) = get_or_read befores (end - 1) before (omega (arith, inside, is.long)) read 0 ∙ is.earlier (end - 1) inside in
    omega (arith, e, end_within keys (slice_index keys (end - 1)) (end - 1), pos)

pub held_within : (keys : List ℕ) (g : ℕ) (masks : List ℕ) (c n : ℕ) → held_in keys g masks c n ≤ n
unfolding held_in
held_within keys g masks c zero = omega arith
held_within keys g masks c (suc n) = ways (is_in keys g n && has_at masks c n) (held_within keys g masks c n)
  where
    ways : (t : Bool) → held_in keys g masks c n ≤ n → (if t then held_in keys g masks c n + 1 else held_in keys g masks c n) ≤ suc n
    ways true le = omega arith
    ways false le = omega arith

pub leave_count : (keys : List ℕ) (g c : ℕ) (old masks : List ℕ) (count end : ℕ) → Leaving keys g c old masks count end → count ≤ length keys
leave_count keys g c old masks count end at = omega (arith, at.counted, held_within keys g old c (length keys))

pub leave_last : (keys ends : List ℕ) (g c : ℕ) (old masks : List ℕ) (all : GroupsData) (count end : ℕ) → (let q : GroupsData = record { keys = keys; groups = length ends } in q ≡ all) → Leaving keys g c old masks count end → end ≡ 0 →
    (count ≡ held_in all.keys g old c (length all.keys)) × Left all.keys g c 0 old masks
leave_last keys ends g c old masks all count end view at over =
    let none : Leaving keys g c old masks count 0 = subst (λ (n : ℕ). Leaving keys g c old masks count n) over at in
    let same : keys ≡ all.keys = ap (λ (q : GroupsData). q.keys) view in
    rw (← same) (omega (arith, none.counted, held_none keys g old c), none.left)
