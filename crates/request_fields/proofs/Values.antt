-- The values of the next fields, of which some have been read.
use Rattle.std.proofs.Common.{◌≡◌, ◌+◌, ◌-◌, ◌<◌, ◌≤◌, ◌⊎◌, inl, inr, ℕ, zero, suc, List, [], ◌∷◌, ◌++◌, length, take, drop, set, ◌==◌, Option, Some, None, refl, sym, ap, ◌∙◌, arith, append_assoc, append-nil, add-one, false, Result, Ok, Err, is_some, unwrap_or, min}
use Rattle.std.proofs.lemmas.Bool.{cases_lt}
use Rattle.std.proofs.lemmas.Grind.{common_steps}
use Rattle.std.proofs.lemmas.List.{drop-drop, drop-set-lt, take-append-drop}
use Rattle.std.proofs.Math.Seq.{take-suc-set}
use Rattle.request_fields.specs.Reading.{left_after, next_value, next_values, ok_if, or_no_request, with_value}
use Rattle.request_fields.specs.declared.NoRequest.{NoRequest}

module _ {T : Type 0} (reads : List ℕ → Option T) where
  next_one : (k : ℕ) (fs : List (List ℕ)) (v : T) → next_value reads fs ≡ Some v → next_values reads (suc k) fs ≡ v ∷ next_values reads k (drop 1 fs)
  next_one k [] v h = cc h
  next_one k (f ∷ fs) v h = rw h refl

  next_none : (k : ℕ) (fs : List (List ℕ)) → (next_value reads fs ≡ None) ⊎ (k ≡ 0) → next_values reads k fs ≡ []
  next_none zero [] h = refl
  next_none zero (f ∷ fs) h = refl
  next_none (suc k) [] h = refl
  next_none (suc k) (f ∷ fs) (inl h) = rw h refl
  next_none (suc k) (f ∷ fs) (inr h) = cc h

-- Of the next m fields i were read, to the values xs; what is left is fs.
pub record Read {T : Type 0} (reads : List ℕ → Option T) (m : ℕ) (before : List (List ℕ)) (i : ℕ) (xs : List T) (fs : List (List ℕ)) : Type 0 where
  pub values : next_values reads m before ≡ xs ++ next_values reads (m - i) fs
  pub count : length xs ≡ i
  pub left : fs ≡ drop i before

module _ {T : Type 0} {reads : List ℕ → Option T} {m : ℕ} {before : List (List ℕ)} {i : ℕ} {xs : List T} {fs : List (List ℕ)} (r : Read reads m before i xs fs) where
  one_left : drop 1 fs ≡ drop (i + 1) before
  one_left = ap (drop 1) r.left ∙ drop-drop 1 i before

  -- One more is read.
  read_more : (v : T) → i < m → next_value reads fs ≡ Some v → Read reads m before (i + 1) (xs ++ v ∷ []) (drop 1 fs)
  read_more v h e =
      let k : m - i ≡ suc (m - (i + 1)) = omega arith in
      let one = ap (λ k. next_values reads k fs) k ∙ next_one reads (m - (i + 1)) fs v e in
      record {
        values = r.values ∙ ap (λ ys. xs ++ ys) one ∙ sym (append_assoc xs (v ∷ []) _);
        count = grind (arith, common_steps, r.count);
        left = one_left;
      }

  -- Where the next field writes no value or none is wanted, the values so far are all.
  all_read : (next_value reads fs ≡ None) ⊎ (m - i ≡ 0) → next_values reads m before ≡ xs
  all_read h = r.values ∙ ap (λ ys. xs ++ ys) (next_none reads (m - i) fs h) ∙ append-nil xs

  -- The field that is not read is taken too.
  one_taken : (n : ℕ) → next_values reads m before ≡ xs → i < n → drop 1 fs ≡ left_after n (length (next_values reads m before)) before
  one_taken n h lt =
      let k : min n (i + 1) ≡ i + 1 = omega arith in
      rw (h, r.count, k) one_left

-- ---- a table that grows

put_one : {T : Type 0} (room : ℕ) (items : List T) (o : Option T) (u : Unit {0}) → Ok u ≡ ok_if (is_some (with_value room items o)) tt
    → (v : T) × (o ≡ Some v) × (length items < room) × (unwrap_or (with_value room items o) items ≡ items ++ v ∷ [])
put_one room items None u h = cc h
put_one room items (Some v) u h =
    elim (cases_lt (length items) room) [
      | inl fits ↦ (v, refl, fits, grind (arith, fits))
      | inr full ↦ absurd (grind (arith, full, h))
    ]

put_none : {T : Type 0} (room : ℕ) (items : List T) (o : Option T) (q : Result Unit NoRequest) (e : NoRequest)
    → q ≡ ok_if (is_some (with_value room items o)) tt → q ≡ Err e → (o ≡ None) ⊎ (room ≤ length items)
put_none room items None q e h k = inl refl
put_none room items (Some v) q e h k =
    elim (cases_lt (length items) room) [
      | inl fits ↦ absurd (grind (arith, fits, h, k))
      | inr full ↦ inr full
    ]

module _ {T : Type 0} {reads : List ℕ → Option T} (n room : ℕ) {before : List (List ℕ)} {i : ℕ} {xs : List T} {fs : List (List ℕ)} (r : Read reads (min n room) before i xs fs) (lt : i < n) where
  pub table_more : (u : Unit {0}) (ys : List T) (gs : List (List ℕ)) → Ok u ≡ ok_if (is_some (with_value room xs (next_value reads fs))) tt
      → ys ≡ unwrap_or (with_value room xs (next_value reads fs)) xs → gs ≡ drop 1 fs → Read reads (min n room) before (i + 1) ys gs × (i + 1 ≤ room)
  table_more u ys gs h e k =
      let put = put_one room xs (next_value reads fs) u h in
      let count = r.count in
      let fits = put.2 in
      let more : i < min n room = omega (arith, count, fits) in
      (rw (e, put.3, k) (read_more r put.0 more put.1), omega (arith, count, fits))

  module _ (q : Result Unit NoRequest) (e : NoRequest) (h : q ≡ ok_if (is_some (with_value room xs (next_value reads fs))) tt) (k : q ≡ Err e) where
    all_put : next_values reads (min n room) before ≡ xs
    all_put =
        let count = r.count in
        let stop = elim (put_none room xs (next_value reads fs) q e h k) as (λ _. (next_value reads fs ≡ None) ⊎ (min n room - i ≡ 0)) [
          | inl none ↦ inl none
          | inr full ↦ inr (omega (arith, count, full))
        ] in
        all_read r stop

    pub table_ended : (length (next_values reads (min n room) before) == n) ≡ false
    table_ended = let count = r.count in rw all_put (grind arith)

    pub table_taken : drop 1 fs ≡ left_after n (length (next_values reads (min n room) before)) before
    table_taken = one_taken r n all_put lt

-- ---- a table that is filled

value_read : {T : Type 0} (o : Option T) (v : T) → Ok v ≡ or_no_request o → o ≡ Some v
value_read None v h = cc h
value_read (Some w) v h = grind (arith, h)

none_read : {T : Type 0} (o : Option T) (q : Result T NoRequest) (e : NoRequest) → q ≡ or_no_request o → q ≡ Err e → o ≡ None
none_read None q e h k = refl
none_read (Some w) q e h k = absurd (cc (sym h ∙ k))

module _ {T : Type 0} {reads : List ℕ → Option T} {before : List (List ℕ)} {i : ℕ} (old t : List T) {fs : List (List ℕ)} (r : Read reads (length old) before i (take i t) fs) (same : drop i t ≡ drop i old) (lt : i < length old) where
  pub fill_more : length t ≡ length old → (v : T) (gs : List (List ℕ)) → Ok v ≡ or_no_request (next_value reads fs) → gs ≡ drop 1 fs
      → Read reads (length old) before (i + 1) (take (i + 1) (set t i v)) gs × (drop (i + 1) (set t i v) ≡ drop (i + 1) old)
  fill_more long v gs h k =
      let inside : i < length t = omega arith in
      let taken : take (i + 1) (set t i v) ≡ take i t ++ v ∷ [] = rw add-one (take-suc-set t i v inside) in
      let next : i < i + 1 = omega arith in (
        rw (taken, k) (read_more r v lt (value_read (next_value reads fs) v h)),
        drop-set-lt (i + 1) t i v next ∙ sym (drop-drop 1 i t) ∙ ap (drop 1) same ∙ drop-drop 1 i old,
      )

  module _ (q : Result T NoRequest) (e : NoRequest) (h : q ≡ or_no_request (next_value reads fs)) (k : q ≡ Err e) where
    so_far : next_values reads (length old) before ≡ take i t
    so_far = all_read r (inl (none_read (next_value reads fs) q e h k))

    pub fill_ended : (length (next_values reads (length old) before) == length old) ≡ false
    fill_ended = let count = r.count in rw so_far (grind arith)

    pub fill_places : t ≡ next_values reads (length old) before ++ drop (length (next_values reads (length old) before)) old
    fill_places = rw (so_far, r.count, ← same) (sym (take-append-drop i t))

    pub fill_taken : drop 1 fs ≡ left_after (length old) (length (next_values reads (length old) before)) before
    fill_taken = one_taken r (length old) so_far lt
