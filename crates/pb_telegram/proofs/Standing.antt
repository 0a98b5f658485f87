-- One more octet, and what a receiver has of the list.
use Rattle.std.proofs.Common.{◌≡◌, ℕ, ◌+◌, ◌-◌, ◌%◌, ◌<◌, ◌≤◌, List, [], ◌∷◌, ◌++◌, length, refl, ap, sym, ◌∙◌, subst, arith, Bool, true, false, Option, Some}
use Rattle.std.specs.Prelude.{sum, slice_index, slice_range, ◌==◌, nat_lt, if◌then◌else◌}
use Rattle.std.proofs.lemmas.Bool.Decides.{nat_tests}
use Rattle.std.proofs.lemmas.Grind.{elements, common_steps}
use Rattle.std.proofs.lemmas.List.{nil_from_length}
use Rattle.std.proofs.lemmas.List.Sums.{sum_by-append}
use Rattle.pb_telegram.specs.Grammar.{sd2}
use Rattle.std.proofs.lemmas.List.{map-append}
use Rattle.std.specs.List.{position_from}
use Rattle.pb_telegram.specs.Faults.{is_bad, octet_of, octets, place_of_bad}
use Rattle.pb_telegram.specs.Receiving.{Received, Keeps, StandsFor, received_more, bad_at, taken, with_length, with_head, with_unit, sum_with, with_end, da_from, check_at, var_octet}
use Rattle.pb_telegram.specs.declared.chars.RxChar.{RxChar}
use Rattle.pb_telegram.specs.declared.chars.RxChar.TheVariants.{Good, Bad}

index_here : (xs : List ℕ) (x i : ℕ) → i ≡ length xs → slice_index (xs ++ x ∷ []) i ≡ x
index_here xs x i here = grind (arith, elements)

index_before : (xs : List ℕ) (x i : ℕ) → i < length xs → slice_index (xs ++ x ∷ []) i ≡ slice_index xs i
index_before xs x i before = grind (arith, elements)

index_behind : (xs : List ℕ) (x i : ℕ) → length xs < i → slice_index (xs ++ x ∷ []) i ≡ slice_index xs i
index_behind xs x i behind = grind (arith, common_steps)

range_here : (xs : List ℕ) (x i j : ℕ) → i ≤ length xs → length xs < j → slice_range (xs ++ x ∷ []) i j ≡ slice_range xs i j ++ x ∷ []
range_here xs x i j from to = grind (arith, elements)

range_before : (xs : List ℕ) (x i j : ℕ) → j ≤ length xs → slice_range (xs ++ x ∷ []) i j ≡ slice_range xs i j
range_before xs x i j before = grind (arith, elements)

range_behind : (xs : List ℕ) (x i j : ℕ) → length xs < i → slice_range (xs ++ x ∷ []) i j ≡ slice_range xs i j
range_behind xs x i j behind = grind (arith, elements)

sum_more : (xs : List ℕ) (x s : ℕ) → s ≡ sum xs % 256 → (s + x) % 256 ≡ sum (xs ++ x ∷ []) % 256
sum_more xs x s e = rw (sum_by-append) (omega (arith, e))

none_at : (xs : List ℕ) (i : ℕ) → length xs ≤ i → slice_index xs i ≡ 0
none_at xs i short = grind (arith, common_steps)

none_from : (xs : List ℕ) (i j : ℕ) → length xs ≤ i → slice_range xs i j ≡ []
none_from xs i j short = nil_from_length (slice_range xs i j) (grind (arith, common_steps))

length_more : (xs : List ℕ) (x : ℕ) → length (xs ++ x ∷ []) ≡ length xs + 1
length_more xs x = grind (arith, common_steps)

da_from_within : (s : ℕ) → 1 ≤ da_from s
da_from_within s = grind (arith, nat_tests)

check_at_behind : (s n : ℕ) → da_from s + 3 ≤ check_at s n
check_at_behind s n = grind (arith, nat_tests)

var_stays : (xs : List ℕ) (x p : ℕ) → 0 < p → p < 4 → 0 < length xs → da_from (slice_index xs 0) ≤ length xs
    → var_octet (xs ++ x ∷ []) p ≡ var_octet xs p
var_stays xs x p some few start behind =
    let first : slice_index (xs ++ x ∷ []) 0 ≡ slice_index xs 0 = index_before xs x 0 start in
    rw first (cases (slice_index xs 0 == sd2) refl)
  where
    cases : (b : Bool) → (slice_index xs 0 == sd2) ≡ b → if b then slice_index (xs ++ x ∷ []) p else 0 ≡ if b then slice_index xs p else 0
    cases true e = index_before xs x p (grind (arith, nat_tests))
    cases false e = refl

-- the first octet
keeps-first : (r : Received) (x : ℕ) → Keeps r [] → Keeps (record r { fed = 1; start = x; length_octet = 0 }) (x ∷ [])
keeps-first r x k =
    let from = da_from_within x in
    let to = check_at_behind x 0 in
    record {
      fed = refl;
      start = refl;
      length_octet = grind (arith, nat_tests);
      again = k.again ∙ grind (arith, nat_tests);
      second = k.second ∙ grind (arith, nat_tests);
      da = k.da ∙ sym (none_at (x ∷ []) (da_from x) from);
      sa = k.sa ∙ sym (none_at (x ∷ []) (da_from x + 1) (omega arith));
      fc = k.fc ∙ sym (none_at (x ∷ []) (da_from x + 2) (omega arith));
      unit = k.unit ∙ none_from [] (da_from r.start + 3) (check_at r.start r.length_octet) (omega arith)
          ∙ sym (none_from (x ∷ []) (da_from x + 3) (check_at x 0) (omega arith));
      sum_octet = k.sum_octet ∙ ap (λ (l : List ℕ). sum l % 256)
          (none_from [] (da_from r.start) (check_at r.start r.length_octet) (omega arith)
          ∙ sym (none_from (x ∷ []) (da_from x) (check_at x 0) from));
      check = k.check ∙ sym (none_at (x ∷ []) (check_at x 0) (omega (arith, from, to)));
      last = k.last ∙ sym (none_at (x ∷ []) (check_at x 0 + 1) (omega (arith, from, to)));
    }

-- what stays from the first octet of the telegram's head on
pub record Middle (r : Received) (x : ℕ) (xs : List ℕ) : Type 0 where
  fed : r.fed + 1 ≡ length (xs ++ x ∷ [])
  start : r.start ≡ slice_index (xs ++ x ∷ []) 0
  length_octet : r.length_octet ≡ var_octet (xs ++ x ∷ []) 1
  again : r.again ≡ var_octet (xs ++ x ∷ []) 2
  second : r.second ≡ var_octet (xs ++ x ∷ []) 3

middle : (r : Received) (x : ℕ) (xs : List ℕ) → Keeps r xs → 0 < r.fed → da_from r.start ≤ r.fed → Middle r x xs
middle r x xs k some behind =
    let whole : 0 < length xs = omega (arith, k.fed, some) in
    let back : da_from (slice_index xs 0) ≤ length xs = rw (← k.start, ← k.fed) behind in
    record {
      fed = omega (arith, k.fed, length_more xs x);
      start = k.start ∙ sym (index_before xs x 0 whole);
      length_octet = k.length_octet ∙ sym (var_stays xs x 1 (omega arith) (omega arith) whole back);
      again = k.again ∙ sym (var_stays xs x 2 (omega arith) (omega arith) whole back);
      second = k.second ∙ sym (var_stays xs x 3 (omega arith) (omega arith) whole back);
    }

-- the check octet and the end delimiter have not come
check_ahead : (r : Received) (x : ℕ) (xs : List ℕ) → Keeps r xs → r.fed < check_at r.start r.length_octet
    → r.check ≡ slice_index (xs ++ x ∷ []) (check_at r.start r.length_octet)
check_ahead r x xs k ahead = k.check ∙ sym (index_behind xs x (check_at r.start r.length_octet) (omega (arith, k.fed, ahead)))

last_ahead : (r : Received) (x : ℕ) (xs : List ℕ) → Keeps r xs → r.fed ≤ check_at r.start r.length_octet
    → r.last ≡ slice_index (xs ++ x ∷ []) (check_at r.start r.length_octet + 1)
last_ahead r x xs k ahead = k.last ∙ sym (index_behind xs x (check_at r.start r.length_octet + 1) (omega (arith, k.fed, ahead)))

-- the octet counts for the sum
sum_here : (r : Received) (x : ℕ) (xs : List ℕ) → Keeps r xs → da_from r.start ≤ r.fed → r.fed < check_at r.start r.length_octet
    → (r.sum_octet + x) % 256 ≡ sum (slice_range (xs ++ x ∷ []) (da_from r.start) (check_at r.start r.length_octet)) % 256
sum_here r x xs k behind ahead =
    let f = da_from r.start in
    let e = check_at r.start r.length_octet in
    sum_more (slice_range xs f e) x r.sum_octet k.sum_octet
    ∙ ap (λ (l : List ℕ). sum l % 256) (sym (range_here xs x f e (omega (arith, k.fed, behind)) (omega (arith, k.fed, ahead))))

keeps-da : (r : Received) (x : ℕ) (xs : List ℕ) → Keeps r xs → 0 < r.fed → r.fed ≡ da_from r.start
    → Keeps (record r { fed = r.fed + 1; sum_octet = (r.sum_octet + x) % 256; da = x }) (xs ++ x ∷ [])
keeps-da r x xs k some here =
    let f = da_from r.start in
    let e = check_at r.start r.length_octet in
    let m = middle r x xs k some (omega (arith, here)) in
    let ahead : r.fed < e = omega (arith, here, check_at_behind r.start r.length_octet) in
    record {
      fed = m.fed;
      start = m.start;
      length_octet = m.length_octet;
      again = m.again;
      second = m.second;
      da = sym (index_here xs x f (sym here ∙ k.fed));
      sa = k.sa ∙ sym (index_behind xs x (f + 1) (omega (arith, k.fed, here)));
      fc = k.fc ∙ sym (index_behind xs x (f + 2) (omega (arith, k.fed, here)));
      unit = k.unit ∙ sym (range_behind xs x (f + 3) e (omega (arith, k.fed, here)));
      sum_octet = sum_here r x xs k (omega (arith, here)) ahead;
      check = check_ahead r x xs k ahead;
      last = last_ahead r x xs k (omega (arith, ahead));
    }

keeps-sa : (r : Received) (x : ℕ) (xs : List ℕ) → Keeps r xs → 0 < r.fed → r.fed ≡ da_from r.start + 1
    → Keeps (record r { fed = r.fed + 1; sum_octet = (r.sum_octet + x) % 256; sa = x }) (xs ++ x ∷ [])
keeps-sa r x xs k some here =
    let f = da_from r.start in
    let e = check_at r.start r.length_octet in
    let m = middle r x xs k some (omega (arith, here)) in
    let ahead : r.fed < e = omega (arith, here, check_at_behind r.start r.length_octet) in
    record {
      fed = m.fed;
      start = m.start;
      length_octet = m.length_octet;
      again = m.again;
      second = m.second;
      da = k.da ∙ sym (index_before xs x f (omega (arith, k.fed, here)));
      sa = sym (index_here xs x (f + 1) (sym here ∙ k.fed));
      fc = k.fc ∙ sym (index_behind xs x (f + 2) (omega (arith, k.fed, here)));
      unit = k.unit ∙ sym (range_behind xs x (f + 3) e (omega (arith, k.fed, here)));
      sum_octet = sum_here r x xs k (omega (arith, here)) ahead;
      check = check_ahead r x xs k ahead;
      last = last_ahead r x xs k (omega (arith, ahead));
    }

keeps-fc : (r : Received) (x : ℕ) (xs : List ℕ) → Keeps r xs → 0 < r.fed → r.fed ≡ da_from r.start + 2
    → Keeps (record r { fed = r.fed + 1; sum_octet = (r.sum_octet + x) % 256; fc = x }) (xs ++ x ∷ [])
keeps-fc r x xs k some here =
    let f = da_from r.start in
    let e = check_at r.start r.length_octet in
    let m = middle r x xs k some (omega (arith, here)) in
    let ahead : r.fed < e = omega (arith, here, check_at_behind r.start r.length_octet) in
    record {
      fed = m.fed;
      start = m.start;
      length_octet = m.length_octet;
      again = m.again;
      second = m.second;
      da = k.da ∙ sym (index_before xs x f (omega (arith, k.fed, here)));
      sa = k.sa ∙ sym (index_before xs x (f + 1) (omega (arith, k.fed, here)));
      fc = sym (index_here xs x (f + 2) (sym here ∙ k.fed));
      unit = k.unit ∙ sym (range_behind xs x (f + 3) e (omega (arith, k.fed, here)));
      sum_octet = sum_here r x xs k (omega (arith, here)) ahead;
      check = check_ahead r x xs k ahead;
      last = last_ahead r x xs k (omega (arith, ahead));
    }

-- the unit was over, or grows
keeps-unit : (r : Received) (x : ℕ) (xs : List ℕ) → Keeps r xs → 0 < r.fed → da_from r.start + 3 ≤ r.fed → r.fed < check_at r.start r.length_octet
    → Keeps (record r { fed = r.fed + 1; sum_octet = (r.sum_octet + x) % 256; unit = r.unit ++ x ∷ [] }) (xs ++ x ∷ [])
keeps-unit r x xs k some behind ahead =
    let f = da_from r.start in
    let e = check_at r.start r.length_octet in
    let m = middle r x xs k some (omega (arith, behind)) in
    record {
      fed = m.fed;
      start = m.start;
      length_octet = m.length_octet;
      again = m.again;
      second = m.second;
      da = k.da ∙ sym (index_before xs x f (omega (arith, k.fed, behind)));
      sa = k.sa ∙ sym (index_before xs x (f + 1) (omega (arith, k.fed, behind)));
      fc = k.fc ∙ sym (index_before xs x (f + 2) (omega (arith, k.fed, behind)));
      unit = ap (λ (l : List ℕ). l ++ x ∷ []) k.unit
          ∙ sym (range_here xs x (f + 3) e (omega (arith, k.fed, behind)) (omega (arith, k.fed, ahead)));
      sum_octet = sum_here r x xs k (omega (arith, behind)) ahead;
      check = check_ahead r x xs k ahead;
      last = last_ahead r x xs k (omega (arith, ahead));
    }

-- what is before the check octet stays
pub record Front (r : Received) (x : ℕ) (xs : List ℕ) : Type 0 where
  middle : Middle r x xs
  da : r.da ≡ slice_index (xs ++ x ∷ []) (da_from r.start)
  sa : r.sa ≡ slice_index (xs ++ x ∷ []) (da_from r.start + 1)
  fc : r.fc ≡ slice_index (xs ++ x ∷ []) (da_from r.start + 2)
  unit : r.unit ≡ slice_range (xs ++ x ∷ []) (da_from r.start + 3) (check_at r.start r.length_octet)
  sum_octet : r.sum_octet ≡ sum (slice_range (xs ++ x ∷ []) (da_from r.start) (check_at r.start r.length_octet)) % 256

front : (r : Received) (x : ℕ) (xs : List ℕ) → Keeps r xs → check_at r.start r.length_octet ≤ r.fed → Front r x xs
front r x xs k over =
    let f = da_from r.start in
    let e = check_at r.start r.length_octet in
    let within = check_at_behind r.start r.length_octet in
    let whole : e ≤ length xs = omega (arith, k.fed, over) in
    record {
      middle = middle r x xs k (omega (arith, within, over)) (omega (arith, within, over));
      da = k.da ∙ sym (index_before xs x f (omega (arith, within, whole)));
      sa = k.sa ∙ sym (index_before xs x (f + 1) (omega (arith, within, whole)));
      fc = k.fc ∙ sym (index_before xs x (f + 2) (omega (arith, within, whole)));
      unit = k.unit ∙ sym (range_before xs x (f + 3) e whole);
      sum_octet = k.sum_octet ∙ ap (λ (l : List ℕ). sum l % 256) (sym (range_before xs x f e whole));
    }

keeps-check : (r : Received) (x : ℕ) (xs : List ℕ) → Keeps r xs → r.fed ≡ check_at r.start r.length_octet
    → Keeps (record r { fed = r.fed + 1; check = x }) (xs ++ x ∷ [])
keeps-check r x xs k here =
    let e = check_at r.start r.length_octet in
    let b = front r x xs k (omega (arith, here)) in
    record {
      fed = b.middle.fed;
      start = b.middle.start;
      length_octet = b.middle.length_octet;
      again = b.middle.again;
      second = b.middle.second;
      da = b.da;
      sa = b.sa;
      fc = b.fc;
      unit = b.unit;
      sum_octet = b.sum_octet;
      check = sym (index_here xs x e (sym here ∙ k.fed));
      last = last_ahead r x xs k (omega (arith, here));
    }

keeps-last : (r : Received) (x : ℕ) (xs : List ℕ) → Keeps r xs → r.fed ≡ check_at r.start r.length_octet + 1
    → Keeps (record r { fed = r.fed + 1; last = x }) (xs ++ x ∷ [])
keeps-last r x xs k here =
    let e = check_at r.start r.length_octet in
    let b = front r x xs k (omega (arith, here)) in
    record {
      fed = b.middle.fed;
      start = b.middle.start;
      length_octet = b.middle.length_octet;
      again = b.middle.again;
      second = b.middle.second;
      da = b.da;
      sa = b.sa;
      fc = b.fc;
      unit = b.unit;
      sum_octet = b.sum_octet;
      check = k.check ∙ sym (index_before xs x e (omega (arith, k.fed, here)));
      last = sym (index_here xs x (e + 1) (sym here ∙ k.fed));
    }

keeps-rest : (r : Received) (x : ℕ) (xs : List ℕ) → Keeps r xs → check_at r.start r.length_octet + 1 < r.fed
    → Keeps (record r { fed = r.fed + 1 }) (xs ++ x ∷ [])
keeps-rest r x xs k over =
    let e = check_at r.start r.length_octet in
    let b = front r x xs k (omega (arith, over)) in
    record {
      fed = b.middle.fed;
      start = b.middle.start;
      length_octet = b.middle.length_octet;
      again = b.middle.again;
      second = b.middle.second;
      da = b.da;
      sa = b.sa;
      fc = b.fc;
      unit = b.unit;
      sum_octet = b.sum_octet;
      check = k.check ∙ sym (index_before xs x e (omega (arith, k.fed, over)));
      last = k.last ∙ sym (index_before xs x (e + 1) (omega (arith, k.fed, over)));
    }

-- what comes behind the head of a telegram with data of variable length has not come
pub record Ahead (r : Received) (n x : ℕ) (xs : List ℕ) : Type 0 where
  fed : r.fed + 1 ≡ length (xs ++ x ∷ [])
  start : r.start ≡ slice_index (xs ++ x ∷ []) 0
  da : r.da ≡ slice_index (xs ++ x ∷ []) (da_from r.start)
  sa : r.sa ≡ slice_index (xs ++ x ∷ []) (da_from r.start + 1)
  fc : r.fc ≡ slice_index (xs ++ x ∷ []) (da_from r.start + 2)
  unit : r.unit ≡ slice_range (xs ++ x ∷ []) (da_from r.start + 3) (check_at r.start n)
  sum_octet : r.sum_octet ≡ sum (slice_range (xs ++ x ∷ []) (da_from r.start) (check_at r.start n)) % 256
  check : r.check ≡ slice_index (xs ++ x ∷ []) (check_at r.start n)
  last : r.last ≡ slice_index (xs ++ x ∷ []) (check_at r.start n + 1)

ahead_of : (r : Received) (n x : ℕ) (xs : List ℕ) → Keeps r xs → 0 < r.fed → r.fed < da_from r.start → Ahead r n x xs
ahead_of r n x xs k some head =
    let f = da_from r.start in
    let e = check_at r.start r.length_octet in
    let now = check_at r.start n in
    let was = check_at_behind r.start r.length_octet in
    let is = check_at_behind r.start n in
    let few : length xs < f = omega (arith, k.fed, head) in
    let more : length (xs ++ x ∷ []) ≤ f = omega (arith, few, length_more xs x) in
    let ys = xs ++ x ∷ [] in
    record {
      fed = omega (arith, k.fed, length_more xs x);
      start = k.start ∙ sym (index_before xs x 0 (omega (arith, k.fed, some)));
      da = k.da ∙ none_at xs f (omega (arith, few)) ∙ sym (none_at ys f more);
      sa = k.sa ∙ none_at xs (f + 1) (omega (arith, few)) ∙ sym (none_at ys (f + 1) (omega (arith, more)));
      fc = k.fc ∙ none_at xs (f + 2) (omega (arith, few)) ∙ sym (none_at ys (f + 2) (omega (arith, more)));
      unit = k.unit ∙ none_from xs (f + 3) e (omega (arith, few)) ∙ sym (none_from ys (f + 3) now (omega (arith, more)));
      sum_octet = k.sum_octet ∙ ap (λ (l : List ℕ). sum l % 256)
          (none_from xs f e (omega (arith, few)) ∙ sym (none_from ys f now more));
      check = k.check ∙ none_at xs e (omega (arith, few, was)) ∙ sym (none_at ys now (omega (arith, more, is)));
      last = k.last ∙ none_at xs (e + 1) (omega (arith, few, was)) ∙ sym (none_at ys (now + 1) (omega (arith, more, is)));
    }

var_at : (xs : List ℕ) (place : ℕ) → slice_index xs 0 ≡ sd2 → var_octet xs place ≡ slice_index xs place
var_at xs place start = grind (arith, nat_tests)

is_var_head : (r : Received) → 0 < r.fed → r.fed < da_from r.start → r.start ≡ sd2
is_var_head r some head = grind (arith, nat_tests)

four_in_head : (s : ℕ) → da_from s ≤ 4
four_in_head s = grind (arith, nat_tests)

var_here : (r : Received) (x : ℕ) (xs : List ℕ) (place : ℕ) → Keeps r xs → 0 < r.fed → r.fed < da_from r.start → place ≡ r.fed
    → x ≡ var_octet (xs ++ x ∷ []) place
var_here r x xs place k some head here =
    let start : slice_index (xs ++ x ∷ []) 0 ≡ sd2 =
    index_before xs x 0 (omega (arith, k.fed, some)) ∙ sym k.start ∙ is_var_head r some head in
    sym (var_at (xs ++ x ∷ []) place start ∙ index_here xs x place (here ∙ k.fed))

var_before : (r : Received) (x : ℕ) (xs : List ℕ) (place : ℕ) → Keeps r xs → 0 < r.fed → r.fed < da_from r.start → place < r.fed
    → var_octet xs place ≡ var_octet (xs ++ x ∷ []) place
var_before r x xs place k some head before =
    let was : slice_index xs 0 ≡ sd2 = sym k.start ∙ is_var_head r some head in
    let start : slice_index (xs ++ x ∷ []) 0 ≡ sd2 = index_before xs x 0 (omega (arith, k.fed, some)) ∙ was in
    var_at xs place was ∙ sym (var_at (xs ++ x ∷ []) place start ∙ index_before xs x place (omega (arith, k.fed, before)))

var_behind : (r : Received) (x : ℕ) (xs : List ℕ) (place : ℕ) → Keeps r xs → 0 < r.fed → r.fed < da_from r.start → r.fed < place
    → var_octet xs place ≡ var_octet (xs ++ x ∷ []) place
var_behind r x xs place k some head behind =
    let was : slice_index xs 0 ≡ sd2 = sym k.start ∙ is_var_head r some head in
    let start : slice_index (xs ++ x ∷ []) 0 ≡ sd2 = index_before xs x 0 (omega (arith, k.fed, some)) ∙ was in
    var_at xs place was ∙ sym (var_at (xs ++ x ∷ []) place start ∙ index_behind xs x place (omega (arith, k.fed, behind)))

keeps-length : (r : Received) (x : ℕ) (xs : List ℕ) → Keeps r xs → r.fed < da_from r.start → r.fed ≡ 1
    → Keeps (record r { fed = r.fed + 1; length_octet = x }) (xs ++ x ∷ [])
keeps-length r x xs k head here =
    let some : 0 < r.fed = omega (arith, here) in
    let a = ahead_of r x x xs k some head in
    record {
      fed = a.fed;
      start = a.start;
      length_octet = var_here r x xs 1 k some head (sym here);
      again = k.again ∙ var_behind r x xs 2 k some head (omega (arith, here));
      second = k.second ∙ var_behind r x xs 3 k some head (omega (arith, here));
      da = a.da;
      sa = a.sa;
      fc = a.fc;
      unit = a.unit;
      sum_octet = a.sum_octet;
      check = a.check;
      last = a.last;
    }

keeps-again : (r : Received) (x : ℕ) (xs : List ℕ) → Keeps r xs → r.fed < da_from r.start → r.fed ≡ 2
    → Keeps (record r { fed = r.fed + 1; again = x }) (xs ++ x ∷ [])
keeps-again r x xs k head here =
    let some : 0 < r.fed = omega (arith, here) in
    let a = ahead_of r r.length_octet x xs k some head in
    record {
      fed = a.fed;
      start = a.start;
      length_octet = k.length_octet ∙ var_before r x xs 1 k some head (omega (arith, here));
      again = var_here r x xs 2 k some head (sym here);
      second = k.second ∙ var_behind r x xs 3 k some head (omega (arith, here));
      da = a.da;
      sa = a.sa;
      fc = a.fc;
      unit = a.unit;
      sum_octet = a.sum_octet;
      check = a.check;
      last = a.last;
    }

keeps-second : (r : Received) (x : ℕ) (xs : List ℕ) → Keeps r xs → r.fed < da_from r.start → 2 < r.fed
    → Keeps (record r { fed = r.fed + 1; second = x }) (xs ++ x ∷ [])
keeps-second r x xs k head late =
    let some : 0 < r.fed = omega (arith, late) in
    let here : 3 ≡ r.fed = omega (arith, late, head, four_in_head r.start) in
    let a = ahead_of r r.length_octet x xs k some head in
    record {
      fed = a.fed;
      start = a.start;
      length_octet = k.length_octet ∙ var_before r x xs 1 k some head (omega (arith, here));
      again = k.again ∙ var_before r x xs 2 k some head (omega (arith, here));
      second = var_here r x xs 3 k some head here;
      da = a.da;
      sa = a.sa;
      fc = a.fc;
      unit = a.unit;
      sum_octet = a.sum_octet;
      check = a.check;
      last = a.last;
    }

by_test : (P : Received → Type 0) (u v : Received) (b : Bool) → (b ≡ true → P u) → (b ≡ false → P v) → P (if b then u else v)
by_test P u v true one other = one refl
by_test P u v false one other = other refl

keeps-head : (r : Received) (x : ℕ) (xs : List ℕ) → Keeps r xs → 0 < r.fed → r.fed < da_from r.start → Keeps (with_length r x) (xs ++ x ∷ [])
keeps-head r x xs k some head =
    let P : Received → Type 0 = λ v. Keeps v (xs ++ x ∷ []) in
    by_test P (record r { fed = r.fed + 1; length_octet = x })
    (if r.fed == 2 then record r { fed = r.fed + 1; again = x } else record r { fed = r.fed + 1; second = x }) (r.fed == 1)
    (λ one. keeps-length r x xs k head (grind (arith, nat_tests)))
    (λ not_one. by_test P (record r { fed = r.fed + 1; again = x }) (record r { fed = r.fed + 1; second = x }) (r.fed == 2)
    (λ two. keeps-again r x xs k head (grind (arith, nat_tests)))
    (λ not_two. keeps-second r x xs k head (grind (arith, nat_tests))))

keeps-head_octet : (r : Received) (x : ℕ) (xs : List ℕ) → Keeps r xs → 0 < r.fed → da_from r.start ≤ r.fed → r.fed < da_from r.start + 3
    → Keeps (with_head r (r.fed - da_from r.start) x) (xs ++ x ∷ [])
keeps-head_octet r x xs k some behind ahead =
    let P : Received → Type 0 = λ v. Keeps v (xs ++ x ∷ []) in
    let f = da_from r.start in
    let total = sum_with r x in
    let to_da = record r { fed = r.fed + 1; sum_octet = total; da = x } in
    let to_sa = record r { fed = r.fed + 1; sum_octet = total; sa = x } in
    let to_fc = record r { fed = r.fed + 1; sum_octet = total; fc = x } in
    by_test P to_da (if r.fed - f == 1 then to_sa else to_fc) (r.fed - f == 0)
    (λ at_da. keeps-da r x xs k some (grind (arith, nat_tests, behind)))
    (λ past_da. by_test P to_sa to_fc (r.fed - f == 1)
    (λ at_sa. keeps-sa r x xs k some (grind (arith, nat_tests, behind)))
    (λ past_sa. keeps-fc r x xs k some (grind (arith, nat_tests, behind, ahead))))

keeps-end : (r : Received) (x : ℕ) (xs : List ℕ) → Keeps r xs → check_at r.start r.length_octet ≤ r.fed
    → Keeps (with_end r (check_at r.start r.length_octet) x) (xs ++ x ∷ [])
keeps-end r x xs k over =
    let P : Received → Type 0 = λ v. Keeps v (xs ++ x ∷ []) in
    let e = check_at r.start r.length_octet in
    let to_last = record r { fed = r.fed + 1; last = x } in
    let passed = record r { fed = r.fed + 1 } in
    by_test P (record r { fed = r.fed + 1; check = x }) (if r.fed == e + 1 then to_last else passed) (r.fed == e)
    (λ at_check. keeps-check r x xs k (grind (arith, nat_tests)))
    (λ past. by_test P to_last passed (r.fed == e + 1)
    (λ at_last. keeps-last r x xs k (grind (arith, nat_tests)))
    (λ rest. keeps-rest r x xs k (grind (arith, nat_tests, over))))

-- one more octet
keeps-more : (r : Received) (x : ℕ) (xs : List ℕ) → Keeps r xs → Keeps (taken r x) (xs ++ x ∷ [])
keeps-more r x xs k =
    let P : Received → Type 0 = λ v. Keeps v (xs ++ x ∷ []) in
    let f = da_from r.start in
    let e = check_at r.start r.length_octet in
    let summed = if nat_lt r.fed (f + 3) then with_head r (r.fed - f) x else with_unit r x in
    by_test P (record r { fed = 1; start = x; length_octet = 0 })
    (if nat_lt r.fed f then with_length r x else if nat_lt r.fed e then summed else with_end r e x)
    (r.fed == 0)
    (λ zero.
    let none : xs ≡ [] = nil_from_length xs (grind (arith, nat_tests, k.fed)) in
    subst (λ (l : List ℕ). Keeps (record r { fed = 1; start = x; length_octet = 0 }) (l ++ x ∷ [])) (sym none)
    (keeps-first r x (subst (λ (l : List ℕ). Keeps r l) none k)))
    (λ later. let some : 0 < r.fed = grind (arith, nat_tests) in
    by_test P (with_length r x) (if nat_lt r.fed e then summed else with_end r e x) (nat_lt r.fed f)
    (λ in_head. let head : r.fed < f = grind (arith, nat_tests) in keeps-head r x xs k some head)
    (λ behind_head. let behind : f ≤ r.fed = grind (arith, nat_tests) in
    by_test P summed (with_end r e x) (nat_lt r.fed e)
    (λ before_check. let ahead : r.fed < e = grind (arith, nat_tests) in
    by_test P (with_head r (r.fed - f) x) (with_unit r x) (nat_lt r.fed (f + 3))
    (λ before_unit. let head : r.fed < f + 3 = grind (arith, nat_tests) in keeps-head_octet r x xs k some behind head)
    (λ in_unit. let unit : f + 3 ≤ r.fed = grind (arith, nat_tests) in keeps-unit r x xs k some unit ahead))
    (λ over. let end : e ≤ r.fed = grind (arith, nat_tests) in keeps-end r x xs k end)))

-- taking an octet says nothing of damage
taken-bad : (r : Received) (x : ℕ) → (taken r x).bad ≡ r.bad
taken-bad r x = grind (arith, nat_tests)

position-good : (n octet : ℕ) (chars : List RxChar) → position_from is_bad n (chars ++ Good octet ∷ []) ≡ position_from is_bad n chars
position-good n octet [] = refl
position-good n octet (Good o ∷ chars) = position-good (n + 1) octet chars
position-good n octet (Bad ∷ chars) = refl

position-bad : (n : ℕ) (chars : List RxChar) → position_from is_bad n (chars ++ Bad ∷ []) ≡ bad_at (position_from is_bad n chars) (n + length chars)
position-bad n [] = ap Some (omega arith)
position-bad n (Good o ∷ chars) = position-bad (n + 1) chars ∙ ap (bad_at (position_from is_bad (n + 1) chars)) (omega arith)
position-bad n (Bad ∷ chars) = refl

-- the place of damage has no part in what is had of octets
keeps-marked : (r : Received) (b : Option ℕ) (xs : List ℕ) → Keeps r xs → Keeps (record r { bad = b }) xs
keeps-marked r b xs k = record {
  fed = k.fed;
  start = k.start;
  length_octet = k.length_octet;
  again = k.again;
  second = k.second;
  da = k.da;
  sa = k.sa;
  fc = k.fc;
  unit = k.unit;
  sum_octet = k.sum_octet;
  check = k.check;
  last = k.last;
}

octets_more : (chars : List RxChar) (c : RxChar) → octets (chars ++ c ∷ []) ≡ octets chars ++ octet_of c ∷ []
octets_more chars c = map-append octet_of chars (c ∷ [])

pub stands_more : (r : Received) (c : RxChar) (chars : List RxChar) → StandsFor r chars → StandsFor (received_more r c) (chars ++ c ∷ [])
stands_more r (Good octet) chars s = record {
  bad = taken-bad r octet ∙ s.bad ∙ sym (position-good 0 octet chars);
  octets = subst (λ (xs : List ℕ). Keeps (taken r octet) xs) (sym (octets_more chars (Good octet))) (keeps-more r octet (octets chars) s.octets);
}
stands_more r Bad chars s =
    let b = bad_at r.bad r.fed in
    let same : length (octets chars) ≡ length chars = grind (arith, common_steps) in
    let place : r.fed ≡ 0 + length chars = omega (arith, s.octets.fed, same) in
    record {
      bad = taken-bad (record r { bad = b }) 0 ∙ ap (λ (o : Option ℕ). bad_at o r.fed) s.bad ∙ ap (bad_at (place_of_bad chars)) place ∙ sym (position-bad 0 chars);
      octets = subst (λ (xs : List ℕ). Keeps (taken (record r { bad = b }) 0) xs) (sym (octets_more chars Bad))
          (keeps-more (record r { bad = b }) 0 (octets chars) (keeps-marked r b (octets chars) s.octets));
    }
