-- What a receiver finds in the end is what the grammar says of the list.
use Rattle.std.proofs.Common.{◌≡◌, ℕ, ◌+◌, ◌%◌, ◌<◌, ◌≤◌, List, [], ◌∷◌, ◌++◌, length, refl, ap, sym, ◌∙◌, arith, Bool, true, false, Some, None, Result, Ok, Err}
use Rattle.std.specs.Prelude.{sum, slice_index, slice_range, ◌==◌, ◌||◌, not, nat_lt, if◌then◌else◌, IfOk, IfErr, OnOk}
use Rattle.std.proofs.lemmas.Bool.Decides.{nat_tests}
use Rattle.std.proofs.lemmas.Grind.{elements, common_steps}
use Rattle.std.proofs.lemmas.List.Sums.{sum_by-append}
use Rattle.pb_faults.specs.FirstFault.{first_fault}
use Rattle.pb_telegram.specs.Grammar.{sd1, sd2, sd3, sd4, sc, ed, fcs_of, spelling, Spells}
use Rattle.pb_telegram.specs.Faults.{octets, place_of_bad, octet_faults, fault_of}
use Rattle.pb_telegram.specs.Receiving.{Received, Keeps, StandsFor, da_from, check_at, is_length, var_octet, framed_faults, plain_faults, var_faults, token_faults, form_faults, HasParts, Finds}
use Rattle.pb_telegram.specs.declared.chars.RxChar.{RxChar}
use Rattle.pb_telegram.specs.declared.faults.TelegramFault.{TelegramFault}
use Rattle.pb_telegram.specs.declared.faults.TelegramFault.TheVariants.{Truncated, BadLength, LengthsDiffer, BadSecondStart, BadAddress, Trailing, BadStart, Faulty}
use Rattle.pb_telegram.specs.declared.telegrams.Telegram.{Telegram}
use Rattle.pb_telegram.specs.declared.telegrams.Telegram.TheVariants.{Short, Var, Fixed8, Token, Ack}
use Rattle.pb_telegram.proofs.Spelled.{spells_from_octets, spelled_with_length, spelled_with_eight}

-- the sum over a head and a unit
range_parts : (xs : List ℕ) (i j : ℕ) → i + 3 ≤ j → j ≤ length xs
    → slice_range xs i j ≡ slice_index xs i ∷ slice_index xs (i + 1) ∷ slice_index xs (i + 2) ∷ slice_range xs (i + 3) j
range_parts xs i j order within = grind (arith, elements)

sum_parts : (a b c : ℕ) (unit : List ℕ) → sum (a ∷ b ∷ c ∷ unit) % 256 ≡ fcs_of a b c unit
sum_parts a b c unit =
    let parts : sum ((a ∷ b ∷ c ∷ []) ++ unit) ≡ sum (a ∷ b ∷ c ∷ []) + sum unit = rw (sum_by-append) refl in
    ap (λ (n : ℕ). n % 256) (omega (arith, parts))

total_parts : (xs : List ℕ) (i j : ℕ) → i + 3 ≤ j → j ≤ length xs
    → sum (slice_range xs i j) % 256 ≡ fcs_of (slice_index xs i) (slice_index xs (i + 1)) (slice_index xs (i + 2)) (slice_range xs (i + 3) j)
total_parts xs i j order within =
    ap (λ (l : List ℕ). sum l % 256) (range_parts xs i j order within)
    ∙ sum_parts (slice_index xs i) (slice_index xs (i + 1)) (slice_index xs (i + 2)) (slice_range xs (i + 3) j)

by_case : (A : Type 0) (b : Bool) → (b ≡ true → A) → (b ≡ false → A) → A
by_case A true one other = one refl
by_case A false one other = other refl

-- ---- without data

short_cut : (xs : List ℕ) (fed sa fc check total last : ℕ) → slice_index xs 0 ≡ sd1 → fed ≡ length xs → length xs < 6
    → first_fault ((nat_lt fed 6, Truncated) ∷ framed_faults 4 fed sa fc check total last) ≡ first_fault (octet_faults xs)
short_cut xs fed sa fc check total last start whole few = rw start (grind (arith, nat_tests))

short_whole : (xs : List ℕ) (fed sa fc check total last : ℕ) → slice_index xs 0 ≡ sd1 → fed ≡ length xs → 6 ≤ length xs
    → sa ≡ slice_index xs 2 → fc ≡ slice_index xs 3 → check ≡ slice_index xs 4 → last ≡ slice_index xs 5
    → total ≡ fcs_of (slice_index xs 1) (slice_index xs 2) (slice_index xs 3) []
    → first_fault ((nat_lt fed 6, Truncated) ∷ framed_faults 4 fed sa fc check total last) ≡ first_fault (octet_faults xs)
short_whole xs fed sa fc check total last start whole enough sa_is fc_is check_is last_is total_is = rw start (grind (arith, nat_tests))

short_same : (r : Received) (xs : List ℕ) → Keeps r xs → r.start ≡ sd1 → first_fault (plain_faults r 4) ≡ first_fault (octet_faults xs)
short_same r xs k start =
    let first : slice_index xs 0 ≡ sd1 = sym k.start ∙ start in
    let sa : r.sa ≡ slice_index xs 2 = k.sa ∙ ap (λ (s : ℕ). slice_index xs (da_from s + 1)) start in
    let fc : r.fc ≡ slice_index xs 3 = k.fc ∙ ap (λ (s : ℕ). slice_index xs (da_from s + 2)) start in
    let check : r.check ≡ slice_index xs 4 = k.check ∙ ap (λ (s : ℕ). slice_index xs (check_at s r.length_octet)) start in
    let last : r.last ≡ slice_index xs 5 = k.last ∙ ap (λ (s : ℕ). slice_index xs (check_at s r.length_octet + 1)) start in
    let total : r.sum_octet ≡ sum (slice_range xs 1 4) % 256 =
    k.sum_octet ∙ ap (λ (s : ℕ). sum (slice_range xs (da_from s) (check_at s r.length_octet)) % 256) start in
    by_case (first_fault (plain_faults r 4) ≡ first_fault (octet_faults xs)) (nat_lt (length xs) 6)
    (λ few. short_cut xs r.fed r.sa r.fc r.check r.sum_octet r.last first k.fed (grind (arith, nat_tests)))
    (λ many. let enough : 6 ≤ length xs = grind (arith, nat_tests) in
    short_whole xs r.fed r.sa r.fc r.check r.sum_octet r.last first k.fed enough sa fc check last (total ∙ total_parts xs 1 4 (omega arith) (omega (arith, enough))))

-- ---- eight octets of data

fixed_cut : (xs : List ℕ) (fed sa fc check total last : ℕ) → slice_index xs 0 ≡ sd3 → fed ≡ length xs → length xs < 14
    → first_fault ((nat_lt fed 14, Truncated) ∷ framed_faults 12 fed sa fc check total last) ≡ first_fault (octet_faults xs)
fixed_cut xs fed sa fc check total last start whole few = rw start (grind (arith, nat_tests))

fixed_whole : (xs : List ℕ) (fed sa fc check total last : ℕ) → slice_index xs 0 ≡ sd3 → fed ≡ length xs → 14 ≤ length xs
    → sa ≡ slice_index xs 2 → fc ≡ slice_index xs 3 → check ≡ slice_index xs 12 → last ≡ slice_index xs 13
    → total ≡ fcs_of (slice_index xs 1) (slice_index xs 2) (slice_index xs 3) (slice_range xs 4 12)
    → first_fault ((nat_lt fed 14, Truncated) ∷ framed_faults 12 fed sa fc check total last) ≡ first_fault (octet_faults xs)
fixed_whole xs fed sa fc check total last start whole enough sa_is fc_is check_is last_is total_is = rw start (grind (arith, nat_tests))

fixed_same : (r : Received) (xs : List ℕ) → Keeps r xs → r.start ≡ sd3 → first_fault (plain_faults r 12) ≡ first_fault (octet_faults xs)
fixed_same r xs k start =
    let first : slice_index xs 0 ≡ sd3 = sym k.start ∙ start in
    let sa : r.sa ≡ slice_index xs 2 = k.sa ∙ ap (λ (s : ℕ). slice_index xs (da_from s + 1)) start in
    let fc : r.fc ≡ slice_index xs 3 = k.fc ∙ ap (λ (s : ℕ). slice_index xs (da_from s + 2)) start in
    let check : r.check ≡ slice_index xs 12 = k.check ∙ ap (λ (s : ℕ). slice_index xs (check_at s r.length_octet)) start in
    let last : r.last ≡ slice_index xs 13 = k.last ∙ ap (λ (s : ℕ). slice_index xs (check_at s r.length_octet + 1)) start in
    let total : r.sum_octet ≡ sum (slice_range xs 1 12) % 256 =
    k.sum_octet ∙ ap (λ (s : ℕ). sum (slice_range xs (da_from s) (check_at s r.length_octet)) % 256) start in
    by_case (first_fault (plain_faults r 12) ≡ first_fault (octet_faults xs)) (nat_lt (length xs) 14)
    (λ few. fixed_cut xs r.fed r.sa r.fc r.check r.sum_octet r.last first k.fed (grind (arith, nat_tests)))
    (λ many. let enough : 14 ≤ length xs = grind (arith, nat_tests) in
    fixed_whole xs r.fed r.sa r.fc r.check r.sum_octet r.last first k.fed enough sa fc check last (total ∙ total_parts xs 1 12 (omega arith) (omega (arith, enough))))

-- ---- a token

token_table : (xs : List ℕ) (fed da sa : ℕ) → slice_index xs 0 ≡ sd4 → fed ≡ length xs → da ≡ slice_index xs 1 → sa ≡ slice_index xs 2
    → first_fault ((nat_lt fed 3, Truncated) ∷ (nat_lt 126 da || nat_lt 126 sa, BadAddress) ∷ (nat_lt 3 fed, Trailing) ∷ []) ≡ first_fault (octet_faults xs)
token_table xs fed da sa start whole da_is sa_is = rw start (grind (arith, nat_tests))

token_same : (r : Received) (xs : List ℕ) → Keeps r xs → r.start ≡ sd4 → first_fault (token_faults r) ≡ first_fault (octet_faults xs)
token_same r xs k start =
    token_table xs r.fed r.da r.sa (sym k.start ∙ start) k.fed (k.da ∙ ap (λ (s : ℕ). slice_index xs (da_from s)) start)
    (k.sa ∙ ap (λ (s : ℕ). slice_index xs (da_from s + 1)) start)

-- ---- data of variable length

abbrev var_table : (fed n again second sa fc check total last : ℕ) → List (Bool × TelegramFault)
var_table fed n again second sa fc check total last =
    (nat_lt fed 4, Truncated)
    ∷ (not (is_length n), BadLength)
    ∷ (nat_lt fed (n + 6), Truncated)
    ∷ (not (again == n), LengthsDiffer)
    ∷ (not (second == sd2), BadSecondStart)
    ∷ framed_faults (n + 4) fed sa fc check total last

var_cut : (xs : List ℕ) (fed n again second sa fc check total last : ℕ) → slice_index xs 0 ≡ sd2 → fed ≡ length xs → n ≡ slice_index xs 1
    → length xs < 4 → first_fault (var_table fed n again second sa fc check total last) ≡ first_fault (octet_faults xs)
var_cut xs fed n again second sa fc check total last start whole n_is few = rw start (grind (arith, nat_tests))

var_no_length : (xs : List ℕ) (fed n again second sa fc check total last : ℕ) → slice_index xs 0 ≡ sd2 → fed ≡ length xs → n ≡ slice_index xs 1
    → 4 ≤ length xs → is_length n ≡ false → first_fault (var_table fed n again second sa fc check total last) ≡ first_fault (octet_faults xs)
var_no_length xs fed n again second sa fc check total last start whole n_is some isnt = rw start (grind (arith, nat_tests))

var_short : (xs : List ℕ) (fed n again second sa fc check total last : ℕ) → slice_index xs 0 ≡ sd2 → fed ≡ length xs → n ≡ slice_index xs 1
    → 4 ≤ length xs → is_length n ≡ true → length xs < n + 6
    → first_fault (var_table fed n again second sa fc check total last) ≡ first_fault (octet_faults xs)
var_short xs fed n again second sa fc check total last start whole n_is some is few = rw start (grind (arith, nat_tests))

var_whole : (xs : List ℕ) (fed n again second sa fc check total last : ℕ) → slice_index xs 0 ≡ sd2 → fed ≡ length xs → n ≡ slice_index xs 1
    → 4 ≤ n → n ≤ 249 → n + 6 ≤ length xs
    → again ≡ slice_index xs 2 → second ≡ slice_index xs 3 → sa ≡ slice_index xs 5 → fc ≡ slice_index xs 6
    → check ≡ slice_index xs (n + 4) → last ≡ slice_index xs (n + 4 + 1)
    → total ≡ fcs_of (slice_index xs 4) (slice_index xs 5) (slice_index xs 6) (slice_range xs 7 (n + 4))
    → first_fault (var_table fed n again second sa fc check total last) ≡ first_fault (octet_faults xs)
var_whole xs fed n again second sa fc check total last start whole n_is low high enough again_is second_is sa_is fc_is check_is last_is total_is =
    rw start (grind (arith, nat_tests))

-- the place of the check octet, behind a length that is one
check_of_length : (s n : ℕ) → s ≡ sd2 → is_length n ≡ true → check_at s n ≡ n + 4
check_of_length s n start is = grind (arith, nat_tests)

pub record VarParts (r : Received) (xs : List ℕ) : Type 0 where
  first : slice_index xs 0 ≡ sd2
  n : r.length_octet ≡ slice_index xs 1
  again : r.again ≡ slice_index xs 2
  second : r.second ≡ slice_index xs 3
  da : r.da ≡ slice_index xs 4
  sa : r.sa ≡ slice_index xs 5
  fc : r.fc ≡ slice_index xs 6

var_octet_at : (xs : List ℕ) (place : ℕ) → slice_index xs 0 ≡ sd2 → var_octet xs place ≡ slice_index xs place
var_octet_at xs place start = grind (arith, nat_tests)

var_parts : (r : Received) (xs : List ℕ) → Keeps r xs → r.start ≡ sd2 → VarParts r xs
var_parts r xs k start =
    let head : slice_index xs 0 ≡ sd2 = sym k.start ∙ start in
    record {
      first = head;
      n = k.length_octet ∙ var_octet_at xs 1 head;
      again = k.again ∙ var_octet_at xs 2 head;
      second = k.second ∙ var_octet_at xs 3 head;
      da = k.da ∙ ap (λ (s : ℕ). slice_index xs (da_from s)) start;
      sa = k.sa ∙ ap (λ (s : ℕ). slice_index xs (da_from s + 1)) start;
      fc = k.fc ∙ ap (λ (s : ℕ). slice_index xs (da_from s + 2)) start;
    }

var_same : (r : Received) (xs : List ℕ) → Keeps r xs → r.start ≡ sd2 → first_fault (var_faults r) ≡ first_fault (octet_faults xs)
var_same r xs k start =
    let A : Type 0 = first_fault (var_faults r) ≡ first_fault (octet_faults xs) in
    let p = var_parts r xs k start in
    let n = r.length_octet in
    by_case A (nat_lt (length xs) 4)
    (λ few. var_cut xs r.fed n r.again r.second r.sa r.fc r.check r.sum_octet r.last p.first k.fed p.n (grind (arith, nat_tests)))
    (λ many. let some : 4 ≤ length xs = grind (arith, nat_tests) in
    by_case A (is_length n)
    (λ is. by_case A (nat_lt (length xs) (n + 6))
    (λ cut. var_short xs r.fed n r.again r.second r.sa r.fc r.check r.sum_octet r.last p.first k.fed p.n some is (grind (arith, nat_tests)))
    (λ enough.
    let whole : n + 6 ≤ length xs = grind (arith, nat_tests) in
    let low : 4 ≤ n = grind (arith, nat_tests) in
    let high : n ≤ 249 = grind (arith, nat_tests) in
    let place = check_of_length r.start n start is in
    let check : r.check ≡ slice_index xs (n + 4) = k.check ∙ ap (slice_index xs) place in
    let last : r.last ≡ slice_index xs (n + 4 + 1) = k.last ∙ ap (λ (i : ℕ). slice_index xs (i + 1)) place in
    let total : r.sum_octet ≡ sum (slice_range xs 4 (n + 4)) % 256 =
    k.sum_octet ∙ ap (λ (s : ℕ). sum (slice_range xs (da_from s) (check_at r.start n)) % 256) start
    ∙ ap (λ (j : ℕ). sum (slice_range xs 4 j) % 256) place in
    var_whole xs r.fed n r.again r.second r.sa r.fc r.check r.sum_octet r.last p.first k.fed p.n low high whole p.again p.second p.sa p.fc check last
    (total ∙ total_parts xs 4 (n + 4) (omega (arith, low)) (omega (arith, whole)))))
    (λ isnt. var_no_length xs r.fed n r.again r.second r.sa r.fc r.check r.sum_octet r.last p.first k.fed p.n some isnt))

-- ---- any form

other_same : (r : Received) (xs : List ℕ) → Keeps r xs → 0 < length xs
    → (r.start == sd1) ≡ false → (r.start == sd2) ≡ false → (r.start == sd3) ≡ false → (r.start == sd4) ≡ false
    → first_fault (if r.start == sc then (nat_lt 1 r.fed, Trailing) ∷ [] else (true, BadStart) ∷ []) ≡ first_fault (octet_faults xs)
other_same r xs k some a b c d = other_table xs r.fed r.start k.start k.fed some a b c d
  where
    other_table : (xs : List ℕ) (fed start : ℕ) → start ≡ slice_index xs 0 → fed ≡ length xs → 0 < length xs
        → (start == sd1) ≡ false → (start == sd2) ≡ false → (start == sd3) ≡ false → (start == sd4) ≡ false
        → first_fault (if start == sc then (nat_lt 1 fed, Trailing) ∷ [] else (true, BadStart) ∷ []) ≡ first_fault (octet_faults xs)
    other_table xs fed start e whole some a b c d = grind (arith, nat_tests)

abbrev form_by : Received → ℕ → List (Bool × TelegramFault)
form_by r s =
    if s == sd1 then plain_faults r 4
    else if s == sd2 then var_faults r
    else if s == sd3 then plain_faults r 12
    else if s == sd4 then token_faults r
    else if s == sc then (nat_lt 1 r.fed, Trailing) ∷ []
    else (true, BadStart) ∷ []

by_list : (P : List (Bool × TelegramFault) → Type 0) (u v : List (Bool × TelegramFault)) (b : Bool)
    → (b ≡ true → P u) → (b ≡ false → P v) → P (if b then u else v)
by_list P u v true one other = one refl
by_list P u v false one other = other refl

equal_of : (a b : ℕ) → (a == b) ≡ true → a ≡ b
equal_of a b e = grind (arith, nat_tests)

form_same : (r : Received) (xs : List ℕ) → Keeps r xs → 0 < length xs → first_fault (form_faults r) ≡ first_fault (octet_faults xs)
form_same r xs k some =
    let P : List (Bool × TelegramFault) → Type 0 = λ l. first_fault l ≡ first_fault (octet_faults xs) in
    let last = if r.start == sc then (nat_lt 1 r.fed, Trailing) ∷ [] else (true, BadStart) ∷ [] in
    let fourth = if r.start == sd4 then token_faults r else last in
    let third = if r.start == sd3 then plain_faults r 12 else fourth in
    let second = if r.start == sd2 then var_faults r else third in
    by_list P (plain_faults r 4) second (r.start == sd1) (λ e. short_same r xs k (equal_of r.start sd1 e))
    (λ a. by_list P (var_faults r) third (r.start == sd2) (λ e. var_same r xs k (equal_of r.start sd2 e))
    (λ b. by_list P (plain_faults r 12) fourth (r.start == sd3) (λ e. fixed_same r xs k (equal_of r.start sd3 e))
    (λ c. by_list P (token_faults r) last (r.start == sd4) (λ e. token_same r xs k (equal_of r.start sd4 e))
    (λ d. other_same r xs k some a b c d))))

-- ---- a telegram

plain_none : (place fed sa fc check total last : ℕ)
    → first_fault ((nat_lt fed (place + 2), Truncated) ∷ framed_faults place fed sa fc check total last) ≡ None
    → (fed ≡ place + 2) × (check ≡ total) × (last ≡ ed)
plain_none place fed sa fc check total last none = (grind (arith, nat_tests), grind (arith, nat_tests), grind (arith, nat_tests))

fcs_same : (a b c a' b' c' : ℕ) (u v : List ℕ) → a ≡ a' → b ≡ b' → c ≡ c' → u ≡ v → fcs_of a b c u ≡ fcs_of a' b' c' v
fcs_same a b c a' b' c' u v ea eb ec eu = rw (ea, eb, ec, eu) refl

six_octets : (xs : List ℕ) (a b c d e f : ℕ) → length xs ≡ 6 → slice_index xs 0 ≡ a → slice_index xs 1 ≡ b → slice_index xs 2 ≡ c
    → slice_index xs 3 ≡ d → slice_index xs 4 ≡ e → slice_index xs 5 ≡ f → xs ≡ a ∷ b ∷ c ∷ d ∷ e ∷ f ∷ []
six_octets xs a b c d e f whole ea eb ec ed' ee ef = six xs whole ∙ (rw (ea, eb, ec, ed', ee, ef) refl)
  where
    six : (xs : List ℕ) → length xs ≡ 6
        → xs ≡ slice_index xs 0 ∷ slice_index xs 1 ∷ slice_index xs 2 ∷ slice_index xs 3 ∷ slice_index xs 4 ∷ slice_index xs 5 ∷ []
    six (a ∷ b ∷ c ∷ d ∷ e ∷ f ∷ []) h = refl
    six xs h = absurd (omega arith)

three_octets : (xs : List ℕ) (a b c : ℕ) → length xs ≡ 3 → slice_index xs 0 ≡ a → slice_index xs 1 ≡ b → slice_index xs 2 ≡ c → xs ≡ a ∷ b ∷ c ∷ []
three_octets xs a b c whole ea eb ec = three xs whole ∙ (rw (ea, eb, ec) refl)
  where
    three : (xs : List ℕ) → length xs ≡ 3 → xs ≡ slice_index xs 0 ∷ slice_index xs 1 ∷ slice_index xs 2 ∷ []
    three (a ∷ b ∷ c ∷ []) h = refl
    three xs h = absurd (omega arith)

one_octet : (xs : List ℕ) (a : ℕ) → length xs ≡ 1 → slice_index xs 0 ≡ a → xs ≡ a ∷ []
one_octet xs a whole ea = one xs whole ∙ (rw (ea) refl)
  where
    one : (xs : List ℕ) → length xs ≡ 1 → xs ≡ slice_index xs 0 ∷ []
    one (a ∷ []) h = refl
    one xs h = absurd (omega arith)

token_none : (fed da sa : ℕ)
    → first_fault ((nat_lt fed 3, Truncated) ∷ (nat_lt 126 da || nat_lt 126 sa, BadAddress) ∷ (nat_lt 3 fed, Trailing) ∷ []) ≡ None → fed ≡ 3
token_none fed da sa none = grind (arith, nat_tests)

ack_none : (fed : ℕ) → 0 < fed → first_fault ((nat_lt 1 fed, Trailing) ∷ []) ≡ None → fed ≡ 1
ack_none fed some none = grind (arith, nat_tests)

var_none : (fed n again second sa fc check total last : ℕ) → first_fault (var_table fed n again second sa fc check total last) ≡ None
    → (4 ≤ n) × (is_length n ≡ true) × (fed ≡ n + 6) × (again ≡ n) × (second ≡ sd2) × (check ≡ total) × (last ≡ ed)
var_none fed n again second sa fc check total last none =
    (grind (arith, nat_tests), grind (arith, nat_tests), grind (arith, nat_tests), grind (arith, nat_tests), grind (arith, nat_tests), grind (arith, nat_tests), grind (arith, nat_tests))

parts_spell : (r : Received) (xs : List ℕ) (t : Telegram) → Keeps r xs → 0 < r.fed → first_fault (form_faults r) ≡ None → HasParts r t → xs ≡ spelling t
parts_spell r xs (Short t) k some none p =
    let start = p.0 in
    let free : first_fault (plain_faults r 4) ≡ None = sym (ap (λ (s : ℕ). first_fault (form_by r s)) start) ∙ none in
    let found = plain_none 4 r.fed r.sa r.fc r.check r.sum_octet r.last free in
    let whole : length xs ≡ 6 = sym k.fed ∙ found.0 in
    let da : slice_index xs 1 ≡ t.da = sym (p.1 ∙ k.da ∙ ap (λ (s : ℕ). slice_index xs (da_from s)) start) in
    let sa : slice_index xs 2 ≡ t.sa = sym (p.2 ∙ k.sa ∙ ap (λ (s : ℕ). slice_index xs (da_from s + 1)) start) in
    let fc : slice_index xs 3 ≡ t.fc = sym (p.3 ∙ k.fc ∙ ap (λ (s : ℕ). slice_index xs (da_from s + 2)) start) in
    let check : slice_index xs 4 ≡ r.check = sym (k.check ∙ ap (λ (s : ℕ). slice_index xs (check_at s r.length_octet)) start) in
    let last : slice_index xs 5 ≡ r.last = sym (k.last ∙ ap (λ (s : ℕ). slice_index xs (check_at s r.length_octet + 1)) start) in
    let total : r.sum_octet ≡ sum (slice_range xs 1 4) % 256 =
    k.sum_octet ∙ ap (λ (s : ℕ). sum (slice_range xs (da_from s) (check_at s r.length_octet)) % 256) start in
    let sums : r.sum_octet ≡ fcs_of t.da t.sa t.fc [] = total ∙ total_parts xs 1 4 (omega arith) (omega (arith, whole))
    ∙ fcs_same (slice_index xs 1) (slice_index xs 2) (slice_index xs 3) t.da t.sa t.fc [] [] da sa fc refl in
    six_octets xs sd1 t.da t.sa t.fc (fcs_of t.da t.sa t.fc []) ed whole (sym k.start ∙ start) da sa fc (check ∙ found.1 ∙ sums) (last ∙ found.2)
parts_spell r xs (Fixed8 t) k some none p =
    let start = p.0 in
    let free : first_fault (plain_faults r 12) ≡ None = sym (ap (λ (s : ℕ). first_fault (form_by r s)) start) ∙ none in
    let found = plain_none 12 r.fed r.sa r.fc r.check r.sum_octet r.last free in
    let whole : length xs ≡ 14 = sym k.fed ∙ found.0 in
    let da : slice_index xs 1 ≡ t.da = sym (p.1 ∙ k.da ∙ ap (λ (s : ℕ). slice_index xs (da_from s)) start) in
    let sa : slice_index xs 2 ≡ t.sa = sym (p.2 ∙ k.sa ∙ ap (λ (s : ℕ). slice_index xs (da_from s + 1)) start) in
    let fc : slice_index xs 3 ≡ t.fc = sym (p.3 ∙ k.fc ∙ ap (λ (s : ℕ). slice_index xs (da_from s + 2)) start) in
    let unit : slice_range xs 4 12 ≡ t.unit = sym (p.4 ∙ k.unit ∙ ap (λ (s : ℕ). slice_range xs (da_from s + 3) (check_at s r.length_octet)) start) in
    let check : slice_index xs 12 ≡ r.check = sym (k.check ∙ ap (λ (s : ℕ). slice_index xs (check_at s r.length_octet)) start) in
    let last : slice_index xs 13 ≡ r.last = sym (k.last ∙ ap (λ (s : ℕ). slice_index xs (check_at s r.length_octet + 1)) start) in
    let total : r.sum_octet ≡ sum (slice_range xs 1 12) % 256 =
    k.sum_octet ∙ ap (λ (s : ℕ). sum (slice_range xs (da_from s) (check_at s r.length_octet)) % 256) start in
    let sums : r.sum_octet ≡ fcs_of t.da t.sa t.fc t.unit = total ∙ total_parts xs 1 12 (omega arith) (omega (arith, whole))
    ∙ fcs_same (slice_index xs 1) (slice_index xs 2) (slice_index xs 3) t.da t.sa t.fc (slice_range xs 4 12) t.unit da sa fc unit in
    spelled_with_eight xs sd3 t.da t.sa t.fc t.unit (fcs_of t.da t.sa t.fc t.unit) ed whole (sym k.start ∙ start) da sa fc unit (check ∙ found.1 ∙ sums) (last ∙ found.2)
parts_spell r xs (Var t) k some none p =
    let start = p.0 in
    let n = r.length_octet in
    let free : first_fault (var_faults r) ≡ None = sym (ap (λ (s : ℕ). first_fault (form_by r s)) start) ∙ none in
    let found = var_none r.fed n r.again r.second r.sa r.fc r.check r.sum_octet r.last free in
    let v = var_parts r xs k start in
    let whole : length xs ≡ n + 6 = sym k.fed ∙ found.2 in
    let place = check_of_length r.start n start found.1 in
    let da : slice_index xs 4 ≡ t.da = sym (p.1 ∙ v.da) in
    let sa : slice_index xs 5 ≡ t.sa = sym (p.2 ∙ v.sa) in
    let fc : slice_index xs 6 ≡ t.fc = sym (p.3 ∙ v.fc) in
    let unit : slice_range xs 7 (n + 4) ≡ t.unit.items =
    sym (p.4 ∙ k.unit ∙ ap (λ (s : ℕ). slice_range xs (da_from s + 3) (check_at r.start n)) start ∙ ap (slice_range xs 7) place) in
    let check : slice_index xs (n + 4) ≡ r.check = sym (k.check ∙ ap (slice_index xs) place) in
    let last : slice_index xs (n + 4 + 1) ≡ r.last = sym (k.last ∙ ap (λ (i : ℕ). slice_index xs (i + 1)) place) in
    let total : r.sum_octet ≡ sum (slice_range xs 4 (n + 4)) % 256 =
    k.sum_octet ∙ ap (λ (s : ℕ). sum (slice_range xs (da_from s) (check_at r.start n)) % 256) start
    ∙ ap (λ (j : ℕ). sum (slice_range xs 4 j) % 256) place in
    let sums : r.sum_octet ≡ fcs_of t.da t.sa t.fc t.unit.items = total ∙ total_parts xs 4 (n + 4) (omega (arith, found.0)) (omega (arith, whole))
    ∙ fcs_same (slice_index xs 4) (slice_index xs 5) (slice_index xs 6) t.da t.sa t.fc (slice_range xs 7 (n + 4)) t.unit.items da sa fc unit in
    spelled_with_length xs n sd2 t.da t.sa t.fc t.unit.items (fcs_of t.da t.sa t.fc t.unit.items) ed found.0 whole v.first
    (sym v.n) (sym v.again ∙ found.3) (sym v.second ∙ found.4) da sa fc unit (check ∙ found.5 ∙ sums) (last ∙ found.6)
parts_spell r xs (Token t) k some none p =
    let start = p.0 in
    let free : first_fault (token_faults r) ≡ None = sym (ap (λ (s : ℕ). first_fault (form_by r s)) start) ∙ none in
    three_octets xs sd4 t.da t.sa (sym k.fed ∙ token_none r.fed r.da r.sa free) (sym k.start ∙ start)
    (sym (p.1 ∙ k.da ∙ ap (λ (s : ℕ). slice_index xs (da_from s)) start)) (sym (p.2 ∙ k.sa ∙ ap (λ (s : ℕ). slice_index xs (da_from s + 1)) start))
parts_spell r xs Ack k some none p =
    let free : first_fault ((nat_lt 1 r.fed, Trailing) ∷ []) ≡ None = sym (ap (λ (s : ℕ). first_fault (form_by r s)) p) ∙ none in
    one_octet xs sc (sym k.fed ∙ ack_none r.fed some free) (sym k.start ∙ p)

-- ---- the answer

chars_fault : (chars : List RxChar) → 0 < length chars → place_of_bad chars ≡ None → fault_of chars ≡ first_fault (octet_faults (octets chars))
chars_fault chars some none = grind (arith, nat_tests)

pub record Answers (chars : List RxChar) (answer : Result Telegram TelegramFault) : Type 0 where
  pub telegram : IfOk answer (Spells chars)
  pub sound : OnOk answer (fault_of chars ≡ None)
  pub fault : IfErr answer (λ fault. fault_of chars ≡ Some fault)

pub answers : (r : Received) (chars : List RxChar) (answer : Result Telegram TelegramFault) → StandsFor r chars → 0 < r.fed → r.bad ≡ None
    → Finds r (form_faults r) (λ telegram. telegram) answer → Answers chars answer
answers r chars (Ok t) s some good found =
    let none : place_of_bad chars ≡ None = sym s.bad ∙ good in
    let same : length (octets chars) ≡ length chars = grind (arith, common_steps) in
    let fault = chars_fault chars (omega (arith, some, s.octets.fed, same)) none
    ∙ sym (form_same r (octets chars) s.octets (omega (arith, some, s.octets.fed))) in
    record {
      telegram = spells_from_octets chars (spelling t) none (parts_spell r (octets chars) t s.octets some found.0 found.1);
      sound = fault ∙ found.0;
      fault = tt;
    }
answers r chars (Err f) s some good found =
    let none : place_of_bad chars ≡ None = sym s.bad ∙ good in
    let same : length (octets chars) ≡ length chars = grind (arith, common_steps) in
    let fault = chars_fault chars (omega (arith, some, s.octets.fed, same)) none
    ∙ sym (form_same r (octets chars) s.octets (omega (arith, some, s.octets.fed))) in
    record { telegram = tt; sound = tt; fault = fault ∙ found }

pub bad_fault : (r : Received) (chars : List RxChar) (place : ℕ) → StandsFor r chars → 0 < r.fed → r.bad ≡ Some place → fault_of chars ≡ Some (Faulty place)
bad_fault r chars place s some bad =
    let at : place_of_bad chars ≡ Some place = sym s.bad ∙ bad in
    let same : length (octets chars) ≡ length chars = grind (arith, common_steps) in
    let enough : 0 < length chars = omega (arith, some, s.octets.fed, same) in
    faulty chars place enough at
  where
    faulty : (chars : List RxChar) (place : ℕ) → 0 < length chars → place_of_bad chars ≡ Some place → fault_of chars ≡ Some (Faulty place)
    faulty chars place enough at = rw at (grind (arith, nat_tests))

-- ---- a short acknowledgement

pub acknowledged : (r : Received) (chars : List RxChar) → StandsFor r chars → r.fed ≡ 1 → r.bad ≡ None → r.start ≡ sc → Spells chars Ack
acknowledged r chars s one good start =
    spells_from_octets chars (spelling Ack) (sym s.bad ∙ good) (one_octet (octets chars) sc (sym s.octets.fed ∙ one) (sym s.octets.start ∙ start))

pub one_acknowledgement : (r : Received) (chars : List RxChar) → StandsFor r chars → Spells chars Ack
    → (r.fed ≡ 1) × (r.bad ≡ None) × (r.start ≡ sc)
one_acknowledgement r chars s spelled = (
  s.octets.fed ∙ ap (λ (cs : List RxChar). length (octets cs)) spelled,
  s.bad ∙ ap place_of_bad spelled,
  s.octets.start ∙ ap (λ (cs : List RxChar). slice_index (octets cs) 0) spelled,
)
