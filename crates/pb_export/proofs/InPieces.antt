-- A dump that is written piece by piece has the moments of all its entries.
use Rattle.std.proofs.Common.{◌≡◌, ◌∙◌, ◌⊎◌, inl, inr, ap, sym, refl, arith, ℕ, zero, suc, ◌+◌, ◌-◌, ◌<◌, ◌≤◌, Bool, true, false, List, [], ◌∷◌, ◌++◌, length, Option, Some, None, append_assoc}
use Rattle.std.specs.Prelude.{codes, max, min, slice_get, nat_le, nat_lt, ◌||◌, if◌then◌else◌}
use Rattle.std.specs.List.{flat_map}
use Rattle.std.proofs.lemmas.Bool.{and_parts, ltb-true, leb-true, leb-false}
use Rattle.std.proofs.lemmas.Option.{same_Some}
use Rattle.law_model.specs.Trace.{Entry, Sent, Noise, entry_begin, entry_end}
use Rattle.pb_export.specs.declared.options.Window.{Window}
use Rattle.pb_export.specs.declared.options.Strings.{Strings}
use Rattle.pb_export.specs.declared.options.Strings.TheVariants.{Shown, LeftOut}
use Rattle.pb_export.specs.declared.levels.Level.{Level}
use Rattle.pb_export.specs.declared.levels.Level.TheVariants.{High}
use Rattle.pb_export.specs.declared.dumps.Dump.{Dump}
use Rattle.pb_export.specs.declared.dumps.Waves.{Waves}
use Rattle.pb_export.specs.Levels.{bus_at, bus_from, bus_with, is_on, joined}
use Rattle.pb_export.specs.Times.{end_of_time, last_end, later_end}
use Rattle.pb_export.specs.Windows.{is_shown}
use Rattle.pb_export.specs.Vcd.{entry_change, is_same_place, level_change, moment, moments, name_change, name_of, named_at, named_entry, named_from, named_with, stamp, stamped, vcd_body}
use Rattle.pb_export.specs.Waves.{AreOver, AreToCome, GoesOn, IsBegun, are_since, is_closed, latest_end, level_behind, most, named_behind, waves_from}
use Rattle.pb_export.proofs.Waving.{bus-none, lines-none, named-none, no-change, off-over, over-later}

le-or-lt : (m n : ℕ) → (m ≤ n) ⊎ (n < m)
le-or-lt m n = by (nat_le m n) refl
  where
    by : (b : Bool) → nat_le m n ≡ b → (m ≤ n) ⊎ (n < m)
    by true is = inl (leb-true m n is)
    by false is = inr (leb-false m n is)

-- ---- entries by their ends and begins

later-than : (last : ℕ) (es : List Entry) → last ≤ latest_end last es
later-than last [] = omega arith
later-than last (e ∷ es) =
    let rest = later-than (max last (entry_end e)) es in
    omega (arith, rest)

over-by : (t last : ℕ) (es : List Entry) → latest_end last es ≤ t → AreOver t es
over-by t last [] less = tt
over-by t last (e ∷ es) less =
    let rest = later-than (max last (entry_end e)) es in
    (omega (arith, rest, less), over-by t (max last (entry_end e)) es less)

come-since : (t cut : ℕ) (es : List Entry) → t < cut → are_since cut es ≡ true → AreToCome t es
come-since t cut [] less since = tt
come-since t cut (e ∷ es) less since =
    let both = and_parts (nat_le cut (entry_begin e)) (are_since cut es) since in
    let here = leb-true cut (entry_begin e) both.0 in
    (omega (arith, less, here), come-since t cut es less both.1)

-- ---- the last moment

last-both : (w : Window) (last : ℕ) (es later : List Entry) → last_end w last (es ++ later) ≡ last_end w (last_end w last es) later
last-both w last [] later = refl
last-both w last (e ∷ es) later = last-both w (later_end w last e) es later

later-least : (w : Window) (last : ℕ) (e : Entry) → last ≤ later_end w last e
later-least w last (Noise span) = omega arith
later-least w last (Sent r) = by (is_shown w (Sent r))
  where
    by : (b : Bool) → last ≤ (if b then max last r.end else last)
    by true = omega arith
    by false = omega arith

last-least : (w : Window) (last : ℕ) (es : List Entry) → last ≤ last_end w last es
last-least w last [] = omega arith
last-least w last (e ∷ es) =
    let here = later-least w last e in
    let rest = last-least w (later_end w last e) es in
    omega (arith, here, rest)

-- what is not shown leaves it
unshown : (w : Window) (cut : ℕ) (e : Entry) → w.until < cut → cut ≤ entry_begin e → is_shown w e ≡ false
unshown w cut e less since = by (is_shown w e) refl
  where
    by : (b : Bool) → is_shown w e ≡ b → is_shown w e ≡ false
    by false is = is
    by true is =
        let before = leb-true (entry_begin e) w.until (and_parts (nat_le w.from (entry_begin e)) (nat_le (entry_begin e) w.until) is).1 in
        absurd (omega (arith, less, since, before))

later-unshown : (w : Window) (last : ℕ) (e : Entry) → is_shown w e ≡ false → later_end w last e ≡ last
later-unshown w last (Noise span) is = refl
later-unshown w last (Sent r) is = ap (λ (b : Bool). if b then max last r.end else last) is

last-unshown : (w : Window) (cut last : ℕ) (es : List Entry) → w.until < cut → are_since cut es ≡ true → last_end w last es ≡ last
last-unshown w cut last [] less since = refl
last-unshown w cut last (e ∷ es) less since =
    let both = and_parts (nat_le cut (entry_begin e)) (are_since cut es) since in
    ap (λ (n : ℕ). last_end w n es) (later-unshown w last e (unshown w cut e less (leb-true cut (entry_begin e) both.0)))
    ∙ last-unshown w cut last es less both.1

-- ---- items of two lists

get-front : {X : Type 0} (xs ys : List X) (i : ℕ) → i < length xs → slice_get (xs ++ ys) i ≡ slice_get xs i
get-front [] ys i less = absurd (omega (arith, less))
get-front (x ∷ xs) ys zero less = refl
get-front (x ∷ xs) ys (suc i) less = get-front xs ys i (omega (arith, less))

get-behind : {X : Type 0} (xs ys : List X) (i : ℕ) → slice_get (xs ++ ys) (length xs + i) ≡ slice_get ys i
get-behind {X} [] ys i =
    let same : length {A = X} [] + i ≡ i = omega arith in
    ap (slice_get ys) same
get-behind (x ∷ xs) ys i =
    let same : length (x ∷ xs) + i ≡ suc (length xs + i) = omega arith in
    ap (slice_get (x ∷ (xs ++ ys))) same ∙ get-behind xs ys i

-- ---- which entry is named

-- one of those that are asked, or the one before
pub record IsAmong (place n k : ℕ) : Type 0 where
  pub from : place ≤ k
  pub below : k < place + n

named-among : (w : Window) (t place : ℕ) (found : Option ℕ) (es : List Entry) (k : ℕ) → named_from w t place found es ≡ Some k
    → (found ≡ Some k) ⊎ IsAmong place (length es) k
named-among w t place found [] k is = inl is
named-among w t place found (e ∷ es) k is =
    at (is_on w e t) (named-among w t (place + 1) (named_with w t place found e) es k is)
  where
    at : (b : Bool) → ((if b then Some place else found) ≡ Some k) ⊎ IsAmong (place + 1) (length es) k → (found ≡ Some k) ⊎ IsAmong place (length (e ∷ es)) k
    at b (inr a) = inr (record { from = omega (arith, a.from); below = omega (arith, a.below) })
    at true (inl here) =
        let same = same_Some place k here in
        inr (record { from = omega (arith, same); below = omega (arith, same) })
    at false (inl before) = inl before

named-in : (w : Window) (t place : ℕ) (es : List Entry) (k : ℕ) → named_at w place es t ≡ Some k → IsAmong place (length es) k
named-in w t place es k is = by (named-among w t place None es k is)
  where
    by : (None ≡ Some k) ⊎ IsAmong place (length es) k → IsAmong place (length es) k
    by (inl none) = absurd cc
    by (inr a) = a

-- ---- a moment, behind entries that are over

lines-behind : (w : Window) (t : ℕ) (es later : List Entry) → AreOver t es → flat_map (entry_change w t) (es ++ later) ≡ flat_map (entry_change w t) later
lines-behind w t [] later over = refl
lines-behind w t (e ∷ es) later (here, rest) =
    ap (λ (z : List ℕ). z ++ flat_map (entry_change w t) (es ++ later)) (no-change w t e (off-over w e t here)) ∙ lines-behind w t es later rest

bus-behind : (w : Window) (t : ℕ) (bus : Level) (es later : List Entry) → AreOver t es → bus_from w bus (es ++ later) t ≡ bus_from w bus later t
bus-behind w t bus [] later over = refl
bus-behind w t bus (e ∷ es) later (here, rest) =
    ap (λ (b : Bool). bus_from w (if b then joined bus e t else bus) (es ++ later) t) (off-over w e t here) ∙ bus-behind w t bus es later rest

named-behind-from : (w : Window) (t place : ℕ) (found : Option ℕ) (es later : List Entry) → AreOver t es
    → named_from w t place found (es ++ later) ≡ named_from w t (place + length es) found later
named-behind-from w t place found [] later over =
    let same : place ≡ place + length {A = Entry} [] = omega arith in
    ap (λ (p : ℕ). named_from w t p found later) same
named-behind-from w t place found (e ∷ es) later (here, rest) =
    let same : place + 1 + length es ≡ place + length (e ∷ es) = omega arith in
    ap (λ (b : Bool). named_from w t (place + 1) (if b then Some place else found) (es ++ later)) (off-over w e t here)
    ∙ named-behind-from w t (place + 1) found es later rest ∙ ap (λ (p : ℕ). named_from w t p found later) same

name-behind : (w : Window) (t place : ℕ) (es later : List Entry) (n : Option ℕ) → named_at w (place + length es) later t ≡ n
    → name_of (named_entry place (es ++ later) n) ≡ name_of (named_entry (place + length es) later n)
name-behind w t place es later None is = refl
name-behind w t place es later (Some k) is =
    let among = named-in w t (place + length es) later k is in
    let there : k - place ≡ length es + (k - (place + length es)) = omega (arith, among.from) in
    ap name_of (ap (slice_get (es ++ later)) there ∙ get-behind es later (k - (place + length es)))

change-behind : (strings : Strings) (w : Window) (t place : ℕ) (es later : List Entry) (before n : Option ℕ) → named_at w (place + length es) later t ≡ n
    → name_change strings place (es ++ later) before n ≡ name_change strings (place + length es) later before n
change-behind Shown w t place es later before n is =
    ap (λ (z : List ℕ). if is_same_place before n then [] else codes "s" ++ z ++ codes " s\n") (name-behind w t place es later n is)
change-behind LeftOut w t place es later before n is = refl

moment-behind : (baud : ℕ) (strings : Strings) (w : Window) (place : ℕ) (es later : List Entry) (level : Level) (named : Option ℕ) (t : ℕ) → AreOver t es
    → moment baud strings w place (es ++ later) level named t ≡ moment baud strings w (place + length es) later level named t
moment-behind baud strings w place es later level named t over =
    let all = es ++ later in
    let next = place + length es in
    let name = named-behind-from w t place None es later over in
    ap (λ (z : List ℕ). stamped baud t (z ++ level_change level (bus_at w all t) ++ name_change strings place all named (named_at w place all t))) (lines-behind w t es later over)
    ∙ ap (λ (l : Level). stamped baud t (flat_map (entry_change w t) later ++ level_change level l ++ name_change strings place all named (named_at w place all t)))
    (bus-behind w t High es later over)
    ∙ ap (λ (n : Option ℕ). stamped baud t (flat_map (entry_change w t) later ++ level_change level (bus_at w later t) ++ name_change strings place all named n)) name
    ∙ ap (λ (z : List ℕ). stamped baud t (flat_map (entry_change w t) later ++ level_change level (bus_at w later t) ++ z))
    (change-behind strings w t place es later named (named_at w next later t) refl)

pub moments-behind : (baud : ℕ) (strings : Strings) (w : Window) (place : ℕ) (es later : List Entry) (level : Level) (named : Option ℕ) (t n : ℕ) → AreOver t es
    → moments baud strings w place (es ++ later) level named t n ≡ moments baud strings w (place + length es) later level named t n
moments-behind baud strings w place es later level named t zero over = refl
moments-behind baud strings w place es later level named t (suc n) over =
    let all = es ++ later in
    let next = place + length es in
    ap (λ (z : List ℕ). z ++ moments baud strings w place all (bus_at w all t) (named_at w place all t) (t + 1) n) (moment-behind baud strings w place es later level named t over)
    ∙ ap (λ (l : Level). moment baud strings w next later level named t ++ moments baud strings w place all l (named_at w place all t) (t + 1) n)
    (bus-behind w t High es later over)
    ∙ ap (λ (o : Option ℕ). moment baud strings w next later level named t ++ moments baud strings w place all (bus_at w later t) o (t + 1) n)
    (named-behind-from w t place None es later over)
    ∙ ap (λ (z : List ℕ). moment baud strings w next later level named t ++ z)
    (moments-behind baud strings w place es later (bus_at w later t) (named_at w next later t) (t + 1) n (over-later t (t + 1) es (omega arith) over))

-- ---- a moment, before entries that are to come

lines-before : (w : Window) (t : ℕ) (es later : List Entry) → AreToCome t later → flat_map (entry_change w t) (es ++ later) ≡ flat_map (entry_change w t) es
lines-before w t [] later come = lines-none w t later come
lines-before w t (e ∷ es) later come = ap (λ (z : List ℕ). entry_change w t e ++ z) (lines-before w t es later come)

bus-before : (w : Window) (t : ℕ) (bus : Level) (es later : List Entry) → AreToCome t later → bus_from w bus (es ++ later) t ≡ bus_from w bus es t
bus-before w t bus [] later come = bus-none w t bus later come
bus-before w t bus (e ∷ es) later come = bus-before w t (bus_with w bus e t) es later come

named-before : (w : Window) (t place : ℕ) (found : Option ℕ) (es later : List Entry) → AreToCome t later
    → named_from w t place found (es ++ later) ≡ named_from w t place found es
named-before w t place found [] later come = named-none w t place found later come
named-before w t place found (e ∷ es) later come = named-before w t (place + 1) (named_with w t place found e) es later come

name-before : (w : Window) (t place : ℕ) (es later : List Entry) (n : Option ℕ) → named_at w place es t ≡ n
    → name_of (named_entry place (es ++ later) n) ≡ name_of (named_entry place es n)
name-before w t place es later None is = refl
name-before w t place es later (Some k) is =
    let among = named-in w t place es k is in
    ap name_of (get-front es later (k - place) (omega (arith, among.from, among.below)))

change-before : (strings : Strings) (w : Window) (t place : ℕ) (es later : List Entry) (before n : Option ℕ) → named_at w place es t ≡ n
    → name_change strings place (es ++ later) before n ≡ name_change strings place es before n
change-before Shown w t place es later before n is =
    ap (λ (z : List ℕ). if is_same_place before n then [] else codes "s" ++ z ++ codes " s\n") (name-before w t place es later n is)
change-before LeftOut w t place es later before n is = refl

moment-before : (baud : ℕ) (strings : Strings) (w : Window) (place : ℕ) (es later : List Entry) (level : Level) (named : Option ℕ) (t : ℕ) → AreToCome t later
    → moment baud strings w place (es ++ later) level named t ≡ moment baud strings w place es level named t
moment-before baud strings w place es later level named t come =
    let all = es ++ later in
    ap (λ (z : List ℕ). stamped baud t (z ++ level_change level (bus_at w all t) ++ name_change strings place all named (named_at w place all t))) (lines-before w t es later come)
    ∙ ap (λ (l : Level). stamped baud t (flat_map (entry_change w t) es ++ level_change level l ++ name_change strings place all named (named_at w place all t)))
    (bus-before w t High es later come)
    ∙ ap (λ (n : Option ℕ). stamped baud t (flat_map (entry_change w t) es ++ level_change level (bus_at w es t) ++ name_change strings place all named n))
    (named-before w t place None es later come)
    ∙ ap (λ (z : List ℕ). stamped baud t (flat_map (entry_change w t) es ++ level_change level (bus_at w es t) ++ z))
    (change-before strings w t place es later named (named_at w place es t) refl)

-- the moments before one at which the others begin
abbrev IsBefore : (t n cut : ℕ) → Type 0
IsBefore t n cut = n ≤ cut - t

moments-before : (baud : ℕ) (strings : Strings) (w : Window) (place cut : ℕ) (es later : List Entry) (level : Level) (named : Option ℕ) (t n : ℕ)
    → are_since cut later ≡ true → IsBefore t n cut → moments baud strings w place (es ++ later) level named t n ≡ moments baud strings w place es level named t n
moments-before baud strings w place cut es later level named t zero since less = refl
moments-before baud strings w place cut es later level named t (suc n) since less =
    let all = es ++ later in
    let come = come-since t cut later (omega (arith, less)) since in
    ap (λ (z : List ℕ). z ++ moments baud strings w place all (bus_at w all t) (named_at w place all t) (t + 1) n) (moment-before baud strings w place es later level named t come)
    ∙ ap (λ (l : Level). moment baud strings w place es level named t ++ moments baud strings w place all l (named_at w place all t) (t + 1) n)
    (bus-before w t High es later come)
    ∙ ap (λ (o : Option ℕ). moment baud strings w place es level named t ++ moments baud strings w place all (bus_at w es t) o (t + 1) n) (named-before w t place None es later come)
    ∙ ap (λ (z : List ℕ). moment baud strings w place es level named t ++ z)
    (moments-before baud strings w place cut es later (bus_at w es t) (named_at w place es t) (t + 1) n since (omega (arith, less)))

level-before : (w : Window) (cut : ℕ) (es later : List Entry) (level : Level) (t n : ℕ) → are_since cut later ≡ true → IsBefore t n cut
    → level_behind w (es ++ later) level t n ≡ level_behind w es level t n
level-before w cut es later level t zero since less = refl
level-before w cut es later level t (suc n) since less =
    ap (λ (l : Level). level_behind w (es ++ later) l (t + 1) n)
    (bus-before w t High es later (come-since t cut later (omega (arith, less)) since))
    ∙ level-before w cut es later (bus_at w es t) (t + 1) n since (omega (arith, less))

named-behind-before : (w : Window) (place cut : ℕ) (es later : List Entry) (named : Option ℕ) (t n : ℕ) → are_since cut later ≡ true → IsBefore t n cut
    → named_behind w place (es ++ later) named t n ≡ named_behind w place es named t n
named-behind-before w place cut es later named t zero since less = refl
named-behind-before w place cut es later named t (suc n) since less =
    ap (λ (o : Option ℕ). named_behind w place (es ++ later) o (t + 1) n) (named-before w t place None es later (come-since t cut later (omega (arith, less)) since))
    ∙ named-behind-before w place cut es later (named_at w place es t) (t + 1) n since (omega (arith, less))

-- ---- the first moments, and the others

moments-both : (baud : ℕ) (strings : Strings) (w : Window) (place : ℕ) (es : List Entry) (level : Level) (named : Option ℕ) (t m n : ℕ)
    → moments baud strings w place es level named t (m + n)
    ≡ moments baud strings w place es level named t m ++ moments baud strings w place es (level_behind w es level t m) (named_behind w place es named t m) (t + m) n
moments-both baud strings w place es level named t zero n =
    let same : t ≡ t + zero = omega arith in
    let all : zero + n ≡ n = omega arith in
    ap (moments baud strings w place es level named t) all ∙ ap (λ (i : ℕ). moments baud strings w place es level named i n) same
moments-both baud strings w place es level named t (suc m) n =
    let bus = bus_at w es t in
    let name = named_at w place es t in
    let same : t + 1 + m ≡ t + suc m = omega arith in
    let rest = λ (i : ℕ). moments baud strings w place es (level_behind w es bus (t + 1) m) (named_behind w place es name (t + 1) m) i n in
    let one : suc m + n ≡ suc (m + n) = omega arith in
    ap (moments baud strings w place es level named t) one
    ∙ ap (λ (z : List ℕ). moment baud strings w place es level named t ++ z) (moments-both baud strings w place es bus name (t + 1) m n)
    ∙ sym (append_assoc (moment baud strings w place es level named t) (moments baud strings w place es bus name (t + 1) m) (rest (t + 1 + m)))
    ∙ ap (λ (i : ℕ). (moment baud strings w place es level named t ++ moments baud strings w place es bus name (t + 1) m) ++ rest i) same

-- ---- entries that are over

-- what is written of them, and how far the dump is then
pub record Writes (x : Dump) (old new : Waves) (es : List Entry) (before after : List ℕ) : Type 0 where
  pub end : ℕ
  pub ends : end ≡ min (latest_end 0 es) (min (last_end x.window old.last es) end_of_time + 1)
  pub text : after ≡ before ++ moments x.baud x.strings x.window old.gone es old.level old.named old.next (end - old.next)
  pub level : new.level ≡ level_behind x.window es old.level old.next (end - old.next)
  pub named : new.named ≡ named_behind x.window old.gone es old.named old.next (end - old.next)
  pub gone : new.gone ≡ min (old.gone + length es) most
  pub next : new.next ≡ max old.next end
  pub last : new.last ≡ last_end x.window old.last es

or_either : (a b : Bool) → (a || b) ≡ true → (a ≡ true) ⊎ (b ≡ true)
or_either true b is = inl refl
or_either false b is = inr is

-- either they are over by the next moment, or there is none
over-or-ended : (x : Dump) (old new : Waves) (es later : List Entry) (before after : List ℕ) → Writes x old new es before after → is_closed x.window old es ≡ true
    → are_since (latest_end 0 es) later ≡ true
    → (latest_end 0 es ≤ new.next) ⊎ (min end_of_time (last_end x.window new.last later) + 1 ≤ new.next)
over-or-ended x old new es later before after i closed since =
    let cut = latest_end 0 es in
    let last = last_end x.window old.last es in
    let whole = last_end x.window new.last later in
    let least : new.last ≤ whole = last-least x.window new.last later in
    by (or_either (nat_le cut last) (nat_lt x.window.until cut) (and_parts (nat_le (old.gone + length es) most) (nat_le cut last || nat_lt x.window.until cut) closed).1)
    (le-or-lt cut new.next) least
  where
    by : (nat_le (latest_end 0 es) (last_end x.window old.last es) ≡ true) ⊎ (nat_lt x.window.until (latest_end 0 es) ≡ true)
        → (latest_end 0 es ≤ new.next) ⊎ (new.next < latest_end 0 es) → new.last ≤ last_end x.window new.last later
        → (latest_end 0 es ≤ new.next) ⊎ (min end_of_time (last_end x.window new.last later) + 1 ≤ new.next)
    by shown (inl over) least = inl over
    by (inl shown) (inr far) least =
        let less = leb-true (latest_end 0 es) (last_end x.window old.last es) shown in
        inr (omega (arith, less, far, least, i.ends, i.next, i.last))
    by (inr unseen) (inr far) least =
        let same = last-unshown x.window (latest_end 0 es) new.last later (ltb-true x.window.until (latest_end 0 es) unseen) since in
        inr (omega (arith, same, far, i.ends, i.next, i.last))

written : (x : Dump) (old new : Waves) (es : List Entry) (before after : List ℕ) (i : Writes x old new es before after) → is_closed x.window old es ≡ true
    → (later : List Entry) → are_since (latest_end 0 es) later ≡ true
    → moments x.baud x.strings x.window old.gone es old.level old.named old.next (i.end - old.next) ++ waves_from x new later ≡ waves_from x old (es ++ later)
written x old new es before after i closed later since =
    let w = x.window in
    let cut = latest_end 0 es in
    let all = es ++ later in
    let place = old.gone in
    let m = i.end - old.next in
    let last = min end_of_time (last_end w new.last later) in
    let n = last + 1 - new.next in
    let least = last-least w new.last later in
    let few = leb-true (old.gone + length es) most (and_parts (nat_le (old.gone + length es) most) (nat_le cut (last_end w old.last es) || nat_lt w.until cut) closed).0 in
    let counted : m + n ≡ last + 1 - old.next = omega (arith, i.ends, i.next, i.last, least) in
    let there : old.next + m ≡ new.next = omega (arith, i.next) in
    let gone : place + length es ≡ new.gone = omega (arith, i.gone, few) in
    let below : m ≤ cut - old.next = omega (arith, i.ends) in
    let whole_last : min end_of_time (last_end w old.last all) ≡ last =
    ap (min end_of_time) (last-both w old.last es later) ∙ ap (λ (k : ℕ). min end_of_time (last_end w k later)) (sym i.last) in
    let tail : moments x.baud x.strings w place all new.level new.named new.next n ≡ moments x.baud x.strings w new.gone later new.level new.named new.next n =
    behind (over-or-ended x old new es later before after i closed since) n refl gone in
    let split : moments x.baud x.strings w place all old.level old.named old.next (m + n)
    ≡ moments x.baud x.strings w place es old.level old.named old.next m ++ moments x.baud x.strings w new.gone later new.level new.named new.next n =
    moments-both x.baud x.strings w place all old.level old.named old.next m n
    ∙ ap (λ (z : List ℕ). z ++ moments x.baud x.strings w place all (level_behind w all old.level old.next m) (named_behind w place all old.named old.next m) (old.next + m) n)
    (moments-before x.baud x.strings w place cut es later old.level old.named old.next m since below)
    ∙ ap (λ (z : List ℕ). moments x.baud x.strings w place es old.level old.named old.next m ++ z)
    (ap (λ (l : Level). moments x.baud x.strings w place all l (named_behind w place all old.named old.next m) (old.next + m) n)
    (level-before w cut es later old.level old.next m since below ∙ sym i.level)
    ∙ ap (λ (o : Option ℕ). moments x.baud x.strings w place all new.level o (old.next + m) n)
    (named-behind-before w place cut es later old.named old.next m since below ∙ sym i.named)
    ∙ ap (λ (k : ℕ). moments x.baud x.strings w place all new.level new.named k n) there
    ∙ tail) in
    let mine = moments x.baud x.strings w place es old.level old.named old.next m in
    let others = moments x.baud x.strings w new.gone later new.level new.named new.next n in
    let ended = stamp x.baud last in
    sym (append_assoc mine others ended) ∙ ap (λ (z : List ℕ). z ++ ended) (sym split)
    ∙ ap (λ (k : ℕ). moments x.baud x.strings w place all old.level old.named old.next k ++ ended) counted
    ∙ ap (λ (k : ℕ). moments x.baud x.strings w place all old.level old.named old.next (k + 1 - old.next) ++ stamp x.baud k) (sym whole_last)
  where
    behind : (latest_end 0 es ≤ new.next) ⊎ (min end_of_time (last_end x.window new.last later) + 1 ≤ new.next) → (n : ℕ)
        → min end_of_time (last_end x.window new.last later) + 1 - new.next ≡ n → old.gone + length es ≡ new.gone
        → moments x.baud x.strings x.window old.gone (es ++ later) new.level new.named new.next n
        ≡ moments x.baud x.strings x.window new.gone later new.level new.named new.next n
    behind (inl over) n is gone =
        moments-behind x.baud x.strings x.window old.gone es later new.level new.named new.next n (over-by new.next 0 es over)
        ∙ ap (λ (p : ℕ). moments x.baud x.strings x.window p later new.level new.named new.next n) gone
    behind (inr past) zero is gone = refl
    behind (inr past) (suc n) is gone = absurd (omega (arith, past, is))

pub goes-on : (x : Dump) (old new : Waves) (es : List Entry) (before after : List ℕ) → Writes x old new es before after → GoesOn x old new es before after
goes-on x old new es before after i = record {
  text = moments x.baud x.strings x.window old.gone es old.level old.named old.next (i.end - old.next);
  bytes = i.text;
  rest = λ closed later since. written x old new es before after i closed later since;
}

-- ---- a dump of which nothing is written

pub begun-waves : (x : Dump) (until : ℕ) (d : Waves) (es : List Entry) → IsBegun x.window until d → waves_from x d es ≡ vcd_body x.baud x.strings x.window until es
begun-waves x until d es is =
    let w = x.window in
    let text = λ (gone : ℕ) (level : Level) (named : Option ℕ) (next last : ℕ).
    moments x.baud x.strings w gone es level named next (min end_of_time (last_end w last es) + 1 - next) ++ stamp x.baud (min end_of_time (last_end w last es)) in
    ap (λ (n : ℕ). text n d.level d.named d.next d.last) is.gone
    ∙ ap (λ (l : Level). text 0 l d.named d.next d.last) is.level
    ∙ ap (λ (o : Option ℕ). text 0 High o d.next d.last) is.named
    ∙ ap (λ (n : ℕ). text 0 High None n d.last) is.next
    ∙ ap (λ (n : ℕ). text 0 High None w.from n) is.last
