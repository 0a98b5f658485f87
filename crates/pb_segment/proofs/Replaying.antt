-- Histories that grow at their end.
use Rattle.std.proofs.Common.{◌≡◌, ℕ, ◌+◌, ◌<◌, ◌≤◌, Bool, true, false, List, [], ◌∷◌, ◌++◌, length, map, take, Ok, refl, ap, sym, ◌∙◌, subst, arith, if◌then◌else◌, nat_lt, replicate}
use Rattle.std.specs.Prelude.{slice_index, slice_set}
use Rattle.std.proofs.lemmas.Grind.{common_steps, elements}
use Rattle.std.proofs.lemmas.Bool.Decides.{nat_tests}
use Rattle.std.proofs.lemmas.List.{length-set, append-nil, length-replicate, get_or-replicate, length-map}
use Rattle.std.proofs.lemmas.List.Elements.{All-weaker, All-push, All-nil}
use Rattle.law_model.specs.Medium.{TapSpec}
use Rattle.law_model.specs.World.{World, Event, Turn, Pass, Damage, Start, Stop, Queue, Noise, Unheard}
use Rattle.law_model.specs.Step.{step, RunsTo}
use Rattle.law_model.specs.Trace.{Entry}
use Rattle.law_runs.specs.Headline.{specs_of}
use Rattle.law_live.specs.Promises.{KeepsPromises, LeadOn, LeadTo}
use Rattle.law_token.proofs.whole.JoinedRuns.{runs_same}
use Rattle.law_live.proofs.Promising.{kept_promises}
use Rattle.law_token.proofs.whole.Stays.{same_bus}
use Rattle.pb_segment.specs.declared.outlooks.Outlook.{Outlook}
use Rattle.pb_segment.specs.Counts.{counted, counted_drives}
use Rattle.pb_segment.specs.Histories.{Happened, Receipt, Replays, events_in, is_turn_of, is_driven, told_if, told_from, told}
use Rattle.pb_segment.specs.Locked.{LockedView, IsKept, AreCounts, view_of}
use Rattle.pb_segment.specs.Origins.{Origin, IsMadeOf, IsNew}
use Rattle.pb_segment.specs.Reports.{IsReport, report_of}
use Rattle.pb_segment.specs.Outlooks.{IsOutlookOf, AreOutlooksOf, ShowsWorld}
use Rattle.pb_segment.proofs.NewWorlds.{made_specs}

-- ---- replay

pub replays_push : (hs : List Happened) (h : Happened) (w v u : World) → Replays w hs v → step v h.event ≡ Ok (u, h.reply) → Replays w (hs ++ h ∷ []) u
unfolding Replays
replays_push [] h w v u run ok = (u, ap (λ (x : World). step x h.event) run ∙ ok, refl)
replays_push (x ∷ hs) h w v u run ok = (run.0, run.1, replays_push hs h run.0 v u run.2 ok)

pub replays_runs : (hs : List Happened) (w v : World) → Replays w hs v → RunsTo w (map (λ (h : Happened). h.event) hs) v
unfolding Replays
replays_runs [] w v run = run
replays_runs (h ∷ hs) w v run = (run.0, h.reply, run.1, replays_runs hs run.0 v run.2)

events_push : (hs : List Happened) (h : Happened) → events_in (hs ++ h ∷ []) ≡ events_in hs ++ h.event ∷ []
events_push [] h = refl
events_push (x ∷ hs) h = ap (λ (es : List Event). x.event ∷ es) (events_push hs h)

-- what events lead on to keeps the promises of all events so far
led_push : (first w u : World) (hs : List Happened) (h : Happened) → LeadTo first (events_in hs) w → LeadOn w (h.event ∷ []) u
    → LeadTo first (events_in (hs ++ h ∷ [])) u × KeepsPromises first (events_in (hs ++ h ∷ [])) u
led_push first w u hs h lead on =
    subst (λ (es : List Event). LeadTo first es u × KeepsPromises first es u) (sym (events_push hs h)) (on first (events_in hs) lead)

pub replay_specs : (hs : List Happened) (w v : World) → Replays w hs v → specs_of v ≡ specs_of w
replay_specs hs w v run = (runs_same (map (λ (h : Happened). h.event) hs) w v (replays_runs hs w v run)).specs

-- ---- how many taps there are

pub taps_length : (w v : World) → specs_of v ≡ specs_of w → length v.taps ≡ length w.taps
taps_length w v same = sym (length-map v.taps _) ∙ ap (λ (l : List TapSpec). length l) same ∙ length-map w.taps _

pub taps_of_origin : (o : Origin) (hs : List Happened) (first w : World) → IsMadeOf o first → Replays first hs w → length w.taps ≡ length o.specs
taps_of_origin o hs first w made run = sym (length-map w.taps _) ∙ ap (λ (l : List TapSpec). length l) (replay_specs hs first w run ∙ made_specs o first made)

-- ---- what seats are told

told_front : (b : Bool) (r : Receipt) (xs ys zs : List Receipt) → xs ≡ ys ++ zs → told_if b r xs ≡ told_if b r ys ++ zs
told_front true r xs ys zs h = ap (λ (l : List Receipt). r ∷ l) h
told_front false r xs ys zs h = h

pub told_push : (is : Event → Bool) (k : ℕ) (hs : List Happened) (h : Happened) → told_from is k (hs ++ h ∷ []) ≡ told_from is k hs ++ told_from is (k + length hs) (h ∷ [])
unfolding told_from
told_push is k [] h = let same : k ≡ k + length {A = Happened} [] = omega arith in ap (λ (n : ℕ). told_from is n (h ∷ [])) same
told_push is k (x ∷ hs) h =
    let shift : (k + 1) + length hs ≡ k + length (x ∷ hs) = omega arith in
    let one = told_front (is x.event) (record { place = k; reply = x.reply }) (told_from is (k + 1) (hs ++ h ∷ [])) (told_from is (k + 1) hs) (told_from is ((k + 1) + length hs) (h ∷ [])) (told_push is (k + 1) hs h) in
    one ∙ ap (λ (n : ℕ). told_from is k (x ∷ hs) ++ told_from is n (h ∷ [])) shift

if_length : (b : Bool) (r : Receipt) (xs : List Receipt) (n : ℕ) → length xs ≤ n → length (told_if b r xs) ≤ n + 1
if_length true r xs n h = omega arith
if_length false r xs n h = omega arith

pub told_length : (is : Event → Bool) (k : ℕ) (hs : List Happened) → length (told_from is k hs) ≤ length hs
unfolding told_from
told_length is k [] = omega arith
told_length is k (x ∷ hs) = let t = if_length (is x.event) (record { place = k; reply = x.reply }) (told_from is (k + 1) hs) (length hs) (told_length is (k + 1) hs) in omega arith

one_more : (b : Bool) (r : Receipt) (xs : List Receipt) → length (xs ++ told_if b r []) ≡ length xs + (if b then 1 else 0)
one_more true r xs = grind (arith, common_steps)
one_more false r xs = ap (λ (l : List Receipt). length l) (append-nil xs) ∙ omega arith

one_told : (is : Event → Bool) (hs : List Happened) (h : Happened) → length (told is (hs ++ h ∷ [])) ≡ length (told is hs) + (if is h.event then 1 else 0)
unfolding told_from
one_told is hs h = ap (λ (rs : List Receipt). length rs) (told_push is 0 hs h) ∙ one_more (is h.event) _ (told_from is 0 hs)

-- ---- counts

counted_if : (turns : List ℕ) (tap : ℕ) (b : Bool) → length (if b then slice_set turns tap (slice_index turns tap + 1) else turns) ≡ length turns
counted_if turns tap true = length-set turns tap _
counted_if turns tap false = refl

pub counted_length : (turns : List ℕ) (e : Event) → length (counted turns e) ≡ length turns
counted_length turns (Turn tap) = counted_if turns tap (nat_lt tap (length turns))
counted_length turns (Pass bits) = refl
counted_length turns (Damage tap speaker place) = refl
counted_length turns (Start tap) = refl
counted_length turns (Stop tap) = refl
counted_length turns (Queue tap request) = refl
counted_length turns (Noise bits) = refl
counted_length turns (Unheard tap speaker) = refl

counted_here : (turns : List ℕ) (e : Event) (i : ℕ) → i < length turns → slice_index (counted turns e) i ≡ slice_index turns i + (if is_turn_of i e then 1 else 0)
counted_here turns (Turn tap) i h = grind (arith, nat_tests, elements)
counted_here turns (Pass bits) i h = omega arith
counted_here turns (Damage tap speaker place) i h = omega arith
counted_here turns (Start tap) i h = omega arith
counted_here turns (Stop tap) i h = omega arith
counted_here turns (Queue tap request) i h = omega arith
counted_here turns (Noise bits) i h = omega arith
counted_here turns (Unheard tap speaker) i h = omega arith

counted_driven : (drives : ℕ) (e : Event) → counted_drives drives e ≡ drives + (if is_driven e then 1 else 0)
counted_driven drives (Turn tap) = omega arith
counted_driven drives (Pass bits) = refl
counted_driven drives (Damage tap speaker place) = refl
counted_driven drives (Start tap) = refl
counted_driven drives (Stop tap) = refl
counted_driven drives (Queue tap request) = refl
counted_driven drives (Noise bits) = refl
counted_driven drives (Unheard tap speaker) = refl

pub counts_push : (hs : List Happened) (turns : List ℕ) (drives : ℕ) (h : Happened) → AreCounts hs turns drives → AreCounts (hs ++ h ∷ []) (counted turns h.event) (counted_drives drives h.event)
counts_push hs turns drives h c = record {
  turns = λ i small.
      let inside : i < length turns = omega (arith, counted_length turns h.event, small) in
      counted_here turns h.event i inside ∙ ap (λ (n : ℕ). n + (if is_turn_of i h.event then 1 else 0)) (c.turns i inside) ∙ sym (one_told (is_turn_of i) hs h);
  drives = counted_driven drives h.event ∙ ap (λ (n : ℕ). n + (if is_driven h.event then 1 else 0)) c.drives ∙ sym (one_told is_driven hs h);
}

-- what counting needs
pub counts_small : (l : LockedView) → IsKept l → length l.history < l.limit → (tap : ℕ) → tap < length l.turns → slice_index l.turns tap < 1000000
counts_small l k room tap small = omega (arith, k.counts.turns tap small, told_length (is_turn_of tap) 0 l.history, k.limit, room)

pub drives_small : (l : LockedView) → IsKept l → length l.history < l.limit → l.drives < 1000000
drives_small l k room = omega (arith, k.counts.drives, told_length is_driven 0 l.history, k.limit, room)

-- ---- outlooks

one_longer : (first : World) (hs more : List Happened) (o : Outlook) → IsOutlookOf first hs o → IsOutlookOf first (hs ++ more) o
one_longer first hs more o one =
    let bound : o.place ≤ length hs = one.place in
    let front : take o.place (hs ++ more) ≡ take o.place hs = grind (arith, common_steps) in
    record {
      place = grind (arith, common_steps);
      world = one.world;
      replays = subst (λ (es : List Happened). Replays first es one.world) (sym front) one.replays;
      shows = one.shows;
    }

outlooks_longer : (first : World) (hs more : List Happened) (os : List Outlook) → AreOutlooksOf first hs os → AreOutlooksOf first (hs ++ more) os
outlooks_longer first hs more os all = All-weaker (IsOutlookOf first hs) (IsOutlookOf first (hs ++ more)) (one_longer first hs more) os all

-- ---- the locked state

pub kept_push : (l : LockedView) (h : Happened) (u : World) → IsKept l → length l.history < l.limit → step l.world h.event ≡ Ok (u, h.reply) → LeadOn l.world (h.event ∷ []) u
    → IsKept (view_of u l.origin (l.history ++ h ∷ []) (counted l.turns h.event) (counted_drives l.drives h.event) l.outlooks l.limit)
kept_push l h u k room ok on = record {
  first = k.first;
  made = k.made;
  replays = replays_push l.history h k.first l.world u k.replays ok;
  lead = (led_push k.first l.world u l.history h k.lead on).0;
  promises = (led_push k.first l.world u l.history h k.lead on).1;
  taps = taps_length l.world u (same_bus l.world u h.event h.reply ok).specs ∙ k.taps ∙ sym (counted_length l.turns h.event);
  counts = counts_push l.history l.turns l.drives h k.counts;
  outlooks = outlooks_longer k.first l.history (h ∷ []) l.outlooks k.outlooks;
  room = grind (arith, common_steps);
  limit = k.limit;
}

pub kept_look : (l : LockedView) (o : Outlook) → IsKept l → o.place ≡ length l.history → ShowsWorld l.world o
    → IsKept (view_of l.world l.origin l.history l.turns l.drives (l.outlooks ++ o ∷ []) l.limit)
kept_look l o k place shows =
    let all : take o.place l.history ≡ l.history = grind (arith, common_steps) in
    record {
      first = k.first;
      made = k.made;
      replays = k.replays;
      lead = k.lead;
      promises = k.promises;
      taps = k.taps;
      counts = k.counts;
      outlooks = All-push (IsOutlookOf k.first l.history) l.outlooks o k.outlooks (record {
        place = omega (arith, place);
        world = l.world;
        replays = subst (λ (es : List Happened). Replays k.first es l.world) (sym all) k.replays;
        shows = shows;
      });
      room = k.room;
      limit = k.limit;
    }

pub kept_new : (o : Origin) (w : World) (turns : List ℕ) (limit : ℕ) → IsMadeOf o w → IsNew w → turns ≡ replicate (length w.taps) 0 → limit ≤ 1000000 → IsKept (view_of w o [] turns 0 [] limit)
unfolding Replays told_from
kept_new o w turns limit made new zeros bound =
    let len : length turns ≡ length w.taps = ap (λ (l : List ℕ). length l) zeros ∙ length-replicate (length w.taps) 0 in
    record {
      first = w;
      made = made;
      replays = refl;
      lead = new.0;
      promises = kept_promises w w [] new.0;
      taps = sym len;
      counts = record {
        turns = λ i small. let inside : i < length w.taps = omega (arith, len, small) in ap (λ (l : List ℕ). slice_index l i) zeros ∙ get_or-replicate (length w.taps) i 0 0 inside;
        drives = refl;
      };
      outlooks = All-nil (IsOutlookOf w []);
      room = omega arith;
      limit = bound;
    }

-- what has happened can be told
pub kept_report : (l : LockedView) (trace : List Entry) → IsKept l → trace ≡ l.world.trace → IsReport (report_of l.origin trace l.history l.turns l.outlooks)
kept_report l trace k same = record {
  first = k.first;
  last = l.world;
  made = k.made;
  replays = k.replays;
  trace = same;
  lead = k.lead;
  promises = k.promises;
  taps = sym k.taps ∙ taps_of_origin l.origin l.history k.first l.world k.made k.replays;
  turns = k.counts.turns;
  outlooks = k.outlooks;
}
