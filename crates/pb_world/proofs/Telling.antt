-- What is kept of the requests that stations execute.
use Rattle.std.proofs.Common.{◌≡◌, ◌∙◌, ap, sym, subst, refl, ℕ, ◌==◌, List, [], ◌∷◌, ◌++◌, append_assoc, append-nil, map, Bool, true, false, if◌then◌else◌, Option, Some, None}
use Rattle.std.specs.Prelude.{is_some, slice_get}
use Rattle.std.specs.Option.{option_map}
use Rattle.std.proofs.lemmas.Bool.{eqb-true, eq-eqb}
use Rattle.std.proofs.lemmas.Option.{slice_get-map}
use Rattle.pb_timers.specs.Timers.{Params}
use Rattle.law_model.specs.World.{World, Event, Turn}
use Rattle.law_model.specs.Step.{step, RunsTo}
use Rattle.pb_station.specs.Indications.{IndicationFields, indications_of}
use Rattle.pb_taps.specs.Taps.{tap_of, seat_of, AreSeated}
use Rattle.pb_taps.specs.declared.taps.Tap.{Tap}
use Rattle.pb_taps.specs.declared.events.Event as taps
use Rattle.pb_taps.specs.declared.events.Event.TheVariants as event
use Rattle.pb_taps.specs.Events.{event_of}
use Rattle.pb_taps.proofs.Seats.{seat-of-tap}
use Rattle.pb_world.specs.Told.{Executed, ToldView, executed_by, executed_by_tap, executed_in, executes, left_by, tray_at, tray_in, tray_with, with_more, with_one}
use Rattle.pb_world.specs.Watched.{world_in}
use Rattle.pb_world.specs.declared.watched.Watched.{Watched}

-- ---- trays

pub tray-none : (t : Option Executed) → tray_with [] t ≡ t
tray-none None = refl
tray-none (Some kept) = refl

more-append : (xs ys : List IndicationFields) (kept : Executed) → with_more (xs ++ ys) kept ≡ with_more ys (with_more xs kept)
more-append [] ys kept = refl
more-append (x ∷ xs) ys kept = more-append xs ys (with_one kept x)

tray-append : (xs ys : List IndicationFields) (t : Option Executed) → tray_with (xs ++ ys) t ≡ tray_with ys (tray_with xs t)
tray-append xs ys None = refl
tray-append xs ys (Some kept) = ap (λ (k : Executed). Some k) (more-append xs ys kept)

-- ---- events

executed-append : (w mid : World) (es fs : List Event) (k : ℕ) → RunsTo w es mid → executed_by w (es ++ fs) k ≡ executed_by w es k ++ executed_by mid fs k
executed-append w mid [] fs k runs = ap (λ (x : World). executed_by x fs k) runs
executed-append w mid (e ∷ es) fs k (between, reply, ok, runs) =
    let left : left_by w (step w e) ≡ between = ap (left_by w) ok in
    ap (λ xs. executed_in w e k ++ xs) (executed-append (left_by w (step w e)) mid es fs k (subst (λ (x : World). RunsTo x es mid) (sym left) runs))
    ∙ sym (append_assoc (executed_in w e k) (executed_by (left_by w (step w e)) es k) (executed_by mid fs k))

-- what is kept after events is that after the first of them, and then the others
pub told-join : (a b c : Watched) (xs ys : List Event) → RunsTo (world_in a) xs (world_in b)
    → ((k : ℕ) → tray_at b.told k ≡ tray_with (executed_by (world_in a) xs k) (tray_at a.told k))
    → ((k : ℕ) → tray_at c.told k ≡ tray_with (executed_by (world_in b) ys k) (tray_at b.told k))
    → (k : ℕ) → tray_at c.told k ≡ tray_with (executed_by (world_in a) (xs ++ ys) k) (tray_at a.told k)
told-join a b c xs ys runs one two k =
    two k ∙ ap (tray_with (executed_by (world_in b) ys k)) (one k)
    ∙ sym (tray-append (executed_by (world_in a) xs k) (executed_by (world_in b) ys k) (tray_at a.told k))
    ∙ ap (λ more. tray_with more (tray_at a.told k)) (sym (executed-append (world_in a) (world_in b) xs ys k runs))

-- ---- an event

-- nothing that is asked for is executed in an event
abbrev pub IsUntold : World → ToldView → Event → Type 0
IsUntold w told e = (k : ℕ) → tray_with (executed_in w e k) (tray_at told k) ≡ tray_at told k

not_kept : (more : List IndicationFields) (t : Option Executed) → is_some t ≡ false → tray_with more t ≡ t
not_kept more None none = refl
not_kept more (Some kept) none = let wrong : true ≡ false = none in cc

pub turn-untold : (w : World) (told : ToldView) (tap : ℕ) → is_some (tray_at told tap) ≡ false → IsUntold w told (Turn tap)
turn-untold w told tap none k = by (tap == k) refl
  where
    by : (b : Bool) → (tap == k) ≡ b → tray_with (if b then executes w.params (slice_get w.taps tap) else []) (tray_at told k) ≡ tray_at told k
    by true e = not_kept (executes w.params (slice_get w.taps tap)) (tray_at told k) (subst (λ (n : ℕ). is_some (tray_at told n) ≡ false) (eqb-true tap k e) none)
    by false e = tray-none (tray_at told k)

-- only the turn of a tap that is asked for is told
pub untold : (w : World) (told : ToldView) (e : taps.Event) → ((tap : ℕ) → e ≡ event.Turn tap → is_some (tray_at told tap) ≡ false) → IsUntold w told (event_of e)
untold w told (event.Turn tap) none k = turn-untold w told tap (none tap refl) k
untold w told (event.Pass bits) none k = tray-none (tray_at told k)
untold w told (event.Damage tap speaker place) none k = tray-none (tray_at told k)
untold w told (event.Start tap) none k = tray-none (tray_at told k)
untold w told (event.Stop tap) none k = tray-none (tray_at told k)
untold w told (event.Noise bits) none k = tray-none (tray_at told k)
untold w told (event.Queue tap request) none k = tray-none (tray_at told k)
untold w told (event.Unheard tap speaker) none k = tray-none (tray_at told k)

pub one-told : (w : World) (told : ToldView) (e : Event) → IsUntold w told e → (k : ℕ) → tray_at told k ≡ tray_with (executed_by w (e ∷ []) k) (tray_at told k)
one-told w told e none k = sym (none k) ∙ ap (λ more. tray_with more (tray_at told k)) (sym (append-nil (executed_in w e k)))

-- the requests of a tap's station, by the parameters of its bus
pub read-by : (p : Params) (ts : List Tap) (tap : ℕ) → AreSeated p 0 (map seat_of ts) → executed_by_tap (slice_get ts tap) ≡ executes p (slice_get (map tap_of ts) tap)
read-by p ts tap seated = by (slice_get ts tap) refl ∙ ap (executes p) (sym (slice_get-map tap_of ts tap))
  where
    by : (t : Option Tap) → slice_get ts tap ≡ t → executed_by_tap t ≡ executes p (option_map tap_of t)
    by None at = refl
    by (Some t) at = ap (λ seat. indications_of seat.params t.station.station t.marks) (seat-of-tap p ts tap t seated at)

-- a turn that is told: what was read before it is kept
pub turn-told : (w : World) (old read new : ToldView) (tap : ℕ) → read.trays ≡ old.trays → read.news ≡ executes w.params (slice_get w.taps tap)
    → ((k : ℕ) → tray_at new k ≡ (if k == tap then tray_with read.news (tray_at read k) else tray_at read k))
    → (k : ℕ) → tray_at new k ≡ tray_with (executed_by w (Turn tap ∷ []) k) (tray_at old k)
turn-told w old read new tap same is noted k =
    subst (λ ts. tray_at new k ≡ (if k == tap then tray_with read.news (tray_in (slice_get ts k)) else tray_in (slice_get ts k))) same (noted k)
    ∙ by (k == tap) (tap == k) refl refl ∙ ap (λ more. tray_with more (tray_at old k)) (sym (append-nil (executed_in w (Turn tap) k)))
  where
    by : (b d : Bool) → (k == tap) ≡ b → (tap == k) ≡ d
        → (if b then tray_with read.news (tray_at old k) else tray_at old k) ≡ tray_with (if d then executes w.params (slice_get w.taps tap) else []) (tray_at old k)
    by true true e f = ap (λ more. tray_with more (tray_at old k)) is
    by false false e f = sym (tray-none (tray_at old k))
    by true false e f = absurd (let wrong : true ≡ false = sym (eq-eqb tap k (sym (eqb-true k tap e))) ∙ f in cc)
    by false true e f = absurd (let wrong : true ≡ false = sym (eq-eqb k tap (sym (eqb-true tap k f))) ∙ e in cc)
