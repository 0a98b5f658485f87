-- Along all actions, a tap's tape is of what it has heard since its start.
use Rattle.std.proofs.Common.{◌≡◌, ℕ, ◌+◌, ◌<◌, Bool, true, false, if◌then◌else◌, not, ◌==◌, ◌&&◌, ◌||◌, List, [], ◌∷◌, length, map, refl, sym, ap, ◌∙◌, subst, arith, Option, Some, None, Ok}
use Rattle.std.specs.Prelude.{slice_get, slice_set, nat_le, find, is_some, is_none}
use Rattle.std.specs.List.{list_any}
use Rattle.std.proofs.lemmas.Bool.{eqb-false, eq-eqb, ne_eqb}
use Rattle.pb_timers.specs.Timers.{Params}
use Rattle.law_turn.specs.Spans.{Span}
use Rattle.law_turn.specs.Stations.{pushed, list_for}
use Rattle.law_turn.specs.Turns.{turn_of}
use Rattle.law_model.specs.Trace as trace
use Rattle.law_model.specs.Trace.{Hit, Entry, Sent, cut_at, is_noise_at, noisy_until, begins_from, unheard_at}
use Rattle.law_model.specs.Medium.{TapSpec, Tap, marks_between, entry_at}
use Rattle.law_model.specs.World as world
use Rattle.law_model.specs.World.{World, Event, Turn, Pass, Damage, Start, Stop, Queue, Noise, Unheard, Reply, Fault, NoSuchTap, Running, NotRunning, NothingInAir, ZeroTime, QueueFull, TraceFull, queue_limit, is_in_air_by, stopped_tap, new_faults, IsNewWorld}
use Rattle.law_model.specs.Step.{sending, with_said, step_turn, told, pass_faults, with_hit, change_first, has_place, started_tap, step_start, halted, step_stop, step_queue, with_noise, is_noisy, world_after, step}
use Rattle.law_model.specs.Laws.{IsSound, AllFit, IsEvent}
use Rattle.law_model.proofs.Worlds.{unless-Ok, sound-step, sound-new_world}
use Rattle.law_turn.specs.Laws.{Fits}
use Rattle.law_token.specs.Actions.{Action, Happens, Sets, AreActions, LeadsTo}
use Rattle.law_token.specs.Data.{tap_with, set_data}
use Rattle.law_token.specs.Invariant.{Settled}
use Rattle.law_token.specs.Lists.{Each}
use Rattle.law_token.proofs.air.FreshTap.{span_new}
use Rattle.law_token.proofs.bus.Hearers.{new_over}
use Rattle.law_token.proofs.bus.Lists.{each_all, at_set}
use Rattle.law_token.proofs.pass.AllTaps.{told_at}
use Rattle.law_token.proofs.pass.Brings.{solid_sensed}
use Rattle.law_token.proofs.quiet.Watched.{each_long}
use Rattle.law_token.proofs.replies.Actions.{data_stations}
use Rattle.law_token.proofs.replies.Kept.{is_set, data_settled}
use Rattle.law_token.proofs.replies.Sound.{data_sound}
use Rattle.law_token.proofs.whole.Stays.{same_bus, settled_new, settled_step}
use Rattle.law_monitor.specs.Taps.{Tape, blank, noted_all, marks_told, taped}
use Rattle.law_monitor.specs.Actions.{data_after, taped_all_by}
use Rattle.law_monitor.proofs.sources.Entries.{step_entries}
use Rattle.law_monitor.proofs.hearing.Ears.{Ear, at_ear, IsClearAt, same_with}
use Rattle.law_monitor.proofs.hearing.Kept.{same_hit, same_noisy, same_cut, same_relabelled, same_lost, new_sent, new_noise}
use Rattle.law_monitor.proofs.hearing.Passes.{pass_hearing}
use Rattle.law_monitor.proofs.hearing.Spelled.{SpellsOne, lasting_spelled, said_spells}
use Rattle.law_monitor.proofs.hearing.Tapes.{Hearing, hearing_same}
use Rattle.law_token.proofs.bus.NewWorlds.{none_run}

abbrev pub ear : Params → ℕ → Tap → Ear
ear p tap t = record { delay = p.ttd; tap = tap; since = t.since }

-- what the tap, if it runs, has heard is on the tape
abbrev pub HearsAt : ℕ → Tape → World → Type 0
HearsAt tap tape w = (t : Tap) → slice_get w.taps tap ≡ Some t → t.running ≡ true → Hearing (ear w.params tap t) w.now w.trace tape

pub record Taped (w : World) (tap : ℕ) (tape : Tape) : Type 0 where
  pub settled : Settled w
  pub sound : IsSound w
  pub spelled : Each SpellsOne w.trace
  pub hears : HearsAt tap tape w

-- ---- an event

made : (tap : ℕ) (tape : Tape) (tests : List (Bool × Fault)) (made next : World) (say reply : Reply) → world.unless {X = World × Reply} tests (made, say) ≡ Ok (next, reply) → HearsAt tap tape made → HearsAt tap tape next
made tap tape tests m next say reply ok h = subst (HearsAt tap tape) (ap (λ (z : World × Reply). z.0) (unless-Ok tests (m, say) (next, reply) ok).1) h

-- a tap, where it is the one that listens
abbrev HearsIf : Params → (tap now : ℕ) → List Entry → Tape → ℕ → Tap → Type 0
HearsIf p tap now es tape j u = j ≡ tap → u.running ≡ true → Hearing (ear p j u) now es tape

-- where one tap becomes another
set_hears : (w : World) (tap k : ℕ) (y : Tap) (es : List Entry) (tape : Tape) → HearsIf w.params tap w.now es tape k y
    → ((j : ℕ) (u : Tap) → (k ≡ j → ⊥) → slice_get w.taps j ≡ Some u → HearsIf w.params tap w.now es tape j u) → HearsAt tap tape (record w { trace = es; taps = slice_set w.taps k y })
set_hears w tap k y es tape here others t at run = at_set (HearsIf w.params tap w.now es tape) w.taps k y here others tap t at refl run

of_tap : (w : World) (tap : ℕ) (es : List Entry) (tape : Tape) → ((t : Tap) → slice_get w.taps tap ≡ Some t → t.running ≡ true → Hearing (ear w.params tap t) w.now es tape)
    → (j : ℕ) (u : Tap) → slice_get w.taps j ≡ Some u → HearsIf w.params tap w.now es tape j u
of_tap w tap es tape h j u at mine run =
    subst (λ n. Hearing (ear w.params n u) w.now es tape) (sym mine) (h u (subst (λ n. slice_get w.taps n ≡ Some u) mine at) run)

said_hears : (w : World) (tap k : ℕ) (o : Option (List ℕ)) (tape : Tape) → HearsAt tap tape w → (t : Tap) → slice_get w.taps tap ≡ Some t → t.running ≡ true → Hearing (ear w.params tap t) w.now (with_said k o w.now w.taps w.trace) tape
said_hears w tap k None tape h t at run = h t at run
said_hears w tap k (Some octets) tape h t at run =
    let r = sending k octets w.now w.taps in
    hearing_same (ear w.params tap t) w.now w.trace _ tape (same_with (ear w.params tap t) w.now (Sent r) w.trace (new_sent (ear w.params tap t) w.now r (omega arith))) (h t at run)

-- a tap that starts has heard nothing
started_hears : (w : World) (tap : ℕ) (t : Tap) → Hearing (ear w.params tap (started_tap w tap t)) w.now w.trace blank
started_hears w tap t = record {
  began = omega arith;
  q = w.now;
  late = omega arith;
  chain = refl;
  open_since = each_all (IsClearAt (ear w.params tap (started_tap w tap t)) w.now w.now) w.trace (λ e. new_over w.now w.now (at_ear (ear w.params tap (started_tap w tap t)) e) (span_new w.params.ttd tap w.now e));
}

noise_hears : (w : World) (tap bits : ℕ) (noisy : Bool) (tape : Tape) → HearsAt tap tape w → (t : Tap) → slice_get w.taps tap ≡ Some t → t.running ≡ true → Hearing (ear w.params tap t) w.now (with_noise w.now (w.now + bits) noisy w.trace) tape
noise_hears w tap bits true tape h t at run =
    let o = h t at run in hearing_same (ear w.params tap t) w.now w.trace _ tape (same_noisy (ear w.params tap t) w.now (w.now + bits) w.trace o.began) o
noise_hears w tap bits false tape h t at run =
    let span : Span = record { begin = w.now; end = w.now + bits } in
    hearing_same (ear w.params tap t) w.now w.trace _ tape (same_with (ear w.params tap t) w.now (trace.Noise span) w.trace (new_noise (ear w.params tap t) w.now span (omega arith))) (h t at run)

step_hears : (w next : World) (tap : ℕ) (tape : Tape) (e : Event) (reply : Reply) → step w e ≡ Ok (next, reply) → Taped w tap tape → HearsAt tap (taped tap w tape e) next
step_hears w next tap tape (Turn k) reply ok h = by (slice_get w.taps k) refl ok
  where
    by : (o : Option Tap) → slice_get w.taps k ≡ o → step_turn w k o ≡ Ok (next, reply) → HearsAt tap tape next
    by None at ok = absurd cc
    by (Some t) at ok =
        let turn = turn_of w.params t.station t.marks w.now in
        let y : Tap = record t { station = turn.0; marks = [] } in
        let es = with_said k turn.1 w.now w.taps w.trace in
        made tap tape ((not t.running, NotRunning) ∷ (is_some turn.1 && nat_le w.limit (length w.trace), TraceFull) ∷ []) (record w { trace = es; taps = slice_set w.taps k y }) next (record { now = w.now; spoke = turn.1 }) reply ok
        (set_hears w tap k y es tape
        (λ mine run. of_tap w tap es tape (said_hears w tap k turn.1 tape h.hears) k t at mine run)
        (λ j u ne there. of_tap w tap es tape (said_hears w tap k turn.1 tape h.hears) j u there))
step_hears w next tap tape (Pass bits) reply ok h =
    let to = w.now + bits in
    let taps = told w.params.ttd w.trace w.now to 0 w.taps in
    let es = map (entry_at w.params.ttd w.taps w.trace w.now to) w.trace in
    let moved : World = record w { now = to; taps = taps; trace = es } in
    let both = unless-Ok (pass_faults w bits taps) (moved, record { now = to; spoke = None }) (next, reply) ok in
    let some : bits ≡ 0 → ⊥ = eqb-false bits 0 both.0.0 in
    let lt : w.now < to = grind (arith, some) in
    made tap (taped tap w tape (Pass bits)) (pass_faults w bits taps) moved next (record { now = to; spoke = None }) reply ok
    (λ y at run.
    let b = told_at w.params.ttd w.trace w.now to 0 tap w.taps tap y (omega arith) at in
    let t = b.t in
    let running : t.running ≡ true = sym (ap (λ (z : Tap). z.running) b.is) ∙ run in
    let since : t.since ≡ y.since = sym (ap (λ (z : Tap). z.since) b.is) in
    let x = ear w.params tap t in
    let long = each_long w.now w.trace h.sound.begun in
    let heard = pass_hearing x t w.trace w.now to tape refl lt (solid_sensed w.params.ttd tap t.since w.now to w.trace long both.0.1.0) h.spelled long (h.hears t b.here running) in
    let noted : Hearing x to w.trace (taped tap w tape (Pass bits)) = subst (λ o. Hearing x to w.trace (noted_all tape (marks_told w tap bits o))) (sym b.here)
    (subst (λ c. Hearing x to w.trace (noted_all tape (if c then marks_between w.params.ttd tap t w.trace w.now to else []))) (sym running) heard) in
    subst (λ n. Hearing (record { delay = w.params.ttd; tap = tap; since = n }) to es (taped tap w tape (Pass bits))) since
    (hearing_same x to w.trace es (taped tap w tape (Pass bits)) (same_relabelled x to w.taps w.trace w.now to w.trace) noted))
step_hears w next tap tape (Damage k speaker place) reply ok h =
    let in_air = is_in_air_by w.params.ttd w.now speaker in
    let hit : Hit = record { tap = k; place = place } in
    made tap tape ((is_none (slice_get w.taps k) || is_none (slice_get w.taps speaker), NoSuchTap) ∷ (k == speaker || not (has_place (find in_air w.trace) place), NothingInAir) ∷ [])
    (record w { trace = change_first in_air (with_hit hit) w.trace }) next (record { now = w.now; spoke = None }) reply ok
    (λ t at run. hearing_same (ear w.params tap t) w.now w.trace _ tape (same_hit (ear w.params tap t) w.now in_air hit w.trace) (h.hears t at run))
step_hears w next tap tape (Start k) reply ok h = by (slice_get w.taps k) refl ok
  where
    after : Tape
    after = if k == tap then blank else tape

    by : (o : Option Tap) → slice_get w.taps k ≡ o → step_start w k o ≡ Ok (next, reply) → HearsAt tap after next
    by None at ok = absurd cc
    by (Some t) at ok =
        let y = started_tap w k t in
        made tap after ((t.running || list_any (is_in_air_by w.params.ttd w.now k) w.trace, Running) ∷ []) (record w { taps = slice_set w.taps k y }) next (record { now = w.now; spoke = None }) reply ok
        (set_hears w tap k y w.trace after
        (λ mine run. subst (λ c. Hearing (ear w.params k y) w.now w.trace (if c then blank else tape)) (sym (eq-eqb k tap mine)) (started_hears w k t))
        (λ j u ne there mine run. subst (λ c. Hearing (ear w.params j u) w.now w.trace (if c then blank else tape)) (sym (ne_eqb k tap (λ same. ne (same ∙ sym mine)))) (of_tap w tap w.trace tape h.hears j u there mine run)))
step_hears w next tap tape (Stop k) reply ok h = by (slice_get w.taps k) refl ok
  where
    by : (o : Option Tap) → slice_get w.taps k ≡ o → step_stop w k o ≡ Ok (next, reply) → HearsAt tap tape next
    by None at ok = absurd cc
    by (Some t) at ok =
        let es = map (cut_at w.now k) w.trace in
        made tap tape ((not t.running, NotRunning) ∷ []) (record w { trace = es; taps = slice_set w.taps k (halted t) }) next (record { now = w.now; spoke = None }) reply ok
        (set_hears w tap k (halted t) es tape (λ mine run. absurd (let z : false ≡ true = run in cc))
        (λ j u ne there. of_tap w tap es tape (λ v at run. let o = h.hears v at run in hearing_same (ear w.params tap v) w.now w.trace es tape (same_cut (ear w.params tap v) w.now k w.trace o.began) o) j u there))
step_hears w next tap tape (Queue k r) reply ok h = by (slice_get w.taps k) refl ok
  where
    by : (o : Option Tap) → slice_get w.taps k ≡ o → step_queue w k r o ≡ Ok (next, reply) → HearsAt tap tape next
    by None at ok = absurd cc
    by (Some t) at ok =
        let y : Tap = record t { station = pushed t.station r } in
        made tap tape ((not (t.running && t.spec.master), NotRunning) ∷ (nat_le queue_limit (length (list_for t.station.cycles.queue r)), QueueFull) ∷ []) (record w { taps = slice_set w.taps k y }) next (record { now = w.now; spoke = None }) reply ok
        (set_hears w tap k y w.trace tape (λ mine run. of_tap w tap w.trace tape h.hears k t at mine run) (λ j u ne there. of_tap w tap w.trace tape h.hears j u there))
step_hears w next tap tape (Noise bits) reply ok h =
    made tap tape ((bits == 0, ZeroTime) ∷ (not (is_noisy w) && nat_le w.limit (length w.trace), TraceFull) ∷ []) (record w { trace = with_noise w.now (w.now + bits) (is_noisy w) w.trace }) next (record { now = w.now; spoke = None }) reply ok
    (noise_hears w tap bits (is_noisy w) tape h.hears)
step_hears w next tap tape (Unheard k speaker) reply ok h =
    let begins = begins_from w.now speaker in
    made tap tape ((is_none (slice_get w.taps k) || is_none (slice_get w.taps speaker), NoSuchTap) ∷ (k == speaker || not (list_any begins w.trace), NothingInAir) ∷ [])
    (record w { trace = change_first begins (unheard_at k) w.trace }) next (record { now = w.now; spoke = None }) reply ok
    (λ t at run. hearing_same (ear w.params tap t) w.now w.trace _ tape (same_lost (ear w.params tap t) w.now k speaker w.trace) (h.hears t at run))

-- ---- along a list

step_taped : (w next : World) (tap : ℕ) (tape : Tape) (e : Event) (reply : Reply) → w.params.hsa < 127 → IsEvent e → step w e ≡ Ok (next, reply) → Taped w tap tape → Taped next tap (taped tap w tape e)
step_taped w next tap tape e reply highest is ok h = record {
  settled = settled_step w next e reply highest is ok h.settled;
  sound = subst (λ r. IsSound (world_after w r)) ok (sound-step w e is h.sound);
  spelled = step_entries SpellsOne lasting_spelled w next e reply ok (said_spells w h.settled) h.spelled;
  hears = step_hears w next tap tape e reply ok h;
}

data_hears : (w next : World) (tap k : ℕ) (tape : Tape) (unit : List ℕ) → set_data w k unit ≡ Ok next → HearsAt tap tape w → HearsAt tap tape next
data_hears w next tap k tape unit ok h =
    let d = is_set w next k unit ok in
    subst (HearsAt tap tape) d.is
    (set_hears w tap k (tap_with d.t unit) w.trace tape (λ mine run. of_tap w tap w.trace tape h k d.t d.here mine run) (λ j u ne there. of_tap w tap w.trace tape h j u there))

data_taped : (w next : World) (tap k : ℕ) (tape : Tape) (unit : List ℕ) → Fits unit → set_data w k unit ≡ Ok next → Taped w tap tape → Taped next tap tape
data_taped w next tap k tape unit fits ok h = record {
  settled = data_settled w next k unit fits ok h.settled;
  sound = data_sound w next k unit fits ok h.sound;
  spelled = subst (λ (z : World). Each SpellsOne z.trace) (is_set w next k unit ok).is h.spelled;
  hears = data_hears w next tap k tape unit ok h.hears;
}

pub acts_taped : (actions : List Action) (w next : World) (tap : ℕ) (tape : Tape) → w.params.hsa < 127 → AreActions actions → LeadsTo w actions next → Taped w tap tape → Taped next tap (taped_all_by tap w tape actions)
acts_taped [] w next tap tape highest are leads h = subst (λ z. Taped z tap tape) leads h
acts_taped (Happens e ∷ more) w next tap tape highest are leads h =
    let one = same_bus w leads.0 e leads.1.0 leads.1.1 in
    subst (λ r. Taped next tap (taped_all_by tap (world_after w r) (taped tap w tape e) more)) (sym leads.1.1)
    (acts_taped more leads.0 next tap (taped tap w tape e) (subst (λ (z : Params). z.hsa < 127) (sym one.params) highest) are.1 leads.2 (step_taped w leads.0 tap tape e leads.1.0 highest are.0 leads.1.1 h))
acts_taped (Sets k unit ∷ more) w next tap tape highest are leads h =
    let one = data_stations w leads.0 k unit leads.1 in
    subst (λ r. Taped next tap (taped_all_by tap (data_after w r) tape more)) (sym leads.1)
    (acts_taped more leads.0 next tap tape (subst (λ (z : Params). z.hsa < 127) (sym one.params) highest) are.1 leads.2 (data_taped w leads.0 tap k tape unit are.0 leads.1 h))

pub new_taped : (p : Params) (specs : List TapSpec) (w : World) (tap : ℕ) → p.hsa < 127 → AllFit specs → IsNewWorld p specs w → Taped w tap blank
new_taped p specs w tap highest fit ok =
    let new : World = record { params = p; now = 0; trace = []; taps = map (stopped_tap p) specs; limit = ok.0 } in
    let is : new ≡ w = (unless-Ok (new_faults p specs) new w ok.1).1 in
    record {
      settled = settled_new p specs w highest fit ok;
      sound = sound-new_world p specs w fit ok;
      spelled = subst (λ (z : World). Each SpellsOne z.trace) is tt;
      hears = subst (HearsAt tap blank) is (λ t at run. absurd (none_run p specs tap t at run));
    }
