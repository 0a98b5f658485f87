-- What is still to come of a stream begins once what goes has ended, if that is so of the entries that it has.
use Rattle.std.proofs.Common.{◌≡◌, ◌∙◌, ap, refl, sym, subst, arith, ℕ, ◌+◌, ◌≤◌, Bool, true, List, [], ◌∷◌, ◌++◌, Option, Some, None, Result, Ok, Err}
use Rattle.std.specs.Prelude.{◌&&◌, drop, max, nat_le}
use Rattle.std.proofs.lemmas.Bool.{and_parts, leb-true, le-leb}
use Rattle.std.proofs.lemmas.List.{append_cancel_left}
use Rattle.law_model.specs.Laws.{AllOver}
use Rattle.law_model.specs.Medium.{reaches_taps}
use Rattle.law_model.specs.Trace.{Entry, Sent, Noise, entry_begin, entry_end}
use Rattle.law_model.specs.World.{World, Event, Fault}
use Rattle.law_runs.specs.Runs.{run}
use Rattle.law_runs.specs.Scenarios.{RunFault}
use Rattle.law_streams.specs.Laws.{AllSince}
use Rattle.law_streams.specs.Limits.{stream_behind}
use Rattle.law_streams.specs.Streams.{Streamed, streamed_of, telling_bus}
use Rattle.law_streams.proofs.Followed.{stream-behind}
use Rattle.pb_medium.specs.LettingGo.{gone_of}
use Rattle.pb_medium.specs.Traces.{limit_of, over_of}
use Rattle.pb_scenario.specs.Walks.{plan_in}
use Rattle.pb_world.specs.Buses.{world_of}
use Rattle.pb_world.proofs.LettingGo.{lets-go, without}
use Rattle.pb_stream.specs.Streams.{IsStreaming, LetsGo, kept_of, past_in, rest_of}
use Rattle.pb_stream.specs.declared.streams.Stream.{Stream}
use Rattle.pb_export.specs.Waves.{are_since, latest_end}
use Rattle.pb_cli.specs.Exporting.{IsToCome}
use Rattle.pb_cli.proofs.RunKeeps.{Ends, run-keeps}
use Rattle.pb_cli.proofs.Since.{IsSince, since-step}

-- ---- moments of entries

all-since : (m : ℕ) (es : List Entry) → are_since m es ≡ true → AllSince m es
all-since m [] is = tt
all-since m (e ∷ es) is =
    let both = and_parts (nat_le m (entry_begin e)) (are_since m es) is in
    (leb-true m (entry_begin e) both.0, all-since m es both.1)

since-all : (m : ℕ) (es : List Entry) → AllSince m es → are_since m es ≡ true
since-all m [] all = refl
since-all m (e ∷ es) (here, rest) = ap (λ (b : Bool). b && are_since m es) (le-leb m (entry_begin e) here) ∙ since-all m es rest

ends-by : (delay m : ℕ) (e : Entry) → (reaches_taps delay e).end ≤ m → entry_end e ≤ m
ends-by delay m (Noise span) by = by
ends-by delay m (Sent r) by = omega (arith, by)

latest-by : (delay m last : ℕ) (es : List Entry) → last ≤ m → AllOver delay m es → latest_end last es ≤ m
latest-by delay m last [] less over = less
latest-by delay m last (e ∷ es) less (lasts, here, rest) =
    let ends = ends-by delay m e here in
    latest-by delay m (max last (entry_end e)) es (omega (arith, less, ends)) rest

-- ---- where a run ends

abbrev AllOf : ℕ → Option Streamed → Type 0
AllOf m None = Unit {0}
AllOf m (Some stream) = AllSince m stream.entries

streamed-since : (m : ℕ) (o : Option (Result (World × List Event) (ℕ × (World × Fault)))) → Ends (IsSince m) o → AllOf m (streamed_of o)
streamed-since m None is = tt
streamed-since m (Some (Ok end)) is = is.1
streamed-since m (Some (Err stop)) is = is.1

abbrev entries_in : Option Streamed → List Entry
entries_in None = []
entries_in (Some stream) = stream.entries

-- entries in front of those of a stream leave these
behind-these : (m : ℕ) (old es : List Entry) (fault : Option RunFault) (o : Option Streamed)
    → stream_behind old (Some (record { entries = es; fault = fault })) ≡ stream_behind old o → AllOf m o → AllSince m es
behind-these m old es fault None is all = absurd cc
behind-these m old es fault (Some stream) is all =
    let same : old ++ es ≡ old ++ stream.entries = ap entries_in is in
    subst (AllSince m) (sym (append_cancel_left old es stream.entries same)) all

-- ---- a stream

pub later-since : (mid next : Stream) → IsStreaming mid → LetsGo (past_in mid) mid next
    → are_since (latest_end 0 (past_in mid)) (drop (gone_of mid.bus.trace) (kept_of mid)) ≡ true
    → (later : List Entry) → IsToCome next later → are_since (latest_end 0 (past_in mid)) later ≡ true
later-since mid next ready lets kept later (fault, whole) =
    let w = world_of mid.bus in
    let t = mid.bus.trace in
    let old = past_in mid in
    let cut = latest_end 0 old in
    let p = plan_in mid.walk in
    let clock = mid.walk.clock in
    let until = mid.walk.until in
    let goes = lets-go w (over_of t) (nat_le (over_of t) (limit_of t)) refl ready.kept.cut in
    let after = without (gone_of t) w in
    let past = goes.1 in
    let here : IsSince cut after =
    (let by = latest-by w.params.ttd past.0 0 old (omega arith) past.2 in omega (arith, by, past.1), all-since cut after.trace kept) in
    let same : rest_of mid ≡ stream_behind old (streamed_of (run (until + 1) telling_bus p clock after)) =
    ap (λ (v : World). streamed_of (run (until + 1) telling_bus p clock v)) goes.0 ∙ stream-behind old after (until + 1) clock p past in
    since-all cut later
    (behind-these cut old later fault (streamed_of (run (until + 1) telling_bus p clock after))
    (ap (stream_behind old) (sym whole) ∙ sym lets.rest ∙ same)
    (streamed-since cut (run (until + 1) telling_bus p clock after) (run-keeps (IsSince cut) (since-step cut) (until + 1) p clock after here)))
